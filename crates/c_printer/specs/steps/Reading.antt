-- The reading of an emitted text step by step, as the code goes.
use Rattle.std.specs.Prelude.{ℕ, zero, suc, ◌+◌, ◌^◌, nat_lt, ℤ, ◌-ℤ◌, Bool, true, List, [], ◌∷◌, ◌++◌, length, take}
use Rattle.std.specs.Prelude.{codes, if◌then◌else◌, Option, Some, None}
use Rattle.whole_numbers.specs.Affine.{Affine, form_of}
use Rattle.scop_lexer.specs.Bytes.{Text}
use Rattle.scop_syntax.specs.Tree.{Head, Program}
use Rattle.loop_tree.specs.Tree.{Bound, Bounds, only, besides, Test, Tree, loop, guard, instance, Trees, more}
use Rattle.form_text.specs.Reading.{strip, when}
use Rattle.c_printer.specs.Forms.{loop_name, names_in, spread}
use Rattle.c_printer.specs.Nodes.{indent}
use Rattle.scop_syntax.specs.Standings.{Standing}
use Rattle.c_printer.specs.Naming.{iterators_of}
use Rattle.c_printer.specs.Statements.{statement_text}
use Rattle.c_printer.specs.Reading.{is_narrow, turned_back, quotient, quotients, read_turn, read_lower, read_upper}
use Rattle.c_printer.specs.Reading.{read_tests}
use Rattle.c_printer.specs.steps.View.{Line, line}

-- a number, where 64 bits hold it
abbrev pub narrow : ℤ → Option ℤ
narrow z = if is_narrow z then Some z else None

-- numbers, where 64 bits hold each
abbrev pub narrow_list : List ℤ → Option (List ℤ)
narrow_list [] = Some []
narrow_list (c ∷ cs) = when (narrow c) (λ n. when (narrow_list cs) (λ ns. Some (n ∷ ns)))

-- a form of the tree of such numbers in the order of the text
abbrev pub form_from : ℕ → Option (List ℤ) → Option ℤ → Text → Option (Affine × Text)
form_from parameters cs constant rest =
    when cs (λ ns. when constant (λ n. Some (form_of (turned_back parameters ns) n, rest)))

-- the turn at which a loop's iterator has this form, where 64 bits hold its numbers
unfoldable pub turn_from : ℕ → ℕ → Head → Affine → Text → Option (Affine × Text)
turn_from parameters loops head form rest =
    form_from parameters
    (narrow_list (take (parameters + loops)
    (quotients head.stride (spread parameters loops head.first.coefficients) form.coefficients)))
    (narrow (quotient head.stride (form.constant -ℤ head.first.constant))) rest

-- what stands behind a text between two others
abbrev pub behind_between : Text → Text → Text → Text → Option Text
behind_between front middle end text = when (strip front text) (λ t. when (strip middle t) (strip end))

-- a bound behind which others stand
abbrev pub chosen_bound : Option (Bound × Text) → Option (Bound × Text)
chosen_bound r = when r (λ b. when (strip (codes ", ") b.1) (λ t. Some (b.0, t)))

-- the last bound, if it was read
abbrev pub last_bound : Option (Bound × Text) → Option (Bounds × Text)
last_bound r = when r (λ b. Some (only b.0, b.1))

-- bounds behind one, whose choice a parenthesis closes
abbrev pub with_bound : Bound → Option (Bounds × Text) → Option (Bounds × Text)
with_bound b r = when r (λ bs. when (strip (codes ")") bs.1) (λ u. Some (besides b bs.0, u)))

-- bounds behind others, each choice closed
abbrev pub closed_bounds : List Bound → Option (Bounds × Text) → Option (Bounds × Text)
closed_bounds [] r = r
closed_bounds (b ∷ bs) r = with_bound b (closed_bounds bs r)

-- bounds in front of others
abbrev pub all_bounds : List Bound → Bounds → Bounds
all_bounds [] xs = xs
all_bounds (b ∷ bs) xs = besides b (all_bounds bs xs)

-- the end of an iterator's definition
abbrev pub given_end : Affine × Text → Option (Affine × Text)
given_end r = when (strip (codes "; ") r.1) (λ t. Some (r.0, t))

-- the turn of a loop of the source, by its iterator's definition
abbrev pub read_given : ℕ → ℕ → List Text → Head → Text → Option (Affine × Text)
read_given parameters loops names head text =
    when (behind_between (codes "const int64_t ") head.iterator (codes " = ") text)
    (λ t. when (read_turn parameters loops names head t) given_end)

-- the statement of an instance, and the end of its line
abbrev pub body_end : Program → ℕ → Standing → List Affine × Text → Option (Tree × Text)
body_end program n s r = when (strip (statement_text program (program.parameters ++ iterators_of s.heads) s.body) r.1)
    (λ t. when (strip (codes "; }\n") t) (λ u. Some (instance n r.0, u)))

-- the place of a statement whose number counts from 1
abbrev pub place_of : ℕ → Option ℕ
place_of zero = None
place_of (suc n) = if nat_lt n (2 ^ 64) then Some n else None

-- a loop's line behind its upper bounds
abbrev pub upper_end : Text → Bool → Bounds → Option (Bounds × Text) → Option (Line × Text)
upper_end name flag lo r =
    when r (λ up. when (behind_between (codes "; ") name (codes "++) {\n") up.1) (λ t. Some (line flag lo up.0, t)))

-- behind its lower bounds
abbrev pub lower_end : ℕ → ℕ → List Text → Text → Bool → Option (Bounds × Text) → Option (Line × Text)
lower_end n parameters names name flag r =
    when r (λ lo. when (behind_between (codes "; ") name (codes " <= ") lo.1)
    (λ t. upper_end name flag lo.0 (read_upper n parameters names t)))

-- behind `for (int64_t `
abbrev pub read_line : ℕ → ℕ → List Text → Text → Bool → Text → Option (Line × Text)
read_line n parameters names name flag text = when (strip name text)
    (λ t. when (strip (codes " = ") t) (λ u. lower_end n parameters names name flag (read_lower n parameters names u)))

-- a body and its closing brace
abbrev pub closed_body : ℕ → Option (Trees × Text) → Option (Trees × Text)
closed_body level r = when r (λ ts. when (strip (indent level) ts.1)
    (λ t. when (strip (codes "}\n") t) (λ u. Some (ts.0, u))))

-- a node of a body that is closed
abbrev pub closed_as : (Trees → Tree) → Option (Trees × Text) → Option (Tree × Text)
closed_as node r = when r (λ b. Some (node b.0, b.1))

-- a loop, from its line and its body
unfoldable pub loop_from : (Text → Option (Trees × Text)) → ℕ → Option (Line × Text) → Option (Tree × Text)
loop_from body level r =
    when r (λ h. closed_as (loop h.0.parallel h.0.lower h.0.upper) (closed_body level (body h.1)))

-- the tests of a guard, and the end of its line
abbrev pub read_condition : ℕ → ℕ → List Text → Text → Option (List Test × Text)
read_condition n parameters names text =
    when (read_tests n parameters names text) (λ r. when (strip (codes ") {\n") r.1) (λ t. Some (r.0, t)))

-- a guard, from its tests and its body
unfoldable pub guard_from : (Text → Option (Trees × Text)) → ℕ → Option (List Test × Text) → Option (Tree × Text)
guard_from body level r = when r (λ tests. closed_as (guard tests.0) (closed_body level (body tests.1)))

-- a parallel loop behind its pragma
unfoldable pub parallel_from : (ℕ → ℕ → Text → Option (Trees × Text)) → Program → ℕ → ℕ → ℕ → Text
    → Option (Tree × Text)
parallel_from body program n level loops text = when (strip (indent level) text)
    (λ u. when (strip (codes "for (int64_t ") u)
    (λ v. loop_from (body (suc level) (suc loops)) level (read_line n (length program.parameters)
    (names_in program.parameters loops) (loop_name loops) true v)))

-- trees in front of others
abbrev pub trees_before : List Tree → Trees → Trees
trees_before [] ts = ts
trees_before (t ∷ us) ts = more t (trees_before us ts)
