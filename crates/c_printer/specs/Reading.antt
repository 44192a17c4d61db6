-- Reading an emitted text. What goes down is bounded by a number of steps; what is read counts where it is printed as
-- the text again.
use Rattle.std.specs.Prelude.{ℕ, zero, suc, ◌+◌, ◌^◌, nat_lt, nat_le, ◌&&◌, Bool, true, false, if◌then◌else◌, ℤ, pos}
use Rattle.std.specs.Prelude.{negsuc, neg_ℤ, ◌-ℤ◌, List, [], ◌∷◌, ◌++◌, length, take, drop, slice_get, codes}
use Rattle.std.specs.Prelude.{Option, Some, None}
use Rattle.std.specs.Str.{bytes_eq}
use Rattle.whole_numbers.specs.Affine.{Affine, form_of}
use Rattle.whole_numbers.specs.Floor.{floor}
use Rattle.scop_lexer.specs.Bytes.{Text}
use Rattle.scop_syntax.specs.Tree.{Head, Program}
use Rattle.loop_tree.specs.Tree.{Bound, Bounds, only, besides, Test, at_least, equal, multiple, Tree, loop, guard}
use Rattle.loop_tree.specs.Tree.{instance, Trees, none, more}
use Rattle.form_text.specs.Reading.{strip, when, number_in_front, behind_digits, read_form}
use Rattle.c_printer.specs.Forms.{loop_name, names_in, spread}
use Rattle.scop_syntax.specs.Standings.{Standing, standings_of}
use Rattle.c_printer.specs.Naming.{iterators_of}
use Rattle.c_printer.specs.Statements.{statement_text, front_text}
use Rattle.c_printer.specs.Nodes.{indent, text_of}

-- whether 64 bits hold a number
abbrev pub is_narrow : ℤ → Bool
is_narrow (pos n) = nat_lt n (2 ^ 63)
is_narrow (negsuc n) = nat_lt n (2 ^ 63)

-- each of these
abbrev pub are_narrow : List ℤ → Bool
are_narrow [] = true
are_narrow (c ∷ cs) = is_narrow c && are_narrow cs

-- all numbers of a form
abbrev pub is_narrow_form : Affine → Bool
is_narrow_form form = is_narrow form.constant && are_narrow form.coefficients

-- a form counts where 64 bits hold its numbers
abbrev pub narrowed : Affine → Text → Option (Affine × Text)
narrowed form rest = if is_narrow_form form then Some (form, rest) else None

-- coefficients in the order of the tree, from those in the order of the text
abbrev pub turned_back : ℕ → List ℤ → List ℤ
turned_back parameters cs = drop parameters cs ++ take parameters cs

-- a form of the tree, and what stands behind it
unfoldable pub read_tree_form : ℕ → List Text → Text → Option (Affine × Text)
read_tree_form parameters names text =
    when (read_form names text) (λ r. narrowed (form_of (turned_back parameters r.0.coefficients) r.0.constant) r.1)

-- z over s, for a z that s divides; 0 over 0
abbrev pub quotient : ℤ → ℤ → ℤ
quotient (pos zero) z = pos 0
quotient (pos (suc d)) z = floor z (pos (suc d))
quotient (negsuc d) z = floor (neg_ℤ z) (pos (suc d))

-- what numbers are above others, over s
abbrev pub quotients : ℤ → List ℤ → List ℤ → List ℤ
quotients s [] zs = []
quotients s (x ∷ xs) [] = []
quotients s (x ∷ xs) (z ∷ zs) = quotient s (z -ℤ x) ∷ quotients s xs zs

-- the turn at which a loop's iterator has this form
abbrev pub turn_of : ℕ → ℕ → Head → Affine → Affine
turn_of parameters loops head form =
    form_of (turned_back parameters (take (parameters + loops)
    (quotients head.stride (spread parameters loops head.first.coefficients) form.coefficients)))
    (quotient head.stride (form.constant -ℤ head.first.constant))

-- the turn of a loop, from its iterator's form
unfoldable pub read_turn : ℕ → ℕ → List Text → Head → Text → Option (Affine × Text)
read_turn parameters loops names head text =
    when (read_form names text) (λ r. narrowed (turn_of parameters loops head r.0) r.1)

-- a form over a divisor
abbrev pub bound : Affine → ℤ → Bound
bound form d = record { form = form; divisor = d }

-- a divisor, at least 1
unfoldable pub read_divisor : Text → Option (ℤ × Text)
read_divisor text = if nat_le 1 (number_in_front 0 text) && nat_lt (number_in_front 0 text) (2 ^ 63)
    then Some (pos (number_in_front 0 text), behind_digits text) else None

-- the divisor behind a form
abbrev pub divided_bound : Affine × Text → Option (Bound × Text)
divided_bound r = when (strip (codes ", ") r.1)
    (λ t. when (read_divisor t) (λ d. when (strip (codes ")") d.1) (λ u. Some (bound r.0 d.0, u))))

-- a bound, by what stands behind the name of its division
abbrev pub bound_at : ℕ → List Text → Text → Option Text → Option (Bound × Text)
bound_at parameters names text None =
    when (read_tree_form parameters names text) (λ r. Some (bound r.0 (pos 1), r.1))
bound_at parameters names text (Some behind) = when (read_tree_form parameters names behind) divided_bound

-- a bound
unfoldable pub read_bound : Text → ℕ → List Text → Text → Option (Bound × Text)
read_bound divided parameters names text = bound_at parameters names text (strip divided text)

-- a bound that others stand behind
abbrev pub chosen_bounds : (Text → Option (Bounds × Text)) → Option (Bound × Text) → Option (Bounds × Text)
chosen_bounds again r = when r (λ b. when (strip (codes ", ") b.1)
    (λ t. when (again t) (λ bs. when (strip (codes ")") bs.1) (λ u. Some (besides b.0 bs.0, u)))))

-- bounds, by what stands behind the name of a choice
abbrev pub bounds_at : (Text → Option (Bounds × Text)) → Text → ℕ → List Text → Text → Option Text
    → Option (Bounds × Text)
bounds_at again divided parameters names text None =
    when (read_bound divided parameters names text) (λ b. Some (only b.0, b.1))
bounds_at again divided parameters names text (Some behind) =
    chosen_bounds again (read_bound divided parameters names behind)

-- bounds of one side
abbrev pub read_bounds : ℕ → Text → Text → ℕ → List Text → Text → Option (Bounds × Text)
read_bounds zero divided chosen parameters names text = None
read_bounds (suc n) divided chosen parameters names text =
    bounds_at (read_bounds n divided chosen parameters names) divided parameters names text (strip chosen text)

-- where a loop starts
unfoldable pub read_lower : ℕ → ℕ → List Text → Text → Option (Bounds × Text)
read_lower n parameters names text = read_bounds n (codes "pp_ceild(") (codes "pp_max(") parameters names text

-- where it ends
unfoldable pub read_upper : ℕ → ℕ → List Text → Text → Option (Bounds × Text)
read_upper n parameters names text = read_bounds n (codes "pp_floord(") (codes "pp_min(") parameters names text

-- what stands behind `FORM - D*pp_floord(FORM`
abbrev pub multiple_end : Affine → ℤ → Affine × Text → Option (Test × Text)
multiple_end form d g = when (strip (codes ", ") g.1)
    (λ t. when (read_divisor t) (λ e. when (strip (codes ") == 0") e.1) (λ u. Some (multiple form d, u))))

-- what stands behind `FORM - D`
abbrev pub multiple_at : ℕ → List Text → Affine → Option (ℤ × Text) → Option (Test × Text)
multiple_at parameters names form r = when r (λ d. when (strip (codes "*pp_floord(") d.1)
    (λ t. when (read_tree_form parameters names t) (multiple_end form d.0)))

-- a test, by what stands behind ` >= 0` and ` == 0`
abbrev pub test_at : ℕ → List Text → Affine → Text → Option Text → Option Text → Option (Test × Text)
test_at parameters names form text (Some behind) other = Some (at_least form, behind)
test_at parameters names form text None (Some behind) = Some (equal form, behind)
test_at parameters names form text None None =
    when (strip (codes " - ") text) (λ t. multiple_at parameters names form (read_divisor t))

-- what a test asks of its form
abbrev pub test_behind : ℕ → List Text → Affine × Text → Option (Test × Text)
test_behind parameters names r =
    test_at parameters names r.0 r.1 (strip (codes " >= 0") r.1) (strip (codes " == 0") r.1)

-- a test
unfoldable pub read_test : ℕ → List Text → Text → Option (Test × Text)
read_test parameters names text = when (read_tree_form parameters names text) (test_behind parameters names)

-- a test that others may stand behind
abbrev pub with_test : (Text → Option (List Test × Text)) → Option (Test × Text) → Option (List Test × Text)
with_test again r = when r (λ test. when (again test.1) (λ tests. Some (test.0 ∷ tests.0, tests.1)))

-- tests, by what stands behind ` && `
abbrev pub tests_at : (Text → Option (List Test × Text)) → ℕ → List Text → Text → Option Text
    → Option (List Test × Text)
tests_at again parameters names text None = Some ([], text)
tests_at again parameters names text (Some behind) = with_test again (read_test parameters names behind)

-- tests behind the first
abbrev pub read_more_tests : ℕ → ℕ → List Text → Text → Option (List Test × Text)
read_more_tests zero parameters names text = None
read_more_tests (suc n) parameters names text =
    tests_at (read_more_tests n parameters names) parameters names text (strip (codes " && ") text)

-- tests of a guard
unfoldable pub read_tests : ℕ → ℕ → List Text → Text → Option (List Test × Text)
read_tests n parameters names text = with_test (read_more_tests n parameters names) (read_test parameters names text)

-- a turn, and those of the loops within
abbrev pub with_turn : (Text → Option (List Affine × Text)) → Affine × Text → Option (List Affine × Text)
with_turn again r = when (strip (codes "; ") r.1) (λ t. when (again t) (λ q. Some (r.0 ∷ q.0, q.1)))

-- the turns of loops, from the forms of their iterators
abbrev pub read_givens : ℕ → ℕ → List Text → List Head → Text → Option (List Affine × Text)
read_givens parameters loops names [] text = Some ([], text)
read_givens parameters loops names (head ∷ heads) text = when (strip (codes "const int64_t ") text)
    (λ t. when (strip head.iterator t) (λ u. when (strip (codes " = ") u)
    (λ v. when (read_turn parameters loops names head v)
    (with_turn (read_givens parameters loops (names ++ (head.iterator ∷ [])) heads)))))

-- statement n, behind its comment
abbrev pub body_at : Program → List Text → ℕ → ℕ → Text → Option Standing → Option (Tree × Text)
body_at program names loops n text None = None
body_at program names loops n text (Some s) =
    when (read_givens (length program.parameters) loops names s.heads text)
    (λ r. when (strip (statement_text program (program.parameters ++ iterators_of s.heads) s.body) r.1)
    (λ t. when (strip (codes "; }\n") t) (λ u. Some (instance n r.0, u))))

-- statements are numbered from 1 in texts
abbrev pub instance_at : Program → List Text → ℕ → ℕ → Text → Option (Tree × Text)
instance_at program names loops zero text = None
instance_at program names loops (suc n) text =
    when (strip (codes " */ ") text) (λ t. body_at program names loops n t (slice_get (standings_of program) n))

-- an instance behind `{ /* S`
unfoldable pub read_instance : Program → List Text → ℕ → Text → Option (Tree × Text)
read_instance program names loops text =
    instance_at program names loops (number_in_front 0 text) (behind_digits text)

-- a body and its closing brace
abbrev pub closed : ℕ → (Trees → Tree) → Option (Trees × Text) → Option (Tree × Text)
closed level node r = when r (λ ts. when (strip (indent level) ts.1)
    (λ t. when (strip (codes "}\n") t) (λ u. Some (node ts.0, u))))

-- a guard behind its tests
abbrev pub guard_at : (Text → Option (Trees × Text)) → ℕ → Option (List Test × Text) → Option (Tree × Text)
guard_at body level r = when r (λ tests. when (strip (codes ") {\n") tests.1)
    (λ t. closed level (guard tests.0) (body t)))

-- a loop behind its upper bounds
abbrev pub upper_at : (Text → Option (Trees × Text)) → Bool → ℕ → Text → Bounds → Option (Bounds × Text)
    → Option (Tree × Text)
upper_at body flag level name lo r = when r (λ up. when (strip (codes "; ") up.1) (λ t. when (strip name t)
    (λ u. when (strip (codes "++) {\n") u) (λ v. closed level (loop flag lo up.0) (body v)))))

-- a loop behind its lower bounds
abbrev pub lower_at : (Text → Option (Trees × Text)) → ℕ → ℕ → List Text → Bool → ℕ → Text → Option (Bounds × Text)
    → Option (Tree × Text)
lower_at body n parameters names flag level name r = when r (λ lo. when (strip (codes "; ") lo.1)
    (λ t. when (strip name t) (λ u. when (strip (codes " <= ") u)
    (λ v. upper_at body flag level name lo.0 (read_upper n parameters names v)))))

-- a loop behind `for (int64_t `
unfoldable pub read_loop : (Text → Option (Trees × Text)) → ℕ → ℕ → List Text → Bool → ℕ → Text → Text
    → Option (Tree × Text)
read_loop body n parameters names flag level name text = when (strip name text) (λ t. when (strip (codes " = ") t)
    (λ u. lower_at body n parameters names flag level name (read_lower n parameters names u)))

-- a node by what stands in front: a pragma, `for`, `if` or a brace
abbrev pub node_at : (ℕ → ℕ → Text → Option (Trees × Text)) → Program → ℕ → ℕ → ℕ
    → Option Text → Option Text → Option Text → Option Text → Option (Tree × Text)
node_at body program n level loops (Some t) b c d = when (strip (indent level) t)
    (λ u. when (strip (codes "for (int64_t ") u)
    (λ v. read_loop (body (suc level) (suc loops)) n (length program.parameters) (names_in program.parameters loops)
    true level (loop_name loops) v))
node_at body program n level loops None (Some t) c d =
    read_loop (body (suc level) (suc loops)) n (length program.parameters) (names_in program.parameters loops) false
    level (loop_name loops) t
node_at body program n level loops None None (Some t) d =
    guard_at (body (suc level) loops) level
    (read_tests n (length program.parameters) (names_in program.parameters loops) t)
node_at body program n level loops None None None (Some t) =
    read_instance program (names_in program.parameters loops) loops t
node_at body program n level loops None None None None = None

-- a node
abbrev pub read_node : (ℕ → ℕ → Text → Option (Trees × Text)) → Program → ℕ → ℕ → ℕ → Text → Option (Tree × Text)
read_node body program n level loops text =
    node_at body program n level loops (strip (codes "#pragma omp parallel for\n") text)
    (strip (codes "for (int64_t ") text) (strip (codes "if (") text) (strip (codes "{ /* S") text)

-- a node and those behind it
abbrev pub with_node : (Text → Option (Trees × Text)) → Option (Tree × Text) → Option (Trees × Text)
with_node again r = when r (λ t. when (again t.1) (λ ts. Some (more t.0 ts.0, ts.1)))

-- nodes while the indentation is theirs
abbrev pub nodes_at : (ℕ → ℕ → Text → Option (Trees × Text)) → Program → ℕ → ℕ → ℕ → Text → Option Text
    → Option (Trees × Text)
nodes_at again program n level loops text None = Some (none, text)
nodes_at again program n level loops text (Some t) =
    with_node (again level loops) (read_node again program n level loops t)

-- nodes, in so many steps
abbrev pub read_nodes : Program → ℕ → ℕ → ℕ → Text → Option (Trees × Text)
read_nodes program zero level loops text = None
read_nodes program (suc n) level loops text =
    nodes_at (read_nodes program n) program n level loops text (strip (indent level) text)

-- what was read, where it is printed as the text
abbrev pub printed_as : Program → Text → Trees × Text → Option Trees
printed_as program text r = if bytes_eq (text_of program r.0) text then Some r.0 else None

-- the tree of a text
abbrev pub read_text : Program → Text → Option Trees
read_text program text = when (strip (front_text program) text)
    (λ t. when (read_nodes program (suc (length text)) 1 0 t) (printed_as program text))
