-- Reading an emitted text step by step: what goes on behind one step goes on behind two (`deeper`), bounds and tests
-- one by one, nodes by their fronts.
use Rattle.scop_syntax.proofs.Common.{◌≡◌, ◌∙◌, ap, ap₂, sym, refl, ℕ, suc, ◌+◌, ◌-◌, ◌<◌, ◌≤◌, Bool, true, false, List}
use Rattle.scop_syntax.proofs.Common.{[], ◌∷◌, ◌++◌, length, append-nil, arith, ◌==◌, Option, Some, None, if◌then◌else◌}
use Rattle.scop_syntax.proofs.Common.{codes, Affine, Head, Program}
use Rattle.std.proofs.lemmas.List.{append_assoc}
use Rattle.scop_lexer.specs.Bytes.{Text}
use Rattle.loop_tree.specs.Tree.{Bound, Bounds, Test, Tree, loop, guard, Trees, none, more}
use Rattle.loop_tree.specs.View.{trees_of}
use Rattle.form_text.specs.Reading.{strip, when}
use Rattle.c_printer.specs.Forms.{loop_name, names_in}
use Rattle.c_printer.specs.Nodes.{indent, repeated}
use Rattle.c_printer.specs.Reading.{read_lower, read_upper, chosen_bounds, read_bounds, with_test, tests_at}
use Rattle.c_printer.specs.Reading.{read_bound, bounds_at, read_test, read_more_tests, closed, guard_at, upper_at}
use Rattle.c_printer.specs.Reading.{lower_at, read_loop, read_tests, node_at, read_node, with_node}
use Rattle.c_printer.specs.Reading.{nodes_at}
use Rattle.c_printer.specs.Reading.{read_nodes, read_turn, read_givens}
use Rattle.c_printer.specs.steps.View.{line, Line}
use Rattle.c_printer.specs.steps.Reading.{behind_between, chosen_bound, last_bound, with_bound, closed_bounds}
use Rattle.c_printer.specs.steps.Reading.{upper_end, lower_end, read_line, loop_from, read_condition, closed_as}
use Rattle.c_printer.specs.steps.Reading.{closed_body, guard_from, parallel_from, trees_before}
use Rattle.c_printer.specs.steps.Reading.{given_end, read_given}
use Rattle.c_printer.proofs.PutTexts.{repeated_ahead}

-- what goes on behind one step goes on behind two
pub deeper : {A B C : Type 0} (o : Option A) (f : A → Option B) (g : B → Option C) (h : A → Option C)
    → ((a : A) → h a ≡ when (f a) g) → when o h ≡ when (when o f) g
deeper None f g h e = refl
deeper (Some a) f g h e = e a

-- given bytes in two parts, and many times
pub strip_both : (a b text : Text) → strip (a ++ b) text ≡ when (strip a text) (strip b)
strip_both [] b text = refl
strip_both (p ∷ a) b [] = refl
strip_both (p ∷ a) b (c ∷ text) = at (p == c) (strip_both a b text)
  where
    at : (t : Bool) → strip (a ++ b) text ≡ when (strip a text) (strip b)
        → (if t then strip (a ++ b) text else None) ≡ when (if t then strip a text else None) (strip b)
    at true h = h
    at false h = refl

strip_ahead : (piece rest : Text) (n i : ℕ) → i < n
    → strip (repeated piece (n - i)) rest ≡ when (strip piece rest) (strip (repeated piece (n - (i + 1))))
strip_ahead piece rest n i h =
    ap (λ (t : Text). strip t rest) (repeated_ahead piece n i h)
    ∙ strip_both piece (repeated piece (n - (i + 1))) rest

pub strip_more : (piece rest next : Text) (n i : ℕ) (whole : Option Text) → i < n → Some next ≡ strip piece rest
    → strip (repeated piece (n - i)) rest ≡ whole → strip (repeated piece (n - (i + 1))) next ≡ whole
strip_more piece rest next n i whole h e so_far =
    ap (λ o. when o (strip (repeated piece (n - (i + 1))))) e ∙ (sym (strip_ahead piece rest n i h) ∙ so_far)

pub strip_stops : (piece rest : Text) (n i : ℕ) (whole : Option Text) → i < n → None ≡ strip piece rest
    → strip (repeated piece (n - i)) rest ≡ whole → None ≡ whole
strip_stops piece rest n i whole h e so_far =
    ap (λ o. when o (strip (repeated piece (n - (i + 1))))) e ∙ (sym (strip_ahead piece rest n i h) ∙ so_far)

pub ruleset stripped_repeatedly = (strip_more, strip_stops)

-- a text between two others
between_read : {B : Type 0} (front middle end text : Text) (f : Text → Option B)
    → when (strip front text) (λ t. when (strip middle t) (λ u. when (strip end u) f))
    ≡ when (behind_between front middle end text) f
between_read front middle end text f =
    deeper (strip front text) (λ t. when (strip middle t) (strip end)) f _
    (λ t. deeper (strip middle t) (strip end) f _ (λ u. refl))

-- what was read so far, in front of what is still read
abbrev pub parts_before : {A : Type 0} → List A → Option (List A × Text) → Option (List A × Text)
parts_before parts r = when r (λ q. Some (parts ++ q.0, q.1))

part_more : {A : Type 0} (parts : List A) (part : A) (r : Option (List A × Text))
    → parts_before (parts ++ part ∷ []) r ≡ parts_before parts (parts_before (part ∷ []) r)
part_more parts part None = refl
part_more parts part (Some q) = ap (λ ps. Some (ps, q.1)) (append_assoc parts (part ∷ []) q.0)

-- a turn in front of those of the heads behind
given_goes : (parameters loops : ℕ) (names : List Text) (head : Head) (heads : List Head) (text : Text)
    → read_givens parameters loops names (head ∷ heads) text
    ≡ when (read_given parameters loops names head text)
    (λ r. parts_before (r.0 ∷ []) (read_givens parameters loops (names ++ head.iterator ∷ []) heads r.1))
given_goes parameters loops names head heads text =
    let again = read_givens parameters loops (names ++ head.iterator ∷ []) heads in
    let goes : Affine × Text → Option (List Affine × Text) = λ r. parts_before (r.0 ∷ []) (again r.1) in
    between_read (codes "const int64_t ") head.iterator (codes " = ") text _
    ∙ deeper (behind_between (codes "const int64_t ") head.iterator (codes " = ") text)
    (λ t. when (read_turn parameters loops names head t) given_end) goes _
    (λ t. deeper (read_turn parameters loops names head t) given_end goes _
    (λ r. deeper (strip (codes "; ") r.1) (λ u. Some (r.0, u)) goes _ (λ u. refl)))

pub givens_more : (parameters loops : ℕ) (names next_names : List Text) (head : Head) (here behind : List Head)
    (turns next : List Affine) (turn : Affine) (text rest : Text) (whole : Option (List Affine × Text))
    → here ≡ head ∷ behind → next_names ≡ names ++ head.iterator ∷ [] → next ≡ turns ++ turn ∷ []
    → Some (turn, rest) ≡ read_given parameters loops names head text
    → parts_before turns (read_givens parameters loops names here text) ≡ whole
    → parts_before next (read_givens parameters loops next_names behind rest) ≡ whole
givens_more parameters loops names next_names head here behind turns next turn text rest whole e named pushed is so_far =
    let more_names = names ++ head.iterator ∷ [] in
    ap₂ (λ (ts : List Affine) (ns : List Text). parts_before ts (read_givens parameters loops ns behind rest)) pushed
    named
    ∙ (part_more turns turn (read_givens parameters loops more_names behind rest)
    ∙ (ap (λ (o : Option (Affine × Text)). parts_before turns (when o
    (λ r. parts_before (r.0 ∷ []) (read_givens parameters loops more_names behind r.1)))) is
    ∙ (ap (parts_before turns) (sym (given_goes parameters loops names head behind text))
    ∙ (ap (λ (hs : List Head). parts_before turns (read_givens parameters loops names hs text)) (sym e) ∙ so_far))))

pub givens_done : (parameters loops : ℕ) (names : List Text) (here : List Head) (turns : List Affine) (text : Text)
    (whole : Option (List Affine × Text)) → here ≡ []
    → parts_before turns (read_givens parameters loops names here text) ≡ whole → Some (turns, text) ≡ whole
givens_done parameters loops names here turns text whole e so_far =
    ap (λ (ts : List Affine). Some (ts, text)) (sym (append-nil turns))
    ∙ (ap (λ (hs : List Head). parts_before turns (read_givens parameters loops names hs text)) (sym e) ∙ so_far)

-- a bound behind which others stand, and those
chosen_read : (again : Text → Option (Bounds × Text)) (r : Option (Bound × Text))
    → chosen_bounds again r ≡ when (chosen_bound r) (λ b. with_bound b.0 (again b.1))
chosen_read again r =
    let goes : Bound × Text → Option (Bounds × Text) = λ b. with_bound b.0 (again b.1) in
    deeper r (λ b. when (strip (codes ", ") b.1) (λ t. Some (b.0, t))) goes _
    (λ b. deeper (strip (codes ", ") b.1) (λ t. Some (b.0, t)) goes _ (λ t. refl))

bounds_one_more : (bs : List Bound) (b : Bound) (r : Option (Bounds × Text))
    → closed_bounds (bs ++ b ∷ []) r ≡ closed_bounds bs (with_bound b r)
bounds_one_more [] b r = refl
bounds_one_more (c ∷ bs) b r = ap (with_bound c) (bounds_one_more bs b r)

pub nothing_closed : (bs : List Bound) → closed_bounds bs None ≡ None
nothing_closed [] = refl
nothing_closed (b ∷ bs) = ap (with_bound b) (nothing_closed bs)

bounds_ahead : (n i : ℕ) (divided chosen : Text) (parameters : ℕ) (names : List Text) (text behind : Text) → i < n
    → Some behind ≡ strip chosen text
    → read_bounds (n - i) divided chosen parameters names text
    ≡ when (chosen_bound (read_bound divided parameters names behind))
    (λ b. with_bound b.0 (read_bounds (n - (i + 1)) divided chosen parameters names b.1))
bounds_ahead n i divided chosen parameters names text behind h e =
    let again = read_bounds (n - (i + 1)) divided chosen parameters names in
    let fewer : n - i ≡ suc (n - (i + 1)) = omega (arith, h) in
    ap (λ k. read_bounds k divided chosen parameters names text) fewer
    ∙ (ap (bounds_at again divided parameters names text) (sym e)
    ∙ chosen_read again (read_bound divided parameters names behind))

pub bounds_more : (n i : ℕ) (divided chosen : Text) (parameters : ℕ) (names : List Text) (bs next : List Bound)
    (b : Bound) (text behind rest : Text) (whole : Option (Bounds × Text)) → i < n → Some behind ≡ strip chosen text
    → next ≡ bs ++ b ∷ [] → Some (b, rest) ≡ chosen_bound (read_bound divided parameters names behind)
    → closed_bounds bs (read_bounds (n - i) divided chosen parameters names text) ≡ whole
    → closed_bounds next (read_bounds (n - (i + 1)) divided chosen parameters names rest) ≡ whole
bounds_more n i divided chosen parameters names bs next b text behind rest whole h e pushed is so_far =
    let again = read_bounds (n - (i + 1)) divided chosen parameters names in
    ap (λ (t : List Bound). closed_bounds t (again rest)) pushed
    ∙ (bounds_one_more bs b (again rest)
    ∙ (ap (λ o. closed_bounds bs (when o (λ (c : Bound × Text). with_bound c.0 (again c.1)))) is
    ∙ (ap (closed_bounds bs) (sym (bounds_ahead n i divided chosen parameters names text behind h e)) ∙ so_far)))

pub bounds_stop : (n i : ℕ) (divided chosen : Text) (parameters : ℕ) (names : List Text) (bs : List Bound)
    (text behind : Text) (whole : Option (Bounds × Text)) → i < n → Some behind ≡ strip chosen text
    → None ≡ chosen_bound (read_bound divided parameters names behind)
    → closed_bounds bs (read_bounds (n - i) divided chosen parameters names text) ≡ whole → None ≡ whole
bounds_stop n i divided chosen parameters names bs text behind whole h e is so_far =
    let again = read_bounds (n - (i + 1)) divided chosen parameters names in
    sym (nothing_closed bs)
    ∙ (ap (λ o. closed_bounds bs (when o (λ (c : Bound × Text). with_bound c.0 (again c.1)))) is
    ∙ (ap (closed_bounds bs) (sym (bounds_ahead n i divided chosen parameters names text behind h e)) ∙ so_far))

pub bounds_last : (n i : ℕ) (divided chosen : Text) (parameters : ℕ) (names : List Text) (bs : List Bound)
    (text : Text) (whole : Option (Bounds × Text)) → i < n → None ≡ strip chosen text
    → closed_bounds bs (read_bounds (n - i) divided chosen parameters names text) ≡ whole
    → closed_bounds bs (last_bound (read_bound divided parameters names text)) ≡ whole
bounds_last n i divided chosen parameters names bs text whole h e so_far =
    let again = read_bounds (n - (i + 1)) divided chosen parameters names in
    let fewer : n - i ≡ suc (n - (i + 1)) = omega (arith, h) in
    ap (λ o. closed_bounds bs (bounds_at again divided parameters names text o)) e
    ∙ (ap (λ k. closed_bounds bs (read_bounds k divided chosen parameters names text)) (sym fewer) ∙ so_far)

pub bounds_spent : (n i : ℕ) (divided chosen : Text) (parameters : ℕ) (names : List Text) (bs : List Bound)
    (text : Text) (whole : Option (Bounds × Text)) → n ≤ i
    → closed_bounds bs (read_bounds (n - i) divided chosen parameters names text) ≡ whole → None ≡ whole
bounds_spent n i divided chosen parameters names bs text whole h so_far =
    let none : n - i ≡ 0 = omega (arith, h) in
    sym (nothing_closed bs)
    ∙ (ap (λ k. closed_bounds bs (read_bounds k divided chosen parameters names text)) (sym none) ∙ so_far)

-- tests behind others
tests_ahead : (n i parameters : ℕ) (names : List Text) (text behind : Text) → i < n
    → Some behind ≡ strip (codes " && ") text
    → read_more_tests (n - i) parameters names text
    ≡ with_test (read_more_tests (n - (i + 1)) parameters names) (read_test parameters names behind)
tests_ahead n i parameters names text behind h e =
    let fewer : n - i ≡ suc (n - (i + 1)) = omega (arith, h) in
    ap (λ k. read_more_tests k parameters names text) fewer
    ∙ ap (tests_at (read_more_tests (n - (i + 1)) parameters names) parameters names text) (sym e)

pub tests_more : (n i parameters : ℕ) (names : List Text) (tests next : List Test) (test : Test)
    (text behind rest : Text) (whole : Option (List Test × Text)) → i < n → Some behind ≡ strip (codes " && ") text
    → next ≡ tests ++ test ∷ [] → Some (test, rest) ≡ read_test parameters names behind
    → parts_before tests (read_more_tests (n - i) parameters names text) ≡ whole
    → parts_before next (read_more_tests (n - (i + 1)) parameters names rest) ≡ whole
tests_more n i parameters names tests next test text behind rest whole h e pushed is so_far =
    let again = read_more_tests (n - (i + 1)) parameters names in
    ap (λ (t : List Test). parts_before t (again rest)) pushed
    ∙ (part_more tests test (again rest)
    ∙ (ap (λ o. parts_before tests (with_test again o)) is
    ∙ (ap (parts_before tests) (sym (tests_ahead n i parameters names text behind h e)) ∙ so_far)))

pub tests_stop : (n i parameters : ℕ) (names : List Text) (tests : List Test) (text behind : Text)
    (whole : Option (List Test × Text)) → i < n → Some behind ≡ strip (codes " && ") text
    → None ≡ read_test parameters names behind
    → parts_before tests (read_more_tests (n - i) parameters names text) ≡ whole → None ≡ whole
tests_stop n i parameters names tests text behind whole h e is so_far =
    ap (λ o. parts_before tests (with_test (read_more_tests (n - (i + 1)) parameters names) o)) is
    ∙ (ap (parts_before tests) (sym (tests_ahead n i parameters names text behind h e)) ∙ so_far)

pub tests_end : (n i parameters : ℕ) (names : List Text) (tests : List Test) (text : Text)
    (whole : Option (List Test × Text)) → i < n → None ≡ strip (codes " && ") text
    → parts_before tests (read_more_tests (n - i) parameters names text) ≡ whole → Some (tests, text) ≡ whole
tests_end n i parameters names tests text whole h e so_far =
    let again = read_more_tests (n - (i + 1)) parameters names in
    let fewer : n - i ≡ suc (n - (i + 1)) = omega (arith, h) in
    ap (λ (ts : List Test). Some (ts, text)) (sym (append-nil tests))
    ∙ (ap (λ o. parts_before tests (tests_at again parameters names text o)) e
    ∙ (ap (λ k. parts_before tests (read_more_tests k parameters names text)) (sym fewer) ∙ so_far))

-- a body, and the node that it closes
closed_is : (level : ℕ) (node : Trees → Tree) (r : Option (Trees × Text))
    → closed level node r ≡ closed_as node (closed_body level r)
closed_is level node r =
    let goes : Trees × Text → Option (Tree × Text) = λ b. Some (node b.0, b.1) in
    deeper r (λ ts. when (strip (indent level) ts.1) (λ t. when (strip (codes "}\n") t) (λ u. Some (ts.0, u)))) goes _
    (λ ts. deeper (strip (indent level) ts.1) (λ t. when (strip (codes "}\n") t) (λ u. Some (ts.0, u))) goes _
    (λ t. deeper (strip (codes "}\n") t) (λ u. Some (ts.0, u)) goes _ (λ u. refl)))

-- a loop by its line
upper_read : (body : Text → Option (Trees × Text)) (flag : Bool) (level : ℕ) (name : Text) (lo : Bounds)
    (r : Option (Bounds × Text))
    → upper_at body flag level name lo r ≡ loop_from body level (upper_end name flag lo r)
unfolding loop_from
upper_read body flag level name lo r =
    let goes : Line × Text → Option (Tree × Text) =
    λ h. closed_as (loop h.0.parallel h.0.lower h.0.upper) (closed_body level (body h.1)) in
    deeper r (λ up. when (behind_between (codes "; ") name (codes "++) {\n") up.1) (λ t. Some (line flag lo up.0, t)))
    goes _
    (λ up. between_read (codes "; ") name (codes "++) {\n") up.1 (λ v. closed level (loop flag lo up.0) (body v))
    ∙ deeper (behind_between (codes "; ") name (codes "++) {\n") up.1) (λ t. Some (line flag lo up.0, t)) goes _
    (λ t. closed_is level (loop flag lo up.0) (body t)))

lower_read : (body : Text → Option (Trees × Text)) (n parameters : ℕ) (names : List Text) (flag : Bool) (level : ℕ)
    (name : Text) (r : Option (Bounds × Text))
    → lower_at body n parameters names flag level name r
    ≡ loop_from body level (lower_end n parameters names name flag r)
unfolding loop_from
lower_read body n parameters names flag level name r =
    let goes : Line × Text → Option (Tree × Text) =
    λ h. closed_as (loop h.0.parallel h.0.lower h.0.upper) (closed_body level (body h.1)) in
    deeper r (λ lo. when (behind_between (codes "; ") name (codes " <= ") lo.1)
    (λ t. upper_end name flag lo.0 (read_upper n parameters names t))) goes _
    (λ lo. between_read (codes "; ") name (codes " <= ") lo.1
    (λ v. upper_at body flag level name lo.0 (read_upper n parameters names v))
    ∙ deeper (behind_between (codes "; ") name (codes " <= ") lo.1)
    (λ t. upper_end name flag lo.0 (read_upper n parameters names t)) goes _
    (λ t. upper_read body flag level name lo.0 (read_upper n parameters names t)))

loop_read : (body : Text → Option (Trees × Text)) (n parameters : ℕ) (names : List Text) (flag : Bool) (level : ℕ)
    (name text : Text)
    → read_loop body n parameters names flag level name text
    ≡ loop_from body level (read_line n parameters names name flag text)
unfolding loop_from read_loop
loop_read body n parameters names flag level name text =
    let goes : Line × Text → Option (Tree × Text) =
    λ h. closed_as (loop h.0.parallel h.0.lower h.0.upper) (closed_body level (body h.1)) in
    deeper (strip name text) (λ t. when (strip (codes " = ") t)
    (λ u. lower_end n parameters names name flag (read_lower n parameters names u))) goes _
    (λ t. deeper (strip (codes " = ") t)
    (λ u. lower_end n parameters names name flag (read_lower n parameters names u)) goes _
    (λ u. lower_read body n parameters names flag level name (read_lower n parameters names u)))

-- a guard by its tests
guard_read : (body : Text → Option (Trees × Text)) (n parameters level : ℕ) (names : List Text) (text : Text)
    → guard_at body level (read_tests n parameters names text)
    ≡ guard_from body level (read_condition n parameters names text)
unfolding guard_from
guard_read body n parameters level names text =
    let goes : List Test × Text → Option (Tree × Text) =
    λ r. closed_as (guard r.0) (closed_body level (body r.1)) in
    deeper (read_tests n parameters names text) (λ r. when (strip (codes ") {\n") r.1) (λ t. Some (r.0, t))) goes _
    (λ r. deeper (strip (codes ") {\n") r.1) (λ t. Some (r.0, t)) goes _ (λ t. closed_is level (guard r.0) (body t)))

-- nodes by their fronts
same : {A B : Type 0} (o : Option A) (f g : A → Option B) → ((a : A) → f a ≡ g a) → when o f ≡ when o g
same None f g e = refl
same (Some a) f g e = e a

pub parallel_node : (body : ℕ → ℕ → Text → Option (Trees × Text)) (program : Program) (n level loops : ℕ)
    (text behind : Text) → Some behind ≡ strip (codes "#pragma omp parallel for\n") text
    → parallel_from body program n level loops behind ≡ read_node body program n level loops text
unfolding parallel_from
parallel_node body program n level loops text behind e =
    let p = length program.parameters in
    let names = names_in program.parameters loops in
    same (strip (indent level) behind) _ _
    (λ u. same (strip (codes "for (int64_t ") u) _ _
    (λ v. sym (loop_read (body (suc level) (suc loops)) n p names true level (loop_name loops) v)))
    ∙ ap (λ o. node_at body program n level loops o (strip (codes "for (int64_t ") text) (strip (codes "if (") text)
    (strip (codes "{ /* S") text)) e

pub loop_node : (body : ℕ → ℕ → Text → Option (Trees × Text)) (program : Program) (n level loops : ℕ)
    (text behind : Text) → None ≡ strip (codes "#pragma omp parallel for\n") text
    → Some behind ≡ strip (codes "for (int64_t ") text
    → loop_from (body (suc level) (suc loops)) level (read_line n (length program.parameters)
    (names_in program.parameters loops) (loop_name loops) false behind)
    ≡ read_node body program n level loops text
loop_node body program n level loops text behind a b =
    let rest : Option Text → Option Text → Option (Tree × Text) =
    λ o p. node_at body program n level loops o p (strip (codes "if (") text) (strip (codes "{ /* S") text) in
    sym (loop_read (body (suc level) (suc loops)) n (length program.parameters) (names_in program.parameters loops)
    false level (loop_name loops) behind)
    ∙ ap₂ rest a b

pub guard_node : (body : ℕ → ℕ → Text → Option (Trees × Text)) (program : Program) (n level loops : ℕ)
    (text behind : Text) → None ≡ strip (codes "#pragma omp parallel for\n") text
    → None ≡ strip (codes "for (int64_t ") text → Some behind ≡ strip (codes "if (") text
    → guard_from (body (suc level) loops) level (read_condition n (length program.parameters)
    (names_in program.parameters loops) behind)
    ≡ read_node body program n level loops text
guard_node body program n level loops text behind a b c =
    sym (guard_read (body (suc level) loops) n (length program.parameters) level (names_in program.parameters loops)
    behind)
    ∙ (ap (λ q. node_at body program n level loops None None q (strip (codes "{ /* S") text)) c
    ∙ ap₂ (λ (o p : Option Text). node_at body program n level loops o p (strip (codes "if (") text)
    (strip (codes "{ /* S") text)) a b)

-- nodes in front of others
abbrev pub nodes_before : List Tree → Option (Trees × Text) → Option (Trees × Text)
nodes_before ts r = when r (λ q. Some (trees_before ts q.0, q.1))

trees_one_more : (ts : List Tree) (t : Tree) (us : Trees) → trees_before (ts ++ t ∷ []) us ≡ trees_before ts (more t us)
trees_one_more [] t us = refl
trees_one_more (s ∷ ts) t us = ap (more s) (trees_one_more ts t us)

trees_alone : (ts : List Tree) → trees_of ts ≡ trees_before ts none
trees_alone [] = refl
trees_alone (t ∷ ts) = ap (more t) (trees_alone ts)

nodes_one_more : (ts : List Tree) (t : Tree) (r : Option (Trees × Text))
    → nodes_before (ts ++ t ∷ []) r ≡ nodes_before ts (nodes_before (t ∷ []) r)
nodes_one_more ts t None = refl
nodes_one_more ts t (Some q) = ap (λ (us : Trees). Some (us, q.1)) (trees_one_more ts t q.0)

nodes_ahead : (program : Program) (n i level loops : ℕ) (text behind : Text) → i < n
    → Some behind ≡ strip (indent level) text
    → read_nodes program (n - i) level loops text
    ≡ with_node (read_nodes program (n - (i + 1)) level loops)
    (read_node (read_nodes program (n - (i + 1))) program (n - (i + 1)) level loops behind)
nodes_ahead program n i level loops text behind h e =
    let left = n - (i + 1) in
    let fewer : n - i ≡ suc (n - (i + 1)) = omega (arith, h) in
    ap (λ k. read_nodes program k level loops text) fewer
    ∙ ap (nodes_at (read_nodes program left) program left level loops text) (sym e)

pub nodes_more : (program : Program) (n i level loops : ℕ) (ts next : List Tree) (t : Tree) (text behind rest : Text)
    (whole : Option (Trees × Text)) → i < n → Some behind ≡ strip (indent level) text → next ≡ ts ++ t ∷ []
    → Some (t, rest) ≡ read_node (read_nodes program (n - (i + 1))) program (n - (i + 1)) level loops behind
    → nodes_before ts (read_nodes program (n - i) level loops text) ≡ whole
    → nodes_before next (read_nodes program (n - (i + 1)) level loops rest) ≡ whole
nodes_more program n i level loops ts next t text behind rest whole h e pushed is so_far =
    let again = read_nodes program (n - (i + 1)) level loops in
    ap (λ (us : List Tree). nodes_before us (again rest)) pushed
    ∙ (nodes_one_more ts t (again rest)
    ∙ (ap (λ o. nodes_before ts (with_node again o)) is
    ∙ (ap (nodes_before ts) (sym (nodes_ahead program n i level loops text behind h e)) ∙ so_far)))

pub nodes_stop : (program : Program) (n i level loops : ℕ) (ts : List Tree) (text behind : Text)
    (whole : Option (Trees × Text)) → i < n → Some behind ≡ strip (indent level) text
    → None ≡ read_node (read_nodes program (n - (i + 1))) program (n - (i + 1)) level loops behind
    → nodes_before ts (read_nodes program (n - i) level loops text) ≡ whole → None ≡ whole
nodes_stop program n i level loops ts text behind whole h e is so_far =
    ap (λ o. nodes_before ts (with_node (read_nodes program (n - (i + 1)) level loops) o)) is
    ∙ (ap (nodes_before ts) (sym (nodes_ahead program n i level loops text behind h e)) ∙ so_far)

pub nodes_end : (program : Program) (n i level loops : ℕ) (ts : List Tree) (text : Text)
    (whole : Option (Trees × Text)) → i < n → None ≡ strip (indent level) text
    → nodes_before ts (read_nodes program (n - i) level loops text) ≡ whole → Some (trees_of ts, text) ≡ whole
nodes_end program n i level loops ts text whole h e so_far =
    let left = n - (i + 1) in
    let fewer : n - i ≡ suc (n - (i + 1)) = omega (arith, h) in
    ap (λ (us : Trees). Some (us, text)) (trees_alone ts)
    ∙ (ap (λ o. nodes_before ts (nodes_at (read_nodes program left) program left level loops text o)) e
    ∙ (ap (λ k. nodes_before ts (read_nodes program k level loops text)) (sym fewer) ∙ so_far))
