-- What is read can be printed, step by step (`Each`, `step`, `any`): forms have an entry for each name, numbers have 64
-- bits, a guard has a test.
use Rattle.scop_syntax.proofs.Common.{◌≡◌, sym, subst, refl, ℕ, zero, suc, ◌+◌, ◌^◌, ◌<◌, ◌≤◌, Bool, true, false, List}
use Rattle.scop_syntax.proofs.Common.{[], ◌∷◌, ◌++◌, length, take, arith, ⊤, nat_le, nat_lt, ◌&&◌, ℤ, pos, Some, None}
use Rattle.scop_syntax.proofs.Common.{Option, codes, slice_get, if◌then◌else◌, bytes_eq, leb-true, ltb-true}
use Rattle.scop_syntax.proofs.Common.{length-take-le, Affine, form_of, Head, Program, Standing, standings_of}
use Rattle.std.proofs.lemmas.List.{length-append}
use Rattle.scop_lexer.specs.Bytes.{Text}
use Rattle.loop_tree.specs.Tree.{Bound, Bounds, Test, Tree, loop, guard, Trees}
use Rattle.form_text.specs.Reading.{strip, when, number_in_front, behind_digits, term_in_front, Next, next_in, ended}
use Rattle.form_text.specs.Reading.{read_terms, read_form}
use Rattle.form_text.proofs.Terms.{left_true, right_true}
use Rattle.c_printer.specs.Forms.{names_in, loop_name, loop_names, spread}
use Rattle.c_printer.specs.Naming.{iterators_of}
use Rattle.c_printer.specs.Statements.{statement_text, front_text}
use Rattle.c_printer.specs.Nodes.{indent, text_of}
use Rattle.c_printer.specs.Reading.{is_narrow_form, narrowed, turned_back, read_tree_form, quotients, turn_of}
use Rattle.c_printer.specs.Reading.{read_turn}
use Rattle.c_printer.specs.Reading.{read_divisor, bound_at, read_bound, bounds_at, read_bounds, read_lower, read_upper}
use Rattle.c_printer.specs.Reading.{multiple_at, test_at, read_test, tests_at}
use Rattle.c_printer.specs.Reading.{read_more_tests, read_tests, read_givens, body_at, instance_at, read_instance}
use Rattle.c_printer.specs.Reading.{closed}
use Rattle.c_printer.specs.Reading.{guard_at, upper_at, read_loop, node_at, read_node, nodes_at, read_nodes}
use Rattle.c_printer.specs.Reading.{read_text}
use Rattle.c_printer.specs.Printable.{IsTreeForm, IsDivisor, IsBound, AreBounds, IsTest, AreTests, AreTurns, IsNode}
use Rattle.c_printer.specs.Printable.{AreNodes, AreHeads, IsNamed}
use Rattle.c_printer.proofs.FormsRead.{length_turned, length_spread, length_loop_names}

-- what holds of an answer, if there is one
abbrev Each : {A : Type 0} → (A → Type 0) → Option A → Type 0
Each P None = ⊤
Each P (Some a) = P a

step : {A B : Type 0} (P : A → Type 0) (Q : B → Type 0) (o : Option A) (f : A → Option B) → Each P o
    → ((a : A) → P a → Each Q (f a)) → Each Q (when o f)
step P Q None f h g = tt
step P Q (Some a) f h g = g a h

any : {A B : Type 0} (Q : B → Type 0) (o : Option A) (f : A → Option B) → ((a : A) → Each Q (f a)) → Each Q (when o f)
any Q None f g = tt
any Q (Some a) f g = g a

-- a form has an entry for each name
abbrev Over : ℕ → Affine × Text → Type 0
Over n r = length r.0.coefficients ≡ n

ended_over : (n : Next) (front : Bool) → n.front ≡ front → Each (Over 0) (ended n)
ended_over n true e = rw e tt
ended_over n false e = rw e refl

terms_over : (front : Bool) (names : List Text) (text : Text) → Each (Over (length names)) (read_terms front names text)
terms_over front [] text =
    let n = next_in front [] text (term_in_front front text) in ended_over n n.front refl
terms_over front (name ∷ names) text =
    let n = next_in front name text (term_in_front front text) in
    step (Over (length names)) (Over (suc (length names))) (read_terms n.front names n.rest) _
    (terms_over n.front names n.rest) (λ r h. omega (arith, h))

form_over : (names : List Text) (text : Text) → Each (Over (length names)) (read_form names text)
unfolding read_form
form_over names text = terms_over true names text

-- a form of the tree
abbrev Form : ℕ → ℕ → Affine × Text → Type 0
Form parameters loops r = IsTreeForm parameters loops r.0

narrowed_form : (parameters loops : ℕ) (form : Affine) (rest : Text) → length form.coefficients ≡ loops + parameters
    → Each (Form parameters loops) (narrowed form rest)
narrowed_form parameters loops form rest h = by_size (is_narrow_form form) refl
  where
    by_size : (t : Bool) → is_narrow_form form ≡ t
        → Each (Form parameters loops) (if t then Some (form, rest) else None)
    by_size true e = record { entries = h; narrow = e }
    by_size false e = tt

tree_form_shape : (parameters loops : ℕ) (names : List Text) (text : Text) → length names ≡ loops + parameters
    → Each (Form parameters loops) (read_tree_form parameters names text)
unfolding read_tree_form
tree_form_shape parameters loops names text count =
    step (Over (length names)) (Form parameters loops) (read_form names text) _ (form_over names text)
    (λ r h. narrowed_form parameters loops (form_of (turned_back parameters r.0.coefficients) r.0.constant) r.1
    (let l = length_turned parameters r.0.coefficients in omega (arith, l, h, count)))

-- a turn
length_quotients : (n : ℕ) (s : ℤ) (xs zs : List ℤ) → n ≤ length xs → n ≤ length zs → n ≤ length (quotients s xs zs)
length_quotients zero s xs zs h g = omega arith
length_quotients (suc n) s [] zs h g = absurd (omega (arith, h))
length_quotients (suc n) s (x ∷ xs) [] h g = absurd (omega (arith, g))
length_quotients (suc n) s (x ∷ xs) (z ∷ zs) h g =
    let l = length_quotients n s xs zs (omega (arith, h)) (omega (arith, g)) in omega (arith, l)

length_turn : (parameters loops : ℕ) (head : Head) (form : Affine) → parameters ≤ length head.first.coefficients
    → parameters + loops ≤ length form.coefficients
    → length (turn_of parameters loops head form).coefficients ≡ loops + parameters
length_turn parameters loops head form starts long =
    let xs = spread parameters loops head.first.coefficients in
    let qs = quotients head.stride xs form.coefficients in
    let a = length_spread parameters loops head.first.coefficients starts in
    let b = length_quotients (parameters + loops) head.stride xs form.coefficients a long in
    let c = length-take-le (parameters + loops) qs b in
    let d = length_turned parameters (take (parameters + loops) qs) in
    omega (arith, c, d)

turn_shape : (parameters loops : ℕ) (names : List Text) (head : Head) (text : Text)
    → parameters ≤ length head.first.coefficients → parameters + loops ≤ length names
    → Each (Form parameters loops) (read_turn parameters loops names head text)
unfolding read_turn
turn_shape parameters loops names head text starts count =
    step (Over (length names)) (Form parameters loops) (read_form names text) _ (form_over names text)
    (λ r h. narrowed_form parameters loops (turn_of parameters loops head r.0) r.1
    (length_turn parameters loops head r.0 starts (omega (arith, h, count))))

-- bounds
abbrev Divisor : ℤ × Text → Type 0
Divisor r = IsDivisor r.0

divisor_shape : (text : Text) → Each Divisor (read_divisor text)
unfolding read_divisor
divisor_shape text =
    by_size (nat_le 1 (number_in_front 0 text) && nat_lt (number_in_front 0 text) (2 ^ 63)) refl
  where
    by_size : (t : Bool) → (nat_le 1 (number_in_front 0 text) && nat_lt (number_in_front 0 text) (2 ^ 63)) ≡ t
        → Each Divisor (if t then Some (pos (number_in_front 0 text), behind_digits text) else None)
    by_size true e =
        let m = number_in_front 0 text in (
          leb-true 1 m (left_true (nat_le 1 m) (nat_lt m (2 ^ 63)) e),
          ltb-true m (2 ^ 63) (right_true (nat_le 1 m) (nat_lt m (2 ^ 63)) e),
        )
    by_size false e = tt

abbrev One : ℕ → ℕ → Bound × Text → Type 0
One parameters loops r = IsBound parameters loops r.0

bound_shape : (divided : Text) (parameters loops : ℕ) (names : List Text) (text : Text)
    → length names ≡ loops + parameters → Each (One parameters loops) (read_bound divided parameters names text)
unfolding read_bound
bound_shape divided parameters loops names text count = at (strip divided text)
  where
    at : (o : Option Text) → Each (One parameters loops) (bound_at parameters names text o)
    at None =
        step (Form parameters loops) (One parameters loops) (read_tree_form parameters names text) _
        (tree_form_shape parameters loops names text count) (λ r h. (h, (omega arith, omega arith)))
    at (Some behind) =
        step (Form parameters loops) (One parameters loops) (read_tree_form parameters names behind) _
        (tree_form_shape parameters loops names behind count)
        (λ r h. any (One parameters loops) (strip (codes ", ") r.1) _
        (λ t. step Divisor (One parameters loops) (read_divisor t) _ (divisor_shape t)
        (λ d g. any (One parameters loops) (strip (codes ")") d.1) _ (λ u. (h, g)))))

abbrev Several : ℕ → ℕ → Bounds × Text → Type 0
Several parameters loops r = AreBounds parameters loops r.0

bounds_shape : (n : ℕ) (divided chosen : Text) (parameters loops : ℕ) (names : List Text) (text : Text)
    → length names ≡ loops + parameters
    → Each (Several parameters loops) (read_bounds n divided chosen parameters names text)
bounds_shape zero divided chosen parameters loops names text count = tt
bounds_shape (suc n) divided chosen parameters loops names text count =
    at (strip chosen text) (λ t. bounds_shape n divided chosen parameters loops names t count)
  where
    at : (o : Option Text)
        → ((t : Text) → Each (Several parameters loops) (read_bounds n divided chosen parameters names t))
        → Each (Several parameters loops)
        (bounds_at (read_bounds n divided chosen parameters names) divided parameters names text o)
    at None again =
        step (One parameters loops) (Several parameters loops) (read_bound divided parameters names text) _
        (bound_shape divided parameters loops names text count) (λ b h. h)
    at (Some behind) again =
        step (One parameters loops) (Several parameters loops) (read_bound divided parameters names behind) _
        (bound_shape divided parameters loops names behind count)
        (λ b h. any (Several parameters loops) (strip (codes ", ") b.1) _
        (λ t. step (Several parameters loops) (Several parameters loops)
        (read_bounds n divided chosen parameters names t) _ (again t)
        (λ bs g. any (Several parameters loops) (strip (codes ")") bs.1) _ (λ u. (h, g)))))

lower_shape : (n parameters loops : ℕ) (names : List Text) (text : Text) → length names ≡ loops + parameters
    → Each (Several parameters loops) (read_lower n parameters names text)
unfolding read_lower
lower_shape n parameters loops names text count =
    bounds_shape n (codes "pp_ceild(") (codes "pp_max(") parameters loops names text count

upper_shape : (n parameters loops : ℕ) (names : List Text) (text : Text) → length names ≡ loops + parameters
    → Each (Several parameters loops) (read_upper n parameters names text)
unfolding read_upper
upper_shape n parameters loops names text count =
    bounds_shape n (codes "pp_floord(") (codes "pp_min(") parameters loops names text count

-- tests
abbrev OneTest : ℕ → ℕ → Test × Text → Type 0
OneTest parameters loops r = IsTest parameters loops r.0

multiple_shape : (parameters loops : ℕ) (names : List Text) (form : Affine) (o : Option (ℤ × Text))
    → IsTreeForm parameters loops form → Each Divisor o
    → Each (OneTest parameters loops) (multiple_at parameters names form o)
multiple_shape parameters loops names form o f h =
    step Divisor (OneTest parameters loops) o _ h
    (λ d g. any (OneTest parameters loops) (strip (codes "*pp_floord(") d.1) _
    (λ t. any (OneTest parameters loops) (read_tree_form parameters names t) _
    (λ r. any (OneTest parameters loops) (strip (codes ", ") r.1) _
    (λ v. any (OneTest parameters loops) (read_divisor v) _
    (λ e. any (OneTest parameters loops) (strip (codes ") == 0") e.1) _ (λ w. (f, g)))))))

test_shape : (parameters loops : ℕ) (names : List Text) (text : Text) → length names ≡ loops + parameters
    → Each (OneTest parameters loops) (read_test parameters names text)
unfolding read_test
test_shape parameters loops names text count =
    step (Form parameters loops) (OneTest parameters loops) (read_tree_form parameters names text) _
    (tree_form_shape parameters loops names text count)
    (λ r h. at r.0 r.1 h (strip (codes " >= 0") r.1) (strip (codes " == 0") r.1))
  where
    at : (form : Affine) (rest : Text) → IsTreeForm parameters loops form → (o p : Option Text)
        → Each (OneTest parameters loops) (test_at parameters names form rest o p)
    at form rest f (Some behind) p = f
    at form rest f None (Some behind) = f
    at form rest f None None =
        any (OneTest parameters loops) (strip (codes " - ") rest) _
        (λ t. multiple_shape parameters loops names form (read_divisor t) f (divisor_shape t))

abbrev Tests : ℕ → ℕ → List Test × Text → Type 0
Tests parameters loops r = AreTests parameters loops r.0

-- the first of the tests that are read is there
abbrev SomeTests : ℕ → ℕ → List Test × Text → Type 0
SomeTests parameters loops r =
    (test : Test) × (tests : List Test) × (r.0 ≡ test ∷ tests) × AreTests parameters loops (test ∷ tests)

more_tests_shape : (n parameters loops : ℕ) (names : List Text) (text : Text) → length names ≡ loops + parameters
    → Each (Tests parameters loops) (read_more_tests n parameters names text)
more_tests_shape zero parameters loops names text count = tt
more_tests_shape (suc n) parameters loops names text count =
    at (strip (codes " && ") text) (λ t. more_tests_shape n parameters loops names t count)
  where
    at : (o : Option Text) → ((t : Text) → Each (Tests parameters loops) (read_more_tests n parameters names t))
        → Each (Tests parameters loops) (tests_at (read_more_tests n parameters names) parameters names text o)
    at None again = tt
    at (Some behind) again =
        step (OneTest parameters loops) (Tests parameters loops) (read_test parameters names behind) _
        (test_shape parameters loops names behind count)
        (λ t h. step (Tests parameters loops) (Tests parameters loops) (read_more_tests n parameters names t.1) _
        (again t.1) (λ ts g. (h, g)))

tests_shape : (n parameters loops : ℕ) (names : List Text) (text : Text) → length names ≡ loops + parameters
    → Each (SomeTests parameters loops) (read_tests n parameters names text)
unfolding read_tests
tests_shape n parameters loops names text count =
    step (OneTest parameters loops) (SomeTests parameters loops) (read_test parameters names text) _
    (test_shape parameters loops names text count)
    (λ t h. step (Tests parameters loops) (SomeTests parameters loops) (read_more_tests n parameters names t.1) _
    (more_tests_shape n parameters loops names t.1 count) (λ ts g. (t.0, ts.0, refl, (h, g))))

-- instances
abbrev Turns : ℕ → ℕ → List Head → List Affine × Text → Type 0
Turns parameters loops heads r = AreTurns parameters loops heads r.0

givens_shape : (parameters loops k : ℕ) (names : List Text) (heads : List Head) (text : Text)
    → length names ≡ k + loops → parameters ≤ k → AreHeads k heads
    → Each (Turns parameters loops heads) (read_givens parameters loops names heads text)
givens_shape parameters loops k names [] text count few a = tt
givens_shape parameters loops k names (head ∷ heads) text count few a =
    let more = names ++ (head.iterator ∷ []) in
    let one = length-append names (head.iterator ∷ []) in
    at (λ t. givens_shape parameters loops (suc k) more heads t (omega (arith, one, count)) (omega (arith, few)) a.1)
  where
    P : List Affine × Text → Type 0
    P r = AreTurns parameters loops (head ∷ heads) r.0

    at : ((t : Text) → Each (Turns parameters loops heads)
        (read_givens parameters loops (names ++ (head.iterator ∷ [])) heads t))
        → Each (Turns parameters loops (head ∷ heads)) (read_givens parameters loops names (head ∷ heads) text)
    at again =
        any P (strip (codes "const int64_t ") text) _ (λ t. any P (strip head.iterator t) _
        (λ u. any P (strip (codes " = ") u) _
        (λ v. step (Form parameters loops) P (read_turn parameters loops names head v) _
        (let e = a.0.entries in
        turn_shape parameters loops names head v (omega (arith, e, few)) (omega (arith, count, few)))
        (λ r h. any P (strip (codes "; ") r.1) _
        (λ w. step (Turns parameters loops heads) P
        (read_givens parameters loops (names ++ (head.iterator ∷ [])) heads w) _ (again w) (λ q g. (h, g)))))))

abbrev Node : Program → ℕ → Tree × Text → Type 0
Node program loops r = IsNode program loops r.0

abbrev Nodes : Program → ℕ → Trees × Text → Type 0
Nodes program loops r = AreNodes program loops r.0

-- how many names there are within so many loops
names_count : (parameters : List Text) (loops : ℕ) → length (names_in parameters loops) ≡ loops + length parameters
names_count parameters loops =
    let a = length-append parameters (loop_names loops) in
    let b = length_loop_names loops in
    omega (arith, a, b)

body_shape : (program : Program) (loops n : ℕ) (text : Text) (o : Option Standing) → IsNamed program
    → slice_get (standings_of program) n ≡ o
    → Each (Node program loops) (body_at program (names_in program.parameters loops) loops n text o)
body_shape program loops n text None named e = tt
body_shape program loops n text (Some s) named e =
    let m = length program.parameters in
    let names = names_in program.parameters loops in
    let count = names_count program.parameters loops in
    step (Turns m loops s.heads) (Node program loops) (read_givens m loops names s.heads text) _
    (givens_shape m loops m names s.heads text (omega (arith, count)) (omega arith) (named.heads n s e))
    (λ r h. any (Node program loops)
    (strip (statement_text program (program.parameters ++ iterators_of s.heads) s.body) r.1) _
    (λ t. any (Node program loops) (strip (codes "; }\n") t) _
    (λ u. record { standing = s; stands = e; turned = h })))

instance_shape : (program : Program) (loops : ℕ) (text : Text) → IsNamed program
    → Each (Node program loops) (read_instance program (names_in program.parameters loops) loops text)
unfolding read_instance
instance_shape program loops text named = at (number_in_front 0 text)
  where
    at : (m : ℕ) → Each (Node program loops)
        (instance_at program (names_in program.parameters loops) loops m (behind_digits text))
    at zero = tt
    at (suc n) =
        any (Node program loops) (strip (codes " */ ") (behind_digits text)) _
        (λ t. body_shape program loops n t (slice_get (standings_of program) n) named refl)

-- loops and guards, over what is known of their bodies
closed_shape : (program : Program) (loops inner level : ℕ) (node : Trees → Tree) (o : Option (Trees × Text))
    → Each (Nodes program inner) o → ((ts : Trees) → AreNodes program inner ts → IsNode program loops (node ts))
    → Each (Node program loops) (closed level node o)
closed_shape program loops inner level node o h g =
    step (Nodes program inner) (Node program loops) o _ h
    (λ r k. any (Node program loops) (strip (indent level) r.1) _
    (λ t. any (Node program loops) (strip (codes "}\n") t) _ (λ u. g r.0 k)))

upper_at_shape : (program : Program) (loops : ℕ) (body : Text → Option (Trees × Text)) (flag : Bool) (level : ℕ)
    (name : Text) (lo : Bounds) (o : Option (Bounds × Text)) → loops < 2 ^ 63
    → AreBounds (length program.parameters) loops lo → Each (Several (length program.parameters) loops) o
    → ((t : Text) → Each (Nodes program (suc loops)) (body t))
    → Each (Node program loops) (upper_at body flag level name lo o)
upper_at_shape program loops body flag level name lo o low l h inner =
    step (Several (length program.parameters) loops) (Node program loops) o _ h
    (λ up k. any (Node program loops) (strip (codes "; ") up.1) _
    (λ t. any (Node program loops) (strip name t) _ (λ u. any (Node program loops) (strip (codes "++) {\n") u) _
    (λ v. closed_shape program loops (suc loops) level (loop flag lo up.0) (body v) (inner v)
    (λ ts g. (low, l, k, g))))))

loop_shape : (program : Program) (loops : ℕ) (body : Text → Option (Trees × Text)) (n : ℕ) (flag : Bool) (level : ℕ)
    (text : Text) → loops < 2 ^ 63 → ((t : Text) → Each (Nodes program (suc loops)) (body t))
    → Each (Node program loops) (read_loop body n (length program.parameters) (names_in program.parameters loops) flag
    level (loop_name loops) text)
unfolding read_loop
loop_shape program loops body n flag level text low inner =
    let m = length program.parameters in
    let names = names_in program.parameters loops in
    let count = names_count program.parameters loops in
    let name = loop_name loops in
    any (Node program loops) (strip name text) _ (λ t. any (Node program loops) (strip (codes " = ") t) _
    (λ u. step (Several m loops) (Node program loops) (read_lower n m names u) _ (lower_shape n m loops names u count)
    (λ lo l. any (Node program loops) (strip (codes "; ") lo.1) _ (λ v. any (Node program loops) (strip name v) _
    (λ w. any (Node program loops) (strip (codes " <= ") w) _
    (λ x. upper_at_shape program loops body flag level name lo.0 (read_upper n m names x) low l
    (upper_shape n m loops names x count) inner))))))

guard_shape : (program : Program) (loops : ℕ) (body : Text → Option (Trees × Text)) (level : ℕ)
    (o : Option (List Test × Text)) → Each (SomeTests (length program.parameters) loops) o
    → ((t : Text) → Each (Nodes program loops) (body t)) → Each (Node program loops) (guard_at body level o)
guard_shape program loops body level o h inner =
    step (SomeTests (length program.parameters) loops) (Node program loops) o _ h
    (λ r k. any (Node program loops) (strip (codes ") {\n") r.1) _
    (λ t. closed_shape program loops loops level (guard r.0) (body t) (inner t)
    (λ ts g. subst (λ x. IsNode program loops (guard x ts)) (sym k.2) (k.3, g))))

node_shape : (program : Program) (body : ℕ → ℕ → Text → Option (Trees × Text)) (n level loops : ℕ) (text : Text)
    → IsNamed program → loops < 2 ^ 63
    → ((l d : ℕ) (t : Text) → d ≤ suc loops → Each (Nodes program d) (body l d t))
    → Each (Node program loops) (read_node body program n level loops text)
node_shape program body n level loops text named low inner =
    at (strip (codes "#pragma omp parallel for\n") text) (strip (codes "for (int64_t ") text)
    (strip (codes "if (") text) (strip (codes "{ /* S") text)
  where
    at : (a b c d : Option Text) → Each (Node program loops) (node_at body program n level loops a b c d)
    at (Some t) b c d =
        any (Node program loops) (strip (indent level) t) _
        (λ u. any (Node program loops) (strip (codes "for (int64_t ") u) _
        (λ v. loop_shape program loops (body (suc level) (suc loops)) n true level v low
        (λ x. inner (suc level) (suc loops) x (omega arith))))
    at None (Some t) c d =
        loop_shape program loops (body (suc level) (suc loops)) n false level t low
        (λ x. inner (suc level) (suc loops) x (omega arith))
    at None None (Some t) d =
        let m = length program.parameters in
        let names = names_in program.parameters loops in
        guard_shape program loops (body (suc level) loops) level (read_tests n m names t)
        (tests_shape n m loops names t (names_count program.parameters loops))
        (λ x. inner (suc level) loops x (omega arith))
    at None None None (Some t) = instance_shape program loops t named
    at None None None None = tt

nodes_shape : (program : Program) (n level loops : ℕ) (text : Text) → IsNamed program → loops + n ≤ 2 ^ 63
    → Each (Nodes program loops) (read_nodes program n level loops text)
nodes_shape program zero level loops text named low = tt
nodes_shape program (suc n) level loops text named low =
    at (strip (indent level) text) (λ l d t h. nodes_shape program n l d t named (omega (arith, low, h)))
  where
    at : (o : Option Text)
        → ((l d : ℕ) (t : Text) → d ≤ suc loops → Each (Nodes program d) (read_nodes program n l d t))
        → Each (Nodes program loops) (nodes_at (read_nodes program n) program n level loops text o)
    at None again = tt
    at (Some t) again =
        step (Node program loops) (Nodes program loops) (read_node (read_nodes program n) program n level loops t) _
        (node_shape program (read_nodes program n) n level loops t named (omega (arith, low)) again)
        (λ r h. step (Nodes program loops) (Nodes program loops) (read_nodes program n level loops r.1) _
        (again level loops r.1 (omega arith)) (λ ts g. (h, g)))

-- what is read of a text can be printed
pub read_is_printable : (program : Program) (text : Text) (ts : Trees) → IsNamed program → length text < 2 ^ 63
    → read_text program text ≡ Some ts → AreNodes program 0 ts
read_is_printable program text ts named small e = subst (Each (AreNodes program 0)) e all
  where
    printed : (r : Trees × Text) → AreNodes program 0 r.0 → (same : Bool)
        → Each (AreNodes program 0) (if same then Some r.0 else None)
    printed r h true = h
    printed r h false = tt

    all : Each (AreNodes program 0) (read_text program text)
    all =
        any (AreNodes program 0) (strip (front_text program) text) _
        (λ t. step (Nodes program 0) (AreNodes program 0) (read_nodes program (suc (length text)) 1 0 t) _
        (nodes_shape program (suc (length text)) 1 0 t named (omega (arith, small)))
        (λ r h. printed r h (bytes_eq (text_of program r.0) text)))
