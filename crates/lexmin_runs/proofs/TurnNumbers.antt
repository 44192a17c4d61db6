-- 128 bits hold the numbers of the rows by which a run's tree is told.
use Rattle.whole_numbers.proofs.Common.{◌≡◌, ℕ, zero, suc, ◌+◌, Bool, true, false, ℤ, pos, negsuc, ◌⊎◌, inl, inr, List}
use Rattle.whole_numbers.proofs.Common.{[], ◌∷◌, ◌++◌, map, drop, take, refl, subst, sym, ◌∙◌, ap, arith, Ok, Result}
use Rattle.whole_numbers.proofs.Common.{if◌then◌else◌, ◌<ℤ◌, ◌≤ℤ◌, ◌*ℤ◌, ⊤, ints, zeros, Affine, form_of, complement}
use Rattle.whole_numbers.proofs.Common.{fits, neg_ℤ, ◌-ℤ◌, All-append, All-cons, All-nil, remainder, floor}
use Rattle.whole_numbers.proofs.Common.{mul_zero_right}
use Rattle.std.proofs.lemmas.List.{append-nil}
use Rattle.lexmin_runs.proofs.Leaves.{floor-multiple}
use Rattle.tableau_rows.proofs.Cuts.{remainder_in}
use Rattle.integer_sets.specs.Wide.{Wide}
use Rattle.integer_sets.specs.Checked.{difference_of, ◌>>=◌}
use Rattle.integer_sets.proofs.CheckedSteps.{chain-ok, difference_of-ok}
use Rattle.tableau_rows.specs.Rows.{Row, Sized, entry}
use Rattle.tableau_rows.specs.Moves.{is_positive, row_at}
use Rattle.tableau_rows.specs.Problem.{problem_of, Speaks}
use Rattle.tableau_rows.proofs.Points.{sized_take}
use Rattle.lexmin_runs.specs.Nodes.{Node, Next, ends, goes, binds, splits, part_of, padded, divided, formed}
use Rattle.lexmin_runs.specs.Nodes.{opposite_run, opposites_run, above_run, under_run, at_least_run, broken_somewhere}
use Rattle.lexmin_runs.specs.Nodes.{leaf_tree, step, tree_run, first_node, whole, longer_form, lexmin_run, all_divided}
use Rattle.lexmin_runs.specs.Nodes.{all_zero, is_zero, ask, taken_off}
use Rattle.lexmin_runs.specs.Solutions.{IsNode, LeadsOn}
use Rattle.lexmin_runs.proofs.QuestionAnswers.{formed-ok, same_first}
use Rattle.lexmin_runs.proofs.Cases.{AllNo, HandsOn, step_by, tree_by}
use Rattle.lexmin_runs.proofs.KeptSolutions.{IsOver, step_over, first_is_node}
use Rattle.quast_trees.specs.Tree.{Tree, bind}
use Rattle.quast_trees.specs.Turns.{CanTell, IsHeld, rest_of}
use Rattle.quast_trees.proofs.HeldNumbers.{Opposed, opposed_to, opposed_zeros}

abbrev EndsWell : Result Affine Wide → Type 0
EndsWell r = (g : Affine) × (r ≡ Ok g)

-- a difference from 0 that is given is an opposite that fits
opposite_held : (x y : ℤ) → difference_of (pos 0) x ≡ Ok y → fits (negsuc 0 *ℤ x) ≡ true
opposite_held x y h =
    let f = ((difference_of-ok (pos 0) x y).0 h).1 in
    let e : (pos 0 -ℤ x) ≡ (negsuc 0 *ℤ x) = omega (arith, ints) in
    subst (λ (z : ℤ). fits z ≡ true) e f

opposites_held : (xs ys : List ℤ) → opposites_run xs ≡ Ok ys → Opposed xs
opposites_held [] ys h = All-nil (λ c. fits (negsuc 0 *ℤ c) ≡ true)
opposites_held (x ∷ xs) ys h =
    let a = chain-ok (difference_of (pos 0) x) (λ (y : ℤ). opposites_run xs >>= λ zs. Ok (y ∷ zs)) ys h in
    let b = chain-ok (opposites_run xs) (λ (zs : List ℤ). Ok (a.0 ∷ zs)) ys a.2 in
    All-cons (λ c. fits (negsuc 0 *ℤ c) ≡ true) x xs (opposite_held x a.0 a.1) (opposites_held xs b.0 b.1)

-- what each of the runs that end well says
opposite-held : (f : Affine) → EndsWell (opposite_run f) → IsHeld (complement f)
unfolding opposite_run
opposite-held f h =
    let a = chain-ok (opposites_run f.coefficients) (λ (bs : List ℤ).
    difference_of (pos 0) f.constant >>= λ c. difference_of c (pos 1) >>= λ z. Ok (form_of bs z)) h.0 h.1 in
    let b = chain-ok (difference_of (pos 0) f.constant) (λ (c : ℤ). difference_of c (pos 1) >>= λ z. Ok
    (form_of a.0 z)) h.0 a.2 in
    let c = chain-ok (difference_of b.0 (pos 1)) (λ (z : ℤ). Ok (form_of a.0 z)) h.0 b.2 in
    let first = ((difference_of-ok (pos 0) f.constant b.0).0 b.1).0 in
    let held = ((difference_of-ok b.0 (pos 1) c.0).0 c.1).1 in
    let e : (b.0 -ℤ pos 1) ≡ (neg_ℤ f.constant -ℤ pos 1) = omega (arith, ints) in
    record {
      coefficients = opposed_to f.coefficients (opposites_held f.coefficients a.0 a.1);
      constant = subst (λ (z : ℤ). fits z ≡ true) e held;
    }

under-held : (k : ℕ) (d : ℤ) (f : Affine) → EndsWell (under_run d f) → IsHeld (rest_of (padded k f) d)
unfolding under_run
under-held k d f h =
    let a = chain-ok (opposites_run f.coefficients) (λ (bs : List ℤ).
    difference_of d (pos 1) >>= λ c. difference_of c f.constant >>= λ z. Ok (form_of (bs ++ d ∷ []) z)) h.0 h.1 in
    let b = chain-ok (difference_of d (pos 1)) (λ (c : ℤ). difference_of c f.constant >>= λ z. Ok
    (form_of (a.0 ++ d ∷ []) z)) h.0 a.2 in
    let c = chain-ok (difference_of b.0 f.constant) (λ (z : ℤ). Ok (form_of (a.0 ++ d ∷ []) z)) h.0 b.2 in
    let first = ((difference_of-ok d (pos 1) b.0).0 b.1).0 in
    let held = ((difference_of-ok b.0 f.constant c.0).0 c.1).1 in
    let e : (b.0 -ℤ f.constant) ≡ ((d -ℤ pos 1) -ℤ f.constant) = omega (arith, ints) in
    record {
      coefficients = opposed_to (f.coefficients ++ zeros k)
          (All-append (λ c. fits (negsuc 0 *ℤ c) ≡ true) f.coefficients (zeros k)
          (opposites_held f.coefficients a.0 a.1) (opposed_zeros k));
      constant = subst (λ (z : ℤ). fits z ≡ true) e held;
    }

-- a part as it is, with no zeros behind
same-held : (d : ℤ) (f : Affine) → IsHeld (rest_of (padded 0 f) d) → IsHeld (rest_of f d)
same-held d f h = subst (λ (cs : List ℤ). IsHeld (rest_of (form_of cs f.constant) d)) (append-nil f.coefficients) h

divisor_held : (d e : ℤ) → difference_of (pos 0) d ≡ Ok e → fits (neg_ℤ d) ≡ true
divisor_held d e h =
    let f = ((difference_of-ok (pos 0) d e).0 h).1 in
    let e : (pos 0 -ℤ d) ≡ neg_ℤ d = omega (arith, ints) in
    subst (λ (z : ℤ). fits z ≡ true) e f

above-held : (d : ℤ) (f : Affine) → EndsWell (above_run d f) → fits (neg_ℤ d) ≡ true
unfolding above_run
above-held d f h =
    let a = chain-ok (difference_of (pos 0) d) (λ (e : ℤ). difference_of f.constant (pos 1) >>= λ z. Ok
    (form_of (f.coefficients ++ e ∷ []) z)) h.0 h.1 in
    divisor_held d a.0 a.1

least-held : (d : ℤ) (f : Affine) → EndsWell (at_least_run d f) → fits (neg_ℤ d) ≡ true
unfolding at_least_run
least-held d f h =
    let a = chain-ok (difference_of (pos 0) d) (λ (e : ℤ). Ok (form_of (f.coefficients ++ e ∷ []) f.constant)) h.0 h.1
    in
    divisor_held d a.0 a.1

-- where nothing is asked about a part, its denominator divides it
zero_is : (z : ℤ) → is_zero z ≡ true → z ≡ pos 0
zero_is (pos zero) h = refl
zero_is (pos (suc n)) h = absurd cc
zero_is (negsuc n) h = absurd cc

is_zero_of : (z : ℤ) → z ≡ pos 0 → is_zero z ≡ true
is_zero_of z h = subst (λ (y : ℤ). is_zero y ≡ true) (sym h) refl

all_zero_step : (d z : ℤ) (zs : List ℤ) (b : Bool) → is_zero z ≡ b → is_zero (remainder (pos 0) d) ≡ true
    → (if b then all_zero zs else false) ≡ true → (all_zero zs ≡ true → all_divided d zs ≡ true)
    → all_divided d (z ∷ zs) ≡ true
all_zero_step d z zs true e none h more =
    let r : is_zero (remainder z d) ≡ true =
    subst (λ (y : ℤ). is_zero (remainder y d) ≡ true) (sym (zero_is z e)) none in
    rw r (more h)
all_zero_step d z zs false e none h more = absurd cc

divided-zeros : (d : ℤ) (zs : List ℤ) → is_zero (remainder (pos 0) d) ≡ true → all_zero zs ≡ true
    → all_divided d zs ≡ true
divided-zeros d [] none h = refl
divided-zeros d (z ∷ zs) none h = all_zero_step d z zs (is_zero z) refl none h (λ g. divided-zeros d zs none g)

zero_remainder : (d : ℤ) → pos 0 <ℤ d → is_zero (remainder (pos 0) d) ≡ true
zero_remainder d positive =
    let r = remainder_in (pos 0) d positive in
    let f = floor-multiple d (pos 0) positive in
    let z = mul_zero_right d in
    let g : floor (pos 0) d ≡ pos 0 = ap (λ (y : ℤ). floor y d) (sym z) ∙ f in
    let m = ap (λ (y : ℤ). d *ℤ y) g in
    is_zero_of (remainder (pos 0) d) (omega (arith, ints))

not_positive : (z : ℤ) → pos 0 ≤ℤ z → is_positive z ≡ false → is_zero z ≡ true
not_positive (pos zero) h e = refl
not_positive (pos (suc n)) h e = absurd cc
not_positive (negsuc n) h e = absurd (omega (arith, ints))

-- a part that was answered to be whole is divided, or the two rows that ask about it fit
whole_or_told : (left : ℕ) (node : Node) (d : ℤ) (f : Affine) (l : ℕ) (b : Bool) → pos 0 <ℤ d
    → all_zero f.coefficients ≡ b
    → (if b then Ok (is_positive (remainder f.constant d), left) else formed left (above_run d f)
    (λ g. formed left (under_run d f) (λ h.
    ask left (node.parameters + 1) (map longer_form node.context ++ g ∷ h ∷ [])))) ≡ Ok (false, l)
    → (all_divided d (f.constant ∷ f.coefficients) ≡ true) ⊎ (EndsWell (above_run d f) × EndsWell (under_run d f))
whole_or_told left node d f l true positive e h =
    let b = same_first (is_positive (remainder f.constant d)) false left l h in
    let r = remainder_in f.constant d positive in
    let z = not_positive (remainder f.constant d) r.0 b in
    inl (rw z (divided-zeros d f.coefficients (zero_remainder d positive) e))
whole_or_told left node d f l false positive e h =
    let c = formed-ok left (above_run d f) (λ (g : Affine). formed left (under_run d f) (λ h.
    ask left (node.parameters + 1) (map longer_form node.context ++ g ∷ h ∷ []))) false l h in
    let k = formed-ok left (under_run d f) (λ (h : Affine).
    ask left (node.parameters + 1) (map longer_form node.context ++ c.0 ∷ h ∷ [])) false l c.2 in
    inr ((c.0, c.1), (k.0, k.1))

leaf_tells : (n m k size : ℕ) (node : Node) (rows : List Row) (forms : List Affine) → Sized size rows
    → AllNo (λ l row. broken_somewhere l node row.denominator (part_of n row)) rows
    → CanTell (leaf_tree n m k rows forms)
leaf_tells n m k size node [] forms sized nos = tt
leaf_tells n m k size node (row ∷ rows) forms sized nos =
    leaf_bound n m k row rows forms
    (whole_or_told nos.0.0 node row.denominator (part_of n row) nos.0.1 (all_zero (part_of n row).coefficients) sized.0
    refl nos.0.2)
    (all_divided row.denominator (entry row n ∷ drop (n + 1) row.entries)) refl
    (λ fs. leaf_tells n m k size node rows fs sized.2 nos.1)
    (λ fs. leaf_tells n (suc m) (suc k) size node rows fs sized.2 nos.1)
  where
    leaf_bound : (n m k : ℕ) (row : Row) (rows : List Row) (forms : List Affine)
        → ((all_divided row.denominator ((part_of n row).constant ∷ (part_of n row).coefficients) ≡ true)
        ⊎ (EndsWell (above_run row.denominator (part_of n row)) × EndsWell (under_run row.denominator (part_of n row))))
        → (b : Bool) → all_divided row.denominator (entry row n ∷ drop (n + 1) row.entries) ≡ b
        → ((fs : List Affine) → CanTell (leaf_tree n m k rows fs))
        → ((fs : List Affine) → CanTell (leaf_tree n (suc m) (suc k) rows fs))
        → CanTell (if b then leaf_tree n m k rows (forms ++ padded k (divided row.denominator (part_of n row)) ∷ [])
        else bind (padded k (part_of n row)) row.denominator
        (leaf_tree n (suc m) (suc k) rows (map longer_form forms ++ form_of (zeros m ++ pos 1 ∷ []) (pos 0) ∷ [])))
    leaf_bound n m k row rows forms told true e same bound =
        same (forms ++ padded k (divided row.denominator (part_of n row)) ∷ [])
    leaf_bound n m k row rows forms (inl whole) false e same bound = absurd cc
    leaf_bound n m k row rows forms (inr told) false e same bound = (
      above-held row.denominator (part_of n row) told.0,
      under-held k row.denominator (part_of n row) told.1,
      bound (map longer_form forms ++ form_of (zeros m ++ pos 1 ∷ []) (pos 0) ∷ []),
    )

-- what a step leads to
abbrev TellNext : Next → Type 0
TellNext (ends tree) = CanTell tree
TellNext (goes node) = ⊤
TellNext (binds f d node) = (fits (neg_ℤ d) ≡ true) × IsHeld (rest_of f d)
TellNext (splits f first second) = IsHeld (complement f)

step_tells : (n left : ℕ) (node : Node) (next : Next) (l : ℕ) → IsNode n node → step n left node ≡ Ok (next, l)
    → TellNext next
step_tells n left node next l is h =
    step_by n left node next l TellNext is.tableau.many (record {
      is_empty = λ left k none. tt;
      is_split = λ r within below above g run. opposite-held (part_of n (row_at node.rows r)) (g, run);
      is_pivoted = λ r within rows run. tt;
      is_blocked = λ r left k within below none. tt;
      is_cut = λ i below. record {
        is_constant = λ none new run. tt;
        is_bound = λ k found new run. tt;
        is_new = λ some new low high run least under. told (row_at node.rows i).denominator
            (taken_off n (row_at node.rows i)) (low, least) (high, under);
      };
      is_leaf = λ nos whole.
          leaf_tells n node.parameters 0 (n + 1 + node.parameters) node (take n node.rows) []
          (sized_take n (n + 1 + node.parameters) node.rows is.tableau.sized) whole;
    }) h
  where
    told : (d : ℤ) (f : Affine) → EndsWell (at_least_run d f) → EndsWell (under_run d f)
        → (fits (neg_ℤ d) ≡ true) × IsHeld (rest_of f d)
    told d f least under = (least-held d f least, same-held d f (under-held 0 d f under))

tree-tells : (n k left : ℕ) (node : Node) (tree : Tree) (l : ℕ) → IsNode n node
    → tree_run n k left node ≡ Ok (tree, l) → CanTell tree
tree-tells n k left node tree l is h =
    tree_by ℕ (IsOver n) (λ m t. CanTell t) n
    (λ m left node next l is h. hands_on m next (step_over n m left node next l is h)
    (step_tells n left node next l is.0 h))
    k left node tree l node.parameters (is, refl) h
  where
    hands_on : (m : ℕ) (next : Next) → LeadsOn n m next → TellNext next
        → HandsOn ℕ (IsOver n) (λ m t. CanTell t) m next
    hands_on m (ends t) on tells = tells
    hands_on m (goes node) on tells = on
    hands_on m (binds f d node) on tells = (suc m, (on.0, on.1), λ t body. (tells.0, tells.1, body))
    hands_on m (splits f a b) on tells = λ t u first second. (tells, first (on.0, on.2), second (on.1, on.3))

pub lexmin-tells : (budget n m : ℕ) (fs context : List Affine) (tree : Tree) (l : ℕ) → Speaks (n + m) fs
    → Speaks m context
    → lexmin_run budget m (problem_of n fs) context ≡ Ok (tree, l) → CanTell tree
unfolding lexmin_run whole
lexmin-tells budget n m fs context tree l speaks about h =
    tree-tells n (suc budget) budget (first_node m (problem_of n fs) context) tree l
    (first_is_node n m fs context speaks about) h
