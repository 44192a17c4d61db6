-- A conflicting pair is a whole point of a goal where its rows say so; goals without points keep rows in order.
use Rattle.scop_syntax.proofs.Common.{◌≡◌, ◌+◌, ℕ, zero, suc, ◌<◌, ◌≤◌, ℤ, pos, negsuc, neg_ℤ, ◌-ℤ◌, ◌*ℤ◌, ◌≤ℤ◌, List}
use Rattle.scop_syntax.proofs.Common.{[], ◌∷◌, ◌++◌, length, set, get_or, All, refl, sym, ◌∙◌, ap, subst, arith, inl}
use Rattle.scop_syntax.proofs.Common.{inr, flat_map, ints, All-nil, All-cons, All-append, All-push, All-head, All-tail}
use Rattle.scop_syntax.proofs.Common.{get_or-append_seam, Affine, form_of, value_of, complement, dot, multiples, zeros}
use Rattle.scop_syntax.proofs.Common.{dot-append, dot-multiples, dot-zeros, dot-set_left, length-multiples}
use Rattle.scop_syntax.proofs.Common.{length-zeros, get_or-zeros, le_or_lt, value_of-complement, AreInRange, In}
use Rattle.scop_syntax.proofs.Common.{IsInRange, most_parameter}
use Rattle.std.proofs.lemmas.List.{length-append, append_assoc}
use Rattle.integer_sets.specs.Points.{Satisfies}
use Rattle.iteration_domains.specs.Dependence.{Dependence}
use Rattle.iteration_domains.specs.Restrictions.{equality_behind, row_behind}
use Rattle.iteration_domains.specs.declared.dep.DepEnd.{DepEnd}
use Rattle.plan_check.specs.Goals.{difference, above, upper_rows, bounded, HasNoPoint}
use Rattle.plan_check.specs.Plans.{form_for}

-- the turns xs of the source and ys of the target are a whole point of a dependence at parameters in range
pub record IsPairOf (m : ℕ) (d : Dependence) (xs ys params : List ℤ) : Type 0 where
  pub source : length xs ≡ d.source.loops
  pub target : length ys ≡ d.target.loops
  pub count : length params ≡ m
  pub range : AreInRange params
  pub dimensions : d.system.dimensions ≡ length xs + length ys
  pub holds : Satisfies d.system (xs ++ (ys ++ params))

-- a row's forms have the numbers of turns of the dependence's ends
pub record SuitsEnds (source target : DepEnd) (forms : List Affine) : Type 0 where
  pub first : length (form_for forms source.statement).coefficients ≡ source.loops
  pub second : length (form_for forms target.statement).coefficients ≡ target.loops

-- the row's values at the source and at the target
abbrev pub at_source : Dependence → List Affine → List ℤ → ℤ
at_source d forms xs = value_of (form_for forms d.source.statement) xs

abbrev pub at_target : Dependence → List Affine → List ℤ → ℤ
at_target d forms ys = value_of (form_for forms d.target.statement) ys

-- the difference's value is the difference of the values
pub value_of-difference : (m : ℕ) (d : Dependence) (xs ys params : List ℤ) (forms : List Affine)
    → IsPairOf m d xs ys params → SuitsEnds d.source d.target forms
    → value_of (difference m d forms) (xs ++ (ys ++ params)) ≡ at_target d forms ys -ℤ at_source d forms xs
value_of-difference m d xs ys params forms pair fits =
    let f = form_for forms d.source.statement in
    let g = form_for forms d.target.statement in
    let first = dot-append (multiples (negsuc 0) f.coefficients) (g.coefficients ++ zeros m) xs (ys ++ params)
    (length-multiples (negsuc 0) f.coefficients ∙ (fits.first ∙ sym pair.source)) in
    let second = dot-append g.coefficients (zeros m) ys params (fits.second ∙ sym pair.target) in
    let third = dot-multiples (negsuc 0) f.coefficients xs in
    let last = dot-zeros m params in
    let n : negsuc 0 *ℤ dot f.coefficients xs ≡ neg_ℤ (dot f.coefficients xs) = omega (arith, ints) in
    omega (arith, ints)

-- what is 1 less
pub value_of-above : (f : Affine) (point : List ℤ) → value_of (above f) point ≡ value_of f point -ℤ pos 1
value_of-above f point = omega (arith, ints)

-- parameters in range satisfy their rows
upper_value : (n j : ℕ) (point : List ℤ) → j < n
    → value_of (form_of (set (zeros n) j (negsuc 0)) (pos most_parameter)) point
    ≡ pos most_parameter -ℤ get_or point j (pos 0)
upper_value n j point h =
    let e = dot-set_left (zeros n) point j (negsuc 0) (rw (length-zeros n) h) in
    let z = dot-zeros n point in
    let g = get_or-zeros n j in
    let x = get_or point j (pos 0) in
    let c : (negsuc 0 -ℤ get_or (zeros n) j (pos 0)) ≡ negsuc 0 = omega (arith, ints) in
    let p = ap (λ (k : ℤ). k *ℤ x) c in
    let s : negsuc 0 *ℤ x ≡ neg_ℤ x = omega (arith, ints) in
    omega (arith, ints)

upper_met : (n j k : ℕ) (front params : List ℤ) → length front ≡ j → length params ≡ k → j + k ≤ n
    → AreInRange params → All (λ f. pos 0 ≤ℤ value_of f (front ++ params)) (upper_rows n j k)
upper_met n j zero front params e l h range = All-nil (λ f. pos 0 ≤ℤ value_of f (front ++ params))
upper_met n j (suc k) front [] e l h range = absurd (omega arith)
upper_met n j (suc k) front (p ∷ params) e l h range =
    let point = front ++ (p ∷ params) in
    let here = All-head IsInRange p params range in
    let seam : get_or point j (pos 0) ≡ p =
    subst (λ (i : ℕ). get_or point i (pos 0) ≡ p) e (get_or-append_seam front p params (pos 0)) in
    let v = upper_value n j point (omega arith) in
    let same : (front ++ p ∷ []) ++ params ≡ point = append_cons front p params in
    All-cons (λ f. pos 0 ≤ℤ value_of f point) (form_of (set (zeros n) j (negsuc 0)) (pos most_parameter))
    (upper_rows n (suc j) k) (omega (arith, ints))
    (subst (λ (q : List ℤ). All (λ f. pos 0 ≤ℤ value_of f q) (upper_rows n (suc j) k)) same
    (upper_met n (suc j) k (front ++ p ∷ []) params (sized front p j e) (omega arith) (omega arith)
    (All-tail IsInRange p params range)))
  where
    append_cons : (xs : List ℤ) (x : ℤ) (ys : List ℤ) → (xs ++ x ∷ []) ++ ys ≡ xs ++ x ∷ ys
    append_cons [] x ys = refl
    append_cons (z ∷ xs) x ys = ap (λ (l : List ℤ). z ∷ l) (append_cons xs x ys)

    sized : (xs : List ℤ) (x : ℤ) (j : ℕ) → length xs ≡ j → length (xs ++ x ∷ []) ≡ suc j
    sized xs x j e = let l = length-append xs (x ∷ []) in omega arith

-- a pair is one at parameters in range, where a form is 0 too, and a point where a form is at least 0 too
pub pair_bounded : (m : ℕ) (d : Dependence) (xs ys params : List ℤ) → IsPairOf m d xs ys params
    → IsPairOf m (bounded m d) xs ys params
pair_bounded m d xs ys params pair =
    let point = xs ++ (ys ++ params) in
    let n = d.system.dimensions + m in
    let size : length (xs ++ ys) ≡ d.system.dimensions = length-append xs ys ∙ sym pair.dimensions in
    let same : (xs ++ ys) ++ params ≡ point = append_assoc xs ys params in
    let upper = subst (λ (q : List ℤ). All (λ f. pos 0 ≤ℤ value_of f q) (upper_rows n d.system.dimensions m)) same
    (upper_met n d.system.dimensions m (xs ++ ys) params size pair.count (omega arith) pair.range) in
    record {
      source = pair.source;
      target = pair.target;
      count = pair.count;
      range = pair.range;
      dimensions = pair.dimensions;
      holds = (
        pair.holds.0,
        All-append (λ f. pos 0 ≤ℤ value_of f point) d.system.rows (upper_rows n d.system.dimensions m) pair.holds.1
            upper,
      );
    }

pub pair_equal : (m : ℕ) (d : Dependence) (xs ys params : List ℤ) (f : Affine) → IsPairOf m d xs ys params
    → value_of f (xs ++ (ys ++ params)) ≡ pos 0 → IsPairOf m (equality_behind d f) xs ys params
pair_equal m d xs ys params f pair h =
    record {
      source = pair.source;
      target = pair.target;
      count = pair.count;
      range = pair.range;
      dimensions = pair.dimensions;
      holds = (
        All-push (λ g. value_of g (xs ++ (ys ++ params)) ≡ pos 0) d.system.equalities f pair.holds.0 h,
        pair.holds.1,
      );
    }

pub met : (m : ℕ) (d : Dependence) (xs ys params : List ℤ) (f : Affine) → IsPairOf m d xs ys params
    → pos 0 ≤ℤ value_of f (xs ++ (ys ++ params)) → Satisfies (row_behind d f).system (xs ++ (ys ++ params))
met m d xs ys params f pair h =
    (pair.holds.0, All-push (λ g. pos 0 ≤ℤ value_of g (xs ++ (ys ++ params))) d.system.rows f pair.holds.1 h)

-- the parts of what holds of joined lists
pub all_front : {A : Type 0} (P : A → Type 0) (xs ys : List A) → All P (xs ++ ys) → All P xs
all_front P [] ys h = All-nil P
all_front P (x ∷ xs) ys h =
    All-cons P x xs (All-head P x (xs ++ ys) h) (all_front P xs ys (All-tail P x (xs ++ ys) h))

pub all_back : {A : Type 0} (P : A → Type 0) (xs ys : List A) → All P (xs ++ ys) → All P ys
all_back P [] ys h = h
all_back P (x ∷ xs) ys h = all_back P xs ys (All-tail P x (xs ++ ys) h)

pub all_of : {A B : Type 0} (P : B → Type 0) (f : A → List B) (xs : List A) (x : A) → In x xs
    → All P (flat_map f xs) → All P (f x)
all_of P f [] x i h = absurd i
all_of P f (y ∷ xs) x (inl e) h = subst (λ z. All P (f z)) (sym e) (all_front P (f y) (flat_map f xs) h)
all_of P f (y ∷ xs) x (inr i) h = all_of P f xs x i (all_back P (f y) (flat_map f xs) h)

-- a row of which one goal has no point does not fall
pub not_falling : (m : ℕ) (d : Dependence) (xs ys params : List ℤ) (forms : List Affine)
    → IsPairOf m d xs ys params → SuitsEnds d.source d.target forms
    → HasNoPoint (row_behind d (complement (difference m d forms)))
    → at_source d forms xs ≤ℤ at_target d forms ys
not_falling m d xs ys params forms pair fits none =
    elim (le_or_lt (at_source d forms xs) (at_target d forms ys)) [
      | inl h ↦ h
      | inr h ↦
          let point = xs ++ (ys ++ params) in
          let v = value_of-difference m d xs ys params forms pair fits in
          let c = value_of-complement (difference m d forms) point in
          absurd (none point (met m d xs ys params (complement (difference m d forms)) pair (omega (arith, ints))))
    ]

-- nor rise
pub not_rising : (m : ℕ) (d : Dependence) (xs ys params : List ℤ) (forms : List Affine)
    → IsPairOf m d xs ys params → SuitsEnds d.source d.target forms
    → HasNoPoint (row_behind d (above (difference m d forms)))
    → at_target d forms ys ≤ℤ at_source d forms xs
not_rising m d xs ys params forms pair fits none =
    elim (le_or_lt (at_target d forms ys) (at_source d forms xs)) [
      | inl h ↦ h
      | inr h ↦
          let point = xs ++ (ys ++ params) in
          let v = value_of-difference m d xs ys params forms pair fits in
          let c = value_of-above (difference m d forms) point in
          absurd (none point (met m d xs ys params (above (difference m d forms)) pair (omega (arith, ints))))
    ]

-- rows with equal values hold as an equality
pub equal_pair : (m : ℕ) (d : Dependence) (xs ys params : List ℤ) (forms : List Affine)
    → IsPairOf m d xs ys params → SuitsEnds d.source d.target forms
    → at_source d forms xs ≡ at_target d forms ys
    → IsPairOf m (equality_behind d (difference m d forms)) xs ys params
equal_pair m d xs ys params forms pair fits e =
    let v = value_of-difference m d xs ys params forms pair fits in
    pair_equal m d xs ys params (difference m d forms) pair (omega (arith, ints))
