-- Values of forms along turns that go on by equal steps, as numbers below 2^64.
use Rattle.scop_syntax.proofs.Common.{◌≡◌, ◌∙◌, ap, ap₂, subst, sym, refl, ℕ, suc, ◌+◌, ◌<◌, ◌≤◌, ◌%◌, ◌^◌, List}
use Rattle.scop_syntax.proofs.Common.{length, arith, inl, inr, Some, set, zero, ◌⊎◌, ◌≢◌, [], ◌∷◌, ℤ, pos, negsuc}
use Rattle.scop_syntax.proofs.Common.{neg_ℤ, ◌+ℤ◌, ◌-ℤ◌, slice_get, map, take, cast_signed, cast_unsigned, w64}
use Rattle.scop_syntax.proofs.Common.{int_wrap-add_left, int_wrap-add_right, ints, to_z-of_z, Affine, value_of, dot}
use Rattle.scop_syntax.proofs.Common.{sums, dot-sums, dot_comm, wrapped, wrapped_is}
use Rattle.std.specs.Int.{int_wrap}
use Rattle.std.proofs.lemmas.Int.{of_z-to_z, wrapping_add-bits}
use Rattle.std.proofs.lemmas.Int.{SFits-int_wrap}
use Rattle.tile_table.specs.Lanes.{AreLanes, IsLane}
use Rattle.tile_table.specs.declared.lane.Lane.{Lane}

below : (x : ℤ) → wrapped x < 2 ^ 64
below (pos n) = omega arith
below (negsuc n) = omega arith

signed : (x : ℤ) → cast_signed w64 (wrapped x) ≡ int_wrap w64 x
signed x = ap (cast_signed w64) (sym (wrapped_is x)) ∙ to_z-of_z w64 (int_wrap w64 x) (SFits-int_wrap w64 x)

-- sums wrapped
wrapped_sum : (x y : ℤ) → wrapped (x +ℤ y) ≡ (wrapped x + wrapped y) % 2 ^ 64
wrapped_sum x y =
    let n = (wrapped x + wrapped y) % 2 ^ 64 in
    let small : n < 2 ^ 64 = omega arith in
    let same : cast_signed w64 n ≡ int_wrap w64 (x +ℤ y) =
    wrapping_add-bits w64 (wrapped x) (wrapped y) (below x) (below y)
    ∙ (ap₂ (λ (a b : ℤ). int_wrap w64 (a +ℤ b)) (signed x) (signed y)
    ∙ (int_wrap-add_left w64 x (int_wrap w64 y) ∙ int_wrap-add_right w64 x y)) in
    sym (wrapped_is (x +ℤ y)) ∙ (ap (cast_unsigned w64) (sym same) ∙ of_z-to_z w64 n small)

-- the value of a form behind steps
value_behind : (form : Affine) (turns steps : List ℤ)
    → value_of form (sums turns steps) ≡ value_of form turns +ℤ dot form.coefficients steps
value_behind form turns steps =
    let cs = form.coefficients in
    let both : dot cs (sums turns steps) ≡ dot cs turns +ℤ dot cs steps =
    dot_comm cs (sums turns steps)
    ∙ (dot-sums turns steps cs ∙ ap₂ (λ (a b : ℤ). a +ℤ b) (dot_comm turns cs) (dot_comm steps cs)) in
    omega (arith, ints)

-- less its constant, at the steps, it is the step
pub slope_wrapped : (form : Affine) (steps : List ℤ)
    → int_wrap w64 (int_wrap w64 (value_of form steps) -ℤ form.constant) ≡ int_wrap w64 (dot form.coefficients steps)
slope_wrapped form steps =
    let v = value_of form steps in
    let k = form.constant in
    let turned : int_wrap w64 v -ℤ k ≡ int_wrap w64 v +ℤ neg_ℤ k = omega (arith, ints) in
    let own : v +ℤ neg_ℤ k ≡ dot form.coefficients steps = omega (arith, ints) in
    ap (int_wrap w64) turned ∙ (int_wrap-add_left w64 v (neg_ℤ k) ∙ ap (int_wrap w64) own)

-- what makes a lane
pub is_lane : (form : Affine) (steps turns : List ℤ) (lane : Lane) → lane.at ≡ wrapped (value_of form turns)
    → lane.step ≡ wrapped (dot form.coefficients steps) → IsLane form steps turns lane
is_lane form steps turns lane at step = record {
  at = at;
  step = λ ts.
      ap wrapped (value_behind form ts steps)
      ∙ (wrapped_sum (value_of form ts) (dot form.coefficients steps)
      ∙ ap (λ (s : ℕ). (wrapped (value_of form ts) + s) % 2 ^ 64) (sym step));
}

-- an element of a list of which one was replaced
set_cases : {A : Type 0} (xs : List A) (k a : ℕ) (y x : A) → slice_get (set xs k y) a ≡ Some x
    → ((a ≡ k) × (y ≡ x)) ⊎ ((a ≢ k) × (slice_get xs a ≡ Some x))
set_cases [] k a y x at = absurd cc
set_cases {A} (z ∷ xs) zero zero y x at = inl (refl, cc)
set_cases (z ∷ xs) zero (suc a) y x at = inr (λ e. omega (arith, e), at)
set_cases (z ∷ xs) (suc k) zero y x at = inr (λ e. omega (arith, e), at)
set_cases (z ∷ xs) (suc k) (suc a) y x at = elim (set_cases xs k a y x at) [
  | inl h ↦ inl (ap suc h.0, h.1)
  | inr h ↦ inr (λ e. h.0 (omega (arith, e)), h.1)
]

-- one lane more is laid
pub lane_more : (forms : List Affine) (steps turns : List ℤ) (lanes : List Lane) (k : ℕ) (new : Lane)
    → ((form : Affine) → slice_get forms k ≡ Some form → IsLane form steps turns new)
    → ((a : ℕ) (form : Affine) (lane : Lane) → a < k → slice_get forms a ≡ Some form → slice_get lanes a ≡ Some lane
    → IsLane form steps turns lane)
    → (a : ℕ) (form : Affine) (lane : Lane) → a < k + 1 → slice_get forms a ≡ Some form
    → slice_get (set lanes k new) a ≡ Some lane → IsLane form steps turns lane
lane_more forms steps turns lanes k new own each a form lane less told at = elim (set_cases lanes k a new lane at) [
  | inl h ↦ subst (IsLane form steps turns) h.1
      (own form (ap (slice_get forms) (sym h.0) ∙ told))
  | inr h ↦ let other = h.0 in each a form lane (omega (arith, less, other)) told h.1
]

-- the first k lanes are one step on, the others are not
pub record AreOn (k : ℕ) (forms : List Affine) (steps turns : List ℤ) (lanes : List Lane) : Type 0 where
  pub done : (a : ℕ) (form : Affine) (lane : Lane) → a < k → slice_get forms a ≡ Some form
      → slice_get lanes a ≡ Some lane → IsLane form steps (sums turns steps) lane
  pub left : (a : ℕ) (form : Affine) (lane : Lane) → k ≤ a → slice_get forms a ≡ Some form
      → slice_get lanes a ≡ Some lane → IsLane form steps turns lane

pub lane_on : (k : ℕ) (forms : List Affine) (steps turns : List ℤ) (lanes : List Lane) (old new : Lane)
    → slice_get lanes k ≡ Some old
    → ((form : Affine) → IsLane form steps turns old → IsLane form steps (sums turns steps) new)
    → AreOn k forms steps turns lanes → AreOn (k + 1) forms steps turns (set lanes k new)
lane_on k forms steps turns lanes old new here on are = record {
  done = lane_more forms steps (sums turns steps) lanes k new
      (λ form told. on form (are.left k form old (omega arith) told here)) are.done;
  left = λ a form lane more told at. elim (set_cases lanes k a new lane at) [
    | inl h ↦ let same = h.0 in absurd (omega (arith, more, same))
    | inr h ↦ are.left a form lane (omega (arith, more)) told h.1
  ];
}

-- where lanes stand
pub stands_at : (forms : List Affine) (steps turns : List ℤ) (lanes : List Lane) → length forms ≤ length lanes
    → AreLanes forms steps turns lanes
    → map (λ lane. lane.at) (take (length forms) lanes) ≡ map (λ form. wrapped (value_of form turns)) forms
stands_at [] steps turns lanes few are = refl
stands_at (form ∷ forms) steps turns [] few are = absurd (omega (arith, few))
stands_at (form ∷ forms) steps turns (lane ∷ lanes) few are =
    ap₂ (λ (x : ℕ) (xs : List ℕ). x ∷ xs) (are.each 0 form lane refl refl).at
    (stands_at forms steps turns lanes (omega (arith, few))
    (record { each = λ a f l told at. are.each (suc a) f l told at }))
