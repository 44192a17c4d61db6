-- Of rows with the same coefficients the tightest: it is one of them, and holds exactly where all of them do.
use Rattle.whole_numbers.proofs.Common.{◌≡◌, ℕ, ◌<◌, ◌≤◌, ℤ, pos, ◌≤ℤ◌, Bool, true, false, List, [], ◌∷◌, ◌++◌, length}
use Rattle.whole_numbers.proofs.Common.{get_or, set, refl, sym, ◌∙◌, ap, subst, All, arith, ◌<ℤ◌, ◌-ℤ◌, if◌then◌else◌}
use Rattle.whole_numbers.proofs.Common.{ints, by_lt_z, false≢true, Decides-int_eq, slice_eq-Decides, All-cons, All-head}
use Rattle.whole_numbers.proofs.Common.{All-nil, All-tail, Affine, dot, mul_le}
use Rattle.std.proofs.lemmas.List.{set-get_or}
use Rattle.fractions.specs.Elimination.{is_negative}
use Rattle.fractions.specs.Fractions.{HoldsOver, value_over}
use Rattle.fractions.proofs.ChosenRows.{is_negative_iff}
use Rattle.integer_sets.specs.Constraints.{Constraints}
use Rattle.fm_projection.specs.Tightest.{are_parallel, tighter, with_row, with_rows, tightest, tightened}
use Rattle.fm_projection.specs.steps.Places.{parallel_place}

-- each row that is kept is one of the rows
pub kept_with : (P : Affine → Type 0) (fs : List Affine) (g : Affine) → All P fs → P g → All P (with_row fs g)
kept_with P [] g all own = All-cons P g [] own (All-nil P)
kept_with P (f ∷ fs) g all own = by (are_parallel f g) (kept_with P fs g (All-tail P f fs all) own)
  where
    one : (b : Bool) → P (if b then g else f)
    one true = own
    one false = All-head P f fs all

    by : (b : Bool) → All P (with_row fs g) → All P (if b then tighter f g ∷ fs else f ∷ with_row fs g)
    by true more = All-cons P (tighter f g) fs (one (is_negative (g.constant -ℤ f.constant))) (All-tail P f fs all)
    by false more = All-cons P f (with_row fs g) (All-head P f fs all) more

kept_rows : (P : Affine → Type 0) (fs gs : List Affine) → All P fs → All P gs → All P (with_rows fs gs)
kept_rows P fs [] all more = all
kept_rows P fs (g ∷ gs) all more =
    kept_rows P (with_row fs g) gs (kept_with P fs g all (All-head P g gs more)) (All-tail P g gs more)

pub kept : (P : Affine → Type 0) (rows : List Affine) → All P rows → All P (tightest rows)
kept P rows all = kept_rows P [] rows (All-nil P) all

-- so what holds at a point holds of the tightest rows
pub tightened_holds : (s : Constraints) (d : ℤ) (xs : List ℤ) → HoldsOver s.equalities s.rows d xs
    → HoldsOver (tightened s).equalities (tightened s).rows d xs
tightened_holds s d xs h = (h.0, kept (λ f. pos 0 ≤ℤ value_over f d xs) s.rows h.1)

not_less : (a b : ℤ) → is_negative (b -ℤ a) ≡ false → a ≤ℤ b
not_less a b up = by_lt_z b a (λ (l : b <ℤ a). absurd (apart l)) (λ (l : a ≤ℤ b). l)
  where
    apart : b <ℤ a → ⊥
    apart l = false≢true (sym up ∙ (is_negative_iff (b -ℤ a)).1 (omega (arith, ints, l)))

-- the tightest rows hold at a point of fractions only where all do
module _ (d : ℤ) (xs : List ℤ) (positive : pos 0 <ℤ d) where
  abbrev Holds : Affine → Type 0
  Holds f = pos 0 ≤ℤ value_over f d xs

  -- a row holds where one with the same coefficients and no greater constant does
  looser : (f g : Affine) → f.coefficients ≡ g.coefficients → f.constant ≤ℤ g.constant → Holds f → Holds g
  looser f g same less h =
      let e = ap (λ (cs : List ℤ). dot cs xs) same in
      let m = mul_le f.constant g.constant d less (omega (arith, ints, positive)) in
      omega (arith, ints, e, m, h)

  both_of_two : (f g : Affine) → f.coefficients ≡ g.coefficients → Holds (tighter f g) → Holds f × Holds g
  both_of_two f g same h = by (is_negative (g.constant -ℤ f.constant)) refl h
    where
      by : (b : Bool) → is_negative (g.constant -ℤ f.constant) ≡ b → Holds (if b then g else f) → Holds f × Holds g
      by true down k =
          let l = (is_negative_iff (g.constant -ℤ f.constant)).0 down in
          (looser g f (sym same) (omega (arith, ints, l)) k, k)
      by false up k = (k, looser f g same (not_less f.constant g.constant up) k)

  pub both_with : (fs : List Affine) (g : Affine) → All Holds (with_row fs g) → All Holds fs × Holds g
  both_with [] g h = (All-nil Holds, All-head Holds g [] h)
  both_with (f ∷ fs) g h = by (are_parallel f g) refl (both_with fs g) h
    where
      by : (b : Bool) → are_parallel f g ≡ b → (All Holds (with_row fs g) → All Holds fs × Holds g)
          → All Holds (if b then tighter f g ∷ fs else f ∷ with_row fs g) → All Holds (f ∷ fs) × Holds g
      by true same rest k =
          let cs = (slice_eq-Decides Decides-int_eq f.coefficients g.coefficients (are_parallel f g) refl).0 same in
          let two = both_of_two f g cs (All-head Holds (tighter f g) fs k) in
          (All-cons Holds f fs two.0 (All-tail Holds (tighter f g) fs k), two.1)
      by false other rest k =
          let more = rest (All-tail Holds f (with_row fs g) k) in
          (All-cons Holds f fs (All-head Holds f (with_row fs g) k) more.0, more.1)

  all_rows : (fs gs : List Affine) → All Holds (with_rows fs gs) → All Holds fs × All Holds gs
  all_rows fs [] h = (h, All-nil Holds)
  all_rows fs (g ∷ gs) h =
      let more = all_rows (with_row fs g) gs h in
      let both = both_with fs g more.0 in
      (both.0, All-cons Holds g gs both.1 more.1)

  pub loosened_holds : (s : Constraints) → HoldsOver (tightened s).equalities (tightened s).rows d xs
      → HoldsOver s.equalities s.rows d xs
  loosened_holds s h = (h.0, (all_rows [] s.rows h.1).1)

-- one row more, where no other has its coefficients
pub put_behind : (fs : List Affine) (g : Affine) → length fs ≤ parallel_place g fs → fs ++ g ∷ [] ≡ with_row fs g
put_behind [] g past = refl
put_behind (f ∷ fs) g past = by (are_parallel f g) refl (put_behind fs g)
  where
    by : (b : Bool) → are_parallel f g ≡ b → (length fs ≤ parallel_place g fs → fs ++ g ∷ [] ≡ with_row fs g)
        → f ∷ (fs ++ g ∷ []) ≡ with_row (f ∷ fs) g
    by true same rest = let p = rw same at past in absurd (omega (arith, p))
    by false other rest =
        let p = rw other at past in rw other (ap (λ (hs : List Affine). f ∷ hs) (rest (omega (arith, p))))

-- one row more, by the place of the first with its coefficients
put_at : (fs : List Affine) (g d : Affine) → parallel_place g fs < length fs
    → set fs (parallel_place g fs) (tighter (get_or fs (parallel_place g fs) d) g) ≡ with_row fs g
put_at [] g d inside = absurd (omega (arith, inside))
put_at (f ∷ fs) g d inside = by (are_parallel f g) refl (put_at fs g d)
  where
    by : (b : Bool) → are_parallel f g ≡ b
        → (parallel_place g fs < length fs
        → set fs (parallel_place g fs) (tighter (get_or fs (parallel_place g fs) d) g) ≡ with_row fs g)
        → set (f ∷ fs) (parallel_place g (f ∷ fs)) (tighter (get_or (f ∷ fs) (parallel_place g (f ∷ fs)) d) g)
        ≡ with_row (f ∷ fs) g
    by true same rest = rw same refl
    by false other rest =
        let i = rw other at inside in rw other (ap (λ (hs : List Affine). f ∷ hs) (rest (omega (arith, i))))

module _ (fs : List Affine) (g f : Affine) (place : ℕ) (is : place ≡ parallel_place g fs)
    (inside : place < length fs) (there : f ≡ get_or fs place f) where
  put_tighter_of : set fs place (tighter f g) ≡ with_row fs g
  put_tighter_of =
      ap (λ (h : Affine). set fs place (tighter h g)) there
      ∙ ap (λ (k : ℕ). set fs k (tighter (get_or fs k f) g)) is
      ∙ put_at fs g f (subst (λ k. k < length fs) is inside)

  pub put_tighter : g.constant <ℤ f.constant → set fs place g ≡ with_row fs g
  put_tighter less =
      let down = (is_negative_iff (g.constant -ℤ f.constant)).1 (omega (arith, ints, less)) in
      let e : tighter f g ≡ g = rw down refl in
      ap (λ (h : Affine). set fs place h) (sym e) ∙ put_tighter_of

  pub put_looser : f.constant ≤ℤ g.constant → fs ≡ with_row fs g
  put_looser less = by (is_negative (g.constant -ℤ f.constant)) refl
    where
      by : (b : Bool) → is_negative (g.constant -ℤ f.constant) ≡ b → fs ≡ with_row fs g
      by true down =
          let l = (is_negative_iff (g.constant -ℤ f.constant)).0 down in absurd (omega (arith, ints, l, less))
      by false up =
          let e : tighter f g ≡ f = rw up refl in
          sym (set-get_or fs place f) ∙ ap (λ (h : Affine). set fs place h) (sym there ∙ sym e) ∙ put_tighter_of
