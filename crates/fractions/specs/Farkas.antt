-- Farkas's lemma (Schrijver, Theory of Linear and Integer Programming, corollary 7.1h): the identity, its matching of
-- coefficients, and what is left when the multipliers are eliminated and rows are dropped.
use Rattle.std.specs.Prelude.{◌≡◌, ℕ, zero, suc, ◌+◌, ℤ, pos, negsuc, ◌+ℤ◌, ◌*ℤ◌, neg_ℤ, ◌≤ℤ◌, ◌<ℤ◌, List}
use Rattle.std.specs.Prelude.{[], ◌∷◌, ◌++◌, length, map, All, ◌⊎◌}
use Rattle.whole_numbers.specs.Affine.{Affine, sum_of_forms, multiple_of_form, form_of, complement}
use Rattle.whole_numbers.specs.Lists.{dot, multiples, zeros}
use Rattle.fractions.specs.Elimination.{coefficient_of, narrowed, eliminated}
use Rattle.fractions.specs.Fractions.{value_over, HoldsOver}

-- some fractions for n variables behind those of numerators / d, all over a multiple of d
pub record HoldsForSomeMore (n : ℕ) (equalities rows : List Affine) (d : ℤ) (numerators : List ℤ) : Type 0 where
  pub factor : ℤ
  pub more : List ℤ
  pub positive : pos 0 <ℤ factor
  pub size : length more ≡ n
  pub holds : HoldsOver equalities rows (factor *ℤ d) (multiples factor numerators ++ more)

-- each form times its multiplier, added up
abbrev pub combination : List ℤ → List Affine → Affine
combination [] gs = form_of [] (pos 0)
combination (m ∷ ms) [] = form_of [] (pos 0)
combination (m ∷ ms) (g ∷ gs) = sum_of_forms (multiple_of_form m g) (combination ms gs)

-- no entry is negative
abbrev pub AreNotNegative : List ℤ → Type 0
AreNotNegative xs = All (λ x. pos 0 ≤ℤ x) xs

-- Farkas's identity: a positive multiple of the form is a constant and a combination of the rows, none of
-- the multipliers negative; the two sides agree in each coefficient and in the constant
pub record HasFarkas (rows : List Affine) (form : Affine) : Type 0 where
  pub factor : ℤ
  pub free : ℤ
  pub multipliers : List ℤ
  pub positive : pos 0 <ℤ factor
  pub size : length multipliers ≡ length rows
  pub not_negative : AreNotNegative (free ∷ multipliers)
  pub linear : (i : ℕ) → factor *ℤ coefficient_of i form ≡ coefficient_of i (combination multipliers rows)
  pub constant : factor *ℤ form.constant ≡ free +ℤ (combination multipliers rows).constant

-- an equality is two rows: the form, and the form times -1
abbrev pub two_rows : List Affine → List Affine
two_rows [] = []
two_rows (e ∷ es) = e ∷ multiple_of_form (negsuc 0) e ∷ two_rows es

-- a form whose numbers are linear in unknowns: a list of factors for each coefficient, and one for the constant
abbrev pub form_at : List (List ℤ) → List ℤ → List ℤ → Affine
form_at linear constant unknowns = form_of (map (λ l. dot l unknowns) linear) (dot constant unknowns)

-- the equality that matches coefficient i: the form's, less the rows' times their multipliers
abbrev pub matched : ℕ → List ℤ → List Affine → Affine
matched i l rows = form_of (l ++ pos 0 ∷ map (λ g. neg_ℤ (coefficient_of i g)) rows) (pos 0)

-- the one that matches the constant: less m0 too
abbrev pub matched_constant : List ℤ → List Affine → Affine
matched_constant l rows = form_of (l ++ negsuc 0 ∷ map (λ g. neg_ℤ g.constant) rows) (pos 0)

-- coefficients from i on, then the constant
abbrev pub matched_from : ℕ → List (List ℤ) → List ℤ → List Affine → List Affine
matched_from i [] constant rows = matched_constant constant rows ∷ []
matched_from i (l ∷ ls) constant rows = matched i l rows ∷ matched_from (suc i) ls constant rows

-- the rows of n unknowns behind others: each is not negative
abbrev pub own_rows : ℕ → ℕ → List Affine
own_rows before zero = []
own_rows before (suc n) = form_of (zeros before ++ pos 1 ∷ zeros n) (pos 0) ∷ own_rows (before + 1) n

-- the constraint has no constant
abbrev pub IsHomogeneous : Affine → Type 0
IsHomogeneous f = f.constant ≡ pos 0

-- no whole point that is not negative satisfies
abbrev pub HasNoPoint : ℕ → List Affine → List Affine → Type 0
HasNoPoint n equalities rows = (xs : List ℤ) → length xs ≡ n → AreNotNegative xs
    → HoldsOver equalities rows (pos 1) xs → ⊥

-- walking through the rest of the rows behind those in front: each is kept, or is dropped since its complement with all
-- the other rows that are left has no whole point >= 0; `kept` is what is left at the end
abbrev pub Dropped : ℕ → List Affine → List Affine → List Affine → List Affine → Type 0
Dropped n equalities front [] kept = front ≡ kept
Dropped n equalities front (r ∷ rest) kept =
    Dropped n equalities (front ++ r ∷ []) rest kept
    ⊎ (HasNoPoint n equalities ((front ++ rest) ++ complement r ∷ []) × Dropped n equalities front rest kept)

-- wherever the forms of the second list are not negative, those of the first are not
abbrev pub AreAmong : List Affine → List Affine → Type 0
AreAmong fs gs = (d : ℤ) (numerators : List ℤ) → All (λ g. pos 0 ≤ℤ value_over g d numerators) gs
    → All (λ f. pos 0 ≤ℤ value_over f d numerators) fs

-- n eliminations of the variable behind b others, its column dropped, each followed by dropping rows, never the own
-- rows of what is still to be eliminated; all is homogeneous
abbrev pub Leaves : ℕ → ℕ → List Affine → List Affine → List Affine → List Affine → Type 0
Leaves b zero equalities rows last_equalities last_rows = (equalities ≡ last_equalities) × (rows ≡ last_rows)
Leaves b (suc n) equalities rows last_equalities last_rows =
    (kept : List Affine)
    × Dropped (b + n) (map (narrowed b) (eliminated b equalities rows).0) []
    (map (narrowed b) (eliminated b equalities rows).1) kept
    × AreAmong (own_rows b n) kept
    × All IsHomogeneous (map (narrowed b) (eliminated b equalities rows).0)
    × All IsHomogeneous (map (narrowed b) (eliminated b equalities rows).1)
    × Leaves b n (map (narrowed b) (eliminated b equalities rows).0) kept last_equalities last_rows
