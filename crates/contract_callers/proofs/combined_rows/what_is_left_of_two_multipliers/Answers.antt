use Rattle.scop_syntax.proofs.Common.{◌≡◌, ◌≤◌, List, length, pos, negsuc, [], ◌∷◌, inl, inr, refl, arith, ◌≤ℤ◌, ints}
use Rattle.scop_syntax.proofs.Common.{All-from_recursion, All-nil, All-take, recursion_from_All, Affine, complement}
use Rattle.scop_syntax.proofs.Common.{form_of}
use Rattle.whole_numbers.specs.Content.{gcd_of, lowest_of_form}
use Rattle.fractions.specs.Elimination.{eliminated}
use Rattle.fractions.specs.Farkas.{HasNoPoint, IsHomogeneous, Leaves}
use Rattle.fractions.specs.Fractions.{value_over}
use Rattle.contract_callers.specs.SmallRows.{matching, multipliers}
use Rattle.contract_callers.proofs.combined_rows.what_is_left_of_two_multipliers.Goals as goal

-- k <= c
abbrev last : Affine
last = form_of (pos 1 ∷ negsuc 0 ∷ []) (pos 0)

-- 0 <= c
abbrev own : Affine
own = form_of (pos 1 ∷ pos 0 ∷ []) (pos 0)

-- no point that is not negative has c below 0
none : HasNoPoint 2 [] (last ∷ complement own ∷ [])
none [] size positive holds = absurd (omega (arith, size))
none (x ∷ []) size positive holds = absurd (omega (arith, size))
none (x ∷ y ∷ []) size positive holds =
    let parts = recursion_from_All (λ x. pos 0 ≤ℤ x) (x ∷ y ∷ []) positive in
    let least =
    recursion_from_All (λ f. pos 0 ≤ℤ value_over f (pos 1) (x ∷ y ∷ [])) (last ∷ complement own ∷ []) holds.1 in
    omega (arith, ints, parts.0, least.1.0)
none (x ∷ y ∷ z ∷ xs) size positive holds = absurd (omega (arith, size))

-- c = m1, over c, k and m1
abbrev equal : Affine
equal = form_of (pos 1 ∷ pos 0 ∷ negsuc 0 ∷ []) (pos 0)

-- 0 <= m1 and k <= m1
abbrev rows : List Affine
rows = form_of (pos 0 ∷ pos 0 ∷ pos 1 ∷ []) (pos 0) ∷ form_of (pos 0 ∷ negsuc 0 ∷ pos 1 ∷ []) (pos 0) ∷ []

-- without m0 both rows are kept, without m1 the last alone
leaves : Leaves 2 2 matching multipliers [] (last ∷ [])
unfolding eliminated lowest_of_form gcd_of
leaves = (
  rows,
  inl (inl refl),
  λ d numerators all. All-take (λ f. pos 0 ≤ℤ value_over f d numerators) 1 rows all,
  All-from_recursion IsHomogeneous (equal ∷ []) (refl, tt),
  All-from_recursion IsHomogeneous rows (refl, (refl, tt)),
  (
    last ∷ [],
    inr (none, inl refl),
    λ d numerators all. All-nil (λ (f : Affine). pos 0 ≤ℤ value_over f d numerators),
    All-nil IsHomogeneous,
    All-from_recursion IsHomogeneous (own ∷ last ∷ []) (refl, (refl, tt)),
    (refl, refl),
  ),
)

pub returns : goal.returns
returns c = λ k l.
    c.what_elimination_leaves_is_farkas.ensures ((pos 1 ∷ pos 0 ∷ []) ∷ []) (pos 0 ∷ negsuc 0 ∷ [])
    (form_of (pos 1 ∷ []) (negsuc 0) ∷ []) [] (last ∷ []) (pos k ∷ pos l ∷ [])
    (All-from_recursion (λ l. length l ≡ 2) ((pos 1 ∷ pos 0 ∷ []) ∷ []) (refl, tt)) refl
    (All-from_recursion (λ g. length g.coefficients ≤ 1) (form_of (pos 1 ∷ []) (negsuc 0) ∷ []) (omega arith, tt))
    (All-from_recursion (λ x. pos 0 ≤ℤ x) (pos k ∷ pos l ∷ []) (omega (arith, ints), (omega (arith, ints), tt))) leaves
