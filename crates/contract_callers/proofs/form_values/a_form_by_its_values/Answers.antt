use Rattle.scop_syntax.proofs.Common.{◌≡◌, [], ◌∷◌, List, arith, length, refl, ℤ, pos, negsuc, ints, form_of, value_of}
use Rattle.contract_callers.proofs.form_values.a_form_by_its_values.Goals as goal

-- what holds at all pairs holds at all points of two numbers
at_pairs : (P : List ℤ → Type 0) → ((x y : ℤ) → P (x ∷ y ∷ [])) → (point : List ℤ) → length point ≡ 2 → P point
at_pairs P all (x ∷ y ∷ []) two = all x y
at_pairs P all [] two = absurd (omega (arith, two))
at_pairs P all (x ∷ []) two = absurd (omega (arith, two))
at_pairs P all (x ∷ y ∷ z ∷ point) two = absurd (omega (arith, two))

pub returns : goal.returns
returns c = λ f two same.
    c.forms_with_the_same_values_are_one.ensures 2 f (form_of (pos 2 ∷ negsuc 0 ∷ []) (pos 3)) two refl
    (at_pairs (λ point. value_of f point ≡ value_of (form_of (pos 2 ∷ negsuc 0 ∷ []) (pos 3)) point)
    (λ x y. let told = same x y in omega (arith, ints, told)))
