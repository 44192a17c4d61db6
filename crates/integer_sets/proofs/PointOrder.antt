-- The lexicographic order of the points of a set.
use Rattle.std.proofs.Common.{◌≡◌, ℕ, ℤ, List, length, take, drop, refl, ◌⊎◌, ◌↔◌}
use Rattle.std.proofs.lemmas.List.{take-append-drop, length-take}
use Rattle.affine_forms.specs.Lexicographic.{LexLess}
use Rattle.affine_forms.proofs.Lexicographic.{LexLess-append_iff}

-- the fronts decide, and then the rests
pub LexLess-split : (n : ℕ) (p q : List ℤ) → length p ≡ length q
    → LexLess p q
    ↔ (LexLess (take n p) (take n q)
    ⊎ ((take n p ≡ take n q) × LexLess (drop n p) (drop n q)))
LexLess-split n p q same =
    let fronts : length (take n p) ≡ length (take n q) = simp length-take (rw same refl) in
    let iff = LexLess-append_iff (take n p) (take n q) (drop n p) (drop n q) fronts in
    rw (take-append-drop n p, take-append-drop n q) at iff
