-- Numbers that are the same modulo 2^64.
use Rattle.std.specs.Prelude.{◌≡◌, ℤ, List, [], ◌∷◌, ⊤}
use Rattle.std.specs.Int.{int_wrap, w64}

-- two numbers are
abbrev pub IsSame : ℤ → ℤ → Type 0
IsSame x y = int_wrap w64 x ≡ int_wrap w64 y

-- two lists are as long, and are so entry by entry
abbrev pub AreSame : List ℤ → List ℤ → Type 0
AreSame [] [] = ⊤
AreSame [] (y ∷ ys) = ⊥
AreSame (x ∷ xs) [] = ⊥
AreSame (x ∷ xs) (y ∷ ys) = IsSame x y × AreSame xs ys
