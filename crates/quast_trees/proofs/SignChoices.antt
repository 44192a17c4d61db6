-- The choice by a number's sign.
use Rattle.whole_numbers.proofs.Common.{◌≡◌, ℤ, List, pos, negsuc, ◌≤ℤ◌, ◌<ℤ◌, Result, Ok, refl, arith, ints, Affine}
use Rattle.wide_math.specs.declared.Wide.{Wide}
use Rattle.quast_trees.specs.Leaf.{Leaf, mapped_leaf}
use Rattle.quast_trees.specs.Value.{by_sign}

-- at a number of at least 0 the first
pub by_sign_first : {A : Type 0} (z : ℤ) (a b : A) → pos 0 ≤ℤ z → by_sign z a b ≡ a
by_sign_first (pos n) a b h = refl
by_sign_first (negsuc n) a b h = absurd (omega (arith, ints))

-- at a number below 0 the second
pub by_sign_second : {A : Type 0} (z : ℤ) (a b : A) → z <ℤ pos 0 → by_sign z a b ≡ b
by_sign_second (pos n) a b h = absurd (omega (arith, ints))
by_sign_second (negsuc n) a b h = refl

-- both sides are exact, so the chosen one is
pub by_sign-exact : (v : ℤ) (first second : Result Leaf Wide) (a b l : Leaf) → (first ≡ Ok l → l ≡ a)
    → (second ≡ Ok l → l ≡ b)
    → by_sign v first second ≡ Ok l → l ≡ by_sign v a b
by_sign-exact (pos n) first second a b l p q h = p h
by_sign-exact (negsuc n) first second a b l p q h = q h

-- the chosen side's image is the chosen image
pub by_sign-mapped : (forms : List Affine) (v : ℤ) (a b c d : Leaf) → c ≡ mapped_leaf forms a
    → d ≡ mapped_leaf forms b → by_sign v c d ≡ mapped_leaf forms (by_sign v a b)
by_sign-mapped forms (pos n) a b c d p q = p
by_sign-mapped forms (negsuc n) a b c d p q = q
