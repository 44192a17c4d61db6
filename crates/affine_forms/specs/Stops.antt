-- Where a sum of products first leaves 128 bits.
use Rattle.std.specs.Prelude.{◌≡◌, ℤ, ◌+ℤ◌, ◌*ℤ◌, List, [], ◌∷◌, ◌⊎◌, IsTrue, IsFalse}
use Rattle.wide_math.specs.Fits.{fits}
use Rattle.wide_math.specs.declared.Op.TheVariants.{Add, Mul}
use Rattle.wide_math.specs.declared.Wide.{Wide}
use Rattle.wide_math.specs.Checked.{wide}

-- adding the products of two lists to a sum, in order, first leaves 128 bits as w tells: at a product, or at the
-- sum with a product that fits, all products and sums before it fitting
abbrev pub StopsFrom : ℤ → List ℤ → List ℤ → Wide → Type 0
StopsFrom sum [] ys w = ⊥
StopsFrom sum (x ∷ xs) [] w = ⊥
StopsFrom sum (x ∷ xs) (y ∷ ys) w =
    (IsFalse (fits (x *ℤ y)) × (w ≡ wide Mul x y))
    ⊎ (IsTrue (fits (x *ℤ y)) × IsFalse (fits (sum +ℤ (x *ℤ y))) × (w ≡ wide Add sum (x *ℤ y)))
    ⊎ (IsTrue (fits (x *ℤ y)) × IsTrue (fits (sum +ℤ (x *ℤ y))) × StopsFrom (sum +ℤ (x *ℤ y)) xs ys w)
