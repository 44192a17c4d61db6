-- Rows of greater numbers are weaker, since parameters are not negative; a row above those of one part in the
-- dimensions.
use Rattle.scop_syntax.proofs.Common.{◌≡◌, ◌∙◌, ℕ, zero, suc, ◌+◌, ◌<◌, ℤ, pos, List, [], ◌∷◌, ◌++◌, length, get_or}
use Rattle.scop_syntax.proofs.Common.{take, drop, ap, refl, subst, sym, arith, ◌*ℤ◌, ◌≤ℤ◌, ⊤, All, ints, All-tail, dot}
use Rattle.scop_syntax.proofs.Common.{Affine, value_of, multiple_of_form, length-multiples, mul_le, mul_not_negative}
use Rattle.scop_syntax.proofs.Common.{value_of-multiple}
use Rattle.whole_numbers.specs.Content.{lowest_of_form}
use Rattle.fractions.proofs.PointValues.{value_over-one}
use Rattle.fractions.proofs.Content.{lowest_sign}
use Rattle.affine_forms.specs.Parts.{variables_of}
use Rattle.scop_syntax.specs.Limits.{AreInRange, IsInRange}
use Rattle.fm_projection.proofs.Exact.{lowest_sized}
use Rattle.loop_tree.specs.Walk.{max_z}
use Rattle.loop_tree.proofs.Extremes.{below_max, max_below}
use Rattle.plain_scan.specs.declared.set_outline.Outline.{Outline}
use Rattle.plain_scan.specs.Between.{HasSmallNumbers}
use Rattle.plain_scan.specs.Outlines.{IsRowBefore}
use Rattle.plain_scan.specs.Hulls.{HoldsAt}
use Rattle.plain_scan.specs.steps.Weaker.{IsWeaker, Follows, IsAbove, greater_numbers, greater_form}
use Rattle.plain_scan.proofs.HullRows.{rows_at}

-- the first m numbers stay, the others may be greater
abbrev Raises : List ℤ → List ℤ → ℕ → Type 0
Raises [] [] m = ⊤
Raises [] (z ∷ zs) m = ⊥
Raises (x ∷ xs) [] m = ⊥
Raises (x ∷ xs) (z ∷ zs) zero = (x ≤ℤ z) × Raises xs zs zero
Raises (x ∷ xs) (z ∷ zs) (suc m) = (x ≡ z) × Raises xs zs m

no_less : (x : ℤ) → x ≤ℤ x
no_less x = omega (arith, ints)

same_number : (x y : ℤ) → x ≤ℤ y → y ≤ℤ x → x ≡ y
same_number x y h k = omega (arith, ints)

max_above : (x y : ℤ) → (x ≤ℤ max_z x y) × (y ≤ℤ max_z x y)
max_above x y = below_max x y (max_z x y) (no_less (max_z x y))

-- the greater of two equal numbers
max_same : (x y : ℤ) → x ≡ y → x ≡ max_z x y
max_same x y is =
    let less : y ≤ℤ x = omega (arith, ints, is) in
    same_number x (max_z x y) (max_above x y).0 (max_below x y x (no_less x) less)

raises_first : (xs ys : List ℤ) (m : ℕ) → length xs ≡ length ys → take m xs ≡ take m ys
    → Raises xs (greater_numbers xs ys) m
raises_first [] ys m size front = tt
raises_first (x ∷ xs) [] m size front = absurd (omega (arith, size))
raises_first (x ∷ xs) (y ∷ ys) zero size front =
    ((max_above x y).0, raises_first xs ys zero (omega (arith, size)) refl)
raises_first (x ∷ xs) (y ∷ ys) (suc m) size front = (
  max_same x y (ap (λ (zs : List ℤ). get_or zs 0 x) front),
  raises_first xs ys m (omega (arith, size)) (ap (λ (zs : List ℤ). drop 1 zs) front),
)

raises_second : (xs ys : List ℤ) (m : ℕ) → length xs ≡ length ys → take m xs ≡ take m ys
    → Raises ys (greater_numbers xs ys) m
raises_second [] [] m size front = tt
raises_second [] (y ∷ ys) m size front = absurd (omega (arith, size))
raises_second (x ∷ xs) [] m size front = absurd (omega (arith, size))
raises_second (x ∷ xs) (y ∷ ys) zero size front =
    ((max_above x y).1, raises_second xs ys zero (omega (arith, size)) refl)
raises_second (x ∷ xs) (y ∷ ys) (suc m) size front =
    let is = ap (λ (zs : List ℤ). get_or zs 0 x) front in
    (sym is ∙ max_same x y is, raises_second xs ys m (omega (arith, size)) (ap (λ (zs : List ℤ). drop 1 zs) front))

raised_dot : (xs zs front params : List ℤ) → Raises xs zs (length front) → AreInRange params
    → dot xs (front ++ params) ≤ℤ dot zs (front ++ params)
raised_dot [] [] front params raised range = no_less (pos 0)
raised_dot [] (z ∷ zs) front params raised range = absurd raised
raised_dot (x ∷ xs) [] front params raised range = absurd raised
raised_dot (x ∷ xs) (z ∷ zs) [] [] raised range = no_less (pos 0)
raised_dot (x ∷ xs) (z ∷ zs) [] (p ∷ params) raised range =
    let here = range 0 p (omega arith) in
    let first = mul_le x z p raised.0 here.0 in
    let rest = raised_dot xs zs [] params raised.1
    (All-tail IsInRange p params range) in
    omega (arith, ints, first, rest)
raised_dot (x ∷ xs) (z ∷ zs) (v ∷ front) params raised range =
    let first = ap (λ (w : ℤ). w *ℤ v) raised.0 in
    let rest = raised_dot xs zs front params raised.1 range in
    omega (arith, ints, first, rest)

raised_is_weaker : (m : ℕ) (f g : Affine) → Raises f.coefficients g.coefficients m → f.constant ≤ℤ g.constant
    → IsWeaker m f g
raised_is_weaker m f g raised above front params size range h =
    let d = raised_dot f.coefficients g.coefficients front params
    (subst (Raises f.coefficients g.coefficients) (sym size) raised) range in
    omega (arith, ints, d, above, h)

lowest_is_weaker : (m : ℕ) (f : Affine) → IsWeaker m f (lowest_of_form f)
lowest_is_weaker m f front params size range h =
    let point = front ++ params in
    let low = lowest_of_form f in
    subst (λ (z : ℤ). pos 0 ≤ℤ z) (value_over-one low point)
    ((lowest_sign f (pos 1) point).1.1 (subst (λ (z : ℤ). pos 0 ≤ℤ z) (sym (value_over-one f point)) h))

greater_size : (xs ys : List ℤ) → length xs ≡ length ys → length (greater_numbers xs ys) ≡ length xs
greater_size [] ys size = refl
greater_size (x ∷ xs) [] size = absurd (omega (arith, size))
greater_size (x ∷ xs) (y ∷ ys) size = ap suc (greater_size xs ys (omega (arith, size)))

-- the row of the greater numbers of two of one part in the first m variables, in lowest terms
pub greater_above : (m : ℕ) (g h f : Affine) → variables_of g ≡ variables_of h
    → take m g.coefficients ≡ take m h.coefficients → f ≡ lowest_of_form (greater_form g h) → HasSmallNumbers f
    → IsAbove m g h f
greater_above m g h f size front is small = record {
  sized = ap variables_of is ∙ lowest_sized (greater_form g h) ∙ greater_size g.coefficients h.coefficients size;
  small = small;
  first = λ inner params sized range v. subst (λ (q : Affine). pos 0 ≤ℤ value_of q (inner ++ params)) (sym is)
      (lowest_is_weaker m (greater_form g h) inner params sized range
      (raised_is_weaker m g (greater_form g h) (raises_first g.coefficients h.coefficients m size front)
      (max_above g.constant h.constant).0 inner params sized range v));
  second = λ inner params sized range v. subst (λ (q : Affine). pos 0 ≤ℤ value_of q (inner ++ params)) (sym is)
      (lowest_is_weaker m (greater_form g h) inner params sized range
      (raised_is_weaker m h (greater_form g h) (raises_second g.coefficients h.coefficients m size front)
      (max_above g.constant h.constant).1 inner params sized range v));
}

-- one number more
pub greater_more : (xs ys : List ℤ) (i : ℕ) (d e : ℤ) → i < length xs → length xs ≡ length ys
    → greater_numbers (take (suc i) xs) (take (suc i) ys)
    ≡ greater_numbers (take i xs) (take i ys) ++ max_z (get_or xs i d) (get_or ys i e) ∷ []
greater_more [] ys i d e inside size = absurd (omega (arith, inside))
greater_more (a ∷ xs) [] i d e inside size = absurd (omega (arith, size))
greater_more (a ∷ xs) (b ∷ ys) zero d e inside size = refl
greater_more (a ∷ xs) (b ∷ ys) (suc i) d e inside size =
    ap (λ (zs : List ℤ). max_z a b ∷ zs) (greater_more xs ys i d e (omega (arith, inside)) (omega (arith, size)))

multiple_is_weaker : (k : ℤ) (f : Affine) → pos 0 ≤ℤ k → (m : ℕ) → IsWeaker m f (multiple_of_form k f)
multiple_is_weaker k f positive m front params size range h =
    let v = value_of-multiple k f (front ++ params) in
    let p = mul_not_negative k (value_of f (front ++ params)) positive h in
    omega (arith, ints, v, p)

pub multiple_size : (k : ℤ) (f g : Affine) → g ≡ multiple_of_form k f → variables_of g ≡ variables_of f
multiple_size k f g is = ap variables_of is ∙ length-multiples k f.coefficients

-- a row above multiples of two rows is above the rows
pub multiples_above : (m : ℕ) (a b : ℤ) (g h left right f : Affine) → pos 0 ≤ℤ a → pos 0 ≤ℤ b
    → left ≡ multiple_of_form a g → right ≡ multiple_of_form b h → IsAbove m left right f → IsAbove m g h f
multiples_above m a b g h left right f first second left_is right_is above = record {
  sized = above.sized ∙ multiple_size a g left left_is;
  small = above.small;
  first = λ front params size range v. above.first front params size range
      (subst (λ (q : Affine). pos 0 ≤ℤ value_of q (front ++ params)) (sym left_is)
      (multiple_is_weaker a g first m front params size range v));
  second = λ front params size range v. above.second front params size range
      (subst (λ (q : Affine). pos 0 ≤ℤ value_of q (front ++ params)) (sym right_is)
      (multiple_is_weaker b h second m front params size range v));
}

-- a weaker row holds at a set, too
pub weaker_holds : (depth place : ℕ) (o : Outline) (g f : Affine) → o.set.now.system.dimensions ≡ place + suc depth
    → IsWeaker (suc place) g f → HoldsAt depth g o → HoldsAt depth f o
weaker_holds depth place o g f dims weaker holds params outer r range size key =
    weaker outer params (omega (arith, size, dims)) range (holds params outer r range size key)

-- so does one that follows from rows of the set
pub following_holds : (depth place : ℕ) (o : Outline) (gs : List Affine) (f : Affine)
    → o.set.now.system.dimensions ≡ place + suc depth → All (IsRowBefore depth o.set.now) gs
    → Follows (suc place) gs f → HoldsAt depth f o
following_holds depth place o gs f dims rows follows params outer r range size key =
    follows outer params (omega (arith, size, dims)) range
    (rows_at depth o.set.now gs params outer r rows range size key)
