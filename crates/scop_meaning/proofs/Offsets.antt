-- The row-major offset of a cell, one dimension after another.
use Rattle.scop_syntax.proofs.Common.{◌≡◌, ℕ, zero, suc, ◌+◌, ◌*◌, ◌<◌, ◌≤◌, List, [], ◌∷◌, length, drop, get_or, ap}
use Rattle.scop_syntax.proofs.Common.{subst, sym, ◌∙◌, arith, drop-cons, refl, mul-le-mul, mul-le-mul_right, mul_assoc}
use Rattle.scop_syntax.proofs.Common.{add-mul, one-mul, mul-one, mul-le-mul_left, add-one, drop_of_length-le, ℤ, pos}
use Rattle.scop_syntax.proofs.Common.{◌<ℤ◌, ◌≤ℤ◌, ints, get_or-map, Affine, value_of, values, size_of, AreWithin}
use Rattle.scop_syntax.proofs.Common.{offset_from, cell_count}
use Rattle.scop_syntax.proofs.Memory.{size_below}

-- dimension i of a cell within its array, and the dimensions behind it
pub record DimensionsFrom (es : List ℕ) (ss : List ℤ) (i : ℕ) : Type 0 where
  pub is : i < length es
  pub low : pos 0 ≤ℤ get_or ss i (pos 0)
  pub high : get_or ss i (pos 0) <ℤ pos (get_or es i 0)
  pub rest : AreWithin (drop (suc i) ss) (drop (suc i) es)

-- where no extent is left no subscript is
none_within : (ss : List ℤ) (i : ℕ) → i < length ss → AreWithin (drop i ss) [] → ⊥
none_within [] i h w = omega arith
none_within (s ∷ ss) zero h w = w
none_within (s ∷ ss) (suc i) h w = none_within ss i (omega arith) w

pub dimension_at : (es : List ℕ) (ss : List ℤ) (i : ℕ) → AreWithin (drop i ss) (drop i es) → i < length ss
    → DimensionsFrom es ss i
dimension_at es [] i w h = absurd (omega arith)
dimension_at [] (s ∷ ss) zero w h = absurd w
dimension_at [] (s ∷ ss) (suc i) w h = absurd (none_within ss i (omega arith) w)
dimension_at (e ∷ es) (s ∷ ss) zero w h = record { is = omega arith; low = w.0; high = w.1; rest = w.2 }
dimension_at (e ∷ es) (s ∷ ss) (suc i) w h =
    let d = dimension_at es ss i w (omega arith) in
    record { is = let b : i < length es = d.is in omega arith; low = d.low; high = d.high; rest = d.rest }

-- a cell within its array: each extent is at least 1
count_positive : (es : List ℕ) (ss : List ℤ) → AreWithin ss es → 0 < cell_count es
count_positive [] ss w = omega arith
count_positive (e ∷ es) [] w = absurd w
count_positive (zero ∷ es) (s ∷ ss) w = absurd (let l = w.0 in let h = w.1 in omega (arith, ints))
count_positive (suc e ∷ es) (s ∷ ss) w = let one : 1 ≤ suc e = omega arith in mul-le-mul one (count_positive es ss w.2)

-- the offset so far, with the next subscript, stays below the cells of the dimensions that are read
below_step : (o e s rest whole : ℕ) → s < e → (o + 1) * (e * rest) ≤ whole → (o * e + s + 1) * rest ≤ whole
below_step o e s rest whole h b =
    let spread : (o + 1) * e ≡ o * e + e = add-mul o 1 e ∙ ap (λ n. o * e + n) (one-mul e) in
    let front : o * e + s + 1 ≤ (o + 1) * e = omega arith in
    let all : (o * e + s + 1) * rest ≤ (o + 1) * e * rest = mul-le-mul_right rest front in
    let same = mul_assoc (o + 1) e rest in
    omega arith

-- the dimensions before i are in the offset, and the others lie within their extents
pub record OffsetSoFar (es : List ℕ) (ss : List ℤ) (i offset : ℕ) : Type 0 where
  pub within : AreWithin (drop i ss) (drop i es)
  pub value : offset_from offset (drop i es) (drop i ss) ≡ offset_from 0 es ss
  pub below : (offset + 1) * cell_count (drop i es) ≤ cell_count es

offset_step : (es : List ℕ) (ss : List ℤ) (i o : ℕ) → i < length es → i < length ss
    → offset_from o (drop i es) (drop i ss)
    ≡ offset_from (o * get_or es i 0 + size_of (get_or ss i (pos 0))) (drop (suc i) es) (drop (suc i) ss)
offset_step es ss i o h k = rw (drop-cons es i 0, drop-cons ss i (pos 0)) refl

count_step : (es : List ℕ) (i : ℕ) → i < length es → cell_count (drop i es)
    ≡ get_or es i 0 * cell_count (drop (suc i) es)
count_step es i h = rw (drop-cons es i 0) refl

pub offset_next : (es : List ℕ) (ss : List ℤ) (i o : ℕ) → i < length ss → OffsetSoFar es ss i o
    → OffsetSoFar es ss (i + 1) (o * get_or es i 0 + size_of (get_or ss i (pos 0)))
offset_next es ss i o h c =
    let d = dimension_at es ss i c.within h in
    let e = get_or es i 0 in
    let s = get_or ss i (pos 0) in
    let t = size_of s in
    let below = below_step o e t (cell_count (drop (suc i) es)) (cell_count es) (size_below e s d.low d.high)
    (subst (λ n. (o + 1) * n ≤ cell_count es) (count_step es i d.is) c.below) in
    rw add-one (record { within = d.rest; value = sym (offset_step es ss i o d.is h) ∙ c.value; below = below })

-- the offset so far lies below the number of cells
pub offset_within : (es : List ℕ) (ss : List ℤ) (i o : ℕ) → OffsetSoFar es ss i o → o < cell_count es
offset_within es ss i o c =
    let p : 1 ≤ cell_count (drop i es) = count_positive (drop i es) (drop i ss) c.within in
    let m : (o + 1) * 1 ≤ (o + 1) * cell_count (drop i es) = mul-le-mul_left (o + 1) p in
    let one = mul-one (o + 1) in
    let b = c.below in
    omega arith

-- with every dimension in it, it is the offset
offset_end : (es : List ℕ) (o : ℕ) → AreWithin [] es → offset_from o es [] ≡ o
offset_end [] o w = refl
offset_end (e ∷ es) o w = absurd w

pub offset_whole : (es : List ℕ) (ss : List ℤ) (i o : ℕ) → length ss ≤ i → OffsetSoFar es ss i o → o
    ≡ offset_from 0 es ss
offset_whole es ss i o h c =
    let none : drop i ss ≡ [] = drop_of_length-le ss h in
    let w : AreWithin [] (drop i es) = subst (λ (l : List ℤ). AreWithin l (drop i es)) none c.within in
    sym (offset_end (drop i es) o w) ∙ (sym (ap (offset_from o (drop i es)) none) ∙ c.value)

-- the value of the subscript that the code finds
pub subscript_at : (forms : List Affine) (point : List ℤ) (i : ℕ) (f : Affine) → f ≡ get_or forms i f → i < length forms
    → get_or (values forms point) i (pos 0) ≡ value_of f point
subscript_at forms point i f is h =
    get_or-map (λ form. value_of form point) forms i f (pos 0) h ∙ ap (λ form. value_of form point) (sym is)
