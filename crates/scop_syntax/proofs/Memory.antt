-- A store changes its cell and no other.
use Rattle.whole_numbers.proofs.Common.{◌≡◌, ◌≢◌, ℕ, zero, suc, ◌+◌, ◌*◌, ◌<◌, ◌≤◌, ℤ, pos, negsuc, List, [], ◌∷◌}
use Rattle.whole_numbers.proofs.Common.{length, get_or, set, inl, inr, ap, ap₂, subst, sym, ◌∙◌, refl, arith}
use Rattle.whole_numbers.proofs.Common.{mul-le-mul_right, mul_assoc, add-mul, one-mul, mul-one, ◌≤ℤ◌, ◌<ℤ◌, ints}
use Rattle.whole_numbers.proofs.Common.{eqb_tells, get_or-set_same, get_or-set_other, length-set, get_or-map}
use Rattle.whole_numbers.proofs.Common.{length-map, map-set_same}
use Rattle.scop_syntax.specs.Cells.{Cell}
use Rattle.scop_syntax.specs.Execution.{size_of, cell_count, AreWithin, IsCell, offset_from, offset_of, held, stored}
use Rattle.scop_syntax.specs.Execution.{IsShaped}

-- Horner's rule gives each cell an offset of its own
one_step : (o p e s t : ℕ) → s < e → t < e → o * e + s ≡ p * e + t → (o ≡ p) × (s ≡ t)
one_step zero zero e s t h k q = (refl, omega arith)
one_step zero (suc p) e s t h k q =
    absurd (let m = add-mul p 1 e in let n = one-mul e in let z : suc p ≡ p + 1 = omega arith in
    let f = ap (λ i. i * e) z in omega arith)
one_step (suc o) zero e s t h k q =
    absurd (let m = add-mul o 1 e in let n = one-mul e in let z : suc o ≡ o + 1 = omega arith in
    let f = ap (λ i. i * e) z in omega arith)
one_step (suc o) (suc p) e s t h k q =
    let m = add-mul o 1 e in
    let m' = add-mul p 1 e in
    let n = one-mul e in
    let f = ap (λ i. i * e) (let z : suc o ≡ o + 1 = omega arith in z) in
    let f' = ap (λ i. i * e) (let z : suc p ≡ p + 1 = omega arith in z) in
    let r = one_step o p e s t h k (omega arith) in
    (ap suc r.0, r.1)

pub size_below : (n : ℕ) (s : ℤ) → pos 0 ≤ℤ s → s <ℤ pos n → size_of s < n
size_below n (pos m) low high = omega (arith, ints)
size_below n (negsuc m) low high = absurd (omega (arith, ints))

size_same : (s t : ℤ) → pos 0 ≤ℤ s → pos 0 ≤ℤ t → size_of s ≡ size_of t → s ≡ t
size_same (pos m) (pos n) h k e = ap pos e
size_same (pos m) (negsuc n) h k e = absurd (omega (arith, ints))
size_same (negsuc m) t h k e = absurd (omega (arith, ints))

pub offsets_differ : (es : List ℕ) (o p : ℕ) (ss ts : List ℤ) → AreWithin ss es → AreWithin ts es
    → offset_from o es ss ≡ offset_from p es ts → (o ≡ p) × (ss ≡ ts)
offsets_differ [] o p [] [] g h e = (e, refl)
offsets_differ [] o p [] (t ∷ ts) g h e = absurd h
offsets_differ [] o p (s ∷ ss) ts g h e = absurd g
offsets_differ (x ∷ xs) o p [] ts g h e = absurd g
offsets_differ (x ∷ xs) o p (s ∷ ss) [] g h e = absurd h
offsets_differ (x ∷ xs) o p (s ∷ ss) (t ∷ ts) g h e =
    let r = offsets_differ xs (o * x + size_of s) (p * x + size_of t) ss ts g.2 h.2 e in
    let q = one_step o p x (size_of s) (size_of t) (size_below x s g.0 g.1) (size_below x t h.0 h.1) r.0 in
    (q.0, ap₂ (λ (a : ℤ) (bs : List ℤ). a ∷ bs) (size_same s t g.0 h.0 q.1) r.1)

-- the offset lies below the number of cells
pub offset_below : (es : List ℕ) (o : ℕ) (ss : List ℤ) → AreWithin ss es → offset_from o es ss < (o + 1) * cell_count es
offset_below [] o [] w = let e = mul-one (o + 1) in omega arith
offset_below [] o (s ∷ ss) w = absurd w
offset_below (x ∷ xs) o [] w = absurd w
offset_below (x ∷ xs) o (s ∷ ss) w =
    let t = size_of s in
    let below = size_below x s w.0 w.1 in
    let r = offset_below xs (o * x + t) ss w.2 in
    let spread : (o + 1) * x ≡ o * x + x = add-mul o 1 x ∙ ap (λ n. o * x + n) (one-mul x) in
    let front : o * x + t + 1 ≤ (o + 1) * x = omega arith in
    let all : (o * x + t + 1) * cell_count xs ≤ (o + 1) * x * cell_count xs = mul-le-mul_right (cell_count xs) front in
    let same = mul_assoc (o + 1) x (cell_count xs) in
    omega arith

-- so it lies in the array's row
shape_arrays : (es rows : List (List ℕ)) → IsShaped es rows → length rows ≡ length es
shape_arrays es rows e = sym (length-map rows length) ∙ (ap length e ∙ length-map es cell_count)

shape_row : (es rows : List (List ℕ)) (a : ℕ) → IsShaped es rows → a < length es
    → length (get_or rows a []) ≡ cell_count (get_or es a [])
shape_row es rows a e h =
    let n = shape_arrays es rows e in
    sym (get_or-map length rows a [] 0 (omega arith)) ∙ (ap (λ l. get_or l a 0) e ∙ get_or-map cell_count es a [] 0 h)

pub cell_array : (es rows : List (List ℕ)) (c : Cell) → IsShaped es rows → IsCell es c → c.array < length rows
cell_array es rows c e is = let n = shape_arrays es rows e in let h = is.array in omega arith

pub cell_offset : (es rows : List (List ℕ)) (c : Cell) → IsShaped es rows → IsCell es c
    → offset_of es c < length (get_or rows c.array [])
cell_offset es rows c e is =
    let b = offset_below (get_or es c.array []) 0 c.subscripts is.subscripts in
    let r = shape_row es rows c.array e is.array in
    let one = one-mul (cell_count (get_or es c.array [])) in
    let z : 0 + 1 ≡ 1 = omega arith in
    let f = ap (λ n. n * cell_count (get_or es c.array [])) z in
    omega arith

-- what is stored is held
pub held_stored : (es rows : List (List ℕ)) (c : Cell) (v : ℕ) → IsShaped es rows → IsCell es c
    → held es (stored es rows c v) c ≡ v
held_stored es rows c v e is =
    let row = get_or rows c.array [] in
    let o = offset_of es c in
    ap (λ l. get_or l o 0) (get_or-set_same rows c.array (set row o v) [] (cell_array es rows c e is))
    ∙ get_or-set_same row o v 0 (cell_offset es rows c e is)

pub shape_stored : (es rows : List (List ℕ)) (c : Cell) (v : ℕ) → IsShaped es rows → IsShaped es (stored es rows c v)
shape_stored es rows c v e =
    map-set_same length rows c.array (set (get_or rows c.array []) (offset_of es c) v) []
    (length-set (get_or rows c.array []) (offset_of es c) v) ∙ e

-- and every other cell holds what it held
held_elsewhere : (es rows : List (List ℕ)) (a : ℕ) (ss ts : List ℤ) (v : ℕ) → IsShaped es rows
    → IsCell es (record { array = a; subscripts = ss }) → IsCell es (record { array = a; subscripts = ts })
    → (ss ≡ ts → ⊥)
    → held es (stored es rows (record { array = a; subscripts = ss }) v)
    (record { array = a; subscripts = ts }) ≡ held es rows (record { array = a; subscripts = ts })
held_elsewhere es rows a ss ts v e c d differ =
    let row = get_or rows a [] in
    let o = offset_from 0 (get_or es a []) ss in
    let p = offset_from 0 (get_or es a []) ts in
    let apart : p ≢ o = λ q. differ (offsets_differ (get_or es a []) 0 0 ss ts c.subscripts d.subscripts (sym q)).1 in
    ap (λ l. get_or l p 0)
    (get_or-set_same rows a (set row o v) [] (cell_array es rows (record { array = a; subscripts = ss }) e c))
    ∙ get_or-set_other row o p v 0 apart

pub held_other : (es rows : List (List ℕ)) (c d : Cell) (v : ℕ) → IsShaped es rows → IsCell es c → IsCell es d
    → (c.array ≡ d.array → c.subscripts ≡ d.subscripts → ⊥)
    → held es (stored es rows c v) d ≡ held es rows d
held_other es rows c d v e is_c is_d differ = elim (eqb_tells d.array c.array) [
  | inl q ↦
      let same : Cell = record { array = d.array; subscripts = c.subscripts } in
      let f : IsCell es same = subst (λ (a : ℕ). IsCell es (record { array = a; subscripts = c.subscripts }))
      (sym q.1) is_c in
      subst (λ (a : ℕ). held es
      (stored es rows (record { array = a; subscripts = c.subscripts }) v) d ≡ held es rows d) q.1
      (held_elsewhere es rows d.array c.subscripts d.subscripts v e f is_d (differ (sym q.1)))
  | inr q ↦ ap (λ l. get_or l (offset_of es d) 0)
      (get_or-set_other rows c.array d.array (set (get_or rows c.array []) (offset_of es c) v) [] q.1)
]
