-- The forms of a leaf's rows as the code puts them together: numbers at their variables, opposites, one number more.
use Rattle.dataflow.proofs.Common.{◌≡◌, ℕ, zero, suc, ◌+◌, ◌-◌, ◌<◌, ℤ, pos, negsuc, List, [], ◌∷◌, ◌++◌, length, take}
use Rattle.dataflow.proofs.Common.{drop, ap, ap₂, sym, ◌∙◌, refl, arith, get_or, length-append, set, ◌+ℤ◌, ◌-ℤ◌, ◌*ℤ◌}
use Rattle.dataflow.proofs.Common.{neg_ℤ, true, All, ints, length-take-le, get_or-append-add, get_or_append_left}
use Rattle.dataflow.proofs.Common.{All-nil, All-cons, All-head, All-tail, fits, zeros, multiples, Affine, form_of}
use Rattle.dataflow.proofs.Common.{complement, length-zeros, length-multiples, get_or-zeros, length-drop, width}
use Rattle.dataflow.proofs.Common.{placed_numbers, placed, bind_begins, bind_ends, turn_equality, CanPlace}
use Rattle.dataflow.proofs.Common.{HoldOpposites}
use Rattle.scop_syntax.proofs.Common.{sums, multiples-append, multiples-one}
use Rattle.whole_numbers.proofs.Lists.{drop-multiples}
use Rattle.dataflow.specs.declared.leaf_rows.Layout.{Layout}

pub length-placed : (l : Layout) (cs : List ℤ) → CanPlace l cs → length (placed_numbers l cs) ≡ width l
length-placed l cs can =
    let m = l.parameters in
    let n = l.parameters + l.turns in
    let back = drop n cs in
    let mid = take l.turns (drop m cs) in
    let gap = zeros (l.binds - length back) in
    let front = take m cs in
    let least = can.least in
    let most = can.most in
    let d = length-drop m cs in
    let mid_size : length mid ≡ l.turns = length-take-le l.turns (drop m cs) (omega arith) in
    let front_size : length front ≡ m = length-take-le m cs (omega arith) in
    let back_size = length-drop n cs in
    let z1 = length-zeros l.before in
    let z2 = length-zeros l.behind in
    let z3 = length-zeros (l.binds - length back) in
    let a1 = length-append (zeros l.before) (mid ++ (zeros l.behind ++ (back ++ (gap ++ front)))) in
    let a2 = length-append mid (zeros l.behind ++ (back ++ (gap ++ front))) in
    let a3 = length-append (zeros l.behind) (back ++ (gap ++ front)) in
    let a4 = length-append back (gap ++ front) in
    let a5 = length-append gap front in
    omega arith

-- the numbers' opposites stand at the same variables
opposite_zeros : (n : ℕ) → multiples (negsuc 0) (zeros n) ≡ zeros n
opposite_zeros zero = refl
opposite_zeros (suc n) = ap (λ (zs : List ℤ). pos 0 ∷ zs) (opposite_zeros n)

take-multiples : (n : ℕ) (k : ℤ) (xs : List ℤ) → take n (multiples k xs) ≡ multiples k (take n xs)
take-multiples zero k xs = refl
take-multiples (suc n) k [] = refl
take-multiples (suc n) k (x ∷ xs) = ap (λ (zs : List ℤ). (k *ℤ x) ∷ zs) (take-multiples n k xs)

pub placed_opposite : (l : Layout) (cs : List ℤ)
    → placed_numbers l (multiples (negsuc 0) cs) ≡ multiples (negsuc 0) (placed_numbers l cs)
placed_opposite l cs =
    let o : List ℤ → List ℤ = multiples (negsuc 0) in
    let join : List ℤ → List ℤ → List ℤ = λ xs ys. xs ++ ys in
    let n = l.parameters + l.turns in
    let back = drop n cs in
    let mid = take l.turns (drop l.parameters cs) in
    let gap = zeros (l.binds - length back) in
    let front = take l.parameters cs in
    let back_is : drop n (o cs) ≡ o back = drop-multiples n (negsuc 0) cs in
    let mid_is : take l.turns (drop l.parameters (o cs)) ≡ o mid =
    ap (λ (xs : List ℤ). take l.turns xs) (drop-multiples l.parameters (negsuc 0) cs)
    ∙ take-multiples l.turns (negsuc 0) (drop l.parameters cs) in
    let front_is : take l.parameters (o cs) ≡ o front = take-multiples l.parameters (negsuc 0) cs in
    let gap_is : zeros (l.binds - length (drop n (o cs))) ≡ o gap =
    ap (λ (xs : List ℤ). zeros (l.binds - length xs)) back_is
    ∙ (ap (λ (k : ℕ). zeros (l.binds - k)) (length-multiples (negsuc 0) back)
    ∙ sym (opposite_zeros (l.binds - length back))) in
    let p5 = ap₂ join gap_is front_is ∙ sym (multiples-append (negsuc 0) gap front) in
    let p4 = ap₂ join back_is p5 ∙ sym (multiples-append (negsuc 0) back (gap ++ front)) in
    let p3 = ap₂ join (sym (opposite_zeros l.behind)) p4
    ∙ sym (multiples-append (negsuc 0) (zeros l.behind) (back ++ (gap ++ front))) in
    let p2 = ap₂ join mid_is p3
    ∙ sym (multiples-append (negsuc 0) mid (zeros l.behind ++ (back ++ (gap ++ front)))) in
    ap₂ join (sym (opposite_zeros l.before)) p2
    ∙ sym (multiples-append (negsuc 0) (zeros l.before) (mid ++ (zeros l.behind ++ (back ++ (gap ++ front)))))

-- a unit's multiple added to numbers that have 0 there
nothing_behind : (k : ℤ) (xs : List ℤ) → sums xs (multiples k (zeros (length xs))) ≡ xs
nothing_behind k [] = refl
nothing_behind k (x ∷ xs) =
    let first : x +ℤ (k *ℤ pos 0) ≡ x = omega (arith, ints) in
    ap₂ (λ (z : ℤ) (zs : List ℤ). z ∷ zs) first (nothing_behind k xs)

pub unit_behind : (k : ℤ) (xs : List ℤ) (n j : ℕ) → length xs ≡ n → j < n → get_or xs j (pos 0) ≡ pos 0
    → sums xs (multiples k (set (zeros n) j (pos 1))) ≡ set xs j k
unit_behind k [] n j size less free = absurd (omega arith)
unit_behind k (x ∷ xs) zero j size less free = absurd (omega arith)
unit_behind k (x ∷ xs) (suc n) zero size less free =
    let first : x +ℤ (k *ℤ pos 1) ≡ k = omega (arith, ints) in
    let same : length xs ≡ n = omega arith in
    ap₂ (λ (z : ℤ) (zs : List ℤ). z ∷ zs) first
    (ap (λ (i : ℕ). sums xs (multiples k (zeros i))) (sym same) ∙ nothing_behind k xs)
unit_behind k (x ∷ xs) (suc n) (suc j) size less free =
    let first : x +ℤ (k *ℤ pos 0) ≡ x = omega (arith, ints) in
    ap₂ (λ (z : ℤ) (zs : List ℤ). z ∷ zs) first (unit_behind k xs n j (omega arith) (omega arith) free)

sums-comm : (xs ys : List ℤ) → sums xs ys ≡ sums ys xs
sums-comm [] [] = refl
sums-comm [] (y ∷ ys) = refl
sums-comm (x ∷ xs) [] = refl
sums-comm (x ∷ xs) (y ∷ ys) =
    let first : x +ℤ y ≡ y +ℤ x = omega (arith, ints) in
    ap₂ (λ (z : ℤ) (zs : List ℤ). z ∷ zs) first (sums-comm xs ys)

-- a number is 0 where only zeros stand
pub bound_free : (l : Layout) (k : ℕ) (cs : List ℤ) → length cs ≡ l.parameters + l.turns + k → k < l.binds
    → get_or (placed_numbers l cs) (l.before + (l.turns + (l.behind + k))) (pos 0) ≡ pos 0
bound_free l k cs size more =
    let m = l.parameters in
    let n = l.parameters + l.turns in
    let back = drop n cs in
    let mid = take l.turns (drop m cs) in
    let gap = zeros (l.binds - length back) in
    let front = take m cs in
    let d = length-drop m cs in
    let mid_size : length mid ≡ l.turns = length-take-le l.turns (drop m cs) (omega arith) in
    let back_size : length back ≡ k = let s = length-drop n cs in omega arith in
    let z1 = length-zeros l.before in
    let z2 = length-zeros l.behind in
    let z3 = length-zeros (l.binds - length back) in
    let tail = gap ++ front in
    let place : l.before + (l.turns + (l.behind + k))
    ≡ length (zeros l.before) + (length mid + (length (zeros l.behind) + (length back + 0))) = omega arith in
    let whole = placed_numbers l cs in
    ap (λ (i : ℕ). get_or whole i (pos 0)) place
    ∙ (get_or-append-add (zeros l.before) (mid ++ (zeros l.behind ++ (back ++ tail)))
    (length mid + (length (zeros l.behind) + (length back + 0))) (pos 0)
    ∙ (get_or-append-add mid (zeros l.behind ++ (back ++ tail)) (length (zeros l.behind) + (length back + 0)) (pos 0)
    ∙ (get_or-append-add (zeros l.behind) (back ++ tail) (length back + 0) (pos 0)
    ∙ (get_or-append-add back tail 0 (pos 0)
    ∙ (get_or_append_left gap front (pos 0) 0 (omega arith) ∙ get_or-zeros (l.binds - length back) 0)))))

-- the rows
pub complement_put : (l : Layout) (f : Affine) (k : ℤ) → k ≡ negsuc 0 -ℤ f.constant
    → form_of (placed_numbers l (multiples (negsuc 0) f.coefficients)) k ≡ complement (placed l f)
complement_put l f k is =
    let constant : k ≡ neg_ℤ f.constant -ℤ pos 1 = omega (arith, ints, is) in
    ap₂ (λ (zs : List ℤ) (z : ℤ). form_of zs z) (placed_opposite l f.coefficients) constant

pub begin_put : (l : Layout) (k : ℕ) (f : Affine) (d : ℤ) → CanPlace l f.coefficients
    → length f.coefficients ≡ l.parameters + l.turns + k → k < l.binds
    → form_of (set (placed_numbers l f.coefficients) (l.before + (l.turns + (l.behind + k))) (neg_ℤ d)) f.constant
    ≡ bind_begins l k f d
begin_put l k f d can size more =
    let j = l.before + (l.turns + (l.behind + k)) in
    let xs = placed_numbers l f.coefficients in
    let inside : j < width l = omega arith in
    let numbers = unit_behind (neg_ℤ d) xs (width l) j (length-placed l f.coefficients can) inside
    (bound_free l k f.coefficients size more) in
    let constant : f.constant ≡ f.constant +ℤ (neg_ℤ d *ℤ pos 0) = omega (arith, ints) in
    ap₂ (λ (zs : List ℤ) (z : ℤ). form_of zs z) (sym numbers) constant

-- numbers' opposites with a multiple of a unit in front
unit_front : (l : Layout) (cs : List ℤ) (j : ℕ) (k : ℤ) → CanPlace l cs → j < width l
    → get_or (placed_numbers l cs) j (pos 0) ≡ pos 0
    → set (placed_numbers l (multiples (negsuc 0) cs)) j k
    ≡ sums (multiples k (set (zeros (width l)) j (pos 1))) (multiples (negsuc 0) (placed_numbers l cs))
unit_front l cs j k can inside free =
    let xs = placed_numbers l cs in
    let os = multiples (negsuc 0) xs in
    let size : length os ≡ width l = length-multiples (negsuc 0) xs ∙ length-placed l cs can in
    let own : get_or os j (pos 0) ≡ pos 0 = opposite_free xs j free in
    ap (λ (zs : List ℤ). set zs j k) (placed_opposite l cs)
    ∙ (sym (unit_behind k os (width l) j size inside own)
    ∙ sums-comm os (multiples k (set (zeros (width l)) j (pos 1))))
  where
    opposite_free : (xs : List ℤ) (j : ℕ) → get_or xs j (pos 0) ≡ pos 0
        → get_or (multiples (negsuc 0) xs) j (pos 0) ≡ pos 0
    opposite_free [] j free = refl
    opposite_free (x ∷ xs) zero free = ap (λ (z : ℤ). negsuc 0 *ℤ z) free
    opposite_free (x ∷ xs) (suc j) free = opposite_free xs j free

pub end_put : (l : Layout) (k : ℕ) (f : Affine) (d c : ℤ) → CanPlace l f.coefficients
    → length f.coefficients ≡ l.parameters + l.turns + k → k < l.binds → c ≡ (d -ℤ pos 1) -ℤ f.constant
    → form_of (set (placed_numbers l (multiples (negsuc 0) f.coefficients))
    (l.before + (l.turns + (l.behind + k))) d) c
    ≡ bind_ends l k f d
end_put l k f d c can size more is =
    let j = l.before + (l.turns + (l.behind + k)) in
    let inside : j < width l = omega arith in
    let numbers = unit_front l f.coefficients j d can inside (bound_free l k f.coefficients size more) in
    let constant : c ≡ (d -ℤ pos 1) +ℤ (negsuc 0 *ℤ f.constant) = omega (arith, ints, is) in
    ap₂ (λ (zs : List ℤ) (z : ℤ). form_of zs z) numbers constant

pub equality_put : (l : Layout) (j : ℕ) (f : Affine) (c : ℤ) → CanPlace l f.coefficients → j < width l
    → get_or (placed_numbers l f.coefficients) j (pos 0) ≡ pos 0 → c ≡ neg_ℤ f.constant
    → form_of (set (placed_numbers l (multiples (negsuc 0) f.coefficients)) j (pos 1)) c ≡ turn_equality l j f
equality_put l j f c can inside free is =
    let unit = set (zeros (width l)) j (pos 1) in
    let numbers = unit_front l f.coefficients j (pos 1) can inside free
    ∙ ap (λ (zs : List ℤ). sums zs (multiples (negsuc 0) (placed_numbers l f.coefficients))) (multiples-one unit) in
    let constant : c ≡ pos 0 +ℤ (negsuc 0 *ℤ f.constant) = omega (arith, ints, is) in
    ap₂ (λ (zs : List ℤ) (z : ℤ). form_of zs z) numbers constant

-- opposites can be placed where the numbers can
pub can_opposite : (l : Layout) (cs os : List ℤ) → CanPlace l cs → os ≡ multiples (negsuc 0) cs → CanPlace l os
can_opposite l cs os can is =
    let size = ap (λ (zs : List ℤ). length zs) is ∙ length-multiples (negsuc 0) cs in
    let least = can.least in
    let most = can.most in
    record { small = can.small; least = omega (arith, size, least); most = omega (arith, size, most) }

-- numbers whose opposites 128 bits hold
pub opposed_of : (cs : List ℤ) → All (λ c. fits c ≡ true) (multiples (negsuc 0) cs) → HoldOpposites cs
opposed_of [] h = All-nil (λ c. fits (negsuc 0 *ℤ c) ≡ true)
opposed_of (c ∷ cs) h =
    All-cons (λ c. fits (negsuc 0 *ℤ c) ≡ true) c cs
    (All-head (λ c. fits c ≡ true) (negsuc 0 *ℤ c) (multiples (negsuc 0) cs) h)
    (opposed_of cs (All-tail (λ c. fits c ≡ true) (negsuc 0 *ℤ c) (multiples (negsuc 0) cs) h))
