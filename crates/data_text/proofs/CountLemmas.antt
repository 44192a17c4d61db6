-- Products and sums of extents.
use Rattle.scop_syntax.proofs.Common.{◌≡◌, ◌∙◌, sym, ap, ℕ, zero, suc, ◌+◌, ◌*◌, ◌^◌, ◌<◌, ◌≤◌, List, [], ◌∷◌, length}
use Rattle.scop_syntax.proofs.Common.{drop, get_or, add-one, drop-cons, mul_assoc, mul-le-mul, arith, cell_count}
use Rattle.scop_syntax.proofs.Common.{total_cells}
use Rattle.std.proofs.lemmas.Nat.{pow-add}

-- one extent more
pub count_next : (extents : List ℕ) (i count whole : ℕ) → i < length extents
    → count * cell_count (drop i extents) ≡ whole
    → (count * get_or extents i 0) * cell_count (drop (i + 1) extents) ≡ whole
count_next extents i count whole within is =
    mul_assoc count (get_or extents i 0) (cell_count (drop (i + 1) extents))
    ∙ (ap (λ n. count * (get_or extents i 0 * cell_count (drop n extents))) (add-one i)
    ∙ (ap (λ es. count * cell_count es) (sym (drop-cons extents i 0 within)) ∙ is))

pub count_small : (i count extent : ℕ) → count ≤ 2 ^ (23 * i) → extent ≤ 2 ^ 23 → count * extent ≤ 2 ^ (23 * (i + 1))
count_small i count extent small fits =
    let product : count * extent ≤ 2 ^ (23 * i) * 2 ^ 23 = mul-le-mul small fits in
    let more : 23 * (i + 1) ≡ 23 * i + 23 = omega arith in
    let power : 2 ^ (23 * (i + 1)) ≡ 2 ^ (23 * i) * 2 ^ 23 = ap (λ n. 2 ^ n) more ∙ pow-add 2 (23 * i) 23 in
    omega (arith, product, power)

-- four extents at most
pub count_most : (i : ℕ) → i ≤ 4 → 2 ^ (23 * i) ≤ 2 ^ 92
count_most zero few = omega arith
count_most (suc zero) few = omega arith
count_most (suc (suc zero)) few = omega arith
count_most (suc (suc (suc zero))) few = omega arith
count_most (suc (suc (suc (suc zero)))) few = omega arith
count_most (suc (suc (suc (suc (suc i))))) few = absurd (omega (arith, few))

-- an array has no more cells than all
pub count_below : (layouts : List (List ℕ)) (i : ℕ) → i < length layouts
    → cell_count (get_or layouts i []) ≤ total_cells layouts
count_below [] i within = absurd (omega (arith, within))
count_below (extents ∷ layouts) zero within = omega arith
count_below (extents ∷ layouts) (suc i) within = omega (arith, count_below layouts i (omega (arith, within)))
