-- A loop over a part's numbers: whether a divisor divides each.
use Rattle.whole_numbers.proofs.Common.{◌≡◌, ℕ, zero, suc, ◌+◌, ◌<◌, ℤ, pos, negsuc, false, List, length, drop, get_or}
use Rattle.whole_numbers.proofs.Common.{drop-cons, refl, sym, ◌∙◌, add-one, remainder}
use Rattle.checked_tableau.specs.Nodes.{all_divided, is_zero}

pub divided-more : (d : ℤ) (xs : List ℤ) (k : ℕ) (r : ℤ) → k < length xs → r ≡ remainder (get_or xs k (pos 0)) d
    → r ≡ pos 0 → all_divided d (drop k xs) ≡ all_divided d (drop (k + 1) xs)
divided-more d xs k r inside made none =
    let e = sym made ∙ none in rw (drop-cons xs k (pos 0) inside, add-one k, e) refl

not_zero : (z : ℤ) → (z ≡ pos 0 → ⊥) → is_zero z ≡ false
not_zero (pos zero) h = absurd (h refl)
not_zero (pos (suc n)) h = refl
not_zero (negsuc n) h = refl

pub divided-not : (d : ℤ) (xs : List ℤ) (k : ℕ) (r : ℤ) → k < length xs → r ≡ remainder (get_or xs k (pos 0)) d
    → (r ≡ pos 0 → ⊥) → all_divided d (drop k xs) ≡ false
divided-not d xs k r inside made other =
    let e = not_zero r other in
    let h = rw made at e in
    rw (drop-cons xs k (pos 0) inside, h) refl
