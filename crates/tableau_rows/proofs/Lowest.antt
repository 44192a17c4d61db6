-- A row in lowest terms is the row with a positive common factor left out.
use Rattle.whole_numbers.proofs.Common.{ℕ, zero, suc, ℤ, pos, ◌<ℤ◌, ◌∷◌, arith, ints, All-head, All-tail, content}
use Rattle.whole_numbers.proofs.Common.{Divides, content_divides, mul_zero_left}
use Rattle.whole_numbers.proofs.Lowest.{exact_floor, exact_floors}
use Rattle.tableau_rows.specs.Rows.{Row}
use Rattle.tableau_rows.specs.Moves.{lowest_row}
use Rattle.tableau_rows.proofs.Invariant.{IsLowered}

pub lowest_is : (row : Row) → pos 0 <ℤ row.denominator → IsLowered row (lowest_row row)
unfolding lowest_row
lowest_is row positive =
    let c = content (row.denominator ∷ row.entries) in
    let all = content_divides (row.denominator ∷ row.entries) in
    let g : pos 0 <ℤ pos c = not_zero c row.denominator positive
    (All-head (Divides (pos c)) row.denominator row.entries all) in
    record {
      factor = pos c;
      positive = g;
      denominators =
          exact_floor row.denominator (pos c) g (All-head (Divides (pos c)) row.denominator row.entries all);
      entries = exact_floors (pos c) row.entries g (All-tail (Divides (pos c)) row.denominator row.entries all);
    }
  where
    not_zero : (c : ℕ) (d : ℤ) → pos 0 <ℤ d → Divides (pos c) d → pos 0 <ℤ pos c
    not_zero zero d positive h = let e = h.product in let z = mul_zero_left h.quotient in absurd (omega (arith, ints))
    not_zero (suc c) d positive h = omega (arith, ints)
