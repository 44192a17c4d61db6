use Rattle.whole_numbers.proofs.Common.{rules, ◌≡◌, ℤ, pos, get_or, subst, sym, arith, FitsSigned, w128, ints, content}
use Rattle.whole_numbers.proofs.Common.{Divides, content_divides, lowest_stays}
use Rattle.whole_numbers.proofs.Divisors.{divides-le}
use Rattle.checked_tableau.proofs.contents.reduce.Goals as goal

pub returns-then-row-eq1 : goal.returns-then-row-eq1
returns-then-row-eq1 c =
    let row = c.args.row.now in
    let f : FitsSigned w128 (get_or row 0 (pos 0)) = search rules in
    let one : get_or row 0 (pos 0) ≡ pos 1 = search rules in
    let d : Divides (pos (content row)) (pos 1) =
    subst (λ (z : ℤ). Divides (pos (content row)) z) one (content_divides row 0 (pos 0) c.requires.length) in
    let l = divides-le (pos (content row)) (pos 1) (omega (arith, ints)) d in
    sym (lowest_stays row (omega (arith, ints)))
