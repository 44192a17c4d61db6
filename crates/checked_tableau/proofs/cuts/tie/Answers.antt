use Rattle.whole_numbers.proofs.Common.{rules, ℕ, ◌+◌, ◌+ℤ◌, pos, get_or, arith, ap, sym, FitsSigned, Option, w128, ints}
use Rattle.whole_numbers.proofs.Common.{to_z-of_z}
use Rattle.tableau_rows.specs.Moves.{tied}
use Rattle.checked_tableau.specs.Lines.{behind_constant}
use Rattle.checked_tableau.proofs.cuts.tie.Goals as goal

pub overflow_add-part-in-Some : goal.overflow_add-part-in-Some
overflow_add-part-in-Some c =
    let fits : FitsSigned w128 (get_or c.args.part.now (c.in-Some.parameter + 1) (pos 0)) = search rules in
    let by : FitsSigned w128 c.args.divisor = c.ranges.divisor in
    let low = c.requires.low (c.in-Some.parameter + 1) in
    let positive = c.requires.positive in
    simp to_z-of_z (omega (arith, ints))

pub returns-in-Some : goal.returns-in-Some
returns-in-Some c =
    let part = c.args.part.now in
    let d = c.args.divisor in
    let x = get_or part (c.in-Some.parameter + 1) (pos 0) in
    let fits : FitsSigned w128 x = search rules in
    let by : FitsSigned w128 d = c.ranges.divisor in
    let low = c.requires.low (c.in-Some.parameter + 1) in
    let positive = c.requires.positive in
    let sum : FitsSigned w128 (x +ℤ d) = omega (arith, ints) in
    simp to_z-of_z (ap (λ (p : Option ℕ). tied d (behind_constant p) part) (sym c.in-Some.is))
