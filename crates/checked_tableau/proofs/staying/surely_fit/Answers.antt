use Rattle.whole_numbers.proofs.Common.{rules, ◌≡◌, true, FitsSigned, pos, w64, w128}
use Rattle.checked_tableau.proofs.MultipliedRows.{one_fits, narrow_fit}
use Rattle.checked_tableau.proofs.staying.surely_fit.Goals as goal

pub returns-then-factor-eq1 : goal.returns-then-factor-eq1
returns-then-factor-eq1 c =
    λ (e : true ≡ true). let f : FitsSigned w128 c.args.factor = search rules in
    let one : c.args.factor ≡ pos 1 = search rules in
    one_fits c.args.factor c.args.row.now one c.held.ensures

pub returns-then-is_ok : goal.returns-then-is_ok
returns-then-is_ok c =
    λ (e : c.are_narrow.result ≡ true). let f : FitsSigned w64 c.args.factor = search rules in
    narrow_fit c.args.factor c.args.row.now f (c.are_narrow.ensures e)
