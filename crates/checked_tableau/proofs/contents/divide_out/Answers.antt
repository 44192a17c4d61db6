use Rattle.whole_numbers.proofs.Common.{sym, arith, lowest_stays}
use Rattle.checked_tableau.proofs.contents.divide_out.Goals as goal

pub returns-else-divisor-gt1 : goal.returns-else-divisor-gt1
returns-else-divisor-gt1 c =
    let e = c.content-divisor.ensures in
    sym (lowest_stays c.args.row.now (omega arith))
