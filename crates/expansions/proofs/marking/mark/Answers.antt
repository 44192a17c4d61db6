use Rattle.scop_syntax.proofs.Common.{◌+◌, arith}
use Rattle.expansions.proofs.KeptMarks.{is_marked}
use Rattle.expansions.proofs.marking.mark.Goals as goal

pub returns : goal.returns
returns c =
    is_marked c.args.cell c.args.place (c.args.place + 1) c.args.marks.now.items c.reach.new.marks.items
    c.in_ok-reach.ensures.room c.in_ok-reach.ensures.same (omega arith)
