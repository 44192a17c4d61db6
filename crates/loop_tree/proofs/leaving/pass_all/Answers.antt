use Rattle.loop_tree.proofs.LeavingMarks.{at_behind, rest_behind}
use Rattle.loop_tree.proofs.leaving.pass_all.Goals as goal

pub returns-in-Some-clause-rest : goal.returns-in-Some-clause-rest
returns-in-Some-clause-rest c = λ params outer.
    rest_behind c.args.nodes.now c.args.marks.now c.in-Some.mark.now params outer

pub returns-in-Some-clause-stands : goal.returns-in-Some-clause-stands
returns-in-Some-clause-stands c = λ params outer.
    at_behind c.args.nodes.now c.args.marks.now c.in-Some.mark.now params outer
