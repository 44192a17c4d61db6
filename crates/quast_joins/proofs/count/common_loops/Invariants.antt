use Rattle.quast_joins.proofs.Common.{◌≡◌, ◌+◌, drop, tested}
use Rattle.quast_joins.proofs.count.common_loops.Given as goal

abbrev pub invariant-loop-at : goal.invariant-loop-at
invariant-loop-at l =
    l.at + tested (drop l.at l.loops) (drop l.at l.others) (drop l.at l.first.forms) (drop l.at l.second.forms)
    ≡ tested l.loops l.others l.first.forms l.second.forms
