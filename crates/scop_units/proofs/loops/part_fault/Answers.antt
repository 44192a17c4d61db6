use Rattle.scop_units.specs.View.{head_of, scope_of}
use Rattle.scop_units.proofs.Parts.{part_by}
use Rattle.scop_units.proofs.loops.part_fault.Goals as goal

pub returns : goal.returns
returns c =
    part_by (scope_of c.args.scope.now) (head_of c.args.head.now) c.entries-entries.result c.iterator_fault.result
    c.told-name.result c.in_ok-first.first c.in_ok-inner.inner c.first_of.result c.first_of-2.result
    c.entries-entries.ensures c.iterator_fault.ensures c.told-name.ensures c.in_ok-first.ensures
    c.in_ok-inner.ensures c.first_of.ensures c.first_of-2.ensures
