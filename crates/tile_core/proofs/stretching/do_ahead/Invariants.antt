use Rattle.scop_syntax.proofs.Common.{◌≡◌, ℕ, Some, take, instance_of}
use Rattle.scop_syntax.specs.declared.instance.Instance.{Instance}
use Rattle.tile_table.specs.Desks.{HasSameRoom, IsLaid}
use Rattle.tile_core.specs.Plans.{plain_shape}
use Rattle.tile_list.specs.Stretches.{turns_on}
use Rattle.tile_core.specs.declared.worker.Stage.TheVariants.{Working}
use Rattle.tile_core.specs.steps.Acts.{after_instances}
use Rattle.tile_core.proofs.stretching.do_ahead.Given as goal

abbrev pub invariant-loop : goal.invariant-loop
invariant-loop l = record {
  cells : (t k : ℕ) → l.fn.worker.stage ≡ Working t k
      → l.cells ≡ after_instances (plain_shape l.plan) t k l.counter l.fn.cells;
  laid : (i : Instance) → l.fn.worker.next ≡ Some i
      → IsLaid l.row (take i.loops l.fn.worker.spot.stretch.steps)
      (turns_on (instance_of i).turns (take i.loops l.fn.worker.spot.stretch.steps) l.counter) l.worker.desk;
  room : HasSameRoom l.fn.worker.desk l.worker.desk;
  same : l.worker ≡ record l.fn.worker { desk = l.worker.desk };
}
