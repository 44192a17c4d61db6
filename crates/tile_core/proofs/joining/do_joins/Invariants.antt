use Rattle.scop_syntax.proofs.Common.{◌≡◌, ℕ, ℤ, List, Instance}
use Rattle.tile_table.specs.Joins.{IsJoinAt}
use Rattle.tile_table.specs.declared.table.Row.{Row}
use Rattle.tile_core.specs.Plans.{plain_shape}
use Rattle.tile_list.specs.Stretches.{turns_on}
use Rattle.tile_core.specs.declared.plan.Plan.{Plan}
use Rattle.tile_core.specs.steps.Acts.{after_instances}
use Rattle.tile_core.specs.steps.Joins.{AreJoinedFrom}
use Rattle.tile_core.proofs.joining.do_joins.Given as goal

abbrev pub invariant-loop : goal.invariant-loop
invariant-loop l =
    (plan : Plan) (row : Row) (steps : List ℤ) (x : Instance) (t k : ℕ)
    → AreJoinedFrom plan row steps x t k l.count l.fn.lanes
    → (l.cells ≡ after_instances (plain_shape plan) t k l.counter l.fn.cells)
    × IsJoinAt row steps (turns_on x.turns steps l.counter) l.lanes
