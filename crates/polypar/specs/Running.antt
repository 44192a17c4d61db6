-- What the loops that `emit` prints do when they run, said of what is read of their text.
use Rattle.std.specs.Prelude.{◌≡◌, ℕ, ℤ, List, [], map}
use Rattle.scop_syntax.specs.Cells.{PlacesConflict}
use Rattle.scop_syntax.specs.Execution.{IsInside, IsShaped, exec, layout, performed_all}
use Rattle.scop_syntax.specs.Limits.{HasParameters}
use Rattle.scop_syntax.specs.Tree.{Program}
use Rattle.scop_syntax.specs.Walk.{instance, Visit as Walked, walk_of}
use Rattle.scop_syntax.specs.ConflictOrders.{IsOrderOf}
use Rattle.loop_tree.specs.Plans.{AreFree, AreMarked, Conflict, walked}
use Rattle.loop_tree.specs.Runs.{MayRunAll}
use Rattle.loop_tree.specs.Tiling.{Tiling}
use Rattle.loop_tree.specs.Tree.{Trees}
use Rattle.loop_tree.specs.Walk.{Visit, given, visits, walk_all}
use Rattle.plan_search.specs.Executions.{AreVisitsOf}
use Rattle.plan_search.specs.Trees.{StandInOrder}
use Rattle.polypar.specs.Told.{Told}
use Rattle.polypar.specs.Emitting.{ReadsAsLoops}

-- trees that run the kernel at these parameters, in parallel as the plan has it
pub record RunKernel (program : Program) (params : List ℤ) (plan : Tiling) (ts : Trees) : Type 0 where
  -- the order of the trees' own visits is one that an execution may have
  pub walk : MayRunAll ts params [] (walk_all ts params [])
  -- in whichever order an execution interleaves the iterations of parallel loops, it visits each walked instance once
  pub once : (run : List Visit) → MayRunAll ts params [] run → IsOrderOf (map given run) (walked program params)
  -- and these are visits of the walk
  pub walked_visits : (run : List Visit) → MayRunAll ts params [] run
      → (order : List Walked) × AreVisitsOf program params (map given run) order
  -- of two places of the walk that conflict, the trees visit the earlier one's instance first
  pub in_order : (i j : ℕ) (c : PlacesConflict (walk_of program params) i j)
      → StandInOrder (visits ts params) (instance c.earlier) (instance c.later)
  -- the parallel loops are those of the plan: where its tiles have coordinates, each visit stands in one such loop, at
  -- the first coordinate of its tile; where they have none, and in the kept order, no loop is parallel
  pub marked : AreMarked plan ts params
  -- at each execution of a parallel loop, instances of two iterations do not conflict
  pub free : AreFree (Conflict program params) ts params []
  -- performed in the order of any execution, the visits leave the arrays of the source's own execution
  pub arrays : (contents : List (List ℕ)) (run : List Visit) (order : List Walked) → IsInside program params
      → IsShaped (layout program params) contents → MayRunAll ts params [] run
      → AreVisitsOf program params (map given run) order
      → performed_all (layout program params) contents order ≡ exec program params contents

-- the text is read as loop trees of the kernel's plan, tiled or kept, and these run the kernel at all parameters in
-- 0..=65536
pub record RunsKernel (tile budget : ℕ) (program : Program) (told : Told) : Type 0 where
  pub loops : ReadsAsLoops tile budget program told
  pub runs : (params : List ℤ) → HasParameters program params → RunKernel program params loops.plan loops.trees
