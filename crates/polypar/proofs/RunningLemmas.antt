-- Trees that carry out a plan run the kernel.
use Rattle.scop_syntax.proofs.Common.{◌≡◌, ℕ, ℤ, false, List, [], map, refl, PlacesConflict, conflict_cell, IsInside}
use Rattle.scop_syntax.proofs.Common.{IsShaped, exec, layout, performed_all, HasParameters, is_marked, Program}
use Rattle.scop_syntax.proofs.Common.{instance, walk_of}
use Rattle.scop_syntax.specs.Walk.{Visit as Walked}
use Rattle.scop_syntax.specs.ConflictOrders.{IsOrderOf}
use Rattle.loop_tree.specs.Plans.{CarryOut, walked}
use Rattle.loop_tree.specs.Runs.{MayRunAll}
use Rattle.loop_tree.specs.Tiling.{Tiling}
use Rattle.loop_tree.specs.Tree.{Trees}
use Rattle.loop_tree.specs.Walk.{Visit, given, visits, walk_all}
use Rattle.plan_search.specs.Executions.{AreVisitsOf}
use Rattle.plan_search.specs.Trees.{AreEven, AreTreesOf, StandInOrder}
use Rattle.polypar.specs.Told.{Told}
use Rattle.polypar.specs.Emitting.{ReadsAsLoops}
use Rattle.polypar.specs.Running.{RunKernel, RunsKernel}
use Rattle.polypar.proofs.ReadingLemmas.{planned_carried}

-- the laws of trees of plans
pub record Laws : Type 0 where
  pub in_order : (program : Program) (params : List ℤ) (marked : List ℕ) (plan : Tiling) (ts : Trees)
      → AreEven program plan → CarryOut program params marked plan ts → (i j : ℕ)
      (c : PlacesConflict (walk_of program params) i j) → is_marked marked (conflict_cell c).array ≡ false
      → StandInOrder (visits ts params) (instance c.earlier) (instance c.later)
  pub ends : (program : Program) (params : List ℤ) (plan : Tiling) (ts : Trees) (contents : List (List ℕ))
      (run : List Visit) (order : List Walked) → AreTreesOf program [] plan ts → HasParameters program params
      → IsInside program params → IsShaped (layout program params) contents → MayRunAll ts params [] run
      → AreVisitsOf program params (map given run) order
      → performed_all (layout program params) contents order ≡ exec program params contents
  pub visits_of : (program : Program) (params : List ℤ) (plan : Tiling) (ts : Trees) (run : List Visit)
      → AreTreesOf program [] plan ts → HasParameters program params → MayRunAll ts params [] run
      → (order : List Walked) × AreVisitsOf program params (map given run) order
  pub once : (program : Program) (params : List ℤ) (plan : Tiling) (ts : Trees) (run : List Visit)
      → AreTreesOf program [] plan ts → HasParameters program params → MayRunAll ts params [] run
      → IsOrderOf (map given run) (walked program params)
  pub walk : (ts : Trees) (params : List ℤ) → MayRunAll ts params [] (walk_all ts params [])

-- at parameters of the program
trees_run : Laws → (program : Program) (params : List ℤ) (plan : Tiling) (ts : Trees) → AreTreesOf program [] plan ts
    → HasParameters program params → RunKernel program params plan ts
trees_run laws program params plan ts is has = record {
  walk = laws.walk ts params;
  once = λ run runs. laws.once program params plan ts run is has runs;
  walked_visits = λ run runs. laws.visits_of program params plan ts run is has runs;
  in_order = λ i j c. laws.in_order program params [] plan ts is.even (is.carry_out params has) i j c refl;
  marked = (is.carry_out params has).marked;
  free = (is.carry_out params has).free refl;
  arrays = λ contents run order inside shaped runs visits.
      laws.ends program params plan ts contents run order is has inside shaped runs visits;
}

-- so do those that are read of a text
pub loops_run : Laws → (tile budget : ℕ) (program : Program) (told : Told) → ReadsAsLoops tile budget program told
    → RunsKernel tile budget program told
loops_run laws tile budget program told reads =
    let carried = planned_carried tile budget false program reads.plan told.lines reads.trees reads.planned in
    record {
      loops = reads;
      runs = λ params has. trees_run laws program params reads.plan reads.trees carried has;
    }
