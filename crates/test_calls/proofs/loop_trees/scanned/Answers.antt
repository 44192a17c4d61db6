use Rattle.scop_syntax.proofs.Common.{◌∙◌, [], sym}
use Rattle.std.proofs.lemmas.Result.{IfOk-at_ok}
use Rattle.loop_tree.specs.View.{trees_in}
use Rattle.polypar.specs.Trees.{AreTreesOf}
use Rattle.polypar.specs.Schedules.{tiling_of}
use Rattle.test_calls.proofs.loop_trees.scanned.Goals.{in-Hull, in-Separated}
use Rattle.test_calls.proofs.loop_trees.scanned.Goals as goal

pub returns-in-Ok : goal.returns-in-Ok
returns-in-Ok c program params is has =
    let s = c.items-items.ensures.schedule in
    let tiling = tiling_of program c.args.size s.blocks in
    let trees : AreTreesOf program [] tiling (trees_in c.in-Ok.tiled.0) = elim c.match-scan.branch [
      | in-Hull w ↦ IfOk-at_ok _ (sym w.found-is ∙ c.in-Ok.is) w.hull_tree-found.ensures.tree program [] is s
      | in-Separated w ↦ IfOk-at_ok _ (sym w.found-is ∙ c.in-Ok.is) w.tiled_tree-found.ensures.tree program [] is s
    ] in
    c.trees_of_plans_can_be_walked.ensures program params [] tiling (trees_in c.in-Ok.tiled.0) trees has
