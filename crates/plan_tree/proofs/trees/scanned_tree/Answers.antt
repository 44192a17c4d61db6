use Rattle.scop_syntax.proofs.Common.{◌≡◌, ◌∙◌, ◌<◌, ◌^◌, List, sym, subst}
use Rattle.integer_sets.specs.Scanned.{Scanned}
use Rattle.plain_scan.specs.Scanning.{AreScanned, IsScan, StopsScan, dimensions_of}
use Rattle.plain_scan.specs.Sets.{NumbersRise}
use Rattle.loop_tree.specs.View.{trees_in}
use Rattle.plan_tree.specs.steps.Scanning.{sets_of}
use Rattle.plan_tree.proofs.Schedules.{tiled_blocks, tiled_sets_of}
use Rattle.plan_tree.proofs.trees.scanned_tree.Goals as goal

pub tree_of_sets-requires-clause-scanned : goal.tree_of_sets-requires-clause-scanned
tree_of_sets-requires-clause-scanned c = subst AreScanned (sym c.deref.ensures.value) c.in-Ok.ensures.scanned

pub tree_of_sets-requires-clause-rise : goal.tree_of_sets-requires-clause-rise
tree_of_sets-requires-clause-rise c = subst NumbersRise (sym c.deref.ensures.value) c.in-Ok.ensures.rise

pub returns-in-Ok-tree_of_sets-clause-tree : goal.returns-in-Ok-tree_of_sets-clause-tree
returns-in-Ok-tree_of_sets-clause-tree c program marked is s =
    let size = c.args.size in
    let ts = trees_in c.in-Ok-tree_of_sets.tree in
    let same : c.deref.result.now ≡ sets_of program size s.blocks =
    c.deref.ensures.value ∙ (c.in-Ok.ensures.sets s ∙ tiled_sets_of program marked size c.args.schedule.now s is) in
    let tiling = tiled_blocks program marked size c.args.schedule.now s c.requires.size.0 c.requires.size.1 is in
    c.scans_are_trees_of_tilings.ensures program marked size s.blocks ts tiling
    (subst (λ (ss : List Scanned). IsScan ss ts) same c.in-Ok-tree_of_sets.ensures.scan)

pub returns-in-Err-tree_of_sets-clause-stops : goal.returns-in-Err-tree_of_sets-clause-stops
returns-in-Err-tree_of_sets-clause-stops c s =
    subst (λ (ss : List Scanned). StopsScan ss c.in-Err-tree_of_sets.stop)
    (c.deref.ensures.value ∙ c.in-Ok.ensures.sets s) c.in-Err-tree_of_sets.ensures.stops

pub returns-in-Ok-tree_of_sets-clause-small : goal.returns-in-Ok-tree_of_sets-clause-small
returns-in-Ok-tree_of_sets-clause-small c =
    let few = subst (λ (ss : List Scanned). dimensions_of ss < 2 ^ 32) (sym c.deref.ensures.value) c.in-Ok.ensures.few
    in
    (dimensions_of c.deref.result.now, few, c.in-Ok-tree_of_sets.ensures.scan.numbers)
