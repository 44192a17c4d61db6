use Rattle.scop_syntax.proofs.Common.{◌≡◌, ◌∙◌, length, ap, sym, subst}
use Rattle.iteration_domains.specs.Model.{KernelModel}
use Rattle.loop_tree.specs.Shape.{TreesAreOver}
use Rattle.loop_tree.specs.View.{trees_in}
use Rattle.tree_simplification.specs.Simplified.{Simplifies}
use Rattle.plan_tree.specs.Schedules.{tiling_of}
use Rattle.plan_tree.proofs.SimplerTrees.{simpler}
use Rattle.plan_tree.proofs.trees.tiled_tree.Goals as goal

pub simplified-requires-clause-flat : goal.simplified-requires-clause-flat
simplified-requires-clause-flat c =
    (c.in-Ok.ensures.tree c.requires.schedule.0 c.requires.schedule.1 c.requires.schedule.2
    c.in-Ok.ensures.scheduled).flat

pub simplified-requires-clause-over : goal.simplified-requires-clause-over
simplified-requires-clause-over c =
    let is = c.requires.schedule.2 in
    let own : c.parameters-parameters.result ≡ length c.requires.schedule.0.parameters =
    c.parameters-parameters.ensures.parameters
    ∙ (ap (λ (m : KernelModel). m.parameters) (c.model.ensures ∙ is.model)) in
    subst (λ n. TreesAreOver n (trees_in c.in-Ok.found.0)) (sym own)
    (c.in-Ok.ensures.tree c.requires.schedule.0 c.requires.schedule.1 is c.in-Ok.ensures.scheduled).over

pub returns-clause-tree : goal.returns-clause-tree
returns-clause-tree c program marked is s =
    let own : c.parameters-parameters.result ≡ length program.parameters =
    c.parameters-parameters.ensures.parameters
    ∙ (ap (λ (m : KernelModel). m.parameters) (c.model.ensures ∙ is.model)) in
    let scanned = trees_in c.in-Ok.found.0 in
    let simple = trees_in c.in-Ok-simplified.tree in
    simpler program marked (tiling_of program c.args.size s.blocks) scanned simple
    (c.in-Ok.ensures.tree program marked is s)
    (subst (λ n. Simplifies n scanned simple) own c.in-Ok-simplified.ensures)
