use Rattle.scop_syntax.proofs.Common.{instance_of, rules, ◌∙◌, ap, pos, ◌++◌, ◌∷◌, [], List, ℤ, subst, sym, to_z, of_z}
use Rattle.scop_syntax.proofs.Common.{◌+ℤ◌, FitsSigned, w128, to_z-of_z, values_of}
use Rattle.loop_tree.specs.steps.Passing.{IsOf, shown_along}
use Rattle.loop_tree.proofs.Stretches.{leaf_few}
use Rattle.loop_tree.specs.steps.Chain.{values_in}
use Rattle.loop_tree.specs.Conditions.{CanWalk, IsHeld}
use Rattle.loop_tree.specs.Tree.{Tree, more, none}
use Rattle.loop_tree.proofs.Chains.{values_at}
use Rattle.loop_tree.proofs.WalkSteps.{leaf_held}
use Rattle.loop_tree.proofs.passing.strand_behind.Goals as goal

pub instance_at-before-requires-clause-held : goal.instance_at-before-requires-clause-held
instance_at-before-requires-clause-held c =
    let leaf = c.in-Some.leaf.now in
    let x = c.args.value in
    let params = c.args.params.now in
    let outer = values_in c.args.outer.now in
    let fits : FitsSigned w128 x = search rules in
    let within = values_at c.args.outer x (to_z w128 (of_z w128 x)) (to_z-of_z w128 x fits) in
    subst
    (λ (vs : List ℤ). IsHeld (record { number = leaf.statement; turns = values_of leaf.turns.items (vs ++ params) }))
    (sym within)
    (leaf_held leaf.statement leaf.turns.items params (outer ++ x ∷ [])
    (subst (λ (t : Tree). CanWalk (more t none) params (outer ++ x ∷ [])) c.in-Some.ensures c.requires))

pub stretch_behind-requires : goal.stretch_behind-requires
stretch_behind-requires c =
    let leaf = c.in-Some.leaf.now in
    let params = c.args.params.now in
    let point = values_in c.args.outer.now ++ c.args.value ∷ [] in
    leaf_few leaf.statement leaf.turns.items params point
    (subst (λ (t : Tree). CanWalk (more t none) params point) c.in-Some.ensures c.requires)

pub returns-in-Some-clause-rest : goal.returns-in-Some-clause-rest
returns-in-Some-clause-rest c =
    let leaf = c.in-Some.leaf.now in
    let x = c.args.value in
    let params = c.args.params.now in
    let outer = values_in c.args.outer.now in
    let fits : FitsSigned w128 x = search rules in
    let within = values_at c.args.outer x (to_z w128 (of_z w128 x)) (to_z-of_z w128 x fits) in
    let before = subst (λ (vs : List ℤ). IsOf leaf.statement leaf.turns.items (instance_of c.instance_at-before.result)
    params vs) within c.instance_at-before.ensures in
    c.stretch_behind.ensures.rest params x before
    ∙ ap (λ (t : Tree). shown_along (more t none) params outer (x +ℤ pos 1) c.args.left) (sym c.in-Some.ensures)
