use Rattle.scop_syntax.proofs.Common.{List, ℤ, [], subst, sym, has_parameters, program_of}
use Rattle.loop_tree.specs.Conditions.{CanWalk}
use Rattle.loop_tree.specs.View.{trees_in}
use Rattle.loop_tree.specs.Walk.{visits}
use Rattle.expansions.specs.Expansions.{AreWalked}
use Rattle.tile_runs.proofs.Members.{in_walk}
use Rattle.tile_runs.proofs.expansion.expansion_of.Goals as goal

pub of-requires-clause-walk : goal.of-requires-clause-walk
of-requires-clause-walk c =
    let trees = c.requires.trees in
    let ts = trees_in c.args.tree.now in
    subst (λ (ps : List ℤ). CanWalk ts ps []) (sym c.deref.ensures.value)
    (c.trees_of_plans_can_be_walked.ensures (program_of c.args.kernel.now) c.args.case.now.params.items trees.0 trees.1 ts
    trees.2 (has_parameters c.requires.limits))

pub of-requires-clause-walked : goal.of-requires-clause-walked
of-requires-clause-walked c =
    let trees = c.requires.trees in
    let program = program_of c.args.kernel.now in
    let params = c.args.case.now.params.items in
    let ts = trees_in c.args.tree.now in
    subst (λ (ps : List ℤ). AreWalked program ps (visits ts ps)) (sym c.deref.ensures.value)
    (λ x i. (in_walk program params trees.1 (visits ts params)
    (trees.2.carry_out params (has_parameters c.requires.limits)).exact x).0 i)
