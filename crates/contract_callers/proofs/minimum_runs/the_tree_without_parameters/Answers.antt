use Rattle.scop_syntax.proofs.Common.{[], ◌∷◌, refl, pos, negsuc, form_of}
use Rattle.contract_callers.proofs.minimum_runs.the_tree_without_parameters.Goals as goal

pub returns : goal.returns
returns c = λ budget left tree run.
    c.trees_without_parameters_are_leaves.ensures budget 1 (form_of (pos 2 ∷ []) (negsuc 2) ∷ []) [] tree left
    (refl, tt) tt run
