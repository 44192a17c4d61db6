use Rattle.scop_syntax.proofs.Common.{[], ◌∷◌, arith, refl}
use Rattle.quast_trees.specs.Paths.{bound, path_to}
use Rattle.quast_trees.specs.Tree.{bind, leaf}
use Rattle.contract_callers.proofs.quasts.the_quotient_of_a_bound_leaf.Goals as goal

pub returns : goal.returns
returns c = λ form divisor q l n point speaks is ups.
    (c.bound_quotients_are_not_negative.ensures (bind form divisor (leaf l)) n point (q ∷ [])
    (path_to (bound form divisor ∷ []) l) speaks (0, omega arith, refl) (is, refl) ups).0
