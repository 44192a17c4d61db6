use Rattle.scop_syntax.proofs.Common.{[], ◌∷◌, pos, refl, form_of}
use Rattle.quast_trees.specs.Paths.{down, path_to, up}
use Rattle.quast_trees.specs.Source.{unnamed}
use Rattle.contract_callers.proofs.quasts.both_sides_have_no_point.Goals as goal

pub returns : goal.returns
returns c = λ point qs.
    c.blocked_paths_have_no_point.ensures
    (path_to (up (form_of (pos 1 ∷ []) (pos 0)) ∷ down (form_of (pos 1 ∷ []) (pos 0)) ∷ []) (unnamed 1 []))
    point qs refl
