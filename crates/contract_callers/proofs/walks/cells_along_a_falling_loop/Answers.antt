use Rattle.scop_syntax.proofs.Common.{[], ◌∷◌, refl, falling_by_two, walk_of, falling}
use Rattle.contract_callers.proofs.walks.cells_along_a_falling_loop.Goals as goal

pub returns : goal.returns
returns c = λ contents j cell shaped within is.
    let ranked = c.accesses_have_the_ranks_of_arrays.ensures falling_by_two [] falling.kernel refl in
    let inside = c.failures_are_the_first.ensures.inside ((4 ∷ []) ∷ []) (walk_of falling_by_two []) ranked refl in
    c.cells_hold_the_last_write.ensures.before ((4 ∷ []) ∷ []) contents (walk_of falling_by_two []) j cell within shaped
    inside is
