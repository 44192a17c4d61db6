use Rattle.scop_syntax.proofs.Common.{[], ◌∷◌, pos, refl}
use Rattle.contract_callers.proofs.number_lists.lists_behind_two_numbers.Goals as goal

pub returns : goal.returns
returns c = λ x us.
    c.lexicographic_order_is_decided_by_a_prefix.ensures (pos 1 ∷ x ∷ []) (pos 1 ∷ pos 2 ∷ []) us (pos 3 ∷ []) refl
