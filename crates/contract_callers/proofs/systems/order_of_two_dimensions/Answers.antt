use Rattle.scop_syntax.proofs.Common.{[], ◌∷◌, refl}
use Rattle.contract_callers.proofs.systems.order_of_two_dimensions.Goals as goal

pub returns : goal.returns
returns c = λ v w x y. c.prefix_decides_the_order.ensures 1 (v ∷ x ∷ []) (w ∷ y ∷ []) refl
