use Rattle.scop_syntax.proofs.Common.{[], ◌∷◌, arith, refl}
use Rattle.contract_callers.proofs.moves.lines_of_a_buffer.Goals as goal

pub returns : goal.returns
returns c = λ d a b e g f.
    c.buffers_are_rows.ensures 1 0 0 2 (d ∷ a ∷ b ∷ []) (e ∷ g ∷ f ∷ d ∷ a ∷ b ∷ []) (omega arith) refl
