use Rattle.scop_syntax.proofs.Common.{◌≡◌, ◌∙◌}
use Rattle.schedule_rows.proofs.Chains.{along_chain}
use Rattle.schedule_rows.proofs.pair_laws.kept_pairs_chain.Goals as goal

pub returns : goal.returns
returns c blocks x z y h k =
    along_chain blocks x z y (x.number ≡ z.number) (z.number ≡ y.number) (x.number ≡ y.number)
    (λ a b. a ∙ b) h k
