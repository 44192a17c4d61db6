use Rattle.scop_syntax.proofs.Common.{◌∙◌, IfOk-weaker}
use Rattle.split_scan.proofs.cutting.whole.Goals as goal

pub returns : goal.returns
returns c =
    IfOk-weaker c.one_part.result _ _ (λ v h. (h.0, h.1, h.2 ∙ c.new.ensures.items, h.3)) c.one_part.ensures
