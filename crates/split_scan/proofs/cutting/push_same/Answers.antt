use Rattle.scop_syntax.proofs.Common.{◌∙◌, on_ok_weaker}
use Rattle.split_scan.proofs.cutting.push_same.Goals as goal

pub returns : goal.returns
returns c =
    on_ok_weaker c.push_cell.result (λ h. (h.0, h.1, h.2 ∙ c.in_ok-cuts.ensures ∙ c.deref.ensures.value))
    c.push_cell.ensures
