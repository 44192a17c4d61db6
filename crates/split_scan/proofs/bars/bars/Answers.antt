use Rattle.scop_syntax.proofs.Common.{◌∙◌, ap, IfOk-weaker}
use Rattle.split_scan.specs.steps.Copies.{bounding_in}
use Rattle.split_scan.proofs.HullBounds.{hull_bars}
use Rattle.split_scan.proofs.bars.bars.Goals as goal

pub returns : goal.returns
returns c =
    let h = c.in_ok-rows.ensures in
    IfOk-weaker c.bounding.result _ _ (λ v made. hull_bars c.args.depth c.args.place c.args.variables
    c.args.outlines.now
    c.in_ok-rows.rows.items v.items c.requires.inside h (made ∙ ap (bounding_in c.args.place) c.deref.ensures.value))
    c.bounding.ensures
