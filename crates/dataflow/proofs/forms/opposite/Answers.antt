use Rattle.scop_syntax.proofs.Common.{◌≡◌, Err, negsuc}
use Rattle.affine_forms.specs.declared.stop.FormStop.TheVariants.{Wide as TooWide}
use Rattle.affine_forms.specs.Gives.{Fails}
use Rattle.affine_forms.specs.Runs.{scaled_run}
use Rattle.dataflow.proofs.Lists.{opposite_run}
use Rattle.dataflow.proofs.forms.opposite.Goals as goal

pub unreachable-requires : goal.unreachable-requires
unreachable-requires c =
    let w = c.in-Err-Wide.field-0-0 in
    let ok = opposite_run c.args.form.now c.requires in
    let fails : Fails (TooWide w) (scaled_run (negsuc 0) c.args.form.now) =
    rw c.in-Err-Wide.field-0-is at c.in-Err-Wide.ensures.run in
    let run : scaled_run (negsuc 0) c.args.form.now ≡ Err w = fails in
    cc
