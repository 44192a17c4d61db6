use Rattle.scop_syntax.proofs.Common.{◌≡◌, Err}
use Rattle.integer_sets.specs.FormStop.TheVariants.{Wide as TooWide}
use Rattle.integer_sets.specs.FormGives.{Fails}
use Rattle.integer_sets.specs.FormRuns.{compose_run}
use Rattle.iteration_domains.proofs.SmallRuns.{compose_small}
use Rattle.iteration_domains.proofs.forms.compose_form.Goals as goal

pub unreachable-requires : goal.unreachable-requires
unreachable-requires c =
    let n = c.args.variables in
    let inner = c.args.forms.now in
    let w = c.in-Err-Wide.field-0-0 in
    let ok = compose_small n inner c.args.form.now c.requires in
    let fails : Fails (TooWide w) (compose_run c.args.form.now inner n) =
    rw c.in-Err-Wide.field-0-is at c.in-Err-Wide.ensures.run in
    let run : compose_run c.args.form.now inner n ≡ Err w = fails in
    cc
