-- The promise of `deps`, and of its sources that each walked read has one.
use Rattle.scop_syntax.proofs.Common.{refl}
use Rattle.polypar.proofs.SourcesLemmas.{Laws, tells_last}
use Rattle.polypar.proofs.laws.printed_sources_tell_last_writes.Goals as goal

pub returns : goal.returns
returns c = λ words budget source source_after out out_after err err_after answered deps.
    let printed = answered.sourced budget deps refl in
    let laws : Laws = record {
      statement = c.domains_hold_the_instances.ensures.statement;
      cells = c.accesses_touch_the_cells.ensures;
    } in (
      printed.0,
      printed.1,
      printed.2,
      printed.3,
      tells_last laws budget printed.1.program printed.2 printed.4,
      printed.5,
    )
