-- What is read of the text of `emit` runs the kernel.
use Rattle.polypar.proofs.RunningLemmas.{Laws, loops_run}
use Rattle.polypar.proofs.laws.printed_loops_run_the_kernel.Goals as goal

pub returns : goal.returns
returns c = λ words tile budget source source_after out out_after err err_after answered emit.
    let printed = c.printed_loops_are_read_back.ensures words tile budget source source_after out out_after err
    err_after answered emit in
    let laws : Laws = record {
      in_order = c.trees_keep_conflicts_in_order.ensures;
      ends = c.loops_end_as_the_source_does.ensures.ends;
      visits_of = c.loops_end_as_the_source_does.ensures.visits;
      once = c.loops_end_as_the_source_does.ensures.once;
      walk = c.loops_end_as_the_source_does.ensures.walk;
    } in (
      printed.0,
      printed.1,
      printed.2,
      printed.3,
      loops_run laws tile budget printed.1.program printed.2 printed.4,
      printed.5,
      printed.6,
    )
