use Rattle.scop_syntax.proofs.Common.{◌+◌}
use Rattle.tile_runs.proofs.CounterRows.{zeros_then}
use Rattle.tile_runs.proofs.counters.append_rest.Goals as goal

pub returns-clause-zeros : goal.returns-clause-zeros
returns-clause-zeros c = (
  c.copies_of.result + c.counters_of.result,
  zeros_then c.args.row.now.items c.append_zeros.new.row.items c.append_zeros-2.new.row.items c.copies_of.result
      c.counters_of.result c.in_ok-append_zeros.ensures.zeros c.in_ok-append_zeros-2.ensures.zeros,
)
