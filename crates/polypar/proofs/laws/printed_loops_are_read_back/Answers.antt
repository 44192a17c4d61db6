-- The promise of `emit`, and of its text that it is read.
use Rattle.scop_syntax.proofs.Common.{refl}
use Rattle.polypar.proofs.ReadingLemmas.{Laws, loops_are_read}
use Rattle.polypar.proofs.laws.printed_loops_are_read_back.Goals as goal

pub returns : goal.returns
returns c = λ words tile budget source source_after out out_after err err_after answered emit.
    let printed = answered.emitted tile budget emit refl in
    let laws : Laws = record {
      kernel = c.spelled_programs_are_kernels.ensures.kernel;
      free = c.spelled_names_are_words.ensures;
      named = c.kernels_tell_their_names_apart.ensures;
      nodes = c.flat_trees_can_be_printed.ensures;
      read = c.printed_trees_are_read_back.ensures;
    } in (
      printed.0,
      printed.1,
      printed.2,
      printed.3,
      loops_are_read laws tile budget _ printed.1.program printed.2 printed.1.spelled printed.4,
      printed.5,
      printed.6,
    )
