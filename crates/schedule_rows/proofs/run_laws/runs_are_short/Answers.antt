use Rattle.schedule_rows.proofs.Measures.{VectorLaws, run_length}
use Rattle.schedule_rows.proofs.run_laws.runs_are_short.Goals as goal

pub returns : goal.returns
returns c m loops s states blocks h =
    let laws : VectorLaws = record {
      most = c.rows_take_kernel_vectors.ensures.most;
      grows = c.rows_take_kernel_vectors.ensures.grows;
      more = c.kernel_vectors_are_kept.ensures.more;
    } in
    run_length laws m loops s states blocks h
