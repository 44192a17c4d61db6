use Rattle.pluto_systems.proofs.LowerLaws.{SizeLaws}
use Rattle.pluto_systems.proofs.SmallVectors.{small_vectors}
use Rattle.pluto_systems.proofs.laws.kernel_vectors_of_rows_are_small.Goals as goal

pub returns : goal.returns
returns c loops rows five h =
    let laws : SizeLaws = record {
      most = c.rows_take_kernel_vectors.ensures.most;
      long = c.kernel_vectors_are_kept.ensures.lengths;
      narrow = c.kernel_vectors_are_narrow.ensures;
    } in
    small_vectors laws loops rows five h
