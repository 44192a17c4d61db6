use Rattle.scop_syntax.proofs.Common.{subst, sym}
use Rattle.plain_scan.specs.Between.{HasSmallNumbers}
use Rattle.plain_scan.proofs.Smallness.{narrowed_has_small}
use Rattle.plain_scan.proofs.bounds.low_bound.Goals as goal

pub opposite_of-requires : goal.opposite_of-requires
opposite_of-requires c =
    subst HasSmallNumbers (sym c.in_ok-narrow.ensures)
    (narrowed_has_small c.args.place c.args.row.now c.requires.small)
