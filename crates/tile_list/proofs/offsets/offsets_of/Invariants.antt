use Rattle.scop_syntax.proofs.Common.{◌≡◌, ◌++◌, drop, length}
use Rattle.tile_list.specs.TilesView.{waves_of}
use Rattle.tile_list.specs.steps.Offsets.{offsets_from}
use Rattle.tile_list.proofs.offsets.offsets_of.Given as goal

abbrev pub invariant-loop-number : goal.invariant-loop-number
invariant-loop-number l =
    l.offsets.items ++ offsets_from l.number (length l.offsets.items) (waves_of (drop l.number l.tiles))
    ≡ offsets_from 0 0 (waves_of l.tiles)
