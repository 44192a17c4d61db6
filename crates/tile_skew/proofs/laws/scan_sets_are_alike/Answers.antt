use Rattle.tile_skew.proofs.AlikeSets.{scanned_alike}
use Rattle.tile_skew.proofs.laws.scan_sets_are_alike.Goals as goal

pub returns : goal.returns
returns c size blocks model x y i j = scanned_alike size blocks model x y i j
