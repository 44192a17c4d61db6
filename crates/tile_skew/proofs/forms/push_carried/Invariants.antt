use Rattle.scop_syntax.proofs.Common.{◌≡◌, ◌++◌, drop}
use Rattle.tile_skew.specs.ScanSets.{carried}
use Rattle.tile_skew.proofs.forms.push_carried.Given as goal

abbrev pub invariant-loop-row : goal.invariant-loop-row
invariant-loop-row l = l.numbers.items ++ carried (drop l.row-index l.rows) ≡ l.fn.numbers.items ++ carried l.rows
