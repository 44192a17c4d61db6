-- Outlines of the sets that have a point.
use Rattle.std.specs.Prelude.{◌≡◌, List}
use Rattle.integer_sets.specs.Scanned.{Scanned}
use Rattle.plain_scan.specs.declared.outlined_sets.Outlines.{Outlines}
use Rattle.plain_scan.specs.Hulls.{sets_in}
use Rattle.plain_scan.specs.Leaving.{LeavesOut}
use Rattle.plain_scan.specs.Scanning.{dimensions_of, mark_of, parameters_of}
use Rattle.plain_scan.specs.Sets.{NumbersRise}

-- outlines of the sets but for some that have no point, by rising numbers, with what all sets have in common
pub record AreOutlined (sets : List Scanned) (all : Outlines) : Type 0 where
  pub kept : LeavesOut sets (sets_in all.outlines.items)
  pub rise : NumbersRise (sets_in all.outlines.items)
  pub dimensions : all.dimensions ≡ dimensions_of sets
  pub parameters : all.parameters ≡ parameters_of sets
  pub parallel : all.parallel ≡ mark_of sets
