use Rattle.scop_syntax.proofs.Common.{◌≡◌, length}
use Rattle.expansions.specs.steps.Listing.{AreTurns}
use Rattle.expansions.proofs.listing.entry_of.Given as goal

abbrev pub invariant-loop-at : goal.invariant-loop-at
invariant-loop-at l = record {
  are : AreTurns l.at l.turns l.kept;
  long : length l.kept ≡ 5;
}
