use Rattle.expansions.specs.steps.Listing.{AreTurns}
use Rattle.expansions.proofs.listing.are_kept.Given as goal

abbrev pub invariant-loop-at : goal.invariant-loop-at
invariant-loop-at l = AreTurns l.at l.turns l.kept
