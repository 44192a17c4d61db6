use Rattle.scop_syntax.proofs.Common.{◌≡◌, drop, max}
use Rattle.tile_skew.specs.ScanSets.{most_iterators}
use Rattle.tile_skew.proofs.statement_sets.most_iterators.Given as goal

abbrev pub invariant-loop-statement : goal.invariant-loop-statement
invariant-loop-statement l =
    max l.most (most_iterators (drop l.statement-index l.statements)) ≡ most_iterators l.statements
