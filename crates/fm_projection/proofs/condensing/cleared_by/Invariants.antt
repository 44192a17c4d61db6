use Rattle.whole_numbers.proofs.Common.{◌≡◌, drop}
use Rattle.fm_projection.specs.Condensed.{cleared_by}
use Rattle.fm_projection.proofs.condensing.cleared_by.Given as goal

abbrev pub invariant-loop-equality : goal.invariant-loop-equality
invariant-loop-equality l = cleared_by (drop l.equality-index l.equalities) l.own ≡ cleared_by l.equalities l.form
