use Rattle.scop_syntax.proofs.Common.{All, take}
use Rattle.plain_scan.specs.Between.{HasSmallNumbers}
use Rattle.plain_scan.proofs.numbers.large_among.Given as goal

abbrev pub invariant-loop-form : goal.invariant-loop-form
invariant-loop-form l = All HasSmallNumbers (take l.form-index l.forms)
