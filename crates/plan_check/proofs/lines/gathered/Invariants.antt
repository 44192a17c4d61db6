use Rattle.scop_syntax.proofs.Common.{◌≡◌, drop}
use Rattle.plan_check.specs.Derivations.{behind, named}
use Rattle.plan_check.proofs.lines.gathered.Given as goal

abbrev pub invariant-loop-term : goal.invariant-loop-term
invariant-loop-term l = behind l.found.items (named l.rows (drop l.term-index l.terms)) ≡ named l.rows l.terms
