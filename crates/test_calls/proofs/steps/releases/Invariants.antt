use Rattle.scop_syntax.proofs.Common.{◌≡◌, length}
use Rattle.tile_core.specs.Cores.{IsCore, state_in}
use Rattle.test_calls.proofs.steps.releases.Given as goal

abbrev pub invariant-loop : goal.invariant-loop
invariant-loop l = IsCore l.core × (length (state_in l.core).workers ≡ 2)
