use Rattle.scop_syntax.proofs.Common.{◌≡◌, length, refl, sym, ◌∙◌, arith}
use Rattle.scop_pass.specs.Passing.{state_of}
use Rattle.scop_pass.proofs.CompletedHeads.{nothing_left}
use Rattle.scop_pass.proofs.pass.Pass.close_all.Goals as goal

pub returns : goal.returns
returns c =
    let left = c.loop.self.frames.items in
    let none : length left ≡ 0 = omega (arith, c.loop.invariant.count) in
    sym c.loop.invariant.rest ∙ nothing_left (state_of c.loop.self) left refl none
