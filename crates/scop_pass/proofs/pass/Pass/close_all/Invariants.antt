-- What is left to complete is all that was.
use Rattle.scop_syntax.proofs.Common.{◌≡◌, ◌+◌, length}
use Rattle.scop_pass.specs.Machine.{complete}
use Rattle.scop_pass.specs.Passing.{state_of}
use Rattle.scop_pass.proofs.pass.Pass.close_all.Given as goal

abbrev pub invariant-loop : goal.invariant-loop
invariant-loop l = record {
  rest : complete (state_of l.self) ≡ complete (state_of l.fn.self);
  count : l.counter + length l.self.frames.items ≡ l.count;
}
