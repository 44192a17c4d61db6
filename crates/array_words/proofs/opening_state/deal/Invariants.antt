use Rattle.scop_syntax.proofs.Common.{◌≡◌, ◌+◌, ◌≤◌, length}
use Rattle.array_words.specs.Seats.{AreUnused, IsRest}
use Rattle.array_words.proofs.opening_state.deal.Given as goal

abbrev pub invariant-loop : goal.invariant-loop
invariant-loop l = record {
  rest : IsRest l.words l.rest.me.0.parts l.rest;
  unused : AreUnused l.words l.passes.items;
  some : 1 ≤ l.rest.me.0.parts;
  count : l.rest.me.0.parts + length l.passes.items ≡ l.workers;
  at : length l.passes.items + 1 ≡ l.counter;
}
