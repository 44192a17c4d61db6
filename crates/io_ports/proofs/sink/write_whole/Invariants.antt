-- What the sink took so far is the front of the text before the place.
use Rattle.std.proofs.Common.{length, take, ◌-◌, ◌≤◌}
use Rattle.io_ports.specs.Writes.{Takes}
use Rattle.io_ports.proofs.sink.write_whole.Given as goal

abbrev pub invariant-loop-at : goal.invariant-loop-at
invariant-loop-at g l = record {
  within : l.at ≤ length l.text;
  taken : Takes (g.K.Sink.shows l.fn.sink) (g.K.Sink.shows l.sink) (take l.at l.text);
}

abbrev pub decreases-loop-at : goal.decreases-loop-at
decreases-loop-at g l = length l.text - l.at
