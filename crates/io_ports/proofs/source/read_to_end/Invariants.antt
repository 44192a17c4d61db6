-- What was read so far is what the source has given, and is at most one byte longer than the limit.
use Rattle.std.proofs.Common.{◌+◌, ◌-◌, ◌≤◌, vec_len}
use Rattle.io_ports.specs.Reads.{Gives}
use Rattle.io_ports.proofs.source.read_to_end.Given as goal

abbrev pub invariant-loop-block : goal.invariant-loop-block
invariant-loop-block g l = record {
  given : Gives (g.S.Source.shows l.fn.source) (g.S.Source.shows l.source) l.bytes.items;
  room : vec_len l.bytes ≤ l.limit + 1;
}

abbrev pub decreases-loop-block : goal.decreases-loop-block
decreases-loop-block g l = l.limit + 1 - vec_len l.bytes
