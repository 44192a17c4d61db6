-- What was put so far and the lines to come are all the lines.
use Rattle.scop_syntax.proofs.Common.{◌≡◌, ◌++◌, ℕ, List, map, drop}
use Rattle.io_ports.specs.Writes.{Sends}
use Rattle.data_text.specs.ArrayText.{rows_text}
use Rattle.data_text.proofs.array_text.put_rows.Given as goal

abbrev pub invariant-loop-at : goal.invariant-loop-at
invariant-loop-at g l =
    (done : List ℕ)
    × (done ++ rows_text (drop l.at (map (λ a. a.name) l.arrays)) (drop l.at l.contents) ≡ rows_text
    (map (λ a. a.name) l.arrays) l.contents)
    × Sends (g.K.Sink.shows l.initial.sink) l.initial.pieces (g.K.Sink.shows l.sink) l.pieces done
