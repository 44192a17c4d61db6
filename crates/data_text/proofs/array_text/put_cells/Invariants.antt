-- What was put so far and the text of the cells to come are the text of all cells.
use Rattle.scop_syntax.proofs.Common.{◌≡◌, ◌++◌, ℕ, List, drop}
use Rattle.io_ports.specs.Writes.{Sends}
use Rattle.data_text.specs.ArrayText.{cells_text}
use Rattle.data_text.proofs.array_text.put_cells.Given as goal

abbrev pub invariant-loop-cell : goal.invariant-loop-cell
invariant-loop-cell g l =
    (done : List ℕ) × (done ++ cells_text (drop l.cell-index l.cells) ≡ cells_text l.cells)
    × Sends (g.K.Sink.shows l.initial.sink) l.initial.pieces (g.K.Sink.shows l.sink) l.pieces done
