-- What was put so far and the text of the parts to come are the text of all parts.
use Rattle.scop_syntax.proofs.Common.{◌≡◌, ◌++◌, ℕ, List, drop}
use Rattle.io_ports.specs.Writes.{Sends}
use Rattle.report_text.specs.steps.Parts.{parts_text}
use Rattle.report_text.proofs.parts.put_parts.Given as goal

abbrev pub invariant-loop-part : goal.invariant-loop-part
invariant-loop-part g l =
    (done : List ℕ) × (done ++ parts_text (drop l.part-index l.parts) ≡ parts_text l.parts)
    × Sends (g.K.Sink.shows l.initial.sink) l.initial.pieces (g.K.Sink.shows l.sink) l.pieces done
