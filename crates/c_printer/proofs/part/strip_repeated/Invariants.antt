-- What the times to come leave is what all leave.
use Rattle.scop_syntax.proofs.Common.{◌≡◌, ◌-◌}
use Rattle.form_text.specs.Reading.{strip}
use Rattle.c_printer.specs.Nodes.{repeated}
use Rattle.c_printer.proofs.part.strip_repeated.Given as goal

abbrev pub invariant-loop-at : goal.invariant-loop-at
invariant-loop-at l = strip (repeated l.piece (l.count - l.at)) l.rest ≡ strip (repeated l.piece l.count) l.text
