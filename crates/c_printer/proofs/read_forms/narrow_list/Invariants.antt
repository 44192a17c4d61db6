-- The numbers so far, in front of those to come, are all of them.
use Rattle.scop_syntax.proofs.Common.{◌≡◌, drop}
use Rattle.c_printer.specs.steps.Reading.{narrow_list}
use Rattle.c_printer.proofs.NarrowNumbers.{in_front}
use Rattle.c_printer.proofs.read_forms.narrow_list.Given as goal

abbrev pub invariant-loop-at : goal.invariant-loop-at
invariant-loop-at l = in_front l.all.items (narrow_list (drop l.at l.numbers)) ≡ narrow_list l.numbers
