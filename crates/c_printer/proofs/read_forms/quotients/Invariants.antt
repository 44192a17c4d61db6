-- The quotients so far, in front of those to come, are all of them.
use Rattle.scop_syntax.proofs.Common.{◌≡◌, ◌-◌, List, ℤ, drop, map, take}
use Rattle.form_text.specs.View.{nearest}
use Rattle.c_printer.specs.Reading.{quotients}
use Rattle.c_printer.specs.steps.Reading.{narrow_list}
use Rattle.c_printer.proofs.NarrowNumbers.{in_front}
use Rattle.c_printer.proofs.read_forms.quotients.Given as goal

abbrev pub invariant-loop-at : goal.invariant-loop-at
invariant-loop-at l =
    (zs : List ℤ) → l.numbers ≡ map nearest zs
    → in_front l.all.items
    (narrow_list (take (l.count - l.at) (quotients l.stride (drop l.at l.starts) (drop l.at zs))))
    ≡ narrow_list (take l.count (quotients l.stride l.starts zs))
