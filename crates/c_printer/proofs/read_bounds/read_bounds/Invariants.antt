-- The bounds so far, in front of those to come, are all of them.
use Rattle.scop_syntax.proofs.Common.{◌≡◌, ◌-◌, map}
use Rattle.c_printer.specs.Reading.{read_bounds}
use Rattle.c_printer.specs.steps.Reading.{closed_bounds}
use Rattle.c_printer.proofs.read_bounds.read_bounds.Given as goal

abbrev pub invariant-loop-at : goal.invariant-loop-at
invariant-loop-at l =
    closed_bounds l.bounds.items
    (read_bounds (l.steps - l.at) l.divided l.chosen l.parameters (map (λ n. n.items) l.names) l.rest)
    ≡ read_bounds l.steps l.divided l.chosen l.parameters (map (λ n. n.items) l.names) l.text
