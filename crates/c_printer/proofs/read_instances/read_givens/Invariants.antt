-- The turns so far, in front of those to come over the names so far, are all of them.
use Rattle.scop_syntax.proofs.Common.{◌≡◌, drop, map}
use Rattle.c_printer.specs.Reading.{read_givens}
use Rattle.c_printer.proofs.ReadSteps.{parts_before}
use Rattle.c_printer.proofs.read_instances.read_givens.Given as goal

abbrev pub invariant-loop-at : goal.invariant-loop-at
invariant-loop-at l =
    parts_before l.turns.items
    (read_givens l.parameters l.loops (map (λ n. n.items) l.names.items) (map (λ h. h.now) (drop l.at l.heads)) l.rest)
    ≡ read_givens l.parameters l.loops (map (λ n. n.items) l.fn.names.items) (map (λ h. h.now) l.heads) l.text
