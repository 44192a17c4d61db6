-- The tests so far, in front of those to come, are all of them.
use Rattle.scop_syntax.proofs.Common.{◌≡◌, ◌-◌, map, Some}
use Rattle.loop_tree.specs.View.{test_of}
use Rattle.c_printer.specs.Reading.{read_more_tests, with_test}
use Rattle.c_printer.specs.steps.View.{test_part}
use Rattle.c_printer.proofs.ReadSteps.{parts_before}
use Rattle.c_printer.proofs.read_tests.with_more.Given as goal

abbrev pub invariant-loop-at : goal.invariant-loop-at
invariant-loop-at l =
    parts_before (map test_of l.tests.items)
    (read_more_tests (l.steps - l.at) l.parameters (map (λ n. n.items) l.names) l.rest)
    ≡ with_test (read_more_tests l.steps l.parameters (map (λ n. n.items) l.names)) (Some (test_part l.fn.first))
