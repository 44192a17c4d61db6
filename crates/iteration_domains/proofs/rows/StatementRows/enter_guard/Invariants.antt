use Rattle.scop_syntax.proofs.Common.{◌≡◌, map, drop, test_of}
use Rattle.iteration_domains.specs.Path.{shown}
use Rattle.iteration_domains.specs.Rows.{composed_test}
use Rattle.iteration_domains.specs.Standing.{with_tests}
use Rattle.iteration_domains.proofs.rows.StatementRows.enter_guard.Given as goal

abbrev pub invariant-loop-test : goal.invariant-loop-test
invariant-loop-test l =
    with_tests (shown l.self)
    (map (composed_test l.fn.self.variables l.fn.self.forms.items) (map test_of (drop l.test-index l.tests)))
    ≡ with_tests (shown l.fn.self)
    (map (composed_test l.fn.self.variables l.fn.self.forms.items) (map test_of l.tests))
