use Rattle.scop_syntax.proofs.Common.{map, test_of}
use Rattle.scop_roles.specs.Formula.{formula_of}
use Rattle.scop_roles.proofs.FormulaValues.{on_ok, compared_tests}
use Rattle.scop_roles.proofs.values.add_comparison.Goals as goal

pub returns : goal.returns
returns c =
    on_ok c.push_test.result
    (λ all at compares h. compared_tests c.args.entries c.args.op (formula_of c.args.left.now)
    (formula_of c.args.right.now) at (map test_of c.args.pushed.now.items) (map test_of c.push_test.new.pushed.items)
    c.in_ok-left.left c.in_ok-right.right (test_of c.in_ok-test.test) compares c.in_ok-left.ensures.form
    c.in_ok-right.ensures.form c.in_ok-test.ensures all h) c.push_test.ensures
