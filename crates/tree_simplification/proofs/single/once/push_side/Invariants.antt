use Rattle.tree_simplification.proofs.Common.{List, ◌++◌, map, take, variables_of, test_of, AreTestsOf, side_tests}
use Rattle.loop_tree.specs.Tree.{Test}
use Rattle.tree_simplification.proofs.single.once.push_side.Given as goal

abbrev pub invariant-loop-part : goal.invariant-loop-part
invariant-loop-part l =
    (old : List Test) → AreTestsOf (variables_of l.form) old (map test_of l.fn.tests.items)
    → AreTestsOf (variables_of l.form) (old ++ side_tests l.turned l.form (take l.part-index l.parts))
    (map test_of l.tests.items)
