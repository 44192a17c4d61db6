use Rattle.scop_syntax.proofs.Common.{◌≡◌, ◌++◌, map, take}
use Rattle.loop_tree.specs.Tree.{at_least, equal}
use Rattle.loop_tree.specs.View.{test_of}
use Rattle.plain_scan.proofs.bounds.tests.Given as goal

abbrev pub invariant-loop-form : goal.invariant-loop-form
invariant-loop-form l = map test_of l.out.items ≡ map equal (take l.form-index l.form-items)

abbrev pub invariant-loop-form-2 : goal.invariant-loop-form-2
invariant-loop-form-2 l =
    map test_of l.out.items ≡ map equal l.set.system.equalities ++ map at_least (take l.form-index l.form-items)
