use Rattle.tree_simplification.proofs.Common.{List, [], map, subst, sym, true, variables_of, test_of, AreTestsOf}
use Rattle.tree_simplification.proofs.Common.{side_tests}
use Rattle.loop_tree.specs.declared.tree.Test.{Test as CodeTest}
use Rattle.tree_simplification.proofs.Heads.{no_tests}
use Rattle.tree_simplification.proofs.single.once.side_tests.Goals as goal

pub returns : goal.returns
returns c =
    let f = c.args.form.now in
    let n = variables_of f in
    let start = subst (λ (ts : List CodeTest). AreTestsOf n [] (map test_of ts)) (sym c.new-tests.ensures.items)
    (no_tests n) in
    c.in_ok-push_side-2.ensures (side_tests true f c.args.lows.now) (c.in_ok-push_side.ensures [] start)
