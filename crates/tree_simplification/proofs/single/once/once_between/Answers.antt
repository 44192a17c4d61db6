use Rattle.tree_simplification.proofs.Common.{◌≡◌, ◌++◌, ℕ, List, false, map, rules, subst, sym, true, IfSome_then, All}
use Rattle.tree_simplification.proofs.Common.{In, variables_of, IsOver, test_of, AreTestsOf, IsOnceIn, side_tests}
use Rattle.loop_tree.specs.declared.tree.Test.{Test}
use Rattle.tree_simplification.specs.steps.Inlined.{whole}
use Rattle.tree_simplification.proofs.Once.{member_over}
use Rattle.tree_simplification.proofs.single.once.once_between.Goals as goal

pub side_tests-requires-clause-lows : goal.side_tests-requires-clause-lows
side_tests-requires-clause-lows c =
    let f = c.in-Some.form in
    let lows = c.args.lows.now in
    let known : In (whole f) lows × In (whole f) c.args.ups.now = search rules in
    let over : variables_of f ≡ c.args.variables = member_over c.args.variables f lows c.requires.lows known.0 in
    subst (λ (n : ℕ). All (λ b. IsOver n b.form) lows) (sym over) c.requires.lows

pub side_tests-requires-clause-ups : goal.side_tests-requires-clause-ups
side_tests-requires-clause-ups c =
    let f = c.in-Some.form in
    let lows = c.args.lows.now in
    let known : In (whole f) lows × In (whole f) c.args.ups.now = search rules in
    let over : variables_of f ≡ c.args.variables = member_over c.args.variables f lows c.requires.lows known.0 in
    subst (λ (n : ℕ). All (λ b. IsOver n b.form) c.args.ups.now) (sym over) c.requires.ups

pub returns-in_ok-tests-in-Some : goal.returns-in_ok-tests-in-Some
returns-in_ok-tests-in-Some c =
    let f = c.in-Some.form in
    let lows = c.args.lows.now in
    let ups = c.args.ups.now in
    let sides : In (whole f) lows × In (whole f) ups = search rules in
    let over : variables_of f ≡ c.args.variables = member_over c.args.variables f lows c.requires.lows sides.0 in
    IfSome_then c.once_under.result c.once_under.ensures (λ once known.
    subst (λ g. IsOnceIn c.args.variables g lows ups (map test_of once.tests.items)) (sym known.0)
    (subst (λ (ts : List Test). IsOnceIn c.args.variables f lows ups (map test_of ts)) (sym known.1) (record {
      over = over;
      low = sides.0;
      high = sides.1;
      between = subst (λ (n : ℕ). AreTestsOf n (side_tests true f lows ++ side_tests false f ups)
          (map test_of c.in_ok-tests-in-Some.tests.items)) over c.in_ok-tests-in-Some.ensures;
    })))
