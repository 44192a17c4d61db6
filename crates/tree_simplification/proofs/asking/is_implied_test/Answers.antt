use Rattle.tree_simplification.proofs.Common.{◌≡◌, subst, sym, List, ℤ, ◌++◌, map, true, IfOk-weaker, test_of, holds}
use Rattle.tree_simplification.proofs.Common.{Meets, tested, context_of}
use Rattle.loop_tree.specs.declared.tree.Test.{Test as CodeTest}
use Rattle.tree_simplification.proofs.Contexts.{implied_equal, implied_up}
use Rattle.tree_simplification.proofs.asking.is_implied_test.Goals as goal

pub returns-in-AtLeast : goal.returns-in-AtLeast
returns-in-AtLeast c =
    let under = tested (context_of c.args.context.now) (map test_of c.args.others.now) in
    IfOk-weaker c.never_holds_under.result _ _ (λ b never found.
    subst (λ (t : CodeTest). (params outer : List ℤ) → Meets under params outer
    → holds (test_of t) (outer ++ params) ≡ true) (sym c.in-AtLeast.is)
    (implied_up under c.in-AtLeast.form (never found))) c.never_holds_under.ensures

pub returns-in_ok-down-in-Equal : goal.returns-in_ok-down-in-Equal
returns-in_ok-down-in-Equal c found =
    let under = tested (context_of c.args.context.now) (map test_of c.args.others.now) in
    let both = c.and_then.ensures found in
    subst (λ (t : CodeTest). (params outer : List ℤ) → Meets under params outer
    → holds (test_of t) (outer ++ params) ≡ true) (sym c.in-Equal.is)
    (implied_equal under c.in-Equal.form (c.in_ok-up-in-Equal.ensures both.0) (c.in_ok-down-in-Equal.ensures both.1))
