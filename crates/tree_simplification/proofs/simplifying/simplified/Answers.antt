use Rattle.tree_simplification.proofs.Common.{IfOk-weaker, rules, trees_in, IsInlined}
use Rattle.loop_tree.proofs.LargerBounds.{nested_all}
use Rattle.tree_simplification.proofs.TrimmedTrees.{trimmed_alone, trimmed_inlined}
use Rattle.tree_simplification.proofs.simplifying.simplified.Goals as goal

pub without_single-requires-clause-nested : goal.without_single-requires-clause-nested
without_single-requires-clause-nested c =
    let small = c.requires.small in (small.0, small.1, nested_all small.0 (trees_in c.args.tree.now) small.2)

pub returns-in-Some : goal.returns-in-Some
returns-in-Some c =
    let small = c.requires.small in
    let old = trees_in c.args.tree.now in
    let middle = trees_in c.in-Some.inlined in
    let inlined : IsInlined c.args.parameters old middle = search rules in
    IfOk-weaker c.without_implied.result _ _
    (λ tree trimmed. trimmed_inlined c.args.parameters small.0 old middle (trees_in tree) c.requires.flat small.2
    inlined trimmed)
    c.without_implied.ensures

pub returns-in-None : goal.returns-in-None
returns-in-None c =
    let small = c.requires.small in
    let old = trees_in c.args.tree.now in
    IfOk-weaker c.without_implied-in-None.result _ _
    (λ tree trimmed. trimmed_alone c.args.parameters small.0 old (trees_in tree) c.requires.few small.1 small.2
    c.requires.numbers trimmed)
    c.without_implied-in-None.ensures
