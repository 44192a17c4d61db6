use Rattle.tree_simplification.proofs.Common.{List, map, subst, sym, ◌∙◌, All, IfOk-weaker, IfSome_then, IsOver, Bound}
use Rattle.tree_simplification.proofs.Common.{bounds_in, test_of, parts, IsOnceIn}
use Rattle.tree_simplification.proofs.Once.{parts_sized}
use Rattle.tree_simplification.proofs.single.once.once_at.Goals as goal

pub once_between-requires-clause-lows : goal.once_between-requires-clause-lows
once_between-requires-clause-lows c =
    subst (λ (bs : List Bound). All (λ b. IsOver c.args.variables b.form) bs)
    (sym (c.deref.ensures.value ∙ c.in_ok-lows.ensures))
    (parts_sized c.args.variables (bounds_in c.args.lower.now) c.requires.lower)

pub once_between-requires-clause-ups : goal.once_between-requires-clause-ups
once_between-requires-clause-ups c =
    subst (λ (bs : List Bound). All (λ b. IsOver c.args.variables b.form) bs)
    (sym (c.deref-2.ensures.value ∙ c.in_ok-ups.ensures))
    (parts_sized c.args.variables (bounds_in c.args.upper.now) c.requires.upper)

pub returns : goal.returns
returns c =
    let lows = c.deref.ensures.value ∙ c.in_ok-lows.ensures in
    let ups = c.deref-2.ensures.value ∙ c.in_ok-ups.ensures in
    IfOk-weaker c.once_between.result _ _
    (λ found some. IfSome_then found some (λ once known. (
      c.if-parallel.false,
      subst (λ (bs : List Bound). IsOnceIn c.args.variables once.form bs (parts (bounds_in c.args.upper.now))
          (map test_of once.tests.items)) lows
          (subst (λ (bs : List Bound). IsOnceIn c.args.variables once.form c.deref.result.now bs
          (map test_of once.tests.items)) ups known),
    )))
    c.once_between.ensures
