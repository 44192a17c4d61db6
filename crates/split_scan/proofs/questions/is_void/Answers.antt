use Rattle.scop_syntax.proofs.Common.{◌≡◌, ◌+◌, ◌++◌, rules, ap, subst, ◌∙◌, List, IsTrue, IfOk-weaker, Affine}
use Rattle.split_scan.specs.steps.Questions.{HasNone}
use Rattle.split_scan.proofs.EmptinessAnswers.{void_of}
use Rattle.split_scan.proofs.questions.is_void.Goals as goal

pub returns : goal.returns
returns c =
    let level = c.args.level.now in
    let inside = level.inside.items in
    let cuts = c.args.cuts.now in
    let natural : IsTrue level.natural = search rules in
    let made : c.in_ok-rows.rows.items ≡ inside ++ cuts =
    c.in_ok-rows.ensures ∙ ap (λ (fs : List Affine). fs ++ cuts) c.deref.ensures.value in
    IfOk-weaker c.has_none.result _ _ (λ none h t. void_of level.place inside cuts (level.not_negative natural)
    (subst (HasNone (level.place + 1)) made (h t))) c.has_none.ensures
