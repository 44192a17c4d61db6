use Rattle.whole_numbers.proofs.Common.{◌≡◌, ◌∙◌, ◌++◌, List, length, ap, subst, sym, refl, Bool, arith, Result, Err}
use Rattle.whole_numbers.proofs.Common.{All, Affine, all_front, all_back}
use Rattle.checked_tableau.specs.Nodes.{Counted, ask}
use Rattle.pip_solver.specs.steps.Promises.{Tells}
use Rattle.pip_solver.specs.declared.question.QuestionStop.{QuestionStop}
use Rattle.pip_solver.proofs.Decisions.{decided_is, turned}
use Rattle.pip_solver.proofs.emptiness.decide.Goals as goal
use Rattle.pip_solver.proofs.emptiness.decide.Goals.{After-ask}

pub ask-requires-clause-forms : goal.ask-requires-clause-forms
ask-requires-clause-forms c =
    let n = c.args.unknowns in
    subst (λ (fs : List Affine). All (λ f. length f.coefficients ≡ n) fs) (sym c.deref.ensures.value)
    (all_front (λ f. length f.coefficients ≡ n) c.args.front.items c.args.own.now c.requires)

pub ask-requires-clause-more : goal.ask-requires-clause-more
ask-requires-clause-more c =
    all_back (λ f. length f.coefficients ≡ c.args.unknowns) c.args.front.items c.args.own.now c.requires

-- the question is that of both parts
abbrev asked : After-ask → Counted Bool
asked c = ask c.args.budget c.args.unknowns (c.args.front.items ++ c.args.own.now)

told : (c : After-ask) → Tells c.ask.result c.ask.new.left (asked c)
told c =
    subst (λ (fs : List Affine). Tells c.ask.result c.ask.new.left
    (ask c.args.budget c.args.unknowns (fs ++ c.args.own.now))) c.deref.ensures.value c.ask.ensures.run

pub returns-in-Ok : goal.returns-in-Ok
returns-in-Ok c =
    let at = (goal.at.returns-in-Ok c).After-ask in
    let left = c.ask.new.left in
    let is = subst (λ (r : Result Bool QuestionStop). Tells r left (asked at)) c.in-Ok.is (told at) in
    (left, decided_is c.args.budget c.args.unknowns (c.args.front.items ++ c.args.own.now) ∙ ap turned is)

pub returns-in-Wide : goal.returns-in-Wide
returns-in-Wide c =
    let at = (goal.at.returns-in-Wide c).After-ask in
    let left = c.ask.new.left in
    let is = subst (λ (r : Result Bool QuestionStop). Tells r left (asked at))
    (c.in-Err.is ∙ ap (λ e. Err e) c.in-Wide.is) (told at) in
    let less = c.ask.ensures.less in (
      is.0,
      left,
      decided_is c.args.budget c.args.unknowns (c.args.front.items ++ c.args.own.now) ∙ ap turned is.1,
      omega arith,
      c.in-Ok-joined.ensures,
    )

pub returns-in-Spent : goal.returns-in-Spent
returns-in-Spent c =
    let at = (goal.at.returns-in-Spent c).After-ask in
    let is = subst (λ (r : Result Bool QuestionStop). Tells r c.ask.new.left (asked at))
    (c.in-Err.is ∙ ap (λ e. Err e) c.in-Spent.is) (told at) in (
      decided_is c.args.budget c.args.unknowns (c.args.front.items ++ c.args.own.now) ∙ ap turned is.0,
      refl,
      c.in-Ok-joined.ensures,
    )
