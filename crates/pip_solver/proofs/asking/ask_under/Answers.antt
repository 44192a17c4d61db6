use Rattle.whole_numbers.proofs.Common.{rules, ◌≡◌, ◌∙◌, ◌+◌, ◌++◌, ◌∷◌, [], ℕ, List, map, ap, sym, subst, FitsSigned}
use Rattle.whole_numbers.proofs.Common.{w128, to_z-of_z, Bool, Affine}
use Rattle.checked_tableau.specs.Nodes.{Counted, ask, formed, under_run, longer_form}
use Rattle.checked_tableau.proofs.AddedParameters.{speaks-longer, speaks-append}
use Rattle.pip_solver.specs.steps.Promises.{Tells}
use Rattle.pip_solver.proofs.Decisions.{speaks_at}
use Rattle.pip_solver.proofs.Questions.{asked-behind}
use Rattle.pip_solver.proofs.asking.ask_under.Goals as goal
use Rattle.pip_solver.proofs.asking.ask_under.Goals.{After-deref-in-Some}

-- the rows, and the number of their variables
rows : (c : After-deref-in-Some)
    → c.deref-in-Some.result.now ≡ map longer_form c.args.node.now.context.items ++ c.args.first ∷ []
rows c =
    c.deref-in-Some.ensures.value ∙ c.in-Ok.ensures
    ∙ ap (λ (fs : List Affine). map longer_form fs ++ c.args.first ∷ []) c.deref.ensures.value

size : (c : After-deref-in-Some) → c.in-Some.unknowns ≡ c.args.node.now.rows.parameters + 1
size c = c.in-Some.ensures.1 ∙ ap (λ (k : ℕ). k + 1) c.parameters.ensures

pub ask_with_under-requires-clause-forms : goal.ask_with_under-requires-clause-forms
ask_with_under-requires-clause-forms c =
    let t = c.args.node.now in
    let m = t.rows.parameters + 1 in
    let fs = map longer_form t.context.items in
    let at = (goal.at.ask_with_under-requires-clause-forms c).After-deref-in-Some in
    speaks_at m c.in-Some.unknowns (fs ++ c.args.first ∷ []) c.deref-in-Some.result.now
    (speaks-append m fs (c.args.first ∷ []) (speaks-longer t.rows.parameters t.context.items c.requires.speaks)
    (c.requires.first, tt)) (rows at) (size at)

pub ask_with_under-requires-clause-form : goal.ask_with_under-requires-clause-form
ask_with_under-requires-clause-form c =
    ap (λ (k : ℕ). k + 1) c.requires.form
    ∙ sym (size (goal.at.ask_with_under-requires-clause-form c).After-deref-in-Some)

pub returns-clause-run : goal.returns-clause-run
returns-clause-run c =
    let t = c.args.node.now in
    let d = c.args.divisor in
    let q = under_run d c.args.form.now in
    let left = c.args.left.now in
    let fs = map longer_form t.context.items in
    let at = (goal.at.returns-clause-run c).After-deref-in-Some in
    let fits : FitsSigned w128 d = search rules in
    let run = simp to_z-of_z at c.ask_with_under.ensures.run in
    subst (λ (k : Counted Bool). Tells c.ask_with_under.result c.ask_with_under.new.left k)
    (asked-behind left (t.rows.parameters + 1) q fs c.args.first)
    (subst (λ (k : ℕ). Tells c.ask_with_under.result c.ask_with_under.new.left
    (formed left q (λ h. ask left k ((fs ++ c.args.first ∷ []) ++ h ∷ [])))) (size at)
    (subst (λ (gs : List Affine). Tells c.ask_with_under.result c.ask_with_under.new.left
    (formed left q (λ h. ask left c.in-Some.unknowns (gs ++ h ∷ [])))) (rows at) run))
