use Rattle.scop_syntax.proofs.Common.{◌≡◌, ◌+◌, ◌++◌, [], ◌∷◌, rules, ap, ap₂, subst, sym, ◌∙◌, List, All, arith, map}
use Rattle.scop_syntax.proofs.Common.{IsTrue, IfOk-weaker, Affine, widened}
use Rattle.affine_forms.specs.Parts.{variables_of}
use Rattle.split_scan.specs.steps.Questions.{HasNone}
use Rattle.split_scan.specs.steps.Ordering.{turned}
use Rattle.split_scan.proofs.PartOrder.{below_of, turned_sized}
use Rattle.split_scan.proofs.ordering.is_below.Goals as goal
use Rattle.split_scan.proofs.ordering.is_below.Goals.{In_ok-push}

-- the rows of the question
made_there : (c : In_ok-push) → c.push.new.list.items
    ≡ turned c.args.level.now.place (c.args.level.now.place + 2 + c.args.level.now.parameters)
    c.args.level.now.inside.items c.args.first.now c.args.second.now
made_there c =
    let m = c.args.level.now.place in
    let inside = c.args.level.now.inside.items in
    let lower : c.deref-3.result.now ≡ inside ++ c.args.first.now =
    c.deref-3.ensures.value ∙ c.in_ok-lower.ensures
    ∙ ap (λ (fs : List Affine). fs ++ c.args.first.now) c.deref.ensures.value in
    let upper : c.deref-4.result.now ≡ inside ++ c.args.second.now =
    c.deref-4.ensures.value ∙ c.in_ok-upper.ensures
    ∙ ap (λ (fs : List Affine). fs ++ c.args.second.now) c.deref-2.ensures.value in
    let one : c.push_widened.new.out.items ≡ map (widened (m + 1)) (inside ++ c.args.first.now) =
    c.in_ok-push_widened.ensures
    ∙ ap₂ (λ (fs gs : List Affine). fs ++ map (widened (m + 1)) gs) c.new-rows.ensures.items lower in
    let two : c.push_widened-2.new.out.items
    ≡ map (widened (m + 1)) (inside ++ c.args.first.now) ++ map (widened m) (inside ++ c.args.second.now) =
    c.in_ok-push_widened-2.ensures ∙ ap₂ (λ (fs gs : List Affine). fs ++ map (widened m) gs) one upper in
    let pushed : c.push.new.list.items ≡ c.push_widened-2.new.out.items ++ c.in_ok-row.row ∷ [] = search rules in
    pushed ∙ ap₂ (λ (fs : List Affine) (f : Affine). fs ++ f ∷ []) two c.in_ok-row.ensures

pub has_none-requires : goal.has_none-requires
has_none-requires c =
    let level = c.args.level.now in
    let m = level.place in
    let n = m + 2 + level.parameters in
    subst (All (λ f. variables_of f ≡ n)) (sym (made_there (goal.at.has_none-requires c).In_ok-push))
    (turned_sized m n level.inside.items c.args.first.now c.args.second.now (omega arith)
    (λ k d h. let e = level.sized k d h in omega (arith, e))
    (λ k d h. let e = c.requires.first k d h in omega (arith, e))
    (λ k d h. let e = c.requires.second k d h in omega (arith, e)))

pub returns : goal.returns
returns c =
    let level = c.args.level.now in
    let m = level.place in
    let n = m + 2 + level.parameters in
    let inside = level.inside.items in
    let natural : IsTrue level.natural = search rules in
    IfOk-weaker c.has_none.result _ _ (λ none h t. below_of m n inside c.args.first.now c.args.second.now
    (omega arith) (level.not_negative natural)
    (subst (HasNone (m + 2)) (made_there (goal.at.returns c).In_ok-push) (h t))) c.has_none.ensures
