use Rattle.scop_syntax.proofs.Common.{rules, ◌≡◌, ◌∙◌, ◌<◌, ◌≤◌, ◌∷◌, ℕ, List, Some, ap, drop, length, sym, slice_get}
use Rattle.scop_syntax.proofs.Common.{Affine}
use Rattle.plan_check.specs.Goals.{later_goals}
use Rattle.plan_check.specs.Plans.{number_of, rows, numbers}
use Rattle.plan_check.specs.PlanView.{item_of, plan_of}
use Rattle.plan_check.specs.declared.plan.LaterItem.TheVariants as item
use Rattle.plan_check.specs.declared.walk.Place.TheVariants as place
use Rattle.plan_check.proofs.Walks.{get_mapped, later_fits, later_less, later_more, later_same, past_end, row_exit, whole_exit}
use Rattle.plan_check.proofs.walk.later_goal.Goals as goal

pub later_row-requires : goal.later_row-requires
later_row-requires c =
    let p = plan_of c.args.plan.now in
    let fs = c.deref.result.now in
    let k = c.loop-at.at in
    let is : c.in-Some-Row.field-0.now ≡ item.Row c.in-Some-Row.forms = c.in-Some-Row.field-0-is in
    let got : slice_get p.behind k ≡ Some (rows fs) =
    get_mapped item_of c.args.plan.now.behind.items k c.in-Some-Row.field-0.now (sym c.in-Some-Row.ensures)
    ∙ (ap (λ (z : item.the_data). Some (item_of z)) is
    ∙ ap (λ (gs : List Affine). Some (rows gs)) (sym c.deref.ensures.value)) in
    later_fits c.args.parameters p c.args.dep.now k fs c.requires got

pub returns-in-Some-Row : goal.returns-in-Some-Row
returns-in-Some-Row c =
    let p = plan_of c.args.plan.now in
    let fs = c.deref.result.now in
    let k = c.loop-at.at in
    let is : c.in-Some-Row.field-0.now ≡ item.Row c.in-Some-Row.forms = c.in-Some-Row.field-0-is in
    let got : slice_get p.behind k ≡ Some (rows fs) =
    get_mapped item_of c.args.plan.now.behind.items k c.in-Some-Row.field-0.now (sym c.in-Some-Row.ensures)
    ∙ (ap (λ (z : item.the_data). Some (item_of z)) is
    ∙ ap (λ (gs : List Affine). Some (rows gs)) (sym c.deref.ensures.value)) in
    row_exit c.later_row.result c.args.parameters p c.args.dep.now k c.args.from fs c.later_row.ensures c.requires got
    c.loop-at.invariant

pub returns-then-source-target : goal.returns-then-source-target
returns-then-source-target c =
    let p = plan_of c.args.plan.now in
    let d = c.args.dep.now in
    let ns = c.in-Some-Scalar.numbers.items in
    let k = c.loop-at.at in
    let is : c.in-Some-Scalar.field-0.now ≡ item.Scalar c.in-Some-Scalar.numbers = search rules in
    let got : slice_get p.behind k ≡ Some (numbers ns) =
    get_mapped item_of c.args.plan.now.behind.items k c.in-Some-Scalar.field-0.now
    (sym c.in-Some-Scalar.ensures) ∙ ap (λ (z : item.the_data). Some (item_of z)) is in
    let less : number_of ns d.source.statement < number_of ns d.target.statement = search rules in
    sym c.loop-at.invariant ∙ later_less c.args.parameters d p.behind k ns got less

pub returns-then-target-source : goal.returns-then-target-source
returns-then-target-source c =
    let p = plan_of c.args.plan.now in
    let m = c.args.parameters in
    let d = c.args.dep.now in
    let ns = c.in-Some-Scalar.numbers.items in
    let k = c.loop-at.at in
    let is : c.in-Some-Scalar.field-0.now ≡ item.Scalar c.in-Some-Scalar.numbers = search rules in
    let got : slice_get p.behind k ≡ Some (numbers ns) =
    get_mapped item_of c.args.plan.now.behind.items k c.in-Some-Scalar.field-0.now
    (sym c.in-Some-Scalar.ensures) ∙ ap (λ (z : item.the_data). Some (item_of z)) is in
    let more : number_of ns d.target.statement < number_of ns d.source.statement = search rules in
    whole_exit c.whole_goal.result m p d (place.Behind c.in_ok-behind-in-Some-Scalar.field-0) _ c.whole_goal.ensures c.requires
    (sym c.loop-at.invariant ∙ (later_more m d p.behind k ns got more
    ∙ ap (λ (i : ℕ). d ∷ later_goals m d (drop i p.behind)) (sym c.in_ok-behind-in-Some-Scalar.ensures)))

pub loop-at-preserved : goal.loop-at-preserved
loop-at-preserved c =
    let p = plan_of c.args.plan.now in
    let d = c.args.dep.now in
    let ns = c.in-Some-Scalar.numbers.items in
    let k = c.loop-at.at in
    let is : c.in-Some-Scalar.field-0.now ≡ item.Scalar c.in-Some-Scalar.numbers = search rules in
    let got : slice_get p.behind k ≡ Some (numbers ns) =
    get_mapped item_of c.args.plan.now.behind.items k c.in-Some-Scalar.field-0.now
    (sym c.in-Some-Scalar.ensures) ∙ ap (λ (z : item.the_data). Some (item_of z)) is in
    let first : number_of ns d.target.statement ≤ number_of ns d.source.statement = search rules in
    let second : number_of ns d.source.statement ≤ number_of ns d.target.statement = search rules in
    sym (later_same c.args.parameters d p.behind k ns got first second) ∙ c.loop-at.invariant

pub returns : goal.returns
returns c =
    let p = plan_of c.args.plan.now in
    let m = c.args.parameters in
    let d = c.args.dep.now in
    let past : length c.args.plan.now.behind.items ≤ c.loop-at.at = search rules in
    whole_exit c.whole_goal-2.result m p d place.Over _ c.whole_goal-2.ensures c.requires
    (sym c.loop-at.invariant ∙ ap (later_goals m d) (past_end item_of c.args.plan.now.behind.items c.loop-at.at past))
