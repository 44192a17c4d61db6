use Rattle.scop_syntax.proofs.Common.{rules, ◌≡◌, ◌<◌, ◌≤◌, map, subst, IfOk, Option, Some, None}
use Rattle.scop_lexer.specs.Bytes.{Text}
use Rattle.loop_tree.specs.Tree.{Bounds}
use Rattle.form_text.specs.Reading.{strip}
use Rattle.c_printer.specs.Reading.{read_bound, read_bounds}
use Rattle.c_printer.specs.steps.View.{sides_in}
use Rattle.c_printer.specs.steps.Reading.{chosen_bound}
use Rattle.c_printer.proofs.ReadSteps.{bounds_more, bounds_stop, bounds_last, bounds_spent}
use Rattle.c_printer.proofs.read_bounds.read_bounds.Goals as goal

pub returns-in_default : goal.returns-in_default
returns-in_default c =
    let l = c.loop-at in
    let a = c.args in
    let names = map (λ n. n.items) a.names.now in
    let h : l.at < a.steps = search rules in
    let none : None ≡ strip a.chosen.now l.rest.now = search rules in
    subst (λ (o : Option (Bounds × Text)). IfOk c.read_last.result (λ r. sides_in r ≡ o))
    (bounds_last a.steps l.at a.divided.now a.chosen.now a.parameters names l.bounds.items l.rest.now
    (read_bounds a.steps a.divided.now a.chosen.now a.parameters names a.text.now) h none l.invariant)
    c.read_last.ensures

pub returns-in-Ok-None : goal.returns-in-Ok-None
returns-in-Ok-None c =
    let l = c.loop-at in
    let a = c.args in
    let names = map (λ n. n.items) a.names.now in
    let behind = c.in-Some.behind.now in
    let h : l.at < a.steps = search rules in
    let some : Some behind ≡ strip a.chosen.now l.rest.now = search rules in
    let none : None ≡ chosen_bound (read_bound a.divided.now a.parameters names behind) = search rules in
    bounds_stop a.steps l.at a.divided.now a.chosen.now a.parameters names l.bounds.items l.rest.now behind
    (read_bounds a.steps a.divided.now a.chosen.now a.parameters names a.text.now) h some none l.invariant

pub loop-at-preserved : goal.loop-at-preserved
loop-at-preserved c =
    let l = c.loop-at in
    let a = c.args in
    let names = map (λ n. n.items) a.names.now in
    let behind = c.in-Some.behind.now in
    let bound = c.in-Ok-Some.bound in
    let h : l.at < a.steps = search rules in
    let some : Some behind ≡ strip a.chosen.now l.rest.now = search rules in
    let is : Some (bound.part, bound.rest.now)
    ≡ chosen_bound (read_bound a.divided.now a.parameters names behind) = search rules in
    bounds_more a.steps l.at a.divided.now a.chosen.now a.parameters names l.bounds.items c.push.new.list.items
    bound.part l.rest.now behind bound.rest.now
    (read_bounds a.steps a.divided.now a.chosen.now a.parameters names a.text.now) h some c.in-Ok.ensures.pushed is
    l.invariant

pub returns : goal.returns
returns c =
    let l = c.loop-at in
    let a = c.args in
    let names = map (λ n. n.items) a.names.now in
    let h : a.steps ≤ l.at = search rules in
    bounds_spent a.steps l.at a.divided.now a.chosen.now a.parameters names l.bounds.items l.rest.now
    (read_bounds a.steps a.divided.now a.chosen.now a.parameters names a.text.now) h l.invariant
