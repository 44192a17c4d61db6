use Rattle.scop_syntax.proofs.Common.{rules, ap, ◌≡◌, ◌∙◌, ◌++◌, ◌∷◌, [], ◌<◌, length, map, Some, None}
use Rattle.std.proofs.lemmas.List.{map_push}
use Rattle.plan_check.specs.Text.{term_in, terms_in}
use Rattle.plan_check.specs.TextView.{term_view}
use Rattle.plan_check.proofs.ReadTerms.{terms_end, terms_more, terms_stop}
use Rattle.plan_check.proofs.text.read_terms.Goals as goal

pub returns-then-is_empty : goal.returns-then-is_empty
returns-then-is_empty c =
    let l = c.loop-step in
    let n = length c.args.text.now in
    let h : l._step < n = search rules in
    let none : length l.rest.now ≡ 0 = search rules in
    terms_end n l._step l.rest.now (map term_view l.found.items) (terms_in n c.args.text.now) h none l.invariant

pub returns-in-None : goal.returns-in-None
returns-in-None c =
    let l = c.loop-step in
    let n = length c.args.text.now in
    let h : l._step < n = search rules in
    let some : 0 < length l.rest.now = search rules in
    let stop : None ≡ term_in l.rest.now = search rules in
    terms_stop n l._step l.rest.now (map term_view l.found.items) (terms_in n c.args.text.now) h some stop l.invariant

pub loop-step-preserved : goal.loop-step-preserved
loop-step-preserved c =
    let l = c.loop-step in
    let n = length c.args.text.now in
    let t = c.in-Some.term in
    let h : l._step < n = search rules in
    let some : 0 < length l.rest.now = search rules in
    let read : Some (term_view t.found, t.rest.now) ≡ term_in l.rest.now = search rules in
    let raw : c.push.new.list.items ≡ l.found.items ++ t.found ∷ [] = search rules in
    let pushed = ap (map term_view) raw ∙ map_push term_view l.found.items t.found in
    terms_more n l._step (term_view t.found) l.rest.now t.rest.now (map term_view l.found.items)
    (map term_view c.push.new.list.items) (terms_in n c.args.text.now) h some read pushed l.invariant
