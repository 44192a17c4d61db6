use Rattle.whole_numbers.proofs.Common.{rules, ◌≡◌, ◌++◌, ◌∷◌, ◌<◌, ◌≤◌, [], false, length, true, FitsSigned, w128}
use Rattle.whole_numbers.proofs.Common.{to_z-of_z}
use Rattle.form_text.specs.Reading.{read_form}
use Rattle.form_text.specs.View.{next_read}
use Rattle.form_text.proofs.StrippedFronts.{terms_last, terms_more}
use Rattle.form_text.proofs.form_reader.read_form.Goals as goal

pub loop-at-preserved : goal.loop-at-preserved
loop-at-preserved c =
    let l = c.loop-at in
    let xs = c.args.names.now in
    let next = c.read_next-next.result in
    let within : l.at < length xs = search rules in
    let pushed : c.push.new.self.items ≡ l.coefficients.items ++ next.coefficient ∷ [] = search rules in
    terms_more (λ n. n.items) xs l.at c.index-names-at.result c.deref.result.now l.rest.now l.front (next_read next)
    l.coefficients.items c.push.new.self.items _ c.index-names-at.is within c.deref.ensures.value
    c.read_next-next.ensures pushed l.invariant

pub returns-then-last : goal.returns-then-last
unfolding read_form
returns-then-last c =
    let l = c.loop-at in
    let xs = c.args.names.now in
    let past : length xs ≤ l.at = search rules in
    terms_last (λ n. n.items) xs l.at l.rest.now l.front (next_read c.read_next-last.result) l.coefficients.items _ true
    past c.read_next-last.ensures c.if-last.true l.invariant

pub returns : goal.returns
unfolding read_form
returns c =
    let l = c.loop-at in
    let xs = c.args.names.now in
    let past : length xs ≤ l.at = search rules in
    let fit : FitsSigned w128 c.read_next-last.result.coefficient = search rules in
    simp to_z-of_z (terms_last (λ n. n.items) xs l.at l.rest.now l.front (next_read c.read_next-last.result)
    l.coefficients.items _ false past c.read_next-last.ensures c.if-last.false l.invariant)
