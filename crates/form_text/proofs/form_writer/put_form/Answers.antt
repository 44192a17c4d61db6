use Rattle.whole_numbers.proofs.Common.{rules, ◌≡◌, ◌∙◌, ◌++◌, ◌<◌, OnOk, ℕ, List, ap, arith, drop, get_or, length, map}
use Rattle.whole_numbers.proofs.Common.{pos, subst, sym, FitsSigned, w128, to_z-of_z}
use Rattle.form_text.specs.Forms.{form_text, term_text}
use Rattle.form_text.proofs.PutTexts.{behind_all, term_put}
use Rattle.form_text.proofs.form_writer.put_form.Goals as goal

pub loop-at-preserved : goal.loop-at-preserved
loop-at-preserved c =
    let l = c.loop-at in
    let cs = c.args.coefficients.now in
    let z = get_or cs l.at (pos 0) in
    let fit : FitsSigned w128 c.args.constant = search rules in
    let fits : FitsSigned w128 z = search rules in
    let within : l.at < length cs = search rules in
    let is : z ≡ get_or cs l.at z = search rules in
    let so_far = simp to_z-of_z at l.invariant in
    let text = simp to_z-of_z at c.in-Ok.ensures.text in
    let front = simp to_z-of_z at c.in-Ok.ensures.front in
    simp to_z-of_z (term_put (λ n. n.items) c.args.names.now cs c.args.constant l.at l.front c.in-Ok.next
    c.index-names-at.result z l.out.items c.put_term.new.out.items _ c.index-names-at.is is c.loop-at-test.true within
    (text ∙ ap (λ (t : List ℕ). l.out.items ++ term_text l.front z t) c.deref.ensures.value) front so_far)

pub returns-then-at-coefficients : goal.returns-then-at-coefficients
unfolding form_text
returns-then-at-coefficients c =
    let l = c.loop-at in
    let few = c.if-at-coefficients.true in
    let fit : FitsSigned w128 c.args.constant = search rules in
    let ended = behind_all l.front (map (λ n. n.items) (drop l.at c.args.names.now)) c.args.coefficients.now
    c.args.constant l.at (omega (arith, few)) in
    let so_far = simp to_z-of_z at l.invariant in
    let put = simp to_z-of_z at c.put_constant.ensures in
    subst (λ (t : List ℕ). OnOk c.put_constant.result (c.put_constant.new.out.items ≡ t))
    (ap (λ (t : List ℕ). l.out.items ++ t) (sym ended) ∙ so_far) put
