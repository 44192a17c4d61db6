use Rattle.scop_syntax.proofs.Common.{rules, ◌≡◌, ◌∙◌, ◌++◌, ◌<◌, OnOk, ℕ, List, ap, arith, drop, get_or, length, map}
use Rattle.scop_syntax.proofs.Common.{subst, sym, FitsSigned, w64, w128, to_z-of_z}
use Rattle.form_text.specs.Forms.{constant_text, form_text, term_text}
use Rattle.form_text.proofs.PutTexts.{behind_all, term_put}
use Rattle.c_printer.proofs.forms.put_form.Goals as goal

pub loop-at-preserved : goal.loop-at-preserved
loop-at-preserved c =
    let l = c.loop-at in
    let z = c.from-in-loop-at.result in
    let cs = c.args.coefficients.now in
    let fit : FitsSigned w64 c.args.constant = c.ranges.constant in
    let wide : FitsSigned w128 z = search rules in
    let within : l.at < length cs = search rules in
    let is : z ≡ get_or cs l.at z = search rules in
    let so_far = simp to_z-of_z at l.invariant in
    let text = simp to_z-of_z at c.in-Ok.ensures.text in
    let front = simp to_z-of_z at c.in-Ok.ensures.front in
    simp to_z-of_z (term_put (λ n. n.items) c.args.names.now cs c.args.constant l.at l.front c.in-Ok.next
    c.index-names-at.result z l.out.items c.put_term.new.out.items _ c.index-names-at.is is c.loop-at-test.true within
    (text ∙ ap (λ (t : List ℕ). l.out.items ++ term_text l.front z t) c.deref.ensures.value) front so_far)

pub returns-then-at-coefficients : goal.returns-then-at-coefficients
unfolding form_text
returns-then-at-coefficients c =
    let l = c.loop-at in
    let few = c.if-at-coefficients.true in
    let fit : FitsSigned w64 c.args.constant = c.ranges.constant in
    let wide : FitsSigned w128 c.from.result = search rules in
    let same : c.from.result ≡ c.args.constant = simp to_z-of_z at c.from.ensures in
    let ended = behind_all l.front (map (λ n. n.items) (drop l.at c.args.names.now)) c.args.coefficients.now
    c.args.constant l.at (omega (arith, few)) in
    let so_far = simp to_z-of_z at l.invariant in
    let put = simp to_z-of_z at c.put_constant.ensures in
    subst (λ (t : List ℕ). OnOk c.put_constant.result (c.put_constant.new.out.items ≡ t))
    (ap (λ z. l.out.items ++ constant_text l.front z) same
    ∙ (ap (λ (t : List ℕ). l.out.items ++ t) (sym ended) ∙ so_far)) put
