use Rattle.scop_syntax.proofs.Common.{rules, ◌++◌, ◌∷◌, [], ◌∙◌, ap, sym, FitsSigned, get_or, pos, ℤ, w64, w128, to_z-of_z}
use Rattle.scop_syntax.proofs.Common.{take_all, take_more}
use Rattle.std.proofs.lemmas.List.{append_assoc}
use Rattle.iteration_domains.proofs.forms.push_numbers.Goals as goal

pub loop-number-preserved : goal.loop-number-preserved
loop-number-preserved c =
    let old = c.args.numbers.now.items in
    let more = c.args.more.now in
    let at = c.loop-number.number-index in
    let n : ℤ = get_or more at (pos 0) in
    let narrow : FitsSigned w64 n = search rules in
    let wide : FitsSigned w128 n = search rules in
    simp to_z-of_z at c.in_ok-push.ensures.ok
    ∙ (ap (λ ns. ns ++ n ∷ []) c.loop-number.invariant
    ∙ (append_assoc old _ (n ∷ []) ∙ ap (λ ns. old ++ ns) (sym (take_more more at (pos 0) c.loop-number-test.true))))

pub returns : goal.returns
returns c =
    c.loop-number.invariant
    ∙ ap (λ ns. c.args.numbers.now.items ++ ns)
    (take_all c.loop-number.number-index c.args.more.now c.loop-number-test.false)
