use Rattle.scop_syntax.proofs.Common.{rules, pos, get_or, FitsSigned, w64, w128, to_z-of_z, get_or_default, form_of}
use Rattle.scop_syntax.proofs.Common.{zeros, map_more, map_end}
use Rattle.iteration_domains.proofs.outside.fixed_forms.Goals as goal

pub loop-param-preserved : goal.loop-param-preserved
loop-param-preserved c =
    let ps = c.args.params.now in
    let i = c.loop-param.param-index in
    let p = get_or ps i (pos 0) in
    let fits : FitsSigned w64 p = search rules in
    let fits_wide : FitsSigned w128 p = search rules in
    map_more (form_of (zeros c.args.turns)) ps i p c.in_ok-form.form c.loop-param.forms.items c.push.new.list.items _
    c.loop-param-test.true (get_or_default ps i (pos 0) p c.loop-param-test.true)
    (simp to_z-of_z at c.in_ok-form.ensures) c.in_ok-push.ensures.pushed c.loop-param.invariant

pub returns : goal.returns
returns c =
    map_end (form_of (zeros c.args.turns)) c.args.params.now c.loop-param.param-index c.loop-param.forms.items _
    c.loop-param-test.false c.loop-param.invariant
