use Rattle.scop_syntax.proofs.Common.{rules, ap, List, FitsSigned, w128, to_z-of_z}
use Rattle.plan_check.specs.Derivations.{Step}
use Rattle.plan_check.specs.declared.lines.Term.{Term}
use Rattle.plan_certificate.specs.steps.Numbers.{number_in}
use Rattle.plan_certificate.proofs.StepTexts.{term_end, term_more}
use Rattle.plan_certificate.proofs.needed.renumbered.Goals as goal

pub loop-term-preserved : goal.loop-term-preserved
loop-term-preserved c =
    let l = c.loop-term in
    term_more (number_in c.args.rows c.args.numbers.now) c.deref-term-items.result.now c.args.line.now.terms.items
    l.term-index _ c.term_in.result l.terms.items c.push.new.list.items _ c.deref-term-items.ensures.value
    c.loop-term-test.true c.term_in.ensures c.in-Ok.ensures.pushed l.invariant

pub returns : goal.returns
returns c =
    let l = c.loop-term in
    let line = c.args.line.now in
    let fits : FitsSigned w128 line.divisor = search rules in
    let as_step : List Term → Step = λ ts. record { divisor = line.divisor; terms = ts } in
    simp to_z-of_z (ap as_step (term_end (number_in c.args.rows c.args.numbers.now) c.deref-term-items.result.now
    line.terms.items l.term-index l.terms.items _ c.deref-term-items.ensures.value c.loop-term-test.false l.invariant))
