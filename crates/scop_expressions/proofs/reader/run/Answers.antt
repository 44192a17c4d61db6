use Rattle.std.proofs.Common.{◌∙◌, get_or, sym, ap, ap₂, subst, Err}
use Rattle.scop_tokens.specs.declared.Token.TheVariants as token
use Rattle.scop_expressions.specs.Gives.{Gives}
use Rattle.scop_expressions.specs.Grammar.{told_at}
use Rattle.scop_expressions.specs.Machine.{State, Answer, or_fault, unfit, unended, depth}
use Rattle.scop_expressions.specs.declared.reader.TheConstants.{MOST_BRACKETS, MOST_OPERATORS}
use Rattle.scop_expressions.proofs.MachineLoop.{runs_first, runs_on, run_stops, run_deepens, run_ends}
use Rattle.scop_expressions.proofs.reader.run.Goals as goal

pub loop-token-init : goal.loop-token-init
loop-token-init c = rw c.new-reader.ensures (runs_first MOST_BRACKETS MOST_OPERATORS c.args.tokens.now)

pub loop-token-preserved : goal.loop-token-preserved
loop-token-preserved c =
    let l = c.loop-token in
    let next = c.step.new.self in
    runs_on MOST_BRACKETS MOST_OPERATORS c.args.tokens.now l.token-index l.reader next _ l.invariant
    c.loop-token-test.true
    (rw c.if-not-branch.false at c.in_ok-step.ensures) (sym c.fits.ensures ∙ c.if-not-fits.false)

pub returns-then-not-branch : goal.returns-then-not-branch
returns-then-not-branch c =
    let l = c.loop-token in
    let stopped = rw c.if-not-branch.true at c.in_ok-step.ensures in
    let place = sym (ap (λ (r : State). r.at) c.reader.view_is) in
    let is = run_stops MOST_BRACKETS MOST_OPERATORS c.args.tokens.now l.token-index l.reader _ l.invariant
    c.loop-token-test.true stopped.0 in
    subst (λ (a : Answer). Gives c.ended.result a)
    (ap₂ (λ e k. or_fault e unfit k) stopped.1 stopped.2.1 ∙ sym is)
    (c.ended.ensures unfit (ap (λ k. Err (unfit, k)) (stopped.2.1 ∙ place)))

pub returns-then-not-fits : goal.returns-then-not-fits
returns-then-not-fits c =
    let l = c.loop-token in
    let place = sym (ap (λ (r : State). r.at) c.reader.view_is) in
    let t = get_or c.args.tokens.now l.token-index token.Name in
    run_deepens MOST_BRACKETS MOST_OPERATORS c.args.tokens.now l.token-index l.reader c.step.new.self _ l.invariant
    c.loop-token-test.true
    (rw c.if-not-branch.false at c.in_ok-step.ensures) (sym c.fits.ensures ∙ c.if-not-fits.true)
    ∙ ap (λ k. Err (depth, k)) (ap (λ k. told_at t k) place ∙ sym c.told_at.ensures)

pub returns : goal.returns
returns c =
    let l = c.loop-token in
    let place = sym (ap (λ (r : State). r.at) c.reader-2.view_is) in
    subst (λ (a : Answer). Gives c.ended-2.result a)
    (sym (run_ends MOST_BRACKETS MOST_OPERATORS c.args.tokens.now l.token-index l.reader l.invariant
    c.loop-token-test.false))
    (c.ended-2.ensures unended (ap (λ k. Err (unended, k)) place))
