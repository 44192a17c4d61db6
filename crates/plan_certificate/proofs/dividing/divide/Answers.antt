use Rattle.scop_syntax.proofs.Common.{rules, ◌≡◌, ◌<◌, All, All-append, List, ap, length, length-append}
use Rattle.scop_syntax.proofs.Common.{Affine, arith, map, subst, sym}
use Rattle.affine_forms.specs.Parts.{variables_of}
use Rattle.plan_check.specs.Derivations.{step_of}
use Rattle.plan_certificate.specs.Derivation.{ended, passed}
use Rattle.plan_certificate.specs.steps.States.{state_of}
use Rattle.plan_certificate.proofs.Moves.{grows_then, divided_goes, divided_next}
use Rattle.plan_certificate.proofs.dividing.divide.Goals as goal

pub returns-in-Ok-Ended-clause-grows : goal.returns-in-Ok-Ended-clause-grows
returns-in-Ok-Ended-clause-grows c =
    grows_then c.args.variables _ c.loop-at.rows.rows.items _ c.loop-at.invariant.grows c.in-Ok-Ended.ensures.grows

pub returns-in-Ok-Passed-clause-grows : goal.returns-in-Ok-Passed-clause-grows
returns-in-Ok-Passed-clause-grows c =
    grows_then c.args.variables _ c.loop-at.rows.rows.items _ c.loop-at.invariant.grows c.in-Ok-Passed.ensures.grows

pub returns-in-Ok-Ended-clause-comes : goal.returns-in-Ok-Ended-clause-comes
returns-in-Ok-Ended-clause-comes c =
    let count : c.len-count.result ≡ length c.args.rows.now.rows.items = search rules in
    sym (divided_next c.args.variables c.loop-at.at c.args.rows.now.rows.items c.loop-at.invariant.grows.more
    c.loop-at.rows.rows.items (state_of c.loop-at.rows) (ended (map step_of c.divide_row.new.rows.lines.items)) _
    (omega (arith, count, c.loop-at-test.true)) c.loop-at.invariant.grows.is c.loop-at.invariant.rest
    (rw c.in-Ok-Ended.field-0-is at c.in-Ok-Ended.ensures.comes))

pub returns-in-Ok-Passed-clause-comes : goal.returns-in-Ok-Passed-clause-comes
returns-in-Ok-Passed-clause-comes c =
    let count : c.len-count.result ≡ length c.args.rows.now.rows.items = search rules in
    sym (divided_next c.args.variables c.loop-at.at c.args.rows.now.rows.items c.loop-at.invariant.grows.more
    c.loop-at.rows.rows.items (state_of c.loop-at.rows) passed _ (omega (arith, count, c.loop-at-test.true))
    c.loop-at.invariant.grows.is c.loop-at.invariant.rest
    (rw c.in-Ok-Passed.field-0-is at c.in-Ok-Passed.ensures.comes))

pub loop-at-preserved : goal.loop-at-preserved
loop-at-preserved c =
    let count : c.len-count.result ≡ length c.args.rows.now.rows.items = search rules in
    let inside : c.loop-at.at < length c.args.rows.now.rows.items = omega (arith, count, c.loop-at-test.true) in
    record {
      grows = grows_then c.args.variables _ c.loop-at.rows.rows.items _ c.loop-at.invariant.grows
          c.in-Ok-Goes.ensures.grows;
      rest = divided_goes c.args.variables c.loop-at.at c.args.rows.now.rows.items c.loop-at.invariant.grows.more
          c.loop-at.rows.rows.items (state_of c.loop-at.rows) (state_of c.divide_row.new.rows) _ inside
          c.loop-at.invariant.grows.is c.loop-at.invariant.rest
          (rw c.in-Ok-Goes.field-0-is at c.in-Ok-Goes.ensures.comes);
    }

pub divide_row-requires-clause-sized : goal.divide_row-requires-clause-sized
divide_row-requires-clause-sized c =
    let g = c.loop-at.invariant.grows in
    subst (λ (fs : List Affine). All (λ f. variables_of f ≡ c.args.variables) fs) (sym g.is)
    (All-append (λ f. variables_of f ≡ c.args.variables) c.args.rows.now.rows.items g.more c.requires.sized g.sized)

pub divide_row-requires-clause-place : goal.divide_row-requires-clause-place
divide_row-requires-clause-place c =
    let g = c.loop-at.invariant.grows in
    let rows = c.args.rows.now.rows.items in
    let count : c.len-count.result ≡ length rows = search rules in
    let all = ap (λ (fs : List Affine). length fs) g.is in
    let both = length-append rows g.more in
    omega (arith, count, c.loop-at-test.true)
