use Rattle.scop_syntax.proofs.Common.{rules, ◌≡◌, ℕ, suc, ◌+◌, ◌-◌, ◌<◌, Bool, true, List, length, map, drop, replicate}
use Rattle.scop_syntax.proofs.Common.{set, refl, sym, subst, arith}
use Rattle.plan_check.specs.Derivations.{step_of}
use Rattle.plan_certificate.specs.Derivation.{marked_takes, needed}
use Rattle.plan_certificate.proofs.MarkedLines.{last_is, mark_before}
use Rattle.plan_certificate.proofs.needed.needed.Goals as goal

pub loop-at-init : goal.loop-at-init
loop-at-init c =
    let lines = c.args.lines.now in
    let m = length lines in
    let all : c.in_ok-marks.marks.items ≡ replicate m true = search rules in
    let each : length c.in_ok-marks.marks.items ≡ m = search rules in
    record {
      each = each;
      inside = omega arith;
      behind = subst
          (λ (bs : List Bool). drop (m - 1) bs ≡ needed (suc (c.args.rows + (m - 1))) (map step_of (drop (m - 1) lines)))
          (sym all) (last_is (suc (c.args.rows + (m - 1))) m lines refl);
    }

pub loop-at-preserved : goal.loop-at-preserved
loop-at-preserved c =
    let at = c.loop-at.at in
    let j = at - 2 in
    let rows = c.args.rows in
    let lines = c.args.lines.now in
    let marks = c.loop-at.marks.items in
    let mark = c.marked_takes.result in
    let one : at - 1 ≡ suc j = omega (arith, c.loop-at-test.true) in
    let two : at - 1 - 1 ≡ j = omega arith in
    let behind = subst (λ (i : ℕ). drop i marks ≡ needed (suc (rows + i)) (map step_of (drop i lines))) one
    c.loop-at.invariant.behind in
    let own : mark ≡ marked_takes (suc (rows + j)) (drop (suc j) marks) (map step_of (drop (suc j) lines)) =
    rw (c.in_ok-number.ensures, c.deref.ensures.value, one) at c.marked_takes.ensures in
    let inside : suc j < length lines = omega (arith, c.loop-at-test.true, c.loop-at.invariant.inside) in
    let next = mark_before rows j marks lines mark c.loop-at.invariant.each inside behind own in
    record {
      each = search rules;
      inside = omega (arith, c.loop-at.invariant.inside);
      behind = subst
          (λ (i : ℕ). drop i (set marks j mark) ≡ needed (suc (rows + i)) (map step_of (drop i lines)))
          (sym two) next;
    }
