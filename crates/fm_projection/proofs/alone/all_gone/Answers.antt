use Rattle.whole_numbers.proofs.Common.{◌≡◌, ◌∙◌, ap, subst, refl, arith}
use Rattle.integer_sets.specs.Constraints.{Constraints}
use Rattle.fm_projection.specs.Projecting.{all_gone}
use Rattle.fm_projection.specs.Alone.{AllPass}
use Rattle.fm_projection.proofs.EliminationRuns.{gone_more, stops_going}
use Rattle.fm_projection.proofs.alone.all_gone.Goals as goal

pub loop-time-init : goal.loop-time-init
loop-time-init c =
    record {
      passed = λ k less. absurd (omega (arith, less));
      is = refl;
      left = omega arith;
    }

pub without-requires : goal.without-requires
without-requires c =
    let l = c.loop-time.invariant.left in
    omega arith

pub returns-in-Err : goal.returns-in-Err
returns-in-Err c =
    stops_going c.args.place c.args.times c.loop-time.time c.args.system c.loop-time.system c.in-Err.stop (omega arith)
    c.loop-time.invariant.passed c.loop-time.invariant.is c.in-Err.ensures

pub loop-time-preserved : goal.loop-time-preserved
loop-time-preserved c =
    let l = c.loop-time.invariant.left in
    let d = ap (λ (w : Constraints). w.dimensions) c.in-Ok.ensures.1 in
    let more = gone_more c.args.place c.loop-time.time c.args.system c.loop-time.system c.in-Ok.next
    c.loop-time.invariant.passed c.loop-time.invariant.is c.in-Ok.ensures in
    record {
      passed = more.0;
      is = more.1;
      left = omega (arith, d, l);
    }

pub returns : goal.returns
returns c =
    let ended : c.loop-time.time ≡ c.args.times = omega arith in (
      subst (λ k. AllPass c.args.place k c.args.system) ended c.loop-time.invariant.passed,
      c.loop-time.invariant.is ∙ ap (λ k. all_gone c.args.place k c.args.system) ended,
    )
