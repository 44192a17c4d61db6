use Rattle.scop_syntax.proofs.Common.{◌+◌, ◌∙◌, ◌≤◌, [], accesses, all_in, ap, arith, drop, drop_of_length-le, get_or}
use Rattle.scop_syntax.proofs.Common.{in_from_place, length, map, statement_of, sym, values, List, Access}
use Rattle.scop_syntax.proofs.Bounds.{access_is}
use Rattle.scop_syntax.specs.Failures.{outside_accesses, outside_dimensions}
use Rattle.scop_meaning.specs.steps.Conditions.{first_of}
use Rattle.scop_meaning.proofs.Checks.{accesses_from, first_behind, first_here}
use Rattle.scop_meaning.proofs.FittingReads.{FitsAt, accesses_fit}
use Rattle.scop_meaning.proofs.index.outside_statement.Goals as goal

pub outside_access-requires-clause-formed : goal.outside_access-requires-clause-formed
outside_access-requires-clause-formed c =
    let s = statement_of c.args.statement.now in
    let f = c.access_at-access.result.now in
    access_is (map length c.args.extents.now) (length c.args.point.now) s f c.requires.formed
    (in_from_place (accesses s) c.loop-number.number f c.access_at-access.ensures)

pub outside_access-requires-clause-fits : goal.outside_access-requires-clause-fits
outside_access-requires-clause-fits c =
    let s = statement_of c.args.statement.now in
    let f = c.access_at-access.result.now in
    all_in (FitsAt c.args.point.now) (accesses s) f (accesses_fit c.args.point.now s c.requires.fits)
    (in_from_place (accesses s) c.loop-number.number f c.access_at-access.ensures)

pub returns-in-Some : goal.returns-in-Some
returns-in-Some c = record {
  found = λ v at.
      let es = c.args.extents.now in
      let fs = accesses (statement_of c.args.statement.now) in
      let f = c.access_at-access.result.now in
      let n = c.loop-number.number in
      first_here (outside_dimensions v n 0 (values f.subscripts v.point) (get_or es f.array []))
      (outside_accesses es v (n + 1) (drop (n + 1) fs)) c.in-Some.outside (c.in-Some.ensures v at)
      ∙ (ap first_of (sym (accesses_from es v n fs f c.access_at-access.ensures)) ∙ c.loop-number.invariant v at);
}

pub loop-number-preserved : goal.loop-number-preserved
loop-number-preserved c = λ v at.
    let es = c.args.extents.now in
    let fs = accesses (statement_of c.args.statement.now) in
    let f = c.access_at-access.result.now in
    let n = c.loop-number.number in
    sym (first_behind (outside_dimensions v n 0 (values f.subscripts v.point) (get_or es f.array []))
    (outside_accesses es v (n + 1) (drop (n + 1) fs)) (c.in-None.ensures v at))
    ∙ (ap first_of (sym (accesses_from es v n fs f c.access_at-access.ensures)) ∙ c.loop-number.invariant v at)

pub returns : goal.returns
returns c = record {
  found = λ v at.
      let fs = accesses (statement_of c.args.statement.now) in
      let n = c.loop-number.number in
      let past : length fs ≤ n = omega (arith, c.loop-number-test.false, c.read_count-number-end.ensures) in
      ap (λ (gs : List Access). first_of (outside_accesses c.args.extents.now v n gs))
      (sym (drop_of_length-le fs past)) ∙ c.loop-number.invariant v at;
}
