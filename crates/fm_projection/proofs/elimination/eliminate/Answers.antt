use Rattle.whole_numbers.proofs.Common.{rules, ℕ, ◌≡◌, arith, List, Ok, Affine}
use Rattle.fractions.specs.Elimination.{first_with}
use Rattle.integer_sets.specs.Constraints.{Constraints, IsSized, system_of, variables_in}
use Rattle.fm_projection.specs.Runs.{eliminated_run, pairs_in, pairs_by}
use Rattle.fm_projection.proofs.Exact.{eliminated_run-sized}
use Rattle.fm_projection.proofs.Law.{projects}
use Rattle.fm_projection.proofs.elimination.eliminate.Goals as goal

-- the pairs of a system by its parts
pairs_are : (i n : ℕ) (s : Constraints) (es rows : List Affine) → es ≡ s.equalities → rows ≡ s.rows
    → n ≡ pairs_by i (first_with i es) rows → n ≡ pairs_in i s
unfolding pairs_in
pairs_are i n s es rows e r h = rw (e, r) at h

pub returns-then-pairs-gt-MOST_PAIRS-clause-run : goal.returns-then-pairs-gt-MOST_PAIRS-clause-run
returns-then-pairs-gt-MOST_PAIRS-clause-run c =
    let n = pairs_are c.args.variable c.count_pairs-pairs.result c.args.system.now c.equalities-2.result.now
    c.rows.result.now c.equalities-2.ensures.forms c.rows.ensures.forms c.count_pairs-pairs.ensures in
    (omega (arith, n, c.if-pairs-gt-MOST_PAIRS.true), n)

pub returns-in-Err-Wide-clause-run : goal.returns-in-Err-Wide-clause-run
returns-in-Err-Wide-clause-run c =
    let n = pairs_are c.args.variable c.count_pairs-pairs.result c.args.system.now c.equalities-2.result.now
    c.rows.result.now c.equalities-2.ensures.forms c.rows.ensures.forms c.count_pairs-pairs.ensures in
    (omega (arith, n, c.if-pairs-gt-MOST_PAIRS.false), rw c.in-Err-Wide.field-0-is at c.in-Err-Wide.ensures)

pub from_parts-requires : goal.from_parts-requires
from_parts-requires c =
    let s = c.args.system.now in
    let t = system_of s.dimensions s.parameters c.in-Ok.equalities.items c.in-Ok.rows.items in
    let sized : IsSized (variables_in s) s.equalities s.rows =
    record {
      equalities_sized = rw c.equalities.ensures.forms at c.equalities.ensures.sized;
      rows_sized = rw c.rows.ensures.forms at c.rows.ensures.sized;
    } in
    record {
      sized = rw (c.dimensions.ensures, c.parameters.ensures)
          (eliminated_run-sized c.args.variable (variables_in s) s t sized c.in-Ok.ensures);
    }

pub returns-in-Ok : goal.returns-in-Ok
returns-in-Ok c =
    let s = c.args.system.now in
    let n = pairs_are c.args.variable c.count_pairs-pairs.result s c.equalities-2.result.now
    c.rows.result.now c.equalities-2.ensures.forms c.rows.ensures.forms c.count_pairs-pairs.ensures in
    let sized : IsSized (variables_in s) s.equalities s.rows =
    record {
      equalities_sized = rw c.equalities.ensures.forms at c.equalities.ensures.sized;
      rows_sized = rw c.rows.ensures.forms at c.rows.ensures.sized;
    } in
    let run : eliminated_run c.args.variable s ≡ Ok c.from_parts.result = search rules in
    let p = projects c.args.variable s c.from_parts.result c.requires sized run in
    record {
      run = (omega (arith, n, c.if-pairs-gt-MOST_PAIRS.false), run);
      exact = p.exact;
      points = p.points;
      fractions = p.fractions;
      without = p.without;
    }
