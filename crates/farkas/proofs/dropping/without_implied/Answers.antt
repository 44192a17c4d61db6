use Rattle.whole_numbers.proofs.Common.{◌≡◌, ◌∙◌, ◌<◌, ◌≤◌, length, sym, ap, subst, arith, pos, [], Affine, form_of}
use Rattle.farkas.specs.Run.{kept_from}
use Rattle.farkas.proofs.Chains.{halts-same}
use Rattle.farkas.proofs.RowQuestions.{Went, went, went-on, went-less, asked-halts, dropped-halts, dropped-ends}
use Rattle.farkas.proofs.dropping.without_implied.Goals as goal
use Rattle.farkas.proofs.dropping.without_implied.Goals.{In-Ok}

nothing : Affine
nothing = form_of [] (pos 0)

inside_of : (c : In-Ok) → c.loop-at.at < length c.loop-at.system.rows
inside_of c = subst (λ rows. c.loop-at.at < length rows) c.rows.ensures.forms c.loop-at-test.true

went_of : (c : In-Ok) → Went c.args.budget c.loop-at.system c.in-Ok.next c.loop-at.at
went_of c =
    let told = c.in-Ok.ensures nothing in
    went c.args.budget c.loop-at.system c.in-Ok.next c.loop-at.at nothing told.0 (inside_of c) told.1 told.2

pub returns-in-Err : goal.returns-in-Err
returns-in-Err c =
    let s = c.loop-at.system in
    let at = c.loop-at.at in
    let inside = subst (λ rows. at < length rows) c.rows.ensures.forms c.loop-at-test.true in
    dropped-halts c.args.budget c.args.system c.args.first c.in-Err.stuck
    (halts-same c.args.budget c.in-Err.stuck (kept_from c.args.budget s at) (kept_from c.args.budget c.args.system
    c.args.first)
    c.loop-at.invariant.kept (asked-halts c.args.budget s at nothing c.in-Err.stuck inside (c.in-Err.ensures nothing)))

pub loop-at-preserved-then-rows-count : goal.loop-at-preserved-then-rows-count
loop-at-preserved-then-rows-count c =
    let w = went_of (goal.at.loop-at-preserved-then-rows-count c).In-Ok in
    let same = ap (λ rows. length rows) (sym c.rows-in-Ok.ensures.forms) ∙ c.if-rows-count.true
    ∙ ap (λ rows. length rows) c.rows-count.ensures.forms in
    record {
      flat = w.flat;
      dimensions = w.dimensions ∙ c.loop-at.invariant.dimensions;
      equalities = w.equalities ∙ c.loop-at.invariant.equalities;
      kept = went-on c.args.budget c.loop-at.system c.in-Ok.next c.loop-at.at w same ∙ c.loop-at.invariant.kept;
    }

pub loop-at-smaller : goal.loop-at-smaller
loop-at-smaller c =
    let at = (goal.at.loop-at-smaller c).In-Ok in
    let other = λ (same : length c.in-Ok.next.rows ≡ length c.loop-at.system.rows).
    c.if-rows-count.false (ap (λ rows. length rows) c.rows-in-Ok.ensures.forms ∙ same
    ∙ ap (λ rows. length rows) (sym c.rows-count.ensures.forms)) in
    let less = (went-less c.args.budget c.loop-at.system c.in-Ok.next c.loop-at.at (went_of at) other).0 in
    let inside = inside_of at in
    omega arith

pub loop-at-preserved : goal.loop-at-preserved
loop-at-preserved c =
    let w = went_of (goal.at.loop-at-preserved c).In-Ok in
    let other = λ (same : length c.in-Ok.next.rows ≡ length c.loop-at.system.rows).
    c.if-rows-count.false (ap (λ rows. length rows) c.rows-in-Ok.ensures.forms ∙ same
    ∙ ap (λ rows. length rows) (sym c.rows-count.ensures.forms)) in
    record {
      flat = w.flat;
      dimensions = w.dimensions ∙ c.loop-at.invariant.dimensions;
      equalities = w.equalities ∙ c.loop-at.invariant.equalities;
      kept = (went-less c.args.budget c.loop-at.system c.in-Ok.next c.loop-at.at w other).1 ∙ c.loop-at.invariant.kept;
    }

pub returns : goal.returns
returns c =
    let past = subst (λ rows. length rows ≤ c.loop-at.at) c.rows.ensures.forms c.loop-at-test.false in
    dropped-ends c.args.budget c.args.system c.loop-at.system c.args.first c.loop-at.at past c.loop-at.invariant.flat
    c.loop-at.invariant.dimensions c.loop-at.invariant.equalities c.loop-at.invariant.kept
