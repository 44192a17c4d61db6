use Rattle.whole_numbers.proofs.Common.{ℕ, arith, refl, ap₂, [], pos, ◌*◌, form_of}
use Rattle.fm_projection.proofs.JoinedLists.{first_with_place, first_with_none}
use Rattle.fm_projection.proofs.elimination.count_pairs.Goals as goal

pub returns-then-place-equalities : goal.returns-then-place-equalities
returns-then-place-equalities c =
    let some = form_of [] (pos 0) in
    rw (first_with_place c.args.variable c.args.equalities.now some (omega (arith, c.requires.place))) refl

pub returns : goal.returns
returns c =
    rw (first_with_none c.args.variable c.args.equalities.now (omega (arith, c.requires.place)))
    (ap₂ (λ (m n : ℕ). m * n) c.count_positive-positive.ensures c.count_negative-negative.ensures)
