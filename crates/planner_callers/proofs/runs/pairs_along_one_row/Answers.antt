use Rattle.scop_syntax.proofs.Common.{◌≡◌, ◌∷◌, [], true, inl, inr, refl, ◌⊎◌, ◌≤ℤ◌, ◌<ℤ◌, Instance}
use Rattle.schedule_rows.specs.Bands.{Along}
use Rattle.schedule_rows.specs.Items.{Marked, band, phi}
use Rattle.planner_callers.proofs.runs.pairs_along_one_row.Goals as goal

told : (r : Marked) (x y : Instance) → Along (band (r ∷ []) ∷ []) x y (x.number ≡ y.number)
    → (phi r.row x ≤ℤ phi r.row y) × (r.parallel ≡ true → phi r.row x ≡ phi r.row y)
    × ((phi r.row x <ℤ phi r.row y) ⊎ ((phi r.row x ≡ phi r.row y) × (x.number ≡ y.number)))
told r x y ((below, stays, rest), inl (inl less)) = (below, stays, inl less)
told r x y ((below, stays, rest), inl (inr none)) = absurd none
told r x y ((below, stays, rest), inr ((equal, none), one)) = (below, stays, inr (equal, one))

pub returns : goal.returns
returns c = λ loops deps r d x y sized schedule among relates.
    told r x y
    (c.schedules_keep_every_band.ensures 0 loops deps (band (r ∷ []) ∷ []) sized schedule d [] x y among refl relates)
