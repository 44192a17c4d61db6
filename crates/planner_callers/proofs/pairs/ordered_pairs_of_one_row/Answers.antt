use Rattle.scop_syntax.proofs.Common.{◌≡◌, ◌∷◌, [], ◌<◌, false, arith, inl, inr, ints, subst, ◌⊎◌, ◌<ℤ◌, Instance}
use Rattle.schedule_rows.specs.Bands.{Along}
use Rattle.schedule_rows.specs.Items.{Row, band, phi}
use Rattle.planner_callers.proofs.pairs.ordered_pairs_of_one_row.Goals as goal

along : (r : Row) (x y : Instance) → x.number ≡ y.number → (phi r x <ℤ phi r y) ⊎ (phi r x ≡ phi r y)
    → Along (band (record { row = r; parallel = false } ∷ []) ∷ []) x y (x.number ≡ y.number)
along r x y one (inl less) = ((omega (arith, ints, less), (λ e. absurd cc), tt), inl (inl less))
along r x y one (inr equal) = ((omega (arith, ints, equal), (λ e. absurd cc), tt), inr ((equal, tt), one))

pub returns : goal.returns
returns c = λ size count r x y positive within one turns less kept.
    c.pairs_along_blocks_are_in_order.ensures size count (band (record { row = r; parallel = false } ∷ []) ∷ []) 0 1 x y
    positive within (subst (λ k. k < count) one within) (λ _. turns) (λ _. less) (along r x y one kept)
