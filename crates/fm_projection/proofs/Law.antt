-- What an elimination means for the points; a point over 1 is a whole point.
use Rattle.whole_numbers.proofs.Common.{◌≡◌, ℕ, ◌<◌, ℤ, pos, ◌≤ℤ◌, List, get_or, ◌↔◌, sym, ◌∙◌, subst, arith, Ok}
use Rattle.fractions.specs.Fractions.{HoldsOver}
use Rattle.fractions.proofs.PointValues.{value_over-one}
use Rattle.fractions.proofs.SystemElimination.{elimination_is_exact}
use Rattle.fractions.proofs.AbsentVariables.{eliminated_absent}
use Rattle.integer_sets.specs.Constraints.{Constraints, IsSized, variables_in}
use Rattle.integer_sets.specs.Points.{Satisfies}
use Rattle.fm_projection.specs.Runs.{eliminated_run}
use Rattle.fm_projection.specs.Projection.{IsEliminated, IsProjection, IsProjectionOver, IsWithout, Projects}
use Rattle.fm_projection.proofs.Exact.{eliminated_run-exact}

-- over 1 a point satisfies a system where it satisfies it as a whole point
pub whole_point : (t : Constraints) (point : List ℤ) → HoldsOver t.equalities t.rows (pos 1) point ↔ Satisfies t point
whole_point t point = (
  λ h. (
    λ k d inside. sym (value_over-one (get_or t.equalities k d) point) ∙ h.0 k d inside,
    λ k d inside. subst (λ (z : ℤ). pos 0 ≤ℤ z) (value_over-one (get_or t.rows k d) point) (h.1 k d inside),
  ),
  λ h. (
    λ k d inside. value_over-one (get_or t.equalities k d) point ∙ h.0 k d inside,
    λ k d inside. subst (λ (z : ℤ). pos 0 ≤ℤ z) (sym (value_over-one (get_or t.rows k d) point)) (h.1 k d inside),
  ),
)

projection_over : (i : ℕ) (s t : Constraints) → i < variables_in s → IsEliminated i s t → IsProjectionOver i s t
projection_over i s t inside e d point size = rw e
    (elimination_is_exact i s.equalities s.rows d point (omega (arith, size, inside)))

projection : (i : ℕ) (s t : Constraints) → i < variables_in s → IsEliminated i s t → IsProjection i s t
projection i s t inside e point size =
    let a = whole_point t point in
    let b = projection_over i s t inside e (pos 1) point size in
    (λ h. b.0 (a.1 h), λ h. a.0 (b.1 h))

without : (i : ℕ) (s t : Constraints) → IsEliminated i s t → IsWithout i t
without i s t e = rw e (eliminated_absent i s.equalities s.rows)

-- what an elimination whose run is Ok gives
pub projects : (i : ℕ) (s t : Constraints) → i < variables_in s → IsSized (variables_in s) s.equalities s.rows
    → eliminated_run i s ≡ Ok t → Projects i s t
projects i s t inside sized run =
    let e = eliminated_run-exact i (variables_in s) s t sized.equalities_sized sized.rows_sized run in
    record {
      exact = e;
      points = projection i s t inside e;
      fractions = projection_over i s t inside e;
      without = without i s t e;
    }
