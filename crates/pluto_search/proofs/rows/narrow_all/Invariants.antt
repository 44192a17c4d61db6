use Rattle.scop_syntax.proofs.Common.{◌≡◌, ◌++◌, drop, map}
use Rattle.pluto_search.specs.steps.Sizes.{narrowed_each, CanNarrowEach}
use Rattle.pluto_search.proofs.rows.narrow_all.Given as goal

abbrev pub invariant-loop-at : goal.invariant-loop-at
invariant-loop-at l =
    (map (λ vs. map (λ v. v.items) vs.items) l.all.items
    ++ narrowed_each (drop l.at (map (λ p. p.coefficients.items) l.row.parts.items))
    (drop l.at (map (λ vs. map (λ v. v.items) vs.items) l.vectors))
    ≡ narrowed_each (map (λ p. p.coefficients.items) l.row.parts.items)
    (map (λ vs. map (λ v. v.items) vs.items) l.vectors))
    × CanNarrowEach (drop l.at (map (λ p. p.coefficients.items) l.row.parts.items))
    (drop l.at (map (λ vs. map (λ v. v.items) vs.items) l.vectors))
