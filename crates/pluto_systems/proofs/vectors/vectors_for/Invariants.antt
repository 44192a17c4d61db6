use Rattle.scop_syntax.proofs.Common.{◌≡◌, ◌++◌, drop, map}
use Rattle.pluto_systems.specs.Posing.{vectors_for}
use Rattle.pluto_systems.proofs.vectors.vectors_for.Given as goal

abbrev pub invariant-loop-s : goal.invariant-loop-s
invariant-loop-s l =
    map (λ vs. map (λ v. v.items) vs.items) l.vectors.items
    ++ vectors_for (drop l.s l.columns.loops.now) (drop l.s (map (λ vs. map (λ v. v.items) vs.items) l.rows))
    ≡ vectors_for l.columns.loops.now (map (λ vs. map (λ v. v.items) vs.items) l.rows)
