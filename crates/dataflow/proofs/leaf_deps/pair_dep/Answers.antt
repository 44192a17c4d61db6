use Rattle.dataflow.proofs.Common.{◌≡◌, ◌+◌, ◌∙◌, ℕ, List, ap, ap₂, subst, sym, arith, Affine, end_of, loops_of}
use Rattle.dataflow.proofs.Common.{side_of, path_rows, turn_equalities, pair_dep}
use Rattle.integer_sets.specs.Constraints.{IsSized, system_of}
use Rattle.fm_projection.specs.Condensed.{condensed}
use Rattle.iteration_domains.specs.Dependence.{IsDependence, dependence}
use Rattle.dataflow.proofs.leaf_deps.pair_dep.Goals.{After-end-2}
use Rattle.dataflow.proofs.leaf_deps.pair_dep.Goals as goal

pub from_parts-whole-requires : goal.from_parts-whole-requires
from_parts-whole-requires c = record {
  sized = subst
      (λ (n : ℕ). IsSized n c.in_ok-equalities.equalities.items c.in_ok-rows.rows.items)
      (omega (arith, c.requires.all, c.loops_of.ensures, c.loops_of-2.ensures))
      (record { equalities_sized = c.in_ok-equalities.ensures.sized; rows_sized = c.in_ok-rows.ensures.sized });
}

-- the dependence is that of the pair
built : (c : After-end-2) → dependence c.end.result c.end-2.result 0 c.in_ok-system.system
    ≡ pair_dep c.args.layout.parameters c.args.layout.binds (side_of c.args.source.now) (side_of c.args.target.now)
    (turn_equalities c.args.layout c.args.from c.args.path.now.leaf.forms)
    (path_rows c.args.layout 0 c.args.path.now.turns)
built c =
    let l = c.args.layout in
    let s = side_of c.args.source.now in
    let t = side_of c.args.target.now in
    let m = l.parameters in
    let size : c.loops_of.result + c.loops_of-2.result + l.binds ≡ loops_of s + loops_of t + l.binds =
    omega (arith, c.loops_of.ensures, c.loops_of-2.ensures) in
    ap₂ (λ x y. dependence x y 0 c.in_ok-system.system) c.end.ensures c.end-2.ensures
    ∙ ap (dependence (end_of s) (end_of t) 0) (c.in_ok-system.ensures ∙ ap condensed (c.from_parts-whole.ensures
    ∙ (ap (λ (n : ℕ). system_of n m c.in_ok-equalities.equalities.items c.in_ok-rows.rows.items) size
    ∙ ap₂ (λ (es rs : List Affine). system_of (loops_of s + loops_of t + l.binds) m es rs)
    c.in_ok-equalities.ensures.equalities c.in_ok-rows.ensures.rows)))

pub invariant_of-result : goal.invariant_of-result
invariant_of-result c = subst IsDependence (sym (built c)) (record { turns = omega arith; one = c.requires.one })

pub returns : goal.returns
returns c = built (goal.at.returns c).After-end-2
