use Rattle.scop_syntax.proofs.Common.{ℕ, ◌<◌, get_or, ◌≤◌, ◌^◌, unsigned_abs, form_of}
use Rattle.plain_scan.specs.declared.set_outline.Outline.{Outline}
use Rattle.plain_scan.specs.Hulls.{HoldsAt}
use Rattle.plain_scan.proofs.hull.weakest.Given as goal

abbrev pub invariant-loop-outline : goal.invariant-loop-outline
invariant-loop-outline l = record {
  holds : (k : ℕ) (d : Outline) → k < l.outline-index
      → HoldsAt l.depth (form_of l.row.coefficients l.worst) (get_or l.outlines k d);
  small : unsigned_abs l.worst ≤ 2 ^ 40;
}
