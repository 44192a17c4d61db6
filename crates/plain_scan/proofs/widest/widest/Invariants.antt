use Rattle.scop_syntax.proofs.Common.{◌≡◌, ℕ, ◌<◌, get_or}
use Rattle.affine_forms.specs.Parts.{variables_of}
use Rattle.plain_scan.specs.declared.set_outline.Outline.{Outline}
use Rattle.plain_scan.specs.Between.{HasSmallNumbers}
use Rattle.plain_scan.specs.Hulls.{HoldsAt}
use Rattle.plain_scan.proofs.widest.widest.Given as goal

abbrev pub invariant-loop-outline : goal.invariant-loop-outline
invariant-loop-outline l = record {
  sized : variables_of l.wide ≡ variables_of l.row;
  small : HasSmallNumbers l.wide;
  holds : (k : ℕ) (d : Outline) → k < l.outline-index → HoldsAt l.depth l.wide (get_or l.outlines k d);
}
