-- The first of bounds, and the others.
use Rattle.scop_syntax.proofs.Common.{ℤ, pos, List, [], ◌∷◌, ◌<ℤ◌}
use Rattle.loop_tree.specs.Tree.{Bound, bounds_of}
use Rattle.loop_tree.specs.Fits.{FormFits, BoundsFit}
use Rattle.loop_tree.specs.Marks.{AreBounds}

pub first_divisor : (b : Bound) (bs : List Bound) → AreBounds (bounds_of b bs) → pos 0 <ℤ b.divisor
first_divisor b [] h = h
first_divisor b (c ∷ cs) h = h.0

pub first_fits : (b : Bound) (bs : List Bound) (point : List ℤ) → BoundsFit (bounds_of b bs) point
    → FormFits b.form point
first_fits b [] point h = h
first_fits b (c ∷ cs) point h = h.0
