-- Where the numbers of a statement fit, those of each of its accesses do.
use Rattle.scop_syntax.proofs.Common.{ℤ, List, [], All, All-append, All-cons, All-nil, Access, Expression, Right}
use Rattle.scop_syntax.proofs.Common.{Statement, accesses, assigned, binary, cast, combined, combined_narrow}
use Rattle.scop_syntax.proofs.Common.{complemented, affine, moved_left, moved_left_narrow, moved_right, narrowed}
use Rattle.scop_syntax.proofs.Common.{negated, read, reads, reads_of, reads_with, shifted_left, shifted_right}
use Rattle.scop_syntax.specs.Tree.{constant}
use Rattle.scop_syntax.specs.Fits.{AccessFits, ExpressionFits, RightFits, StatementFits}

abbrev pub FitsAt : List ℤ → Access → Type 0
FitsAt point access = AccessFits access point

reads_fit : (point : List ℤ) (e : Expression) → ExpressionFits e point → All (FitsAt point) (reads_of e)
reads_fit point (read a) fits = All-cons (FitsAt point) a [] fits (All-nil (FitsAt point))
reads_fit point (constant c) fits = All-nil (FitsAt point)
reads_fit point (affine form) fits = All-nil (FitsAt point)
reads_fit point (negated e) fits = reads_fit point e fits
reads_fit point (complemented e) fits = reads_fit point e fits
reads_fit point (cast e) fits = reads_fit point e fits
reads_fit point (binary op e f) fits =
    All-append (FitsAt point) (reads_of e) (reads_of f) (reads_fit point e fits.0) (reads_fit point f fits.1)
reads_fit point (shifted_left e k) fits = reads_fit point e fits
reads_fit point (shifted_right e k) fits = reads_fit point e fits
reads_fit point (narrowed w e) fits = reads_fit point e fits

right_fits : (point : List ℤ) (place : Access) (r : Right) → AccessFits place point → RightFits r point
    → All (FitsAt point) (reads_with place r)
right_fits point place (assigned e) own fits = reads_fit point e fits
right_fits point place (combined op e) own fits =
    All-cons (FitsAt point) place (reads_of e) own (reads_fit point e fits)
right_fits point place (moved_left k) own fits = All-cons (FitsAt point) place [] own (All-nil (FitsAt point))
right_fits point place (moved_right k) own fits = All-cons (FitsAt point) place [] own (All-nil (FitsAt point))
right_fits point place (combined_narrow op e) own fits =
    All-cons (FitsAt point) place (reads_of e) own (reads_fit point e fits)
right_fits point place (moved_left_narrow k) own fits = All-cons (FitsAt point) place [] own (All-nil (FitsAt point))

pub accesses_fit : (point : List ℤ) (s : Statement) → StatementFits s point → All (FitsAt point) (accesses s)
accesses_fit point s fits =
    All-cons (FitsAt point) s.place (reads s) fits.0 (right_fits point s.place s.right fits.0 fits.1)
