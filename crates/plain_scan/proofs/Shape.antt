-- A scanner's sequences are flat and marked.
use Rattle.scop_syntax.proofs.Common.{ℕ, Bool, List, [], ◌∷◌, map, arith, ints, Affine}
use Rattle.loop_tree.specs.Tree.{Test, Tree, instance}
use Rattle.integer_sets.specs.Scanned.{Scanned}
use Rattle.plain_scan.specs.Sets.{equal_tests, row_tests, tests_of, turn_forms, under, Leaf, leaves}
use Rattle.plain_scan.specs.Hulls.{own_leaf}
use Rattle.plain_scan.specs.Rows.{low_bounds, high_bounds}
use Rattle.plain_scan.specs.steps.Serving.{AreLow, AreHigh}
use Rattle.plain_scan.specs.steps.Pieces.{Piece, loop_of, loops_of, ArePieces}
use Rattle.loop_tree.specs.Marks.{AreBounds, AreTests, Flat, FlatAll, Marks, MarksAll}
use Rattle.plain_scan.specs.steps.Shape.{HaveFlatBodies, AreMarked}

pub flat_lows : (m : ℕ) (f : Affine) (fs : List Affine) → AreLow m (f ∷ fs) → AreBounds (low_bounds m f fs)
flat_lows m f [] h = h.0
flat_lows m f (g ∷ gs) h = (h.0, flat_lows m g gs h.1)

pub flat_highs : (m : ℕ) (f : Affine) (fs : List Affine) → AreHigh m (f ∷ fs) → AreBounds (high_bounds m f fs)
flat_highs m f [] h = let a = h.0 in omega (arith, ints)
flat_highs m f (g ∷ gs) h = let a = h.0 in (omega (arith, ints), flat_highs m g gs h.1)

flat_under : (tests : List Test) (t : Tree) → AreTests tests → Flat t → Flat (under tests t)
flat_under [] t are h = h
flat_under (test ∷ tests) t are h = (are, (h, tt))

rows_are_tests : (fs : List Affine) → AreTests (row_tests fs)
rows_are_tests [] = tt
rows_are_tests (f ∷ fs) = (tt, rows_are_tests fs)

equalities_are_tests : (fs gs : List Affine) → AreTests (equal_tests fs (row_tests gs))
equalities_are_tests [] gs = rows_are_tests gs
equalities_are_tests (f ∷ fs) gs = (tt, equalities_are_tests fs gs)

pub flat_pieces : (k m : ℕ) (all : List Scanned) (context : List Affine) (ps : List Piece)
    → ArePieces k m all context ps → HaveFlatBodies ps → FlatAll (loops_of m ps)
flat_pieces k m all context [] is h = tt
flat_pieces k m all context (p ∷ ps) is h = (
  flat_under (row_tests p.tests) (loop_of m p) (rows_are_tests p.tests) (
    flat_lows m p.low p.lows is.0.low,
    flat_highs m p.high p.highs
        is.0.high,
    h.0,
  ),
  flat_pieces k m all context ps is.2 h.1,
)

pub flat_leaves : (sets : List Scanned) → FlatAll (leaves (map own_leaf sets))
flat_leaves [] = tt
flat_leaves (s ∷ sets) = (
  flat_under (tests_of s) (instance s.statement (turn_forms s)) (equalities_are_tests s.system.equalities
      s.system.rows) tt,
  flat_leaves sets,
)

marks_under : (bs : List Bool) (tests : List Test) (t : Tree) → Marks bs t → Marks bs (under tests t)
marks_under bs [] t h = h
marks_under [] (test ∷ tests) t h = (h, tt)
marks_under (b ∷ bs) (test ∷ tests) t h = (h, tt)

pub marks_pieces : (m : ℕ) (b : Bool) (bs : List Bool) (ps : List Piece) → AreMarked b bs ps
    → MarksAll (b ∷ bs) (loops_of m ps)
marks_pieces m b bs [] h = tt
marks_pieces m b bs (p ∷ ps) h = (
  marks_under (b ∷ bs) (row_tests p.tests) (loop_of m p) (h.0, h.1),
  marks_pieces m b
      bs ps h.2,
)

pub marks_leaves : (ls : List Leaf) → MarksAll [] (leaves ls)
marks_leaves [] = tt
marks_leaves (l ∷ ls) = (marks_under [] l.tests (instance l.set.statement l.turns) tt, marks_leaves ls)
