-- The one law of both scanners: a dimension's pieces. The hull is one piece.
use Rattle.std.specs.Prelude.{ℕ, suc, Bool, ℤ, ◌<ℤ◌, List, [], ◌∷◌, ◌++◌, ◌⊎◌, ⊤, pos, negsuc, ◌≤ℤ◌, All}
use Rattle.whole_numbers.specs.Affine.{Affine, value_of}
use Rattle.loop_tree.specs.Tree.{Tree, loop, Trees, none, more}
use Rattle.integer_sets.specs.Scanned.{Scanned}
use Rattle.plain_scan.specs.Sets.{Keys, row_tests, under}
use Rattle.plain_scan.specs.steps.Serving.{AllAtLeast, AreLow, AreHigh, IsPlace, ServesOn, deeper}
use Rattle.plain_scan.specs.Rows.{low_bounds, high_bounds}
use Rattle.fm_projection.specs.Alone.{place_form}
use Rattle.plain_scan.specs.declared.set_outline.Outline.{Outline}
use Rattle.plain_scan.specs.Sorting.{lows_in, highs_in}
use Rattle.plain_scan.specs.Hulls.{IsHull, sets_in}

-- rows over the outer values alone; rows that bound the loop's value; the sets that have a point there, and what
-- visits them
pub record Piece : Type 0 where
  pub tests : List Affine
  pub parallel : Bool
  pub low : Affine
  pub lows : List Affine
  pub high : Affine
  pub highs : List Affine
  pub active : List Scanned
  pub body : Trees

abbrev pub bounding : Piece → List Affine
bounding p = (p.low ∷ p.lows) ++ (p.high ∷ p.highs)

-- its loop, under a guard if there are tests
abbrev pub loop_of : ℕ → Piece → Tree
loop_of m p = loop p.parallel (low_bounds m p.low p.lows) (high_bounds m p.high p.highs) p.body

abbrev pub loops_of : ℕ → List Piece → Trees
loops_of m [] = none
loops_of m (p ∷ ps) = more (under (row_tests p.tests) (loop_of m p)) (loops_of m ps)

-- x is a value of the piece: its rows hold
pub record LiesIn (params outer : List ℤ) (x : ℤ) (p : Piece) : Type 0 where
  pub tests : AllAtLeast p.tests (outer ++ params)
  pub lows : AllAtLeast (p.low ∷ p.lows) (outer ++ x ∷ params)
  pub highs : AllAtLeast (p.high ∷ p.highs) (outer ++ x ∷ params)

abbrev pub InSome : List ℤ → List ℤ → ℤ → List Piece → Type 0
InSome params outer x [] = ⊥
InSome params outer x (p ∷ ps) = LiesIn params outer x p ⊎ InSome params outer x ps

-- one piece: its body serves its active sets; a set that is not active has no point at its values
pub record IsPiece (k m : ℕ) (all : List Scanned) (context : List Affine) (p : Piece) : Type 0 where
  pub low : AreLow m (p.low ∷ p.lows)
  pub high : AreHigh m (p.high ∷ p.highs)
  pub serves : ServesOn k (suc m) p.active (deeper m (context ++ p.tests) (bounding p)) p.body
  pub none_new : (params outer : List ℤ) → IsPlace m context params outer → (x : ℤ) (r : List ℤ)
      → LiesIn params outer x p → Keys p.active params (outer ++ x ∷ r) → Keys all params (outer ++ x ∷ r)
  pub none_lost : (params outer : List ℤ) → IsPlace m context params outer → (x : ℤ) (r : List ℤ)
      → LiesIn params outer x p → Keys all params (outer ++ x ∷ r) → Keys p.active params (outer ++ x ∷ r)

-- the values of p are less than those of the pieces behind it
abbrev pub IsBelow : ℕ → List Affine → Piece → List Piece → Type 0
IsBelow m context p ps =
    (params outer : List ℤ) → IsPlace m context params outer → (x y : ℤ) → LiesIn params outer x p
    → InSome params outer y ps → x <ℤ y

abbrev pub ArePieces : ℕ → ℕ → List Scanned → List Affine → List Piece → Type 0
ArePieces k m all context [] = ⊤
ArePieces k m all context (p ∷ ps) = IsPiece k m all context p × IsBelow m context p ps × ArePieces k m all context ps

-- no point of the sets is left out
abbrev pub AreEnough : ℕ → List Scanned → List Affine → List Piece → Type 0
AreEnough m all context ps =
    (params outer : List ℤ) → IsPlace m context params outer → (x : ℤ) (r : List ℤ) → Keys all params (outer ++ x ∷ r)
    → InSome params outer x ps

-- each row is at least 0 at the point
abbrev pub Hold : List Affine → List ℤ → Type 0
Hold fs point = All (λ f. pos 0 ≤ℤ value_of f point) fs

-- the one piece of a hull: its two numbers and its other rows bound the loop
abbrev pub hull_piece : (depth place n : ℕ) (outlines : List Outline) (fs : List Affine)
    → IsHull depth place n outlines fs → Bool → Trees → Piece
hull_piece depth place n outlines fs h parallel body =
    record {
      tests = [];
      parallel = parallel;
      low = place_form n place (pos 1) h.low;
      lows = lows_in place h.others;
      high = place_form n place (negsuc 0) h.high;
      highs = highs_in place h.others;
      active = sets_in outlines;
      body = body;
    }
