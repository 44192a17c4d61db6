-- Pieces of a dimension serve their sets; from the outermost dimension on the tree is exact.
use Rattle.scop_syntax.proofs.Common.{◌≡◌, ℕ, zero, suc, ℤ, List, [], ◌∷◌, ◌++◌, length, map, inl, inr, ap, subst, sym}
use Rattle.scop_syntax.proofs.Common.{refl, ◌∙◌, ◌≤ℤ◌, Affine, widened}
use Rattle.loop_tree.specs.Tree.{Trees}
use Rattle.loop_tree.specs.Walk.{lower, upper, walk_all}
use Rattle.loop_tree.specs.Scans.{Within, Exact}
use Rattle.loop_tree.specs.steps.Scanning.{Spans, SpansAll, Scans, ScansAll}
use Rattle.integer_sets.specs.Scanned.{Scanned}
use Rattle.plain_scan.specs.Sets.{Keys, NumbersRise, row_tests, under}
use Rattle.plain_scan.specs.steps.Serving.{AllAtLeast, KeysAt, HaveDimensions, sets_of, AreTested}
use Rattle.plain_scan.specs.Sets.{Leaf, leaves}
use Rattle.plain_scan.specs.Rows.{low_bounds, high_bounds}
use Rattle.plain_scan.specs.steps.Serving.{AreLow, AreHigh, IsPlace, ServesOn, deeper}
use Rattle.scop_syntax.specs.Limits.{AreInRange}
use Rattle.fm_projection.proofs.WholePoints.{one_more}
use Rattle.plain_scan.specs.steps.Pieces.{Piece, bounding, loop_of, loops_of, LiesIn, InSome, IsPiece, ArePieces}
use Rattle.plain_scan.specs.steps.Pieces.{AreEnough}
use Rattle.plain_scan.proofs.Nodes.{loop_scans, leaves_serve, length_end, serves_exact, rows_hold}
use Rattle.plain_scan.proofs.Nodes.{hold_rows, under_spans, spans_under, under_scans}
use Rattle.plain_scan.proofs.Rows.{widened_hold, lows_to, lows_from, highs_to, highs_from}

pub all_append : (fs gs : List Affine) (point : List ℤ) → AllAtLeast fs point → AllAtLeast gs point
    → AllAtLeast (fs ++ gs) point
all_append [] gs point a b = b
all_append (f ∷ fs) gs point a b = (a.0, all_append fs gs point a.1 b)

pub append_all : (fs gs : List Affine) (point : List ℤ) → AllAtLeast (fs ++ gs) point → AllAtLeast fs point
    × AllAtLeast gs point
append_all [] gs point h = (tt, h)
append_all (f ∷ fs) gs point h = let r = append_all fs gs point h.1 in ((h.0, r.0), r.1)

-- one place deeper
pub deeper_place : (m : ℕ) (context rows : List Affine) (params outer : List ℤ) (x : ℤ)
    → IsPlace m context params outer → AllAtLeast rows (outer ++ x ∷ params)
    → IsPlace (suc m) (deeper m context rows) params (outer ++ x ∷ [])
deeper_place m context rows params outer x place h = record {
  parameters = place.parameters;
  size = length_end outer x ∙ ap suc place.size;
  inside =
      let w = widened_hold m context outer x params place.size place.inside in
      subst (AllAtLeast (map (widened m) context ++ rows)) (sym (one_more outer x params))
      (all_append (map (widened m) context) rows (outer ++ x ∷ params) w h);
}

pub more_context : (m : ℕ) (context rows : List Affine) (params outer : List ℤ) → IsPlace m context params outer
    → AllAtLeast rows (outer ++ params) → IsPlace m (context ++ rows) params outer
more_context m context rows params outer place h = record {
  parameters = place.parameters;
  size = place.size;
  inside = all_append context rows (outer ++ params) place.inside h;
}

-- the loop's values are those at which the bounding rows hold
pub within_rows : (m : ℕ) (p : Piece) (params outer : List ℤ) (x : ℤ) → length outer ≡ m → AreLow m (p.low ∷ p.lows)
    → AreHigh m (p.high ∷ p.highs)
    → Within (low_bounds m p.low p.lows) (high_bounds m p.high p.highs) (outer ++ params) x
    → AllAtLeast (p.low ∷ p.lows) (outer ++ x ∷ params) × AllAtLeast (p.high ∷ p.highs) (outer ++ x ∷ params)
within_rows m p params outer x e l h w = (
  lows_from outer x params p.low p.lows (subst (λ n. AreLow n (p.low ∷ p.lows)) (sym e) l)
      (subst (λ n. lower (low_bounds n p.low p.lows) (outer ++ params) ≤ℤ x) (sym e) w.0),
  highs_from outer x params p.high p.highs (subst (λ n. AreHigh n (p.high ∷ p.highs)) (sym e) h)
      (subst (λ n. x ≤ℤ upper (high_bounds n p.high p.highs) (outer ++ params)) (sym e) w.1),
)

pub rows_within : (m : ℕ) (p : Piece) (params outer : List ℤ) (x : ℤ) → length outer ≡ m → AreLow m (p.low ∷ p.lows)
    → AreHigh m (p.high ∷ p.highs)
    → AllAtLeast (p.low ∷ p.lows) (outer ++ x ∷ params) → AllAtLeast (p.high ∷ p.highs) (outer ++ x ∷ params)
    → Within (low_bounds m p.low p.lows) (high_bounds m p.high p.highs) (outer ++ params) x
rows_within m p params outer x e l h a b = (
  subst (λ n. lower (low_bounds n p.low p.lows) (outer ++ params) ≤ℤ x) e (lows_to outer x params p.low p.lows
      (subst (λ n. AreLow n (p.low ∷ p.lows)) (sym e) l) a),
  subst (λ n. x ≤ℤ upper (high_bounds n p.high p.highs) (outer ++ params)) e (highs_to outer x params p.high p.highs
      (subst (λ n. AreHigh n (p.high ∷ p.highs)) (sym e) h) b),
)

-- a piece's tree spans its values
piece_of_span : (k m : ℕ) (all : List Scanned) (context : List Affine) (p : Piece) → IsPiece k m all context p
    → (params outer : List ℤ) → IsPlace m context params outer → (x : ℤ)
    → Spans (under (row_tests p.tests) (loop_of m p)) params outer x → LiesIn params outer x p
piece_of_span k m all context p is params outer place x h =
    let g = spans_under (row_tests p.tests) (loop_of m p) params outer x h in
    let r = within_rows m p params outer x place.size is.low is.high g.1 in
    record { tests = rows_hold p.tests (outer ++ params) g.0; lows = r.0; highs = r.1 }

span_of_piece : (k m : ℕ) (all : List Scanned) (context : List Affine) (p : Piece) → IsPiece k m all context p
    → (params outer : List ℤ) → IsPlace m context params outer → (x : ℤ)
    → LiesIn params outer x p → Spans (under (row_tests p.tests) (loop_of m p)) params outer x
span_of_piece k m all context p is params outer place x h =
    under_spans (row_tests p.tests) (loop_of m p) params outer x (hold_rows p.tests (outer ++ params) h.tests)
    (rows_within m p params outer x place.size is.low is.high h.lows h.highs)

some_of_spans : (k m : ℕ) (all : List Scanned) (context : List Affine) (ps : List Piece)
    → ArePieces k m all context ps → (params outer : List ℤ) → IsPlace m context params outer → (x : ℤ)
    → SpansAll (loops_of m ps) params outer x → InSome params outer x ps
some_of_spans k m all context [] is params outer place x h = h
some_of_spans k m all context (p ∷ ps) is params outer place x (inl h) = inl (piece_of_span k m all context p is.0
    params outer place x h)
some_of_spans k m all context (p ∷ ps) is params outer place x (inr h) = inr (some_of_spans k m all context ps is.2
    params outer place x h)

spans_of_some : (k m : ℕ) (all : List Scanned) (context : List Affine) (ps : List Piece)
    → ArePieces k m all context ps → (params outer : List ℤ) → IsPlace m context params outer → (x : ℤ)
    → InSome params outer x ps → SpansAll (loops_of m ps) params outer x
spans_of_some k m all context [] is params outer place x h = h
spans_of_some k m all context (p ∷ ps) is params outer place x (inl h) = inl (span_of_piece k m all context p is.0
    params outer place x h)
spans_of_some k m all context (p ∷ ps) is params outer place x (inr h) = inr (spans_of_some k m all context ps is.2
    params outer place x h)

piece_scans : (k m : ℕ) (all : List Scanned) (context : List Affine) (p : Piece) → IsPiece k m all context p
    → (params outer : List ℤ) → IsPlace m context params outer
    → Scans (suc k) (KeysAt all params outer) (under (row_tests p.tests) (loop_of m p)) params outer
piece_scans k m all context p is params outer place =
    under_scans (suc k) (KeysAt all params outer) (row_tests p.tests) (loop_of m p) params outer
    (λ e. let tests = rows_hold p.tests (outer ++ params) e in
    loop_scans k all p.active p.parallel (low_bounds m p.low p.lows) (high_bounds m p.high p.highs) p.body params
    outer
    (λ x w.
    let r = within_rows m p params outer x place.size is.low is.high w in
    let lies : LiesIn params outer x p = record { tests = tests; lows = r.0; highs = r.1 } in
    let inner = deeper_place m (context ++ p.tests) (bounding p) params outer x (more_context m context p.tests params
    outer place tests)
    (all_append (p.low ∷ p.lows) (p.high ∷ p.highs) (outer ++ x ∷ params) r.0 r.1) in (
      is.serves params (outer ++ x ∷ []) inner,
      (λ q. is.none_new params outer place x q lies),
      (λ q. is.none_lost params outer place x q lies),
    )))

pieces_scan : (k m : ℕ) (all : List Scanned) (context : List Affine) (ps : List Piece) → ArePieces k m all context ps
    → (params outer : List ℤ) → IsPlace m context params outer
    → ScansAll (suc k) (KeysAt all params outer) (loops_of m ps) params outer
pieces_scan k m all context [] is params outer place = tt
pieces_scan k m all context (p ∷ ps) is params outer place = (
  piece_scans k m all context p is.0 params outer place,
  pieces_scan k m all context ps is.2 params outer place,
  (λ x y a b. is.1 params outer place x y (piece_of_span k m all context p is.0 params outer place x a)
      (some_of_spans k m all context ps is.2 params outer place y b)),
)

-- the one law of a dimension: hull (one piece, all sets active) and separation alike
pub dimension_serves : (k m : ℕ) (sets : List Scanned) (context : List Affine) (ps : List Piece)
    → ArePieces k m sets context ps → AreEnough m sets context ps
    → ServesOn (suc k) m sets context (loops_of m ps)
dimension_serves k m sets context ps is enough params outer place = record {
  covers = λ x r h. spans_of_some k m sets context ps is params outer place x (enough params outer place x r h);
  scans = pieces_scan k m sets context ps is params outer place;
}

-- behind the last dimension
pub end_serves : (m : ℕ) (ls : List Leaf) (context : List Affine) → HaveDimensions m (sets_of ls)
    → NumbersRise (sets_of ls)
    → ((params outer : List ℤ) → IsPlace m context params outer → AreTested ls (outer ++ params))
    → ServesOn zero m (sets_of ls) context (leaves ls)
end_serves m ls context sized rise tested params outer place =
    leaves_serve ls params outer (subst (λ n. HaveDimensions n (sets_of ls)) (sym place.size) sized) rise
    (tested params outer place)

-- the whole tree, from no outer value on
pub scanned_exact : (n : ℕ) (sets : List Scanned) (ts : Trees) (params : List ℤ) → HaveDimensions n sets
    → ServesOn n zero sets [] ts → AreInRange params
    → Exact (Keys sets params) (walk_all ts params [])
scanned_exact n sets ts params sized s range =
    serves_exact n sets ts params sized (s params [] (record { parameters = range; size = refl; inside = tt }))
