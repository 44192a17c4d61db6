-- The loops of a node's parts scan its sets.
use Rattle.scop_syntax.proofs.Common.{◌≡◌, ◌≢◌, ℕ, zero, suc, Bool, true, false, ℤ, pos, negsuc, List, [], ◌∷◌, ◌++◌}
use Rattle.scop_syntax.proofs.Common.{length, map, get_or, inl, inr, refl, sym, ap, subst, ◌∙◌, All, arith, ◌≤ℤ◌, ◌<ℤ◌}
use Rattle.scop_syntax.proofs.Common.{Option, Some, eqb, option_eq, ints, All-append, All-head, All-tail, Affine}
use Rattle.scop_syntax.proofs.Common.{value_of, widened, In, in_append}
use Rattle.std.proofs.lemmas.List.{append-nil}
use Rattle.fm_projection.proofs.WholePoints.{one_more}
use Rattle.fractions.specs.Elimination.{coefficient_of}
use Rattle.integer_sets.specs.Scanned.{Scanned}
use Rattle.loop_tree.specs.Tree.{Trees, more, none}
use Rattle.loop_tree.specs.Walk.{walk, walk_all}
use Rattle.loop_tree.specs.Fits.{AreSmallForms, AreSmallTrees}
use Rattle.plain_scan.specs.steps.Serving.{AllAtLeast, IsPlace, deeper}
use Rattle.plain_scan.specs.Rows.{low_bounds, high_bounds}
use Rattle.plain_scan.specs.steps.Pieces.{ArePieces, InSome, IsBelow, IsPiece, LiesIn, bounding, loop_of, loops_of}
use Rattle.plain_scan.specs.steps.Shape.{AreMarked, AreShaped, HaveFlatBodies}
use Rattle.plain_scan.proofs.ScannedTrees.{IsRowOver, all_of_more, loop_shaped, row_over}
use Rattle.plain_scan.specs.Sorting.{if_above, if_below, lows_in, highs_in}
use Rattle.plain_scan.specs.steps.Giving.{Gives, TurnsOn}
use Rattle.plain_scan.specs.Scanning.{flags}
use Rattle.plain_scan.proofs.Rows.{widened_held, widened_hold}
use Rattle.plain_scan.proofs.Pieces.{all_append, append_all, dimension_serves}
use Rattle.plain_scan.proofs.Shape.{flat_pieces, marks_pieces}
use Rattle.plain_scan.proofs.SortedRows.{lows_are_low, highs_are_high, lows_hold, highs_hold, lows_of, highs_of}
use Rattle.plain_scan.proofs.Smallness.{high_is_number, is_small, loop_small, low_is_number}
use Rattle.plain_scan.proofs.VisitIterators.{loop_gives}
use Rattle.plain_scan.proofs.HullLoops.{own_coefficient}
use Rattle.split_scan.specs.steps.Questions.{IsCut, IsIn}
use Rattle.split_scan.specs.steps.Parts.{InPart, IsPart, staying}
use Rattle.split_scan.specs.steps.Ordering.{AreParts, IsBelowAll, Rise}
use Rattle.plain_scan.specs.steps.Nodes.{IsNode}
use Rattle.split_scan.specs.steps.Frames.{AreBodies, Frame, IsFrame, high_in, inside_of, low_in, piece_of, pieces_of}
use Rattle.split_scan.specs.steps.Frames.{rows_in}
use Rattle.split_scan.specs.declared.part.Part.{Part}
use Rattle.split_scan.proofs.NodeParts.{keys_of_all}

-- rows that bound a variable hold where their lower and their upper bounds do
back_step : (z : ℤ) (f : Affine) (ls hs : List Affine) (point : List ℤ) → z ≢ pos 0 → AllAtLeast (if_above z f ls) point
    → AllAtLeast (if_below z f hs) point → (pos 0 ≤ℤ value_of f point) × AllAtLeast ls point × AllAtLeast hs point
back_step (pos zero) f ls hs point not a b = absurd (not refl)
back_step (pos (suc n)) f ls hs point not a b = (a.0, a.1, b)
back_step (negsuc n) f ls hs point not a b = (b.0, a, b.1)

sorted_back : (m n : ℕ) (fs : List Affine) (point : List ℤ) → All (IsCut m n) fs → AllAtLeast (lows_in m fs) point
    → AllAtLeast (highs_in m fs) point → AllAtLeast fs point
sorted_back m n [] point cuts a b = tt
sorted_back m n (f ∷ fs) point cuts a b =
    let s = back_step (coefficient_of m f) f (lows_in m fs) (highs_in m fs) point
    (All-head (IsCut m n) f fs cuts).bounds a b in
    (s.0, sorted_back m n fs point (All-tail (IsCut m n) f fs cuts) s.1 s.2)

-- the rows of a frame's hull but its numbers, and the cuts of a part
rest_cuts : (f : Frame) (p : Part) → IsFrame f → All (IsCut f.place f.variables) p.cuts.items
    → All (IsCut f.place f.variables) (f.others ++ p.cuts.items)
rest_cuts f p is cuts =
    let P = IsCut f.place f.variables in
    All-append P f.others p.cuts.items (All-tail P (high_in f) f.others
    (All-tail P (low_in f) (high_in f ∷ f.others) is.rows)) cuts

-- values of a piece's loop lie in the node, and the part's cuts hold there
known_rows : (f : Frame) (p : Part) → IsFrame f → All (IsCut f.place f.variables) p.cuts.items → (point : List ℤ)
    → AllAtLeast (low_in f ∷ lows_in f.place (f.others ++ p.cuts.items)) point
    → AllAtLeast (high_in f ∷ highs_in f.place (f.others ++ p.cuts.items)) point
    → AllAtLeast (rows_in f) point × AllAtLeast p.cuts.items point
known_rows f p is cuts point a b =
    let rest = append_all f.others p.cuts.items point
    (sorted_back f.place f.variables (f.others ++ p.cuts.items) point (rest_cuts f p is cuts) a.1 b.1) in
    ((a.0, (b.0, rest.0)), rest.1)

is_in : (f : Frame) → IsFrame f → (params outer : List ℤ) (x : ℤ) → IsPlace f.place f.context params outer
    → AllAtLeast (rows_in f) (outer ++ x ∷ params) → IsIn f.place (inside_of f) params outer x
is_in f is params outer x at rows =
    record {
      parameters = at.parameters;
      size = at.size;
      hold = all_append (map (widened f.place) f.context) (rows_in f) (outer ++ x ∷ params)
          (widened_hold f.place f.context outer x params at.size at.inside) rows;
    }

lies_from : (f : Frame) (p : Part) (body : Trees) → IsFrame f → All (IsCut f.place f.variables) p.cuts.items
    → (params outer : List ℤ) (x : ℤ) → IsPlace f.place f.context params outer
    → LiesIn params outer x (piece_of f p body)
    → IsIn f.place (inside_of f) params outer x × AllAtLeast p.cuts.items (outer ++ x ∷ params)
lies_from f p body is cuts params outer x at lies =
    let rows = known_rows f p is cuts (outer ++ x ∷ params) lies.lows lies.highs in
    (is_in f is params outer x at rows.0, rows.1)

lies_to : (f : Frame) (p : Part) (body : Trees) → (params outer : List ℤ) (x : ℤ)
    → AllAtLeast (rows_in f) (outer ++ x ∷ params) → AllAtLeast p.cuts.items (outer ++ x ∷ params)
    → LiesIn params outer x (piece_of f p body)
lies_to f p body params outer x rows cuts =
    let point = outer ++ x ∷ params in
    let rest = all_append f.others p.cuts.items point rows.1.1 cuts in
    record {
      tests = tt;
      lows = (rows.0, lows_hold f.place (f.others ++ p.cuts.items) point rest);
      highs = (rows.1.0, highs_hold f.place (f.others ++ p.cuts.items) point rest);
    }

-- a list that is not empty, without its last entry, and that entry
pub record Ends (xs : List ℤ) (m : ℕ) : Type 0 where
  pub front : List ℤ
  pub last : ℤ
  pub is : xs ≡ front ++ last ∷ []
  pub size : length front ≡ m

pub ends : (xs : List ℤ) (m : ℕ) → length xs ≡ suc m → Ends xs m
ends [] m e = absurd (omega (arith, e))
ends (x ∷ []) m e = record { front = []; last = x; is = refl; size = omega (arith, e) }
ends (x ∷ y ∷ xs) zero e = absurd (omega (arith, e))
ends (x ∷ y ∷ xs) (suc m) e =
    let r = ends (y ∷ xs) m (omega (arith, e)) in
    let s = r.size in
    record {
      front = x ∷ r.front;
      last = r.last;
      is = ap (λ (zs : List ℤ). x ∷ zs) r.is;
      size = omega (arith, s);
    }

-- what is known one place deeper
inner_place : (f : Frame) (p : Part) (body : Trees) → IsFrame f → All (IsCut f.place f.variables) p.cuts.items
    → (params outer : List ℤ)
    → IsPlace (suc f.place) (deeper f.place (f.context ++ []) (bounding (piece_of f p body))) params outer
    → IsPlace (suc f.place) (inside_of f ++ p.cuts.items) params outer
inner_place f p body is cuts params outer at =
    let e = ends outer f.place at.size in
    let q = piece_of f p body in
    let point = e.front ++ e.last ∷ params in
    let there = subst (AllAtLeast (deeper f.place (f.context ++ []) (bounding q))) (one_more e.front e.last params)
    (subst (λ xs. AllAtLeast (deeper f.place (f.context ++ []) (bounding q)) (xs ++ params)) e.is at.inside) in
    let sides = append_all (map (widened f.place) (f.context ++ [])) (bounding q) point there in
    let bounds = append_all (q.low ∷ q.lows) (q.high ∷ q.highs) point sides.1 in
    let round = widened_held f.place (f.context ++ []) e.front e.last params e.size sides.0 in
    let outside = (append_all f.context [] (e.front ++ params) round).0 in
    let rows = known_rows f p is cuts point bounds.0 bounds.1 in
    let here = is_in f is params e.front e.last (record {
      parameters = at.parameters;
      size = e.size;
      inside = outside;
    }) rows.0 in
    record {
      parameters = at.parameters;
      size = at.size;
      inside = subst (λ xs. AllAtLeast (inside_of f ++ p.cuts.items) (xs ++ params)) (sym e.is)
          (subst (AllAtLeast (inside_of f ++ p.cuts.items)) (sym (one_more e.front e.last params))
          (all_append (inside_of f) p.cuts.items point here.hold rows.1));
    }

-- the loop of a part is a piece
low_first : (f : Frame) → IsFrame f → pos 0 <ℤ coefficient_of f.place (low_in f)
low_first f is =
    let e = own_coefficient f.variables f.place (pos 1) f.low is.inside in omega (arith, ints, e)

high_first : (f : Frame) → IsFrame f → coefficient_of f.place (high_in f) <ℤ pos 0
high_first f is =
    let e = own_coefficient f.variables f.place (negsuc 0) f.high is.inside in omega (arith, ints, e)

piece_is : (k : ℕ) (mark : Option ℕ) (f : Frame) (p : Part) (body : Trees) → IsFrame f
    → IsPart f.place f.variables (inside_of f) f.sets p
    → IsNode k (suc f.place) f.variables mark (staying p.stays.items f.sets) (inside_of f ++ p.cuts.items) body
    → IsPiece k f.place f.sets f.context (piece_of f p body)
piece_is k mark f p body is part node =
    let rest = f.others ++ p.cuts.items in
    record {
      low = (low_first f is, lows_are_low f.place rest);
      high = (high_first f is, highs_are_high f.place rest);
      serves = λ params outer at. node.serves params outer (inner_place f p body is part.cuts params outer at);
      none_new = λ params outer at x r lies key. keys_of_all p.stays.items f.sets params (outer ++ x ∷ r) key;
      none_lost = λ params outer at x r lies key.
          let here = lies_from f p body is part.cuts params outer x at lies in
          part.keeps params outer x here.0 here.1 r key;
    }

some_below : (f : Frame) (p : Part) (body : Trees) (ps : List Part) (bodies : List Trees) → IsFrame f
    → All (IsCut f.place f.variables) p.cuts.items → All (IsPart f.place f.variables (inside_of f) f.sets) ps
    → IsBelowAll f.place (inside_of f) p ps → IsBelow f.place f.context (piece_of f p body) (pieces_of f ps bodies)
some_below f p body [] bodies is cuts parts below params outer at x y a b = absurd b
some_below f p body (q ∷ ps) [] is cuts parts below params outer at x y a b = absurd b
some_below f p body (q ∷ ps) (other ∷ bodies) is cuts parts below params outer at x y a (inl b) =
    let P = IsPart f.place f.variables (inside_of f) f.sets in
    let first = lies_from f p body is cuts params outer x at a in
    let second = lies_from f q other is (All-head P q ps parts).cuts params outer y at b in
    below.0 params outer x y first.0 second.0 first.1 second.1
some_below f p body (q ∷ ps) (other ∷ bodies) is cuts parts below params outer at x y a (inr b) =
    some_below f p body ps bodies is cuts (All-tail (IsPart f.place f.variables
    (inside_of f) f.sets) q ps parts) below.1
    params outer at x y a b

pieces_are : (k : ℕ) (mark : Option ℕ) (f : Frame) (ps : List Part) (bodies : List Trees) → IsFrame f
    → All (IsPart f.place f.variables (inside_of f) f.sets) ps → Rise f.place (inside_of f) ps
    → AreBodies k mark f ps bodies → ArePieces k f.place f.sets f.context (pieces_of f ps bodies)
pieces_are k mark f [] bodies is parts rise nodes = tt
pieces_are k mark f (p ∷ ps) [] is parts rise nodes = tt
pieces_are k mark f (p ∷ ps) (body ∷ bodies) is parts rise nodes =
    let P = IsPart f.place f.variables (inside_of f) f.sets in (
      piece_is k mark f p body is (All-head P p ps parts) nodes.0,
      some_below f p body ps bodies is (All-head P p ps parts).cuts (All-tail P p ps parts) rise.0,
      pieces_are k mark f ps bodies is (All-tail P p ps parts) rise.1 nodes.1,
    )

in_some : (k : ℕ) (mark : Option ℕ) (f : Frame) (ps : List Part) (bodies : List Trees) → AreBodies k mark f ps bodies
    → (params outer : List ℤ) (x : ℤ) → AllAtLeast (rows_in f) (outer ++ x ∷ params)
    → InPart ps (outer ++ x ∷ params) → InSome params outer x (pieces_of f ps bodies)
in_some k mark f [] bodies nodes params outer x rows h = absurd h
in_some k mark f (p ∷ ps) [] nodes params outer x rows h = absurd nodes
in_some k mark f (p ∷ ps) (body ∷ bodies) nodes params outer x rows (inl h) =
    inl (lies_to f p body params outer x rows h)
in_some k mark f (p ∷ ps) (body ∷ bodies) nodes params outer x rows (inr h) =
    inr (in_some k mark f ps bodies nodes.1 params outer x rows h)

-- visits of the sets that stay are visits of all
in_all : (bs : List Bool) (sets : List Scanned) (s : Scanned) → In s (staying bs sets) → In s sets
in_all [] sets s h = h
in_all (b ∷ bs) [] s h = h
in_all (true ∷ bs) (t ∷ sets) s (inl h) = inl h
in_all (true ∷ bs) (t ∷ sets) s (inr h) = inr (in_all bs sets s h)
in_all (false ∷ bs) (t ∷ sets) s h = inr (in_all bs sets s h)

pieces_give : (k : ℕ) (mark : Option ℕ) (f : Frame) (ps : List Part) (bodies : List Trees)
    → AreBodies k mark f ps bodies → TurnsOn f.place f.sets (loops_of f.place (pieces_of f ps bodies))
pieces_give k mark f [] bodies nodes params outer size v h = absurd h
pieces_give k mark f (p ∷ ps) [] nodes params outer size v h = absurd h
pieces_give k mark f (p ∷ ps) (body ∷ bodies) nodes params outer size v h =
    let q = piece_of f p body in
    let t = loop_of f.place q in
    elim (in_append v (walk t params outer) (walk_all (loops_of f.place (pieces_of f ps bodies)) params outer) h) [
      | inl g ↦
          widen (loop_gives f.place q.active f.parallel (low_bounds f.place q.low q.lows)
          (high_bounds f.place q.high q.highs) body nodes.0.turns params outer size v (in_front g))
      | inr g ↦ pieces_give k mark f ps bodies nodes.1 params outer size v g
    ]
  where
    in_front : In v (walk (loop_of f.place (piece_of f p body)) params outer)
        → In v (walk_all (more (loop_of f.place (piece_of f p body)) none) params outer)
    in_front g = subst (In v) (sym (append-nil (walk (loop_of f.place (piece_of f p body)) params outer))) g

    widen : Gives (staying p.stays.items f.sets) outer v → Gives f.sets outer v
    widen g = (g.0, in_all p.stays.items f.sets g.0 g.1, g.2, g.3)

-- their numbers are small
small_forms : (m n : ℕ) (fs : List Affine) → All (IsCut m n) fs → AreSmallForms fs
small_forms m n [] h = tt
small_forms m n (f ∷ fs) h =
    (is_small f (All-head (IsCut m n) f fs h).small, small_forms m n fs (All-tail (IsCut m n) f fs h))

pieces_small : (k : ℕ) (mark : Option ℕ) (f : Frame) (ps : List Part) (bodies : List Trees) → IsFrame f
    → All (IsPart f.place f.variables (inside_of f) f.sets) ps → AreBodies k mark f ps bodies
    → AreSmallTrees (suc k) (loops_of f.place (pieces_of f ps bodies))
pieces_small k mark f [] bodies is parts nodes = tt
pieces_small k mark f (p ∷ ps) [] is parts nodes = tt
pieces_small k mark f (p ∷ ps) (body ∷ bodies) is parts nodes =
    let P = IsPart f.place f.variables (inside_of f) f.sets in
    let C = IsCut f.place f.variables in
    let rest = f.others ++ p.cuts.items in
    let cuts = rest_cuts f p is (All-head P p ps parts).cuts in
    let lows = small_forms f.place f.variables (lows_in f.place rest) (lows_of C f.place rest cuts) in
    let highs = small_forms f.place f.variables (highs_in f.place rest) (highs_of C f.place rest cuts) in
    let low = (All-head C (low_in f) (high_in f ∷ f.others) is.rows).small in
    let high = (All-head C (high_in f) f.others (All-tail C (low_in f) (high_in f ∷ f.others) is.rows)).small in
    let one = loop_small k f.place f.parallel (low_in f) (high_in f) (lows_in f.place rest) (highs_in f.place rest) body
    (is_small (low_in f) low) (is_small (high_in f) high) lows highs
    (low_is_number f.variables f.place f.low low.1 (own_coefficient f.variables f.place (pos 1) f.low is.inside))
    (high_is_number f.variables f.place f.high high.1
    (own_coefficient f.variables f.place (negsuc 0) f.high is.inside)) nodes.0.small in
    (one.0, pieces_small k mark f ps bodies is (All-tail P p ps parts) nodes.1)

-- what the loops are like
pieces_shaped : (k : ℕ) (mark : Option ℕ) (f : Frame) (ps : List Part) (bodies : List Trees) (n : ℕ) → IsFrame f
    → f.variables ≡ suc n → All (IsPart f.place f.variables (inside_of f) f.sets) ps → AreBodies k mark f ps bodies
    → AreShaped n f.sets (loops_of f.place (pieces_of f ps bodies))
pieces_shaped k mark f [] bodies n is count parts nodes = record { small = tt; over = tt; instances = tt }
pieces_shaped k mark f (p ∷ ps) [] n is count parts nodes = record { small = tt; over = tt; instances = tt }
pieces_shaped k mark f (p ∷ ps) (body ∷ bodies) n is count parts nodes =
    let P = IsPart f.place f.variables (inside_of f) f.sets in
    let C = IsCut f.place f.variables in
    let active = staying p.stays.items f.sets in
    let others = f.others ++ p.cuts.items in
    let cuts = All-append C (rows_in f) p.cuts.items is.rows (All-head P p ps parts).cuts in
    let rows : All (IsRowOver (suc n)) (low_in f ∷ high_in f ∷ others) = λ j d inside.
    let cut = cuts j d inside in
    row_over (suc n) (get_or (low_in f ∷ high_in f ∷ others) j d) (cut.sized ∙ count) cut.small in
    let less = is.inside in
    let one = loop_shaped f.place n active f.parallel (low_in f) (high_in f) others body (omega
    (arith, less, count)) rows
    (subst (λ m. AreShaped m active body) count nodes.0.shaped) in
    let rest = pieces_shaped k mark f ps bodies n is count (All-tail P p ps parts) nodes.1 in
    let t = loop_of f.place (piece_of f p body) in
    record {
      small = (one.small.0, rest.small);
      over = (one.over.0, rest.over);
      instances = (
        (all_of_more active f.sets (more t none) (in_all p.stays.items f.sets) one.instances).0,
        rest.instances,
      );
    }

-- they are flat and marked
bodies_flat : (k : ℕ) (mark : Option ℕ) (f : Frame) (ps : List Part) (bodies : List Trees)
    → AreBodies k mark f ps bodies → HaveFlatBodies (pieces_of f ps bodies)
bodies_flat k mark f [] bodies nodes = tt
bodies_flat k mark f (p ∷ ps) [] nodes = tt
bodies_flat k mark f (p ∷ ps) (body ∷ bodies) nodes = (nodes.0.flat, bodies_flat k mark f ps bodies nodes.1)

bodies_marked : (k : ℕ) (mark : Option ℕ) (f : Frame) (ps : List Part) (bodies : List Trees)
    → f.parallel ≡ option_eq eqb mark (Some f.place) → AreBodies k mark f ps bodies
    → AreMarked (option_eq eqb mark (Some f.place)) (flags mark (suc f.place) k) (pieces_of f ps bodies)
bodies_marked k mark f [] bodies told nodes = tt
bodies_marked k mark f (p ∷ ps) [] told nodes = tt
bodies_marked k mark f (p ∷ ps) (body ∷ bodies) told nodes =
    (told, nodes.0.marks, bodies_marked k mark f ps bodies told nodes.1)

-- the loops of a node's parts scan what its sets have
pub node_of : (k n : ℕ) (mark : Option ℕ) (f : Frame) (ps : List Part) (bodies : List Trees) → IsFrame f
    → f.variables ≡ suc n → f.parallel ≡ option_eq eqb mark (Some f.place)
    → AreParts f.place f.variables (inside_of f) f.sets ps
    → AreBodies k mark f ps bodies
    → IsNode (suc k) f.place n mark f.sets f.context (loops_of f.place (pieces_of f ps bodies))
node_of k n mark f ps bodies is count told parts nodes =
    let qs = pieces_of f ps bodies in
    let pieces = pieces_are k mark f ps bodies is parts.parts parts.rise nodes in
    record {
      serves = dimension_serves k f.place f.sets f.context qs pieces (λ params outer at x r key.
          let rows = is.hold params outer x r at.parameters at.size key in
          in_some k mark f ps bodies nodes params outer x rows
          (parts.enough params outer x (is_in f is params outer x at rows) r key));
      turns = pieces_give k mark f ps bodies nodes;
      small = pieces_small k mark f ps bodies is parts.parts nodes;
      shaped = pieces_shaped k mark f ps bodies n is count parts.parts nodes;
      flat = flat_pieces k f.place f.sets f.context qs pieces (bodies_flat k mark f ps bodies nodes);
      marks = marks_pieces f.place (option_eq eqb mark (Some f.place)) (flags mark (suc f.place) k) qs
          (bodies_marked k mark f ps bodies told nodes);
    }
