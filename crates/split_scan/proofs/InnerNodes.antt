-- From a node to those within its loops.
use Rattle.scop_syntax.proofs.Common.{◌≡◌, ℕ, suc, ◌+◌, ◌-◌, ◌<◌, Bool, true, false, List, [], ◌∷◌, ◌++◌, length}
use Rattle.scop_syntax.proofs.Common.{take, get_or, map, refl, sym, ap, subst, ◌∙◌, All, arith, Option, map-append}
use Rattle.scop_syntax.proofs.Common.{All-cons, All-head, All-tail, Affine}
use Rattle.integer_sets.specs.Scanned.{Scanned}
use Rattle.loop_tree.specs.Tree.{Tree, Trees, loop, more, none}
use Rattle.loop_tree.specs.View.{trees_of}
use Rattle.plain_scan.specs.declared.set_outline.Outline.{Outline}
use Rattle.plain_scan.specs.Hulls.{IsAlike, sets_in}
use Rattle.plain_scan.specs.Rows.{low_bounds, high_bounds}
use Rattle.plain_scan.specs.Sets.{AllAbove, NumbersRise, IsShaped}
use Rattle.plain_scan.specs.steps.Serving.{AllAtLeast}
use Rattle.plain_scan.specs.Sorting.{lows_in, highs_in}
use Rattle.plain_scan.specs.steps.Pieces.{Piece, loops_of}
use Rattle.plain_scan.proofs.CodeBounds.{take_next}
use Rattle.plain_scan.proofs.Pieces.{append_all}
use Rattle.plain_scan.proofs.HullLoops.{alike_of, keys_hold}
use Rattle.plain_scan.proofs.HullNodes.{over_outlines}
use Rattle.split_scan.specs.steps.Questions.{AreNatural, IsCut}
use Rattle.split_scan.specs.steps.Parts.{staying}
use Rattle.split_scan.specs.steps.Bounding.{AreBars}
use Rattle.plain_scan.specs.steps.Nodes.{IsNode}
use Rattle.split_scan.specs.steps.Frames.{AreBodies, Frame, HasBodies, IsFrame, frame_of, high_in, inside_of, low_in}
use Rattle.split_scan.specs.steps.Frames.{piece_of, pieces_of, tree_at}
use Rattle.split_scan.specs.declared.part.Part.{Part}

-- the shape of a node's sets
pub shaped_dims : (place left p : ℕ) (os : List Outline) → All (IsShaped (place + left) p) (sets_in os) → 0 < left
    → All (λ o. o.set.now.system.dimensions ≡ place + suc (left - 1)) os
shaped_dims place left p os shaped some k d inside =
    let s = (over_outlines (IsShaped (place + left) p) os shaped k d inside).dimensions in
    s ∙ (let e : place + left ≡ place + suc (left - 1) = omega (arith, some) in e)

pub shaped_alike : (place left p : ℕ) (os : List Outline) → All (IsShaped (place + left) p) (sets_in os) → 0 < left
    → All (IsAlike (left - 1) (place + 1 + p)) os
shaped_alike place left p os shaped some k d inside =
    let s = over_outlines (IsShaped (place + left) p) os shaped k d inside in
    alike_of (left - 1) place p (place + left) (get_or os k d) s.dimensions s.parameters (omega (arith, some))
    (omega (arith, some))

-- the sets that stay
pub all_staying : (P : Scanned → Type 0) (bs : List Bool) (sets : List Scanned) → All P sets → All P (staying bs sets)
all_staying P [] sets h = h
all_staying P (b ∷ bs) [] h = h
all_staying P (true ∷ bs) (s ∷ sets) h =
    All-cons P s (staying bs sets) (All-head P s sets h) (all_staying P bs sets (All-tail P s sets h))
all_staying P (false ∷ bs) (s ∷ sets) h = all_staying P bs sets (All-tail P s sets h)

above_staying : (n : ℕ) (bs : List Bool) (sets : List Scanned) → AllAbove n sets → AllAbove n (staying bs sets)
above_staying n [] sets h = h
above_staying n (b ∷ bs) [] h = h
above_staying n (true ∷ bs) (s ∷ sets) h = (h.0, above_staying n bs sets h.1)
above_staying n (false ∷ bs) (s ∷ sets) h = above_staying n bs sets h.1

pub rise_staying : (bs : List Bool) (sets : List Scanned) → NumbersRise sets → NumbersRise (staying bs sets)
rise_staying [] sets h = h
rise_staying (b ∷ bs) [] h = h
rise_staying (true ∷ bs) (s ∷ sets) h = (above_staying s.statement bs sets h.0, rise_staying bs sets h.1)
rise_staying (false ∷ bs) (s ∷ sets) h = rise_staying bs sets h.1

-- more rows, as natural
pub natural_more : (m : ℕ) (inside cuts : List Affine) → AreNatural m inside → AreNatural m (inside ++ cuts)
natural_more m inside cuts natural params point range size hold =
    natural params point range size (append_all inside cuts (point ++ params) hold).0

-- the hull's rows make a frame
pub frame_is : (left place p : ℕ) (mark : Option ℕ) (os : List Outline) (context rows : List Affine)
    → All (IsShaped (place + left) p) (sets_in os) → 0 < left
    → (bars : AreBars (left - 1) place (place + 1 + p) os rows)
    → IsFrame (frame_of place p mark (sets_in os) context bars.low bars.high bars.others)
frame_is left place p mark os context rows shaped some bars =
    record {
      inside = omega arith;
      rows = subst (All (IsCut place (place + 1 + p))) bars.is bars.cuts;
      hold = λ params outer x r range size key.
          subst (λ fs. AllAtLeast fs (outer ++ x ∷ params)) bars.is
          (keys_hold (left - 1) place (place + 1 + p) os rows (shaped_dims place left p os shaped some) bars.rows
          params outer x r range size key);
    }

-- one body more
pieces_more : (k : ℕ) (mark : Option ℕ) (f : Frame) (ps : List Part) (bodies : List Trees) (p : Part) (body : Trees)
    → AreBodies k mark f ps bodies
    → pieces_of f (ps ++ p ∷ []) (bodies ++ body ∷ []) ≡ pieces_of f ps bodies ++ piece_of f p body ∷ []
pieces_more k mark f [] [] p body h = refl
pieces_more k mark f [] (b ∷ bodies) p body h = absurd h
pieces_more k mark f (q ∷ ps) [] p body h = absurd h
pieces_more k mark f (q ∷ ps) (b ∷ bodies) p body h =
    ap (λ (qs : List Piece). piece_of f q b ∷ qs) (pieces_more k mark f ps bodies p body h.1)

bodies_more : (k : ℕ) (mark : Option ℕ) (f : Frame) (ps : List Part) (bodies : List Trees) (p : Part) (body : Trees)
    → AreBodies k mark f ps bodies
    → IsNode k (suc f.place) f.variables mark (staying p.stays.items f.sets) (inside_of f ++ p.cuts.items) body
    → AreBodies k mark f (ps ++ p ∷ []) (bodies ++ body ∷ [])
bodies_more k mark f [] [] p body h one = (one, tt)
bodies_more k mark f [] (b ∷ bodies) p body h one = absurd h
bodies_more k mark f (q ∷ ps) [] p body h one = absurd h
bodies_more k mark f (q ∷ ps) (b ∷ bodies) p body h one = (h.0, bodies_more k mark f ps bodies p body h.1 one)

pub bodies_next : (k : ℕ) (mark : Option ℕ) (f : Frame) (ps : List Part) (i : ℕ) (p : Part) (body : Trees)
    (old new : List Tree) → p ≡ get_or ps i p → i < length ps
    → IsNode k (suc f.place) f.variables mark (staying p.stays.items f.sets) (inside_of f ++ p.cuts.items) body
    → new ≡ old ++ loop f.parallel (low_bounds f.place (low_in f) (lows_in f.place (f.others ++ p.cuts.items)))
    (high_bounds f.place (high_in f) (highs_in f.place (f.others ++ p.cuts.items))) body ∷ []
    → HasBodies k mark f (take i ps) old → HasBodies k mark f (take (i + 1) ps) new
bodies_next k mark f ps i p body old new is inside node made h =
    subst (λ qs. HasBodies k mark f qs new) (sym (take_next ps i p is inside)) (record {
      bodies = h.bodies ++ body ∷ [];
      is = made ∙ ap (λ (ts : List Tree). ts ++ tree_at f.place (piece_of f p body) ∷ []) h.is
          ∙ sym (map-append (tree_at f.place) (pieces_of f (take i ps) h.bodies) (piece_of f p body ∷ []))
          ∙ ap (map (tree_at f.place)) (sym (pieces_more k mark f (take i ps) h.bodies p body h.nodes));
      nodes = bodies_more k mark f (take i ps) h.bodies p body h.nodes node;
    })

-- one tree
pub one_tree : (ts : List Tree) (t : Tree) → trees_of ts ≡ more t none → ts ≡ t ∷ []
one_tree [] t e = absurd (no_more t e)
  where
    no_more : (t : Tree) → none ≡ more t none → ⊥
    no_more t e = cc
one_tree (u ∷ []) t e = same u t e
  where
    same : (u t : Tree) → more u none ≡ more t none → (u ∷ []) ≡ (t ∷ [])
    same u t e = cc
one_tree (u ∷ w ∷ ts) t e = absurd (two u w (trees_of ts) t e)
  where
    two : (u w : Tree) (us : Trees) (t : Tree) → more u (more w us) ≡ more t none → ⊥
    two u w us t e = cc

pub trees_are : (m : ℕ) (qs : List Piece) → trees_of (map (tree_at m) qs) ≡ loops_of m qs
trees_are m [] = refl
trees_are m (q ∷ qs) = ap (more (tree_at m q)) (trees_are m qs)
