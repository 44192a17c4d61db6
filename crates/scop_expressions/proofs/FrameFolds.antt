-- Reducing, seen on frames: frames that bind tighter than a level close round the tree in hand.
use Rattle.std.proofs.Common.{◌≡◌, ℕ, ◌+◌, ◌≤◌, Bool, true, false, List, [], ◌∷◌, ◌++◌, refl, ◌∙◌, append_assoc}
use Rattle.std.proofs.Common.{length-append, arith, max, nat_lt}
use Rattle.std.proofs.lemmas.Bool.Decides.{nat_tests}
use Rattle.std.proofs.lemmas.Bool.{lt-ltb}
use Rattle.scop_tokens.specs.declared.Op.{Op}
use Rattle.scop_tokens.specs.declared.Width.{Width}
use Rattle.scop_expressions.specs.declared.token.Sign.{Sign}
use Rattle.scop_expressions.specs.Tree.{Tree, unary, cast, binary, level, rank, size, depth, operators, written}
use Rattle.scop_expressions.specs.Tree.{WellBracketed, tokens_of}
use Rattle.scop_expressions.specs.Machine.{demand, reduced}
use Rattle.scop_expressions.proofs.Frames.{Frame, left, sign, casting, grouping, indexing, calling, front, place}
use Rattle.scop_expressions.proofs.Frames.{held_of, nodes_of, brackets_of, used_of, peak, Sound, demand_most}

pub record Folded (l : ℕ) (fs : List Frame) (t : Tree) : Type 0 where
  pub frames : List Frame
  pub tree : Tree
  pub is : reduced l (held_of fs) (nodes_of fs ++ written (place fs) t)
      ≡ (held_of frames, nodes_of frames ++ written (place frames) tree)
  pub sound : Sound frames
  pub bracketed : WellBracketed tree
  pub stands : demand (held_of frames) ≤ rank tree
  pub level : l ≤ rank tree
  pub loose : demand (held_of frames) ≤ max l 1
  pub tokens : front frames ++ tokens_of tree ≡ front fs ++ tokens_of t
  pub peak : max (peak frames) (brackets_of frames + depth tree) ≤ max (peak fs) (brackets_of fs + depth t)
  pub brackets : brackets_of frames ≡ brackets_of fs
  pub used : used_of frames + operators tree ≡ used_of fs + operators t

-- the tree in hand stays
pub stay : (l : ℕ) (fs : List Frame) (t : Tree)
    → reduced l (held_of fs) (nodes_of fs ++ written (place fs) t)
    ≡ (held_of fs, nodes_of fs ++ written (place fs) t)
    → Sound fs → WellBracketed t → demand (held_of fs) ≤ rank t → l ≤ rank t → demand (held_of fs) ≤ max l 1
    → Folded l fs t
stay l fs t e s w h k m =
    record {
      frames = fs;
      tree = t;
      is = e;
      sound = s;
      bracketed = w;
      stands = h;
      level = k;
      loose = m;
      tokens = refl;
      peak = omega arith;
      brackets = refl;
      used = refl;
    }

-- a frame closes round the tree in hand
pub fold : (l : ℕ) (fs gs : List Frame) (t u : Tree)
    → reduced l (held_of fs) (nodes_of fs ++ written (place fs) t)
    ≡ reduced l (held_of gs) (nodes_of gs ++ written (place gs) u)
    → front gs ++ tokens_of u ≡ front fs ++ tokens_of t
    → max (peak gs) (brackets_of gs + depth u) ≤ max (peak fs) (brackets_of fs + depth t)
    → brackets_of gs ≡ brackets_of fs → used_of gs + operators u ≡ used_of fs + operators t
    → Folded l gs u → Folded l fs t
fold l fs gs t u e ts p b n f =
    record {
      frames = f.frames;
      tree = f.tree;
      is = e ∙ f.is;
      sound = f.sound;
      bracketed = f.bracketed;
      stands = f.stands;
      level = f.level;
      loose = f.loose;
      tokens = f.tokens ∙ ts;
      peak = let q = f.peak in omega arith;
      brackets = f.brackets ∙ b;
      used = f.used ∙ n;
    }

pub fold_left : (l : ℕ) (o : Op) (a : Tree) (fs : List Frame) (t : Tree) (x : Bool) → nat_lt l (level o + 1) ≡ x
    → Sound (left o a ∷ fs) → WellBracketed t → demand (held_of (left o a ∷ fs)) ≤ rank t → l ≤ rank t
    → (l ≤ level o → Folded l fs (binary o a t)) → Folded l (left o a ∷ fs) t
fold_left l o a fs t false e s w h k more =
    let g : level o + 1 ≤ l = grind (arith, nat_tests) in
    stay l (left o a ∷ fs) t (rw e refl) s w h k (omega arith)
fold_left l o a fs t true e s w h k more =
    let g : l ≤ level o = grind (arith, nat_tests) in
    let p : place (left o a ∷ fs) ≡ place fs + size a + 1 = simp length-append (omega arith) in
    fold l (left o a ∷ fs) fs t (binary o a t) (rw (e, p) (rw (append_assoc, append_assoc) refl))
    (simp append_assoc) (omega arith) refl (omega arith) (more g)

pub fold_sign : (l : ℕ) (g : Sign) (fs : List Frame) (t : Tree) → l ≤ 10 → Folded l fs (unary g t)
    → Folded l (sign g ∷ fs) t
fold_sign l g fs t m f =
    let p : place (sign g ∷ fs) ≡ place fs + 1 = simp length-append (omega arith) in
    fold l (sign g ∷ fs) fs t (unary g t) (rw (lt-ltb l 11 (omega arith), p) (rw append_assoc refl))
    (simp append_assoc) (omega arith) refl (omega arith) f

pub fold_cast : (l : ℕ) (z : Width) (fs : List Frame) (t : Tree) → l ≤ 10 → Folded l fs (cast z t)
    → Folded l (casting z ∷ fs) t
fold_cast l z fs t m f =
    let p : place (casting z ∷ fs) ≡ place fs + 1 + 1 + 1 = simp length-append (omega arith) in
    fold l (casting z ∷ fs) fs t (cast z t) (rw (lt-ltb l 11 (omega arith), p) (rw append_assoc refl))
    (simp append_assoc) (omega arith) refl (omega arith) f

pub fold_frames : (l : ℕ) (fs : List Frame) (t : Tree)
    → Sound fs → WellBracketed t → demand (held_of fs) ≤ rank t → l ≤ rank t → l ≤ 10 → Folded l fs t
fold_frames l [] t s w h k m = stay l [] t refl s w h k (omega arith)
fold_frames l (left o a ∷ fs) t s w h k m =
    fold_left l o a fs t (nat_lt l (level o + 1)) refl s w h k
    (λ (g : l ≤ level o). fold_frames l fs (binary o a t) s.3 (s.1, omega arith, s.2, w) s.0 g m)
fold_frames l (sign g ∷ fs) t s w h k m =
    fold_sign l g fs t m (fold_frames l fs (unary g t) s (h, w) (demand_most (held_of fs)) (omega arith) m)
fold_frames l (casting z ∷ fs) t s w h k m =
    fold_cast l z fs t m (fold_frames l fs (cast z t) s (h, w) (demand_most (held_of fs)) (omega arith) m)
fold_frames l (grouping ∷ fs) t s w h k m = stay l (grouping ∷ fs) t refl s w h k (omega arith)
fold_frames l (indexing a ∷ fs) t s w h k m = stay l (indexing a ∷ fs) t refl s w h k (omega arith)
fold_frames l (calling ∷ fs) t s w h k m = stay l (calling ∷ fs) t refl s w h k (omega arith)
