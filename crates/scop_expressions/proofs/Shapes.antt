-- The states that a run reaches, each as the trees that it stands for, and that a step keeps them so.
use Rattle.std.proofs.Common.{◌≡◌, ℕ, ◌+◌, ◌-◌, ◌≤◌, Bool, true, false, List, [], ◌∷◌, ◌++◌, length, refl, sym, ap}
use Rattle.std.proofs.Common.{append_assoc, length-append, arith, max, nat_le}
use Rattle.std.specs.Prelude.{⊤}
use Rattle.std.proofs.lemmas.Bool.Decides.{nat_tests}
use Rattle.scop_tokens.specs.declared.Op.{Op}
use Rattle.scop_tokens.specs.declared.Op.TheVariants as op
use Rattle.scop_expressions.specs.declared.token.Sign.{Sign}
use Rattle.scop_expressions.specs.declared.token.Sign.TheVariants as sign
use Rattle.scop_tokens.specs.declared.Token.{Token}
use Rattle.scop_tokens.specs.declared.Token.TheVariants as token
use Rattle.scop_tokens.specs.declared.Width.{Width}
use Rattle.scop_expressions.specs.declared.node.Node.{Node}
use Rattle.scop_expressions.specs.declared.node.Node.TheVariants as node
use Rattle.scop_expressions.specs.declared.node.Held.{Held}
use Rattle.scop_expressions.specs.declared.node.Held.TheVariants as held
use Rattle.scop_expressions.specs.declared.node.Last.TheVariants as last
use Rattle.scop_expressions.specs.declared.node.Mode.{Mode}
use Rattle.scop_expressions.specs.declared.node.Mode.TheVariants as mode
use Rattle.scop_expressions.specs.Tree.{Tree, constant, name, group, index, bare_call, call, unary, cast, binary}
use Rattle.scop_expressions.specs.Tree.{level, cost, rank, size, depth, operators, written, WellBracketed, tokens_of}
use Rattle.scop_expressions.specs.Tree.{sign_token}
use Rattle.scop_expressions.specs.Machine.{State, state, Move, go, stops, step, operand, casting as casting_step}
use Rattle.scop_expressions.specs.Machine.{call_opened, index_opened, after, after_pair, joined, closes, closes_index}
use Rattle.scop_expressions.specs.Machine.{demand, reduced}
use Rattle.scop_expressions.proofs.Runs.{level_most, last_of}
use Rattle.scop_expressions.proofs.Frames.{Frame, left, sign as sign_frame, casting, grouping, indexing, calling}
use Rattle.scop_expressions.proofs.Frames.{front, place, held_of, nodes_of, brackets_of, used_of, peak, Sound}
use Rattle.scop_expressions.proofs.Frames.{demand_most}
use Rattle.scop_expressions.proofs.FrameFolds.{Folded, fold_frames}

-- an operand is wanted, or a cast's word was read, or a tree is in hand, to be taken up by what follows
pub data Shape : Type 0 where
  want : List Frame → Shape
  cast_word : Width → List Frame → Shape
  done : List Frame → Tree → Shape

abbrev pub state_of : Shape → State
state_of (want fs) = state mode.Want (held_of fs) (nodes_of fs) (place fs) (brackets_of fs) (used_of fs)
state_of (cast_word z fs) =
    state (mode.Casting z) (held_of (grouping ∷ fs)) (nodes_of fs) (place fs + 2) (brackets_of fs + 1) (used_of fs + 1)
state_of (done fs t) =
    state (mode.Done (last_of t)) (held_of fs) (nodes_of fs ++ written (place fs) t) (place fs + size t)
    (brackets_of fs) (used_of fs + operators t)

-- the tokens that led there
abbrev pub read_of : Shape → List Token
read_of (want fs) = front fs
read_of (cast_word z fs) = front fs ++ token.Open ∷ token.Unsigned z ∷ []
read_of (done fs t) = front fs ++ tokens_of t

abbrev pub IsSound : Shape → Type 0
IsSound (want fs) = Sound fs
IsSound (cast_word z fs) = Sound fs
IsSound (done fs t) = Sound fs × WellBracketed t × (12 ≤ rank t)

-- the most brackets that were open at once
abbrev pub most : Shape → ℕ
most (want fs) = peak fs
most (cast_word z fs) = max (peak fs) (brackets_of fs + 1)
most (done fs t) = max (peak fs) (brackets_of fs + depth t)

-- the state stands for trees whose tokens are those
pub record Stands (s : State) (ts : List Token) (d : ℕ) : Type 0 where
  pub shape : Shape
  pub is : s ≡ state_of shape
  pub tokens : ts ≡ read_of shape
  pub sound : IsSound shape
  pub peak : most shape ≤ d

-- what a step from a state makes of the tokens so far
abbrev pub Keeps : List Token → Token → ℕ → Move → Type 0
Keeps ts t d (go next) = Stands next (ts ++ t ∷ []) (max d next.brackets)
Keeps ts t d stops = ⊤

-- a shape of a state, part by part
pub stands : (x : Shape) (m : Mode) (hs : List Held) (ns : List Node) (at b u : ℕ) (ts : List Token) (d : ℕ)
    → m ≡ (state_of x).mode → hs ≡ (state_of x).held → ns ≡ (state_of x).nodes → at ≡ (state_of x).at
    → b ≡ (state_of x).brackets → u ≡ (state_of x).used
    → ts ≡ read_of x → IsSound x → most x ≤ d → Stands (state m hs ns at b u) ts d
stands x m hs ns at b u ts d e f g h i j k l p =
    record { shape = x; is = rw (e, f, g, h, i, j) refl; tokens = k; sound = l; peak = p }

pub keeps_sign : (fs : List Frame) (g : Sign) → Sound fs
    → Stands (state mode.Want (held.Unary g (place fs) ∷ held_of fs) (nodes_of fs) (place fs + 1) (brackets_of fs)
    (used_of fs + 1)) (front fs ++ sign_token g ∷ []) (max (peak fs) (brackets_of fs))
keeps_sign fs g s =
    stands (want (sign_frame g ∷ fs)) mode.Want (held_of (sign_frame g ∷ fs)) (nodes_of fs) (place fs + 1)
    (brackets_of fs) (used_of fs + 1) (front fs ++ sign_token g ∷ []) (max (peak fs) (brackets_of fs))
    refl refl refl (simp length-append) refl refl refl s (omega arith)

-- a token where an operand is wanted
pub keeps_operand : (fs : List Frame) (t : Token) → Sound fs
    → Keeps (front fs) t (peak fs) (operand (state_of (want fs)) t)
keeps_operand fs (token.Constant c) s =
    stands (done fs (constant c)) _ _ _ _ _ _ _ _ refl refl refl refl refl (omega arith) refl (s, tt, omega arith)
    (omega arith)
keeps_operand fs token.Name s =
    stands (done fs name) _ _ _ _ _ _ _ _ refl refl refl refl refl (omega arith) refl (s, tt, omega arith)
    (omega arith)
keeps_operand fs token.Open s =
    stands (want (grouping ∷ fs)) _ _ _ _ _ _ _ _ refl refl refl (simp length-append) refl refl refl s (omega arith)
keeps_operand fs (token.Binary op.Minus) s = keeps_sign fs sign.Minus s
keeps_operand fs token.Complement s = keeps_sign fs sign.Complement s
keeps_operand fs token.Not s = keeps_sign fs sign.Not s
keeps_operand (grouping ∷ fs) (token.Unsigned z) s =
    stands (cast_word z fs) _ _ _ _ _ _ _ _ refl refl refl (simp length-append (omega arith)) refl refl
    (simp append_assoc) s (omega arith)
keeps_operand (calling ∷ fs) token.Close s =
    stands (done fs bare_call) _ _ _ _ _ _ _ _ refl refl (simp append_assoc) (simp length-append (omega arith))
    (omega arith) (omega arith) (simp append_assoc) (s, tt, omega arith) (omega arith)
keeps_operand fs t s = tt

-- a tree in hand, with the numbers that belong to it, however the state spells them
pub record Hand (gs : List Frame) (t : Tree) (ts : List Token) (at b u d : ℕ) : Type 0 where
  pub sound : Sound gs
  pub bracketed : WellBracketed t
  pub stands : demand (held_of gs) ≤ rank t
  pub tokens : ts ≡ front gs ++ tokens_of t
  pub next : at ≡ place gs + size t
  pub brackets : b ≡ brackets_of gs
  pub used : u ≡ used_of gs + operators t
  pub peak : max (peak gs) (brackets_of gs + depth t) ≤ d

-- reducing leaves a tree in hand
pub hand : (l : ℕ) (fs : List Frame) (t : Tree) (f : Folded l fs t)
    → Hand f.frames f.tree (front fs ++ tokens_of t) (place fs + size t) (brackets_of fs) (used_of fs + operators t)
    (max (peak fs) (brackets_of fs + depth t))
hand l fs t f =
    let n = ap length f.tokens in
    record {
      sound = f.sound;
      bracketed = f.bracketed;
      stands = f.stands;
      tokens = sym f.tokens;
      next =
          omega (arith, length-append (front f.frames) (tokens_of f.tree), length-append (front fs) (tokens_of t));
      brackets = sym f.brackets;
      used = sym f.used;
      peak = f.peak;
    }

pub keeps_joined : (s : State) (ts : List Token) (d : ℕ) (o : Op) (gs : List Frame) (t : Tree)
    → Hand gs t ts s.at s.brackets s.used d → level o ≤ rank t
    → (x : Bool) → nat_le (demand (held_of gs)) (level o) ≡ x
    → Keeps ts (token.Binary o) d (joined s o (held_of gs, nodes_of gs ++ written (place gs) t))
keeps_joined s ts d o gs t h r false e = rw e tt
keeps_joined s ts d o gs t h r true e =
    let le : demand (held_of gs) ≤ level o = grind (arith, nat_tests) in
    let p = h.peak in
    let a = h.next in
    let at' : s.at + 1 ≡ place (left o t ∷ gs) = simp length-append (omega arith) in
    rw e (stands (want (left o t ∷ gs)) mode.Want (held.Binary o s.at ∷ held_of gs)
    (nodes_of gs ++ written (place gs) t) (s.at + 1) s.brackets (s.used + cost o) (ts ++ token.Binary o ∷ [])
    (max d s.brackets) refl (ap (λ (k : ℕ). held.Binary o k ∷ held_of gs) a) refl at' h.brackets
    (ap (λ (k : ℕ). k + cost o) h.used) (rw h.tokens (simp append_assoc)) (le, r, h.bracketed, h.sound) (omega arith))

pub keeps_closes : (s : State) (ts : List Token) (d : ℕ) (gs : List Frame) (t : Tree)
    → Hand gs t ts s.at s.brackets s.used d
    → Keeps ts token.Close d (closes s (held_of gs) (nodes_of gs ++ written (place gs) t))
keeps_closes s ts d (grouping ∷ gs) t h =
    let p = h.peak in
    let a = h.next in
    let c = h.brackets in
    let g : place (grouping ∷ gs) ≡ place gs + 1 = simp length-append refl in
    let at' : s.at + 1 ≡ place gs + size (group t) = simp length-append (omega arith) in
    stands (done gs (group t)) (mode.Done last.Other) (held_of gs)
    (nodes_of gs ++ written (place (grouping ∷ gs)) t) (s.at + 1) (s.brackets - 1) s.used (ts ++ token.Close ∷ [])
    (max d (s.brackets - 1)) refl refl (rw g refl) at' (omega arith) h.used (rw h.tokens (simp append_assoc))
    (h.sound, (h.stands, h.bracketed), omega arith) (omega arith)
keeps_closes s ts d (calling ∷ gs) t h =
    let p = h.peak in
    let a = h.next in
    let c = h.brackets in
    let g : place (calling ∷ gs) ≡ place gs + 1 + 1 = simp length-append (omega arith) in
    let at' : s.at + 1 ≡ place gs + size (call t) = simp length-append (omega arith) in
    stands (done gs (call t)) (mode.Done last.Other) (held_of gs)
    ((nodes_of (calling ∷ gs) ++ written (place (calling ∷ gs)) t) ++ node.Call (place gs + 1) ∷ []) (s.at + 1)
    (s.brackets - 1) s.used (ts ++ token.Close ∷ []) (max d (s.brackets - 1)) refl refl (rw g (simp append_assoc))
    at' (omega arith) h.used (rw h.tokens (simp append_assoc)) (h.sound, h.bracketed, omega arith) (omega arith)
keeps_closes s ts d _ t h = tt

pub keeps_closes_index : (s : State) (ts : List Token) (d : ℕ) (gs : List Frame) (t : Tree)
    → Hand gs t ts s.at s.brackets s.used d
    → Keeps ts token.CloseIndex d (closes_index s (held_of gs) (nodes_of gs ++ written (place gs) t))
keeps_closes_index s ts d (indexing i ∷ gs) t h =
    let p = h.peak in
    let a = h.next in
    let c = h.brackets in
    let k = h.used in
    let g : place (indexing i ∷ gs) ≡ place gs + size i + 1 = simp length-append (omega arith) in
    let at' : s.at + 1 ≡ place gs + size (index i t) = simp length-append (omega arith) in
    stands (done gs (index i t)) (mode.Done last.Subscript) (held_of gs)
    ((nodes_of (indexing i ∷ gs) ++ written (place (indexing i ∷ gs)) t) ++ node.Index (place gs + size i) ∷ [])
    (s.at + 1) (s.brackets - 1) s.used (ts ++ token.CloseIndex ∷ []) (max d (s.brackets - 1)) refl refl
    (rw g (simp append_assoc)) at' (omega arith) (omega arith) (rw h.tokens (simp append_assoc))
    (h.sound.2, (h.sound.0, h.stands, h.sound.1, h.bracketed), omega arith) (omega arith)
keeps_closes_index s ts d _ t h = tt

-- a token behind an operand
pub after_binary : (fs : List Frame) (t : Tree) (o : Op) → Folded (level o) fs t
    → Keeps (read_of (done fs t)) (token.Binary o) (most (done fs t))
    (joined (state_of (done fs t)) o (reduced (level o) (held_of fs) (nodes_of fs ++ written (place fs) t)))
after_binary fs t o f =
    rw f.is (keeps_joined (state_of (done fs t)) (read_of (done fs t)) (most (done fs t)) o f.frames f.tree
    (hand (level o) fs t f) f.level (nat_le (demand (held_of f.frames)) (level o)) refl)

pub after_close : (fs : List Frame) (t : Tree) → Folded 0 fs t
    → Keeps (read_of (done fs t)) token.Close (most (done fs t))
    (after_pair (state_of (done fs t)) token.Close (reduced 0 (held_of fs) (nodes_of fs ++ written (place fs) t)))
after_close fs t f =
    rw f.is (keeps_closes (state_of (done fs t)) (read_of (done fs t)) (most (done fs t)) f.frames f.tree
    (hand 0 fs t f))

pub after_close_index : (fs : List Frame) (t : Tree) → Folded 0 fs t
    → Keeps (read_of (done fs t)) token.CloseIndex (most (done fs t))
    (after_pair (state_of (done fs t)) token.CloseIndex (reduced 0 (held_of fs) (nodes_of fs ++ written (place fs) t)))
after_close_index fs t f =
    rw f.is (keeps_closes_index (state_of (done fs t)) (read_of (done fs t)) (most (done fs t)) f.frames f.tree
    (hand 0 fs t f))

-- a parenthesis or a subscript opens behind a tree
pub keeps_call : (fs : List Frame) (t : Tree) → Sound fs → 12 ≤ rank t
    → Keeps (read_of (done fs t)) token.Open (most (done fs t)) (call_opened (state_of (done fs t)) (last_of t))
keeps_call fs name s r =
    stands (want (calling ∷ fs)) _ _ _ _ _ _ _ _ refl refl refl (simp length-append (omega arith)) refl (omega arith)
    (simp append_assoc) s (omega arith)
keeps_call fs (unary g t) s r = absurd (omega arith)
keeps_call fs (cast z t) s r = absurd (omega arith)
keeps_call fs (binary o a b) s r = let m = level_most o in absurd (omega arith)
keeps_call fs _ s r = tt

pub keeps_index : (fs : List Frame) (t : Tree) → Sound fs → WellBracketed t → 12 ≤ rank t
    → Keeps (read_of (done fs t)) token.OpenIndex (most (done fs t)) (index_opened (state_of (done fs t)) (last_of t))
keeps_index fs name s w r =
    stands (want (indexing name ∷ fs)) _ _ _ _ _ _ _ _ refl refl refl (simp length-append (omega arith)) refl refl
    (simp append_assoc) (tt, tt, s) (omega arith)
keeps_index fs (index a i) s w r =
    stands (want (indexing (index a i) ∷ fs)) _ _ _ _ _ _ _ _ refl refl refl (simp length-append (omega arith)) refl
    refl (simp append_assoc) (tt, w, s) (omega arith)
keeps_index fs (unary g t) s w r = absurd (omega arith)
keeps_index fs (cast z t) s w r = absurd (omega arith)
keeps_index fs (binary o a b) s w r = let m = level_most o in absurd (omega arith)
keeps_index fs _ s w r = tt

pub keeps_after : (fs : List Frame) (t : Tree) (tok : Token) → Sound fs → WellBracketed t → 12 ≤ rank t
    → Keeps (read_of (done fs t)) tok (most (done fs t)) (after (state_of (done fs t)) (last_of t) tok)
keeps_after fs t token.Open s w r = keeps_call fs t s r
keeps_after fs t token.OpenIndex s w r = keeps_index fs t s w r
keeps_after fs t (token.Binary o) s w r =
    let b = level_most o in
    let q = demand_most (held_of fs) in
    after_binary fs t o (fold_frames (level o) fs t s w (omega arith) (omega arith) b)
keeps_after fs t token.Close s w r =
    let q = demand_most (held_of fs) in
    after_close fs t (fold_frames 0 fs t s w (omega arith) (omega arith) (omega arith))
keeps_after fs t token.CloseIndex s w r =
    let q = demand_most (held_of fs) in
    after_close_index fs t (fold_frames 0 fs t s w (omega arith) (omega arith) (omega arith))
keeps_after fs t _ s w r = tt

pub keeps_casting : (z : Width) (fs : List Frame) (t : Token) → Sound fs
    → Keeps (read_of (cast_word z fs)) t (most (cast_word z fs)) (casting_step (state_of (cast_word z fs)) z t)
keeps_casting z fs token.Close s =
    stands (want (casting z ∷ fs)) _ _ _ _ _ _ _ _ refl refl refl (simp length-append (omega arith)) (omega arith) refl
    (simp append_assoc) s (omega arith)
keeps_casting z fs _ s = tt

-- what a step makes of each shape
pub keeps_shape : (x : Shape) (t : Token) → IsSound x → Keeps (read_of x) t (most x) (step (state_of x) t)
keeps_shape (want fs) t s = keeps_operand fs t s
keeps_shape (cast_word z fs) t s = keeps_casting z fs t s
keeps_shape (done fs t) tok s = keeps_after fs t tok s.0 s.1 s.2

-- a higher bound
pub keeps_more : (ts : List Token) (t : Token) (d e : ℕ) (move : Move) → d ≤ e → Keeps ts t d move
    → Keeps ts t e move
keeps_more ts t d e (go next) h k =
    let p = k.peak in
    record { shape = k.shape; is = k.is; tokens = k.tokens; sound = k.sound; peak = omega arith }
keeps_more ts t d e stops h k = tt

-- a step keeps a state that stands for trees
pub keeps : (s : State) (ts : List Token) (d : ℕ) (t : Token) → Stands s ts d → Keeps ts t d (step s t)
keeps s ts d t k =
    rw (k.is, k.tokens)
    (keeps_more (read_of k.shape) t (most k.shape) d (step (state_of k.shape) t) k.peak
    (keeps_shape k.shape t k.sound))
