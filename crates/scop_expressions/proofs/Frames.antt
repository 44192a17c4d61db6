-- What a state stands for: trees that wait in frames, and the tree in hand. Any such state can be completed.
use Rattle.std.proofs.Common.{◌≡◌, ℕ, ◌+◌, ◌≤◌, List, [], ◌∷◌, ◌++◌, length, sym, ◌∙◌, append_assoc, append-nil, arith}
use Rattle.std.proofs.Common.{max}
use Rattle.std.specs.Prelude.{⊤}
use Rattle.scop_tokens.specs.declared.Op.{Op}
use Rattle.scop_expressions.specs.declared.token.Sign.{Sign}
use Rattle.scop_tokens.specs.declared.Token.{Token}
use Rattle.scop_tokens.specs.declared.Token.TheVariants as token
use Rattle.scop_tokens.specs.declared.Width.{Width}
use Rattle.scop_expressions.specs.declared.node.Node.{Node}
use Rattle.scop_expressions.specs.declared.node.Node.TheVariants as node
use Rattle.scop_expressions.specs.declared.node.Held.{Held}
use Rattle.scop_expressions.specs.declared.node.Held.TheVariants as held
use Rattle.scop_expressions.specs.Tree.{Tree, group, index, call, unary, cast, binary, level, cost, rank, size, depth}
use Rattle.scop_expressions.specs.Tree.{operators, written, WellBracketed, IsPlace, tokens_of, sign_token}
use Rattle.scop_expressions.specs.Grammar.{IsExpression}
use Rattle.scop_expressions.specs.Machine.{demand}
use Rattle.scop_expressions.proofs.Runs.{level_most}

-- a tree round a place that is still open
pub data Frame : Type 0 where
  left : Op → Tree → Frame
  sign : Sign → Frame
  casting : Width → Frame
  grouping : Frame
  indexing : Tree → Frame
  calling : Frame

-- the tokens of the frames, innermost first
abbrev pub front : List Frame → List Token
front [] = []
front (left o a ∷ fs) = front fs ++ (tokens_of a ++ token.Binary o ∷ [])
front (sign s ∷ fs) = front fs ++ sign_token s ∷ []
front (casting z ∷ fs) = front fs ++ token.Open ∷ token.Unsigned z ∷ token.Close ∷ []
front (grouping ∷ fs) = front fs ++ token.Open ∷ []
front (indexing a ∷ fs) = front fs ++ (tokens_of a ++ token.OpenIndex ∷ [])
front (calling ∷ fs) = front fs ++ token.Name ∷ token.Open ∷ []

abbrev pub place : List Frame → ℕ
place fs = length (front fs)

abbrev pub held_of : List Frame → List Held
held_of [] = []
held_of (left o a ∷ fs) = held.Binary o (place fs + size a) ∷ held_of fs
held_of (sign s ∷ fs) = held.Unary s (place fs) ∷ held_of fs
held_of (casting z ∷ fs) = held.Cast z (place fs) ∷ held_of fs
held_of (grouping ∷ fs) = held.Group (place fs) ∷ held_of fs
held_of (indexing a ∷ fs) = held.Index (place fs + size a) ∷ held_of fs
held_of (calling ∷ fs) = held.Call (place fs + 1) ∷ held_of fs

abbrev pub nodes_of : List Frame → List Node
nodes_of [] = []
nodes_of (left o a ∷ fs) = nodes_of fs ++ written (place fs) a
nodes_of (indexing a ∷ fs) = nodes_of fs ++ written (place fs) a
nodes_of (calling ∷ fs) = nodes_of fs ++ node.Name (place fs) ∷ []
nodes_of (_ ∷ fs) = nodes_of fs

-- the brackets that are open
abbrev pub brackets_of : List Frame → ℕ
brackets_of [] = 0
brackets_of (left o a ∷ fs) = brackets_of fs
brackets_of (sign s ∷ fs) = brackets_of fs
brackets_of (casting z ∷ fs) = brackets_of fs
brackets_of (grouping ∷ fs) = brackets_of fs + 1
brackets_of (indexing a ∷ fs) = brackets_of fs + 1
brackets_of (calling ∷ fs) = brackets_of fs + 1

-- the operators so far
abbrev pub used_of : List Frame → ℕ
used_of [] = 0
used_of (left o a ∷ fs) = used_of fs + operators a + cost o
used_of (sign s ∷ fs) = used_of fs + 1
used_of (casting z ∷ fs) = used_of fs + 1
used_of (grouping ∷ fs) = used_of fs
used_of (indexing a ∷ fs) = used_of fs + operators a
used_of (calling ∷ fs) = used_of fs

-- the most brackets that were open at once
abbrev pub peak : List Frame → ℕ
peak [] = 0
peak (left o a ∷ fs) = max (peak fs) (brackets_of fs + depth a)
peak (sign s ∷ fs) = peak fs
peak (casting z ∷ fs) = max (peak fs) (brackets_of fs + 1)
peak (grouping ∷ fs) = max (peak fs) (brackets_of fs + 1)
peak (indexing a ∷ fs) = max (peak fs) (max (brackets_of fs + depth a) (brackets_of fs + 1))
peak (calling ∷ fs) = max (peak fs) (brackets_of fs + 1)

-- each tree in a frame may stand there
abbrev pub Sound : List Frame → Type 0
Sound [] = ⊤
Sound (left o a ∷ fs) = (demand (held_of fs) ≤ level o) × (level o ≤ rank a) × WellBracketed a × Sound fs
Sound (indexing a ∷ fs) = IsPlace a × WellBracketed a × Sound fs
Sound (_ ∷ fs) = Sound fs

-- the whole tree, with t at the open place
abbrev pub plug : List Frame → Tree → Tree
plug [] t = t
plug (left o a ∷ fs) t = plug fs (binary o a t)
plug (sign s ∷ fs) t = plug fs (unary s t)
plug (casting z ∷ fs) t = plug fs (cast z t)
plug (grouping ∷ fs) t = plug fs (group t)
plug (indexing a ∷ fs) t = plug fs (index a t)
plug (calling ∷ fs) t = plug fs (call t)

-- the brackets that close the frames
abbrev pub ending : List Frame → List Token
ending [] = []
ending (grouping ∷ fs) = token.Close ∷ ending fs
ending (indexing a ∷ fs) = token.CloseIndex ∷ ending fs
ending (calling ∷ fs) = token.Close ∷ ending fs
ending (_ ∷ fs) = ending fs

pub plug_tokens : (fs : List Frame) (t : Tree) → tokens_of (plug fs t) ≡ front fs ++ (tokens_of t ++ ending fs)
plug_tokens [] t = sym (append-nil (tokens_of t))
plug_tokens (left o a ∷ fs) t = plug_tokens fs (binary o a t) ∙ simp append_assoc
plug_tokens (sign s ∷ fs) t = plug_tokens fs (unary s t) ∙ simp append_assoc
plug_tokens (casting z ∷ fs) t = plug_tokens fs (cast z t) ∙ simp append_assoc
plug_tokens (grouping ∷ fs) t = plug_tokens fs (group t) ∙ simp append_assoc
plug_tokens (indexing a ∷ fs) t = plug_tokens fs (index a t) ∙ simp append_assoc
plug_tokens (calling ∷ fs) t = plug_tokens fs (call t) ∙ simp append_assoc

-- a sign stands behind anything
pub demand_most : (hs : List Held) → demand hs ≤ 11
demand_most [] = omega arith
demand_most (held.Binary o at ∷ hs) = let m = level_most o in omega arith
demand_most _ = omega arith

pub plug_sound : (fs : List Frame) (t : Tree) → Sound fs → WellBracketed t → demand (held_of fs) ≤ rank t
    → IsExpression (plug fs t)
plug_sound [] t s w h = record { brackets = w; rank = h }
plug_sound (left o a ∷ fs) t s w h = plug_sound fs (binary o a t) s.3 (s.1, omega arith, s.2, w) s.0
plug_sound (sign g ∷ fs) t s w h = plug_sound fs (unary g t) s (h, w) (demand_most (held_of fs))
plug_sound (casting z ∷ fs) t s w h = plug_sound fs (cast z t) s (h, w) (demand_most (held_of fs))
plug_sound (grouping ∷ fs) t s w h =
    let m = demand_most (held_of fs) in
    plug_sound fs (group t) s (h, w) (omega arith)
plug_sound (indexing a ∷ fs) t s w h =
    let m = demand_most (held_of fs) in
    plug_sound fs (index a t) s.2 (s.0, h, s.1, w) (omega arith)
plug_sound (calling ∷ fs) t s w h =
    let m = demand_most (held_of fs) in
    plug_sound fs (call t) s w (omega arith)

pub plug_depth : (fs : List Frame) (t : Tree) → depth (plug fs t) ≤ max (peak fs) (brackets_of fs + depth t)
plug_depth [] t = omega arith
plug_depth (left o a ∷ fs) t = let p = plug_depth fs (binary o a t) in omega arith
plug_depth (sign s ∷ fs) t = plug_depth fs (unary s t)
plug_depth (casting z ∷ fs) t = let p = plug_depth fs (cast z t) in omega arith
plug_depth (grouping ∷ fs) t = let p = plug_depth fs (group t) in omega arith
plug_depth (indexing a ∷ fs) t = let p = plug_depth fs (index a t) in omega arith
plug_depth (calling ∷ fs) t = let p = plug_depth fs (call t) in omega arith

pub plug_operators : (fs : List Frame) (t : Tree) → operators (plug fs t) ≡ used_of fs + operators t
plug_operators [] t = omega arith
plug_operators (left o a ∷ fs) t = let p = plug_operators fs (binary o a t) in omega arith
plug_operators (sign s ∷ fs) t = let p = plug_operators fs (unary s t) in omega arith
plug_operators (casting z ∷ fs) t = let p = plug_operators fs (cast z t) in omega arith
plug_operators (grouping ∷ fs) t = let p = plug_operators fs (group t) in omega arith
plug_operators (indexing a ∷ fs) t = let p = plug_operators fs (index a t) in omega arith
plug_operators (calling ∷ fs) t = let p = plug_operators fs (call t) in omega arith
