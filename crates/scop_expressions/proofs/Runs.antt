-- One step of a run, and what reducing does to a tree that has just been read.
use Rattle.std.proofs.Common.{◌≡◌, ℕ, ◌+◌, ◌≤◌, List, [], ◌∷◌, ◌++◌, refl, ◌∙◌, append_assoc, arith}
use Rattle.std.proofs.lemmas.Bool.{lt-ltb, le-leb, le-ltb}
use Rattle.scop_tokens.specs.declared.Op.{Op}
use Rattle.scop_tokens.specs.declared.Op.TheVariants as op
use Rattle.scop_tokens.specs.declared.Token.{Token}
use Rattle.scop_expressions.specs.declared.node.Node.{Node}
use Rattle.scop_expressions.specs.declared.node.Held.{Held}
use Rattle.scop_expressions.specs.declared.node.Held.TheVariants as held
use Rattle.scop_expressions.specs.declared.node.Last.{Last}
use Rattle.scop_expressions.specs.declared.node.Last.TheVariants as last
use Rattle.scop_expressions.specs.Tree.{Tree, name, index, unary, cast, binary, level, rank, size, written}
use Rattle.scop_expressions.specs.Tree.{WellBracketed}
use Rattle.scop_expressions.specs.Machine.{State, go, step, demand, reduced, run}

-- a step that goes on within the limits
pub run_goes : (d n : ℕ) (s next : State) (t : Token) (ts : List Token) → step s t ≡ go next
    → next.brackets ≤ d → next.used ≤ n → run d n s (t ∷ ts) ≡ run d n next ts
run_goes d n s next t ts e b u = rw (e, le-leb next.brackets d b, le-leb next.used n u) refl

-- no operator binds tighter than 10
pub level_most : (o : Op) → level o ≤ 10
level_most op.Comma = omega arith
level_most _ = omega arith

-- what is held when a tree has been read and nothing is reduced
abbrev pub spine : ℕ → Tree → List Held → List Held
spine at (binary o a b) hs = spine (at + size a + 1) b (held.Binary o (at + size a) ∷ hs)
spine at (unary s t) hs = spine (at + 1) t (held.Unary s at ∷ hs)
spine at (cast w t) hs = spine (at + 1 + 1 + 1) t (held.Cast w at ∷ hs)
spine at t hs = hs

-- the nodes that are complete then
abbrev pub shown : ℕ → Tree → List Node → List Node
shown at (binary o a b) ns = shown (at + size a + 1) b (ns ++ written at a)
shown at (unary s t) ns = shown (at + 1) t ns
shown at (cast w t) ns = shown (at + 1 + 1 + 1) t ns
shown at t ns = ns ++ written at t

-- what a tree ends with
abbrev pub last_of : Tree → Last
last_of name = last.Name
last_of (index t i) = last.Subscript
last_of (unary s t) = last_of t
last_of (cast w t) = last_of t
last_of (binary o a b) = last_of b
last_of t = last.Other

-- reducing completes the tree
pub reduced_spine : (l at : ℕ) (t : Tree) (hs : List Held) (ns : List Node)
    → WellBracketed t → l ≤ rank t → l ≤ 10
    → reduced l (spine at t hs) (shown at t ns) ≡ reduced l hs (ns ++ written at t)
reduced_spine l at (unary s t) hs ns w h k =
    let r = w.0 in
    reduced_spine l (at + 1) t (held.Unary s at ∷ hs) ns w.1 (omega arith) k
    ∙ rw (lt-ltb l 11 (omega arith), append_assoc) refl
reduced_spine l at (cast z t) hs ns w h k =
    let r = w.0 in
    reduced_spine l (at + 1 + 1 + 1) t (held.Cast z at ∷ hs) ns w.1 (omega arith) k
    ∙ rw (lt-ltb l 11 (omega arith), append_assoc) refl
reduced_spine l at (binary o a b) hs ns w h k =
    let r = w.1 in
    reduced_spine l (at + size a + 1) b (held.Binary o (at + size a) ∷ hs) (ns ++ written at a) w.3 (omega arith) k
    ∙ rw (lt-ltb l (level o + 1) (omega arith)) (simp append_assoc)
reduced_spine l at t hs ns w h k = refl

-- what is held by looser operators stays
pub reduced_stays : (l : ℕ) (hs : List Held) (ns : List Node) → demand hs ≤ l → reduced l hs ns ≡ (hs, ns)
reduced_stays l [] ns h = refl
reduced_stays l (held.Binary o at ∷ hs) ns h = rw (le-ltb l (level o + 1) h) refl
reduced_stays l (held.Unary s at ∷ hs) ns h = rw (le-ltb l 11 h) refl
reduced_stays l (held.Cast w at ∷ hs) ns h = rw (le-ltb l 11 h) refl
reduced_stays l _ ns h = refl
