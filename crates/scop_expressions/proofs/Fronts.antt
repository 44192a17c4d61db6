-- What the run says of the grammar: states that stand for trees are fronts, and trees are accepted.
use Rattle.std.proofs.Common.{◌≡◌, ℕ, ◌+◌, ◌≤◌, List, [], ◌∷◌, ◌++◌, refl, sym, ap, ◌∙◌, append_assoc, append-nil}
use Rattle.std.proofs.Common.{arith, max, Some}
use Rattle.std.proofs.lemmas.Option.{same_Some}
use Rattle.scop_tokens.specs.declared.Suffix.TheVariants as suffix
use Rattle.scop_tokens.specs.declared.Token.{Token}
use Rattle.scop_tokens.specs.declared.Token.TheVariants as token
use Rattle.scop_expressions.specs.declared.node.Node.{Node}
use Rattle.scop_expressions.specs.declared.node.Mode.TheVariants as mode
use Rattle.scop_expressions.specs.Tree.{Tree, constant, rank, size, depth, operators, written, WellBracketed}
use Rattle.scop_expressions.specs.Tree.{tokens_of}
use Rattle.scop_expressions.specs.Grammar.{IsExpression, IsWithin, Spells, IsFront}
use Rattle.scop_expressions.specs.Machine.{State, state, start, stops, step, demand, reduced, run, alive, whole}
use Rattle.scop_expressions.specs.Machine.{complete}
use Rattle.scop_expressions.proofs.Runs.{spine, shown, last_of, reduced_spine}
use Rattle.scop_expressions.proofs.Drives.{drives}
use Rattle.scop_expressions.proofs.Frames.{Frame, left, sign, casting, grouping, indexing, calling, front, place}
use Rattle.scop_expressions.proofs.Frames.{held_of, nodes_of, brackets_of, used_of, peak, Sound, plug, ending}
use Rattle.scop_expressions.proofs.Frames.{plug_tokens, plug_sound, plug_depth, plug_operators, demand_most}
use Rattle.scop_expressions.proofs.FrameFolds.{Folded, fold_frames}
use Rattle.scop_expressions.proofs.Shapes.{Shape, want, cast_word, done, state_of, read_of, IsSound, most, Stands}

pub brackets_peak : (fs : List Frame) → brackets_of fs ≤ peak fs
brackets_peak [] = omega arith
brackets_peak (left o a ∷ fs) = let h = brackets_peak fs in omega arith
brackets_peak (sign s ∷ fs) = brackets_peak fs
brackets_peak (casting z ∷ fs) = let h = brackets_peak fs in omega arith
brackets_peak (grouping ∷ fs) = let h = brackets_peak fs in omega arith
brackets_peak (indexing a ∷ fs) = let h = brackets_peak fs in omega arith
brackets_peak (calling ∷ fs) = let h = brackets_peak fs in omega arith

pub brackets_most : (x : Shape) → (state_of x).brackets ≤ most x
brackets_most (want fs) = brackets_peak fs
brackets_most (cast_word z fs) = let b = brackets_peak fs in omega arith
brackets_most (done fs t) = let b = brackets_peak fs in omega arith

-- a tree put at the open place makes a text
pub completed : (d n : ℕ) (fs : List Frame) (t : Tree) (ts more : List Token)
    → Sound fs → WellBracketed t → 11 ≤ rank t
    → max (peak fs) (brackets_of fs + depth t) ≤ d → used_of fs + operators t ≤ n
    → ts ++ more ≡ front fs ++ (tokens_of t ++ ending fs) → IsFront d n ts
completed d n fs t ts more s w r p u e =
    let q = demand_most (held_of fs) in
    let h = plug_depth fs t in
    let k = plug_operators fs t in (
      more,
      plug fs t,
      record {
        expression = plug_sound fs t s w (omega arith);
        within = record { depth = omega arith; operators = omega arith };
        tokens = e ∙ sym (plug_tokens fs t);
      },
    )

abbrev pub one : Tree
one = constant suffix.Present

pub front_shape : (d n : ℕ) (x : Shape) → IsSound x → most x ≤ d → (state_of x).used ≤ n → IsFront d n (read_of x)
front_shape d n (want fs) s p u =
    let b = brackets_peak fs in
    completed d n fs one (front fs) (tokens_of one ++ ending fs) s tt (omega arith) (omega arith) (omega arith) refl
front_shape d n (cast_word z fs) s p u =
    let b = brackets_peak fs in
    completed d n (casting z ∷ fs) one (read_of (cast_word z fs)) (token.Close ∷ (tokens_of one ++ ending fs)) s tt
    (omega arith) (omega arith) (omega arith) (simp append_assoc)
front_shape d n (done fs t) s p u =
    let r = s.2 in
    completed d n fs t (front fs ++ tokens_of t) (ending fs) s.0 s.1 (omega arith) p u (simp append_assoc)

-- as many brackets are open as once were at most
pub stands_brackets : (s : State) (ts : List Token) (d : ℕ) → Stands s ts d → s.brackets ≤ d
stands_brackets s ts d k =
    let p = k.peak in
    let b = brackets_most k.shape in
    rw k.is (omega arith)

-- tokens that lead to a state are a front
pub is_front : (d n : ℕ) (s : State) (ts : List Token) → Stands s ts d → s.used ≤ n → IsFront d n ts
is_front d n s ts k u = rw k.tokens (front_shape d n k.shape k.sound k.peak (rw k.is at u))

-- what is spelled within limits is so within wider ones
pub within_wider : (d n e m : ℕ) (t : Tree) → d ≤ e → n ≤ m → IsWithin d n t → IsWithin e m t
within_wider d n e m t h k w =
    let b = w.depth in
    let u = w.operators in
    record { depth = omega arith; operators = omega arith }

pub spells_wider : (d n e m : ℕ) (ts : List Token) (t : Tree) → d ≤ e → n ≤ m → Spells d n ts t → Spells e m ts t
spells_wider d n e m ts t h k s =
    record { expression = s.expression; within = within_wider d n e m t h k s.within; tokens = s.tokens }

-- the state behind a tree
abbrev pub final : Tree → State
final t = state (mode.Done (last_of t)) (spine 0 t []) (shown 0 t []) (0 + size t) 0 (0 + operators t)

pub accepted : (d n : ℕ) (ts : List Token) (t : Tree) → Spells d n ts t → run d n start ts ≡ alive (final t)
accepted d n ts t s =
    let r = s.expression.rank in
    let b = s.within.depth in
    let u = s.within.operators in
    ap (λ (xs : List Token). run d n start xs) (s.tokens ∙ sym (append-nil (tokens_of t)))
    ∙ drives d n t [] [] 0 0 0 [] s.expression.brackets r (omega arith) (omega arith)

-- nothing is held behind an expression
pub final_reduced : (t : Tree) → IsExpression t → reduced 0 (spine 0 t []) (shown 0 t []) ≡ ([], written 0 t)
final_reduced t x = let r = x.rank in reduced_spine 0 0 t [] [] x.brackets (omega arith) (omega arith)

pub final_complete : (t : Tree) → IsExpression t → complete (final t) ≡ Some (written 0 t)
final_complete t x = ap whole (final_reduced t x)

-- an expression that is complete in a state
pub record Whole (ts : List Token) (nodes : List Node) (d n u : ℕ) : Type 0 where
  pub tree : Tree
  pub spells : Spells d n ts tree
  pub written : nodes ≡ written 0 tree
  pub used : u ≡ operators tree

pub whole_frames : (d n u : ℕ) (gs : List Frame) (t : Tree) (ts : List Token) (nodes : List Node)
    → WellBracketed t → demand (held_of gs) ≤ rank t → front gs ++ tokens_of t ≡ ts
    → max (peak gs) (brackets_of gs + depth t) ≤ d → u ≡ used_of gs + operators t → u ≤ n
    → whole (held_of gs, nodes_of gs ++ written (place gs) t) ≡ Some nodes → Whole ts nodes d n u
whole_frames d n u [] t ts nodes w r e p o m h =
    record {
      tree = t;
      spells =
          record {
            expression = record { brackets = w; rank = r };
            within = record { depth = omega arith; operators = omega arith };
            tokens = sym e;
          };
      written = sym (same_Some (written 0 t) nodes h);
      used = omega arith;
    }
whole_frames d n u (left q a ∷ gs) t ts nodes w r e p o m h = absurd (cc)
whole_frames d n u (_ ∷ gs) t ts nodes w r e p o m h = absurd (cc)

pub whole_folded : (d n : ℕ) (fs : List Frame) (t : Tree) (nodes : List Node) (f : Folded 0 fs t)
    → max (peak fs) (brackets_of fs + depth t) ≤ d → used_of fs + operators t ≤ n
    → whole (reduced 0 (held_of fs) (nodes_of fs ++ written (place fs) t)) ≡ Some nodes
    → Whole (front fs ++ tokens_of t) nodes d n (used_of fs + operators t)
whole_folded d n fs t nodes f p u h =
    let q = f.peak in
    whole_frames d n (used_of fs + operators t) f.frames f.tree (front fs ++ tokens_of t) nodes f.bracketed f.stands
    f.tokens (omega arith) (sym f.used) u (sym (ap whole f.is) ∙ h)

pub whole_shape : (d n : ℕ) (x : Shape) (nodes : List Node) → IsSound x → most x ≤ d → (state_of x).used ≤ n
    → complete (state_of x) ≡ Some nodes → Whole (read_of x) nodes d n (state_of x).used
whole_shape d n (want fs) nodes s p u h = absurd (cc)
whole_shape d n (cast_word z fs) nodes s p u h = absurd (cc)
whole_shape d n (done fs t) nodes s p u h =
    let r = s.2 in
    let q = demand_most (held_of fs) in
    whole_folded d n fs t nodes (fold_frames 0 fs t s.0 s.1 (omega arith) (omega arith) (omega arith)) p u h

pub is_whole : (d n : ℕ) (s : State) (ts : List Token) (nodes : List Node) → Stands s ts d → s.used ≤ n
    → complete s ≡ Some nodes → Whole ts nodes d n s.used
is_whole d n s ts nodes k u h =
    let w = whole_shape d n k.shape nodes k.sound k.peak (rw k.is at u) (rw k.is at h) in
    record {
      tree = w.tree;
      spells =
          record {
            expression = w.spells.expression;
            within = w.spells.within;
            tokens = k.tokens ∙ w.spells.tokens;
          };
      written = w.written;
      used = ap (λ (x : State). x.used) k.is ∙ w.used;
    }

-- an expression does not go on with a token that closes what stands round it, nor with one of no expression
pub closes_behind : (t : Tree) → IsExpression t → step (final t) token.Close ≡ stops
closes_behind t x = rw (final_reduced t x) refl

pub index_closes_behind : (t : Tree) → IsExpression t → step (final t) token.CloseIndex ≡ stops
index_closes_behind t x = rw (final_reduced t x) refl
