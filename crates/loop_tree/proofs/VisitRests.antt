-- What is still to come behind marks, as it is shown: nodes from a place on, the node that was begun, a loop's values.
use Rattle.scop_syntax.proofs.Common.{◌≡◌, ◌∙◌, ℕ, zero, suc, ◌+◌, ◌<◌, Bool, true, false, ℤ, pos, List, [], ◌∷◌, ◌++◌}
use Rattle.scop_syntax.proofs.Common.{length, drop, get_or, ap, arith, append-nil, refl, subst, sym, ◌+ℤ◌, ◌≤ℤ◌, le_z}
use Rattle.scop_syntax.proofs.Common.{false≢true, ints, Instance}
use Rattle.std.proofs.lemmas.List.{append_assoc}
use Rattle.loop_tree.specs.steps.Going.{rest_from}
use Rattle.loop_tree.specs.Conditions.{CanWalk}
use Rattle.loop_tree.specs.Spot.{IsAt, IsWithin, Mark, mark, rest_in, rest_of}
use Rattle.loop_tree.specs.Tree.{Bounds, Trees, loop, more, none}
use Rattle.loop_tree.specs.View.{nodes_of, tree_of}
use Rattle.loop_tree.specs.declared.tree.Node.{Node}
use Rattle.loop_tree.proofs.VisitPlaces.{at_node, rest_at, rest_next}
use Rattle.loop_tree.proofs.WalkSteps.{shown_by, shown_none, turns_shown, walk_rest, walk_turn}

-- what was shown of two parts, one behind the other
pub shown_then : (S : List Instance → Type 0) (l first rest whole : List Instance) → whole ≡ first ++ rest
    → S ((l ++ first) ++ rest) → S (l ++ whole)
shown_then S l first rest whole is s =
    subst S (append_assoc l first rest ∙ ap (λ (xs : List Instance). l ++ xs) (sym is)) s

-- and of nothing
pub shown_nothing : (S : List Instance → Type 0) (l whole : List Instance) → whole ≡ [] → S l → S (l ++ whole)
shown_nothing S l whole is s = subst S (sym (append-nil l) ∙ ap (λ (xs : List Instance). l ++ xs) (sym is)) s

-- the nodes from a place on can be walked
pub can_behind : (nodes : List Node) (k : ℕ) (params outer : List ℤ) → CanWalk (nodes_of nodes) params outer
    → CanWalk (nodes_of (drop k nodes)) params outer
can_behind [] zero params outer can = can
can_behind [] (suc k) params outer can = can
can_behind (n ∷ ns) zero params outer can = can
can_behind (n ∷ ns) (suc k) params outer can =
    can_behind ns k params outer (walk_rest (tree_of n) (nodes_of ns) params outer can)

-- where the node at the mark was not begun, all from it on is to come
pub rest_fresh_at : (nodes : List Node) (k : ℕ) (begun : Bool) (x z : ℤ) (ms : List Mark) (params outer : List ℤ)
    → begun ≡ false
    → rest_of (nodes_of nodes) (mark k begun x z ∷ ms) params outer ≡ shown_by (drop k nodes) params outer
rest_fresh_at nodes k false x z ms params outer b = rest_next nodes k x z ms params outer
rest_fresh_at nodes k true x z ms params outer b = absurd (false≢true (sym b))

-- where it was, what is left of it, and all behind it
pub rest_begun_at : (nodes : List Node) (k : ℕ) (node : Node) (begun : Bool) (x z : ℤ) (ms : List Mark)
    (params outer : List ℤ) → node ≡ get_or nodes k node → k < length nodes → begun ≡ true
    → rest_of (nodes_of nodes) (mark k begun x z ∷ ms) params outer
    ≡ rest_in (tree_of node) x ms params outer ++ shown_by (drop (k + 1) nodes) params outer
rest_begun_at nodes k node false x z ms params outer found h b = absurd (false≢true b)
rest_begun_at nodes k node true x z ms params outer found h b =
    let e : suc k ≡ k + 1 = omega arith in
    rest_at nodes k node true x z ms params outer found h
    ∙ (ap (λ (i : ℕ). rest_of (more (tree_of node) none) (mark zero true x z ∷ ms) params outer
    ++ shown_by (drop i nodes) params outer) e
    ∙ ap (λ (is : List Instance). is ++ shown_by (drop (k + 1) nodes) params outer)
    (append-nil (rest_in (tree_of node) x ms params outer)))

pub within_at : (nodes : List Node) (k : ℕ) (node : Node) (begun : Bool) (x z : ℤ) (ms : List Mark)
    (params outer : List ℤ) → node ≡ get_or nodes k node → k < length nodes → begun ≡ true
    → IsAt (nodes_of nodes) (mark k begun x z ∷ ms) params outer → IsWithin (tree_of node) x z ms params outer
within_at nodes k node false x z ms params outer found h b at = absurd (false≢true b)
within_at nodes k node true x z ms params outer found h b at =
    at_node nodes k node true x z ms params outer found h at

-- the values of a loop that was begun can be walked
pub can_turns : (flag : Bool) (lo up : Bounds) (body : Trees) (x z : ℤ) (ms : List Mark) (params outer : List ℤ)
    → CanWalk (more (loop flag lo up body) none) params outer → IsWithin (loop flag lo up body) x z ms params outer
    → (y : ℤ) → x ≤ℤ y → y ≤ℤ z → CanWalk body params (outer ++ y ∷ [])
can_turns flag lo up body x z ms params outer can within y from to =
    let above = within.0 in
    walk_turn flag lo up body params outer y can (omega (arith, ints, above, from))
    (subst (λ (w : ℤ). y ≤ℤ w) within.1 to)

-- what is to come of them: that of the value, then that of the values behind it
pub rest_turns : (body : Trees) (ms : List Mark) (x last v n w : ℤ) (params outer : List ℤ) → v ≡ x
    → n ≡ x +ℤ pos 1 → w ≡ last → x ≤ℤ last
    → rest_from body ms x last params outer
    ≡ rest_of body ms params (outer ++ v ∷ []) ++ turns_shown body params outer n w
rest_turns body ms x last v n w params outer at next end here =
    let h : le_z x last ≡ true = grind (arith, ints) in
    rw (at, next, end, h) refl

-- at the last value that is all
pub rest_turn_last : (body : Trees) (ms : List Mark) (x last v : ℤ) (params outer : List ℤ) → v ≡ x → x ≤ℤ last
    → last ≤ℤ x → rest_of body ms params (outer ++ v ∷ []) ≡ rest_from body ms x last params outer
rest_turn_last body ms x last v params outer at here end =
    let over = shown_none body params outer (x +ℤ pos 1) last (omega (arith, ints, end)) in
    sym (rest_turns body ms x last v (x +ℤ pos 1) last params outer at refl refl here
    ∙ (ap (λ (is : List Instance). rest_of body ms params (outer ++ v ∷ []) ++ is) over
    ∙ append-nil (rest_of body ms params (outer ++ v ∷ []))))
