-- Marks that are put back but for their last values: what is to come is the same, and they stand once the loops that
-- were begun say theirs.
use Rattle.scop_syntax.proofs.Common.{◌≡◌, ◌∙◌, ℕ, zero, suc, ◌<◌, ◌≤◌, Bool, true, false, ℤ, List, [], ◌∷◌, ◌++◌}
use Rattle.scop_syntax.proofs.Common.{length, map, get_or, ap, sym, subst, refl, arith, if◌then◌else◌, ◌+ℤ◌, ◌≤ℤ◌, pos}
use Rattle.scop_syntax.proofs.Common.{le_z, false≢true, Instance}
use Rattle.loop_tree.specs.Bookmarks.{CanStand, without_last}
use Rattle.loop_tree.specs.Spot.{IsAt, IsWithin, Mark, mark, rest_in, rest_of, shown_from}
use Rattle.loop_tree.specs.steps.Putting.{HasPut}
use Rattle.loop_tree.specs.Conditions.{CanWalk}
use Rattle.loop_tree.specs.Tree.{Bounds, Test, Tree, Trees, guard, instance, loop, more, none}
use Rattle.loop_tree.specs.View.{nodes_of, tree_of}
use Rattle.loop_tree.specs.Walk.{all_hold, given, lower, upper, walk_all}
use Rattle.loop_tree.specs.declared.tree.Node.{Node}
use Rattle.loop_tree.proofs.VisitPlaces.{at_next, at_nodes, can_node}
use Rattle.loop_tree.proofs.VisitRests.{within_at}
use Rattle.loop_tree.proofs.WalkSteps.{walk_guarded, walk_turn}

-- what is to come asks for no last value
mutual
  rest_in_kept : (t : Tree) (x : ℤ) (ms : List Mark) (params outer : List ℤ)
      → rest_in t x (map without_last ms) params outer ≡ rest_in t x ms params outer
  rest_in_kept (loop flag lo up body) x ms params outer =
      ap (λ (is : List Instance). if le_z x (upper up (outer ++ params))
      then is ++ shown_from body params outer (x +ℤ pos 1) (upper up (outer ++ params)) else [])
      (rest_kept body ms params (outer ++ x ∷ []))
  rest_in_kept (guard tests body) x ms params outer =
      ap (λ (is : List Instance). if all_hold tests (outer ++ params) then is else []) (rest_kept body ms params outer)
  rest_in_kept (instance n forms) x ms params outer = refl

  rest_kept : (ts : Trees) (ms : List Mark) (params outer : List ℤ)
      → rest_of ts (map without_last ms) params outer ≡ rest_of ts ms params outer
  rest_kept ts [] params outer = refl
  rest_kept none (m ∷ ms) params outer = refl
  rest_kept (more t ts) (mark zero true x z ∷ ms) params outer =
      ap (λ (is : List Instance). is ++ map given (walk_all ts params outer)) (rest_in_kept t x ms params outer)
  rest_kept (more t ts) (mark zero false x z ∷ ms) params outer = refl
  rest_kept (more t ts) (mark (suc k) begun x z ∷ ms) params outer = rest_kept ts (mark k begun x z ∷ ms) params outer

pub rest_without_last : (ts : Trees) (ms ns : List Mark) (params outer : List ℤ)
    → map without_last ms ≡ map without_last ns → rest_of ts ms params outer ≡ rest_of ts ns params outer
rest_without_last ts ms ns params outer e =
    sym (rest_kept ts ms params outer)
    ∙ (ap (λ (ks : List Mark). rest_of ts ks params outer) e ∙ rest_kept ts ns params outer)

-- a first mark and others that stand
stood_by : (ts : Trees) (ks : List Mark) (k : ℕ) (begun : Bool) (x z : ℤ) (ms : List Mark) (params outer : List ℤ)
    → map without_last ks ≡ map without_last (mark k begun x z ∷ ms) → IsAt ts ks params outer
    → (w : ℤ) × (ns : List Mark) × (map without_last ns ≡ map without_last ms)
    × IsAt ts (mark k begun x w ∷ ns) params outer
stood_by ts [] k begun x z ms params outer e at = absurd cc
stood_by ts (mark j b y w ∷ ns) k begun x z ms params outer e at =
    let p : j ≡ k = cc in
    let q : b ≡ begun = cc in
    let r : y ≡ x = cc in
    let s : map without_last ns ≡ map without_last ms = cc in (
      w,
      ns,
      s,
      subst (λ (i : ℕ). IsAt ts (mark i begun x w ∷ ns) params outer) p
          (subst (λ (a : Bool). IsAt ts (mark j a x w ∷ ns) params outer) q
          (subst (λ (v : ℤ). IsAt ts (mark j b v w ∷ ns) params outer) r at)),
    )

-- the node that was begun at a mark
within_stood : (nodes : List Node) (k : ℕ) (node : Node) (begun : Bool) (x z : ℤ) (ms : List Mark)
    (params outer : List ℤ) → node ≡ get_or nodes k node → k < length nodes → begun ≡ true
    → CanStand (nodes_of nodes) (mark k begun x z ∷ ms) params outer
    → (w : ℤ) × (ns : List Mark) × (map without_last ns ≡ map without_last ms)
    × IsWithin (tree_of node) x w ns params outer
within_stood nodes k node begun x z ms params outer found h b can =
    let s = stood_by (nodes_of nodes) can.marks k begun x z ms params outer can.alike can.stands in
    (s.0, s.1, s.2, within_at nodes k node begun x s.0 s.1 params outer found h b s.3)

-- it is put right where its body is
pub has_put : (nodes : List Node) (k : ℕ) (node : Node) (begun : Bool) (x z w : ℤ) (ms new : List Mark)
    (params outer : List ℤ) → node ≡ get_or nodes k node → k < length nodes → begun ≡ true
    → map without_last new ≡ map without_last ms → IsWithin (tree_of node) x w new params outer
    → HasPut (nodes_of nodes) (mark k begun x z ∷ ms) (mark k begun x w ∷ new) params outer
has_put nodes k node false x z w ms new params outer found h b alike within = absurd (false≢true b)
has_put nodes k node true x z w ms new params outer found h b alike within = record {
  alike = ap (λ (ks : List Mark). mark k true x (pos 0) ∷ ks) alike;
  stands = at_nodes nodes k node true x w new params outer found h within;
}

-- the body of a loop that was begun can be put right, and so is the loop then
pub can_put_loop : (nodes : List Node) (k : ℕ) (node : Node) (begun : Bool) (x z : ℤ) (ms : List Mark)
    (params outer : List ℤ) (flag : Bool) (lo up : Bounds) (body : Trees) → node ≡ get_or nodes k node
    → k < length nodes → begun ≡ true → tree_of node ≡ loop flag lo up body → CanWalk (nodes_of nodes) params outer
    → CanStand (nodes_of nodes) (mark k begun x z ∷ ms) params outer
    → (lower lo (outer ++ params) ≤ℤ x)
    × (x ≤ℤ upper up (outer ++ params)
    → CanWalk body params (outer ++ x ∷ []) × CanStand body ms params (outer ++ x ∷ []))
can_put_loop nodes k node begun x z ms params outer flag lo up body found h b is can stands =
    let s = within_stood nodes k node begun x z ms params outer found h b stands in
    let within : IsWithin (loop flag lo up body) x s.0 s.1 params outer =
    subst (λ (t : Tree). IsWithin t x s.0 s.1 params outer) is s.3 in
    let walk = subst (λ (t : Tree). CanWalk (more t none) params outer) is
    (can_node nodes k node params outer found h can) in (
      within.0,
      λ here. (
        walk_turn flag lo up body params outer x walk within.0 here,
        record { marks = s.1; alike = s.2; stands = within.2 (subst (λ (y : ℤ). x ≤ℤ y) (sym within.1) here) },
      ),
    )

pub has_put_loop : (nodes : List Node) (k : ℕ) (node : Node) (begun : Bool) (x z w : ℤ) (ms new : List Mark)
    (params outer : List ℤ) (flag : Bool) (lo up : Bounds) (body : Trees) → node ≡ get_or nodes k node
    → k < length nodes → begun ≡ true → tree_of node ≡ loop flag lo up body → w ≡ upper up (outer ++ params)
    → lower lo (outer ++ params) ≤ℤ x → map without_last new ≡ map without_last ms
    → (x ≤ℤ w → IsAt body new params (outer ++ x ∷ []))
    → HasPut (nodes_of nodes) (mark k begun x z ∷ ms) (mark k begun x w ∷ new) params outer
has_put_loop nodes k node begun x z w ms new params outer flag lo up body found h b is last above alike at =
    has_put nodes k node begun x z w ms new params outer found h b alike
    (subst (λ (t : Tree). IsWithin t x w new params outer) (sym is) (above, last, at))

-- so of a guard
pub can_put_guard : (nodes : List Node) (k : ℕ) (node : Node) (begun : Bool) (x z : ℤ) (ms : List Mark)
    (params outer : List ℤ) (tests : List Test) (body : Trees) → node ≡ get_or nodes k node → k < length nodes
    → begun ≡ true → tree_of node ≡ guard tests body → CanWalk (nodes_of nodes) params outer
    → CanStand (nodes_of nodes) (mark k begun x z ∷ ms) params outer
    → (all_hold tests (outer ++ params) ≡ true) × CanWalk body params outer × CanStand body ms params outer
can_put_guard nodes k node begun x z ms params outer tests body found h b is can stands =
    let s = within_stood nodes k node begun x z ms params outer found h b stands in
    let within : IsWithin (guard tests body) x s.0 s.1 params outer =
    subst (λ (t : Tree). IsWithin t x s.0 s.1 params outer) is s.3 in
    let walk = subst (λ (t : Tree). CanWalk (more t none) params outer) is
    (can_node nodes k node params outer found h can) in (
      within.0,
      walk_guarded tests body params outer walk within.0,
      record { marks = s.1; alike = s.2; stands = within.1 },
    )

pub has_put_guard : (nodes : List Node) (k : ℕ) (node : Node) (begun : Bool) (x z : ℤ) (ms new : List Mark)
    (params outer : List ℤ) (tests : List Test) (body : Trees) → node ≡ get_or nodes k node → k < length nodes
    → begun ≡ true → tree_of node ≡ guard tests body → all_hold tests (outer ++ params) ≡ true
    → HasPut body ms new params outer
    → HasPut (nodes_of nodes) (mark k begun x z ∷ ms) (mark k begun x z ∷ new) params outer
has_put_guard nodes k node begun x z ms new params outer tests body found h b is holds put =
    has_put nodes k node begun x z z ms new params outer found h b put.alike
    (subst (λ (t : Tree). IsWithin t x z new params outer) (sym is) (holds, put.stands))

-- where none was begun, and behind the last
pub at_unbegun : (nodes : List Node) (k : ℕ) (begun : Bool) (x z : ℤ) (ms : List Mark) (params outer : List ℤ)
    → begun ≡ false → IsAt (nodes_of nodes) (mark k begun x z ∷ ms) params outer
at_unbegun nodes k false x z ms params outer b = at_next nodes k x z ms params outer
at_unbegun nodes k true x z ms params outer b = absurd (false≢true (sym b))

pub at_end : (nodes : List Node) (k : ℕ) (begun : Bool) (x z : ℤ) (ms : List Mark) (params outer : List ℤ)
    → length nodes ≤ k → IsAt (nodes_of nodes) (mark k begun x z ∷ ms) params outer
at_end [] k begun x z ms params outer h = tt
at_end (n ∷ ns) zero begun x z ms params outer h = absurd (omega (arith, h))
at_end (n ∷ ns) (suc k) begun x z ms params outer h = at_end ns k begun x z ms params outer (omega (arith, h))
