-- What is to come at a place of a tree's visits, node by node and value by value.
use Rattle.scop_syntax.proofs.Common.{◌≡◌, ℕ, zero, suc, ◌+◌, ◌≤◌, ◌<◌, Bool, true, false, ℤ, pos, List, [], ◌∷◌, ◌++◌}
use Rattle.scop_syntax.proofs.Common.{length, drop, get_or, replicate, map, ap, sym, subst, ◌∙◌, refl, arith}
use Rattle.scop_syntax.proofs.Common.{append-nil, inl, inr, drop_of_length-le, take, if◌then◌else◌, ◌+ℤ◌, ◌≤ℤ◌, ◌<ℤ◌}
use Rattle.scop_syntax.proofs.Common.{◌⊎◌, le_z, false≢true, ints, map-append, length-map, negsuc, le_or_lt, Affine}
use Rattle.scop_syntax.proofs.Common.{values_of, Instance, most_turns}
use Rattle.loop_tree.specs.steps.Going.{CanGo, CanTurn, HasGone, HasTurned, Leads, Within, restarted, rest_from}
use Rattle.std.proofs.lemmas.List.{append_assoc}
use Rattle.loop_tree.specs.SpotView.{mark_of, marks_of}
use Rattle.loop_tree.specs.declared.spot.Mark.{Mark as CodeMark}
use Rattle.loop_tree.specs.Tree.{Bounds, Test, Tree, Trees, guard, instance, loop, more, none}
use Rattle.loop_tree.specs.Walk.{all_hold, walk, walk_all, given, lower, upper}
use Rattle.loop_tree.specs.Conditions.{CanWalk}
use Rattle.loop_tree.specs.Spot.{Mark, mark, deep, deep_all, rest_in, rest_of, IsAt, IsWithin, shown_from}
use Rattle.loop_tree.specs.View.{tree_of, nodes_of}
use Rattle.loop_tree.specs.declared.tree.Node.{Node}
use Rattle.loop_tree.proofs.WalkSteps.{shown_by, shown_none, shown_turn, turns_shown, walk_first}
use Rattle.loop_tree.proofs.WalkSteps.{loop_shown, walk_guarded, walk_rest, walk_turn}

-- a tree's own part of what is to come
abbrev own : Tree → Bool → ℤ → List Mark → List ℤ → List ℤ → List Instance
own t begun x ms params outer = if begun then rest_in t x ms params outer else map given (walk t params outer)

-- what is to come is that of the node at the place, then the nodes behind it
pub rest_at : (nodes : List Node) (k : ℕ) (node : Node) (begun : Bool) (x z : ℤ) (ms : List Mark)
    (params outer : List ℤ) → node ≡ get_or nodes k node → k < length nodes
    → rest_of (nodes_of nodes) (mark k begun x z ∷ ms) params outer
    ≡ rest_of (more (tree_of node) none) (mark zero begun x z ∷ ms) params outer ++ shown_by (drop (suc k) nodes) params
    outer
rest_at [] k node begun x z ms params outer found h = absurd (omega arith)
rest_at (n ∷ ns) zero node begun x z ms params outer found h =
    ap (λ (m : Node). own (tree_of m) begun x ms params outer ++ shown_by ns params outer) (sym found)
    ∙ ap (λ (is : List Instance). is ++ shown_by ns params outer)
    (sym (append-nil (own (tree_of node) begun x ms params outer)))
rest_at (n ∷ ns) (suc k) node begun x z ms params outer found h =
    rest_at ns k node begun x z ms params outer found (omega arith)

-- where the next node was not begun, it is those behind
pub rest_next : (nodes : List Node) (k : ℕ) (x z : ℤ) (ms : List Mark) (params outer : List ℤ)
    → rest_of (nodes_of nodes) (mark k false x z ∷ ms) params outer ≡ shown_by (drop k nodes) params outer
rest_next [] zero x z ms params outer = refl
rest_next [] (suc k) x z ms params outer = refl
rest_next (n ∷ ns) zero x z ms params outer =
    sym (map-append given (walk (tree_of n) params outer) (walk_all (nodes_of ns) params outer))
rest_next (n ∷ ns) (suc k) x z ms params outer = rest_next ns k x z ms params outer

-- behind the last there is none
pub rest_end : (nodes : List Node) (k : ℕ) (begun : Bool) (x z : ℤ) (ms : List Mark) (params outer : List ℤ)
    → length nodes ≤ k → rest_of (nodes_of nodes) (mark k begun x z ∷ ms) params outer ≡ []
rest_end [] k begun x z ms params outer h = refl
rest_end (n ∷ ns) zero begun x z ms params outer h = absurd (omega arith)
rest_end (n ∷ ns) (suc k) begun x z ms params outer h = rest_end ns k begun x z ms params outer (omega arith)

-- a place stands in nodes where it stands in the node at its mark
pub at_node : (nodes : List Node) (k : ℕ) (node : Node) (begun : Bool) (x z : ℤ) (ms : List Mark)
    (params outer : List ℤ) → node ≡ get_or nodes k node → k < length nodes
    → IsAt (nodes_of nodes) (mark k begun x z ∷ ms) params outer
    → IsAt (more (tree_of node) none) (mark zero begun x z ∷ ms) params outer
at_node [] k node begun x z ms params outer found h at = absurd (omega arith)
at_node (n ∷ ns) zero node true x z ms params outer found h at =
    subst (λ (m : Node). IsWithin (tree_of m) x z ms params outer) (sym found) at
at_node (n ∷ ns) zero node false x z ms params outer found h at = tt
at_node (n ∷ ns) (suc k) node begun x z ms params outer found h at =
    at_node ns k node begun x z ms params outer found (omega arith) at

pub at_nodes : (nodes : List Node) (k : ℕ) (node : Node) (begun : Bool) (x z : ℤ) (ms : List Mark)
    (params outer : List ℤ) → node ≡ get_or nodes k node → k < length nodes
    → IsAt (more (tree_of node) none) (mark zero begun x z ∷ ms) params outer
    → IsAt (nodes_of nodes) (mark k begun x z ∷ ms) params outer
at_nodes [] k node begun x z ms params outer found h at = absurd (omega arith)
at_nodes (n ∷ ns) zero node true x z ms params outer found h at =
    subst (λ (m : Node). IsWithin (tree_of m) x z ms params outer) found at
at_nodes (n ∷ ns) zero node false x z ms params outer found h at = tt
at_nodes (n ∷ ns) (suc k) node begun x z ms params outer found h at =
    at_nodes ns k node begun x z ms params outer found (omega arith) at

-- a node that was not begun, or none, stands anywhere
pub at_next : (nodes : List Node) (k : ℕ) (x z : ℤ) (ms : List Mark) (params outer : List ℤ)
    → IsAt (nodes_of nodes) (mark k false x z ∷ ms) params outer
at_next [] zero x z ms params outer = tt
at_next [] (suc k) x z ms params outer = tt
at_next (n ∷ ns) zero x z ms params outer = tt
at_next (n ∷ ns) (suc k) x z ms params outer = at_next ns k x z ms params outer

-- a node of nodes can be walked, and is less deep
pub can_node : (nodes : List Node) (k : ℕ) (node : Node) (params outer : List ℤ) → node ≡ get_or nodes k node
    → k < length nodes → CanWalk (nodes_of nodes) params outer → CanWalk (more (tree_of node) none) params outer
can_node [] k node params outer found h can = absurd (omega arith)
can_node (n ∷ ns) zero node params outer found h can =
    subst (λ (m : Node). CanWalk (more (tree_of m) none) params outer) (sym found)
    (walk_first (tree_of n) (nodes_of ns) params outer can)
can_node (n ∷ ns) (suc k) node params outer found h can =
    can_node ns k node params outer found (omega arith) (walk_rest (tree_of n) (nodes_of ns) params outer can)

pub deep_node : (nodes : List Node) (k : ℕ) (node : Node) → node ≡ get_or nodes k node → k < length nodes
    → suc (deep (tree_of node)) ≤ deep_all (nodes_of nodes)
deep_node [] k node found h = absurd (omega arith)
deep_node (n ∷ ns) zero node found h =
    subst (λ (m : Node). suc (deep (tree_of m)) ≤ deep_all (nodes_of (n ∷ ns))) (sym found) (omega arith)
deep_node (n ∷ ns) (suc k) node found h = let r = deep_node ns k node found (omega arith) in omega arith

-- there is a sequence
pub deep_some : (ts : Trees) → 1 ≤ deep_all ts
deep_some none = omega arith
deep_some (more t ts) = omega arith

-- before all, all is to come, and each place before all stands
pub rest_fresh : (ts : Trees) (x z : ℤ) (ms : List Mark) (params outer : List ℤ)
    → rest_of ts (mark zero false x z ∷ ms) params outer ≡ map given (walk_all ts params outer)
rest_fresh none x z ms params outer = refl
rest_fresh (more t ts) x z ms params outer = sym (map-append given (walk t params outer) (walk_all ts params outer))

pub at_fresh : (ts : Trees) (x z : ℤ) (ms : List Mark) (params outer : List ℤ)
    → IsAt ts (mark zero false x z ∷ ms) params outer
at_fresh none x z ms params outer = tt
at_fresh (more t ts) x z ms params outer = tt

pub rest_restarted : (ts : Trees) (ms : List Mark) (params outer : List ℤ) → deep_all ts ≤ length ms
    → rest_of ts (restarted ms) params outer ≡ map given (walk_all ts params outer)
rest_restarted ts [] params outer h = absurd (let d = deep_some ts in omega arith)
rest_restarted ts (m ∷ ms) params outer h = rest_fresh ts (pos 0) (pos 0) ms params outer

pub at_restarted : (ts : Trees) (ms : List Mark) (params outer : List ℤ) → deep_all ts ≤ length ms
    → IsAt ts (restarted ms) params outer
at_restarted ts [] params outer h = absurd (let d = deep_some ts in omega arith)
at_restarted ts (m ∷ ms) params outer h = at_fresh ts (pos 0) (pos 0) ms params outer

-- so it is with marks where nothing was begun at any
pub rest_repeated : (ts : Trees) (n : ℕ) (m : CodeMark) (params outer : List ℤ) → 1 ≤ n
    → mark_of m ≡ mark zero false (pos 0) (pos 0)
    → rest_of ts (marks_of (replicate n m)) params outer ≡ map given (walk_all ts params outer)
rest_repeated ts zero m params outer some is = absurd (omega arith)
rest_repeated ts (suc n) m params outer some is =
    ap (λ (k : Mark). rest_of ts (k ∷ marks_of (replicate n m)) params outer) is
    ∙ rest_fresh ts (pos 0) (pos 0) (marks_of (replicate n m)) params outer

pub at_repeated : (ts : Trees) (n : ℕ) (m : CodeMark) (params outer : List ℤ) → 1 ≤ n
    → mark_of m ≡ mark zero false (pos 0) (pos 0) → IsAt ts (marks_of (replicate n m)) params outer
at_repeated ts zero m params outer some is = absurd (omega arith)
at_repeated ts (suc n) m params outer some is =
    subst (λ (k : Mark). IsAt ts (k ∷ marks_of (replicate n m)) params outer) (sym is)
    (at_fresh ts (pos 0) (pos 0) (marks_of (replicate n m)) params outer)

pub length-restarted : (ms : List Mark) → length (restarted ms) ≡ length ms
length-restarted [] = refl
length-restarted (m ∷ ms) = refl

-- before all turns from x on, they are all to come
pub turns_restarted : (body : Trees) (ms : List Mark) (x last : ℤ) (params outer : List ℤ)
    → deep_all body ≤ length ms
    → rest_from body (restarted ms) x last params outer ≡ turns_shown body params outer x last
turns_restarted body ms x last params outer room = by (le_or_lt x last)
  where
    by : ((x ≤ℤ last) ⊎ (last <ℤ x))
        → rest_from body (restarted ms) x last params outer ≡ turns_shown body params outer x last
    by (inl here) =
        let h : le_z x last ≡ true = grind (arith, ints) in
        rw (h, rest_restarted body ms params (outer ++ x ∷ []) room) (sym (shown_turn body params outer x last here))
    by (inr past) =
        let h : le_z x last ≡ false = grind (arith, ints) in
        rw h (sym (shown_none body params outer x last past))

-- a place within a loop's value can go on
pub go_turn : (body : Trees) (ms : List Mark) (x last : ℤ) (params outer : List ℤ)
    → CanTurn body ms x last params outer → x ≤ℤ last → CanGo body ms params (outer ++ x ∷ [])
go_turn body ms x last params outer can here =
    record { walk = can.walk x (omega (arith, ints)) here; room = can.room; stands = can.stands here }

-- what goes on within a loop's value goes on along its values
pub turned_within : (body : Trees) (old new : List Mark) (x last : ℤ) (is : List Instance) (params outer : List ℤ)
    → x ≤ℤ last → HasGone body old new is params (outer ++ x ∷ []) → HasTurned body x old x new last is params outer
turned_within body old new x last is params outer here gone =
    let h : le_z x last ≡ true = grind (arith, ints) in
    let behind = shown_from body params outer (x +ℤ pos 1) last in
    record {
      rest = rw (h, gone.rest) (append_assoc is (rest_of body new params (outer ++ x ∷ [])) behind);
      up = omega (arith, ints);
      stands = λ a. gone.stands;
    }

-- what stays of a loop's values where nothing is left within one
pub turns_next : (body : Trees) (ms new : List Mark) (x last : ℤ) (params outer : List ℤ) → x ≤ℤ last
    → deep_all body ≤ length new → rest_of body ms params (outer ++ x ∷ []) ≡ []
    → rest_from body ms x last params outer ≡ rest_from body (restarted new) (x +ℤ pos 1) last params outer
turns_next body ms new x last params outer here room empty =
    let h : le_z x last ≡ true = grind (arith, ints) in
    rw (h, empty) (sym (turns_restarted body new (x +ℤ pos 1) last params outer room))

-- from a place in nodes to one in the node at its mark, and back
pub go_node : (nodes : List Node) (k : ℕ) (node : Node) (begun : Bool) (x z : ℤ) (ms : List Mark)
    (params outer : List ℤ) → node ≡ get_or nodes k node → k < length nodes
    → CanGo (nodes_of nodes) (mark k begun x z ∷ ms) params outer
    → CanGo (more (tree_of node) none) (mark zero begun x z ∷ ms) params outer
go_node nodes k node begun x z ms params outer found h go =
    let d = deep_node nodes k node found h in
    let room = go.room in
    record {
      walk = can_node nodes k node params outer found h go.walk;
      room = omega (arith, d, room);
      stands = at_node nodes k node begun x z ms params outer found h go.stands;
    }

pub gone_node : (nodes : List Node) (k : ℕ) (node : Node) (begun : Bool) (x z : ℤ) (ms : List Mark) (begun' : Bool)
    (y w : ℤ) (new : List Mark) (is : List Instance) (params outer : List ℤ) → node ≡ get_or nodes k node
    → k < length nodes
    → HasGone (more (tree_of node) none) (mark zero begun x z ∷ ms) (mark zero begun' y w ∷ new) is params outer
    → HasGone (nodes_of nodes) (mark k begun x z ∷ ms) (mark k begun' y w ∷ new) is params outer
gone_node nodes k node begun x z ms begun' y w new is params outer found h gone =
    let t = more (tree_of node) none in
    let behind = shown_by (drop (suc k) nodes) params outer in
    record {
      rest = rest_at nodes k node begun x z ms params outer found h
          ∙ (ap (λ (js : List Instance). js ++ behind) gone.rest
          ∙ (append_assoc is (rest_of t (mark zero begun' y w ∷ new) params outer) behind
          ∙ ap (λ (js : List Instance). is ++ js)
          (sym (rest_at nodes k node begun' y w new params outer found h))));
      room = gone.room;
      stands = at_nodes nodes k node begun' y w new params outer found h gone.stands;
    }

pub node_done : (nodes : List Node) (k : ℕ) (node : Node) (begun : Bool) (x z : ℤ) (ms : List Mark) (y w : ℤ)
    (new : List Mark) (params outer : List ℤ) → node ≡ get_or nodes k node → k < length nodes
    → rest_of (more (tree_of node) none) (mark zero begun x z ∷ ms) params outer ≡ []
    → rest_of (nodes_of nodes) (mark k begun x z ∷ ms) params outer
    ≡ rest_of (nodes_of nodes) (mark (k + 1) false y w ∷ new) params outer
node_done nodes k node begun x z ms y w new params outer found h empty =
    let e : suc k ≡ k + 1 = omega arith in
    rest_at nodes k node begun x z ms params outer found h
    ∙ (ap (λ (js : List Instance). js ++ shown_by (drop (suc k) nodes) params outer) empty
    ∙ (ap (λ (i : ℕ). shown_by (drop i nodes) params outer) e
    ∙ sym (rest_next nodes (k + 1) y w new params outer)))

pub length-marks : (ms : List CodeMark) → length (marks_of ms) ≡ length ms
length-marks ms = length-map ms mark_of

pub turns_fewer : (z w : ℤ) → z ≡ w +ℤ pos 1 → pos 0 ≤ℤ z → most_turns w < most_turns z
turns_fewer (negsuc n) w e up = absurd (omega (arith, ints))
turns_fewer (pos n) (pos m) e up = omega (arith, ints)
turns_fewer (pos n) (negsuc m) e up = omega (arith, ints)

pub length-begun : (begun : Bool) (ms : List Mark) → length (if begun then ms else restarted ms) ≡ length ms
length-begun true ms = refl
length-begun false ms = length-restarted ms

-- a guard that lets pass: its body's marks as they are, or before all where it was not begun
pub go_guard : (tests : List Test) (body : Trees) (begun : Bool) (x z : ℤ) (ms : List Mark) (params outer : List ℤ)
    → CanGo (more (guard tests body) none) (mark zero begun x z ∷ ms) params outer
    → all_hold tests (outer ++ params) ≡ true → CanGo body (if begun then ms else restarted ms) params outer
go_guard tests body true x z ms params outer go holds =
    let room = go.room in
    record {
      walk = walk_guarded tests body params outer go.walk holds;
      room = omega (arith, room);
      stands = go.stands.1;
    }
go_guard tests body false x z ms params outer go holds =
    let room = go.room in
    let l = length-restarted ms in
    record {
      walk = walk_guarded tests body params outer go.walk holds;
      room = omega (arith, room, l);
      stands = at_restarted body ms params outer (omega (arith, room));
    }

pub rest_guard : (tests : List Test) (body : Trees) (begun : Bool) (x z : ℤ) (ms : List Mark) (params outer : List ℤ)
    → deep_all body ≤ length ms → all_hold tests (outer ++ params) ≡ true
    → rest_of (more (guard tests body) none) (mark zero begun x z ∷ ms) params outer
    ≡ rest_of body (if begun then ms else restarted ms) params outer
rest_guard tests body true x z ms params outer room holds =
    append-nil (rest_in (guard tests body) x ms params outer)
    ∙ ap (λ (b : Bool). if b then rest_of body ms params outer else []) holds
rest_guard tests body false x z ms params outer room holds =
    append-nil (map given (walk (guard tests body) params outer))
    ∙ (ap (λ (b : Bool). map given (if b then walk_all body params outer else [])) holds
    ∙ sym (rest_restarted body ms params outer room))

-- of one that does not let pass nothing is to come
pub rest_stopped : (tests : List Test) (body : Trees) (begun : Bool) (x z : ℤ) (ms : List Mark) (params outer : List ℤ)
    → all_hold tests (outer ++ params) ≡ false
    → rest_of (more (guard tests body) none) (mark zero begun x z ∷ ms) params outer ≡ []
rest_stopped tests body true x z ms params outer stops =
    ap (λ (b : Bool). (if b then rest_of body ms params outer else []) ++ []) stops
rest_stopped tests body false x z ms params outer stops =
    ap (λ (b : Bool). map given (if b then walk_all body params outer else []) ++ []) stops

pub gone_guard : (tests : List Test) (body : Trees) (begun : Bool) (x z : ℤ) (ms : List Mark) (begun' : Bool) (y w : ℤ)
    (new : List Mark) (is : List Instance) (params outer : List ℤ) → deep_all body ≤ length ms
    → all_hold tests (outer ++ params) ≡ true → begun' ≡ true
    → HasGone body (if begun then ms else restarted ms) new is params outer
    → HasGone (more (guard tests body) none) (mark zero begun x z ∷ ms) (mark zero begun' y w ∷ new) is params outer
gone_guard tests body begun x z ms begun' y w new is params outer room holds b gone =
    let l = length-begun begun ms in
    let kept = gone.room in
    subst (λ (c : Bool). HasGone (more (guard tests body) none) (mark zero begun x z ∷ ms) (mark zero c y w ∷ new) is
    params outer)
    (sym b)
    (record {
      rest = rest_guard tests body begun x z ms params outer room holds
          ∙ (gone.rest
          ∙ ap (λ (js : List Instance). is ++ js)
          (sym (rest_guard tests body true y w new params outer (omega (arith, room, l, kept)) holds)));
      room = omega (arith, l, kept);
      stands = (holds, gone.stands);
    })

-- an instance that was not begun comes, and then nothing of it
pub gone_instance : (n : ℕ) (forms : List Affine) (i : Instance) (x z y w : ℤ) (ms new : List Mark)
    (params outer : List ℤ) → i ≡ record { number = n; turns = values_of forms (outer ++ params) }
    → length new ≡ length ms
    → HasGone (more (instance n forms) none) (mark zero false x z ∷ ms) (mark zero true y w ∷ new) (i ∷ []) params outer
gone_instance n forms i x z y w ms new params outer is kept =
    record { rest = ap (λ (j : Instance). j ∷ []) (sym is); room = omega (arith, kept); stands = tt }

-- a loop that was begun is at no value before its first, and its last is known
pub begun_last : (flag : Bool) (lo up : Bounds) (body : Trees) (begun : Bool) (x z : ℤ) (ms : List Mark)
    (params outer : List ℤ) → IsAt (more (loop flag lo up body) none) (mark zero begun x z ∷ ms) params outer
    → begun ≡ true → z ≡ upper up (outer ++ params)
begun_last flag lo up body true x z ms params outer at b = at.1
begun_last flag lo up body false x z ms params outer at b = absurd (false≢true b)

starts_above : (flag : Bool) (lo up : Bounds) (body : Trees) (begun : Bool) (x z : ℤ) (ms : List Mark)
    (params outer : List ℤ) → IsAt (more (loop flag lo up body) none) (mark zero begun x z ∷ ms) params outer
    → lower lo (outer ++ params) ≤ℤ (if begun then x else lower lo (outer ++ params))
starts_above flag lo up body true x z ms params outer at = at.0
starts_above flag lo up body false x z ms params outer at = omega (arith, ints)

-- its body's marks at its value as they are, or before all at its first value where it was not begun
pub go_loop : (flag : Bool) (lo up : Bounds) (body : Trees) (begun : Bool) (x z : ℤ) (ms : List Mark)
    (params outer : List ℤ) → CanGo (more (loop flag lo up body) none) (mark zero begun x z ∷ ms) params outer
    → CanTurn body (if begun then ms else restarted ms) (if begun then x else lower lo (outer ++ params))
    (upper up (outer ++ params)) params outer
go_loop flag lo up body true x z ms params outer go =
    let room = go.room in
    let above : lower lo (outer ++ params) ≤ℤ x = go.stands.0 in
    record {
      walk = λ y from to. walk_turn flag lo up body params outer y go.walk (omega (arith, ints)) to;
      room = omega (arith, room);
      stands = λ h. go.stands.2 (subst (λ (y : ℤ). x ≤ℤ y) (sym go.stands.1) h);
    }
go_loop flag lo up body false x z ms params outer go =
    let room = go.room in
    let l = length-restarted ms in
    record {
      walk = λ y from to. walk_turn flag lo up body params outer y go.walk from to;
      room = omega (arith, room, l);
      stands = λ h. at_restarted body ms params (outer ++ lower lo (outer ++ params) ∷ []) (omega (arith, room));
    }

pub rest_loop : (flag : Bool) (lo up : Bounds) (body : Trees) (begun : Bool) (x z : ℤ) (ms : List Mark)
    (params outer : List ℤ) → deep_all body ≤ length ms
    → rest_of (more (loop flag lo up body) none) (mark zero begun x z ∷ ms) params outer
    ≡ rest_from body (if begun then ms else restarted ms) (if begun then x else lower lo (outer ++ params))
    (upper up (outer ++ params)) params outer
rest_loop flag lo up body true x z ms params outer room = append-nil (rest_in (loop flag lo up body) x ms params outer)
rest_loop flag lo up body false x z ms params outer room =
    append-nil (map given (walk (loop flag lo up body) params outer))
    ∙ (loop_shown flag lo up body params outer
    ∙ sym (turns_restarted body ms (lower lo (outer ++ params)) (upper up (outer ++ params)) params outer room))

pub gone_loop : (flag : Bool) (lo up : Bounds) (body : Trees) (begun : Bool) (x z : ℤ) (ms : List Mark) (begun' : Bool)
    (y w : ℤ) (new : List Mark) (is : List Instance) (params outer : List ℤ) → deep_all body ≤ length ms
    → length new ≡ length (if begun then ms else restarted ms) → begun' ≡ true → w ≡ upper up (outer ++ params)
    → IsAt (more (loop flag lo up body) none) (mark zero begun x z ∷ ms) params outer
    → HasTurned body (if begun then x else lower lo (outer ++ params)) (if begun then ms else restarted ms) y new
    (upper up (outer ++ params)) is params outer
    → HasGone (more (loop flag lo up body) none) (mark zero begun x z ∷ ms) (mark zero begun' y w ∷ new) is params outer
gone_loop flag lo up body begun x z ms begun' y w new is params outer room kept b last at gone =
    let l = length-begun begun ms in
    let t = more (loop flag lo up body) none in
    let start : ℤ = if begun then x else lower lo (outer ++ params) in
    let above : lower lo (outer ++ params) ≤ℤ start = starts_above flag lo up body begun x z ms params outer at in
    let further : start ≤ℤ y = gone.up in
    subst (λ (c : Bool). HasGone t (mark zero begun x z ∷ ms) (mark zero c y w ∷ new) is params outer) (sym b)
    (record {
      rest = rest_loop flag lo up body begun x z ms params outer room
          ∙ (gone.rest
          ∙ ap (λ (js : List Instance). is ++ js)
          (sym (rest_loop flag lo up body true y w new params outer (omega (arith, room, l, kept)))));
      room = omega (arith, l, kept);
      stands = (
        omega (arith, ints, above, further),
        last,
        λ h. gone.stands (subst (λ (v : ℤ). y ≤ℤ v) last h),
      );
    })

-- nothing is to come behind the last node where nothing is to come of it
pub ended_at : (nodes : List Node) (k : ℕ) (node : Node) (begun : Bool) (x z : ℤ) (ms : List Mark)
    (params outer : List ℤ) → node ≡ get_or nodes k node → k < length nodes → length nodes ≤ k + 1 → begun ≡ true
    → (IsAt (more (tree_of node) none) (mark zero true x z ∷ ms) params outer
    → rest_of (more (tree_of node) none) (mark zero true x z ∷ ms) params outer ≡ [])
    → IsAt (nodes_of nodes) (mark k begun x z ∷ ms) params outer
    → rest_of (nodes_of nodes) (mark k begun x z ∷ ms) params outer ≡ []
ended_at nodes k node false x z ms params outer found h last b each at = absurd (false≢true b)
ended_at nodes k node true x z ms params outer found h last b each at =
    let short : length nodes ≤ suc k = omega (arith, last) in
    let over : drop (suc k) nodes ≡ [] = drop_of_length-le nodes short in
    rest_at nodes k node true x z ms params outer found h
    ∙ (ap (λ (js : List Instance). js ++ shown_by (drop (suc k) nodes) params outer)
    (each (at_node nodes k node true x z ms params outer found h at))
    ∙ ap (λ (l : List Node). shown_by l params outer) over)

-- nor of a loop at its last value
pub loop_ended : (flag : Bool) (lo up : Bounds) (body : Trees) (x z : ℤ) (ms : List Mark) (params outer : List ℤ)
    → z ≤ℤ x → (IsAt body ms params (outer ++ x ∷ []) → rest_of body ms params (outer ++ x ∷ []) ≡ [])
    → IsAt (more (loop flag lo up body) none) (mark zero true x z ∷ ms) params outer
    → rest_of (more (loop flag lo up body) none) (mark zero true x z ∷ ms) params outer ≡ []
loop_ended flag lo up body x z ms params outer past each at =
    append-nil (rest_in (loop flag lo up body) x ms params outer) ∙ by (le_or_lt x last)
  where
    last : ℤ
    last = upper up (outer ++ params)

    by : ((x ≤ℤ last) ⊎ (last <ℤ x)) → rest_in (loop flag lo up body) x ms params outer ≡ []
    by (inl here) =
        let h : le_z x last ≡ true = grind (arith, ints) in
        let inside : x ≤ℤ z = subst (λ (y : ℤ). x ≤ℤ y) (sym at.1) here in
        let end : last ≤ℤ x = subst (λ (y : ℤ). y ≤ℤ x) at.1 past in
        rw (h, each (at.2 inside)) (shown_none body params outer (x +ℤ pos 1) last (omega (arith, ints, end)))
    by (inr out) =
        let h : le_z x last ≡ false = grind (arith, ints) in
        rw h refl

-- a loop that was begun and is not behind its last value
pub within_loop : (nodes : List Node) (k : ℕ) (node : Node) (begun : Bool) (x z : ℤ) (flag : Bool) (lo up : Bounds)
    (body : Trees) → node ≡ get_or nodes k node → k < length nodes → tree_of node ≡ loop flag lo up body → begun ≡ true
    → x ≤ℤ z → Within (nodes_of nodes) (mark k begun x z) x body
within_loop nodes k node false x z flag lo up body found h is b inside = absurd (false≢true b)
within_loop nodes k node true x z flag lo up body found h is b inside =
    record {
      can = λ ms params outer go.
          let there = here ms params outer go in
          go_turn body ms x (upper up (outer ++ params)) params outer (go_loop flag lo up body true x z ms params outer
          there) (within ms params outer there);
      lifts = λ ms new found params outer go gone.
          let there = here ms params outer go in
          let room = there.room in
          let last = begun_last flag lo up body true x z ms params outer there.stands refl in
          let turned = turned_within body ms new x (upper up (outer ++ params)) found params outer
          (within ms params outer there) gone in
          gone_node nodes k node true x z ms true x z new found params outer found_at h
          (subst (λ (t : Tree). HasGone (more t none) (mark zero true x z ∷ ms) (mark zero true x z ∷ new) found params
          outer) (sym is) (gone_loop flag lo up body true x z ms true x z new found params outer (omega (arith, room))
          gone.room refl last there.stands turned));
    }
  where
    found_at : node ≡ get_or nodes k node
    found_at = found

    here : (ms : List Mark) (params outer : List ℤ) → CanGo (nodes_of nodes) (mark k true x z ∷ ms) params outer
        → CanGo (more (loop flag lo up body) none) (mark zero true x z ∷ ms) params outer
    here ms params outer go =
        subst (λ (t : Tree). CanGo (more t none) (mark zero true x z ∷ ms) params outer) is
        (go_node nodes k node true x z ms params outer found_at h go)

    within : (ms : List Mark) (params outer : List ℤ)
        → CanGo (more (loop flag lo up body) none) (mark zero true x z ∷ ms) params outer
        → x ≤ℤ upper up (outer ++ params)
    within ms params outer go =
        subst (λ (y : ℤ). x ≤ℤ y) (begun_last flag lo up body true x z ms params outer go.stands refl) inside

take_more : (k : ℕ) (ms : List Mark) (m : Mark) (rest new : List Mark) → drop k ms ≡ m ∷ rest
    → take k ms ++ m ∷ new ≡ take (suc k) ms ++ new
take_more zero [] m rest new h = let l = ap (λ (ns : List Mark). length ns) h in absurd (omega (arith, l))
take_more zero (n ∷ ms) m rest new h = ap (λ (a : Mark). a ∷ new) (sym (ap (λ (ns : List Mark). get_or ns 0 m) h))
take_more (suc k) [] m rest new h = let l = ap (λ (ns : List Mark). length ns) h in absurd (omega (arith, l))
take_more (suc k) (n ∷ ms) m rest new h = ap (λ (ns : List Mark). n ∷ ns) (take_more k ms m rest new h)

pub leads_all : (ts : Trees) (ms : List Mark) (params values : List ℤ) → values ≡ [] → CanGo ts ms params []
    → Leads ts ms params ts 0 values
leads_all ts ms params values empty can =
    subst (λ (vs : List ℤ). Leads ts ms params ts 0 vs) (sym empty) (record { can = can; lifts = λ new found gone. gone })

-- one loop further in
pub leads_within : (ts us body : Trees) (ms : List Mark) (params values : List ℤ) (k : ℕ) (m : Mark) (x : ℤ)
    → drop k ms ≡ m ∷ drop (suc k) ms → Within us m x body → Leads ts ms params us k values
    → Leads ts ms params body (suc k) (values ++ x ∷ [])
leads_within ts us body ms params values k m x is within leads =
    let inner = drop (suc k) ms in
    let can : CanGo us (m ∷ inner) params values =
    subst (λ (ns : List Mark). CanGo us ns params values) is leads.can in
    record {
      can = within.can inner params values can;
      lifts = λ new found gone.
          subst (λ (ns : List Mark). HasGone ts ms ns found params []) (take_more k ms m inner new is)
          (leads.lifts (m ∷ new) found
          (subst (λ (ns : List Mark). HasGone us ns (m ∷ new) found params values) (sym is)
          (within.lifts inner new found params values can gone)));
    }

-- the marks from one on begin with it
pub marks_here : (ms : List CodeMark) (k : ℕ) (other m : CodeMark) → m ≡ get_or ms k other → k < length ms
    → drop k (marks_of ms) ≡ mark_of m ∷ drop (suc k) (marks_of ms)
marks_here [] k other m is h = absurd (omega arith)
marks_here (n ∷ ms) zero other m is h = ap (λ (a : CodeMark). mark_of a ∷ marks_of ms) (sym is)
marks_here (n ∷ ms) (suc k) other m is h = marks_here ms k other m is (omega arith)

-- the same nodes, with the values of another row that begins alike
pub leads_moved : (ts : Trees) (ms : List Mark) (params row new : List ℤ) (us vs : List Node) (k n : ℕ) → vs ≡ us
    → n ≡ k → take n new ≡ take n row → Leads ts ms params (nodes_of us) k (take k row)
    → Leads ts ms params (nodes_of vs) n (take n new)
leads_moved ts ms params row new us vs k n nodes depth alike leads =
    subst (λ (values : List ℤ). Leads ts ms params (nodes_of vs) n values) (sym alike)
    (subst (λ (j : ℕ). Leads ts ms params (nodes_of vs) j (take j row)) (sym depth)
    (subst (λ (ns : List Node). Leads ts ms params (nodes_of ns) k (take k row)) (sym nodes) leads))
