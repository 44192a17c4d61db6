-- Nodes of the code one by one, and what the code asks of their parts.
use Rattle.tree_simplification.proofs.Common.{◌≡◌, ℕ, zero, suc, ◌+◌, ◌-◌, ◌^◌, ◌<◌, ◌≤◌, Bool, true, false, List, []}
use Rattle.tree_simplification.proofs.Common.{◌∷◌, ◌++◌, length, map, drop, get_or, ap, subst, sym, ◌∙◌, arith}
use Rattle.tree_simplification.proofs.Common.{length-append, All, length-map, All-nil, All-push, Affine, composed}
use Rattle.tree_simplification.proofs.Common.{widened, variables, form_in, AreBounds, FlatAll, BoundsAreOver}
use Rattle.tree_simplification.proofs.Common.{BoundsAreUpTo, IsOver, IsUpTo, NestAllTo, TestIsUpTo, TreesAreOver}
use Rattle.tree_simplification.proofs.Common.{TreesAreUpTo, Bounds, Tree, loop, guard, instance, Trees, none, more}
use Rattle.tree_simplification.proofs.Common.{nodes_of, test_of, tree_of, node_here, AreTestsFor, CanInline, Extends}
use Rattle.tree_simplification.proofs.Common.{Inlines, IsOnce, IsPlace, bounds_over, inside, joined, AreEnds}
use Rattle.tree_simplification.proofs.Common.{AreTestsAt, CanBound, CanGoAt, InlinesAt, blocks, turn_form}
use Rattle.iteration_domains.proofs.Surroundings.{length-variables}
use Rattle.loop_tree.specs.Tree.{Test}
use Rattle.loop_tree.specs.declared.tree.Node.{Node}
use Rattle.loop_tree.specs.declared.tree.Test.{Test as CodeTest}
use Rattle.tree_simplification.proofs.ComposedForms.{place_sized}
use Rattle.tree_simplification.specs.steps.Strided.{ExtendsAt}
use Rattle.tree_simplification.proofs.InlinedNodes.{gone_guard, guard_tests, guarded_at, kept_guard, kept_loop}
use Rattle.tree_simplification.proofs.InlinedNodes.{leaf_stays, nests_guard, nothing_stays, once_loop, plain_at}
use Rattle.tree_simplification.proofs.InlinedNodes.{then_others}
use Rattle.tree_simplification.proofs.InnerForms.{block_sized}
use Rattle.tree_simplification.proofs.Strides.{Unrolls, length_turn, strided, unrolls_more}
use Rattle.tree_simplification.proofs.JoinedTrees.{joined_assoc, joined_none, nodes_joined}

-- how many forms a place has
pub place_length : (m k : ℕ) (loops forms : List Affine) → IsPlace m k loops forms → length forms ≡ length loops + m
place_length m k loops forms place =
    let a = ap (λ (fs : List Affine). length fs) place.are in
    let l = length-append loops (variables (k + m) k m) in
    let v = length-variables (k + m) k m in
    omega (arith, a, l, v)

-- the nodes before i gave way to trees behind those that there were
abbrev pub HaveGone : ℕ → ℕ → List Affine → List Node → ℕ → Trees → Trees → Type 0
HaveGone m k loops nodes i before now =
    (ts : Trees) × (now ≡ joined before ts)
    × ((us : Trees) → Inlines m k loops (nodes_of (drop i nodes)) us
    → Inlines m k loops (nodes_of nodes) (joined ts us))

pub none_gone : (m k : ℕ) (loops : List Affine) (nodes : List Node) (before : Trees)
    → HaveGone m k loops nodes 0 before before
none_gone m k loops nodes before = (none, sym (joined_none before), (λ us h. h))

pub one_gone : (m k : ℕ) (loops : List Affine) (nodes : List Node) (i : ℕ) (node : Node) (before now after : Trees)
    → node ≡ get_or nodes i node → i < length nodes → HaveGone m k loops nodes i before now
    → Extends m k loops (more (tree_of node) none) now after → HaveGone m k loops nodes (i + 1) before after
one_gone m k loops nodes i node before now after found inside gone one =
    let ts = gone.0 in
    let vs = one.0 in
    let rest = nodes_of (drop (i + 1) nodes) in (
      joined ts vs,
      one.1 ∙ (ap (λ (us : Trees). joined us vs) gone.1 ∙ joined_assoc before ts vs),
      (λ us h.
          subst (λ (os : Trees). Inlines m k loops (nodes_of nodes) os) (sym (joined_assoc ts vs us))
          (gone.2 (joined vs us)
          (subst (λ (os : Trees). Inlines m k loops os (joined vs us)) (sym (node_here nodes i node found inside))
          (then_others m k loops (tree_of node) rest vs us one.2 h)))),
    )

pub all_gone : (m k : ℕ) (loops : List Affine) (nodes : List Node) (i : ℕ) (before now : Trees)
    → drop i nodes ≡ [] → HaveGone m k loops nodes i before now → Extends m k loops (nodes_of nodes) before now
all_gone m k loops nodes i before now ended gone =
    let ts = gone.0 in
    let last = subst (λ (ns : List Node). Inlines m k loops (nodes_of ns) none) (sym ended)
    (nothing_stays m k loops) in (
      joined ts none,
      gone.1 ∙ ap (λ (us : Trees). joined before us) (sym (joined_none ts)),
      gone.2 none last,
    )

-- a node that is appended, of which something is known
pub with_tree : (P : Trees → Type 0) (before after : List Node) (node : Node) (t : Tree) → after ≡ before ++ node ∷ []
    → tree_of node ≡ t → P (more t none)
    → (new : Trees) × (nodes_of after ≡ joined (nodes_of before) new) × P new
with_tree P before after node t pushed is known = (
  more t none,
  ap (λ (ns : List Node). nodes_of ns) pushed
      ∙ (nodes_joined before (node ∷ []) ∙ ap (λ (u : Tree). joined (nodes_of before) (more u none)) is),
  known,
)

-- a node that is appended
pub with_node : (m k : ℕ) (loops : List Affine) (old : Trees) (before after : List Node) (node : Node) (t : Tree)
    → after ≡ before ++ node ∷ [] → tree_of node ≡ t → Inlines m k loops old (more t none)
    → Extends m k loops old (nodes_of before) (nodes_of after)
with_node m k loops old before after node t pushed is within =
    with_tree (Inlines m k loops old) before after node t pushed is within

-- nodes that stand alone
pub alone_gone : (m k : ℕ) (loops : List Affine) (old : Trees) (before after : List Node) → before ≡ []
    → Extends m k loops old (nodes_of before) (nodes_of after) → Inlines m k loops old (nodes_of after)
alone_gone m k loops old before after empty gone =
    let is : nodes_of after ≡ gone.0 = gone.1 ∙ ap (λ (ns : List Node). joined (nodes_of ns) gone.0) empty in
    subst (λ (us : Trees). Inlines m k loops old us) (sym is) gone.2

-- the same at a place that is named in another way
pub at_place : (P : ℕ → ℕ → List Affine → Type 0) (m k i j : ℕ) (loops forms : List Affine) → i ≡ m → j ≡ k
    → forms ≡ loops → P i j forms → P m k loops
at_place P m k i j loops forms a b e h =
    subst (λ (x : ℕ). P x k loops) a (subst (λ (x : ℕ). P i x loops) b (subst (λ (fs : List Affine). P i j fs) e h))

-- what is asked of nodes is asked of each
can_first : (m k : ℕ) (loops forms : List Affine) (t : Tree) (ts : Trees) → CanInline m k loops forms (more t ts)
    → CanInline m k loops forms (more t none)
can_first m k loops forms t ts can =
    record {
      place = can.place;
      few = can.few;
      deep = (can.deep.0, can.deep.1, (can.deep.2.0, tt));
      flat = (can.flat.0, tt);
      over = (can.over.0, tt);
      small = (can.small.0, tt);
    }

can_rest : (m k : ℕ) (loops forms : List Affine) (t : Tree) (ts : Trees) → CanInline m k loops forms (more t ts)
    → CanInline m k loops forms ts
can_rest m k loops forms t ts can =
    record {
      place = can.place;
      few = can.few;
      deep = (can.deep.0, can.deep.1, can.deep.2.1);
      flat = can.flat.1;
      over = can.over.1;
      small = can.small.1;
    }

pub can_node : (m k : ℕ) (loops forms : List Affine) (nodes : List Node) (i : ℕ) (node : Node)
    → node ≡ get_or nodes i node → i < length nodes → CanInline m k loops forms (nodes_of nodes)
    → CanInline m k loops forms (more (tree_of node) none)
can_node m k loops forms [] i node found inside can = absurd (omega arith)
can_node m k loops forms (n ∷ nodes) zero node found inside can =
    subst (λ (x : Node). CanInline m k loops forms (more (tree_of x) none)) (sym found)
    (can_first m k loops forms (tree_of n) (nodes_of nodes) can)
can_node m k loops forms (n ∷ nodes) (suc i) node found inside can =
    can_node m k loops forms nodes i node found (omega arith)
    (can_rest m k loops forms (tree_of n) (nodes_of nodes) can)

-- what is asked of a guard's parts
pub record GuardCan (m k : ℕ) (loops forms : List Affine) (tests : List Test) (body : Trees) : Type 0 where
  pub count : All (λ test. IsOver (length forms) (form_in test)) tests
  pub numbers : All (TestIsUpTo (2 ^ 40)) tests
  pub sized : All (IsOver (k + m)) forms
  pub within : CanInline m k loops forms body

pub guard_can : (m k : ℕ) (loops forms : List Affine) (tests : List Test) (body : Trees)
    → CanInline m k loops forms (more (guard tests body) none) → GuardCan m k loops forms tests body
guard_can m k loops forms tests body can =
    let l = place_length m k loops forms can.place in
    record {
      count = subst (λ i. All (λ test. IsOver i (form_in test)) tests) (sym l) can.over.0.0;
      numbers = can.small.0.0;
      sized = place_sized m k loops forms can.place;
      within =
          record {
            place = can.place;
            few = can.few;
            deep = (can.deep.0, can.deep.1, nests_guard can.deep.0 tests body can.deep.2.0);
            flat = (guard_tests tests body can.flat.0).1;
            over = can.over.0.1;
            small = can.small.0.1;
          };
    }

-- of a leaf's
pub leaf_can : (m k : ℕ) (loops forms : List Affine) (number : ℕ) (turns : List Affine)
    → CanInline m k loops forms (more (instance number turns) none) → All (IsOver (length forms)) turns
leaf_can m k loops forms number turns can =
    subst (λ i. All (IsOver i) turns) (sym (place_length m k loops forms can.place)) can.over.0

-- of a loop's
pub record LoopCan (m k : ℕ) (loops forms : List Affine) (lo up : Bounds) (body : Trees) : Type 0 where
  pub low : BoundsAreOver (length forms) lo
  pub high : BoundsAreOver (length forms) up
  pub low_numbers : BoundsAreUpTo (2 ^ 40) lo
  pub high_numbers : BoundsAreUpTo (2 ^ 40) up
  pub flat_low : AreBounds lo
  pub flat_high : AreBounds up
  pub sized : All (IsOver (k + m)) forms
  pub few : k + 1 + m ≤ 2 ^ 34
  pub stays : (f : Affine) (others : List Affine) → IsOver (k + 1 + m) f
      → others ≡ (map (widened k) loops ++ f ∷ []) ++ variables (k + 1 + m) (k + 1) m
      → CanInline m (k + 1) (map (widened k) loops ++ f ∷ []) others body
  pub goes : (f : Affine) (others : List Affine) → IsOver (k + m) f
      → others ≡ (loops ++ f ∷ []) ++ variables (k + m) k m → CanInline m k (loops ++ f ∷ []) others body

-- at most so many loops stand within a loop
below : (k n : ℕ) (flag : Bool) (lo up : Bounds) (body : Trees) → k + n ≤ 2 ^ 32
    → NestAllTo n (more (loop flag lo up body) none)
    → (d : ℕ) × (k + 1 + d ≤ 2 ^ 32) × NestAllTo d body
below k zero flag lo up body few nests = absurd nests.0
below k (suc n) flag lo up body few nests = (n, omega (arith, few), nests.0)

length_inside : (k : ℕ) (loops : List Affine) (f : Affine)
    → length (map (widened k) loops ++ f ∷ []) ≡ suc (length loops)
length_inside k loops f =
    let l = length-append (map (widened k) loops) (f ∷ []) in
    let n = length-map loops (widened k) in
    omega (arith, l, n)

-- forms of loops with one more
with_sized : (m k : ℕ) (loops : List Affine) (f : Affine) → All (IsOver (k + m)) loops → IsOver (k + 1 + m) f
    → All (IsOver (k + 1 + m)) (map (widened k) loops ++ f ∷ [])
with_sized m k loops f sized own =
    All-push (IsOver (k + 1 + m)) (map (widened k) loops) f (block_sized m k loops sized) own

-- the place within a loop over blocks
block_place : (m k : ℕ) (loops others : List Affine) → All (IsOver (k + m)) loops
    → others ≡ map (widened k) loops ++ variables (k + 1 + m) (k + 1) m
    → IsPlace m (k + 1) (map (widened k) loops) others
block_place m k loops others sized are = record { are = are; sized = block_sized m k loops sized }

pub loop_can : (m k : ℕ) (loops forms : List Affine) (flag : Bool) (lo up : Bounds) (body : Trees)
    → CanInline m k loops forms (more (loop flag lo up body) none) → LoopCan m k loops forms lo up body
loop_can m k loops forms flag lo up body can =
    let l = place_length m k loops forms can.place in
    let few = can.few in
    let deep = below k can.deep.0 flag lo up body can.deep.1 can.deep.2 in
    let room = deep.1 in
    record {
      low = subst (λ i. BoundsAreOver i lo) (sym l) can.over.0.0;
      high = subst (λ i. BoundsAreOver i up) (sym l) can.over.0.1;
      low_numbers = can.small.0.0;
      high_numbers = can.small.0.1;
      flat_low = can.flat.0.0;
      flat_high = can.flat.0.1;
      sized = place_sized m k loops forms can.place;
      few = omega (arith, few, room);
      stays = λ f others own are.
          let e : suc (length loops + m) ≡ length (map (widened k) loops ++ f ∷ []) + m =
          let i = length_inside k loops f in omega (arith, i) in
          record {
            place = record { are = are; sized = with_sized m k loops f can.place.sized own };
            few = can.few;
            deep = deep;
            flat = can.flat.0.2;
            over = subst (λ i. TreesAreOver i body) e can.over.0.2;
            small = can.small.0.2;
          };
      goes = λ f others own are.
          let e : suc (length loops + m) ≡ length (loops ++ f ∷ []) + m =
          let i = length-append loops (f ∷ []) in omega (arith, i) in
          record {
            place = record { are = are; sized = All-push (IsOver (k + m)) loops f can.place.sized own };
            few = can.few;
            deep = (deep.0, omega (arith, room), deep.2);
            flat = can.flat.0.2;
            over = subst (λ i. TreesAreOver i body) e can.over.0.2;
            small = can.small.0.2;
          };
    }

-- a guard that goes
pub guard_goes : (m k : ℕ) (loops forms : List Affine) (tests : List Test) (body before after : Trees)
    → (found : List CodeTest) → IsPlace m k loops forms → AreTestsFor (k + m) forms tests (map test_of found)
    → length found ≡ 0 → Extends m k loops body before after
    → Extends m k loops (more (guard tests body) none) before after
guard_goes m k loops forms tests body before after [] place are empty gone =
    (gone.0, gone.1, gone_guard m k loops forms tests body gone.0 place are gone.2)
guard_goes m k loops forms tests body before after (test ∷ found) place are empty gone = absurd (omega arith)

-- a guard that stays
pub guard_stays : (m k : ℕ) (loops forms : List Affine) (tests : List Test) (body new : Trees) (found : List CodeTest)
    → IsPlace m k loops forms → AreTestsFor (k + m) forms tests (map test_of found) → 0 < length found
    → Inlines m k loops body new
    → Inlines m k loops (more (guard tests body) none) (more (guard (map test_of found) new) none)
guard_stays m k loops forms tests body new [] place are some within = absurd (omega arith)
guard_stays m k loops forms tests body new (test ∷ found) place are some within =
    kept_guard m k loops forms tests (test_of test) (map test_of found) body new place are within

-- a loop's body at its value, where it runs at most once
pub once_can : (m k : ℕ) (loops forms : List Affine) (flag : Bool) (lo up : Bounds) (f : Affine) (tests : List Test)
    → (body : Trees) → CanInline m k loops forms (more (loop flag lo up body) none)
    → IsOnce (k + m) f (bounds_over true (k + m) forms lo) (bounds_over false (k + m) forms up) tests
    → CanGoAt m k loops forms lo up f tests body
once_can m k loops forms flag lo up f tests body can once =
    let here = loop_can m k loops forms flag lo up body can in
    let few = here.few in
    record {
      place = can.place;
      few = omega (arith, few);
      over = once.over;
      flat_low = can.flat.0.0;
      flat_high = can.flat.0.1;
      between = once.between;
      within = λ others are. here.goes f others once.over are;
    }

-- a loop's bounds, with a loop more round them
pub bounds_can : (m k : ℕ) (loops forms others : List Affine) (flag : Bool) (lo up : Bounds) (body : Trees)
    → CanInline m k loops forms (more (loop flag lo up body) none)
    → others ≡ map (widened k) loops ++ variables (k + 1 + m) (k + 1) m → CanBound (k + 1 + m) others lo up
bounds_can m k loops forms others flag lo up body can are =
    let l = length-map loops (widened k) in
    let place = block_place m k loops others can.place.sized are in
    let n = place_length m (k + 1) (map (widened k) loops) others place in
    let e : length loops + m ≡ length others = omega (arith, l, n) in
    record {
      low = subst (λ i. BoundsAreOver i lo) e can.over.0.0;
      high = subst (λ i. BoundsAreOver i up) e can.over.0.1;
      low_numbers = can.small.0.0;
      high_numbers = can.small.0.1;
      sized = place_sized m (k + 1) (map (widened k) loops) others place;
    }

-- and without
pub plain_bounds : (m k : ℕ) (loops forms : List Affine) (flag : Bool) (lo up : Bounds) (body : Trees)
    → CanInline m k loops forms (more (loop flag lo up body) none) → CanBound (k + m) forms lo up
plain_bounds m k loops forms flag lo up body can =
    let here = loop_can m k loops forms flag lo up body can in
    record {
      low = here.low;
      high = here.high;
      low_numbers = here.low_numbers;
      high_numbers = here.high_numbers;
      sized = here.sized;
    }

-- a loop's body at a value of a block
pub turn_can : (m k i j : ℕ) (loops inner forms others : List Affine) (flag : Bool) (lo up : Bounds) (by at : ℕ)
    → (f : Affine) (tests : List Test) (body : Trees) → CanInline m k loops forms (more (loop flag lo up body) none)
    → i ≡ m → j ≡ k + 1 → inner ≡ map (widened k) loops → others ≡ inner ++ variables (k + 1 + m) (k + 1) m
    → f ≡ turn_form (j + i) (j - 1) by at → AreTestsAt (j + i) others lo up f tests
    → CanGoAt i j inner others lo up f tests body
turn_can m k i j loops inner forms others flag lo up by at f tests body can a b e are is between =
    let here = loop_can m k loops forms flag lo up body can in
    let few = here.few in
    let P : ℕ → ℕ → List Affine → Type 0 = λ x y fs. others ≡ fs ++ variables (k + 1 + m) (k + 1) m
    → f ≡ turn_form (y + x) (y - 1) by at → AreTestsAt (y + x) others lo up f tests
    → CanGoAt x y fs others lo up f tests body in
    at_place P i j m (k + 1) inner (map (widened k) loops) (sym a) (sym b) (sym e)
    (λ same form tested.
    let over : IsOver (k + 1 + m) f =
    subst (IsOver (k + 1 + m)) (sym form) (length_turn (k + 1 + m) (k + 1 - 1) by at) in
    record {
      place = block_place m k loops others can.place.sized same;
      few = few;
      over = over;
      flat_low = can.flat.0.0;
      flat_high = can.flat.0.1;
      between = tested;
      within = λ all is_all. here.stays f all over is_all;
    }) are is between

-- one value of a block more
pub turn_more : (m k i j : ℕ) (loops inner : List Affine) (lo up : Bounds) (body : Trees) (by at : ℕ) (f : Affine)
    → (before after : Trees) → Unrolls m k loops lo up body by at before → i ≡ m → j ≡ k + 1
    → inner ≡ map (widened k) loops → f ≡ turn_form (j + i) (j - 1) by at
    → ExtendsAt i j inner lo up f body before after → Unrolls m k loops lo up body by (at + 1) after
turn_more m k i j loops inner lo up body by at f before after done a b e is gone =
    let c : k + 1 - 1 ≡ k = omega arith in
    let P : ℕ → ℕ → List Affine → Type 0 = λ x y fs. f ≡ turn_form (y + x) (y - 1) by at
    → InlinesAt x y fs lo up f body gone.0 → Unrolls m k loops lo up body by (at + 1) after in
    at_place P i j m (k + 1) inner (map (widened k) loops) (sym a) (sym b) (sym e)
    (λ form one.
    subst (Unrolls m k loops lo up body by (at + 1)) (sym gone.1)
    (unrolls_more m k loops lo up body by at before gone.0 done
    (subst (λ (g : Affine). InlinesAt m (k + 1) (map (widened k) loops) lo up g body gone.0)
    (form ∙ ap (λ (v : ℕ). turn_form (k + 1 + m) v by at) c) one))) is gone.2

-- a body at one value that it always has
pub at_goes : (m k i j : ℕ) (loops inner forms : List Affine) (lo up : Bounds) (f : Affine) (found : List CodeTest)
    → (body before after : Trees) → CanGoAt m k loops forms lo up f (map test_of found) body → length found ≡ 0 → i ≡ m
    → j ≡ k → inner ≡ loops ++ f ∷ [] → Extends i j inner body before after
    → ExtendsAt m k loops lo up f body before after
at_goes m k i j loops inner forms lo up f (test ∷ found) body before after can empty a b e gone = absurd (omega arith)
at_goes m k i j loops inner forms lo up f [] body before after can empty a b e gone = (
  gone.0,
  gone.1,
  plain_at m k loops forms lo up f body gone.0 can
      (at_place (λ x y fs. Inlines x y fs body gone.0) m k i j (loops ++ f ∷ []) inner a b e gone.2),
)

-- one under a guard
pub at_guarded : (m k i j : ℕ) (loops inner forms : List Affine) (lo up : Bounds) (f : Affine) (found : List CodeTest)
    → (body new : Trees) → CanGoAt m k loops forms lo up f (map test_of found) body → 0 < length found → i ≡ m → j ≡ k
    → inner ≡ loops ++ f ∷ [] → Inlines i j inner body new
    → InlinesAt m k loops lo up f body (more (guard (map test_of found) new) none)
at_guarded m k i j loops inner forms lo up f [] body new can some a b e within = absurd (omega arith)
at_guarded m k i j loops inner forms lo up f (test ∷ found) body new can some a b e within =
    guarded_at m k loops forms lo up f (test_of test) (map test_of found) body new can
    (at_place (λ x y fs. Inlines x y fs body new) m k i j (loops ++ f ∷ []) inner a b e within)

-- a loop that runs at most once gives way to its body at the form's value
pub once_goes : (m k : ℕ) (loops forms : List Affine) (flag : Bool) (lo up : Bounds) (f : Affine) (tests : List Test)
    → (body before after : Trees) → CanInline m k loops forms (more (loop flag lo up body) none) → flag ≡ false
    → IsOnce (k + m) f (bounds_over true (k + m) forms lo) (bounds_over false (k + m) forms up) tests
    → ExtendsAt m k loops lo up f body before after
    → Extends m k loops (more (loop flag lo up body) none) before after
once_goes m k loops forms flag lo up f tests body before after can serial once gone = (
  gone.0,
  gone.1,
  subst (λ (c : Bool). Inlines m k loops (more (loop c lo up body) none) gone.0) (sym serial)
      (once_loop m k loops forms lo up f tests body gone.0 can.place can.flat.0.0 can.flat.0.1 once gone.2),
)

-- a loop gives way to one over blocks
pub loop_strided : (m k : ℕ) (loops forms : List Affine) (flag : Bool) (by : ℕ) (lo up low high : Bounds)
    → (body new : Trees) → CanInline m k loops forms (more (loop flag lo up body) none) → flag ≡ false → 0 < by
    → AreEnds (k + m) forms (blocks by (by - 1) lo) (blocks by 0 up) low high
    → Unrolls m k loops lo up body by by new
    → Inlines m k loops (more (loop flag lo up body) none) (more (loop false low high new) none)
loop_strided m k loops forms flag by lo up low high body new can serial some ends done =
    subst (λ (c : Bool). Inlines m k loops (more (loop c lo up body) none) (more (loop false low high new) none))
    (sym serial)
    (strided m k loops forms by lo up low high body new some can.place can.flat.0.0 can.flat.0.1 ends done)

-- a loop that stays
pub loop_stays : (m k i j : ℕ) (loops inner forms : List Affine) (flag : Bool) (lo up low high : Bounds)
    → (body new : Trees) → IsPlace m k loops forms → low ≡ bounds_over true (k + m) forms lo
    → high ≡ bounds_over false (k + m) forms up → BoundsAreUpTo (2 ^ 45) low → BoundsAreUpTo (2 ^ 45) high → i ≡ m
    → j ≡ k + 1
    → inner ≡ inside m k loops → Inlines i j inner body new
    → Inlines m k loops (more (loop flag lo up body) none) (more (loop flag low high new) none)
loop_stays m k i j loops inner forms flag lo up low high body new place is_low is_high l h a b e within =
    let here = at_place (λ x y fs. Inlines x y fs body new) m (k + 1) i j (inside m k loops) inner a b e within in
    let stays =
    kept_loop m k loops forms flag lo up body new place here
    (subst (λ (bs : Bounds). BoundsAreUpTo (2 ^ 45) bs) is_low l)
    (subst (λ (bs : Bounds). BoundsAreUpTo (2 ^ 45) bs) is_high h) in
    subst (λ (bs : Bounds). Inlines m k loops (more (loop flag lo up body) none) (more (loop flag bs high new) none))
    (sym is_low)
    (subst (λ (bs : Bounds). Inlines m k loops (more (loop flag lo up body) none)
    (more (loop flag (bounds_over true (k + m) forms lo) bs new) none)) (sym is_high) stays)

-- a leaf
pub leaf_goes : (m k : ℕ) (loops forms : List Affine) (number other : ℕ) (turns new : List Affine)
    → IsPlace m k loops forms → other ≡ number → new ≡ map (λ f. composed f forms (k + m)) turns
    → All (IsUpTo (2 ^ 45)) new
    → Inlines m k loops (more (instance number turns) none) (more (instance other new) none)
leaf_goes m k loops forms number other turns new place same are small =
    let stays = leaf_stays m k loops forms number turns place
    (subst (λ (fs : List Affine). All (IsUpTo (2 ^ 45)) fs) are small) in
    subst (λ (n : ℕ). Inlines m k loops (more (instance number turns) none) (more (instance n new) none)) (sym same)
    (subst
    (λ (fs : List Affine). Inlines m k loops (more (instance number turns) none) (more (instance number fs) none))
    (sym are) stays)

-- what is asked, at a place that is named in another way
pub can_at : (m k i j : ℕ) (loops inner forms : List Affine) (ts : Trees) → i ≡ m → j ≡ k → inner ≡ loops
    → CanInline m k loops forms ts → CanInline i j inner forms ts
can_at m k i j loops inner forms ts a b e can =
    at_place (λ x y fs. CanInline x y fs forms ts) i j m k inner loops (sym a) (sym b) (sym e) can

-- the whole tree
pub whole_can : (m d : ℕ) (forms : List Affine) (ts : Trees) → m < 2 ^ 32 → d < 2 ^ 32 → NestAllTo d ts
    → forms ≡ [] ++ variables (0 + m) 0 m → FlatAll ts → TreesAreOver m ts → TreesAreUpTo (2 ^ 40) ts
    → CanInline m 0 [] forms ts
whole_can m d forms ts few deep nests are flat over small =
    let e : m ≡ 0 + m = omega arith in
    record {
      place = record { are = are; sized = All-nil (IsOver (0 + m)) };
      few = omega arith;
      deep = (d, omega arith, nests);
      flat = flat;
      over = subst (λ i. TreesAreOver i ts) e over;
      small = small;
    }
