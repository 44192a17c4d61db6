-- What is left of nodes, one by one, as code goes over them.
use Rattle.tree_simplification.proofs.Common.{◌≡◌, ℕ, zero, suc, ◌+◌, ◌<◌, List, [], ◌∷◌, length, drop, get_or, ap}
use Rattle.tree_simplification.proofs.Common.{subst, sym, ◌∙◌, refl, arith, inl, inr, Bool, if◌then◌else◌, Bounds}
use Rattle.tree_simplification.proofs.Common.{Trees, guard, loop, more, none, nodes_of, tree_of, node_here, Context}
use Rattle.tree_simplification.proofs.Common.{tested, joined, CanTrim, Trims, TrimsAll, TrimsBounds, TrimsTests, under}
use Rattle.scop_syntax.proofs.Common.{Result, Ok, Err, OnOk, is_ok}
use Rattle.loop_tree.specs.Tree.{Test}
use Rattle.loop_tree.specs.declared.tree.Node.{Node}
use Rattle.tree_simplification.specs.steps.Trimmed.{IsEntered}
use Rattle.tree_simplification.proofs.JoinedTrees.{joined_assoc, joined_none}

-- what a call that may fail leaves where it does not
pub left_at_ok : {A E X : Type 0} (r : Result A E) (new both old : X) → new ≡ (if is_ok r then both else old)
    → OnOk r (new ≡ both)
left_at_ok (Ok a) new both old h = h
left_at_ok (Err e) new both old h = tt

can_at : (c : Context) (nodes : List Node) (i : ℕ) (d : Node) → i < length nodes → CanTrim c (nodes_of nodes)
    → CanTrim c (more (tree_of (get_or nodes i d)) none)
can_at c [] i d inside can = absurd (omega (arith, inside))
can_at c (x ∷ xs) zero d inside can = record { flat = (can.flat.0, tt); over = (can.over.0, tt) }
can_at c (x ∷ xs) (suc i) d inside can =
    can_at c xs i d (omega (arith, inside)) (record { flat = can.flat.1; over = can.over.1 })

-- a node among nodes
pub can_one : (c : Context) (nodes : List Node) (i : ℕ) (node : Node) → node ≡ get_or nodes i node → i < length nodes
    → CanTrim c (nodes_of nodes) → CanTrim c (more (tree_of node) none)
can_one c nodes i node found inside can =
    subst (λ (x : Node). CanTrim c (more (tree_of x) none)) (sym found) (can_at c nodes i node inside can)

-- what is left so far, with what is left of the rest, is what is left of all
abbrev pub Leaves : Context → List Node → ℕ → List Node → Type 0
Leaves c nodes i out =
    (rest : Trees) → TrimsAll c (nodes_of (drop i nodes)) rest
    → TrimsAll c (nodes_of nodes) (joined (nodes_of out) rest)

-- one node more, and no more
pub leaves_next : (c : Context) (nodes : List Node) (i : ℕ) (node : Node) (out new : List Node) (left : Trees)
    → node ≡ get_or nodes i node → i < length nodes → Leaves c nodes i out → Trims c (tree_of node) left
    → nodes_of new ≡ joined (nodes_of out) left → Leaves c nodes (i + 1) new
leaves_next c nodes i node out new left found inside so_far here e rest h =
    let whole : TrimsAll c (nodes_of (drop i nodes)) (joined left rest) =
    subst (λ (ts : Trees). TrimsAll c ts (joined left rest)) (sym (node_here nodes i node found inside))
    (left, rest, refl, here, h) in
    subst (TrimsAll c (nodes_of nodes))
    (sym (ap (λ (ts : Trees). joined ts rest) e ∙ joined_assoc (nodes_of out) left rest))
    (so_far (joined left rest) whole)

pub leaves_all : (c : Context) (nodes : List Node) (i : ℕ) (out : List Node) → drop i nodes ≡ [] → Leaves c nodes i out
    → TrimsAll c (nodes_of nodes) (nodes_of out)
leaves_all c nodes i out e so_far =
    subst (TrimsAll c (nodes_of nodes)) (joined_none (nodes_of out))
    (so_far none (subst (λ (ns : List Node). TrimsAll c (nodes_of ns) none) (sym e) refl))

-- a loop of which something is left, or nothing
pub loop_left : (c within : Context) (flag : Bool) (lo up lower upper : Bounds) (body inner new : Trees)
    → IsEntered c lo up within → TrimsBounds c lo up lower upper → TrimsAll within body inner
    → new ≡ more (loop flag lower upper inner) none → Trims c (loop flag lo up body) new
loop_left c within flag lo up lower upper body inner new e bounds left is =
    inl (lower, upper, inner, e.0, is, bounds, e.2, subst (λ (d : Context). TrimsAll d body inner) e.1 left)

pub loop_dropped : (c within : Context) (flag : Bool) (lo up : Bounds) (body : Trees) (nodes : List Node)
    → IsEntered c lo up within → length nodes ≡ 0 → TrimsAll within body (nodes_of nodes)
    → Trims c (loop flag lo up body) (nodes_of nodes)
loop_dropped c within flag lo up body [] e empty left =
    inr (e.0, refl, e.2, subst (λ (d : Context). TrimsAll d body none) e.1 left)
loop_dropped c within flag lo up body (n ∷ nodes) e empty left = absurd (omega (arith, empty))

-- so of a guard
pub guard_left : (c within : Context) (tests kept : List Test) (body inner new : Trees)
    → within ≡ tested c tests → TrimsTests c tests kept → TrimsAll within body inner → new ≡ under kept inner
    → Trims c (guard tests body) new
guard_left c within tests kept body inner new e kept_is left is =
    inl (kept, inner, is, kept_is, subst (λ (d : Context). TrimsAll d body inner) e left)

pub guard_dropped : (c within : Context) (tests : List Test) (body : Trees) (nodes : List Node)
    → within ≡ tested c tests → length nodes ≡ 0 → TrimsAll within body (nodes_of nodes)
    → Trims c (guard tests body) (nodes_of nodes)
guard_dropped c within tests body [] e empty left =
    inr (refl, subst (λ (d : Context). TrimsAll d body none) e left)
guard_dropped c within tests body (n ∷ nodes) e empty left = absurd (omega (arith, empty))
