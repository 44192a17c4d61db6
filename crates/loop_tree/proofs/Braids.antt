-- Stretches of leaves in turn: what they give is what the leaves show at the values of the loop round them. Lists that
-- give their firsts in turn.
use Rattle.scop_syntax.proofs.Common.{◌≡◌, ℕ, zero, suc, ◌+◌, ◌≤◌, ◌<◌, Bool, true, false, ℤ, pos, List, [], ◌∷◌, ◌++◌}
use Rattle.scop_syntax.proofs.Common.{length, map, take, drop, set, get_or, ap, ap₂, sym, subst, ◌∙◌, refl, arith}
use Rattle.scop_syntax.proofs.Common.{append-nil, inl, inr, ◌+ℤ◌, ◌≤ℤ◌, ◌⊎◌, All, FitsSigned, ints, w64, map-append}
use Rattle.scop_syntax.proofs.Common.{All-append, All-cons, All-head, All-nil, All-tail, take-suc-set, In, Instance}
use Rattle.scop_syntax.proofs.Common.{sums, instance_of}
use Rattle.std.proofs.lemmas.List.{append_assoc}
use Rattle.loop_tree.specs.Braids.{IsBraid, left_of_braid, strands_in_turn, taking, together, woven}
use Rattle.loop_tree.specs.Conditions.{CanWalk, IsHeld}
use Rattle.loop_tree.specs.Spot.{Mark, mark, IsAt, rest_of, shown_from}
use Rattle.loop_tree.specs.Stretches.{following, left_of}
use Rattle.loop_tree.specs.Tree.{Tree, Trees, guard, instance, loop, more, none}
use Rattle.loop_tree.specs.View.{nodes_of, tree_of}
use Rattle.loop_tree.specs.Walk.{Visit, along, given, walk_all}
use Rattle.loop_tree.specs.steps.Going.{CanTurn, HasTurned, rest_from}
use Rattle.loop_tree.specs.steps.Passing.{AreLeaves, CanPass, IsSpent, passed_by, shown_along}
use Rattle.loop_tree.specs.declared.braid.Braid.{Braid}
use Rattle.loop_tree.specs.declared.stretch.Stretch.{Stretch}
use Rattle.loop_tree.specs.declared.tree.Node.{Node}
use Rattle.loop_tree.proofs.Stretches.{nothing_left, rest_done}

-- lists of which the first has something, or nothing
together-end : (ls : List (List Instance)) (l : List Instance) → together (ls ++ l ∷ []) ≡ together ls + length l
together-end [] l = omega arith
together-end (k ∷ ls) l = let rest = together-end ls l in omega (arith, rest)

pub woven_next : (i : Instance) (is : List Instance) (ls : List (List Instance))
    → woven ((i ∷ is) ∷ ls) ≡ i ∷ woven (ls ++ is ∷ [])
woven_next i is ls =
    let all = together-end ls is in
    let count : together ((i ∷ is) ∷ ls) ≡ suc (together (ls ++ is ∷ [])) = omega (arith, all) in
    ap (λ (n : ℕ). taking n ((i ∷ is) ∷ ls)) count

taking_none : (n : ℕ) (ls : List (List Instance)) → taking n ([] ∷ ls) ≡ []
taking_none zero ls = refl
taking_none (suc n) ls = refl

pub woven_none : (ls : List (List Instance)) → woven ([] ∷ ls) ≡ []
woven_none ls = taking_none (together ([] ∷ ls)) ls

-- the strand whose turn it is stands in front
here : (xs : List Stretch) (i n : ℕ) (d : Stretch) → i < n → n ≤ length xs
    → drop i (take n xs) ≡ get_or xs i d ∷ drop (suc i) (take n xs)
here [] i zero d h few = absurd (omega arith)
here [] i (suc n) d h few = absurd (omega arith)
here (x ∷ xs) i zero d h few = absurd (omega arith)
here (x ∷ xs) zero (suc n) d h few = refl
here (x ∷ xs) (suc i) (suc n) d h few = here xs i n d (omega (arith, h)) (omega (arith, few))

-- the others, from the next on and then those before it
abbrev pub others : List Stretch → ℕ → ℕ → List Stretch
others xs i n = drop (suc i) (take n xs) ++ take i xs

pub first_strand : (b : Braid) (d : Stretch) → b.at < b.count → b.count ≤ length b.strands
    → strands_in_turn b ≡ get_or b.strands b.at d ∷ others b.strands b.at b.count
first_strand b d h few = ap (λ (ys : List Stretch). ys ++ take b.at b.strands) (here b.strands b.at b.count d h few)

-- behind its turn it stands at the end
drop_put : (xs : List Stretch) (i n : ℕ) (s : Stretch)
    → drop (suc i) (take n (set xs i s)) ≡ drop (suc i) (take n xs)
drop_put [] i n s = refl
drop_put (x ∷ xs) i zero s = refl
drop_put (x ∷ xs) zero (suc n) s = refl
drop_put (x ∷ xs) (suc i) (suc n) s = drop_put xs i n s

drop_all : (xs : List Stretch) (i : ℕ) → drop (suc i) (take (suc i) xs) ≡ []
drop_all [] i = refl
drop_all (x ∷ xs) zero = refl
drop_all (x ∷ xs) (suc i) = drop_all xs i

pub last_strand : (xs : List Stretch) (i n j : ℕ) (s : Stretch) → i < length xs
    → (j ≡ i + 1) ⊎ ((j ≡ 0) × (n ≡ i + 1))
    → drop j (take n (set xs i s)) ++ take j (set xs i s) ≡ others xs i n ++ s ∷ []
last_strand xs i n j s h (inl next) =
    let same : j ≡ suc i = omega (arith, next) in
    ap (λ (k : ℕ). drop k (take n (set xs i s)) ++ take k (set xs i s)) same
    ∙ (ap₂ (λ (ys zs : List Stretch). ys ++ zs) (drop_put xs i n s) (take-suc-set xs i s h)
    ∙ sym (append_assoc (drop (suc i) (take n xs)) (take i xs) (s ∷ [])))
last_strand xs i n j s h (inr first) =
    let all : n ≡ suc i = let e = first.1 in omega (arith, e) in
    ap₂ (λ (k m : ℕ). drop k (take m (set xs i s)) ++ take k (set xs i s)) first.0 all
    ∙ (append-nil (take (suc i) (set xs i s))
    ∙ (take-suc-set xs i s h
    ∙ sym (ap (λ (ys : List Stretch). (ys ++ take i xs) ++ s ∷ []) (ap (λ (m : ℕ). drop (suc i) (take m xs)) all
    ∙ drop_all xs i))))

-- the lists of trees, one for each
abbrev pub strands_of : Trees → List ℤ → List ℤ → ℤ → ℕ → List (List Instance)
strands_of none params outer x k = []
strands_of (more t ts) params outer x k =
    shown_along (more t none) params outer x k ∷ strands_of ts params outer x k

-- a turn for each tree more
abbrev turns_more : Trees → ℕ → ℕ
turns_more none n = n
turns_more (more t ts) n = suc (turns_more ts n)

turns_add : (ts : Trees) (m n : ℕ) → turns_more ts (m + n) ≡ m + turns_more ts n
turns_add none m n = refl
turns_add (more t ts) m n = let rest = turns_add ts m n in omega (arith, rest)

-- one round gives what the leaves show at one value
round : (ts : Trees) → AreLeaves ts → (params outer : List ℤ) (x : ℤ) (k n : ℕ) (done : List (List Instance))
    → taking (turns_more ts n) (strands_of ts params outer x (suc k) ++ done)
    ≡ map given (walk_all ts params (outer ++ x ∷ [])) ++ taking n (done ++ strands_of ts params outer (x +ℤ pos 1) k)
round none leaves params outer x k n done = ap (λ (ls : List (List Instance)). taking n ls) (sym (append-nil done))
round (more (loop flag lo up body) ts) leaves params outer x k n done = absurd leaves
round (more (guard tests body) ts) leaves params outer x k n done = absurd leaves
round (more (instance m forms) ts) leaves params outer x k n done =
    let is = shown_along (more (instance m forms) none) params outer (x +ℤ pos 1) k in
    let now = strands_of ts params outer x (suc k) in
    let then = strands_of ts params outer (x +ℤ pos 1) k in
    let shown = map given (walk_all (more (instance m forms) none) params (outer ++ x ∷ [])) in
    ap (λ (js : List Instance). shown ++ js)
    (ap (λ (ls : List (List Instance)). taking (turns_more ts n) ls) (append_assoc now done (is ∷ []))
    ∙ (round ts leaves params outer x k n (done ++ is ∷ [])
    ∙ ap (λ (ls : List (List Instance)). map given (walk_all ts params (outer ++ x ∷ [])) ++ taking n ls)
    (append_assoc done (is ∷ []) then)))

together_round : (ts : Trees) → AreLeaves ts → (params outer : List ℤ) (x : ℤ) (k : ℕ)
    → together (strands_of ts params outer x (suc k))
    ≡ turns_more ts (together (strands_of ts params outer (x +ℤ pos 1) k))
together_round none leaves params outer x k = refl
together_round (more (loop flag lo up body) ts) leaves params outer x k = absurd leaves
together_round (more (guard tests body) ts) leaves params outer x k = absurd leaves
together_round (more (instance m forms) ts) leaves params outer x k =
    let is = shown_along (more (instance m forms) none) params outer (x +ℤ pos 1) k in
    let rest = together_round ts leaves params outer x k in
    let add = turns_add ts (length is) (together (strands_of ts params outer (x +ℤ pos 1) k)) in
    omega (arith, rest, add)

together_none : (ts : Trees) (params outer : List ℤ) (x : ℤ) → together (strands_of ts params outer x zero) ≡ 0
together_none none params outer x = refl
together_none (more t ts) params outer x = let rest = together_none ts params outer x in omega (arith, rest)

-- all rounds do
pub woven_shown : (ts : Trees) → AreLeaves ts → (params outer : List ℤ) (x : ℤ) (k : ℕ)
    → woven (strands_of ts params outer x k) ≡ shown_along ts params outer x k
woven_shown ts leaves params outer x zero =
    ap (λ (n : ℕ). taking n (strands_of ts params outer x zero)) (together_none ts params outer x)
woven_shown ts leaves params outer x (suc k) =
    let now = strands_of ts params outer x (suc k) in
    let then = strands_of ts params outer (x +ℤ pos 1) k in
    let body : ℤ → List Visit = λ y. walk_all ts params (outer ++ y ∷ []) in
    ap₂ (λ (n : ℕ) (ls : List (List Instance)). taking n ls) (together_round ts leaves params outer x k)
    (sym (append-nil now))
    ∙ (round ts leaves params outer x k (together then) []
    ∙ (ap (λ (js : List Instance). map given (body x) ++ js) (woven_shown ts leaves params outer (x +ℤ pos 1) k)
    ∙ sym (map-append given (body x) (along body (x +ℤ pos 1) k))))

-- what they show can be held
given_held : (vs : List Visit) → ((v : Visit) → In v vs → IsHeld (given v)) → All IsHeld (map given vs)
given_held [] held = All-nil IsHeld
given_held (v ∷ vs) held =
    All-cons IsHeld (given v) (map given vs) (held v (inl refl)) (given_held vs (λ w h. held w (inr h)))

pub shown_held : (ts : Trees) (params outer : List ℤ) (x : ℤ) (k : ℕ)
    → ((y : ℤ) → x ≤ℤ y → y ≤ℤ (x +ℤ pos k) → CanWalk ts params (outer ++ y ∷ []))
    → All IsHeld (shown_along ts params outer (x +ℤ pos 1) k)
shown_held ts params outer x zero can = All-nil IsHeld
shown_held ts params outer x (suc k) can =
    let body : ℤ → List Visit = λ y. walk_all ts params (outer ++ y ∷ []) in
    let next = x +ℤ pos 1 in
    subst (λ (is : List Instance). All IsHeld is) (sym (map-append given (body next) (along body (next +ℤ pos 1) k)))
    (All-append IsHeld (map given (body next)) (shown_along ts params outer (next +ℤ pos 1) k)
    (given_held (body next) (can next (omega (arith, ints)) (omega (arith, ints))).held)
    (shown_held ts params outer next k
    (λ y from to. can y (omega (arith, ints, from)) (omega (arith, ints, to)))))

-- marks stand at any value of leaves
pub at_leaves : (ts : Trees) (ms : List Mark) (params outer : List ℤ) → AreLeaves ts → IsAt ts ms params outer
at_leaves ts [] params outer leaves = tt
at_leaves none (m ∷ ms) params outer leaves = tt
at_leaves (more (loop flag lo up body) ts) (m ∷ ms) params outer leaves = absurd leaves
at_leaves (more (guard tests body) ts) (m ∷ ms) params outer leaves = absurd leaves
at_leaves (more (instance n forms) ts) (mark zero true x z ∷ ms) params outer leaves = tt
at_leaves (more (instance n forms) ts) (mark zero false x z ∷ ms) params outer leaves = tt
at_leaves (more (instance n forms) ts) (mark (suc k) begun x z ∷ ms) params outer leaves =
    at_leaves ts (mark k begun x z ∷ ms) params outer leaves

-- from one value of a loop with leaves in it to another, by the instances between
pub turned_leaves : (body : Trees) (ms : List Mark) (x y last : ℤ) (is : List Instance) (params outer : List ℤ)
    → AreLeaves body → x ≤ℤ y → y ≤ℤ last → ((ps vs : List ℤ) → rest_of body ms ps vs ≡ [])
    → shown_from body params outer (x +ℤ pos 1) last ≡ is ++ shown_from body params outer (y +ℤ pos 1) last
    → HasTurned body x ms y ms last is params outer
turned_leaves body ms x y last is params outer leaves up within over shown =
    record {
      rest = rest_done body ms x last params outer (omega (arith, ints, up, within)) (over params (outer ++ x ∷ []))
          ∙ (shown
          ∙ ap (λ (js : List Instance). is ++ js)
          (sym (rest_done body ms y last params outer within (over params (outer ++ y ∷ [])))));
      up = up;
      stands = λ h. at_leaves body ms params (outer ++ y ∷ []) leaves;
    }

-- where nothing is passed by
pub spent_passed : (s : Stretch) (b : Braid) → IsSpent s b → passed_by s b ≡ []
spent_passed s b spent =
    ap₂ (λ (is js : List Instance). is ++ js) (nothing_left s spent.stretch) spent.nothing

pub spent_can : (s : Stretch) (b : Braid) → IsSpent s b → CanPass s b
spent_can s b spent =
    record {
      held = subst (λ (is : List Instance). All IsHeld is) (sym (nothing_left s spent.stretch)) (All-nil IsHeld);
      braid = spent.braid;
    }

pub turned_spent : (body : Trees) (ms : List Mark) (x last : ℤ) (s : Stretch) (b : Braid) (params outer : List ℤ)
    → CanTurn body ms x last params outer → IsSpent s b
    → HasTurned body x ms x ms last (passed_by s b) params outer
turned_spent body ms x last s b params outer can spent =
    record {
      rest = ap (λ (is : List Instance). is ++ rest_from body ms x last params outer) (sym (spent_passed s b spent));
      up = omega (arith, ints);
      stands = can.stands;
    }

-- one that was found, and those that are then passed by
pub turned_then : (body : Trees) (x : ℤ) (ms : List Mark) (y z last : ℤ) (new : List Mark) (i : Instance)
    (is js : List Instance) (params outer : List ℤ) → is ≡ [] → HasTurned body x ms y new last (i ∷ is) params outer
    → HasTurned body y new z new last js params outer → HasTurned body x ms z new last (i ∷ js) params outer
turned_then body x ms y z last new i is js params outer nothing first behind =
    let to = first.up in
    let on = behind.up in
    record {
      rest = first.rest
          ∙ (ap (λ (ks : List Instance). i ∷ (ks ++ rest_from body new y last params outer)) nothing
          ∙ ap (λ (ks : List Instance). i ∷ ks) behind.rest);
      up = omega (arith, ints, to, on);
      stands = behind.stands;
    }

-- nothing is to come where the last node is a leaf that was begun
last_done : (ns : List Node) (node : Node) (t : Tree) (x z : ℤ) (ms : List Mark) (params outer : List ℤ)
    → tree_of node ≡ t → AreLeaves (more t none)
    → rest_of (nodes_of (ns ++ node ∷ [])) (mark (length ns) true x z ∷ ms) params outer ≡ []
last_done [] node (loop flag lo up body) x z ms params outer is leaf = absurd leaf
last_done [] node (guard tests body) x z ms params outer is leaf = absurd leaf
last_done [] node (instance n forms) x z ms params outer is leaf =
    ap (λ (u : Tree). rest_of (more u none) (mark zero true x z ∷ ms) params outer) is
last_done (m ∷ ns) node t x z ms params outer is leaf = last_done ns node t x z ms params outer is leaf

pub done_at : (nodes ns : List Node) (node : Node) (k : ℕ) (begun : Bool) (x z : ℤ) (ms : List Mark)
    (params outer : List ℤ) → nodes ≡ ns ++ node ∷ [] → k ≡ length ns → begun ≡ true
    → AreLeaves (more (tree_of node) none)
    → rest_of (nodes_of nodes) (mark k begun x z ∷ ms) params outer ≡ []
done_at nodes ns node k begun x z ms params outer all place was leaf =
    ap (λ (l : List Node). rest_of (nodes_of l) (mark k begun x z ∷ ms) params outer) all
    ∙ (ap₂ (λ (i : ℕ) (b : Bool). rest_of (nodes_of (ns ++ node ∷ [])) (mark i b x z ∷ ms) params outer) place was
    ∙ last_done ns node (tree_of node) x z ms params outer refl leaf)

-- a braid begins with what the strand whose turn it is has left
left_front : (b : Braid) (d : Stretch) → b.at < b.count → b.count ≤ 4 → length b.strands ≡ 4
    → left_of_braid b
    ≡ woven (left_of (get_or b.strands b.at d) ∷ map left_of (others b.strands b.at b.count))
left_front b d turn few all =
    ap (λ (ss : List Stretch). woven (map left_of ss)) (first_strand b d turn (omega (arith, few, all)))

pub braid_none : (b : Braid) (d : Stretch) → IsBraid b → length b.strands ≡ 4
    → (get_or b.strands b.at d).left ≡ 0 → left_of_braid b ≡ []
braid_none b d is all empty =
    left_front b d is.turn is.few all
    ∙ (ap (λ (l : List Instance). woven (l ∷ map left_of (others b.strands b.at b.count)))
    (nothing_left (get_or b.strands b.at d) empty)
    ∙ woven_none (map left_of (others b.strands b.at b.count)))

front_held : (n : ℕ) (turns steps : List ℤ) (k : ℕ) (ls : List (List Instance)) → 0 < k
    → All IsHeld (woven (following n turns steps k ∷ ls)) → All (FitsSigned w64) (sums turns steps)
front_held n turns steps zero ls some held = absurd (omega arith)
front_held n turns steps (suc k) ls some held =
    let i : Instance = record { number = n; turns = sums turns steps } in
    let is = following n (sums turns steps) steps k in
    (All-head IsHeld i (woven (ls ++ is ∷ []))
    (subst (λ (js : List Instance). All IsHeld js) (woven_next i is ls) held)).turns

pub braid_fits : (b : Braid) (d : Stretch) → IsBraid b → length b.strands ≡ 4
    → 0 < (get_or b.strands b.at d).left
    → All (FitsSigned w64) (sums (instance_of (get_or b.strands b.at d).before).turns
    (take (get_or b.strands b.at d).before.loops (get_or b.strands b.at d).steps))
braid_fits b d is all some =
    let s = get_or b.strands b.at d in
    front_held s.before.statement (instance_of s.before).turns (take s.before.loops s.steps) s.left
    (map left_of (others b.strands b.at b.count)) some
    (subst (λ (is : List Instance). All IsHeld is) (left_front b d is.turn is.few all) is.held)

-- the braid behind its first instance
abbrev pub behind_first : Braid → Stretch → ℕ → Braid
behind_first b s j = record { strands = set b.strands b.at s; count = b.count; at = j }

pub braid_next : (b : Braid) (d s : Stretch) (i : Instance) (j : ℕ) → IsBraid b → length b.strands ≡ 4
    → left_of (get_or b.strands b.at d) ≡ i ∷ left_of s → (j ≡ b.at + 1) ⊎ ((j ≡ 0) × (b.count ≡ b.at + 1))
    → left_of_braid b ≡ i ∷ left_of_braid (behind_first b s j)
braid_next b d s i j is all step next =
    let rest = others b.strands b.at b.count in
    let turn = is.turn in
    let few = is.few in
    left_front b d turn few all
    ∙ (ap (λ (l : List Instance). woven (l ∷ map left_of rest)) step
    ∙ (woven_next i (left_of s) (map left_of rest)
    ∙ ap (λ (ls : List (List Instance)). i ∷ woven ls)
    (sym (ap (λ (ss : List Stretch). map left_of ss)
    (last_strand b.strands b.at b.count j s (omega (arith, turn, few, all)) next)
    ∙ map-append left_of rest (s ∷ [])))))

pub braid_behind : (b : Braid) (d s : Stretch) (i : Instance) (j : ℕ) → IsBraid b → length b.strands ≡ 4
    → left_of (get_or b.strands b.at d) ≡ i ∷ left_of s → (j ≡ b.at + 1) ⊎ ((j ≡ 0) × (b.count ≡ b.at + 1))
    → j < b.count → IsBraid (behind_first b s j)
braid_behind b d s i j is all step next turn =
    record {
      few = is.few;
      turn = turn;
      held = All-tail IsHeld i (left_of_braid (behind_first b s j))
          (subst (λ (is : List Instance). All IsHeld is) (braid_next b d s i j is all step next) is.held);
    }

-- a braid of which each strand shows what a leaf does, where all nodes have one
none_behind : (nodes : List Node) (i : ℕ) → length nodes ≤ i → drop i nodes ≡ []
none_behind [] zero h = refl
none_behind [] (suc i) h = refl
none_behind (n ∷ ns) zero h = absurd (omega arith)
none_behind (n ∷ ns) (suc i) h = none_behind ns i (omega (arith, h))

pub braid_is : (strands : List Stretch) (k i : ℕ) (nodes : List Node) (params outer : List ℤ) (x : ℤ) (n : ℕ)
    → length nodes ≤ i → (AreLeaves (nodes_of (drop i nodes)) → AreLeaves (nodes_of nodes))
    → map left_of (take k strands) ++ strands_of (nodes_of (drop i nodes)) params outer x n
    ≡ strands_of (nodes_of nodes) params outer x n
    → left_of_braid (record { strands = strands; count = k; at = 0 })
    ≡ shown_along (nodes_of nodes) params outer x n
braid_is strands k i nodes params outer x n end leaves all =
    let taken = map left_of (take k strands) in
    let behind = none_behind nodes i end in
    ap (λ (ss : List Stretch). woven (map left_of ss)) (append-nil (take k strands))
    ∙ (ap (λ (ls : List (List Instance)). woven ls)
    (sym (append-nil taken)
    ∙ (ap (λ (l : List Node). taken ++ strands_of (nodes_of l) params outer x n) (sym behind) ∙ all))
    ∙ woven_shown (nodes_of nodes)
    (leaves (subst (λ (l : List Node). AreLeaves (nodes_of l)) (sym behind) tt)) params outer x n)
