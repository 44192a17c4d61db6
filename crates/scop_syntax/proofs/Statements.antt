-- The walk visits each statement at the turns at which all that stands round it holds.
use Rattle.whole_numbers.proofs.Common.{◌≡◌, ℕ, zero, suc, ◌+◌, ◌-◌, true, ℤ, pos, negsuc, List, [], ◌∷◌, ◌++◌, length}
use Rattle.whole_numbers.proofs.Common.{map, Some, inl, inr, ap, subst, sym, ◌∙◌, refl, arith, length-append, ap₂, ⊤}
use Rattle.whole_numbers.proofs.Common.{◌+ℤ◌, ◌*ℤ◌, slice_get, ◌≤ℤ◌, All, ints, length-map, All-nil, All-cons, value_of}
use Rattle.scop_syntax.specs.Tree.{Test, at_least, equal, Head, Tree, loop, guard, statement, Trees, none, more}
use Rattle.scop_syntax.specs.Members.{In}
use Rattle.scop_syntax.specs.Walk.{holds, all_hold, turn_point, condition_at, most_turns, statements_in}
use Rattle.scop_syntax.specs.Walk.{statements_in_all, Visit, within, walk, walk_all, Instance}
use Rattle.scop_syntax.specs.Kernel.{IsHead, IsTree, AreTrees}
use Rattle.scop_syntax.specs.Statements.{Scope, round, under, Placed, in_loop_of, in_guard_of, placed, placed_all}
use Rattle.scop_syntax.specs.Statements.{loops_in, Holds, AllHold, Runs, visit_of}
use Rattle.scop_syntax.proofs.Members.{place_of, in_front, in_back, in_append, in_map, in_map_from, in_if, in_if_from}
use Rattle.scop_syntax.proofs.Members.{in_turns_from, in_loop, both, le_z_holds, holds_le_z}
use Rattle.scop_syntax.proofs.Falls.{condition_falls}

-- the walk's tests
test_from : (test : Test) (point : List ℤ) → holds test point ≡ true → Holds test point
test_from (at_least form) point h = holds_le_z (pos 0) (value_of form point) h
test_from (equal form) point h = grind (arith, ints)

test_to : (test : Test) (point : List ℤ) → Holds test point → holds test point ≡ true
test_to (at_least form) point h = le_z_holds (pos 0) (value_of form point) h
test_to (equal form) point h = rw h refl

tests_from : (tests : List Test) (point : List ℤ) → all_hold tests point ≡ true → AllHold tests point
tests_from [] point h = tt
tests_from (test ∷ tests) point h =
    let here : (holds test point ≡ true)
    × (all_hold tests point ≡ true) = both (holds test point) (all_hold tests point) h in
    (test_from test point here.0, tests_from tests point here.1)

tests_to : (tests : List Test) (point : List ℤ) → AllHold tests point → all_hold tests point ≡ true
tests_to [] point h = refl
tests_to (test ∷ tests) point h = rw (test_to test point h.0) (tests_to tests point h.1)

length-turn_point : (head : Head) (point : List ℤ) (x : ℤ) → length (turn_point head point x) ≡ length point + 1
length-turn_point head point x = length-append point ((value_of head.first point +ℤ (head.stride *ℤ x)) ∷ [])

-- an instance of the walk, as one of a statement
abbrev Found : List Placed → List ℤ → Visit → Type 0
Found ps point v = (p : Placed) × (xs : List ℤ) × In p ps × Runs p.scopes point xs × (v ≡ visit_of p point xs)

mutual
  found : (t : Tree) (n : ℕ) (point : List ℤ) (v : Visit) → In v (walk t n point) → Found (placed t n) point v
  found (loop head body) n point v h =
      let c : ℕ → ℤ = λ k. condition_at head point (pos k) in
      let inner : ℕ → List Visit = λ k. map (within n (pos k)) (walk_all body n (turn_point head point (pos k))) in
      let g = in_turns_from c inner v (most_turns (c 0)) 0 h in
      let x = pos g.0 in
      let u = in_map_from (within n x) v (walk_all body n (turn_point head point x)) g.3 in
      let f = found_all body n (turn_point head point x) u.0 u.1 in (
        in_loop_of n head f.0,
        x ∷ f.1,
        in_map (in_loop_of n head) f.0 (placed_all body n) f.2,
        (omega (arith, ints), g.2, f.3),
        u.2 ∙ ap (within n x) f.4,
      )
  found (guard tests body) n point v h =
      let g = in_if_from (all_hold tests point) v (walk_all body n point) h in
      let f = found_all body n point v g.1 in (
        in_guard_of tests f.0,
        f.1,
        in_map (in_guard_of tests) f.0 (placed_all body n) f.2,
        (tests_from tests point g.0, f.3),
        f.4,
      )
  found (statement s) n point v (inl e) =
      (record { number = n; loops = []; scopes = []; body = s }, [], inl refl, tt, e)
  found (statement s) n point v (inr h) = absurd h

  found_all : (ts : Trees) (n : ℕ) (point : List ℤ) (v : Visit) → In v (walk_all ts n point)
      → Found (placed_all ts n) point v
  found_all none n point v h = absurd h
  found_all (more t ts) n point v h = elim (in_append v (walk t n point) (walk_all ts (n + statements_in t) point) h) [
    | inl g ↦ let f =
        found t n point v g in
        (f.0, f.1, in_front f.0 (placed t n) (placed_all ts (n + statements_in t)) f.2, f.3, f.4)
    | inr g ↦ let f =
        found_all ts (n + statements_in t) point v g in
        (f.0, f.1, in_back f.0 (placed t n) (placed_all ts (n + statements_in t)) f.2, f.3, f.4)
  ]

-- a turn at which the condition holds is walked
stands_turn : (head : Head) (body : Trees) (n : ℕ) (point : List ℤ) (q : Placed) (xs : List ℤ)
    → IsHead (length point) head
    → ((x : ℤ) (ys : List ℤ) → Runs q.scopes (turn_point head point x) ys
    → In (visit_of q (turn_point head point x) ys) (walk_all body n (turn_point head point x)))
    → Runs (round head ∷ q.scopes) point xs
    → In (visit_of (in_loop_of n head q) point xs) (walk (loop head body) n point)
stands_turn head body n point q [] is inner h = absurd h
stands_turn head body n point q (negsuc k ∷ xs) is inner h = absurd (let e = h.0 in omega (arith, ints))
stands_turn head body n point q (pos k ∷ xs) is inner h =
    let x = pos k in
    in_loop (λ k. condition_at head point (pos k))
    (λ k. map (within n (pos k)) (walk_all body n (turn_point head point (pos k))))
    (visit_of (in_loop_of n head q) point (x ∷ xs))
    (condition_falls head point is) k h.1
    (in_map (within n x) (visit_of q (turn_point head point x) xs) (walk_all body n (turn_point head point x))
    (inner x xs h.2))

mutual
  stands : (rs : List ℕ) (ls cs : ℕ) (t : Tree) (n : ℕ) (point : List ℤ) (p : Placed) (xs : List ℤ)
      → IsTree rs (length point) ls cs t → In p (placed t n) → Runs p.scopes point xs
      → In (visit_of p point xs) (walk t n point)
  stands rs ls cs (loop head body) n point p xs is h runs =
      let q = in_map_from (in_loop_of n head) p (placed_all body n) h in
      subst (λ r. Runs r.scopes point xs → In (visit_of r point xs) (walk (loop head body) n point)) (sym q.2)
      (stands_turn head body n point q.0 xs is.1
      (λ x ys. stands_all rs (ls - 1) cs body n (turn_point head point x) q.0 ys
      (subst (λ m. AreTrees rs m (ls - 1) cs body) (sym (length-turn_point head point x)) is.3) q.1)) runs
  stands rs ls cs (guard tests body) n point p xs is h runs =
      let q = in_map_from (in_guard_of tests) p (placed_all body n) h in
      subst (λ r. Runs r.scopes point xs → In (visit_of r point xs) (walk (guard tests body) n point)) (sym q.2)
      (λ g. in_if (all_hold tests point) (visit_of q.0 point xs) (walk_all body n point) (tests_to tests point g.0)
      (stands_all rs ls (cs - length tests) body n point q.0 xs is.4 q.1 g.1)) runs
  stands rs ls cs (statement s) n point p [] is (inl e) runs = inl (ap (λ r. visit_of r point []) e)
  stands rs ls cs (statement s) n point p (x ∷ xs) is (inl e) runs =
      absurd (subst (λ r. Runs r.scopes point (x ∷ xs)) e runs)
  stands rs ls cs (statement s) n point p xs is (inr h) runs = absurd h

  pub stands_all : (rs : List ℕ) (ls cs : ℕ) (ts : Trees) (n : ℕ) (point : List ℤ) (p : Placed) (xs : List ℤ)
      → AreTrees rs (length point) ls cs ts → In p (placed_all ts n) → Runs p.scopes point xs
      → In (visit_of p point xs) (walk_all ts n point)
  stands_all rs ls cs none n point p xs is h runs = absurd h
  stands_all rs ls cs (more t ts) n point p xs is h runs =
      elim (in_append p (placed t n) (placed_all ts (n + statements_in t)) h) [
        | inl g ↦ in_front (visit_of p point xs) (walk t n point) (walk_all ts (n + statements_in t) point)
            (stands rs ls cs t n point p xs is.0 g runs)
        | inr g ↦ in_back (visit_of p point xs) (walk t n point) (walk_all ts (n + statements_in t) point)
            (stands_all rs ls cs ts (n + statements_in t) point p xs is.1 g runs)
      ]

-- the statements are numbered one after another
abbrev Numbered : ℕ → List Placed → Type 0
Numbered n [] = ⊤
Numbered n (p ∷ ps) = (p.number ≡ n) × Numbered (n + 1) ps

numbered_append : (n : ℕ) (ps qs : List Placed) → Numbered n ps → Numbered (n + length ps) qs → Numbered n (ps ++ qs)
numbered_append n [] qs g h = subst (λ m. Numbered m qs) (omega arith) h
numbered_append n (p ∷ ps) qs g h =
    let e : n + length (p ∷ ps) ≡ (n + 1) + length ps = omega arith in
    (g.0, numbered_append (n + 1) ps qs g.1 (subst (λ m. Numbered m qs) e h))

numbered_map : (f : Placed → Placed) (n : ℕ) (ps : List Placed) → ((p : Placed) → (f p).number ≡ p.number)
    → Numbered n ps → Numbered n (map f ps)
numbered_map f n [] same h = tt
numbered_map f n (p ∷ ps) same h = (same p ∙ h.0, numbered_map f (n + 1) ps same h.1)

-- how many statements there are
mutual
  pub length-placed : (t : Tree) (n : ℕ) → length (placed t n) ≡ statements_in t
  length-placed (loop head body) n = length-map (placed_all body n) (in_loop_of n head) ∙ length-placed_all body n
  length-placed (guard tests body) n = length-map (placed_all body n) (in_guard_of tests) ∙ length-placed_all body n
  length-placed (statement s) n = refl

  length-placed_all : (ts : Trees) (n : ℕ) → length (placed_all ts n) ≡ statements_in_all ts
  length-placed_all none n = refl
  length-placed_all (more t ts) n =
      let l = length-append (placed t n) (placed_all ts (n + statements_in t)) in
      let a = length-placed t n in
      let b = length-placed_all ts (n + statements_in t) in
      omega arith

mutual
  numbered : (t : Tree) (n : ℕ) → Numbered n (placed t n)
  numbered (loop head body) n = numbered_map (in_loop_of n head) n (placed_all body n) (λ p. refl) (numbered_all body n)
  numbered (guard tests body) n =
      numbered_map (in_guard_of tests) n (placed_all body n) (λ p. refl) (numbered_all body n)
  numbered (statement s) n = (refl, tt)

  pub numbered_all : (ts : Trees) (n : ℕ) → Numbered n (placed_all ts n)
  numbered_all none n = tt
  numbered_all (more t ts) n =
      numbered_append n (placed t n) (placed_all ts (n + statements_in t)) (numbered t n)
      (subst (λ m. Numbered (n + m) (placed_all ts (n + statements_in t))) (sym (length-placed t n))
      (numbered_all ts (n + statements_in t)))

number_at : (n k : ℕ) (ps : List Placed) (p : Placed) → Numbered n ps → slice_get ps k ≡ Some p → p.number ≡ n + k
number_at n k [] p g h = absurd cc
number_at n zero (q ∷ qs) p g h = let e : q ≡ p = cc in ap (λ r. r.number) (sym e) ∙ (g.0 ∙ omega arith)
number_at n (suc k) (q ∷ qs) p g h = number_at (n + 1) k qs p g.1 h ∙ omega arith

pub placed_number : (ts : Trees) (n k : ℕ) (p : Placed) → slice_get (placed_all ts n) k ≡ Some p → p.number ≡ n + k
placed_number ts n k p h = number_at n k (placed_all ts n) p (numbered_all ts n) h

-- so its number tells a statement
pub same_statement : (ts : Trees) (n : ℕ) (p q : Placed) → In p (placed_all ts n) → In q (placed_all ts n)
    → p.number ≡ q.number → p ≡ q
same_statement ts n p q g h e =
    let i = place_of (placed_all ts n) p g in
    let j = place_of (placed_all ts n) q h in
    let a = placed_number ts n i.0 p i.1 in
    let b = placed_number ts n j.0 q j.1 in
    let same : i.0 ≡ j.0 = omega arith in
    let there : slice_get (placed_all ts n) i.0 ≡ Some q = ap (slice_get (placed_all ts n)) same ∙ j.1 in
    cc

-- as many turns as loops
pub runs_length : (scopes : List Scope) (point xs : List ℤ) → Runs scopes point xs → length xs ≡ loops_in scopes
runs_length [] point [] h = refl
runs_length [] point (x ∷ xs) h = absurd h
runs_length (under tests ∷ scopes) point xs h = runs_length scopes point xs h.1
runs_length (round head ∷ scopes) point [] h = absurd h
runs_length (round head ∷ scopes) point (x ∷ xs) h = ap suc (runs_length scopes (turn_point head point x) xs h.2)

-- and as many loops as are named
abbrev LoopsNamed : Placed → Type 0
LoopsNamed p = length p.loops ≡ loops_in p.scopes

mutual
  named : (t : Tree) (n : ℕ) (p : Placed) → In p (placed t n) → LoopsNamed p
  named (loop head body) n p h =
      let q = in_map_from (in_loop_of n head) p (placed_all body n) h in
      subst LoopsNamed (sym q.2) (ap suc (named_all body n q.0 q.1))
  named (guard tests body) n p h =
      let q = in_map_from (in_guard_of tests) p (placed_all body n) h in
      subst LoopsNamed (sym q.2) (named_all body n q.0 q.1)
  named (statement s) n p (inl e) = subst LoopsNamed (sym e) refl
  named (statement s) n p (inr h) = absurd h

  named_all : (ts : Trees) (n : ℕ) (p : Placed) → In p (placed_all ts n) → LoopsNamed p
  named_all none n p h = absurd h
  named_all (more t ts) n p h = elim (in_append p (placed t n) (placed_all ts (n + statements_in t)) h) [
    | inl g ↦ named t n p g
    | inr g ↦ named_all ts (n + statements_in t) p g
  ]

pub loops_named : (ts : Trees) (n : ℕ) (p : Placed) → In p (placed_all ts n) → length p.loops ≡ loops_in p.scopes
loops_named ts n p h = named_all ts n p h

pub found_at : (ts : Trees) (n : ℕ) (point : List ℤ) (v : Visit) → In v (walk_all ts n point)
    → Found (placed_all ts n) point v
found_at ts n point v h = found_all ts n point v h

pub ruleset instance_laws = (found_at, runs_length)

pub ruleset statement_laws = (placed_number, same_statement, loops_named)

-- no turn is negative
pub runs_not_negative : (scopes : List Scope) (point xs : List ℤ) → Runs scopes point xs → All (λ x. pos 0 ≤ℤ x) xs
runs_not_negative [] point [] h = All-nil (λ x. pos 0 ≤ℤ x)
runs_not_negative [] point (x ∷ xs) h = absurd h
runs_not_negative (under tests ∷ scopes) point xs h = runs_not_negative scopes point xs h.1
runs_not_negative (round head ∷ scopes) point [] h = absurd h
runs_not_negative (round head ∷ scopes) point (x ∷ xs) h =
    All-cons (λ x. pos 0 ≤ℤ x) x xs h.0 (runs_not_negative scopes _ xs h.2)

-- instances of one number and the same turns are one
pub one_instance : (x y : Instance) → x.number ≡ y.number → x.turns ≡ y.turns → x ≡ y
one_instance x y e f =
    let make : ℕ → List ℤ → Instance = λ n ts. record { number = n; turns = ts } in
    ap₂ make e f
