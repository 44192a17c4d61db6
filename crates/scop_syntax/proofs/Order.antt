-- The walk stands in the order of its instances.
use Rattle.whole_numbers.proofs.Common.{◌≡◌, ℕ, suc, ◌+◌, ◌<◌, true, ℤ, pos, List, [], ◌∷◌, map, Some, inl, inr, subst}
use Rattle.whole_numbers.proofs.Common.{length, sym, refl, arith, ap, ◌∙◌, ◌⊎◌, ◌++◌, ◌≤◌, ◌↔◌, slice_get, nat_eq, ⊤}
use Rattle.whole_numbers.proofs.Common.{ints, eq-eqb, take_all, LexLess, LexLess-irrefl, LexLess-asym, nat_eq_below}
use Rattle.whole_numbers.proofs.Lexicographic.{LexLess-append}
use Rattle.scop_syntax.specs.Tree.{Tree, loop, guard, statement, Trees, none, more}
use Rattle.scop_syntax.specs.Members.{In, Sorted}
use Rattle.scop_syntax.specs.Walk.{all_hold, turn_point, condition_at, most_turns, turns, statements_in}
use Rattle.scop_syntax.specs.Walk.{statements_in_all, Visit, within, walk, walk_all}
use Rattle.scop_syntax.specs.Order.{common, key, Before}
use Rattle.scop_syntax.proofs.Members.{nat_cases, in_append, in_map_from, in_if_from, in_turns_from, sorted_append}
use Rattle.scop_syntax.proofs.Members.{sorted_map, sorted_if, sorted_turns, sorted_places}

-- the outermost loop begins with one of the m statements from n on
abbrev StartsIn : ℕ → ℕ → List ℕ → Type 0
StartsIn n m [] = ⊤
StartsIn n m (l ∷ ls) = (n ≤ l) × (l < n + m)

-- the visit is one of these statements
record InRange (n m : ℕ) (v : Visit) : Type 0 where
  pub from : n ≤ v.number
  pub below : v.number < n + m
  pub loops : StartsIn n m v.loops

wider : (n m k : ℕ) (ls : List ℕ) → StartsIn n m ls → StartsIn n (m + k) ls
wider n m k [] h = h
wider n m k (l ∷ ls) h = (h.0, omega (arith, h.1))

further : (n m k : ℕ) (ls : List ℕ) → StartsIn (n + m) k ls → StartsIn n (m + k) ls
further n m k [] h = h
further n m k (l ∷ ls) h = (omega (arith, h.0), omega (arith, h.1))

mutual
  ranges : (t : Tree) (n : ℕ) (point : List ℤ) (v : Visit) → In v (walk t n point) → InRange n (statements_in t) v
  ranges (loop head body) n point v h =
      let c : ℕ → ℤ = λ k. condition_at head point (pos k) in
      let inner : ℕ → List Visit = λ k. map (within n (pos k)) (walk_all body n (turn_point head point (pos k))) in
      let g = in_turns_from c inner v (most_turns (c 0)) 0 h in
      let u = in_map_from (within n (pos g.0)) v (walk_all body n (turn_point head point (pos g.0))) g.3 in
      let r = ranges_all body n (turn_point head point (pos g.0)) u.0 u.1 in
      subst (InRange n (statements_in_all body)) (sym u.2)
      (record { from = r.from; below = r.below; loops = (omega arith, omega (arith, r.from, r.below)) })
  ranges (guard tests body) n point v h =
      ranges_all body n point v (in_if_from (all_hold tests point) v (walk_all body n point) h).1
  ranges (statement s) n point v (inl e) =
      subst (InRange n 1) (sym e) (record { from = omega arith; below = omega arith; loops = tt })
  ranges (statement s) n point v (inr h) = absurd h

  ranges_all : (ts : Trees) (n : ℕ) (point : List ℤ) (v : Visit) → In v (walk_all ts n point)
      → InRange n (statements_in_all ts) v
  ranges_all none n point v h = absurd h
  ranges_all (more t ts) n point v h = elim (in_append v (walk t n point) (walk_all ts (n + statements_in t) point) h) [
    | inl g ↦ let r =
        ranges t n point v g in
        record {
          from = r.from;
          below = omega (arith, r.below);
          loops = wider n (statements_in t)
              (statements_in_all ts) v.loops r.loops;
        }
    | inr g ↦ let r = ranges_all ts (n + statements_in t) point v g in
        record {
          from = omega (arith, r.from);
          below = omega (arith, r.below);
          loops = further n (statements_in t)
              (statements_in_all ts) v.loops r.loops;
        }
  ]

nat_eq_refl : (n : ℕ) → nat_eq n n ≡ true
nat_eq_refl n = eq-eqb n n refl

-- no loop is common to statements of two items
apart : (n m k : ℕ) (ks ls : List ℕ) → StartsIn n m ks → StartsIn (n + m) k ls → common ks ls ≡ 0
apart n m k [] ls g h = refl
apart n m k (i ∷ is) [] g h = refl
apart n m k (i ∷ is) (j ∷ js) g h = rw (nat_eq_below i j (omega (arith, g.1, h.0))) refl

-- one more loop is common to visits of its body
one_more : (l : ℕ) (ks ls : List ℕ) → common (l ∷ ks) (l ∷ ls) ≡ suc (common ks ls)
one_more l ks ls = rw (nat_eq_refl l) refl

before_text : (n m k : ℕ) (v w : Visit) → InRange n m v → InRange (n + m) k w → Before v w
before_text n m k v w r s =
    subst (λ c. LexLess (key c v) (key c w)) (sym (apart n m k v.loops w.loops r.loops s.loops))
    (inl (let a = r.below in let b = s.from in omega (arith, ints)))

before_within : (l : ℕ) (x : ℤ) (v w : Visit) → Before v w → Before (within l x v) (within l x w)
before_within l x v w h =
    subst (λ c. LexLess (key c (within l x v)) (key c (within l x w))) (sym (one_more l v.loops w.loops))
    (inr (refl, h))

before_turn : (l j k : ℕ) (v w : Visit) → j < k → Before (within l (pos j) v) (within l (pos k) w)
before_turn l j k v w h =
    subst (λ c. LexLess (key c (within l (pos j) v)) (key c (within l (pos k) w))) (sym (one_more l v.loops w.loops))
    (inl (omega (arith, ints)))

mutual
  sorted : (t : Tree) (n : ℕ) (point : List ℤ) → Sorted Before (walk t n point)
  sorted (loop head body) n point =
      let c : ℕ → ℤ = λ k. condition_at head point (pos k) in
      let items : ℕ → List Visit = λ k. walk_all body n (turn_point head point (pos k)) in
      sorted_turns Before c (λ k. map (within n (pos k)) (items k))
      (λ k. sorted_map Before Before (within n (pos k)) (items k) (before_within n (pos k))
      (sorted_all body n (turn_point head point (pos k))))
      (λ j k v w less g h.
      let a = in_map_from (within n (pos j)) v (items j) g in
      let b = in_map_from (within n (pos k)) w (items k) h in
      subst (λ z. Before z w) (sym a.2)
      (subst (λ z. Before (within n (pos j) a.0) z) (sym b.2) (before_turn n j k a.0 b.0 less)))
      (most_turns (c 0)) 0
  sorted (guard tests body) n point =
      sorted_if Before (all_hold tests point) (walk_all body n point) (sorted_all body n point)
  sorted (statement s) n point = ((λ w h. absurd h), tt)

  sorted_all : (ts : Trees) (n : ℕ) (point : List ℤ) → Sorted Before (walk_all ts n point)
  sorted_all none n point = tt
  sorted_all (more t ts) n point =
      sorted_append Before (walk t n point) (walk_all ts (n + statements_in t) point) (sorted t n point)
      (sorted_all ts (n + statements_in t) point)
      (λ v w g h. before_text n (statements_in t) (statements_in_all ts) v w (ranges t n point v g)
      (ranges_all ts (n + statements_in t) point w h))

-- the order of instances is strict
pub common-comm : (ks ls : List ℕ) → common ks ls ≡ common ls ks
common-comm [] [] = refl
common-comm [] (l ∷ ls) = refl
common-comm (k ∷ ks) [] = refl
common-comm (k ∷ ks) (l ∷ ls) = let rest = common-comm ks ls in grind arith

pub before_irrefl : (v : Visit) → Before v v → ⊥
before_irrefl v h = LexLess-irrefl (key (common v.loops v.loops) v) h

pub before_asym : (v w : Visit) → Before v w → Before w v → ⊥
before_asym v w g h =
    let back = subst (λ c. LexLess (key c w) (key c v)) (common-comm w.loops v.loops) h in
    LexLess-asym (key (common v.loops w.loops) v) (key (common v.loops w.loops) w) g back

-- so places are ordered as instances
pub place_order : (ts : Trees) (n : ℕ) (point : List ℤ) (i j : ℕ) (v w : Visit)
    → slice_get (walk_all ts n point) i ≡ Some v → slice_get (walk_all ts n point) j ≡ Some w → (i < j) ↔ Before v w
place_order ts n point i j v w a b =
    let xs = walk_all ts n point in
    let s = sorted_all ts n point in (
      sorted_places Before xs s i j v w a b,
      λ h. nat_cases i j (λ less. less)
          (λ same. let e : v ≡ w = cc in absurd (before_irrefl w (subst (λ z. Before z w) e h)))
          (λ more. absurd (before_asym v w h (sorted_places Before xs s j i w v b a more))),
    )

-- the key is the statement's number and the turns
key_same : (c : ℕ) (v w : Visit) → v.number ≡ w.number → v.turns ≡ w.turns → key c v ≡ key c w
key_same c v w number turns = rw (number, turns) refl

pub one_place : (ts : Trees) (n : ℕ) (point : List ℤ) (i j : ℕ) (v w : Visit)
    → slice_get (walk_all ts n point) i ≡ Some v → slice_get (walk_all ts n point) j ≡ Some w
    → v.number ≡ w.number → v.turns ≡ w.turns → i ≡ j
one_place ts n point i j v w a b number turns =
    let xs = walk_all ts n point in
    let s = sorted_all ts n point in
    nat_cases i j
    (λ less. let c = common v.loops w.loops in
    absurd (LexLess-irrefl (key c w)
    (subst (λ k. LexLess k (key c w)) (key_same c v w number turns)
    (sorted_places Before xs s i j v w a b less))))
    (λ same. same)
    (λ more. let c = common w.loops v.loops in
    absurd (LexLess-irrefl (key c w)
    (subst (λ k. LexLess (key c w) k) (key_same c v w number turns)
    (sorted_places Before xs s j i w v b a more))))

pub ruleset order_laws = (place_order, one_place)

-- all loops of a statement are common to two of its instances, of which the earlier has the less turns
all_common : (ls : List ℕ) → common ls ls ≡ length ls
all_common [] = refl
all_common (l ∷ ls) = rw (eq-eqb l l refl) (ap suc (all_common ls))

pub own_order : (v w : Visit) → length v.loops ≡ length v.turns → length w.loops ≡ length w.turns → v.number ≡ w.number
    → v.loops ≡ w.loops → Before v w → LexLess v.turns w.turns
own_order v w e f number loops h =
    let n = length v.turns in
    let c : common v.loops w.loops ≡ n = subst (λ ls. common v.loops ls ≡ n) loops (all_common v.loops ∙ e) in
    let same : n ≡ length w.turns = sym e ∙ (ap length loops ∙ f) in
    let first : key n v ≡ v.turns ++ pos v.number ∷ [] =
    ap (λ us. us ++ pos v.number ∷ []) (take_all n v.turns (omega arith)) in
    let second : key n w ≡ w.turns ++ pos w.number ∷ [] =
    ap (λ us. us ++ pos w.number ∷ []) (take_all n w.turns (omega (arith, same))) in
    let cut : LexLess (key n v) (key n w) = subst (λ k. LexLess (key k v) (key k w)) c h in
    let whole : LexLess (v.turns ++ pos v.number ∷ []) (w.turns ++ pos w.number ∷ []) =
    subst (λ us. LexLess (v.turns ++ pos v.number ∷ []) us) second (subst (λ us. LexLess us (key n w)) first cut) in
    decided (LexLess-append v.turns w.turns (pos v.number ∷ []) (pos w.number ∷ []) same whole)
  where
    decided : LexLess v.turns w.turns ⊎ ((v.turns ≡ w.turns) × LexLess (pos v.number ∷ []) (pos w.number ∷ []))
        → LexLess v.turns w.turns
    decided (inl l) = l
    decided (inr s) = absurd (LexLess-irrefl (pos w.number ∷ [])
        (subst (λ n. LexLess (pos n ∷ []) (pos w.number ∷ [])) number s.1))
