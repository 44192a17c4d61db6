-- A tree that scans a predicate visits its keys, each once, no other, in rising order.
use Rattle.scop_syntax.proofs.Common.{◌≡◌, ℕ, zero, suc, Bool, true, false, ℤ, pos, List, [], ◌∷◌, ◌++◌, map, ◌⊎◌, inl}
use Rattle.scop_syntax.proofs.Common.{inr, ap, subst, sym, refl, ◌∙◌, arith, ◌↔◌, ◌<ℤ◌, if◌then◌else◌, ints, LexLess}
use Rattle.scop_syntax.proofs.Common.{In, Sorted, Program, Instance, in_front, in_back, in_append, in_map, in_map_from}
use Rattle.scop_syntax.proofs.Common.{in_if, in_if_from, sorted_append, sorted_map}
use Rattle.loop_tree.specs.Tree.{Tree, loop, guard, instance, Trees, none, more}
use Rattle.loop_tree.specs.Walk.{lower, upper, all_hold, Visit, through, walk, walk_all}
use Rattle.loop_tree.specs.Scans.{key, Before, Exact}
use Rattle.loop_tree.specs.steps.Scanning.{Spans, SpansAll, Covers, Scans, ScansAll, AreKeys}
use Rattle.loop_tree.specs.Plans.{AreInOrder, walked}
use Rattle.loop_tree.specs.Tiling.{Tiling, kept, tiled}
use Rattle.loop_tree.proofs.Lists.{in_between_from, in_between, sorted_between}

-- a visit's key begins with a value that the tree spans
abbrev Begins : (ℤ → Type 0) → Visit → Type 0
Begins S v = (x : ℤ) × (r : List ℤ) × (key v ≡ x ∷ r) × S x

begins_all_left : (S T : ℤ → Type 0) (v : Visit) → Begins S v → Begins (λ x. S x ⊎ T x) v
begins_all_left S T v b = (b.0, b.1, b.2, inl b.3)

begins_all_right : (S T : ℤ → Type 0) (v : Visit) → Begins T v → Begins (λ x. S x ⊎ T x) v
begins_all_right S T v b = (b.0, b.1, b.2, inr b.3)

mutual
  pub begins : (t : Tree) (params outer : List ℤ) (v : Visit) → In v (walk t params outer)
      → Begins (Spans t params outer) v
  begins (loop flag lo up body) params outer v h =
      let r =
      in_between_from (λ x. map (through flag x) (walk_all body params (outer ++ x ∷ []))) v
      (lower lo (outer ++ params)) (upper up (outer ++ params)) h in
      let m = in_map_from (through flag r.0) v (walk_all body params (outer ++ r.0 ∷ [])) r.3 in
      (r.0, key m.0, ap key m.2, (r.1, r.2))
  begins (guard tests body) params outer v h =
      let g = in_if_from (all_hold tests (outer ++ params)) v (walk_all body params outer) h in
      let b = begins_all body params outer v g.1 in (b.0, b.1, b.2, (g.0, b.3))
  begins (instance n forms) params outer v (inl e) = (pos n, [], ap key e, refl)
  begins (instance n forms) params outer v (inr h) = absurd h

  pub begins_all : (ts : Trees) (params outer : List ℤ) (v : Visit) → In v (walk_all ts params outer)
      → Begins (SpansAll ts params outer) v
  begins_all none params outer v h = absurd h
  begins_all (more t ts) params outer v h =
      elim (in_append v (walk t params outer) (walk_all ts params outer) h) [
        | inl g ↦ begins_all_left (Spans t params outer) (SpansAll ts params outer) v (begins t params outer v g)
        | inr g ↦ begins_all_right (Spans t params outer) (SpansAll ts params outer) v (begins_all ts params outer v g)
      ]

-- no other
mutual
  pub sound : (k : ℕ) (P : List ℤ → Type 0) (t : Tree) (params outer : List ℤ) → Scans k P t params outer
      → (v : Visit) → In v (walk t params outer) → P (key v)
  sound zero P (loop flag lo up body) params outer s v h = absurd s
  sound (suc k) P (loop flag lo up body) params outer s v h =
      let r =
      in_between_from (λ x. map (through flag x) (walk_all body params (outer ++ x ∷ []))) v
      (lower lo (outer ++ params)) (upper up (outer ++ params)) h in
      let m = in_map_from (through flag r.0) v (walk_all body params (outer ++ r.0 ∷ [])) r.3 in
      let p = sound_all k (λ q. P (r.0 ∷ q)) body params (outer ++ r.0 ∷ []) (s r.0 (r.1, r.2)).1 m.0 m.1 in
      subst P (sym (ap key m.2)) p
  sound k P (guard tests body) params outer s v h =
      let g = in_if_from (all_hold tests (outer ++ params)) v (walk_all body params outer) h in
      sound_all k P body params outer (s g.0) v g.1
  sound zero P (instance n forms) params outer s v (inl e) = subst P (sym (ap key e)) s
  sound zero P (instance n forms) params outer s v (inr h) = absurd h
  sound (suc k) P (instance n forms) params outer s v h = absurd s

  pub sound_all : (k : ℕ) (P : List ℤ → Type 0) (ts : Trees) (params outer : List ℤ) → ScansAll k P ts params outer
      → (v : Visit) → In v (walk_all ts params outer) → P (key v)
  sound_all k P none params outer s v h = absurd h
  sound_all k P (more t ts) params outer s v h =
      elim (in_append v (walk t params outer) (walk_all ts params outer) h) [
        | inl g ↦ sound k P t params outer s.0 v g
        | inr g ↦ sound_all k P ts params outer s.1 v g
      ]

-- in rising order, so each once
before_through : (flag : Bool) (x : ℤ) (v w : Visit) → Before v w → Before (through flag x v) (through flag x w)
before_through flag x v w h = inr (refl, h)

before_values : (S T : ℤ → Type 0) (v w : Visit) → Begins S v → Begins T w
    → ((x y : ℤ) → S x → T y → x <ℤ y) → Before v w
before_values S T v w a b less =
    subst (λ q. LexLess q (key w)) (sym a.2)
    (subst (λ q. LexLess (a.0 ∷ a.1) q) (sym b.2) (inl (less a.0 b.0 a.3 b.3)))

sorted_guard : (b : Bool) (xs : List Visit) → (b ≡ true → Sorted Before xs)
    → Sorted Before (if b then xs else [])
sorted_guard true xs h = h refl
sorted_guard false xs h = tt

mutual
  pub rising : (k : ℕ) (P : List ℤ → Type 0) (t : Tree) (params outer : List ℤ) → Scans k P t params outer
      → Sorted Before (walk t params outer)
  rising zero P (loop flag lo up body) params outer s = absurd s
  rising (suc k) P (loop flag lo up body) params outer s =
      let inner : ℤ → List Visit = λ x. walk_all body params (outer ++ x ∷ []) in
      sorted_between Before (λ x. map (through flag x) (inner x)) (lower lo (outer ++ params))
      (upper up (outer ++ params))
      (λ x a b.
      sorted_map Before Before (through flag x) (inner x) (before_through flag x)
      (rising_all k (λ q. P (x ∷ q)) body params (outer ++ x ∷ []) (s x (a, b)).1))
      (λ x y v w less g h.
      let a = in_map_from (through flag x) v (inner x) g in
      let b = in_map_from (through flag y) w (inner y) h in
      before_values (λ z. z ≡ x) (λ z. z ≡ y) v w (x, key a.0, ap key a.2, refl) (y, key b.0, ap key b.2, refl)
      (λ p q e f. omega (arith, ints)))
  rising k P (guard tests body) params outer s =
      sorted_guard (all_hold tests (outer ++ params)) (walk_all body params outer)
      (λ e. rising_all k P body params outer (s e))
  rising zero P (instance n forms) params outer s = ((λ w h. absurd h), tt)
  rising (suc k) P (instance n forms) params outer s = absurd s

  pub rising_all : (k : ℕ) (P : List ℤ → Type 0) (ts : Trees) (params outer : List ℤ) → ScansAll k P ts params outer
      → Sorted Before (walk_all ts params outer)
  rising_all k P none params outer s = tt
  rising_all k P (more t ts) params outer s =
      sorted_append Before (walk t params outer) (walk_all ts params outer) (rising k P t params outer s.0)
      (rising_all k P ts params outer s.1)
      (λ v w g h.
      before_values (Spans t params outer) (SpansAll ts params outer) v w (begins t params outer v g)
      (begins_all ts params outer w h) s.2)

-- none left out
parts : (k : ℕ) (P : List ℤ → Type 0) → AreKeys k P → (r : List ℤ) → P r
    → (x : ℤ) × (q : List ℤ) × (r ≡ x ∷ q)
parts k P keys [] p = let l = keys [] p in absurd (omega (arith, l))
parts k P keys (x ∷ q) p = (x, q, refl)

mutual
  pub complete : (k : ℕ) (P : List ℤ → Type 0) (t : Tree) (params outer : List ℤ) → Scans k P t params outer
      → AreKeys k P → (x : ℤ) (r : List ℤ) → P (x ∷ r) → Spans t params outer x
      → (v : Visit) × In v (walk t params outer) × (key v ≡ x ∷ r)
  complete zero P (loop flag lo up body) params outer s keys x r p h = absurd s
  complete (suc k) P (loop flag lo up body) params outer s keys x r p h =
      let inner : ℤ → List Visit = λ y. walk_all body params (outer ++ y ∷ []) in
      let here = s x h in
      let within : AreKeys k (λ q. P (x ∷ q)) = λ q g. let l = keys (x ∷ q) g in omega (arith, l) in
      let c = parts k (λ q. P (x ∷ q)) within r p in
      let p2 = subst (λ q. P (x ∷ q)) c.2 p in
      let deep =
      complete_all k (λ q. P (x ∷ q)) body params (outer ++ x ∷ []) here.1 within c.0 c.1 p2 (here.0 c.0 c.1 p2) in (
        through flag x deep.0,
        in_between (λ y. map (through flag y) (inner y)) (through flag x deep.0) (lower lo (outer ++ params))
            (upper up (outer ++ params)) x h.0 h.1 (in_map (through flag x) deep.0 (inner x) deep.1),
        ap (λ q. x ∷ q) (deep.2 ∙ sym c.2),
      )
  complete k P (guard tests body) params outer s keys x r p h =
      let deep = complete_all k P body params outer (s h.0) keys x r p h.1 in
      (deep.0, in_if (all_hold tests (outer ++ params)) deep.0 (walk_all body params outer) h.0 deep.1, deep.2)
  complete zero P (instance n forms) params outer s keys x [] p h = (_, inl refl, ap (λ y. y ∷ []) (sym h))
  complete zero P (instance n forms) params outer s keys x (y ∷ r) p h =
      let l = keys (x ∷ y ∷ r) p in absurd (omega (arith, l))
  complete (suc k) P (instance n forms) params outer s keys x r p h = absurd s

  pub complete_all : (k : ℕ) (P : List ℤ → Type 0) (ts : Trees) (params outer : List ℤ)
      → ScansAll k P ts params outer → AreKeys k P → (x : ℤ) (r : List ℤ) → P (x ∷ r)
      → SpansAll ts params outer x → (v : Visit) × In v (walk_all ts params outer) × (key v ≡ x ∷ r)
  complete_all k P none params outer s keys x r p h = absurd h
  complete_all k P (more t ts) params outer s keys x r p (inl h) =
      let d = complete k P t params outer s.0 keys x r p h in
      (d.0, in_front d.0 (walk t params outer) (walk_all ts params outer) d.1, d.2)
  complete_all k P (more t ts) params outer s keys x r p (inr h) =
      let d = complete_all k P ts params outer s.1 keys x r p h in
      (d.0, in_back d.0 (walk t params outer) (walk_all ts params outer) d.1, d.2)

pub complete_in : (k : ℕ) (P : List ℤ → Type 0) (ts : Trees) (params outer : List ℤ) → ScansAll k P ts params outer
    → Covers P ts params outer → AreKeys k P → (r : List ℤ) → P r
    → (v : Visit) × In v (walk_all ts params outer) × (key v ≡ r)
complete_in k P ts params outer s covers keys r p =
    let c = parts k P keys r p in
    let p2 = subst P c.2 p in
    let d = complete_all k P ts params outer s keys c.0 c.1 p2 (covers c.0 c.1 p2) in
    (d.0, d.1, d.2 ∙ sym c.2)

pub exact : (k : ℕ) (P : List ℤ → Type 0) (ts : Trees) (params outer : List ℤ) → AreKeys k P
    → Covers P ts params outer → ScansAll k P ts params outer → Exact P (walk_all ts params outer)
exact k P ts params outer keys covers s = record {
  rising = rising_all k P ts params outer s;
  none_else = sound_all k P ts params outer s;
  all = complete_in k P ts params outer s covers keys;
}

-- instances in a plan's order are those of the walk
pub listed_same : (program : Program) (params : List ℤ) (plan : Tiling) (xs : List Instance)
    → AreInOrder program params plan xs → (x : Instance) → In x xs ↔ In x (walked program params)
listed_same program params kept xs same x = (λ i. subst (In x) same i, λ i. subst (In x) (sym same) i)
listed_same program params (tiled size statements) xs (sorted, all) x = all x
