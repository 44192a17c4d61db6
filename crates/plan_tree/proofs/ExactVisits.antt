-- A tree that scans a schedule's sets visits each walked instance once, in the tiling's order.
use Rattle.scop_syntax.proofs.Common.{◌≡◌, ℕ, ◌+◌, ◌-◌, ◌<◌, ◌≤◌, ℤ, pos, List, [], ◌∷◌, ◌++◌, refl, sym, ◌∙◌, ap, ap₂}
use Rattle.scop_syntax.proofs.Common.{subst, arith, length, map, take, drop, inl, inr, drop-append_seam}
use Rattle.scop_syntax.proofs.Common.{take-append_seam, length-map, value_of, floor, LexLess, zeros, length-zeros, In}
use Rattle.scop_syntax.proofs.Common.{Sorted, Program, Instance, instance, walk_of, in_map, in_map_from, one_instance}
use Rattle.std.proofs.lemmas.List.{length-append}
use Rattle.integer_sets.specs.Points.{Satisfies}
use Rattle.integer_sets.specs.Scanned.{Scanned, iterators_at}
use Rattle.scop_syntax.specs.Walk.{Visit as Walked}
use Rattle.iteration_domains.specs.Instances.{IsInstanceOf}
use Rattle.iteration_domains.specs.Model.{Modelled, model_of}
use Rattle.loop_tree.specs.Plans.{AreInOrder, Precedes, walked}
use Rattle.loop_tree.specs.Scans.{Before, Exact, key}
use Rattle.loop_tree.specs.Tiling.{TileRow, Items, coordinates, item_value, item_values, wave_sum}
use Rattle.loop_tree.specs.Walk.{Visit, given}
use Rattle.tile_skew.specs.Items.{Block}
use Rattle.tile_skew.specs.Places.{before_iterators, place_of}
use Rattle.tile_skew.specs.ScanSets.{front_of, most_iterators, scan_set}
use Rattle.tile_skew.specs.Tilings.{statement_items, statements_from}
use Rattle.plain_scan.specs.Scanning.{GiveIterators}
use Rattle.plain_scan.specs.Sets.{IsKeyOf, Keys}
use Rattle.plan_tree.specs.Schedules.{tiling_of}
use Rattle.plan_tree.specs.steps.Scanning.{IsPlaced, place_in, set_of, sets_of}

-- what the laws of the walk, of domains and of scan sets say of a kernel's instances and their places
pub record PlaceFacts (program : Program) (params : List ℤ) (size : ℕ) (blocks : List Block) : Type 0 where
  pub found : (v : Walked) → In v (walk_of program params) → (s : Modelled) × IsInstanceOf program params s v
  pub turns : (s : Modelled) (v : Walked) → IsInstanceOf program params s v → length v.turns ≡ s.domain.dimensions
  pub one : (s t : Modelled) → In s (model_of program).statements → In t (model_of program).statements
      → s.number ≡ t.number → s ≡ t
  pub inside : (s : Modelled) → In s (model_of program).statements
      → s.number < length (model_of program).statements
  pub within : (s : Modelled) → In s (model_of program).statements
      → s.domain.dimensions ≤ most_iterators (model_of program).statements
  pub few : most_iterators (model_of program).statements ≤ 5
  pub points : (s : Modelled) (xs : List ℤ) → In s (model_of program).statements
      → length xs ≡ (set_of program size blocks s).system.dimensions
      → Satisfies (set_of program size blocks s).system (xs ++ params)
      → (v : Walked) × IsInstanceOf program params s v
      × (xs ≡ place_of (pos size) (most_iterators (model_of program).statements) (statement_items blocks s.number)
      v.turns)
  pub instances : (s : Modelled) (v : Walked) → IsInstanceOf program params s v
      → Satisfies (set_of program size blocks s).system
      (place_of (pos size) (most_iterators (model_of program).statements) (statement_items blocks s.number) v.turns
      ++ params)
  pub order : (x y : Instance) → x.number < length (model_of program).statements
      → y.number < length (model_of program).statements
      → length x.turns ≤ most_iterators (model_of program).statements
      → length y.turns ≤ most_iterators (model_of program).statements
      → LexLess (place_in program size blocks x ++ pos x.number ∷ [])
      (place_in program size blocks y ++ pos y.number ∷ [])
      → Precedes size (statements_from blocks 0 (length (model_of program).statements)) x y

-- how many dimensions stand before the iterators of a place, and in all
before_length : (size : ℤ) (s : Items) (ts : List ℤ) → length (before_iterators size s ts) ≡ front_of s
before_length size s ts =
    let first = map (λ (r : TileRow). value_of r.form ts) s.band in
    let second = map (item_value ts) s.behind in
    let cs = coordinates size s.band ts in
    let is = item_values s ts in
    let a = length-append (map pos s.leading) (wave_sum size s.band ts ∷ (cs ++ is)) in
    let b = length-append cs is in
    let d = length-append (map pos s.leading) (first ++ second) in
    let e = length-append first second in
    let f = length-map s.leading pos in
    let g = length-map s.band (λ (r : TileRow). floor (value_of r.form ts) size) in
    let h = length-map s.band (λ (r : TileRow). value_of r.form ts) in
    let i = length-map s.behind (item_value ts) in
    omega arith

place_length : (size : ℤ) (n : ℕ) (s : Items) (ts : List ℤ)
    → length (place_of size n s ts) ≡ front_of s + (length ts + (n - length ts))
place_length size n s ts =
    let a = length-append (before_iterators size s ts) (ts ++ zeros (n - length ts)) in
    let b = length-append ts (zeros (n - length ts)) in
    let c = length-zeros (n - length ts) in
    let d = before_length size s ts in
    omega arith

-- the iterators at a place are its turns
behind_front : (xs ys : List ℤ) (n : ℕ) → length xs ≡ n → drop n (xs ++ ys) ≡ ys
behind_front xs ys n e = subst (λ k. drop k (xs ++ ys) ≡ ys) e (drop-append_seam xs ys)

front_taken : (xs ys : List ℤ) (n : ℕ) → length xs ≡ n → take n (xs ++ ys) ≡ xs
front_taken xs ys n e = subst (λ k. take k (xs ++ ys) ≡ xs) e (take-append_seam xs ys)

iterators_there : (size : ℤ) (n : ℕ) (m : Modelled) (s : Items) (ts : List ℤ) → length ts ≡ m.domain.dimensions
    → iterators_at (scan_set size n m s) (place_of size n s ts) ≡ ts
iterators_there size n m s ts e =
    let rest = ts ++ zeros (n - length ts) in
    ap (take m.domain.dimensions)
    (behind_front (before_iterators size s ts) rest (front_of s) (before_length size s ts))
    ∙ front_taken ts (zeros (n - length ts)) m.domain.dimensions e

-- a key is one of a set, and the other way round
key_set : (sets : List Scanned) (params r : List ℤ) → Keys sets params r
    → (s : Scanned) × In s sets × IsKeyOf params s r
key_set [] params r k = absurd k
key_set (t ∷ sets) params r (inl k) = (t, inl refl, k)
key_set (t ∷ sets) params r (inr k) = let q = key_set sets params r k in (q.0, inr q.1, q.2)

set_key : (sets : List Scanned) (params r : List ℤ) (s : Scanned) → In s sets → IsKeyOf params s r
    → Keys sets params r
set_key [] params r s i k = absurd i
set_key (t ∷ sets) params r s (inl e) k = inl (subst (λ (q : Scanned). IsKeyOf params q r) e k)
set_key (t ∷ sets) params r s (inr i) k = inr (set_key sets params r s i k)

-- lists with one more entry at the end are equal part by part
ends : (xs ys : List ℤ) (x y : ℤ) → xs ++ x ∷ [] ≡ ys ++ y ∷ [] → (xs ≡ ys) × (x ≡ y)
ends [] [] x y e = (refl, cc)
ends [] (b ∷ ys) x y e = let l = ap length e in absurd (omega (arith, l, length-append ys (y ∷ [])))
ends (a ∷ xs) [] x y e = let l = ap length e in absurd (omega (arith, l, length-append xs (x ∷ [])))
ends (a ∷ xs) (b ∷ ys) x y e =
    let heads : a ≡ b = cc in
    let tails : xs ++ x ∷ [] ≡ ys ++ y ∷ [] = cc in
    let r = ends xs ys x y tails in
    (ap₂ (λ (z : ℤ) (zs : List ℤ). z ∷ zs) heads r.0, r.1)

one_number : (m n : ℕ) → pos m ≡ pos n → m ≡ n
one_number m n e = cc

-- a visit of a statement at the place of some turns gives these turns
given_turns : (program : Program) (params : List ℤ) (size : ℕ) (blocks : List Block) (visits : List Visit)
    → PlaceFacts program params size blocks → GiveIterators (sets_of program size blocks) visits → (v : Visit)
    → In v visits → (m : Modelled) → In m (model_of program).statements → v.number ≡ m.number → (ts : List ℤ)
    → length ts ≡ m.domain.dimensions
    → v.values ≡ place_of (pos size) (most_iterators (model_of program).statements) (statement_items blocks m.number)
    ts
    → v.turns ≡ ts
given_turns program params size blocks visits facts gives v i m among number ts sized values =
    let n = most_iterators (model_of program).statements in
    let g = gives v i in
    let q = in_map_from (set_of program size blocks) g.0 (model_of program).statements g.1 in
    let same : q.0 ≡ m = facts.one q.0 m q.1 among
    (sym (ap (λ (z : Scanned). z.statement) q.2) ∙ (g.2 ∙ number)) in
    g.3
    ∙ (ap₂ (λ (z : Scanned) (xs : List ℤ). iterators_at z xs) (q.2 ∙ ap (set_of program size blocks) same) values
    ∙ iterators_there (pos size) n m (statement_items blocks m.number) ts sized)

-- each visit gives an instance of the walk, and stands at its place
pub placed_there : (program : Program) (params : List ℤ) (size : ℕ) (blocks : List Block) (visits : List Visit)
    → PlaceFacts program params size blocks → Exact (Keys (sets_of program size blocks) params) visits
    → GiveIterators (sets_of program size blocks) visits → (v : Visit) → In v visits
    → IsPlaced program params size blocks v
placed_there program params size blocks visits facts exact gives v i =
    let n = most_iterators (model_of program).statements in
    let k = key_set (sets_of program size blocks) params (key v) (exact.none_else v i) in
    let m = in_map_from (set_of program size blocks) k.0 (model_of program).statements k.1 in
    let own : IsKeyOf params (set_of program size blocks m.0) (key v) =
    subst (λ (s : Scanned). IsKeyOf params s (key v)) m.2 k.2 in
    let e = ends v.values own.values (pos v.number) (pos m.0.number) own.is in
    let number : v.number ≡ m.0.number = one_number v.number m.0.number e.1 in
    let p = facts.points m.0 own.values m.1 own.size own.inside in
    let at = e.0 ∙ p.2 in
    let turns = given_turns program params size blocks visits facts gives v i m.0 m.1 number p.0.turns
    (facts.turns m.0 p.0 p.1) at in
    record {
      statement = m.0;
      walked = p.0;
      is = p.1;
      gives = one_instance (given v) (instance p.0) (number ∙ sym p.1.number) turns;
      values = at
          ∙ ap₂ (λ (j : ℕ) (ts : List ℤ). place_of (pos size) n (statement_items blocks j) ts) (sym number)
          (sym turns);
    }

-- places in order are instances in order
few_turns : (program : Program) (params : List ℤ) (size : ℕ) (blocks : List Block) (v : Visit)
    → PlaceFacts program params size blocks → IsPlaced program params size blocks v
    → (v.number < length (model_of program).statements)
    × (length v.turns ≤ most_iterators (model_of program).statements)
few_turns program params size blocks v facts p =
    let s = p.statement in
    let inside = facts.inside s p.is.statement in
    let within = facts.within s p.is.statement in
    let number : v.number ≡ s.number = ap (λ (x : Instance). x.number) p.gives ∙ p.is.number in
    let turns : length v.turns ≡ s.domain.dimensions =
    ap (λ (x : Instance). length x.turns) p.gives ∙ facts.turns s p.walked p.is in
    (omega (arith, number, inside), omega (arith, turns, within))

placed_before : (program : Program) (params : List ℤ) (size : ℕ) (blocks : List Block) (v w : Visit)
    → PlaceFacts program params size blocks → IsPlaced program params size blocks v
    → IsPlaced program params size blocks w → Before v w
    → Precedes size (statements_from blocks 0 (length (model_of program).statements)) (given v) (given w)
placed_before program params size blocks v w facts p q before =
    let a = few_turns program params size blocks v facts p in
    let b = few_turns program params size blocks w facts q in
    let first : LexLess (place_in program size blocks (given v) ++ pos v.number ∷ []) (key w) =
    subst (λ (xs : List ℤ). LexLess (xs ++ pos v.number ∷ []) (key w)) p.values before in
    facts.order (given v) (given w) a.0 b.0 a.1 b.1
    (subst (λ (ys : List ℤ). LexLess (place_in program size blocks (given v) ++ pos v.number ∷ [])
    (ys ++ pos w.number ∷ [])) q.values first)

-- what is in order by one relation among members is so by another
sorted_within : {A B : Type 0} (R : A → A → Type 0) (S : B → B → Type 0) (f : A → B) (xs : List A)
    → ((x y : A) → In x xs → In y xs → R x y → S (f x) (f y)) → Sorted R xs → Sorted S (map f xs)
sorted_within R S f [] h s = tt
sorted_within R S f (x ∷ xs) h s = (
  (λ z i. let k = in_map_from f z xs i in
      subst (λ u. S (f x) u) (sym k.2) (h x k.0 (inl refl) (inr k.1) (s.0 k.0 k.1))),
  sorted_within R S f xs (λ u w i j. h u w (inr i) (inr j)) s.1,
)

-- a walked instance is visited
visited_there : (program : Program) (params : List ℤ) (size : ℕ) (blocks : List Block) (visits : List Visit)
    → PlaceFacts program params size blocks → Exact (Keys (sets_of program size blocks) params) visits
    → GiveIterators (sets_of program size blocks) visits → (w : Walked) → In w (walk_of program params)
    → In (instance w) (map given visits)
visited_there program params size blocks visits facts exact gives w i =
    let ss = (model_of program).statements in
    let n = most_iterators ss in
    let f = facts.found w i in
    let m = f.0 in
    let items = statement_items blocks m.number in
    let place = place_of (pos size) n items w.turns in
    let turns = facts.turns m w f.1 in
    let long = place_length (pos size) n items w.turns in
    let own : IsKeyOf params (set_of program size blocks m) (place ++ pos m.number ∷ []) = record {
      values = place;
      is = refl;
      size = long ∙ ap (λ k. front_of items + (k + (n - k))) turns;
      inside = facts.instances m w f.1;
    } in
    let k = set_key (sets_of program size blocks) params (place ++ pos m.number ∷ []) (set_of program size blocks m)
    (in_map (set_of program size blocks) m ss f.1.statement) own in
    let a = exact.all (place ++ pos m.number ∷ []) k in
    let e = ends a.0.values place (pos a.0.number) (pos m.number) a.2 in
    let number : a.0.number ≡ m.number = one_number a.0.number m.number e.1 in
    let same = given_turns program params size blocks visits facts gives a.0 a.1 m f.1.statement number w.turns turns
    e.0 in
    subst (λ (x : Instance). In x (map given visits))
    (one_instance (given a.0) (instance w) (number ∙ sym f.1.number) same) (in_map given a.0 visits a.1)

-- the visits are the walked instances, each once, in the tiling's order
pub in_order : (program : Program) (params : List ℤ) (size : ℕ) (blocks : List Block) (visits : List Visit)
    → PlaceFacts program params size blocks → Exact (Keys (sets_of program size blocks) params) visits
    → GiveIterators (sets_of program size blocks) visits
    → AreInOrder program params (tiling_of program size blocks) (map given visits)
in_order program params size blocks visits facts exact gives =
    let count = length (model_of program).statements in
    let placed = placed_there program params size blocks visits facts exact gives in (
      sorted_within Before (Precedes size (statements_from blocks 0 count)) given visits
          (λ v w i j before. placed_before program params size blocks v w facts (placed v i) (placed w j) before)
          exact.rising,
      λ x. (
        λ i. let r = in_map_from given x visits i in
            let p = placed r.0 r.1 in
            subst (λ (z : Instance). In z (walked program params)) (sym (r.2 ∙ p.gives))
            (in_map instance p.walked (walk_of program params) p.is.walked),
        λ i. let r = in_map_from instance x (walk_of program params) i in
            subst (λ (z : Instance). In z (map given visits)) (sym r.2)
            (visited_there program params size blocks visits facts exact gives r.0 r.1),
      ),
    )
