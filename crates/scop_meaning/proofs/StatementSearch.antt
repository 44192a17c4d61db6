-- Going down to the statement of an instance.
use Rattle.std.proofs.Common.{
  ◌≡◌,
  ℕ,
  ◌+◌,
  ◌-◌,
  ◌<◌,
  ◌≤◌,
  ◌^◌,
  Bool,
  true,
  false,
  List,
  [],
  ◌∷◌,
  ◌++◌,
  length,
  take,
  drop,
  get_or,
  Option,
  Some,
  None,
  inl,
  inr,
  ap,
  subst,
  sym,
  ◌∙◌,
  refl,
  arith,
  length-append,
}
use Rattle.scop_syntax.proofs.Common.{ℤ, pos, negsuc, ◌+ℤ◌, ◌*ℤ◌, FitsSigned, unsigned_abs, nat_lt, if◌then◌else◌, w64}
use Rattle.scop_syntax.proofs.Common.{nat_tests, ints, take_all, value_of, Head, Tree, loop, guard, statement, Trees}
use Rattle.scop_syntax.proofs.Common.{none, more, Program, Act, act_of, AreAtMost, IsPlaced, ranks_of, WithinLimits, In}
use Rattle.scop_syntax.proofs.Common.{turn_point, statements_in, statements_in_all, Visit, Instance, instance}
use Rattle.scop_syntax.proofs.Common.{in_append, in_map_from}
use Rattle.std.proofs.lemmas.List.{append_assoc, append-nil}
use Rattle.scop_syntax.specs.Statements.{
  Scope,
  round,
  under,
  Placed,
  in_loop_of,
  in_guard_of,
  placed,
  placed_all,
  statements_of,
  loops_in,
  point_of,
  Runs,
  visit_of,
}
use Rattle.scop_meaning.specs.steps.Conditions.{act_at, act_at_all, CanFind}

-- a choice of two
chosen_if : (k n : ℕ) (o q : Option Act) → k < n → (if nat_lt k n then o else q) ≡ o
chosen_if k n o q h =
    let e : nat_lt k n ≡ true = grind (arith, nat_tests) in ap (λ (b : Bool). if b then o else q) e

chosen_else : (k n : ℕ) (o q : Option Act) → n ≤ k → (if nat_lt k n then o else q) ≡ q
chosen_else k n o q h =
    let e : nat_lt k n ≡ false = grind (arith, nat_tests) in ap (λ (b : Bool). if b then o else q) e

-- the point of a statement begins with the point from which it is looked for
abbrev Begins : Option Act → List ℤ → Type 0
Begins o point = (a : Act) → o ≡ Some a → (ys : List ℤ) × (a.point ≡ point ++ ys)

begins_if : (b : Bool) (o q : Option Act) (point : List ℤ) → Begins o point → Begins q point
    → Begins (if b then o else q) point
begins_if true o q point f g = f
begins_if false o q point f g = g

mutual
  begins : (t : Tree) (k : ℕ) (point xs : List ℤ) → Begins (act_at t k point xs) point
  begins (loop head body) k point [] = λ a h. absurd cc
  begins (loop head body) k point (x ∷ xs) = λ a h.
      let r = begins_all body k (turn_point head point x) xs a h in
      let v = value_of head.first point +ℤ (head.stride *ℤ x) in
      (v ∷ r.0, r.1 ∙ append_assoc point (v ∷ []) r.0)
  begins (guard tests body) k point xs = begins_all body k point xs
  begins (statement s) k point xs = λ a h.
      let e : record { body = s; point = point } ≡ a = cc in
      ([], ap (λ (b : Act). b.point) (sym e) ∙ sym (append-nil point))

  begins_all : (ts : Trees) (k : ℕ) (point xs : List ℤ) → Begins (act_at_all ts k point xs) point
  begins_all none k point xs = λ a h. absurd cc
  begins_all (more t ts) k point xs =
      begins_if (nat_lt k (statements_in t)) (act_at t k point xs) (act_at_all ts (k - statements_in t) point xs)
      point (begins t k point xs) (begins_all ts (k - statements_in t) point xs)

-- what is looked for in one item is there
if_some : (b : Bool) (o : Option Act) (a : Act) → (if b then o else None) ≡ Some a → o ≡ Some a
if_some true o a h = h
if_some false o a h = absurd cc

entry_small : (k : ℕ) (xs : List ℤ) (y : ℤ) (ys : List ℤ) → AreAtMost k (xs ++ y ∷ ys) → unsigned_abs y ≤ k
entry_small k [] y ys h = h.0
entry_small k (x ∷ xs) y ys h = entry_small k xs y ys h.1

small_fits : (z : ℤ) → unsigned_abs z ≤ 2 ^ 40 → FitsSigned w64 z
small_fits (pos n) h = omega (arith, ints)
small_fits (negsuc n) h = omega (arith, ints)

-- so the iterator of the turn can be put on the stack, and the search goes on in the body
pub record CanGoOn (room : ℕ) (head : Head) (body : Trees) (k : ℕ) (point : List ℤ) (x : ℤ) (xs : List ℤ) :
    Type 0 where
  pub space : length point < room
  pub fits : FitsSigned w64 (value_of head.first point +ℤ (head.stride *ℤ x))
  pub can : CanFind room body k (turn_point head point x) xs

can_go_on : (room : ℕ) (head : Head) (body : Trees) (k : ℕ) (point : List ℤ) (x : ℤ) (xs : List ℤ)
    → CanFind room (more (loop head body) none) k point (x ∷ xs) → CanGoOn room head body k point x xs
can_go_on room head body k point x xs c =
    let v = value_of head.first point +ℤ (head.stride *ℤ x) in
    let is = if_some (nat_lt k (statements_in_all body)) (act_at_all body k (turn_point head point x) xs) c.act c.is in
    let r = begins_all body k (turn_point head point x) xs c.act is in
    let whole : c.act.point ≡ point ++ v ∷ r.0 = r.1 ∙ append_assoc point (v ∷ []) r.0 in
    let long = ap (λ (l : List ℤ). length l) whole in
    let split = length-append point (v ∷ r.0) in
    let s = c.space in
    let f = c.few in
    record {
      space = omega arith;
      fits = small_fits v (entry_small (2 ^ 40) point v r.0 (subst (AreAtMost (2 ^ 40)) whole c.small));
      can = record { act = c.act; is = is; space = s; small = c.small; few = omega arith };
    }

-- the first turn and those behind it, as code takes them
pub can_enter : (room : ℕ) (head : Head) (body : Trees) (k : ℕ) (point turns : List ℤ)
    → CanFind room (more (loop head body) none) k point turns
    → CanGoOn room head body k point (get_or turns 0 (pos 0)) (take (length turns - 1) (drop 1 turns))
can_enter room head body k point [] c =
    absurd (let is = if_some (nat_lt k (statements_in_all body)) None c.act c.is in cc)
can_enter room head body k point (x ∷ xs) c =
    subst (CanGoOn room head body k point x) (sym (take_all (length (x ∷ xs) - 1) xs (omega arith)))
    (can_go_on room head body k point x xs c)

pub is_entered : (room : ℕ) (head : Head) (body : Trees) (k : ℕ) (point turns : List ℤ)
    → CanFind room (more (loop head body) none) k point turns
    → act_at (loop head body) k point turns
    ≡ act_at_all body k (turn_point head point (get_or turns 0 (pos 0))) (take (length turns - 1) (drop 1 turns))
is_entered room head body k point [] c =
    absurd (let is = if_some (nat_lt k (statements_in_all body)) None c.act c.is in cc)
is_entered room head body k point (x ∷ xs) c =
    ap (act_at_all body k (turn_point head point x)) (sym (take_all (length (x ∷ xs) - 1) xs (omega arith)))

-- the statements of a tree have the numbers from n on
abbrev Numbers : ℕ → ℕ → ℕ → Type 0
Numbers n k m = (n ≤ k) × (k < n + m)

mutual
  numbers : (t : Tree) (n : ℕ) (p : Placed) → In p (placed t n) → Numbers n p.number (statements_in t)
  numbers (loop head body) n p h =
      let q = in_map_from (in_loop_of n head) p (placed_all body n) h in
      subst (λ (r : Placed). Numbers n r.number (statements_in_all body)) (sym q.2) (numbers_all body n q.0 q.1)
  numbers (guard tests body) n p h =
      let q = in_map_from (in_guard_of tests) p (placed_all body n) h in
      subst (λ (r : Placed). Numbers n r.number (statements_in_all body)) (sym q.2) (numbers_all body n q.0 q.1)
  numbers (statement s) n p (inl e) =
      subst (λ (r : Placed). Numbers n r.number 1) (sym e) (omega arith, omega arith)
  numbers (statement s) n p (inr h) = absurd h

  numbers_all : (ts : Trees) (n : ℕ) (p : Placed) → In p (placed_all ts n)
      → Numbers n p.number (statements_in_all ts)
  numbers_all none n p h = absurd h
  numbers_all (more t ts) n p h = elim (in_append p (placed t n) (placed_all ts (n + statements_in t)) h) [
    | inl g ↦ let r = numbers t n p g in (omega (arith, r.0), omega (arith, r.1))
    | inr g ↦ let r = numbers_all ts (n + statements_in t) p g in (omega (arith, r.0), omega (arith, r.1))
  ]

-- an instance of a statement is found by the statement's number and the turns
abbrev Leads : Option Act → Placed → List ℤ → List ℤ → Type 0
Leads o p point xs = o ≡ Some (act_of (visit_of p point xs))

mutual
  leads : (t : Tree) (n : ℕ) (point xs : List ℤ) (p : Placed) → In p (placed t n) → Runs p.scopes point xs
      → Leads (act_at t (p.number - n) point xs) p point xs
  leads (loop head body) n point [] p h runs =
      let q = in_map_from (in_loop_of n head) p (placed_all body n) h in
      absurd (subst (λ (r : Placed). Runs r.scopes point []) q.2 runs)
  leads (loop head body) n point (x ∷ xs) p h runs =
      let q = in_map_from (in_loop_of n head) p (placed_all body n) h in
      subst (λ (r : Placed). Runs r.scopes point (x ∷ xs)
      → Leads (act_at (loop head body) (r.number - n) point (x ∷ xs)) r point (x ∷ xs))
      (sym q.2) (λ g. leads_all body n (turn_point head point x) xs q.0 q.1 g.2) runs
  leads (guard tests body) n point xs p h runs =
      let q = in_map_from (in_guard_of tests) p (placed_all body n) h in
      subst (λ (r : Placed). Runs r.scopes point xs → Leads (act_at_all body (r.number - n) point xs) r point xs)
      (sym q.2) (λ g. leads_all body n point xs q.0 q.1 g.1) runs
  leads (statement s) n point [] p (inl e) runs =
      subst (λ (r : Placed). Leads (Some (record { body = s; point = point })) r point []) (sym e) refl
  leads (statement s) n point (x ∷ xs) p (inl e) runs =
      absurd (subst (λ (r : Placed). Runs r.scopes point (x ∷ xs)) e runs)
  leads (statement s) n point xs p (inr h) runs = absurd h

  leads_all : (ts : Trees) (n : ℕ) (point xs : List ℤ) (p : Placed) → In p (placed_all ts n)
      → Runs p.scopes point xs
      → Leads (act_at_all ts (p.number - n) point xs) p point xs
  leads_all none n point xs p h runs = absurd h
  leads_all (more t ts) n point xs p h runs =
      elim (in_append p (placed t n) (placed_all ts (n + statements_in t)) h) [
        | inl g ↦
            let r = numbers t n p g in
            let low : p.number - n < statements_in t = omega (arith, r.0, r.1) in
            chosen_if (p.number - n) (statements_in t) _ _ low ∙ leads t n point xs p g runs
        | inr g ↦
            let r = numbers_all ts (n + statements_in t) p g in
            let far : statements_in t ≤ p.number - n = omega (arith, r.0) in
            let on : (p.number - n) - statements_in t ≡ p.number - (n + statements_in t) = omega (arith, r.0) in
            chosen_else (p.number - n) (statements_in t) _ _ far
            ∙ (ap (λ k. act_at_all ts k point xs) on ∙ leads_all ts (n + statements_in t) point xs p g runs)
      ]

-- how long the point of an instance is
length-point_of : (scopes : List Scope) (point xs : List ℤ) → Runs scopes point xs
    → length (point_of scopes point xs) ≡ length point + loops_in scopes
length-point_of [] point [] h = omega arith
length-point_of [] point (x ∷ xs) h = absurd h
length-point_of (under tests ∷ scopes) point xs h = length-point_of scopes point xs h.1
length-point_of (round head ∷ scopes) point [] h = absurd h
length-point_of (round head ∷ scopes) point (x ∷ xs) h =
    let l = length-append point ((value_of head.first point +ℤ (head.stride *ℤ x)) ∷ []) in
    let r = length-point_of scopes (turn_point head point x) xs h.2 in
    omega arith

-- a visit as one of a statement
abbrev pub Stood : Program → List ℤ → Visit → Type 0
Stood p params v =
    (q : Placed) × (xs : List ℤ) × In q (statements_of p) × Runs q.scopes params xs × (v ≡ visit_of q params xs)

visit_leads : (p : Program) (params : List ℤ) (v : Visit) → Stood p params v
    → act_at_all p.body v.number params v.turns ≡ Some (act_of v)
visit_leads p params v s =
    let z : s.0.number ≡ s.0.number - 0 = omega arith in
    subst (λ (w : Visit). act_at_all p.body w.number params w.turns ≡ Some (act_of w)) (sym s.4)
    (ap (λ k. act_at_all p.body k params s.1) z ∙ leads_all p.body 0 params s.1 s.0 s.2 s.3)

-- so a walked instance can be looked for
pub can_find : (p : Program) (params : List ℤ) (v : Visit) (s : Stood p params v) → WithinLimits p params
    → IsPlaced (ranks_of p) (length p.parameters) s.0 → AreAtMost (2 ^ 40) (point_of s.0.scopes params s.1)
    → CanFind 9 p.body v.number params v.turns
can_find p params v s w is small =
    let l = length-point_of s.0.scopes params s.1 s.3 in
    let few = w.kernel.few_parameters in
    let same = w.count in
    let loops = is.few_loops in
    subst (λ (u : Visit). CanFind 9 p.body u.number params u.turns) (sym s.4)
    (record {
      act = act_of (visit_of s.0 params s.1);
      is = visit_leads p params (visit_of s.0 params s.1) (s.0, s.1, s.2, s.3, refl);
      space = omega arith;
      small = small;
      few = w.kernel.few_statements;
    })

-- and what is found is its visit
pub found_visit : (p : Program) (params : List ℤ) (i : Instance) (v : Visit) (ts : Trees) (k : ℕ) (point xs : List ℤ)
    (a : Act)
    → Stood p params v → instance v ≡ i → ts ≡ p.body → k ≡ i.number → point ≡ params → xs ≡ i.turns
    → act_at_all ts k point xs ≡ Some a → a ≡ act_of v
found_visit p params i v ts k point xs a s same body number from turns is =
    let l = visit_leads p params v s in
    let n : v.number ≡ i.number = ap (λ (j : Instance). j.number) same in
    let t : v.turns ≡ i.turns = ap (λ (j : Instance). j.turns) same in
    cc
