-- An event leaves as many workers as there were, and each claim took a tile or ended a worker.
use Rattle.scop_syntax.proofs.Common.{◌≡◌, ◌⊎◌, ⊎_elim, inl, inr, ◌&&◌, Bool, true, false, ℕ, suc, ◌≤◌, List, [], ◌∷◌}
use Rattle.scop_syntax.proofs.Common.{◌++◌, length, set, refl, arith, nat_lt, nat_le, nat_eq, get_or, if◌then◌else◌}
use Rattle.scop_syntax.proofs.Common.{ltb-true, length-set, some, get_elem?}
use mathlib.Core.Option.{none}
use mathlib.Core.Option as plain
use Rattle.tile_events.specs.Plan.{Plan}
use Rattle.tile_events.specs.Core.{Worker, idle, ended, holding, working, State, Seen, Event, claim}
use Rattle.tile_events.specs.Core.{open_tile, load, store, add, release, finish, cell_read, acts, step, step_of}
use Rattle.tile_events.specs.Core.{seen_by, needed_by, last_act, is_last_act, written_to}
use Rattle.tile_events.specs.Rule.{if_ended, AreCounted}
use Rattle.tile_events.specs.steps.Changes.{moved}
use Rattle.tile_events.proofs.Workers.{total_set}

-- what an event keeps
record Keeps (p : Plan) (s r : State) : Type 0 where
  workers : length r.workers ≡ length s.workers
  claims : AreCounted p s → AreCounted p r

if_kept : (P : State → Type 0) (b : Bool) (x y : State × Seen) → (b ≡ true → P x.0) → P y.0
    → P (if b then x else y).0
if_kept P true x y f g = f refl
if_kept P false x y f g = g

same : (p : Plan) (s : State) → Keeps p s s
same p s = record { workers = refl; claims = λ h. h }

-- a worker that had not ended changes: no claim more, or one that took a tile, or one that ended the worker
changed : (p : Plan) (s : State) (id n m : ℕ) (cs : List ℕ) (v w : Worker) → get_elem? s.workers id ≡ some v
    → if_ended v 1 ≡ 0 → n ≤ s.claims ⊎ (n ≤ p.tiles ⊎ (n ≤ suc s.claims × (if_ended w 1 ≡ 1)))
    → Keeps p s (moved s id w n m cs)
changed p s id n m cs v w here unended few = record {
  workers = length-set s.workers id w;
  claims = λ h. let t = total_set (λ w. if_ended w 1) s.workers id v w here in
      ⊎_elim (λ (a : n ≤ s.claims). omega (arith, t, unended, a, h))
      (⊎_elim (λ (a : n ≤ p.tiles). omega (arith, a))
      (λ (a : n ≤ suc s.claims × (if_ended w 1 ≡ 1)). let x = a.0 in
      let y = a.1 in
      omega (arith, t, unended, x, y, h)))
      few;
}

-- the same where no claim is made
unclaimed : (p : Plan) (s : State) (id m : ℕ) (cs : List ℕ) (v w : Worker) → get_elem? s.workers id ≡ some v
    → if_ended v 1 ≡ 0 → Keeps p s (moved s id w s.claims m cs)
unclaimed p s id m cs v w here unended = changed p s id s.claims m cs v w here unended (inl (omega arith))

-- the last act of an instance
last_act_kept : (p : Plan) (s : State) (id t k : ℕ) (xs : List ℕ) (e : Event)
    → get_elem? s.workers id ≡ some (working t k xs) → Keeps p s (last_act p s id t k xs e).0
last_act_kept p s id t k xs e here =
    if_kept (Keeps p s) (nat_lt k (p.size t)) _ _
    (λ b. if_kept (Keeps p s)
    (nat_eq (length xs) (length (p.read (p.place t k))) && is_last_act p e (p.written (p.place t k))) _ _
    (λ c. unclaimed p s id s.finished (set s.cells (p.written (p.place t k))
    (written_to p s (p.written (p.place t k)) (p.value (p.place t k) xs)))
    (working t k xs) (working t (suc k) []) here refl) (same p s)) (same p s)

acts_keeps : (p : Plan) (s : State) (id : ℕ) (w : Worker) (e : Event) → get_elem? s.workers id ≡ some w
    → Keeps p s (acts p s id w e).0
acts_keeps p s id idle claim here =
    if_kept (Keeps p s) (nat_lt s.claims p.tiles) _ _
    (λ b. let l = ltb-true s.claims p.tiles b in
    changed p s id (suc s.claims) s.finished s.cells idle (holding s.claims) here refl (inr (inl (omega (arith, l)))))
    (changed p s id (suc s.claims) s.finished s.cells idle ended here refl (inr (inr (omega arith, refl))))
acts_keeps p s id idle e here = same p s
acts_keeps p s id ended e here = same p s
acts_keeps p s id (holding t) open_tile here =
    if_kept (Keeps p s) (nat_le (needed_by p.gate p t) (seen_by p.gate s t)) _ _
    (λ b. unclaimed p s id s.finished s.cells (holding t) (working t 0 []) here refl) (same p s)
acts_keeps p s id (holding t) e here = same p s
acts_keeps p s id (working t k xs) load here =
    if_kept (Keeps p s) (nat_lt k (p.size t)) _ _
    (λ b. if_kept (Keeps p s) (nat_lt (length xs) (length (p.read (p.place t k)))) _ _
    (λ c. unclaimed p s id s.finished s.cells (working t k xs)
    (working t k (xs ++ get_or s.cells (cell_read p t k (length xs)) 0 ∷ [])) here refl) (same p s)) (same p s)
acts_keeps p s id (working t k xs) store here = last_act_kept p s id t k xs store here
acts_keeps p s id (working t k xs) add here = last_act_kept p s id t k xs add here
acts_keeps p s id (working t k xs) release here = last_act_kept p s id t k xs release here
acts_keeps p s id (working t k xs) finish here =
    if_kept (Keeps p s) (nat_eq k (p.size t)) _ _
    (λ b. unclaimed p s id (suc s.finished) s.cells (working t k xs) idle here refl) (same p s)
acts_keeps p s id (working t k xs) e here = same p s

step_keeps : (p : Plan) (s : State) (id : ℕ) (o : plain.Option Worker) (e : Event) → get_elem? s.workers id ≡ o
    → Keeps p s (step_of p s id o e).0
step_keeps p s id none e here = same p s
step_keeps p s id (some w) e here = acts_keeps p s id w e here

pub workers_kept : (p : Plan) (s : State) (id : ℕ) (e : Event)
    → length (step p s id e).0.workers ≡ length s.workers
workers_kept p s id e = (step_keeps p s id (get_elem? s.workers id) e refl).workers

pub claims_counted : (p : Plan) (s : State) (id : ℕ) (e : Event) → AreCounted p s → AreCounted p (step p s id e).0
claims_counted p s id e = (step_keeps p s id (get_elem? s.workers id) e refl).claims
