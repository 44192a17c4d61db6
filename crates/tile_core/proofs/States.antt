-- Runs in memory: their first state, and what each event keeps.
use Rattle.scop_syntax.proofs.Common.{◌≡◌, ◌&&◌, Bool, true, false, ℕ, zero, suc, ◌+◌, ◌<◌, List, [], ◌∷◌, length}
use Rattle.scop_syntax.proofs.Common.{get_or, map, drop, add-one, drop-cons, ap, ap₂, sym, refl, ◌∙◌, subst, arith}
use Rattle.scop_syntax.proofs.Common.{Result, replicate, nat_lt, nat_le, nat_eq, if◌then◌else◌, length-replicate, some}
use Rattle.scop_syntax.proofs.Common.{some-injective, some-ne-none, get_elem?}
use mathlib.Core.Option as plain
use mathlib.Core.Option.{none}
use Rattle.tile_events.specs.Plan as events
use Rattle.tile_events.specs.Plan.{Gate, GoodPlan, IsDealt, counters, values_read, waves}
use Rattle.tile_events.specs.Core as core
use Rattle.tile_events.specs.Core.{State, Event, Seen, idle, working, claim, open_tile, load, store, add, release}
use Rattle.tile_events.specs.Core.{finish, value_read, stored, added, released, done, not_enabled, acts, is_last_act}
use Rattle.tile_events.specs.Core.{ended, holding, needed_by, opened, replay, seen_by, shut, step, step_of, with_worker}
use Rattle.tile_events.specs.Opening.{IsOpening, ReadsRight}
use Rattle.tile_events.specs.Rule.{AreCounted}
use Rattle.tile_events.specs.Sound.{Sound}
use Rattle.tile_core.specs.Boards.{Does, IsBoard, IsRun, Stretches, event_of, opening_state, state_of}
use Rattle.tile_core.specs.Cores.{turn_of}
use Rattle.tile_core.specs.Plans.{HasRest, gated, plan_of, shape_of, walk_plan}
use Rattle.tile_core.specs.declared.board.Board.{Board}
use Rattle.tile_core.specs.declared.board.NotEnabled.{NotEnabled}
use Rattle.tile_core.specs.declared.board.Seen.{Seen as CodeSeen}
use Rattle.tile_core.specs.declared.cores.Turn.{Turn}
use Rattle.tile_core.specs.declared.plan.Plan.{Plan}
use Rattle.tile_core.proofs.Gates.{initial_is}

-- the laws of events
pub record EventLaws : Type 0 where
  pub step : (p : events.Plan) (s : State) (id : ℕ) (e : Event) → GoodPlan p → IsDealt p → Sound p s
      → Sound p (core.step p s id e).0
  pub workers : (p : events.Plan) (s : State) (id : ℕ) (e : Event)
      → length (core.step p s id e).0.workers ≡ length s.workers
  pub claims : (p : events.Plan) (s : State) (id : ℕ) (e : Event) → AreCounted p s → AreCounted p (core.step p s id e).0

run_step : EventLaws → (p : events.Plan) (s : State) (id : ℕ) (e : Event) → IsRun p s → IsRun p (step p s id e).0
run_step laws p s id e run =
    let f = run.few in
    let w = laws.workers p s id e in record {
      good = run.good;
      dealt = run.dealt;
      few = omega (arith, f, w);
      sound = laws.step p s id e run.good run.dealt run.sound;
      counted = laws.claims p s id e run.counted;
    }

-- what an event does hangs on no cell at first
module _ (p : events.Plan) (f : ℕ → ℕ) (s : State) (id : ℕ) where
  abbrev other : events.Plan
  other = record p { initial = f }

  needed_alike : (g : Gate) (t : ℕ) → needed_by g other t ≡ needed_by g p t
  needed_alike waves t = refl
  needed_alike (counters cell needs) t = refl

  acts_alike : (w : core.Worker) (e : Event) → acts other s id w e ≡ acts p s id w e
  acts_alike idle claim = refl
  acts_alike idle e = refl
  acts_alike ended claim = refl
  acts_alike ended e = refl
  acts_alike (holding t) open_tile =
      ap (λ (n : ℕ). if◌then◌else◌ {A = State × Seen} (nat_le n (seen_by p.gate s t))
      (with_worker s id (working t 0 []), opened) (s, shut p.gate (seen_by p.gate s t) n))
      (needed_alike p.gate t)
  acts_alike (holding t) e = refl
  acts_alike (working t k xs) load = refl
  acts_alike (working t k xs) e = refl

  step_alike : (e : Event) → step other s id e ≡ step p s id e
  step_alike e = at (get_elem? s.workers id)
    where
      at : (o : plain.Option core.Worker) → step_of other s id o e ≡ step_of p s id o e
      at none = refl
      at (some w) = acts_alike w e

pub step_shape : (plan : Plan) (opening : List ℕ) (s : State) (id : ℕ) (e : Event)
    → step (plan_of plan opening) s id e ≡ step (shape_of plan) s id e
step_shape plan opening s id e =
    step_alike (shape_of plan) (gated plan.edges (walk_plan plan opening)).initial s id e

-- what an event does leaves a run of the plan, from the same cells
pub run_kept : EventLaws
    → (plan : Plan) (opening : List ℕ) (b d : Board) (id : ℕ) (e : Event) (r : Result CodeSeen NotEnabled)
    → Does plan b id e d r
    → IsRun (plan_of plan opening) (state_of b) → IsRun (plan_of plan opening) (state_of d)
run_kept laws plan opening b d id e r does run =
    subst (IsRun (plan_of plan opening))
    (ap (λ (x : State × Seen). x.0) (step_shape plan opening (state_of b) id e ∙ does.event))
    (run_step laws (plan_of plan opening) (state_of b) id e run)

pub board_kept : EventLaws → (plan : Plan) (b d : Board) (id : ℕ) (e : Event) (r : Result CodeSeen NotEnabled)
    → Does plan b id e d r → IsBoard plan b → IsBoard plan d
board_kept laws plan b d id e r does board = record {
  planned = board.planned;
  workers = does.workers;
  opening = board.opening;
  run = run_kept laws plan board.opening b d id e r does board.run;
}

-- so do events one after another
pub replay_kept : EventLaws → (plan : Plan) (opening : List ℕ) (s : State) (es : List (ℕ × Event))
    → IsRun (plan_of plan opening) s → IsRun (plan_of plan opening) (replay (shape_of plan) s es)
replay_kept laws plan opening s [] run = run
replay_kept laws plan opening s (e ∷ es) run =
    replay_kept laws plan opening (step (shape_of plan) s e.0 e.1).0 es
    (subst (IsRun (plan_of plan opening)) (ap (λ (x : State × Seen). x.0) (step_shape plan opening s e.0 e.1))
    (run_step laws (plan_of plan opening) s e.0 e.1 run))

replay_count : EventLaws → (p : events.Plan) (s : State) (es : List (ℕ × Event))
    → length (replay p s es).workers ≡ length s.workers
replay_count laws p s [] = refl
replay_count laws p s (e ∷ es) =
    replay_count laws p (step p s e.0 e.1).0 es ∙ laws.workers p s e.0 e.1

-- what a stretch leaves is a run, from the same cells, and as many workers
module _ (laws : EventLaws) (plan : Plan) (b d : Board) (id n : ℕ) (does : Stretches plan b id n d) where
  pub stretch_kept : (opening : List ℕ) → IsRun (plan_of plan opening) (state_of b)
      → IsRun (plan_of plan opening) (state_of d)
  stretch_kept opening run =
      subst (IsRun (plan_of plan opening)) (sym does.replayed)
      (replay_kept laws plan opening (state_of b) does.acts run)

  pub stretch_count : length (state_of d).workers ≡ length (state_of b).workers
  stretch_count =
      ap (λ (s : State). length s.workers) does.replayed ∙ replay_count laws (shape_of plan) (state_of b) does.acts

  pub stretch_board : IsBoard plan b → IsBoard plan d
  stretch_board board = record {
    planned = board.planned;
    workers = does.workers;
    opening = board.opening;
    run = stretch_kept board.opening board.run;
  }

all_idle : (n i : ℕ) (w : core.Worker) → get_elem? (replicate n idle) i ≡ some w → w ≡ idle
all_idle zero i w e = absurd (some-ne-none w (sym e))
all_idle (suc n) zero w e = sym (some-injective idle w e)
all_idle (suc n) (suc i) w e = all_idle n i w e

-- the first state is one of a run
pub opening_run : ((p : events.Plan) (s : State) → IsOpening p s → Sound p s)
    → (plan : Plan) (cells row : List ℕ) (n : ℕ) (ws : List core.Worker)
    → GoodPlan (plan_of plan cells) → IsDealt (plan_of plan cells) → length cells ≡ (shape_of plan).cells
    → HasRest plan cells
    → (shape_of plan).tiles + n < 18446744073709551615
    → row ≡ cells → ws ≡ replicate n idle
    → IsRun (plan_of plan cells) (record { claims = 0; finished = 0; cells = row; workers = ws })
opening_run start plan cells row n ws good dealt wide rest few same all =
    subst (IsRun (plan_of plan cells)) (ap₂ (λ (xs : List ℕ)
    (vs : List core.Worker). record { claims = 0; finished = 0; cells = xs; workers = vs }) (sym same) (sym all))
    (record {
      good = good;
      dealt = dealt;
      few = (let l = length-replicate n idle in omega (arith, l, few));
      sound = start (plan_of plan cells) (opening_state cells n) (record {
        claims = refl;
        finished = refl;
        idle = all_idle n;
        wide = wide;
        cells = λ c l. initial_is plan cells rest c;
      });
      counted = omega arith;
    })

-- only a load tells a value read
stored_else : (b c : Bool) (s t : State) (y : Seen) (x : ℕ) → (y ≡ value_read x → ⊥)
    → (if◌then◌else◌ {A = State × Seen} b (if c then (t, y) else (s, not_enabled))
    (s, not_enabled)).1 ≡ value_read x → ⊥
stored_else true true s t y x h e = h e
stored_else true false s t y x h e = absurd cc
stored_else false c s t y x h e = absurd cc

done_else : (b : Bool) (s t : State) (x : ℕ)
    → (if◌then◌else◌ {A = State × Seen} b (t, done) (s, not_enabled)).1 ≡ value_read x → ⊥
done_else true s t x e = absurd cc
done_else false s t x e = absurd cc

only_loads : (p : events.Plan) (s : State) (id t k x : ℕ) (xs : List ℕ) (e : Event)
    → (acts p s id (working t k xs) e).1 ≡ value_read x → e ≡ load
only_loads p s id t k x xs claim e = absurd cc
only_loads p s id t k x xs open_tile e = absurd cc
only_loads p s id t k x xs load e = refl
only_loads p s id t k x xs store e =
    absurd (stored_else (nat_lt k (p.size t)) (nat_eq (length xs) (length (p.read (p.place t k)))
    && is_last_act p store (p.written (p.place t k))) s _ stored x (λ z. absurd cc) e)
only_loads p s id t k x xs add e =
    absurd (stored_else (nat_lt k (p.size t)) (nat_eq (length xs) (length (p.read (p.place t k)))
    && is_last_act p add (p.written (p.place t k))) s _ added x (λ z. absurd cc) e)
only_loads p s id t k x xs release e =
    absurd (stored_else (nat_lt k (p.size t)) (nat_eq (length xs) (length (p.read (p.place t k)))
    && is_last_act p release (p.written (p.place t k))) s _ released x (λ z. absurd cc) e)
only_loads p s id t k x xs finish e = absurd (done_else (nat_eq k (p.size t)) s _ x e)

pub reads_executed : ((p : events.Plan) (s : State) (id : ℕ) → GoodPlan p → IsDealt p → Sound p s → ReadsRight p s id)
    → (p : events.Plan) (s : State) (id t k x : ℕ) (xs : List ℕ) (e : Event) → IsRun p s
    → get_elem? s.workers id ≡ some (working t k xs) → (step p s id e).1 ≡ value_read x
    → x ≡ get_or (values_read p (p.place t k)) (length xs) 0
reads_executed loads p s id t k x xs e run here seen =
    let there : (acts p s id (working t k xs) e).1 ≡ value_read x = subst
    (λ o. (step_of p s id o e).1 ≡ value_read x) here seen in
    let is = only_loads p s id t k x xs e there in
    loads p s id run.good run.dealt run.sound t k x xs here (subst (λ f. (step p s id f).1 ≡ value_read x) is seen)

-- one turn more of a replay
pub turn_more : (p : events.Plan) (s n : State) (seen : Seen) (turns : List Turn) (i : ℕ) (d : Turn) → i < length turns
    → step p s (get_or turns i d).worker (event_of (get_or turns i d).event) ≡ (n, seen)
    → replay p n (map turn_of (drop (i + 1) turns)) ≡ replay p s (map turn_of (drop i turns))
turn_more p s n seen turns i d l e =
    rw (add-one, drop-cons turns i d l)
    (ap (λ (x : State × Seen). replay p x.0 (map turn_of (drop (suc i) turns))) (sym e))
