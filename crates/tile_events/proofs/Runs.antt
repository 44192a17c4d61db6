-- Every list of events keeps what holds between events; at the start it holds, and at the end the cells are those of
-- execution.
use Rattle.scop_syntax.proofs.Common.{◌≡◌, ℕ, zero, suc, ◌<◌, ◌&&◌, Bool, true, false, List, [], ◌∷◌, ◌++◌, length}
use Rattle.scop_syntax.proofs.Common.{get_or, ap, sym, refl, ◌∙◌, subst, arith, nat_eq, nat_lt, nat_le, if◌then◌else◌}
use Rattle.scop_syntax.proofs.Common.{eqb-true, ltb-true, ltb-false, leb-true, le-ltb, and_parts, some, get_elem?}
use mathlib.Core.Option.{none}
use mathlib.Core.Option as plain
use Rattle.tile_events.specs.Plan.{Plan, Gate, waves, counters, GoodPlan, IsDealt, before, words_of}
use Rattle.tile_events.specs.Core.{Worker, idle, ended, holding, working, State, Event, claim, open_tile, load, store}
use Rattle.tile_events.specs.Core.{add, release, seen_by, needed_by, last_act, is_last_act}
use Rattle.tile_events.specs.Core.{finish, Seen, value_read, not_enabled, with_worker, acts, step_of, step, replay}
use Rattle.tile_events.specs.Sound.{Holds, total, one_if_held, is_done, IsBegun, AreOpened, Sound}
use Rattle.tile_events.specs.Opening.{IsOpening, IsQuiet, ReadsRight}
use Rattle.tile_events.proofs.Cells.{words_all}
use Rattle.tile_events.proofs.Workers.{passed_free}
use Rattle.tile_events.proofs.ReadyInstances.{done_from}
use Rattle.tile_events.proofs.Events.{claim_keeps, last_keeps, open_keeps, load_keeps, load_value, last_act_keeps}
use Rattle.tile_events.proofs.Events.{finish_keeps}

if_kept : (P : State → Type 0) (b : Bool) (x y : State × Seen) → (b ≡ true → P x.0) → (b ≡ false → P y.0)
    → P (if b then x else y).0
if_kept P true x y f g = f refl
if_kept P false x y f g = g refl

last_act_kept : (p : Plan) (s : State) (id t k : ℕ) (xs : List ℕ) (e : Event) → GoodPlan p → IsDealt p → Sound p s
    → get_elem? s.workers id ≡ some (working t k xs) → Sound p (last_act p s id t k xs e).0
last_act_kept p s id t k xs e good deal sound here =
    let all = nat_eq (length xs) (length (p.read (p.place t k))) in
    let last = is_last_act p e (p.written (p.place t k)) in
    if_kept (Sound p) (nat_lt k (p.size t)) _ _
    (λ a. if_kept (Sound p) (all && last) _ _
    (λ b. last_act_keeps p s id t k xs good deal sound here (ltb-true k (p.size t) a)
    (eqb-true (length xs) (length (p.read (p.place t k))) (and_parts all last b).0)) (λ h. sound))
    (λ h. sound)

acts_keep : (p : Plan) (s : State) (id : ℕ) (w : Worker) (e : Event) → GoodPlan p → IsDealt p → Sound p s
    → get_elem? s.workers id ≡ some w → Sound p (acts p s id w e).0
acts_keep p s id idle claim good deal sound here =
    if_kept (Sound p) (nat_lt s.claims p.tiles) _ _ (λ t. claim_keeps p s id sound here (ltb-true s.claims p.tiles t))
    (λ f. last_keeps p s id deal sound here (ltb-false s.claims p.tiles f))
acts_keep p s id idle e good deal sound here = sound
acts_keep p s id ended e good deal sound here = sound
acts_keep p s id (holding t) open_tile good deal sound here =
    if_kept (Sound p) (nat_le (needed_by p.gate p t) (seen_by p.gate s t)) _ _
    (λ h. open_keeps p s id t deal sound here (leb-true (needed_by p.gate p t) (seen_by p.gate s t) h)) (λ h. sound)
acts_keep p s id (holding t) e good deal sound here = sound
acts_keep p s id (working t k xs) load good deal sound here =
    if_kept (Sound p) (nat_lt k (p.size t)) _ _
    (λ a. if_kept (Sound p) (nat_lt (length xs) (length (p.read (p.place t k)))) _ _
    (λ b. load_keeps p s id t k xs good deal sound here (ltb-true k (p.size t) a)
    (ltb-true (length xs) (length (p.read (p.place t k))) b)) (λ h. sound))
    (λ h. sound)
acts_keep p s id (working t k xs) store good deal sound here = last_act_kept p s id t k xs store good deal sound here
acts_keep p s id (working t k xs) add good deal sound here = last_act_kept p s id t k xs add good deal sound here
acts_keep p s id (working t k xs) release good deal sound here =
    last_act_kept p s id t k xs release good deal sound here
acts_keep p s id (working t k xs) finish good deal sound here =
    if_kept (Sound p) (nat_eq k (p.size t)) _ _
    (λ h. finish_keeps p s id t k xs deal sound here (eqb-true k (p.size t) h)) (λ h. sound)
acts_keep p s id (working t k xs) e good deal sound here = sound

step_of_keeps : (p : Plan) (s : State) (id : ℕ) (o : plain.Option Worker) (e : Event) → GoodPlan p → IsDealt p
    → Sound p s → get_elem? s.workers id ≡ o → Sound p (step_of p s id o e).0
step_of_keeps p s id none e good deal sound here = sound
step_of_keeps p s id (some w) e good deal sound here = acts_keep p s id w e good deal sound here

pub step_keeps : (p : Plan) (s : State) (id : ℕ) (e : Event) → GoodPlan p → IsDealt p → Sound p s
    → Sound p (step p s id e).0
step_keeps p s id e good deal sound = step_of_keeps p s id (get_elem? s.workers id) e good deal sound refl

pub replay_keeps : (p : Plan) (s : State) (es : List (ℕ × Event)) → GoodPlan p → IsDealt p → Sound p s
    → Sound p (replay p s es)
replay_keeps p s [] good deal sound = sound
replay_keeps p s (e ∷ es) good deal sound =
    replay_keeps p (step p s e.0 e.1).0 es good deal (step_keeps p s e.0 e.1 good deal sound)

-- at the start nothing is done
words_none : (p : Plan) (F : ℕ → Bool) (n c : ℕ) → ((i : ℕ) → F i ≡ false) → words_of p F n c ≡ p.initial c
words_none p F zero c h = refl
words_none p F (suc n) c h = rw (h n) (words_none p F n c h)

total_none : (ws : List Worker) → ((i : ℕ) (w : Worker) → get_elem? ws i ≡ some w → w ≡ idle)
    → total one_if_held ws ≡ 0
total_none [] h = refl
total_none (w ∷ ws) h =
    let i = total_none ws (λ j x e. h (suc j) x e) in let o = ap one_if_held (h 0 w refl) in omega (arith, i, o)

nothing_opened : (g : Gate) (p : Plan) (s : State) → ((u : ℕ) → IsBegun s u → ⊥) → AreOpened g p s
nothing_opened waves p s nobody = λ t u lt lu b up. absurd (nobody u b)
nothing_opened (counters cell needs) p s nobody = λ i u li lu b is. absurd (nobody u b)

pub opening_sound : (p : Plan) (s : State) → IsOpening p s → Sound p s
opening_sound p s o = record {
  apart = λ i j t v w ei ej hv hw. absurd (subst (λ z. Holds z t) (o.idle i v ei) hv);
  below = λ i t w e h. absurd (subst (λ z. Holds z t) (o.idle i w e) h);
  tally = (let a = total_none s.workers o.idle in let b = o.claims in let c = o.finished in omega (arith, a, b, c));
  opened = nothing_opened p.gate p s (λ u b. let c = b.claimed in let z = o.claims in omega (arith, c, z));
  reads = λ i t k xs e. let f = o.idle i (working t k xs) e in absurd cc;
  wide = o.wide;
  cells = λ c l. o.cells c l ∙ sym
      (words_none p (is_done p s) p.places c
      (λ i. let z = o.claims in rw (le-ltb (p.tile i) s.claims (omega (arith, z))) refl));
  over = λ i e. let f = o.idle i ended e in absurd cc;
}

-- a load that is enabled
load_tells : (b c : Bool) (s t : State) (y x : ℕ)
    → (if◌then◌else◌ {A = State × Seen} b
    (if c then (t, value_read y) else (s, not_enabled)) (s, not_enabled)).1 ≡ value_read x
    → (b ≡ true) × (c ≡ true) × (y ≡ x)
load_tells true true s t y x e = (refl, refl, cc)
load_tells true false s t y x e = absurd cc
load_tells false c s t y x e = absurd cc

pub reads_right : (p : Plan) (s : State) (id : ℕ) → GoodPlan p → IsDealt p → Sound p s → ReadsRight p s id
reads_right p s id good deal sound t k x xs here e =
    let j : ℕ = p.place t k in
    let y : ℕ = get_or s.cells (get_or (p.read j) (length xs) 0) 0 in
    let f : (acts p s id (working t k xs) load).1 ≡ value_read x =
    subst (λ o. (step_of p s id o load).1 ≡ value_read x) here e in
    let r = load_tells (nat_lt k (p.size t)) (nat_lt (length xs) (length (p.read j))) s
    (with_worker s id (working t k (xs ++ y ∷ []))) y x f in
    sym r.2 ∙ load_value p s id t k xs good deal sound here (ltb-true k (p.size t) r.0)
    (ltb-true (length xs) (length (p.read j)) r.1)

-- where the claims have run out and nobody holds a tile, the cells are those of execution
pub quiet_cells : (p : Plan) (s : State) → IsDealt p → Sound p s → IsQuiet p s → (c : ℕ) → c < p.cells
    → get_or s.cells c 0 ≡ before p p.places c
quiet_cells p s deal sound quiet c less =
    sound.cells c less
    ∙ words_all p (is_done p s) p.places c (λ i l.
    done_from p s i (let o = quiet.out in let d = deal.tile i l in omega (arith, o, d))
    (λ id w e. passed_free w (p.tile i) (p.position i) (quiet.free id (p.tile i) w e)))
