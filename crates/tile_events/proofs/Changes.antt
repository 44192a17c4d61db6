-- One worker changes, and the state stays sound (`Change`, one record for each event).
use Rattle.scop_syntax.proofs.Common.{◌≡◌, ℕ, ◌+◌, ◌<◌, ◌≤◌, ◌≢◌, ⊎_elim, ◌&&◌, Bool, true, min, List, get_or, set, ap}
use Rattle.scop_syntax.proofs.Common.{sym, refl, ◌∙◌, subst, arith, nat_lt, some, some-injective, get_elem?, nat_cases}
use Rattle.atomic_table.proofs.Lists.{at_set, set_else}
use Rattle.tile_events.specs.Plan.{Plan, Gate, waves, counters, words_of}
use Rattle.tile_events.specs.Core.{Worker, ended, holding, working, State}
use Rattle.tile_events.specs.Sound.{Holds, total, one_if_held, passed, is_done, IsFinished, IsBegun, AreOpened, Sound}
use Rattle.tile_events.specs.steps.Changes.{moved, Waits, Change}
use Rattle.tile_events.proofs.Cells.{words_same}
use Rattle.tile_events.proofs.Workers.{total_set, all_passed_set}

-- the state after such a change is sound
pub changed : (p : Plan) (s : State) (id : ℕ) (v w : Worker) (n m : ℕ) (cs : List ℕ) → Sound p s
    → Change p s id v w n m cs → Sound p (moved s id w n m cs)
changed p s id v w n m cs sound c = record {
  apart = λ i j t a b ei ej ha hb. ⊎_elim
      (λ (x : (i ≡ id) × (w ≡ a)). ⊎_elim
      (λ (y : (j ≡ id) × (w ≡ b)). x.0 ∙ sym y.0)
      (λ (y : (j ≢ id) × (get_elem? s.workers j ≡ some b)). absurd
      (c.fresh j t b y.1 y.0 hb (subst (λ z. Holds z t) (sym x.1) ha)))
      (at_set s.workers id j w b ej))
      (λ (x : (i ≢ id) × (get_elem? s.workers i ≡ some a)). ⊎_elim
      (λ (y : (j ≡ id) × (w ≡ b)). absurd (c.fresh i t a x.1 x.0 ha (subst (λ z. Holds z t) (sym y.1) hb)))
      (λ (y : (j ≢ id) × (get_elem? s.workers j ≡ some b)). sound.apart i j t a b x.1 y.1 ha hb)
      (at_set s.workers id j w b ej))
      (at_set s.workers id i w a ei);
  below = λ i t a e h. ⊎_elim
      (λ (x : (i ≡ id) × (w ≡ a)). c.below t (subst (λ z. Holds z t) (sym x.1) h))
      (λ (x : (i ≢ id) × (get_elem? s.workers i ≡ some a)). let b = sound.below i t a x.1 h in
      let b0 : t < s.claims = b.0 in
      let g : s.claims ≤ n = c.grows in
      (omega (arith, b0, g), b.1))
      (at_set s.workers id i w a e);
  tally = c.tally;
  opened = c.opened;
  reads = λ i t k xs e. ⊎_elim
      (λ (x : (i ≡ id) × (w ≡ working t k xs)). c.reads t k xs x.1)
      (λ (x : (i ≢ id) × (get_elem? s.workers i ≡ some (working t k xs))). sound.reads i t k xs x.1)
      (at_set s.workers id i w (working t k xs) e);
  wide = c.wide;
  cells = c.cells;
  over = λ i e. ⊎_elim
      (λ (x : (i ≡ id) × (w ≡ ended)). c.over x.1)
      (λ (x : (i ≢ id) × (get_elem? s.workers i ≡ some ended)). let o : p.tiles ≤ s.claims = sound.over i x.1 in
      let g : s.claims ≤ n = c.grows in
      omega (arith, o, g))
      (at_set s.workers id i w ended e);
}

-- a tile that is begun afterwards was begun before, where the worker did not wait with it
pub begun_back : (s : State) (id : ℕ) (v w : Worker) (n m : ℕ) (cs : List ℕ) (u : ℕ) → get_elem? s.workers id ≡ some v
    → (Waits v u → ⊥) → u < s.claims
    → IsBegun (moved s id w n m cs) u → IsBegun s u
begun_back s id v w n m cs u here not_waiting less b = record {
  claimed = less;
  awake = λ i e. nat_cases i id
      (λ l. b.awake i (set_else s.workers id i w (λ x. omega (arith, l, x)) ∙ e))
      (λ same. let f : get_elem? s.workers id ≡ some (holding u) = subst
      (λ (j : ℕ). get_elem? s.workers j ≡ some (holding u)) same e in
      not_waiting (subst (λ x. Waits x u) (some-injective (holding u) v (sym f ∙ here)) refl))
      (λ l. b.awake i (set_else s.workers id i w (λ x. omega (arith, l, x)) ∙ e));
}

-- the same places are done, where the worker is past the same places
pub done_set : (p : Plan) (s : State) (id i m : ℕ) (v w : Worker) (cs : List ℕ) → get_elem? s.workers id ≡ some v
    → passed w (p.tile i) (p.position i) ≡ passed v (p.tile i) (p.position i)
    → is_done p (moved s id w s.claims m cs) i ≡ is_done p s i
done_set p s id i m v w cs here same =
    ap (λ (b : Bool). nat_lt (p.tile i) s.claims && b)
    (all_passed_set s.workers (p.tile i) (p.position i) id v w here same)

-- where the same places are done, the cells hold the same
pub cells_same : (p : Plan) (s s' : State) → Sound p s → ((i : ℕ) → i < p.places → is_done p s' i ≡ is_done p s i)
    → (c : ℕ) → c < p.cells → get_or s.cells c 0 ≡ words_of p (is_done p s') p.places c
cells_same p s s' sound same c less =
    sound.cells c less ∙ words_same p (is_done p s) (is_done p s') p.places c (λ i l e. sym (same i l))

-- a step that leaves the worker its tile
pub tally_same : (p : Plan) (s : State) (id : ℕ) (v w : Worker) → Sound p s → get_elem? s.workers id ≡ some v
    → one_if_held v ≡ one_if_held w → s.finished + total one_if_held (set s.workers id w) ≡ min s.claims p.tiles
tally_same p s id v w sound here same =
    let a = sound.tally in let b = total_set one_if_held s.workers id v w here in omega (arith, a, b, same)

-- a finished tile stays finished, where the worker does not take it
pub finished_kept : (s : State) (id n m : ℕ) (w : Worker) (cs : List ℕ) (t : ℕ) → s.claims ≤ n
    → (IsFinished s t → Holds w t → ⊥) → IsFinished s t → IsFinished (moved s id w n m cs) t
finished_kept s id n m w cs t grows given_up f = record {
  claimed = (let a : t < s.claims = f.claimed in omega (arith, a, grows));
  free = λ i a e h. ⊎_elim
      (λ (x : (i ≡ id) × (w ≡ a)). given_up f (subst (λ z. Holds z t) (sym x.1) h))
      (λ (x : (i ≢ id) × (get_elem? s.workers i ≡ some a)). f.free i a x.1 h)
      (at_set s.workers id i w a e);
}

-- a change that opens no tile leaves the tiles opened that were, where what was done or finished stays so
pub opened_kept : (g : Gate) (p : Plan) (s : State) (id n m : ℕ) (v w : Worker) (cs : List ℕ) → AreOpened g p s
    → s.claims ≤ n → ((t : ℕ) → IsFinished s t → Holds w t → ⊥)
    → ((i : ℕ) → i < p.places → is_done p s i ≡ true → is_done p (moved s id w n m cs) i ≡ true)
    → ((u : ℕ) → u < p.tiles → IsBegun (moved s id w n m cs) u → IsBegun s u)
    → AreOpened g p (moved s id w n m cs)
opened_kept waves p s id n m v w cs opened grows given_up kept back = λ t u lt lu b less.
    finished_kept s id n m w cs t grows (given_up t) (opened t u lt lu (back u lu b) less)
opened_kept (counters cell needs) p s id n m v w cs opened grows given_up kept back = λ i u li lu b is.
    kept i li (opened i u li lu (back u lu b) is)
