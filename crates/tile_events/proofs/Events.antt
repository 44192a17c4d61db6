-- Each event keeps what holds between events.
use Rattle.scop_syntax.proofs.Common.{◌≡◌, ℕ, suc, ◌<◌, ◌≤◌, ◌≢◌, ⊎_elim, Bool, true, false, not, List, [], ◌∷◌, ◌++◌}
use Rattle.scop_syntax.proofs.Common.{length, take, get_or, set, ap, ap₂, sym, refl, ◌∙◌, subst, arith, ⊤, nat_eq}
use Rattle.scop_syntax.proofs.Common.{nat_lt, if◌then◌else◌, eqb-true, eqb-false, ltb-true, lt-ltb, le-ltb, cases_lt}
use Rattle.scop_syntax.proofs.Common.{and_parts, take-suc, take-length, get_or-map, get_or-set_same, get_or-set_other}
use Rattle.scop_syntax.proofs.Common.{length-set, length-map, some, get_elem?, In, nat_cases, in_at}
use Rattle.std.proofs.lemmas.List.{length-append}
use Rattle.atomic_table.proofs.Lists.{at_set}
use Rattle.tile_events.specs.Plan.{Plan, Gate, waves, counters, updated, GoodPlan, IsDealt, IsGated, before, stored}
use Rattle.tile_events.specs.Plan.{values_read, words_of}
use Rattle.tile_events.specs.Core.{Worker, idle, ended, holding, working, State, after_claim, after_last, with_worker}
use Rattle.tile_events.specs.Core.{cell_read, after_load, after_last_act, written_to, after_finish, seen_by, needed_by}
use Rattle.tile_events.specs.Sound.{Holds, one_if_held, passed, all_passed, is_done, IsFinished, IsRight, AreOpened}
use Rattle.tile_events.specs.Sound.{Sound}
use Rattle.tile_events.specs.steps.Ready.{IsReady}
use Rattle.tile_events.specs.steps.Changes.{moved}
use Rattle.tile_events.proofs.Cells.{load_reads, updated_here, store_else}
use Rattle.tile_events.proofs.Workers.{total_set, set_at, passed_free, passed_holding, all_passed_at}
use Rattle.tile_events.proofs.Workers.{all_passed_set}
use Rattle.tile_events.proofs.Waves.{wave_opens}
use Rattle.tile_events.proofs.Counters.{counter_opens}
use Rattle.tile_events.proofs.Changes.{changed, begun_back, done_set, cells_same, tally_same, finished_kept}
use Rattle.tile_events.proofs.Changes.{opened_kept}
use Rattle.tile_events.proofs.ReadyInstances.{done_from, passed_at, ready_next}

-- claim
bool_same : (a b : Bool) → (a ≡ true → b ≡ true) → (b ≡ true → a ≡ true) → a ≡ b
bool_same true true f g = refl
bool_same true false f g = sym (f refl)
bool_same false true f g = g refl
bool_same false false f g = refl

done_claim : (p : Plan) (s : State) (id i : ℕ) → get_elem? s.workers id ≡ some idle
    → is_done p (after_claim s id) i ≡ is_done p s i
done_claim p s id i here = bool_same (is_done p (after_claim s id) i) (is_done p s i)
    (λ e. let b = and_parts (nat_lt (p.tile i) (suc s.claims))
    (all_passed (set s.workers id (holding s.claims)) (p.tile i) (p.position i)) e in
    let ne = passed_holding s.claims (p.tile i) (p.position i)
    (all_passed_at (set s.workers id (holding s.claims)) (p.tile i) (p.position i) id (holding s.claims) b.1
    (set_at s.workers id idle (holding s.claims) here)) in
    let l = ltb-true (p.tile i) (suc s.claims) b.0 in
    nat_cases (p.tile i) s.claims
    (λ less. rw (lt-ltb (p.tile i) s.claims less)
    (sym (all_passed_set s.workers (p.tile i) (p.position i) id idle (holding s.claims) here
    (passed_free (holding s.claims) (p.tile i) (p.position i) ne)) ∙ b.1))
    (λ same. absurd (ne (sym same)))
    (λ more. absurd (omega (arith, more, l))))
    (λ e. let b = and_parts (nat_lt (p.tile i) s.claims) (all_passed s.workers (p.tile i) (p.position i)) e in
    let l = ltb-true (p.tile i) s.claims b.0 in
    rw (lt-ltb (p.tile i) (suc s.claims) (omega (arith, l)))
    (all_passed_set s.workers (p.tile i) (p.position i) id idle (holding s.claims) here
    (passed_free (holding s.claims) (p.tile i) (p.position i) (λ x. omega (arith, l, x))) ∙ b.1))

pub claim_keeps : (p : Plan) (s : State) (id : ℕ) → Sound p s → get_elem? s.workers id ≡ some idle
    → s.claims < p.tiles → Sound p (after_claim s id)
claim_keeps p s id sound here less =
    changed p s id idle (holding s.claims) (suc s.claims) s.finished s.cells sound record {
      here = here;
      grows = omega arith;
      fresh = λ j t u e ne hu hw. let b = (sound.below j t u e hu).0 in omega (arith, b, hw);
      below = λ t h. (omega (arith, h), omega (arith, h, less));
      tally =
          (let a = sound.tally in
          let b = total_set one_if_held s.workers id idle (holding s.claims) here in
          omega (arith, a, b, less));
      opened = opened_kept p.gate p s id (suc s.claims) s.finished idle (holding s.claims) s.cells sound.opened
          (omega arith) (λ t f h. let a = f.claimed in omega (arith, a, h)) (λ i l e. done_claim p s id i here ∙ e)
          (λ u lu b. ⊎_elim
          (λ (l : u < s.claims).
          begun_back s id idle (holding s.claims) (suc s.claims) s.finished s.cells u here (λ x. x) l b)
          (λ (g : s.claims ≤ u). let c = b.claimed in let same : s.claims ≡ u = omega (arith, c, g) in
          absurd
          (b.awake id (set_at s.workers id idle (holding s.claims) here ∙ ap (λ (x : ℕ). some (holding x)) same)))
          (cases_lt u s.claims));
      reads = λ t k xs e. absurd cc;
      wide = sound.wide;
      cells = cells_same p s (after_claim s id) sound (λ i l. done_claim p s id i here);
      over = λ e. absurd cc;
    }

done_last : (p : Plan) (s : State) (id i : ℕ) → IsDealt p → get_elem? s.workers id ≡ some idle → p.tiles ≤ s.claims
    → i < p.places → is_done p (after_last s id) i ≡ is_done p s i
done_last p s id i deal here more l = let d = deal.tile i l in
    rw (
      lt-ltb (p.tile i) (suc s.claims) (omega (arith, d, more)),
      lt-ltb (p.tile i) s.claims (omega (arith, d, more)),
    )
    (all_passed_set s.workers (p.tile i) (p.position i) id idle ended here refl)

pub last_keeps : (p : Plan) (s : State) (id : ℕ) → IsDealt p → Sound p s → get_elem? s.workers id ≡ some idle
    → p.tiles ≤ s.claims → Sound p (after_last s id)
last_keeps p s id deal sound here more = changed p s id idle ended (suc s.claims) s.finished s.cells sound record {
  here = here;
  grows = omega arith;
  fresh = λ j t u e ne hu hw. hw;
  below = λ t h. absurd h;
  tally =
      (let a = sound.tally in
      let b = total_set one_if_held s.workers id idle ended here in
      omega (arith, a, b, more));
  opened = opened_kept p.gate p s id (suc s.claims) s.finished idle ended s.cells sound.opened (omega arith)
      (λ t f h. h) (λ i l e. done_last p s id i deal here more l ∙ e)
      (λ u lu b. begun_back s id idle ended (suc s.claims) s.finished s.cells u here (λ x. x)
      (omega (arith, lu, more)) b);
  reads = λ t k xs e. absurd cc;
  wide = sound.wide;
  cells = cells_same p s (after_last s id) sound (λ i l. done_last p s id i deal here more l);
  over = λ e. omega (arith, more);
}

-- open
passed_open : (t u k : ℕ) → passed (working t 0 []) u k ≡ passed (holding t) u k
passed_open t u k = by_test (nat_eq t u)
  where
    by_test : (b : Bool) → (if b then nat_lt k 0 else true) ≡ not b
    by_test true = le-ltb k 0 (omega arith)
    by_test false = refl

-- what a tile has waited for is done where its gate is open
gate_opens : (g : Gate) (p : Plan) (s : State) (id t : ℕ) → IsDealt p → IsGated g p → Sound p s → AreOpened g p s
    → get_elem? s.workers id ≡ some (holding t) → t < p.tiles → needed_by g p t ≤ seen_by g s t
    → ((i : ℕ) → is_done p s i ≡ true → is_done p (with_worker s id (working t 0 [])) i ≡ true)
    → AreOpened g p (with_worker s id (working t 0 []))
gate_opens waves p s id t deal gated sound opened here within reached kept = λ x u lx lu b up.
    let before : (t ≡ u → ⊥) → IsFinished s x = λ ne. opened x u lx lu
    (begun_back s id (holding t) (working t 0 []) s.claims s.finished s.cells u here ne b.claimed b) up in
    finished_kept s id s.claims s.finished (working t 0 []) s.cells x (omega arith)
    (λ f h. f.free id (holding t) here h) (nat_cases u t (λ l. before (λ e. omega (arith, l, e)))
    (λ same. wave_opens p s (p.wave t) x deal sound opened reached lx (subst (λ (y : ℕ). p.wave x < p.wave y) same up))
    (λ l. before (λ e. omega (arith, l, e))))
gate_opens (counters cell needs) p s id t deal gated sound opened here within reached kept = λ i u li lu b is.
    let before : (t ≡ u → ⊥) → is_done p s i ≡ true = λ ne. opened i u li lu
    (begun_back s id (holding t) (working t 0 []) s.claims s.finished s.cells u here ne b.claimed b) is in
    kept i (nat_cases u t (λ l. before (λ e. omega (arith, l, e)))
    (λ same. counter_opens p s cell needs t gated sound within reached i li (is ∙ ap cell same))
    (λ l. before (λ e. omega (arith, l, e))))

pub open_keeps : (p : Plan) (s : State) (id t : ℕ) → IsDealt p → Sound p s → get_elem? s.workers id ≡ some (holding t)
    → needed_by p.gate p t ≤ seen_by p.gate s t
    → Sound p (with_worker s id (working t 0 []))
open_keeps p s id t deal sound here reached =
    changed p s id (holding t) (working t 0 []) s.claims s.finished s.cells sound record {
      here = here;
      grows = omega arith;
      fresh = λ j x u e ne hu hw. ne (sound.apart j id x u (holding t) e here hu hw);
      below = λ x h. sound.below id x (holding t) here h;
      tally = tally_same p s id (holding t) (working t 0 []) sound here refl;
      opened = gate_opens p.gate p s id t deal deal.gate sound sound.opened here
          (sound.below id t (holding t) here refl).1 reached (λ i e. same i ∙ e);
      reads = λ x k xs e. let f : (t ≡ x) × (0 ≡ k) × ([] ≡ xs) = parts t x 0 k [] xs e in
          record {
            within = (let z = f.1 in omega (arith, z));
            values = λ l. subst (λ (ys : List ℕ). ys ≡ take (length ys) (values_read p (p.place x k))) f.2 refl;
            over = λ e. sym f.2;
          };
      wide = sound.wide;
      cells = cells_same p s (with_worker s id (working t 0 [])) sound (λ i l. same i);
      over = λ e. absurd cc;
    }
  where
    parts : (t x k n : ℕ) (xs ys : List ℕ) → working t k xs ≡ working x n ys → (t ≡ x) × (k ≡ n) × (xs ≡ ys)
    parts t x k n xs ys e = (cc, cc, cc)

    same : (i : ℕ) → is_done p (with_worker s id (working t 0 [])) i ≡ is_done p s i
    same i = done_set p s id i s.finished (holding t) (working t 0 []) s.cells here
        (passed_open t (p.tile i) (p.position i))

-- load, store and finish
opened_working : (p : Plan) (s : State) (id t k m : ℕ) (xs : List ℕ) (w : Worker) (cs : List ℕ) → Sound p s
    → get_elem? s.workers id ≡ some (working t k xs) → ((u : ℕ) → Holds w u → t ≡ u)
    → ((i : ℕ) → i < p.places → is_done p s i ≡ true → is_done p (moved s id w s.claims m cs) i ≡ true)
    → AreOpened p.gate p (moved s id w s.claims m cs)
opened_working p s id t k m xs w cs sound here holds kept =
    opened_kept p.gate p s id s.claims m (working t k xs) w cs sound.opened (omega arith)
    (λ u f h. f.free id (working t k xs) here (holds u h)) kept
    (λ u lu b. begun_back s id (working t k xs) w s.claims m cs u here (λ z. z) b.claimed b)

-- the value found by a load is the one that execution reads there
pub load_value : (p : Plan) (s : State) (id t k : ℕ) (xs : List ℕ) → GoodPlan p → IsDealt p → Sound p s
    → get_elem? s.workers id ≡ some (working t k xs) → k < p.size t
    → length xs < length (p.read (p.place t k))
    → get_or s.cells (cell_read p t k (length xs)) 0 ≡ get_or (values_read p (p.place t k)) (length xs) 0
load_value p s id t k xs good deal sound here less more =
    let j : ℕ = p.place t k in
    let within : j < p.places = deal.place t k (sound.below id t (working t k xs) here refl).1 less in
    let c : ℕ = get_or (p.read j) (length xs) 0 in
    let is : In c (p.read j) = in_at (p.read j) (length xs) 0 more in
    sound.cells c (deal.read j c within is)
    ∙ (load_reads p (is_done p s) j c within (ready_next p s id t k xs good deal sound here less) is
    ∙ sym (get_or-map (before p j) (p.read j) (length xs) 0 0 more))

-- one value more of those that are read in turn
snoc_right : (vs xs : List ℕ) (x : ℕ) → xs ≡ take (length xs) vs → length xs < length vs → x ≡ get_or vs (length xs) 0
    → xs ++ x ∷ [] ≡ take (length (xs ++ x ∷ [])) vs
snoc_right vs xs x e less same =
    ap₂ (λ (ys : List ℕ) (y : ℕ). ys ++ y ∷ []) e same
    ∙ (sym (take-suc vs (length xs) 0 less) ∙ ap (λ (n : ℕ). take n vs) longer)
  where
    longer : suc (length xs) ≡ length (xs ++ x ∷ [])
    longer = let l = length-append xs (x ∷ []) in omega (arith, l)

-- a worker at work has what is right
abbrev RightOf : Plan → Worker → Type 0
RightOf p idle = ⊤
RightOf p ended = ⊤
RightOf p (holding t) = ⊤
RightOf p (working t k xs) = IsRight p t k xs

pub load_keeps : (p : Plan) (s : State) (id t k : ℕ) (xs : List ℕ) → GoodPlan p → IsDealt p → Sound p s
    → get_elem? s.workers id ≡ some (working t k xs) → k < p.size t
    → length xs < length (p.read (p.place t k))
    → Sound p (after_load p s id t k xs)
load_keeps p s id t k xs good deal sound here less more =
    let x : ℕ = get_or s.cells (cell_read p t k (length xs)) 0 in
    let ys : List ℕ = xs ++ x ∷ [] in
    changed p s id (working t k xs) (working t k ys) s.claims s.finished s.cells sound record {
      here = here;
      grows = omega arith;
      fresh = λ j u w e ne hu hw. ne (sound.apart j id u w (working t k xs) e here hu hw);
      below = λ u h. sound.below id u (working t k xs) here h;
      tally = tally_same p s id (working t k xs) (working t k ys) sound here refl;
      opened = opened_working p s id t k s.finished xs (working t k ys) s.cells sound here (λ u h. h)
          (λ i l e. done_set p s id i s.finished (working t k xs) (working t k ys) s.cells here refl ∙ e);
      reads = λ u n zs e. right u n zs e;
      wide = sound.wide;
      cells = cells_same p s (with_worker s id (working t k ys)) sound
          (λ i l. done_set p s id i s.finished (working t k xs) (working t k ys) s.cells here refl);
      over = λ e. absurd cc;
    }
  where
    right : (u n : ℕ) (zs : List ℕ)
        → working t k (xs ++ get_or s.cells (cell_read p t k (length xs)) 0 ∷ []) ≡ working u n zs
        → IsRight p u n zs
    right u n zs e =
        let old = sound.reads id t k xs here in
        let within = old.within in
        let v = load_value p s id t k xs good deal sound here less more in
        let new : IsRight p t k (xs ++ get_or s.cells (cell_read p t k (length xs)) 0 ∷ []) = record {
          within = within;
          values = λ l. snoc_right (values_read p (p.place t k)) xs
              (get_or s.cells (cell_read p t k (length xs)) 0) (old.values l)
              (let m = length-map (p.read (p.place t k)) (before p (p.place t k)) in omega (arith, m, more)) v;
          over = λ z. absurd (omega (arith, z, less));
        } in
        subst (λ w. RightOf p w) e new

-- the value stored is the one that execution stores there
store_value : (p : Plan) (s : State) (id t k : ℕ) (xs : List ℕ) → Sound p s
    → get_elem? s.workers id ≡ some (working t k xs) → k < p.size t
    → length xs ≡ length (p.read (p.place t k)) → p.value (p.place t k) xs ≡ stored p (p.place t k)
store_value p s id t k xs sound here less all =
    let vs : List ℕ = values_read p (p.place t k) in
    let m : length xs ≡ length vs = all ∙ sym (length-map (p.read (p.place t k)) (before p (p.place t k))) in
    ap (p.value (p.place t k))
    ((sound.reads id t k xs here).values less ∙ (ap (λ (n : ℕ). take n vs) m ∙ take-length vs))

-- who does an instance is past no other than before
passed_next : (p : Plan) (t k i : ℕ) (xs : List ℕ) → IsDealt p → i < p.places → i ≢ p.place t k
    → passed (working t (suc k) []) (p.tile i) (p.position i) ≡ passed (working t k xs) (p.tile i) (p.position i)
passed_next p t k i xs deal less ne = by_test (nat_eq t (p.tile i)) refl
  where
    by_test : (b : Bool) → nat_eq t (p.tile i) ≡ b
        → (if b then nat_lt (p.position i) (suc k) else true) ≡ (if b then nat_lt (p.position i) k else true)
    by_test true e = nat_cases (p.position i) k
        (λ l. lt-ltb (p.position i) (suc k) (omega (arith, l)) ∙ sym (lt-ltb (p.position i) k l))
        (λ same. absurd (ne (sym (deal.there i less) ∙ ap₂ p.place (sym (eqb-true t (p.tile i) e)) same)))
        (λ l. le-ltb (p.position i) (suc k) (omega (arith, l)) ∙ sym (le-ltb (p.position i) k (omega (arith, l))))
    by_test false e = refl

pub last_act_keeps : (p : Plan) (s : State) (id t k : ℕ) (xs : List ℕ) → GoodPlan p → IsDealt p → Sound p s
    → get_elem? s.workers id ≡ some (working t k xs) → k < p.size t
    → length xs ≡ length (p.read (p.place t k)) → Sound p (after_last_act p s id t k xs)
last_act_keeps p s id t k xs good deal sound here less all =
    changed p s id (working t k xs) (working t (suc k) []) s.claims s.finished
    (set s.cells (p.written j) x) sound record {
      here = here;
      grows = omega arith;
      fresh = λ i u w e ne hu hw. ne (sound.apart i id u w (working t k xs) e here hu hw);
      below = λ u h. sound.below id u (working t k xs) here h;
      tally = tally_same p s id (working t k xs) (working t (suc k) []) sound here refl;
      opened = opened_working p s id t k s.finished xs (working t (suc k) []) (set s.cells (p.written j) x) sound here
          (λ u h. h) (λ i l e. nat_cases i j (λ a. same i l (λ z. omega (arith, a, z)) ∙ e)
          (λ a. subst (λ (m : ℕ). is_done p after m ≡ true) (sym a) now)
          (λ a. same i l (λ z. omega (arith, a, z)) ∙ e));
      reads = λ u n zs e. subst (λ w. RightOf p w) e new;
      wide = length-set s.cells (p.written j) x ∙ sound.wide;
      cells = λ c l. by_test c l (nat_eq c (p.written j)) refl;
      over = λ e. absurd cc;
    }
  where
    j : ℕ
    j = p.place t k

    x : ℕ
    x = written_to p s (p.written (p.place t k)) (p.value (p.place t k) xs)

    tiled : t < p.tiles
    tiled = (sound.below id t (working t k xs) here refl).1

    within : j < p.places
    within = deal.place t k tiled less

    after : State
    after = after_last_act p s id t k xs

    new : IsRight p t (suc k) []
    new = record { within = omega (arith, less); values = λ l. refl; over = λ z. refl }

    r : IsReady p (is_done p s) j
    r = ready_next p s id t k xs good deal sound here less

    same : (i : ℕ) → i < p.places → i ≢ j → is_done p after i ≡ is_done p s i
    same i l ne = done_set p s id i s.finished (working t k xs) (working t (suc k) [])
        (set s.cells (p.written j) x) here (passed_next p t k i xs deal l ne)

    is_t : t ≡ p.tile j
    is_t = sym (deal.its_tile t k tiled less)

    is_k : p.position j ≡ k
    is_k = deal.its_position t k tiled less

    now : is_done p after j ≡ true
    now = done_from p after j (subst (λ (u : ℕ). u < s.claims) is_t (sound.below id t (working t k xs) here refl).0)
        (λ m w e. ⊎_elim
        (λ (x : (m ≡ id) × (working t (suc k) [] ≡ w)). subst (λ z. passed z (p.tile j) (p.position j) ≡ true) x.1
        (passed_at t (p.tile j) (suc k) (p.position j) [] is_t (omega (arith, is_k))))
        (λ (x : (m ≢ id) × (get_elem? s.workers m ≡ some w)). passed_free w (p.tile j) (p.position j)
        (λ h. x.0 (sound.apart m id (p.tile j) w (working t k xs) x.1 here h is_t)))
        (at_set s.workers id m (working t (suc k) []) w e))

    in_row : p.written j < length s.cells
    in_row = let w = sound.wide in let l = deal.written j within in omega (arith, w, l)

    -- what it leaves is what the cells hold where it is done too
    left : x ≡ words_of p (is_done p after) p.places (p.written j)
    left = ap₂ (λ (a b : ℕ). updated (p.adds (p.written j)) a b) (sound.cells (p.written j) (deal.written j within))
        (store_value p s id t k xs sound here less all)
        ∙ sym (updated_here p (is_done p s) (is_done p after) j within r same now)

    by_test : (c : ℕ) → c < p.cells → (b : Bool) → nat_eq c (p.written j) ≡ b
        → get_or (set s.cells (p.written j) x) c 0 ≡ words_of p (is_done p after) p.places c
    by_test c l true e =
        let z : c ≡ p.written j = eqb-true c (p.written j) e in
        subst (λ (d : ℕ). get_or (set s.cells (p.written j) x) d 0 ≡ words_of p (is_done p after) p.places d) (sym z)
        (get_or-set_same s.cells (p.written j) x 0 in_row ∙ left)
    by_test c l false e =
        let ne = eqb-false c (p.written j) e in
        get_or-set_other s.cells (p.written j) c x 0 ne
        ∙ (sound.cells c l ∙ sym (store_else p (is_done p s) (is_done p after) j c same ne))

-- who has done all instances of its tile may give it up
passed_end : (p : Plan) (t k i : ℕ) (xs : List ℕ) → IsDealt p → i < p.places → k ≡ p.size t
    → passed idle (p.tile i) (p.position i) ≡ passed (working t k xs) (p.tile i) (p.position i)
passed_end p t k i xs deal less full = by_test (nat_eq t (p.tile i)) refl
  where
    by_test : (b : Bool) → nat_eq t (p.tile i) ≡ b → true ≡ (if b then nat_lt (p.position i) k else true)
    by_test true e =
        let d = deal.position i less in
        let z : p.size (p.tile i) ≡ p.size t = ap p.size (sym (eqb-true t (p.tile i) e)) in
        sym (lt-ltb (p.position i) k (omega (arith, d, z, full)))
    by_test false e = refl

pub finish_keeps : (p : Plan) (s : State) (id t k : ℕ) (xs : List ℕ) → IsDealt p → Sound p s
    → get_elem? s.workers id ≡ some (working t k xs) → k ≡ p.size t → Sound p (after_finish s id)
finish_keeps p s id t k xs deal sound here full =
    changed p s id (working t k xs) idle s.claims (suc s.finished) s.cells sound record {
      here = here;
      grows = omega arith;
      fresh = λ i u w e ne hu hw. hw;
      below = λ u h. absurd h;
      tally =
          (let a = sound.tally in
          let b = total_set one_if_held s.workers id (working t k xs) idle here in
          omega (arith, a, b));
      opened = opened_working p s id t k (suc s.finished) xs idle s.cells sound here (λ u h. absurd h)
          (λ i l e. same i l ∙ e);
      reads = λ u n zs e. absurd cc;
      wide = sound.wide;
      cells = cells_same p s (after_finish s id) sound same;
      over = λ e. absurd cc;
    }
  where
    same : (i : ℕ) → i < p.places → is_done p (after_finish s id) i ≡ is_done p s i
    same i l = done_set p s id i (suc s.finished) (working t k xs) idle s.cells here (passed_end p t k i xs deal l full)
