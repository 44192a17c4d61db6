-- What the events of a worker's instances leave (`instance_run`, `stretch_run`).
use Rattle.scop_syntax.proofs.Common.{take, ◌≡◌, ◌∙◌, ◌&&◌, not, Bool, true, false, ℕ, zero, suc, ◌+◌, ◌<◌, ◌≤◌, List}
use Rattle.scop_syntax.proofs.Common.{[], ◌∷◌, ◌++◌, length, get_or, set, length-append, ap, ap₂, sym, refl, arith}
use Rattle.scop_syntax.proofs.Common.{nat_lt, nat_eq, if◌then◌else◌, and_from, eq-eqb, lt-ltb, some, get_elem?}
use Rattle.std.proofs.lemmas.List.{append-nil, append_assoc, get_or_at, map_more, set-set}
use Rattle.atomic_table.proofs.Lists.{set_again}
use Rattle.tile_events.specs.Core.{Event, State, Worker, acts, is_counted, is_last_act, last_act, load}
use Rattle.tile_events.specs.Core.{replay, Seen, step, step_of, working}
use Rattle.tile_events.specs.Plan.{Plan, updated}
use Rattle.tile_events.proofs.Workers.{set_at}
use Rattle.tile_core.specs.Acts.{instance_acts, last_event, place_acts, stretch_acts}
use Rattle.tile_core.specs.steps.Acts.{after_instance, after_instances, after_place, values_at, with_cells}
use Rattle.tile_core.proofs.Gates.{Extends}

-- the first branch
taken : {A : Type 0} (b : Bool) (x y : A) → b ≡ true → (if b then x else y) ≡ x
taken b x y e = rw e refl

-- what an event does that is the last act of an instance
pub acts_last : (p : Plan) (s : State) (id t k : ℕ) (xs : List ℕ) (b : Bool)
    → acts p s id (working t k xs) (last_event b) ≡ last_act p s id t k xs (last_event b)
acts_last p s id t k xs true = refl
acts_last p s id t k xs false = refl

-- the event is that of the cell's kind, where a cell that is added to is no counter
pub is_last : (p : Plan) (b : Bool) (c : ℕ) → p.adds c ≡ b → (b ≡ true → is_counted p.gate ≡ false)
    → is_last_act p (last_event b) c ≡ true
is_last p true c kind alone = and_from (p.adds c) (not (is_counted p.gate)) kind (ap not (alone refl))
is_last p false c kind alone = ap not kind

-- a worker at instance k of tile t, whose cell is no counter
module _ (p : Plan) (s : State) (id t k : ℕ) (v : Worker) (there : get_elem? s.workers id ≡ some v)
    (left : k < p.size t) (alone : p.adds (p.written (p.place t k)) ≡ true → is_counted p.gate ≡ false) where
  abbrev reads : List ℕ
  reads = p.read (p.place t k)

  abbrev cell : ℕ
  cell = p.written (p.place t k)

  abbrev last : Event
  last = last_event (p.adds cell)

  at_step : (cells xs : List ℕ) (e : Event)
      → step p (with_cells s id cells (working t k xs)) id e
      ≡ step_of p (with_cells s id cells (working t k xs)) id (some (working t k xs)) e
  at_step cells xs e =
      ap (λ o. step_of p (with_cells s id cells (working t k xs)) id o e) (set_at s.workers id v (working t k xs) there)

  loads : (cells xs : List ℕ) → length xs < length reads
      → (step p (with_cells s id cells (working t k xs)) id load).0
      ≡ with_cells s id cells (working t k (xs ++ get_or cells (get_or reads (length xs) 0) 0 ∷ []))
  loads cells xs more =
      ap (λ (x : State × Seen). x.0) (at_step cells xs load
      ∙ (taken (nat_lt k (p.size t)) _ _ (lt-ltb k (p.size t) left)
      ∙ taken (nat_lt (length xs) (length reads)) _ _ (lt-ltb (length xs) (length reads) more)))
      ∙ ap (λ ws. record { claims = s.claims; finished = s.finished; cells = cells; workers = ws })
      (set-set s.workers id _ _)

  -- what the cells are behind its last act, by the values read
  abbrev given : List ℕ → List ℕ → List ℕ
  given cells xs = set cells cell (updated (p.adds cell) (get_or cells cell 0) (p.value (p.place t k) xs))

  puts : (cells xs : List ℕ) → length xs ≡ length reads
      → (step p (with_cells s id cells (working t k xs)) id last).0
      ≡ with_cells s id (given cells xs) (working t (suc k) [])
  puts cells xs all =
      ap (λ (x : State × Seen). x.0) (at_step cells xs last
      ∙ (acts_last p (with_cells s id cells (working t k xs)) id t k xs (p.adds cell)
      ∙ (taken (nat_lt k (p.size t)) _ _ (lt-ltb k (p.size t) left)
      ∙ taken (nat_eq (length xs) (length reads) && is_last_act p last cell) _ _
      (and_from (nat_eq (length xs) (length reads)) (is_last_act p last cell)
      (eq-eqb (length xs) (length reads) all) (is_last p (p.adds cell) cell refl alone)))))
      ∙ ap (λ (ws : List Worker). record {
        claims = s.claims;
        finished = s.finished;
        cells = given cells xs;
        workers = ws;
      }) (set-set s.workers id _ _)

  -- the values xs of the first cells are read, and the others are still to be read
  rest_run : (cells done more xs : List ℕ) → reads ≡ done ++ more → length xs ≡ length done
      → replay p (with_cells s id cells (working t k xs)) (instance_acts id last (length more))
      ≡ with_cells s id (given cells (xs ++ values_at cells more)) (working t (suc k) [])
  rest_run cells done [] xs is count =
      puts cells xs (count ∙ sym (ap length (is ∙ append-nil done)))
      ∙ ap (λ (ys : List ℕ). with_cells s id (given cells ys) (working t (suc k) []))
      (sym (append-nil xs))
  rest_run cells done (c ∷ more) xs is count =
      let x = get_or cells c 0 in
      let n = ap length is in
      let long = length-append done (c ∷ more) in
      let one = length-append xs (x ∷ []) in
      let two = length-append done (c ∷ []) in
      let found : get_or reads (length xs) 0 ≡ c =
      ap (λ (cs : List ℕ). get_or cs (length xs) 0) is ∙ get_or_at done c more 0 (length xs) (sym count) in
      let next : (step p (with_cells s id cells (working t k xs)) id load).0
      ≡ with_cells s id cells (working t k (xs ++ x ∷ [])) =
      loads cells xs (omega (arith, n, long, count))
      ∙ ap (λ d. with_cells s id cells (working t k (xs ++ get_or cells d 0 ∷ []))) found in
      ap (λ (d : State). replay p d (instance_acts id last (length more))) next
      ∙ (rest_run cells (done ++ c ∷ []) more (xs ++ x ∷ []) (is ∙ sym (append_assoc done (c ∷ []) more))
      (omega (arith, one, two, count))
      ∙ ap (λ (ys : List ℕ). with_cells s id (given cells ys) (working t (suc k) []))
      (append_assoc xs (x ∷ []) (values_at cells more)))

  instance_run : (cells : List ℕ) → replay p (with_cells s id cells (working t k [])) (place_acts p id (p.place t k))
      ≡ with_cells s id (after_instance p t k cells) (working t (suc k) [])
  instance_run cells = rest_run cells [] reads [] refl refl

replay_behind : (p : Plan) (s : State) (es fs : List (ℕ × Event)) → replay p s (es ++ fs) ≡ replay p (replay p s es) fs
replay_behind p s [] fs = refl
replay_behind p s (e ∷ es) fs = replay_behind p (step p s e.0 e.1).0 es fs

-- n instances of a tile from number k on write no counters
abbrev pub AreAlone : Plan → ℕ → ℕ → ℕ → Type 0
AreAlone p t k n = (m : ℕ) → m < n → p.adds (p.written (p.place t (k + m))) ≡ true → is_counted p.gate ≡ false

-- such instances
from_there : (p : Plan) (s : State) (id t k n : ℕ) (cells : List ℕ) (v : Worker) → get_elem? s.workers id ≡ some v
    → AreAlone p t k n → k + n ≤ p.size t
    → replay p (with_cells s id cells (working t k [])) (stretch_acts p id t k n)
    ≡ with_cells s id (after_instances p t k n cells) (working t (k + n) [])
from_there p s id t k zero cells v there alone within =
    ap (λ m. with_cells s id cells (working t m [])) (let e : k ≡ k + 0 = omega arith in e)
from_there p s id t k (suc n) cells v there alone within =
    replay_behind p (with_cells s id cells (working t k [])) (stretch_acts p id t k n) _
    ∙ (ap (λ (d : State). replay p d (place_acts p id (p.place t (k + n))))
    (from_there p s id t k n cells v there (λ m l. alone m (omega (arith, l))) (omega (arith, within)))
    ∙ (instance_run p s id t (k + n) v there (omega (arith, within)) (alone n (omega arith))
    (after_instances p t k n cells)
    ∙ ap (λ m. with_cells s id (after_instances p t k (suc n) cells) (working t m []))
    (let e : suc (k + n) ≡ k + suc n = omega arith in e)))

-- n instances behind m others
pub after_more : (p : Plan) (t k m n : ℕ) (cells : List ℕ)
    → after_instances p t (k + m) n (after_instances p t k m cells) ≡ after_instances p t k (m + n) cells
after_more p t k m zero cells =
    ap (λ i. after_instances p t k i cells) (let e : m ≡ m + 0 = omega arith in e)
after_more p t k m (suc n) cells =
    ap₂ (λ (i : ℕ) (ys : List ℕ). after_instance p t i ys) (let e : (k + m) + n ≡ k + (m + n) = omega arith in e)
    (after_more p t k m n cells)
    ∙ ap (λ i. after_instances p t k i cells) (let e : suc (m + n) ≡ m + suc n = omega arith in e)

-- what the events of n instances leave, where the worker is at the first of them and has read nothing
pub stretch_run : (p : Plan) (s : State) (id t k n : ℕ) → get_elem? s.workers id ≡ some (working t k [])
    → AreAlone p t k n → k + n ≤ p.size t
    → replay p s (stretch_acts p id t k n)
    ≡ with_cells s id (after_instances p t k n s.cells) (working t (k + n) [])
stretch_run p s id t k n here alone within =
    ap (λ ws. replay p (record { claims = s.claims; finished = s.finished; cells = s.cells; workers = ws })
    (stretch_acts p id t k n)) (sym (set_again s.workers id (working t k []) here))
    ∙ from_there p s id t k n s.cells (working t k []) here alone within

-- a plan with the same instances and more behind them has the same events, which leave the same
module _ (p q : Plan) (more : Extends p q) (id t : ℕ) (there : (k : ℕ) → k < p.size t → p.place t k < p.places)
    (inside : (j : ℕ) → j < p.places → p.written j < p.cells) where
  same_place : (k : ℕ) → k < p.size t → q.place t k ≡ p.place t k
  same_place k l = more.place t k l

  same_kind : (j : ℕ) → j < p.places → q.adds (q.written j) ≡ p.adds (p.written j)
  same_kind j l = ap q.adds (more.written j l) ∙ more.adds (p.written j) (inside j l)

  pub same_acts : (k n : ℕ) → k + n ≤ p.size t → stretch_acts q id t k n ≡ stretch_acts p id t k n
  same_acts k zero within = refl
  same_acts k (suc n) within =
      let less : k + n < p.size t = omega (arith, within) in
      let j = p.place t (k + n) in
      ap₂ (λ (es : List (ℕ × Event)) (m : ℕ). es ++ place_acts q id m)
      (same_acts k n (omega (arith, within))) (same_place (k + n) less)
      ∙ ap₂ (λ (b : Bool) (rs : List ℕ). stretch_acts p id t k n ++ instance_acts id (last_event b) (length rs))
      (same_kind j (there (k + n) less)) (more.read j (there (k + n) less))

  after_same : (j : ℕ) (cells : List ℕ) → j < p.places → after_place q j cells ≡ after_place p j cells
  after_same j cells less =
      ap₂ (λ (b : Bool) (c : ℕ).
      set cells c (updated b (get_or cells c 0) (q.value j (values_at cells (q.read j))))) (same_kind j less)
      (more.written j less)
      ∙ ap₂ (λ (f : List ℕ → ℕ) (rs : List ℕ). set cells (p.written j)
      (updated (p.adds (p.written j)) (get_or cells (p.written j) 0) (f (values_at cells rs)))) (more.value j less)
      (more.read j less)

  pub same_after : (k n : ℕ) (cells : List ℕ) → k + n ≤ p.size t
      → after_instances q t k n cells ≡ after_instances p t k n cells
  same_after k zero cells within = refl
  same_after k (suc n) cells within =
      let less : k + n < p.size t = omega (arith, within) in
      ap₂ (λ (j : ℕ) (ys : List ℕ). after_place q j ys) (same_place (k + n) less)
      (same_after k n cells (omega (arith, within)))
      ∙ after_same (p.place t (k + n)) (after_instances p t k n cells) (there (k + n) less)

  pub same_alone : (k n : ℕ) → k + n ≤ p.size t → ((c : ℕ) → p.adds c ≡ true → is_counted q.gate ≡ false)
      → AreAlone q t k n
  same_alone k n within alone m l adds =
      let less : k + m < p.size t = omega (arith, l, within) in
      let j = p.place t (k + m) in
      alone (p.written j) (sym (same_kind j (there (k + m) less))
      ∙ (ap (λ (i : ℕ). q.adds (q.written i)) (sym (same_place (k + m) less)) ∙ adds))

-- one value more is read
pub values_more : (cells rs xs : List ℕ) (i x : ℕ) → i < length rs → xs ≡ values_at cells (take i rs)
    → x ≡ get_or cells (get_or rs i 0) 0 → xs ++ x ∷ [] ≡ values_at cells (take (i + 1) rs)
values_more cells rs xs i x less is found =
    ap₂ (λ (ys : List ℕ) (y : ℕ). ys ++ y ∷ []) is found ∙ sym (map_more (λ c. get_or cells c 0) rs i 0 less)
