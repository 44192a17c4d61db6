-- Each step on the table is an event of the core, and keeps the table's rule.
use Rattle.scop_syntax.proofs.Common.{◌≡◌, ℕ, zero, suc, ◌+◌, ◌%◌, ◌^◌, ◌<◌, ◌≤◌, ◌≢◌, ◌⊎◌, ⊎_elim, Bool, true, false}
use Rattle.scop_syntax.proofs.Common.{List, [], ◌∷◌, ◌++◌, length, drop, get_or, map, set, ap, sym, refl, ◌∙◌, subst}
use Rattle.scop_syntax.proofs.Common.{arith, min, slice_index, slice_set, cases_lt, map-set, length-set, length-drop}
use Rattle.scop_syntax.proofs.Common.{get_or-set_same, some, some-injective, some-ne-none, get_elem?, nat_cases}
use Rattle.atomic_table.specs.Table as table
use Rattle.atomic_table.specs.Table.{Me, keeps, stepped, Allows, Splits, Joins}
use Rattle.atomic_table.proofs.Lists.{at_map, at_set, at_snoc, set_else, set_again}
use Rattle.tile_events.specs.Plan.{Plan, Gate, waves, counters, updated, before, values_read}
use Rattle.tile_events.specs.Core.{Worker, idle, ended, holding, working, State, with_worker, cell_read, after_write}
use Rattle.tile_events.specs.Core.{written_to, seen_by, needed_by}
use Rattle.tile_events.specs.Sound.{Holds, total, Sound}
use Rattle.tile_events.specs.Rule.{core, if_ended, AtRest, gate_word, Held, steps_in, unmoved, ticked, missed}
use Rattle.tile_events.specs.Rule.{both_clocks}
use Rattle.tile_events.specs.Allowed.{IsBehind}
use Rattle.tile_events.specs.declared.clock.Clock.{Clock}
use Rattle.tile_events.proofs.Words.{core_claims, core_finished, core_cell, word_of_cell, same_word, word_other, small}
use Rattle.tile_events.proofs.Workers.{total_set, total_le_at, total_last, total_two}
use Rattle.tile_events.proofs.Clocks.{Goes, goes, goes_missed, timed_step, timed_split, timed_join}
use Rattle.tile_events.proofs.Events.{claim_keeps, last_keeps, open_keeps, load_keeps, load_value, last_act_keeps}
use Rattle.tile_events.proofs.Events.{finish_keeps}
use Rattle.tile_events.proofs.Runs.{quiet_cells}
use Rattle.tile_events.proofs.Rests.{holds_none, rest_keeps, more_keeps}

if_ended_le : (w : Worker) (n : ℕ) → if_ended w n ≤ n
if_ended_le idle n = omega arith
if_ended_le ended n = omega arith
if_ended_le (holding t) n = omega arith
if_ended_le (working t k xs) n = omega arith

module _ {V : Type 0} (p : Plan) (most : ℕ) (worker : V → Worker) (parts : V → ℕ) (clock : V → Clock) where
  -- how many of a view's claims found no tile
  abbrev misses_of : V → ℕ
  misses_of v = (clock v).misses

  -- how many steps all seats have made
  abbrev made : table.State (Unit {0}) V → ℕ
  made s = steps_in parts clock s.views

  -- the claims leave room: word 0 does not wrap
  no_wrap : (s : table.State (Unit {0}) V) → Held p most worker parts clock s → slice_index s.words 0 < 18446744073709551615
  no_wrap s h =
      let a = h.claims in
      let f = h.few in
      let w = h.workers in
      let l = total_le_at misses_of parts s.views
      (λ i v e. let m = h.misses i v e in let n = if_ended_le (worker v) (parts v) in omega (arith, m, n)) in
      omega (arith, a, f, w, l)

  stands_set : (vs : List V) (id : ℕ) (w : V)
      → ((i t : ℕ) (v : V) → get_elem? vs i ≡ some v → Holds (worker v) t → 0 < parts v)
      → ((t : ℕ) → Holds (worker w) t → 0 < parts w)
      → (i t : ℕ) (v : V) → get_elem? (set vs id w) i ≡ some v → Holds (worker v) t → 0 < parts v
  stands_set vs id w old new i t v e h = ⊎_elim
      (λ (x : (i ≡ id) × (w ≡ v)). subst (λ y. 0 < parts y) x.1 (new t (subst (λ y. Holds (worker y) t) (sym x.1) h)))
      (λ (x : (i ≢ id) × (get_elem? vs i ≡ some v)). old i t v x.1 h)
      (at_set vs id i w v e)

  misses_set : (vs : List V) (id : ℕ) (w : V)
      → ((i : ℕ) (v : V) → get_elem? vs i ≡ some v → misses_of v ≤ if_ended (worker v) (parts v))
      → misses_of w ≤ if_ended (worker w) (parts w)
      → (i : ℕ) (v : V) → get_elem? (set vs id w) i ≡ some v → misses_of v ≤ if_ended (worker v) (parts v)
  misses_set vs id w old new i v e = ⊎_elim
      (λ (x : (i ≡ id) × (w ≡ v)). subst (λ y. misses_of y ≤ if_ended (worker y) (parts y)) x.1 new)
      (λ (x : (i ≢ id) × (get_elem? vs i ≡ some v)). old i v x.1)
      (at_set vs id i w v e)

  -- the claims are those that took a tile and those that found none
  abbrev AreClaims : List ℕ → List V → Type 0
  AreClaims ws vs = slice_index ws 0 ≡ min (slice_index ws 0) p.tiles + total misses_of vs

  -- the rule after a step of seat id, from the core's Sound and the claims
  kept : (s : table.State (Unit {0}) V) (id i n : ℕ) (v w : V) (c : List (ℕ × Unit {0}))
      → Held p most worker parts clock s → get_elem? s.views id ≡ some v → parts w ≡ parts v → 0 < parts v
      → slice_index (slice_set s.words i n) i ≡ n → Goes (clock v) (clock w) (suc (made s)) i n
      → Sound p (core (slice_set s.words i n) (set (map worker s.views) id (worker w)))
      → misses_of w ≤ if_ended (worker w) (parts w) → AreClaims (slice_set s.words i n) (slice_set s.views id w)
      → Held p most worker parts clock (stepped s i n id c w keeps)
  kept s id i n v w c h here same some_parts set_there on sound misses claims =
      let some_after : 0 < parts w = omega (arith, same, some_parts) in record {
        good = h.good;
        dealt = h.dealt;
        few = h.few;
        long = (let l = h.long in let m = length-set s.words i n in omega (arith, l, m));
        sound = subst (λ ws. Sound p (core (slice_set s.words i n) ws)) (sym (map-set worker s.views id w)) sound;
        workers = (let a = h.workers in let b = total_set parts s.views id v w here in omega (arith, a, b, same));
        claims = claims;
        misses = misses_set s.views id w h.misses misses;
        stands = stands_set s.views id w (h.stands) (λ t q. some_after);
        timed = timed_step parts clock p s.words s.views id i n v w h.timed here some_after set_there on;
      }

  claims_same : (s : table.State (Unit {0}) V) (id i n : ℕ) (v w : V) → Held p most worker parts clock s
      → get_elem? s.views id ≡ some v → misses_of w ≡ misses_of v → 0 < i
      → AreClaims (slice_set s.words i n) (slice_set s.views id w)
  claims_same s id i n v w h here same far =
      let a = h.claims in
      let b = total_set misses_of s.views id v w here in
      let o = word_other s.words i n far in
      omega (arith, a, b, o, same)

  -- a view that has not ended has no claim that found none
  no_misses : (s : table.State (Unit {0}) V) (id : ℕ) (v : V) (w : Worker) → Held p most worker parts clock s
      → get_elem? s.views id ≡ some v → worker v ≡ w → if_ended w (parts v) ≡ 0 → misses_of v ≡ 0
  no_misses s id v w h here is z =
      let m = h.misses id v here in
      let e = ap (λ (x : Worker). if_ended x (parts v)) is in
      omega (arith, m, e, z)

  abbrev core_of : table.State (Unit {0}) V → State
  core_of s = core s.words (map worker s.views)

  -- sound with so many claims or finished tiles, where worker id stands as w
  abbrev claimed_by : table.State (Unit {0}) V → ℕ → ℕ → Worker → Type 0
  claimed_by s n id w = Sound p record {
    claims = n;
    finished = slice_index s.words 1;
    cells = drop 2 s.words;
    workers = set (map worker s.views) id w;
  }

  abbrev finished_by : table.State (Unit {0}) V → ℕ → ℕ → Worker → Type 0
  finished_by s n id w = Sound p record {
    claims = slice_index s.words 0;
    finished = n;
    cells = drop 2 s.words;
    workers = set (map worker s.views) id w;
  }

  seen_at : (s : table.State (Unit {0}) V) (id : ℕ) (v : V) (w : Worker) → get_elem? s.views id ≡ some v
      → worker v ≡ w → get_elem? (map worker s.views) id ≡ some w
  seen_at s id v w here is = at_map worker s.views id v here ∙ ap (λ (x : Worker). some x) is

  -- claim: one fetch_add of word 0
  pub claim_step : (slots id : ℕ) (me : Me (Unit {0}) V) (won lost : ℕ → ℕ → V)
      (then : ℕ → Me (Unit {0}) V → Type 0)
      → worker me.0 ≡ idle → 0 < parts me.0
      → ((stamp t : ℕ)
      → IsBehind worker parts clock me.0 (won stamp t) (holding t) (ticked (clock me.0) stamp 0 (suc t)))
      → ((stamp t : ℕ) → IsBehind worker parts clock me.0 (lost stamp t) ended (missed (clock me.0) stamp 0 (suc t)))
      → ((stamp t : ℕ) → t < p.tiles → then t (won stamp t, me.1))
      → ((stamp t : ℕ) → p.tiles ≤ t → then t (lost stamp t, me.1))
      → Allows (Held p most worker parts clock) slots id me 0 (λ n. (n + 1) % 2 ^ 64) then
  claim_step slots id me won lost then is some_parts is_won is_lost t f = λ s h homes here bound.
      let n : ℕ = slice_index s.words 0 in
      let m : ℕ = suc (made s) in
      let small_n = small n (no_wrap s h) in
      let long = h.long in
      let zero_in : 0 < length s.words = omega (arith, long) in
      let set_zero = get_or-set_same s.words 0 (suc n) 0 zero_in in
      let none = no_misses s id me.0 idle h here is refl in
      let a = h.claims in
      ⊎_elim
      (λ (l : slice_index s.words 0 < p.tiles).
      let w : V = won m n in
      let misses = ap (λ c. c.misses) (is_won m n).2 in
      let b = total_set misses_of s.views id me.0 w here in (
        w,
        keeps,
        tt,
        subst (λ (k : ℕ). Held p most worker parts clock (stepped s 0 k id me.1 w keeps)) (sym small_n)
            (kept s id 0 (suc n) me.0 w me.1 h here (is_won m n).1 some_parts set_zero
            (goes (clock me.0) (clock w) m 0 (suc n) (is_won m n).2)
            (subst (Sound p) (sym (core_claims s.words (set (map worker s.views) id (worker w)) (suc n) long))
            (subst (claimed_by s (suc n) id) (sym (is_won m n).0)
            (claim_keeps p (core_of s) id h.sound (seen_at s id me.0 idle here is) l)))
            (omega (arith, misses, none)) (omega (arith, set_zero, a, b, misses, l))),
        t m n l,
      ))
      (λ (g : p.tiles ≤ slice_index s.words 0).
      let w : V = lost m n in
      let misses = ap (λ c. c.misses) (is_lost m n).2 in
      let b = total_set misses_of s.views id me.0 w here in
      let all : if_ended (worker w) (parts w) ≡ parts me.0 =
      ap (λ (x : Worker). if_ended x (parts w)) (is_lost m n).0 ∙ (is_lost m n).1 in (
        w,
        keeps,
        tt,
        subst (λ (k : ℕ). Held p most worker parts clock (stepped s 0 k id me.1 w keeps)) (sym small_n)
            (kept s id 0 (suc n) me.0 w me.1 h here (is_lost m n).1 some_parts set_zero
            (goes_missed (clock me.0) (clock w) m 0 (suc n) (is_lost m n).2)
            (subst (Sound p) (sym (core_claims s.words (set (map worker s.views) id (worker w)) (suc n) long))
            (subst (claimed_by s (suc n) id) (sym (is_lost m n).0)
            (last_keeps p (core_of s) id h.dealt h.sound (seen_at s id me.0 idle here is) g)))
            (omega (arith, misses, none, all, some_parts)) (omega (arith, set_zero, a, b, misses, g))),
        f m n g,
      ))
      (cases_lt (slice_index s.words 0) p.tiles)

  some_at : (s : table.State (Unit {0}) V) (id t : ℕ) (v : V) (w : Worker) → Held p most worker parts clock s
      → get_elem? s.views id ≡ some v → worker v ≡ w → Holds w t → 0 < parts v
  some_at s id t v w h here is holds = h.stands id t v here (subst (λ y. Holds y t) (sym is) holds)

  -- a load changes the view alone
  viewed : (s : table.State (Unit {0}) V) (id i : ℕ) (v w : V) (x y : Worker) (c : List (ℕ × Unit {0}))
      → Held p most worker parts clock s → get_elem? s.views id ≡ some v → worker v ≡ x → if_ended x (parts v) ≡ 0
      → IsBehind worker parts clock v w y (ticked (clock v) (suc (made s)) i (slice_index s.words i)) → 0 < i
      → 0 < parts v → Sound p (with_worker (core_of s) id y)
      → Held p most worker parts clock (stepped s i (slice_index s.words i) id c w keeps)
  viewed s id i v w x y c h here is unended behind far some_parts sound =
      let none = no_misses s id v x h here is unended in
      let misses = ap (λ c. c.misses) behind.2 in
      kept s id i (slice_index s.words i) v w c h here behind.1 some_parts
      (ap (λ (ws : List ℕ). slice_index ws i) (same_word s.words i))
      (goes (clock v) (clock w) (suc (made s)) i (slice_index s.words i) behind.2)
      (subst (λ ws. Sound p (core ws (set (map worker s.views) id (worker w)))) (sym (same_word s.words i))
      (subst (λ (z : Worker). Sound p (with_worker (core_of s) id z)) (sym behind.0) sound))
      (omega (arith, none, misses)) (claims_same s id i (slice_index s.words i) v w h here misses far)

  -- the word of a gate holds what is counted
  gate_seen : (g : Gate) (s : table.State (Unit {0}) V) (t : ℕ) → 2 ≤ length s.words
      → slice_index s.words (gate_word g t) ≡ seen_by g (core_of s) t
  gate_seen waves s t long = refl
  gate_seen (counters cell needs) s t long = word_of_cell s.words (cell t) long

  gate_far : (g : Gate) (t : ℕ) → 0 < gate_word g t
  gate_far waves t = omega arith
  gate_far (counters cell needs) t = omega arith

  -- open: one load of the word of the tile's gate
  pub open_step : (slots id t : ℕ) (me : Me (Unit {0}) V) (opened waits : ℕ → ℕ → V)
      (then : ℕ → Me (Unit {0}) V → Type 0)
      → worker me.0 ≡ holding t
      → ((stamp n : ℕ) → IsBehind worker parts clock me.0 (opened stamp n) (working t 0 [])
      (ticked (clock me.0) stamp (gate_word p.gate t) n))
      → ((stamp n : ℕ) → IsBehind worker parts clock me.0 (waits stamp n) (holding t)
      (ticked (clock me.0) stamp (gate_word p.gate t) n))
      → ((stamp n : ℕ) → needed_by p.gate p t ≤ n → then n (opened stamp n, me.1))
      → ((stamp n : ℕ) → n < needed_by p.gate p t → then n (waits stamp n, me.1))
      → Allows (Held p most worker parts clock) slots id me (gate_word p.gate t) (λ n. n) then
  open_step slots id t me opened waits then is behind stays yes_then no_then = λ s h homes here bound.
      let i : ℕ = gate_word p.gate t in
      let n : ℕ = slice_index s.words i in
      let m : ℕ = suc (made s) in
      let there = seen_at s id me.0 (holding t) here is in
      let some_parts = some_at s id t me.0 (holding t) h here is refl in
      let at = gate_seen p.gate s t h.long in ⊎_elim
      (λ (l : slice_index s.words (gate_word p.gate t) < needed_by p.gate p t). (
        waits m n,
        keeps,
        tt,
        viewed s id i me.0 (waits m n) (holding t) (holding t) me.1 h here is refl (stays m n) (gate_far p.gate t)
            some_parts
            (subst (λ ws. Sound p (core s.words ws)) (sym (set_again (map worker s.views) id (holding t) there))
            h.sound),
        no_then m n l,
      ))
      (λ (g : needed_by p.gate p t ≤ slice_index s.words (gate_word p.gate t)). (
        opened m n,
        keeps,
        tt,
        viewed s id i me.0 (opened m n) (holding t) (working t 0 []) me.1 h here is refl (behind m n)
            (gate_far p.gate t) some_parts
            (open_keeps p (core_of s) id t h.dealt h.sound there
            (subst (λ (n : ℕ). needed_by p.gate p t ≤ n) at g)),
        yes_then m n g,
      ))
      (cases_lt (slice_index s.words i) (needed_by p.gate p t))

  -- load: one load of the next cell to be read, and the value is the one that execution read
  pub load_step : (slots id t k : ℕ) (xs : List ℕ) (me : Me (Unit {0}) V) (next : ℕ → ℕ → V)
      (then : ℕ → Me (Unit {0}) V → Type 0)
      → worker me.0 ≡ working t k xs
      → ((stamp x : ℕ) → IsBehind worker parts clock me.0 (next stamp x) (working t k (xs ++ x ∷ []))
      (ticked (clock me.0) stamp (cell_read p t k (length xs) + 2) x))
      → k < p.size t → length xs < length (p.read (p.place t k))
      → ((stamp x : ℕ) → x ≡ get_or (values_read p (p.place t k)) (length xs) 0 → then x (next stamp x, me.1))
      → Allows (Held p most worker parts clock) slots id me (cell_read p t k (length xs) + 2) (λ n. n) then
  load_step slots id t k xs me next then is behind less more t_then = λ s h homes here bound.
      let c : ℕ = cell_read p t k (length xs) in
      let x : ℕ = slice_index s.words (c + 2) in
      let m : ℕ = suc (made s) in
      let at : x ≡ get_or (drop 2 s.words) c 0 = word_of_cell s.words c h.long in
      let there = seen_at s id me.0 (working t k xs) here is in (
        next m x,
        keeps,
        tt,
        viewed s id (c + 2) me.0 (next m x) (working t k xs) (working t k (xs ++ x ∷ [])) me.1 h here is refl
            (behind m x) (omega arith) (some_at s id t me.0 (working t k xs) h here is refl)
            (subst (λ (y : ℕ). Sound p (with_worker (core_of s) id (working t k (xs ++ y ∷ [])))) (sym at)
            (load_keeps p (core_of s) id t k xs h.good h.dealt h.sound there less more)),
        t_then m x (at ∙ load_value p (core_of s) id t k xs h.good h.dealt h.sound there less more),
      )

  -- the word of a cell of the plan is there
  word_set : (s : table.State (Unit {0}) V) (c x : ℕ) → Held p most worker parts clock s → c < p.cells
      → slice_index (slice_set s.words (c + 2) x) (c + 2) ≡ x
  word_set s c x h less =
      let wide = h.sound.wide in
      let long = h.long in
      let d = length-drop 2 s.words in
      get_or-set_same s.words (c + 2) x 0 (omega (arith, wide, long, d, less))

  -- the last act of the next instance: its cell gets what the core says
  last_act_step : (id t k : ℕ) (xs : List ℕ) (me : Me (Unit {0}) V) (next : V) (s : table.State (Unit {0}) V) (x : ℕ)
      → worker me.0 ≡ working t k xs
      → IsBehind worker parts clock me.0 next (working t (suc k) [])
      (ticked (clock me.0) (suc (made s)) (p.written (p.place t k) + 2) x)
      → k < p.size t → length xs ≡ length (p.read (p.place t k)) → Held p most worker parts clock s
      → get_elem? s.views id ≡ some me.0
      → x ≡ updated (p.adds (p.written (p.place t k))) (slice_index s.words (p.written (p.place t k) + 2))
      (p.value (p.place t k) xs)
      → Held p most worker parts clock (stepped s (p.written (p.place t k) + 2) x id me.1 next keeps)
  last_act_step id t k xs me next s x is behind less all h here value =
      let c : ℕ = p.written (p.place t k) in
      let there = seen_at s id me.0 (working t k xs) here is in
      let tile = (h.sound.below id t (working t k xs) there refl).1 in
      let y : x ≡ written_to p (core_of s) c (p.value (p.place t k) xs) =
      value ∙ ap (λ (n : ℕ). updated (p.adds c) n (p.value (p.place t k) xs)) (word_of_cell s.words c h.long) in
      let none = no_misses s id me.0 (working t k xs) h here is refl in
      let misses = ap (λ c. c.misses) behind.2 in
      kept s id (c + 2) x me.0 next me.1 h here behind.1 (some_at s id t me.0 (working t k xs) h here is refl)
      (word_set s c x h (h.dealt.written (p.place t k) (h.dealt.place t k tile less)))
      (goes (clock me.0) (clock next) (suc (made s)) (c + 2) x behind.2)
      (subst (Sound p) (sym (core_cell s.words (set (map worker s.views) id (worker next)) c x h.long))
      (subst (λ (z : Worker). Sound p (after_write (core_of s) id z c x)) (sym behind.0)
      (subst (λ (y : ℕ). Sound p (after_write (core_of s) id (working t (suc k) []) c y)) (sym y)
      (last_act_keeps p (core_of s) id t k xs h.good h.dealt h.sound there less all))))
      (omega (arith, none, misses)) (claims_same s id (c + 2) x me.0 next h here misses (omega arith))

  -- store: one store of the next instance's value to its cell
  pub store_step : (slots id t k x : ℕ) (xs : List ℕ) (me : Me (Unit {0}) V) (next : ℕ → V)
      (then : ℕ → Me (Unit {0}) V → Type 0)
      → worker me.0 ≡ working t k xs
      → ((stamp : ℕ) → IsBehind worker parts clock me.0 (next stamp) (working t (suc k) [])
      (ticked (clock me.0) stamp (p.written (p.place t k) + 2) x))
      → k < p.size t → length xs ≡ length (p.read (p.place t k)) → p.adds (p.written (p.place t k)) ≡ false
      → x ≡ p.value (p.place t k) xs → ((stamp n : ℕ) → then n (next stamp, me.1))
      → Allows (Held p most worker parts clock) slots id me (p.written (p.place t k) + 2) (λ _. x) then
  store_step slots id t k x xs me next then is behind less all stores value t_then = λ s h homes here bound.
      let c : ℕ = p.written (p.place t k) in
      let m : ℕ = suc (made s) in (
        next m,
        keeps,
        tt,
        last_act_step id t k xs me (next m) s x is (behind m) less all h here
            (value ∙ sym
            (ap (λ (b : Bool). updated b (slice_index s.words (c + 2)) (p.value (p.place t k) xs)) stores)),
        t_then m (slice_index s.words (c + 2)),
      )

  -- add: one fetch_add of the next instance's value to its cell
  pub add_step : (slots id t k x : ℕ) (xs : List ℕ) (me : Me (Unit {0}) V) (next : ℕ → ℕ → V)
      (then : ℕ → Me (Unit {0}) V → Type 0)
      → worker me.0 ≡ working t k xs
      → ((stamp n : ℕ) → IsBehind worker parts clock me.0 (next stamp n) (working t (suc k) [])
      (ticked (clock me.0) stamp (p.written (p.place t k) + 2) ((n + x) % 2 ^ 64)))
      → k < p.size t → length xs ≡ length (p.read (p.place t k)) → p.adds (p.written (p.place t k)) ≡ true
      → x ≡ p.value (p.place t k) xs → ((stamp n : ℕ) → then n (next stamp n, me.1))
      → Allows (Held p most worker parts clock) slots id me (p.written (p.place t k) + 2) (λ n. (n + x) % 2 ^ 64) then
  add_step slots id t k x xs me next then is behind less all adds value t_then = λ s h homes here bound.
      let c : ℕ = p.written (p.place t k) in
      let n : ℕ = slice_index s.words (c + 2) in
      let m : ℕ = suc (made s) in (
        next m n,
        keeps,
        tt,
        last_act_step id t k xs me (next m n) s ((n + x) % 2 ^ 64) is (behind m n) less all h here
            (ap (λ (y : ℕ). updated true n y) value
            ∙ sym (ap (λ (b : Bool). updated b n (p.value (p.place t k) xs)) adds)),
        t_then m n,
      )

  -- finish: one fetch_add of word 1
  pub finish_step : (slots id t k : ℕ) (xs : List ℕ) (me : Me (Unit {0}) V) (next : ℕ → ℕ → V)
      (then : ℕ → Me (Unit {0}) V → Type 0)
      → worker me.0 ≡ working t k xs
      → ((stamp n : ℕ) → IsBehind worker parts clock me.0 (next stamp n) idle (ticked (clock me.0) stamp 1 (suc n)))
      → k ≡ p.size t → ((stamp n : ℕ) → then n (next stamp n, me.1))
      → Allows (Held p most worker parts clock) slots id me 1 (λ n. (n + 1) % 2 ^ 64) then
  finish_step slots id t k xs me next then is behind full t_then = λ s h homes here bound.
      let n : ℕ = slice_index s.words 1 in
      let m : ℕ = suc (made s) in
      let tally = h.sound.tally in
      let few = h.few in
      let long = h.long in
      let small_n = small n (omega (arith, tally, few)) in
      let none = no_misses s id me.0 (working t k xs) h here is refl in
      let w : V = next m n in
      let misses = ap (λ c. c.misses) (behind m n).2 in (
        w,
        keeps,
        tt,
        subst (λ (m : ℕ). Held p most worker parts clock (stepped s 1 m id me.1 w keeps)) (sym small_n)
            (kept s id 1 (suc n) me.0 w me.1 h here (behind m n).1
            (some_at s id t me.0 (working t k xs) h here is refl)
            (get_or-set_same s.words 1 (suc n) 0 (omega (arith, long)))
            (goes (clock me.0) (clock w) m 1 (suc n) (behind m n).2)
            (subst (Sound p) (sym (core_finished s.words (set (map worker s.views) id (worker w)) (suc n) h.long))
            (subst (finished_by s (suc n) id) (sym (behind m n).0)
            (finish_keeps p (core_of s) id t k xs h.dealt h.sound (seen_at s id me.0 (working t k xs) here is) full)))
            (omega (arith, none, misses)) (claims_same s id 1 (suc n) me.0 w h here misses (omega arith))),
        t_then m n,
      )

  map_more : (vs : List V) (v : V) → map worker (vs ++ v ∷ []) ≡ map worker vs ++ worker v ∷ []
  map_more [] v = refl
  map_more (x ∷ vs) v = ap (λ (ws : List Worker). worker x ∷ ws) (map_more vs v)

  -- split: an idle worker is added
  pub split_step : (id : ℕ) (v left right : V) → worker v ≡ idle → worker left ≡ idle → worker right ≡ idle
      → parts left + parts right ≡ parts v → 0 < parts left → clock left ≡ clock v → clock right ≡ unmoved
      → Splits (Held p most worker parts clock) id v left right
  split_step id v left right is is_left is_right sum some_left same new = λ s h here.
      let vs : List V = slice_set s.views id left in
      let mid : Sound p (core s.words (map worker vs)) =
      subst (λ ws. Sound p (core s.words ws)) (sym (map-set worker s.views id left))
      (rest_keeps p (core_of s) id idle (worker left) h.sound (seen_at s id v idle here is) tt
      (subst AtRest (sym is_left) tt) (λ e. absurd (let f : idle ≡ ended = sym is_left ∙ e in cc))) in
      record {
        good = h.good;
        dealt = h.dealt;
        few = h.few;
        long = h.long;
        sound = subst (λ ws. Sound p (core s.words ws))
            (sym (map_more vs right ∙ ap (λ (w : Worker). map worker vs ++ w ∷ []) is_right))
            (more_keeps p (core s.words (map worker vs)) mid);
        workers =
            (let a = h.workers in
            let b = total_set parts s.views id v left here in
            let c = total_last parts vs right in
            omega (arith, a, b, c, sum));
        claims =
            (let a = h.claims in
            let b = total_set misses_of s.views id v left here in
            let c = total_last misses_of vs right in
            let x = ap (λ k. k.misses) same in
            let y = ap (λ k. k.misses) new in
            omega (arith, a, b, c, x, y));
        misses = λ i x e.
            let none : misses_of right ≡ 0 = ap (λ k. k.misses) new in ⊎_elim
            (λ a. misses_set s.views id left h.misses
            (let m = no_misses s id v idle h here is refl in
            let x = ap (λ k. k.misses) same in
            omega (arith, m, x)) i x a)
            (λ (a : right ≡ x). subst (λ y. misses_of y ≤ if_ended (worker y) (parts y)) a (omega (arith, none)))
            (at_snoc vs right x i e);
        stands = λ i t x e q. ⊎_elim (λ a. stands_set s.views id left h.stands
            (λ t q. absurd (subst (λ y. Holds y t) is_left q)) i t x a q)
            (λ (a : right ≡ x). absurd (subst (λ y. Holds y t) is_right (subst (λ y. Holds (worker y) t) (sym a) q)))
            (at_snoc vs right x i e);
        timed = timed_split parts clock p s.words s.views id v left right h.timed here some_left same new;
      }

  -- join: an idle or ended worker is taken in by one that is idle or ended, and leaves an idle one that stands for
  -- nobody
  pub join_step : (id : ℕ) (v : V) (other : ℕ) (u both spent : V) → AtRest (worker v) → AtRest (worker u)
      → AtRest (worker both) → worker spent ≡ idle → parts spent ≡ 0
      → parts both ≡ parts v + parts u → (worker both ≡ ended → (worker v ≡ ended) ⊎ (worker u ≡ ended))
      → if_ended (worker v) (parts v) + if_ended (worker u) (parts u) ≤ if_ended (worker both) (parts both)
      → clock both ≡ both_clocks (clock v) (clock u) → clock spent ≡ unmoved
      → Joins (Held p most worker parts clock) id v other u both spent
  join_step id v other u both spent rest_v rest_u rest_both is_spent no_parts sum from_ended keep_ended joined new =
      λ s h here apart there.
      let vs : List V = slice_set s.views id both in
      let was : get_elem? s.views other ≡ some u = sym (set_else s.views id other both apart) ∙ there in
      let over : worker both ≡ ended → p.tiles ≤ slice_index s.words 0 =
      (λ e. ⊎_elim (λ a. h.sound.over id (seen_at s id v ended here a))
      (λ a. h.sound.over other (seen_at s other u ended was a)) (from_ended e)) in
      let mid : Sound p (core s.words (map worker vs)) =
      subst (λ ws. Sound p (core s.words ws)) (sym (map-set worker s.views id both))
      (rest_keeps p (core_of s) id (worker v) (worker both) h.sound
      (seen_at s id v (worker v) here refl) rest_v rest_both over) in
      record {
        good = h.good;
        dealt = h.dealt;
        few = h.few;
        long = h.long;
        sound = subst (λ ws. Sound p (core s.words ws)) (sym (map-set worker vs other spent))
            (rest_keeps p (core s.words (map worker vs)) other (worker u) (worker spent) mid
            (at_map worker vs other u there) rest_u (subst AtRest (sym is_spent) tt)
            (λ e. absurd (let f : idle ≡ ended = sym is_spent ∙ e in cc)));
        workers =
            (let a = h.workers in
            let b = total_set parts s.views id v both here in
            let c = total_set parts vs other u spent there in
            omega (arith, a, b, c, sum, no_parts));
        claims =
            (let a = h.claims in
            let b = total_set misses_of s.views id v both here in
            let c = total_set misses_of vs other u spent there in
            let x = ap (λ k. k.misses) joined in
            let y = ap (λ k. k.misses) new in
            omega (arith, a, b, c, x, y));
        misses = misses_set vs other spent
            (misses_set s.views id both h.misses
            (let m = h.misses id v here in
            let n = h.misses other u was in
            let x = ap (λ k. k.misses) joined in
            omega (arith, m, n, x, keep_ended)))
            (let y = ap (λ k. k.misses) new in omega (arith, y));
        stands = stands_set vs other spent
            (stands_set s.views id both h.stands (λ t q. absurd (holds_none (worker both) t rest_both q)))
            (λ t q. absurd (subst (λ y. Holds y t) is_spent q));
        timed = timed_join parts clock p s.words s.views id v other u both spent h.timed here apart was sum joined new;
      }

  at_core : (vs : List V) (i : ℕ) (w : Worker) → get_elem? (map worker vs) i ≡ some w
      → (v : V) × (get_elem? vs i ≡ some v) × (worker v ≡ w)
  at_core [] i w e = absurd (some-ne-none w (sym e))
  at_core (x ∷ vs) zero w e = (x, refl, some-injective (worker x) w e)
  at_core (x ∷ vs) (suc i) w e = at_core vs i w e

  -- the end: a seat that stands for all and has ended sees the cells of execution
  pub end_cells : (s : table.State (Unit {0}) V) (id : ℕ) (v : V) → Held p most worker parts clock s
      → get_elem? s.views id ≡ some v → worker v ≡ ended → parts v ≡ most
      → (c : ℕ) → c < p.cells → slice_index s.words (c + 2) ≡ before p p.places c
  end_cells s id v h here is all c less =
      word_of_cell s.words c h.long ∙ quiet_cells p (core_of s) h.dealt h.sound (record {
        out = h.sound.over id (seen_at s id v ended here is);
        free = λ i t w e q. let a = at_core s.views i w e in
            let some_parts = h.stands i t a.0 a.1 (subst (λ y. Holds y t) (sym a.2) q) in
            let sum = h.workers in
            nat_cases i id
            (λ l. let m = total_two parts s.views i id a.0 v l a.1 here in omega (arith, m, sum, some_parts, all))
            (λ same. let f : get_elem? s.views id ≡ some a.0 =
            subst (λ (j : ℕ). get_elem? s.views j ≡ some a.0) same a.1 in
            subst (λ y. Holds y t) is
            (subst (λ y. Holds (worker y) t) (some-injective a.0 v (sym f ∙ here))
            (subst (λ y. Holds y t) (sym a.2) q)))
            (λ l. let m = total_two parts s.views id i v a.0 l here a.1 in omega (arith, m, sum, some_parts, all));
      }) c less

  -- what clocks tell
  pub misses_count : (s t : table.State (Unit {0}) V) (id : ℕ) (v w : V) → Held p most worker parts clock s
      → Held p most worker parts clock t → get_elem? s.views id ≡ some v → t.views ≡ slice_set s.views id w
      → misses_of w ≡ suc (misses_of v) → p.tiles ≤ slice_index s.words 0
      → slice_index t.words 0 ≡ suc (slice_index s.words 0)
  misses_count s t id v w h g here views one all =
      let a = h.claims in
      let b = g.claims in
      let c = ap (total misses_of) views in
      let d = total_set misses_of s.views id v w here in
      omega (arith, a, b, c, d, one, all)
