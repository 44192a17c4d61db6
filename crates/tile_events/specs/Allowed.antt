-- What the rule of the table allows a seat, whatever its views are and whatever a step tells of them (`then`, of the
-- step, the seat before, the number found and the seat after).
use Rattle.std.specs.Prelude.{◌≡◌, ℕ, suc, ◌+◌, ◌%◌, ◌^◌, ◌<◌, ◌≤◌, ◌⊎◌, true, false, List, [], ◌∷◌, ◌++◌, length}
use Rattle.std.specs.Prelude.{get_or, slice_index, slice_set}
use mathlib.Core.Option.{none, some}
use lib.ListN.{get_elem?}
use Rattle.atomic_table.specs.Table as table
use Rattle.atomic_table.specs.Table.{Me, Step, step, Allows, Splits, Joins}
use Rattle.tile_events.specs.Plan.{Plan, before, values_read}
use Rattle.tile_events.specs.Core.{Worker, idle, ended, holding, working, cell_read, needed_by}
use Rattle.tile_events.specs.Opening.{AreOpeningWords}
use Rattle.tile_events.specs.Rule.{if_ended, AtRest, gate_word, Held, unmoved, ticked, missed, both_clocks}
use Rattle.tile_events.specs.declared.clock.Clock.{Clock}

-- what a step tells of its seat
abbrev pub Tells : Type 0 → Type 1
Tells V = Step (Unit {0}) → Me (Unit {0}) V → ℕ → Me (Unit {0}) V → Type 0

-- the view `new` shows this worker, stands for as many as `old`, and has this clock
abbrev pub IsBehind : {V : Type 0} → (V → Worker) → (V → ℕ) → (V → Clock) → V → V → Worker → Clock → Type 0
IsBehind worker parts clock old new w c = (worker new ≡ w) × (parts new ≡ parts old) × (clock new ≡ c)

-- a claim, one `fetch_add` of word 0: an idle seat that stands for somebody holds the tile of the number found, or has
-- ended where there is no such tile
abbrev pub ClaimIsAllowed : {V : Type 0} → Tells V → Type 0
ClaimIsAllowed {V} then = (p : Plan) (most : ℕ) (worker : V → Worker) (parts : V → ℕ) (clock : V → Clock) (slots id : ℕ)
    (me : Me (Unit {0}) V) (won lost : ℕ → ℕ → V)
    → worker me.0 ≡ idle → 0 < parts me.0
    → ((stamp t : ℕ)
    → IsBehind worker parts clock me.0 (won stamp t) (holding t) (ticked (clock me.0) stamp 0 (suc t)))
    → ((stamp t : ℕ) → IsBehind worker parts clock me.0 (lost stamp t) ended (missed (clock me.0) stamp 0 (suc t)))
    → ((stamp t : ℕ) → t < p.tiles → then (step slots 0 1 0 none) me t (won stamp t, me.1))
    → ((stamp t : ℕ) → p.tiles ≤ t → then (step slots 0 1 0 none) me t (lost stamp t, me.1))
    → Allows (Held p most worker parts clock) slots id me 0 (λ n. (n + 1) % 2 ^ 64) (then (step slots 0 1 0 none) me)

-- an opening, one load of the word of the tile's gate: the tile held is opened where that holds as much as it needs,
-- else it stays as it is
abbrev pub OpenIsAllowed : {V : Type 0} → Tells V → Type 0
OpenIsAllowed {V} then = (p : Plan) (most : ℕ) (worker : V → Worker) (parts : V → ℕ) (clock : V → Clock)
    (slots id t : ℕ) (me : Me (Unit {0}) V) (opened waits : ℕ → ℕ → V)
    → worker me.0 ≡ holding t
    → ((stamp n : ℕ) → IsBehind worker parts clock me.0 (opened stamp n) (working t 0 [])
    (ticked (clock me.0) stamp (gate_word p.gate t) n))
    → ((stamp n : ℕ) → IsBehind worker parts clock me.0 (waits stamp n) (holding t)
    (ticked (clock me.0) stamp (gate_word p.gate t) n))
    → ((stamp n : ℕ) → needed_by p.gate p t ≤ n
    → then (step slots (gate_word p.gate t) 0 0 none) me n (opened stamp n, me.1))
    → ((stamp n : ℕ) → n < needed_by p.gate p t
    → then (step slots (gate_word p.gate t) 0 0 none) me n (waits stamp n, me.1))
    → Allows (Held p most worker parts clock) slots id me (gate_word p.gate t) (λ n. n)
    (then (step slots (gate_word p.gate t) 0 0 none) me)

-- a load of the next cell of the next instance: the number found is the one that execution reads there
abbrev pub LoadIsAllowed : {V : Type 0} → Tells V → Type 0
LoadIsAllowed {V} then = (p : Plan) (most : ℕ) (worker : V → Worker) (parts : V → ℕ) (clock : V → Clock)
    (slots id t k : ℕ) (xs : List ℕ) (me : Me (Unit {0}) V) (next : ℕ → ℕ → V)
    → worker me.0 ≡ working t k xs
    → ((stamp x : ℕ) → IsBehind worker parts clock me.0 (next stamp x) (working t k (xs ++ x ∷ []))
    (ticked (clock me.0) stamp (cell_read p t k (length xs) + 2) x))
    → k < p.size t → length xs < length (p.read (p.place t k))
    → ((stamp x : ℕ) → x ≡ get_or (values_read p (p.place t k)) (length xs) 0
    → then (step slots (cell_read p t k (length xs) + 2) 0 0 none) me x (next stamp x, me.1))
    → Allows (Held p most worker parts clock) slots id me (cell_read p t k (length xs) + 2) (λ n. n)
    (then (step slots (cell_read p t k (length xs) + 2) 0 0 none) me)

-- a store of the next instance's value in its cell, where all that it reads was read, and its cell is stored to
abbrev pub StoreIsAllowed : {V : Type 0} → Tells V → Type 0
StoreIsAllowed {V} then = (p : Plan) (most : ℕ) (worker : V → Worker) (parts : V → ℕ) (clock : V → Clock)
    (slots id t k x : ℕ) (xs : List ℕ) (me : Me (Unit {0}) V) (next : ℕ → V)
    → worker me.0 ≡ working t k xs
    → ((stamp : ℕ) → IsBehind worker parts clock me.0 (next stamp) (working t (suc k) [])
    (ticked (clock me.0) stamp (p.written (p.place t k) + 2) x))
    → k < p.size t → length xs ≡ length (p.read (p.place t k)) → p.adds (p.written (p.place t k)) ≡ false
    → x ≡ p.value (p.place t k) xs
    → ((stamp : ℕ) → then (step slots (p.written (p.place t k) + 2) x 0 none) me x (next stamp, me.1))
    → Allows (Held p most worker parts clock) slots id me (p.written (p.place t k) + 2) (λ _. x)
    (λ _. then (step slots (p.written (p.place t k) + 2) x 0 none) me x)

-- an add or a release, one `fetch_add` of the next instance's value to its cell, where all that it reads was read, and
-- its cell is added to
abbrev pub AddIsAllowed : {V : Type 0} → Tells V → Type 0
AddIsAllowed {V} then = (p : Plan) (most : ℕ) (worker : V → Worker) (parts : V → ℕ) (clock : V → Clock)
    (slots id t k x : ℕ) (xs : List ℕ) (me : Me (Unit {0}) V) (next : ℕ → ℕ → V)
    → worker me.0 ≡ working t k xs
    → ((stamp n : ℕ) → IsBehind worker parts clock me.0 (next stamp n) (working t (suc k) [])
    (ticked (clock me.0) stamp (p.written (p.place t k) + 2) ((n + x) % 2 ^ 64)))
    → k < p.size t → length xs ≡ length (p.read (p.place t k)) → p.adds (p.written (p.place t k)) ≡ true
    → x ≡ p.value (p.place t k) xs
    → ((stamp n : ℕ) → then (step slots (p.written (p.place t k) + 2) x 0 none) me n (next stamp n, me.1))
    → Allows (Held p most worker parts clock) slots id me (p.written (p.place t k) + 2) (λ n. (n + x) % 2 ^ 64)
    (then (step slots (p.written (p.place t k) + 2) x 0 none) me)

-- the end of a tile of which all instances are done, one `fetch_add` of word 1
abbrev pub FinishIsAllowed : {V : Type 0} → Tells V → Type 0
FinishIsAllowed {V} then = (p : Plan) (most : ℕ) (worker : V → Worker) (parts : V → ℕ) (clock : V → Clock)
    (slots id t k : ℕ) (xs : List ℕ) (me : Me (Unit {0}) V) (next : ℕ → ℕ → V)
    → worker me.0 ≡ working t k xs
    → ((stamp n : ℕ) → IsBehind worker parts clock me.0 (next stamp n) idle (ticked (clock me.0) stamp 1 (suc n)))
    → k ≡ p.size t
    → ((stamp n : ℕ) → then (step slots 1 1 0 none) me n (next stamp n, me.1))
    → Allows (Held p most worker parts clock) slots id me 1 (λ n. (n + 1) % 2 ^ 64) (then (step slots 1 1 0 none) me)

-- an idle seat may be cut into two that stand for as many as it: one goes on with its clock, the other has made no step
abbrev pub SplitIsAllowed : Type 0 → Type 0
SplitIsAllowed V = (p : Plan) (most : ℕ) (worker : V → Worker) (parts : V → ℕ) (clock : V → Clock)
    (id : ℕ) (v left right : V)
    → worker v ≡ idle → worker left ≡ idle → worker right ≡ idle → parts left + parts right ≡ parts v
    → 0 < parts left → clock left ≡ clock v → clock right ≡ unmoved
    → Splits (Held p most worker parts clock) id v left right

-- a seat at rest may take in another that rests, with the steps of both; it has ended only where one of the two had,
-- then counts all that ended, and the other is left idle, without a step, and stands for nobody
abbrev pub JoinIsAllowed : Type 0 → Type 0
JoinIsAllowed V = (p : Plan) (most : ℕ) (worker : V → Worker) (parts : V → ℕ) (clock : V → Clock)
    (id : ℕ) (v : V) (other : ℕ) (u both spent : V)
    → AtRest (worker v) → AtRest (worker u) → AtRest (worker both) → worker spent ≡ idle → parts spent ≡ 0
    → parts both ≡ parts v + parts u → (worker both ≡ ended → (worker v ≡ ended) ⊎ (worker u ≡ ended))
    → if_ended (worker v) (parts v) + if_ended (worker u) (parts u) ≤ if_ended (worker both) (parts both)
    → clock both ≡ both_clocks (clock v) (clock u) → clock spent ≡ unmoved
    → Joins (Held p most worker parts clock) id v other u both spent

-- where a seat has ended and stands for all workers, the words of the cells are what execution leaves there
abbrev pub EndIsExecuted : Type 0 → Type 0
EndIsExecuted V = (p : Plan) (most : ℕ) (worker : V → Worker) (parts : V → ℕ) (clock : V → Clock)
    (s : table.State (Unit {0}) V) (id : ℕ) (v : V)
    → Held p most worker parts clock s → get_elem? s.views id ≡ some v → worker v ≡ ended → parts v ≡ most
    → (c : ℕ) → c < p.cells → slice_index s.words (c + 2) ≡ before p p.places c

-- where one seat's clock has gone on by one step from one state to another, and nobody else's view has changed, that
-- step left its word as the clock says
abbrev pub StepsAreSeen : Type 0 → Type 0
StepsAreSeen V = (p : Plan) (most : ℕ) (worker : V → Worker) (parts : V → ℕ) (clock : V → Clock)
    (s t : table.State (Unit {0}) V) (id : ℕ) (v w : V)
    → Held p most worker parts clock s → Held p most worker parts clock t → get_elem? s.views id ≡ some v
    → t.views ≡ slice_set s.views id w → (clock w).steps ≡ suc (clock v).steps
    → slice_index t.words (clock w).word ≡ (clock w).left

-- a claim that finds no tile is counted as well
abbrev pub MissesCount : Type 0 → Type 0
MissesCount V = (p : Plan) (most : ℕ) (worker : V → Worker) (parts : V → ℕ) (clock : V → Clock)
    (s t : table.State (Unit {0}) V) (id : ℕ) (v w : V)
    → Held p most worker parts clock s → Held p most worker parts clock t → get_elem? s.views id ≡ some v
    → t.views ≡ slice_set s.views id w → (clock w).misses ≡ suc (clock v).misses → p.tiles ≤ slice_index s.words 0
    → slice_index t.words 0 ≡ suc (slice_index s.words 0)

-- where those who stand for somebody have made no step, the words are those of the opening state
abbrev pub OpeningIsSeen : Type 0 → Type 0
OpeningIsSeen V = (p : Plan) (most : ℕ) (worker : V → Worker) (parts : V → ℕ) (clock : V → Clock)
    (s : table.State (Unit {0}) V)
    → Held p most worker parts clock s
    → ((i : ℕ) (v : V) → get_elem? s.views i ≡ some v → 0 < parts v → (clock v).steps ≡ 0)
    → AreOpeningWords p s.words
