-- What the steps of instances that are laid on a desk ask, and what is left of these behind each.
use Rattle.scop_syntax.proofs.Common.{◌≡◌, ◌∙◌, ◌+◌, ◌-◌, ◌<◌, ◌≤◌, ℕ, suc, ℤ, List, [], Some, length, get_or, ap, ap₂}
use Rattle.scop_syntax.proofs.Common.{subst, sym, arith, take, Option, slice_get, sums, In, instance_of, Instance}
use Rattle.atomic_table.specs.declared.shared.Seat.{Seat}
use Rattle.scop_syntax.specs.declared.instance.Instance.{Instance as CodeInstance}
use Rattle.tile_table.specs.Codes.{value_by}
use Rattle.tile_table.specs.Desks.{HasSameRoom, IsLaid}
use Rattle.tile_table.specs.declared.desk.Desk.{Desk}
use Rattle.tile_table.specs.declared.table.Row.{Row}
use Rattle.tile_table.proofs.Desks.{room_stays, room_stays_for_all}
use Rattle.tile_events.specs.Plan as events
use Rattle.tile_core.specs.Plans.{IsPlan, places_in, plain_plan, walk_plan, walk_shape}
use Rattle.tile_core.specs.Ranks.{place_in}
use Rattle.tile_core.specs.Rows.{IsFormed, IsRowAt}
use Rattle.tile_core.specs.Stretches.{IsAhead, moved}
use Rattle.tile_core.specs.Views.{done_at, tile_at}
use Rattle.tile_core.specs.Workers.{IsWorker}
use Rattle.tile_core.specs.Stretch.{Stretch}
use Rattle.tile_core.specs.declared.plan.Plan.{Plan}
use Rattle.tile_core.specs.declared.view.View.{View}
use Rattle.tile_core.specs.declared.words.Words.{Words}
use Rattle.tile_core.specs.declared.worker.Stage.{Stage}
use Rattle.tile_core.specs.declared.worker.Worker.{Worker}
use Rattle.tile_core.specs.declared.worker.Stage.TheVariants.{Working}
use Rattle.tile_core.proofs.Stretches.{step_first}
use Rattle.array_words.specs.Loads.{IsNextRead}
use Rattle.array_words.specs.Seats.{IsSeat}
use Rattle.array_words.specs.Stores.{IsNextLast}
use Rattle.tile_runner.specs.steps.Laid.{AreNext, IsOnDesk}

-- the law of rows
abbrev pub RowsTell : Type 0
RowsTell = (plan : Plan) (x : Instance) (row : Row) → IsPlan plan → In x (places_in plan)
    → slice_get plan.table.now.rows.items x.number ≡ Some row → IsRowAt plan row x

-- the instances that a worker has ahead come next where something is laid at the turns of the first, by the stretch's
-- steps
pub ahead_laid : (plan : Plan) (s : Stage) (next : Option CodeInstance) (stretch : Stretch) (count : ℕ)
    (i : CodeInstance) (row : Row) (Laid : List ℤ → List ℤ → Type 0) → IsAhead plan s next stretch count → next ≡ Some i
    → slice_get plan.table.now.rows.items i.statement ≡ Some row
    → Laid (take i.loops stretch.steps) (instance_of i).turns → AreNext plan s row Laid count
ahead_laid plan s next stretch count i row Laid a at own laid =
    let same : Some a.instance ≡ Some i = sym a.first ∙ at in
    let one : a.instance ≡ i = cc in
    let x : CodeInstance → ℕ → Instance = λ k j. moved (instance_of k) (take k.loops stretch.steps) j in
    let part = (a.passes a.tile a.done a.works).1 in
    let within = part.within in
    let some = a.some in record {
      tile = a.tile;
      done = a.done;
      works = a.works;
      within = omega (arith, within, some);
      first = instance_of i;
      steps = take i.loops stretch.steps;
      own = own;
      laid = laid;
      walked = λ j l. subst (λ (k : CodeInstance). In (x k j) (places_in plan)) one (a.walked j l);
      place = λ j l. ap (λ (k : CodeInstance). place_in (places_in plan) (x k j)) (sym one) ∙ a.place j l;
    }

-- so many of them
pub fewer_laid : (plan : Plan) (s : Stage) (row : Row) (Laid : List ℤ → List ℤ → Type 0) (count n : ℕ) → n ≤ count
    → AreNext plan s row Laid count → AreNext plan s row Laid n
fewer_laid plan s row Laid count n few a =
    let within = a.within in record {
      tile = a.tile;
      done = a.done;
      works = a.works;
      within = omega (arith, few, within);
      first = a.first;
      steps = a.steps;
      own = a.own;
      laid = a.laid;
      walked = λ j l. a.walked j (omega (arith, l, few));
      place = λ j l. a.place j (omega (arith, l, few));
    }

module _ (plan : Plan) (s : Stage) (row : Row) (Laid : List ℤ → List ℤ → Type 0) (a : AreNext plan s row Laid 1) where
  -- the place of the first
  first_place : place_in (places_in plan) a.first ≡ (walk_shape plan).place a.tile a.done
  first_place = a.place 0 (omega arith) ∙ ap ((walk_shape plan).place a.tile) (let q : a.done + 0 ≡ a.done = omega arith in q)

  pub first_tells : RowsTell → IsPlan plan → IsRowAt plan row a.first
  first_tells law is = law plan a.first row is (a.walked 0 (omega arith)) a.own

  -- where its first n reads are known, the next one is that of access n + 1
  pub next_read : (cells xs : List ℕ) (n c : ℕ) → walk_plan plan cells ≡ plain_plan plan cells
      → IsRowAt plan row a.first → length xs ≡ n → n < row.code.reads → IsFormed row a.first (n + 1) c
      → IsNextRead (walk_plan plan cells) s xs c
  next_read cells xs n c plain tells long less formed =
      let p = plain_plan plan cells in
      let within = a.within in
      let reads = tells.reads ∙ ap (λ j. length (p.read j)) first_place in
      let at = tells.read n c less (subst (λ (m : ℕ). IsFormed row a.first m c) (let q : n + 1 ≡ suc n = omega arith in q) formed)
      ∙ ap₂ (λ (j m : ℕ). get_or (p.read j) m 0) first_place (sym long) in
      subst (λ (q : events.Plan). IsNextRead q s xs c) (sym plain)
      (subst (λ (u : Stage). IsNextRead p u xs c) (sym a.works)
      (omega (arith, within), omega (arith, long, less, reads), at))

  -- where all are known, what the code makes of them goes to the cell of access 0
  pub next_last : (cells xs : List ℕ) (c x : ℕ) → walk_plan plan cells ≡ plain_plan plan cells
      → IsRowAt plan row a.first → length xs ≡ row.code.reads → IsFormed row a.first 0 c
      → x ≡ value_by row.code a.first.turns xs
      → IsNextLast row.adds (walk_plan plan cells) s xs c x
  next_last cells xs c x plain tells long formed made =
      let p = plain_plan plan cells in
      let within = a.within in
      subst (λ (q : events.Plan). IsNextLast row.adds q s xs c x) (sym plain)
      (subst (λ (u : Stage). IsNextLast row.adds p u xs c x) (sym a.works) (
        omega (arith, within),
        long ∙ (tells.reads ∙ ap (λ j. length (p.read j)) first_place),
        sym (tells.adds ∙ ap (λ j. p.adds (p.written j)) first_place),
        tells.written c formed ∙ ap p.written first_place,
        made ∙ (tells.value xs long ∙ ap (λ j. p.value j xs) first_place),
      ))

-- behind the first of them the others come next where what was laid has gone on
pub others_laid : (plan : Plan) (s : Stage) (row : Row) (Old New : List ℤ → List ℤ → Type 0) (n : ℕ)
    → AreNext plan s row Old (suc n) → ((steps turns : List ℤ) → Old steps turns → New steps (sums turns steps))
    → AreNext plan (Working (tile_at s) (suc (done_at s))) row New n
others_laid plan s row Old New n a on =
    let within = a.within in
    let x = a.first in
    let along : (j : ℕ) → moved (moved x a.steps 1) a.steps j ≡ moved x a.steps (suc j) =
    λ j. ap (λ (ts : List ℤ). record { number = x.number; turns = ts }) (step_first x.turns a.steps j) in record {
      tile = a.tile;
      done = suc a.done;
      works = ap₂ (λ (t k : ℕ). Working t (suc k)) (ap tile_at a.works) (ap done_at a.works);
      within = omega (arith, within);
      first = moved x a.steps 1;
      steps = a.steps;
      own = a.own;
      laid = on a.steps x.turns a.laid;
      walked = λ j l. subst (λ (y : Instance). In y (places_in plan)) (sym (along j)) (a.walked (suc j) (omega (arith, l)));
      place = λ j l. ap (place_in (places_in plan)) (along j) ∙ (a.place (suc j) (omega (arith, l))
          ∙ ap ((walk_shape plan).place a.tile) (let q : a.done + suc j ≡ suc a.done + j = omega arith in q));
    }

-- where a stage at work stands, with nothing more done
pub stands : (s : Stage) (t k : ℕ) → s ≡ Working t k → s ≡ Working (tile_at s) (done_at s + 0)
stands s t k e =
    let done = ap done_at e in
    e ∙ ap₂ Working (sym (ap tile_at e)) (let same : k ≡ done_at s + 0 = omega (arith, done) in same)

-- before the first of those that come next
pub laid_at_first : (plan : Plan) (s : Stage) (row : Row) (Laid : List ℤ → List ℤ → Type 0) (count : ℕ)
    → AreNext plan s row Laid count → AreNext plan (Working (tile_at s) (done_at s + 0)) row Laid (count - 0)
laid_at_first plan s row Laid count a =
    subst (λ (u : Stage). AreNext plan u row Laid (count - 0)) (stands s a.tile a.done a.works)
    (subst (λ (n : ℕ). AreNext plan s row Laid n) (let q : count ≡ count - 0 = omega arith in q) a)

-- a seat that went so many instances on
pub seat_past : (words : Words) (seat new : Seat (Unit {0}) View) (t k n : ℕ) → IsSeat words (Working t k) [] seat
    → IsSeat words (Working (tile_at seat.me.0.stage) (done_at seat.me.0.stage + n)) [] new
    → IsSeat words (Working t (k + n)) [] new
seat_past words seat new t k n is after =
    subst (λ (u : Stage). IsSeat words (Working (tile_at u) (done_at u + n)) [] new) is.stage after

-- by one
pub seat_on : (words : Words) (seat new : Seat (Unit {0}) View) (t d j : ℕ) → IsSeat words (Working t (d + j)) [] seat
    → IsSeat words (Working (tile_at seat.me.0.stage) (suc (done_at seat.me.0.stage))) [] new
    → IsSeat words (Working t (d + (j + 1))) [] new
seat_on words seat new t d j is after =
    subst (λ (k : ℕ). IsSeat words (Working t k) [] new) (let q : suc (d + j) ≡ d + (j + 1) = omega arith in q)
    (subst (λ (u : Stage). IsSeat words (Working (tile_at u) (suc (done_at u))) [] new) is.stage after)

module _ (words : Words) (row : Row) (seat : Seat (Unit {0}) View) (Laid : List ℤ → List ℤ → Type 0) (t d j count : ℕ)
    (is : IsSeat words (Working t (d + j)) [] seat) (a : AreNext words.plan (Working t (d + j)) row Laid (count - j))
    (less : j < count) where
  -- the first of them, where the view of the seat stands
  pub here_laid : AreNext words.plan seat.me.0.stage row Laid 1
  here_laid =
      subst (λ (u : Stage). AreNext words.plan u row Laid 1) (sym is.stage)
      (fewer_laid words.plan (Working t (d + j)) row Laid (count - j) 1 (omega (arith, less)) a)

  -- the others, behind it
  pub laid_on : (New : List ℤ → List ℤ → Type 0)
      → ((steps turns : List ℤ) → Laid steps turns → New steps (sums turns steps))
      → AreNext words.plan (Working t (d + (j + 1))) row New (count - (j + 1))
  laid_on New on =
      subst (λ (k : ℕ). AreNext words.plan (Working t k) row New (count - (j + 1)))
      (let q : suc (d + j) ≡ d + (j + 1) = omega arith in q)
      (others_laid words.plan (Working t (d + j)) row Laid New (count - (j + 1))
      (subst (λ (n : ℕ). AreNext words.plan (Working t (d + j)) row Laid n)
      (let q : count - j ≡ suc (count - (j + 1)) = omega (arith, less) in q) a) on)

-- a desk that goes on
pub desk_on : (row : Row) (old new : Desk)
    → ((steps turns : List ℤ) → IsLaid row steps turns old → IsLaid row steps (sums turns steps) new)
    → HasSameRoom old new → (steps turns : List ℤ) → IsOnDesk row old steps turns
    → IsOnDesk row new steps (sums turns steps)
desk_on row old new on same steps turns is = (room_stays row old new is.0 same, on steps turns is.1)

-- a worker with another desk of the same room is still one of the plan
pub worker_kept : (plan : Plan) (w : Worker) (new : Desk) → IsWorker plan w → HasSameRoom w.desk new
    → IsWorker plan (record w { desk = new })
worker_kept plan w new is same = record {
  spot = is.spot;
  tile = is.tile;
  next = is.next;
  desk = room_stays_for_all plan.table.now w.desk new is.desk same;
  desks = is.desks;
}
