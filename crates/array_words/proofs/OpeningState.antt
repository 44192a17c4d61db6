-- The opening state meets the rule, and a seat that stands for several idle workers may be cut.
use Rattle.scop_syntax.proofs.Common.{◌≡◌, ℕ, zero, suc, ◌+◌, ◌<◌, ◌≤◌, List, [], ◌∷◌, length, ap, ap₂, refl, sym}
use Rattle.scop_syntax.proofs.Common.{subst, ◌∙◌, arith, slice_index, some, some-injective, some-ne-none, get_elem?}
use Rattle.atomic_table.specs.Table.{opening, Splits}
use Rattle.tile_events.specs.Plan as events
use Rattle.tile_events.specs.Plan.{GoodPlan, IsDealt}
use Rattle.tile_events.specs.Core as core
use Rattle.tile_events.specs.Core.{State}
use Rattle.tile_events.specs.Sound.{Holds, Sound}
use Rattle.tile_events.specs.Opening.{IsOpening}
use Rattle.tile_events.specs.Rule.{AreTimed, Held, core as core_of, if_ended}
use Rattle.tile_events.specs.Allowed.{SplitIsAllowed}
use Rattle.tile_core.specs.declared.worker.Stage.TheVariants.{Idle}
use Rattle.tile_core.specs.declared.view.Key.{Key}
use Rattle.tile_core.specs.declared.view.View.{View}
use Rattle.tile_core.specs.Plans.{HasRest}
use Rattle.tile_core.specs.Workers.{staged}
use Rattle.tile_core.specs.Views.{key_plan, worker_in, parts_in, clock_in, Ruled, opening_view}
use Rattle.tile_core.proofs.Gates.{initial_is}
use Rattle.array_words.specs.Seats.{fewer, one_of}

one_idle : (i : ℕ) (w : core.Worker) → get_elem? (core.idle ∷ []) i ≡ some w → w ≡ core.idle
one_idle zero w e = sym (some-injective core.idle w e)
one_idle (suc i) w e = absurd (some-ne-none w (sym e))

nobody_holds : (key : Key) (i t : ℕ) (v : View) → get_elem? (opening_view key ∷ []) i ≡ some v → Holds (worker_in v) t
    → 0 < parts_in v
nobody_holds key zero t v e h = absurd (subst (λ u. Holds (worker_in u) t) (sym (some-injective (opening_view key) v e))
    h)
nobody_holds key (suc i) t v e h = absurd (some-ne-none v (sym e))

-- a view that is there at first is the opening one
only_first : (key : Key) (P : View → Type 0) → P (opening_view key) → (i : ℕ) (v : View)
    → get_elem? (opening_view key ∷ []) i ≡ some v → P v
only_first key P is zero v e = subst P (some-injective (opening_view key) v e) is
only_first key P is (suc i) v e = absurd (some-ne-none v (sym e))

-- no step has been made
timed_at : (key : Key) → length key.cells.items ≡ (key_plan key).cells → HasRest key.plan key.cells.items
    → AreTimed parts_in clock_in (key_plan key) (0 ∷ 0 ∷ key.cells.items) (opening_view key ∷ [])
timed_at key wide rest = record {
  until = only_first key (λ v. (clock_in v).stamp ≤ 0) (omega arith);
  last = λ made. absurd (omega (arith, made));
  left = λ i v e made. absurd (omega (arith, made));
  nobody = λ i v e none. only_first key (λ v. (clock_in v).steps ≡ 0) refl i v e;
  first = λ e. record {
    claims = refl;
    finished = refl;
    cells = λ c less. ap (slice_index (0 ∷ 0 ∷ key.cells.items)) (two_more c)
        ∙ initial_is key.plan key.cells.items rest c;
  };
}
  where
    two_more : (c : ℕ) → c + 2 ≡ suc (suc c)
    two_more c = omega arith

held_at : ((p : events.Plan) (s : State) → IsOpening p s → Sound p s) → (key : Key) → GoodPlan (key_plan key)
    → IsDealt (key_plan key)
    → length key.cells.items ≡ (key_plan key).cells → HasRest key.plan key.cells.items
    → (key_plan key).tiles + key.workers < 18446744073709551615
    → Held (key_plan key) key.workers worker_in parts_in clock_in
    (opening {S = Unit {0}} (0 ∷ 0 ∷ key.cells.items) [] (opening_view key))
held_at starts key good dealt wide rest few = record {
  good = good;
  dealt = dealt;
  few = few;
  long = omega arith;
  sound = starts (key_plan key) (core_of (0 ∷ 0 ∷ key.cells.items) (core.idle ∷ [])) (record {
    claims = refl;
    finished = refl;
    idle = one_idle;
    wide = wide;
    cells = λ c l. initial_is key.plan key.cells.items rest c;
  });
  workers = omega arith;
  claims = omega arith;
  misses = only_first key (λ v. (clock_in v).misses ≤ if_ended (worker_in v) (parts_in v)) (omega arith);
  stands = nobody_holds key;
  timed = timed_at key wide rest;
}

-- these words under this key meet the rule
pub opening_held : ((p : events.Plan) (s : State) → IsOpening p s → Sound p s) → (key : Key) (row : List ℕ)
    → GoodPlan (key_plan key) → IsDealt (key_plan key) → row ≡ 0 ∷ 0 ∷ key.cells.items
    → length key.cells.items ≡ (key_plan key).cells → HasRest key.plan key.cells.items
    → (key_plan key).tiles + key.workers < 18446744073709551615
    → Ruled key (opening {S = Unit {0}} row [] (opening_view key))
opening_held starts key row good dealt is wide rest few =
    subst (λ (ws : List ℕ). Held (key_plan key) key.workers worker_in parts_in clock_in
    (opening {S = Unit {0}} ws [] (opening_view key)))
    (sym is) (held_at starts key good dealt wide rest few)

-- a seat of idle workers may be cut
pub split_allowed : SplitIsAllowed View → (key : Key) (id : ℕ) (v : View) → v.stage ≡ Idle → v.reads ≡ [] → 1 < v.parts
    → Splits (Ruled key) id v (fewer v) (one_of v)
split_allowed allowed key id v stage reads parts =
    allowed (key_plan key) key.workers worker_in parts_in clock_in id v (fewer v) (one_of v)
    (ap₂ staged stage reads) (ap₂ staged stage reads) (ap₂ staged stage reads) (omega (arith, parts))
    (omega (arith, parts)) refl refl
