-- A pass that holds no tile may be joined into a seat that holds none.
use Rattle.scop_syntax.proofs.Common.{◌≡◌, ℕ, zero, suc, ◌+◌, ◌≤◌, ◌⊎◌, inl, inr, List, [], ◌∷◌, ◌++◌, ◌∙◌, ap, ap₂}
use Rattle.scop_syntax.proofs.Common.{refl, arith}
use Rattle.atomic_table.specs.Table.{Joins, Me}
use Rattle.atomic_table.specs.declared.shared.Seat.{Seat}
use Rattle.tile_core.specs.declared.words.Words.{Words}
use Rattle.tile_events.specs.Core as core
use Rattle.tile_events.specs.Sound.{total}
use Rattle.tile_events.specs.Rule.{if_ended}
use Rattle.tile_events.specs.Rule.{AtRest}
use Rattle.tile_events.specs.Allowed.{JoinIsAllowed}
use Rattle.tile_core.specs.declared.worker.Stage.{Stage}
use Rattle.tile_core.specs.declared.worker.Stage.TheVariants.{Idle, Ended, Holding, Working}
use Rattle.tile_core.specs.Workers.{staged}
use Rattle.tile_core.specs.declared.view.Key.{Key}
use Rattle.tile_core.specs.declared.view.View.{View}
use Rattle.tile_core.specs.Views.{key_plan, worker_in, parts_in, clock_in, Ruled}
use Rattle.array_words.specs.Closing.{IsGathered, joined, together, spent_view, Rests, one_if_ended, stage_after}

at_rest : (s : Stage) (xs : List ℕ) → Rests s → AtRest (staged s xs)
at_rest Idle xs r = tt
at_rest Ended xs r = tt
at_rest (Holding t) xs r = r
at_rest (Working t k) xs r = r

joined_rests : (a b : Stage) → Rests a → Rests b → Rests (joined a b)
joined_rests Idle b r q = q
joined_rests Ended b r q = tt
joined_rests (Holding t) b r q = absurd r
joined_rests (Working t k) b r q = absurd r

from_ended : (a b : Stage) (xs ys : List ℕ) → Rests a → Rests b → staged (joined a b) [] ≡ core.ended
    → (staged a xs ≡ core.ended) ⊎ (staged b ys ≡ core.ended)
from_ended Idle Idle xs ys r q e = absurd cc
from_ended Idle Ended xs ys r q e = inr refl
from_ended Idle (Holding t) xs ys r q e = absurd q
from_ended Idle (Working t k) xs ys r q e = absurd q
from_ended Ended b xs ys r q e = inl refl
from_ended (Holding t) b xs ys r q e = absurd r
from_ended (Working t k) b xs ys r q e = absurd r

keep_ended : (a b : Stage) (xs ys : List ℕ) (m n : ℕ) → Rests a → Rests b
    → if_ended (staged a xs) m + if_ended (staged b ys) n ≤ if_ended (staged (joined a b) []) (m + n)
keep_ended Idle Idle xs ys m n r q = omega arith
keep_ended Idle Ended xs ys m n r q = omega arith
keep_ended Idle (Holding t) xs ys m n r q = absurd q
keep_ended Idle (Working t k) xs ys m n r q = absurd q
keep_ended Ended Idle xs ys m n r q = omega arith
keep_ended Ended Ended xs ys m n r q = omega arith
keep_ended Ended (Holding t) xs ys m n r q = absurd q
keep_ended Ended (Working t k) xs ys m n r q = absurd q
keep_ended (Holding t) b xs ys m n r q = absurd r
keep_ended (Working t k) b xs ys m n r q = absurd r

-- a seat at rest may take in another
pub join_allowed : JoinIsAllowed View → (key : Key) (id : ℕ) (v : View) (other : ℕ) (u : View) → Rests v.stage
    → Rests u.stage
    → Joins (Ruled key) id v other u (together v u) spent_view
join_allowed allowed key id v other u r q =
    allowed (key_plan key) key.workers worker_in parts_in clock_in id v other u (together v u) spent_view
    (at_rest v.stage v.reads r) (at_rest u.stage u.reads q)
    (at_rest (joined v.stage u.stage) [] (joined_rests v.stage u.stage r q)) refl refl refl
    (from_ended v.stage u.stage v.reads u.reads r q)
    (keep_ended v.stage u.stage v.reads u.reads v.parts u.parts r q) refl refl

-- the stage of a seat that takes in one more
joined_after : (n : ℕ) (s : Stage) → Rests s → joined (stage_after n) s ≡ stage_after (n + one_if_ended s)
joined_after zero Idle r = refl
joined_after zero Ended r = refl
joined_after zero (Holding t) r = absurd r
joined_after zero (Working t k) r = absurd r
joined_after (suc n) s r =
    let e : suc (n + one_if_ended s) ≡ suc n + one_if_ended s = omega arith in ap stage_after e

one_at_most : (s : Stage) → one_if_ended s ≤ 1
one_at_most Idle = omega arith
one_at_most Ended = omega arith
one_at_most (Holding t) = omega arith
one_at_most (Working t k) = omega arith

-- a seat that has taken in a pass at rest
pub gathered : (words : Words) (seat other new : Seat (Unit {0}) View) (ended : ℕ) (s : Stage)
    → IsGathered words seat.me.0.parts ended seat → other.me.0.stage ≡ s → other.me.0.parts ≡ 1 → Rests s
    → new.table_id ≡ seat.table_id → new.me ≡ (together seat.me.0 other.me.0, seat.me.1)
    → IsGathered words (seat.me.0.parts + 1) (ended + one_if_ended s) new
gathered words seat other new ended s is stage one rests table me =
    let parts = ap (λ (m : Me (Unit {0}) View). m.0.parts) me in
    let few = is.few in
    let most = one_at_most s in record {
      of = is.of;
      table = table ∙ is.table;
      slots = ap (λ (m : Me (Unit {0}) View). m.1) me ∙ is.slots;
      parts = omega (arith, parts, one);
      stage = ap (λ (m : Me (Unit {0}) View). m.0.stage) me
          ∙ (ap₂ joined is.stage stage ∙ joined_after ended s rests);
      few = omega (arith, few, most);
    }

pub rests_after : (n : ℕ) → Rests (stage_after n)
rests_after zero = tt
rests_after (suc n) = tt

pub total_last : {A : Type 0} (f : A → ℕ) (xs : List A) (y : A) → total f (xs ++ y ∷ []) ≡ total f xs + f y
total_last f [] y = omega arith
total_last f (x ∷ xs) y = let i = total_last f xs y in omega (arith, i)
