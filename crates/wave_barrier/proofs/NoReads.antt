-- A worker whose next act reads nothing has read nothing for it.
use Rattle.std.proofs.Common.{◌≡◌, ◌∙◌, ℕ, zero, suc, ◌<◌, List, [], ap, length, map, refl, take}
use mathlib.Core.Option.{some}
use lib.ListN.{get_elem?}
use Rattle.atomic_table.specs.Table as table
use Rattle.atomic_table.proofs.Lists.{at_map}
use Rattle.tile_events.specs.Core.{Worker, working}
use Rattle.tile_events.specs.Plan.{Plan, before}
use Rattle.tile_events.specs.Rule.{Held}
use Rattle.tile_events.specs.declared.clock.Clock.{Clock}

-- no more is the front of nothing
take_none : (n : ℕ) → take {A = ℕ} n [] ≡ []
take_none zero = refl
take_none (suc n) = refl

-- so it is between any two steps
pub none_read : {V : Type 0} (p : Plan) (most : ℕ) (worker : V → Worker) (parts : V → ℕ) (clock : V → Clock)
    (s : table.State (Unit {0}) V) (id t k : ℕ) (xs : List ℕ) (v : V) → Held p most worker parts clock s
    → get_elem? s.views id ≡ some v → worker v ≡ working t k xs → k < p.size t → p.read (p.place t k) ≡ [] → xs ≡ []
none_read p most worker parts clock s id t k xs v held here is less none =
    let there : get_elem? (map worker s.views) id ≡ some (working t k xs) =
    at_map worker s.views id v here ∙ ap (λ (w : Worker). some w) is in
    (held.sound.reads id t k xs there).values less
    ∙ (ap (λ (cs : List ℕ). take (length xs) (map (before p (p.place t k)) cs)) none ∙ take_none (length xs))
