-- Steps of a core that has one worker, from one core to a later one (`IsLater`, `by_first`).
use Rattle.scop_syntax.proofs.Common.{◌≡◌, ◌∙◌, ℕ, suc, ◌+◌, ◌<◌, ◌≤◌, List, [], Bor, Option, None, Some, ap, arith}
use Rattle.scop_syntax.proofs.Common.{sym, subst, refl}
use Rattle.tile_edges.specs.declared.waiting.TileEdges.{TileEdges}
use Rattle.tile_events.specs.Core.{Event, Seen, State, holding, needed_by, release, seen_by, step, working}
use Rattle.tile_events.specs.Plan.{waves}
use Rattle.tile_events.specs.Sound.{IsFinished, Sound}
use Rattle.tile_core.specs.Boards.{IsRun}
use Rattle.tile_core.specs.Cores.{plan_in, state_in}
use Rattle.tile_core.specs.Plans.{IsPlan, gated, plan_of, shape_of, walk_shape}
use Rattle.tile_core.proofs.Gates.{releases_there}
use Rattle.tile_core.specs.declared.cores.Core.{Core}
use Rattle.tile_core.specs.declared.plan.Plan.{Plan}
use Rattle.tile_core.specs.Acts.{DoesStretch, IsAtInstance}
use Rattle.tile_runs.specs.steps.Alone.{IsAlone, IsLater, shape_in}
use Rattle.tile_runs.proofs.Steps.{at_first, few_before, finished_before, releases_alone, stretch_alone}

pub later_then : (a b d : Core) → IsLater a b → IsLater b d → IsLater a d
later_then a b d f g = record {
  core = g.core;
  plan = g.plan ∙ f.plan;
  workers = g.workers ∙ f.workers;
  run = λ opening r.
      subst (λ (p : Plan). IsRun (plan_of p opening) (state_in d)) f.plan
      (g.run opening (subst (λ (p : Plan). IsRun (plan_of p opening) (state_in b)) (sym f.plan) (f.run opening r)));
}

-- an event of the later core, by the plan of the first one
pub by_first : (a b : Core) (e : Event) (x : State × Seen) → IsLater a b
    → step (shape_in b) (state_in b) 0 e ≡ x → step (shape_in a) (state_in b) 0 e ≡ x
by_first a b e x later h = subst (λ (p : Plan). step (shape_of p) (state_in b) 0 e ≡ x) later.plan h

-- where its tile is not done, a stretch does some of it, and goes on from there
module _ (a b d : Core) (t k n : ℕ) (later : IsLater a b) (left : k < (walk_shape (plan_in a)).size t)
    (alone : IsAlone (state_in b) (suc t) t (working t k []))
    (does : (u m : ℕ) → IsAtInstance (walk_shape (plan_in b)) (state_in b) 0 u m
    → DoesStretch (walk_shape (plan_in b)) (shape_in b) (state_in b) 0 u m n (state_in d)) where
  pub some_more : DoesStretch (walk_shape (plan_in a)) (shape_in a) (state_in b) 0 t k n (state_in d)
  some_more =
      subst (λ (p : Plan). DoesStretch (walk_shape p) (shape_of p) (state_in b) 0 t k n (state_in d)) later.plan
      (does t k (
        at_first (state_in b) (suc t) t (working t k []) alone,
        subst (λ (p : Plan). k < (walk_shape p).size t) (sym later.plan) left,
      ))

  pub alone_more : IsAlone (state_in d) (suc t) t (working t (k + n) [])
  alone_more =
      stretch_alone (walk_shape (plan_in a)) (shape_in a) (state_in b) (state_in d) t k n refl some_more alone

-- where its instances are done, a release is one of its acts
pub release_more : (a b d : Core) (seen : Seen) (t k : ℕ) → IsLater a b → (walk_shape (plan_in a)).size t ≤ k
    → k < (shape_in a).size t → step (shape_in b) (state_in b) 0 release ≡ (state_in d, seen)
    → IsAlone (state_in b) (suc t) t (working t k []) → IsAlone (state_in d) (suc t) t (working t (suc k) [])
release_more a b d seen t k later from to h alone =
    releases_alone (shape_in a) (state_in b) (state_in d) seen t k to (releases_there (plan_in a) t k from to)
    (by_first a b release (state_in d, seen) later h) alone

-- where all earlier tiles are finished, a tile's counter holds enough
abbrev pub CountersFill : Type 0
CountersFill = (plan : Plan) (e : Bor TileEdges) (cells : List ℕ) (s : State) (u : ℕ) → IsPlan plan
    → plan.edges ≡ Some e → Sound (plan_of plan cells) s → u < (shape_of plan).tiles
    → ((t : ℕ) → t < u → IsFinished s t)
    → needed_by (shape_of plan).gate (shape_of plan) u ≤ seen_by (shape_of plan).gate s u

-- so by whichever gate, the tile that the worker alone holds can be opened
pub enough_seen : CountersFill → (plan : Plan) (cells : List ℕ) (s : State) (t : ℕ) → IsPlan plan
    → IsRun (plan_of plan cells) s → t < (shape_of plan).tiles → IsAlone s (suc t) t (holding t)
    → needed_by (shape_of plan).gate (shape_of plan) t ≤ seen_by (shape_of plan).gate s t
enough_seen fill plan cells s t is run less a = by_gate plan.edges refl
  where
    by_gate : (o : Option (Bor TileEdges)) → plan.edges ≡ o
        → needed_by (shape_of plan).gate (shape_of plan) t ≤ seen_by (shape_of plan).gate s t
    by_gate None none =
        let same : (shape_of plan).gate ≡ waves =
        ap (λ (o : Option (Bor TileEdges)). (gated o (walk_shape plan)).gate) none in
        let few = few_before (shape_of plan) t run.dealt.early less in
        let f = a.finished_are in
        subst (λ g. needed_by g (shape_of plan) t ≤ seen_by g s t) (sym same) (omega (arith, f, few))
    by_gate (Some e) some = fill plan e cells s t is some run.sound less (λ u l. finished_before s t u l a)
