-- The instances that a worker has ahead, from the one that it does next: they are walked, and those of its tile.
use Rattle.scop_syntax.proofs.Common.{◌≡◌, ◌∙◌, ℕ, ◌+◌, ◌<◌, Option, Some, sym, subst, take, In, instance_of}
use Rattle.scop_syntax.specs.declared.instance.Instance.{Instance}
use Rattle.loop_tree.specs.declared.stretch.Stretch.{Stretch}
use Rattle.tile_core.specs.Plans.{places_in, walk_shape}
use Rattle.tile_core.specs.Ranks.{place_in}
use Rattle.tile_core.specs.Stretches.{IsAhead, moved}
use Rattle.tile_core.specs.declared.plan.Plan.{Plan}
use Rattle.tile_core.specs.declared.worker.Stage.{Stage}
use Rattle.tile_core.specs.declared.worker.Stage.TheVariants.{Working}
use Rattle.tile_core.proofs.Workers.{at_stage}

module _ (plan : Plan) (stage : Stage) (next : Option Instance) (stretch : Stretch) (count : ℕ) (i : Instance)
    (ahead : IsAhead plan stage next stretch count) (is : next ≡ Some i) where
  same : ahead.instance ≡ i
  same = let both : Some ahead.instance ≡ Some i = sym ahead.first ∙ is in cc

  pub walked_ahead : (j : ℕ) → j < count
      → In (moved (instance_of i) (take i.loops stretch.steps) j) (places_in plan)
  walked_ahead j less =
      subst (λ v. In (moved (instance_of v) (take v.loops stretch.steps) j) (places_in plan)) same
      (ahead.walked j less)

  pub place_ahead : (t k j : ℕ) → stage ≡ Working t k → j < count
      → place_in (places_in plan) (moved (instance_of i) (take i.loops stretch.steps) j) ≡ (walk_shape plan).place t (k + j)
  place_ahead t k j works less =
      at_stage (λ u m. place_in (places_in plan) (moved (instance_of i) (take i.loops stretch.steps) j)
      ≡ (walk_shape plan).place u (m + j)) stage ahead.tile ahead.done t k ahead.works
      (subst (λ v. place_in (places_in plan) (moved (instance_of v) (take v.loops stretch.steps) j)
      ≡ (walk_shape plan).place ahead.tile (ahead.done + j)) same (ahead.place j less)) works
