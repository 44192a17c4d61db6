-- The loop tree of a whole program visits its walk, and can be walked for parameters within 2^16.
use Rattle.scop_syntax.proofs.Common.{◌≡◌, ◌^◌, ◌≤◌, ℤ, pos, List, [], length, map, subst, sym, ◌∙◌, refl, arith, ◌≤ℤ◌}
use Rattle.scop_syntax.proofs.Common.{◌<ℤ◌, All, Program, IsKernel, HasParameters, In, Scope, Placed, Runs, loops_in}
use Rattle.scop_syntax.proofs.Common.{statements_of, visit_of, instance, walk_of, in_map, in_map_from}
use Rattle.scop_syntax.specs.Walk.{Visit as Step}
use Rattle.scop_syntax.proofs.Sizes.{params_size, turns_fit}
use Rattle.iteration_domains.proofs.TreeStatements.{can_kernel}
use Rattle.iteration_domains.specs.Path.{path_at}
use Rattle.loop_tree.specs.Walk.{given, visits, walk_all}
use Rattle.loop_tree.specs.Conditions.{IsHeld, CanWalk}
use Rattle.loop_tree.specs.Source.{source_of}
use Rattle.loop_tree.proofs.Sources.{behind_nothing, sources_walk, sources_flat}
use Rattle.loop_tree.proofs.SourceSizes.{sources_fit}

pub visited : (program : Program) (params : List ℤ) → IsKernel program → length params ≡ length program.parameters
    → visits (source_of program) params ≡ map instance (walk_of program params)
visited program params is count =
    sources_walk (path_at (length program.parameters) [] []) program.body 0 params [] (can_kernel program is) count refl
    ∙ behind_nothing (walk_of program params)

-- what the laws of the walk say of a program at its parameters
pub record StepLaws (program : Program) (params : List ℤ) : Type 0 where
  pub found : (v : Step) → In v (walk_of program params)
      → (p : Placed) × (xs : List ℤ) × In p (statements_of program) × Runs p.scopes params xs
      × (v ≡ visit_of p params xs)
  pub turns : (scopes : List Scope) (point xs : List ℤ) → Runs scopes point xs → length xs ≡ loops_in scopes
  pub few : (p : Placed) → In p (statements_of program) → loops_in p.scopes ≤ 5
  pub small : (xs : List ℤ) (p : Placed) → In p (statements_of program) → Runs p.scopes params xs
      → All (λ x. (pos 0 ≤ℤ x) × (x <ℤ pos (2 ^ 46))) xs

steps_held : (program : Program) (params : List ℤ) → StepLaws program params → (v : Step)
    → In v (walk_of program params) → IsHeld (instance v)
steps_held program params laws v h =
    let f = laws.found v h in
    let l = laws.turns f.0.scopes params f.1 f.3 in
    let few = laws.few f.0 f.2 in
    subst (λ (w : Step). IsHeld (instance w)) (sym f.4)
    (record { few = omega arith; turns = turns_fit f.1 (laws.small f.1 f.0 f.2 f.3) })

pub walkable : (program : Program) (params : List ℤ) → HasParameters program params → StepLaws program params
    → CanWalk (source_of program) params []
walkable program params has laws =
    let root = path_at (length program.parameters) [] [] in
    let can = can_kernel program has.kernel in
    record {
      flat = sources_flat root program.body 0 can;
      fits = sources_fit root program.body 0 params [] can
          (record { count = has.count; turns = refl; small = params_size program params has; runs = tt });
      held = λ v h.
          let i = subst (In (given v)) (visited program params has.kernel has.count)
          (in_map given v (walk_all (source_of program) params []) h) in
          let w = in_map_from instance (given v) (walk_of program params) i in
          subst IsHeld (sym w.2) (steps_held program params laws w.0 w.1);
    }
