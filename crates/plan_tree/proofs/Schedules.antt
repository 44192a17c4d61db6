-- A program's schedule, its blocks, its scan sets and its tiling.
use Rattle.scop_syntax.proofs.Common.{◌≡◌, ◌∙◌, ℕ, ◌<◌, ◌≤◌, List, length, pos, ap, subst, sym, arith, length-map, In}
use Rattle.scop_syntax.proofs.Common.{statements_of, Program}
use Rattle.iteration_domains.specs.Dependence.{Dependence}
use Rattle.iteration_domains.specs.Model.{KernelModel, model_of, modelled}
use Rattle.loop_tree.specs.Tiling.{Items}
use Rattle.tile_skew.specs.Items.{Block}
use Rattle.tile_skew.specs.Next.{IsSizedDep}
use Rattle.tile_skew.specs.Outcomes.{IsSchedule}
use Rattle.tile_skew.specs.Schedule.{IsScheduled, Scheduled, loops_in}
use Rattle.tile_skew.specs.ScanSets.{scan_sets}
use Rattle.tile_skew.proofs.PlaceOrder.{band_lengths, leading_lengths}
use Rattle.tile_skew.proofs.TilingAgreement.{items_found}
use Rattle.planned_trees.specs.Trees.{AreEven}
use Rattle.plan_tree.specs.Schedules.{IsScheduleFor, tiling_of}
use Rattle.plan_tree.specs.steps.Scanning.{IsTiled, sets_of}

-- its blocks are those of a tiling
pub tiled_blocks : (program : Program) (marked : List ℕ) (size : ℕ) (s : Scheduled) (r : IsScheduled s) → 0 < size
    → size ≤ 1024 → IsScheduleFor program marked s → IsTiled program marked size r.blocks
tiled_blocks program marked size s r some few is =
    record {
      kernel = is.kernel;
      some = some;
      few = few;
      deps = s.deps;
      sized = subst (λ (m : KernelModel). (d : Dependence) → In d s.deps → IsSizedDep (loops_in m) d) is.model is.sized;
      covers = is.covers;
      schedule = subst (λ (m : KernelModel). IsSchedule m.parameters (loops_in m) s.deps r.blocks) is.model r.run;
    }

-- its scan sets are those of the tiling
pub tiled_sets_of : (program : Program) (marked : List ℕ) (size : ℕ) (s : Scheduled) (r : IsScheduled s)
    → IsScheduleFor program marked s → scan_sets (pos size) r.blocks s.model ≡ sets_of program size r.blocks
tiled_sets_of program marked size s r is = ap (scan_sets (pos size) r.blocks) is.model

-- the tiling of a schedule has waves and tiles of one length
pub tilings_are_even : (program : Program) (size : ℕ) (blocks : List Block)
    → AreEven program (tiling_of program size blocks)
tilings_are_even program size blocks j k a b =
    let count = length (model_of program).statements in
    let many = length-map (statements_of program) (modelled (length program.parameters)) in
    let first = items_found blocks count j (omega (arith, a, many)) in
    let second = items_found blocks count k (omega (arith, b, many)) in
    let Leading : Items → ℕ = λ s. length s.leading in
    let Rows : Items → ℕ = λ s. length s.band in (
      ap Leading first ∙ (leading_lengths blocks j k ∙ sym (ap Leading second)),
      ap Rows first ∙ (band_lengths blocks j k ∙ sym (ap Rows second)),
    )
