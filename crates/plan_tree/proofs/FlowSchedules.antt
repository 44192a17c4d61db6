-- A schedule of dependences that hold the reads with their last writers: but for all arrays it is one of dependences
-- that hold the covers, and its tiling is a flow plan.
use Rattle.scop_syntax.proofs.Common.{◌≡◌, ◌∙◌, sym, ap, subst, inl, inr, arith, ℕ, zero, suc, ◌+◌, ◌≤◌, ◌<◌, Bool}
use Rattle.scop_syntax.proofs.Common.{true, false, ℤ, List, refl, length, nat_eq, if◌then◌else◌, slice_get}
use Rattle.scop_syntax.proofs.Common.{range_with_len, eqb-false, length-map, Cell, written, layout, IsKernel}
use Rattle.scop_syntax.proofs.Common.{HasParameters, In, is_marked, Program, Visit, walk_of, writes, in_from_place}
use Rattle.scop_syntax.proofs.Common.{nat_cases, last_is, next_is, writer_of}
use Rattle.scop_syntax.specs.Covers.{CoverBy}
use Rattle.scop_syntax.specs.Failures.{VisitsAreRanked}
use Rattle.iteration_domains.specs.Dependence.{Dependence}
use Rattle.iteration_domains.specs.Held.{HoldCovers, HoldSources}
use Rattle.iteration_domains.specs.Model.{KernelModel, model_of}
use Rattle.loop_tree.specs.Tiling.{IsFlowPlan}
use Rattle.tile_skew.specs.Items.{Block}
use Rattle.tile_skew.specs.Next.{IsSizedDep}
use Rattle.tile_skew.specs.Outcomes.{IsSchedule}
use Rattle.tile_skew.specs.Schedule.{IsScheduled, Scheduled, loops_in}
use Rattle.plan_tree.specs.Schedules.{IsFlowScheduleFor, IsScheduleFor, arrays_of, tiling_of}

-- a number within a range is one of it
marked_within : (k n a : ℕ) → k ≤ a → a < k + n → is_marked (range_with_len k n) a ≡ true
marked_within k zero a low up = absurd (omega (arith, low, up))
marked_within k (suc n) a low up =
    first (nat_eq k a) refl (λ further. marked_within (k + 1) n a further (omega (arith, up)))
  where
    first : (b : Bool) → nat_eq k a ≡ b → (k + 1 ≤ a → is_marked (range_with_len (k + 1) n) a ≡ true)
        → (if b then true else is_marked (range_with_len (k + 1) n) a) ≡ true
    first true e rest = refl
    first false e rest =
        nat_cases k a (λ less. rest (omega (arith, less))) (λ same. absurd (eqb-false k a e same))
        (λ more. absurd (omega (arith, low, more)))

-- the cell of a cover is one that a visit writes
covered : (visits : List Visit) (c : Cell) (i j : ℕ) → CoverBy visits c i j
    → (v : Visit) × In v visits × (written v ≡ c)
covered visits c i j cover = by_kind cover
  where
    wrote : (k : ℕ) → writes (slice_get visits k) c ≡ true → (v : Visit) × In v visits × (written v ≡ c)
    wrote k h = let w = writer_of (slice_get visits k) c h in (w.0, in_from_place visits k w.0 w.1, w.2)

    by_kind : CoverBy visits c i j → (v : Visit) × In v visits × (written v ≡ c)
    by_kind (inl (a, at, last)) = wrote i (last_is visits j c i last).wrote
    by_kind (inr (r, at, next)) = wrote j (next_is visits i c j next).wrote

-- so its array is one of the program's, and but for these no cover is left
no_covers : (program : Program) (params : List ℤ) (deps : List Dependence)
    → VisitsAreRanked (layout program params) (walk_of program params)
    → HoldCovers program params (arrays_of program) deps
no_covers program params deps ranked i j c v w at there cover free =
    let writer = covered (walk_of program params) c i j cover in
    let named = (ranked writer.0 writer.1 writer.0.body.place (inl refl)).array in
    let own : writer.0.body.place.array ≡ c.array = ap (λ (d : Cell). d.array) writer.2 in
    let many : length (layout program params) ≡ length program.arrays = length-map program.arrays _ in
    let marked = marked_within 0 (length program.arrays) c.array (omega arith) (omega (arith, named, own, many)) in
    absurd (differ (sym marked ∙ free))
  where
    differ : true ≡ false → ⊥
    differ e = absurd cc

-- what is said of the kernel's accesses
abbrev pub AccessesAreRanked : Type 0
AccessesAreRanked = (program : Program) (params : List ℤ) → IsKernel program
    → length params ≡ length program.parameters → VisitsAreRanked (layout program params) (walk_of program params)

-- it is a schedule but for conflicts on all arrays
pub apart_schedule : AccessesAreRanked → (program : Program) (s : Scheduled) → IsFlowScheduleFor program s
    → IsScheduleFor program (arrays_of program) s
apart_schedule ranked program s is = record {
  kernel = is.kernel;
  model = is.model;
  sized = is.sized;
  covers = λ params has. no_covers program params s.deps (ranked program params is.kernel has.count);
}

-- the tiling of a schedule over reads with their last writers is a flow plan
abbrev pub FlowsAreFlowPlans : Type 0
FlowsAreFlowPlans = (program : Program) (deps : List Dependence) (blocks : List Block) (params : List ℤ) (size : ℕ)
    → length params ≡ length program.parameters → 0 < size
    → ((d : Dependence) → In d deps → IsSizedDep (loops_in (model_of program)) d) → HoldSources program params deps
    → IsSchedule (model_of program).parameters (loops_in (model_of program)) deps blocks
    → IsFlowPlan program params (tiling_of program size blocks)

-- so is that of the schedule
pub flow_plan : FlowsAreFlowPlans → (program : Program) (size : ℕ) (s : Scheduled) (run : IsScheduled s) → 0 < size
    → IsFlowScheduleFor program s → (params : List ℤ) → HasParameters program params
    → IsFlowPlan program params (tiling_of program size run.blocks)
flow_plan flows program size s run some is params has =
    flows program s.deps run.blocks params size has.count some
    (subst (λ (m : KernelModel). (d : Dependence) → In d s.deps → IsSizedDep (loops_in m) d) is.model is.sized)
    (is.sources params has)
    (subst (λ (m : KernelModel). IsSchedule m.parameters (loops_in m) s.deps run.blocks) is.model run.run)
