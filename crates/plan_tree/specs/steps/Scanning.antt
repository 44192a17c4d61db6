-- The scan sets of a schedule, and where visits stand.
use Rattle.std.specs.Prelude.{◌≡◌, ℕ, ◌<◌, ◌≤◌, ℤ, pos, List, map}
use Rattle.scop_syntax.specs.Kernel.{IsKernel}
use Rattle.scop_syntax.specs.Limits.{HasParameters}
use Rattle.scop_syntax.specs.Members.{In}
use Rattle.scop_syntax.specs.Tree.{Program}
use Rattle.scop_syntax.specs.Walk.{Instance, instance, Visit as Walked}
use Rattle.integer_sets.specs.Scanned.{Scanned}
use Rattle.iteration_domains.specs.Dependence.{Dependence}
use Rattle.iteration_domains.specs.Held.{HoldCovers}
use Rattle.iteration_domains.specs.Instances.{IsInstanceOf}
use Rattle.iteration_domains.specs.Model.{Modelled, model_of}
use Rattle.loop_tree.specs.Plans.{AreInOrder}
use Rattle.loop_tree.specs.Walk.{Visit, given}
use Rattle.tile_skew.specs.Items.{Block}
use Rattle.tile_skew.specs.Next.{IsSizedDep}
use Rattle.tile_skew.specs.Outcomes.{IsSchedule}
use Rattle.tile_skew.specs.Schedule.{loops_in}
use Rattle.tile_skew.specs.Places.{place_of}
use Rattle.tile_skew.specs.ScanSets.{most_iterators, scan_set, scan_sets}
use Rattle.tile_skew.specs.Tilings.{statement_items}
use Rattle.plan_tree.specs.Schedules.{tiling_of}

-- the blocks are those of a schedule of dependences that hold the covers of the kernel's walk, but for those on marked
-- arrays, for tiles of a size within 1 to 1024
pub record IsTiled (program : Program) (marked : List ℕ) (size : ℕ) (blocks : List Block) : Type 0 where
  pub kernel : IsKernel program
  pub some : 0 < size
  pub few : size ≤ 1024
  pub deps : List Dependence
  pub sized : (d : Dependence) → In d deps → IsSizedDep (loops_in (model_of program)) d
  pub covers : (params : List ℤ) → HasParameters program params → HoldCovers program params marked deps
  pub schedule : IsSchedule (model_of program).parameters (loops_in (model_of program)) deps blocks

-- its scan sets
abbrev pub sets_of : Program → ℕ → List Block → List Scanned
sets_of program size blocks = scan_sets (pos size) blocks (model_of program)

-- that of a statement
abbrev pub set_of : Program → ℕ → List Block → Modelled → Scanned
set_of program size blocks s =
    scan_set (pos size) (most_iterators (model_of program).statements) s (statement_items blocks s.number)

-- the place of an instance
abbrev pub place_in : Program → ℕ → List Block → Instance → List ℤ
place_in program size blocks x =
    place_of (pos size) (most_iterators (model_of program).statements) (statement_items blocks x.number) x.turns

-- the visit gives an instance of the walk, and stands at its place
pub record IsPlaced (program : Program) (params : List ℤ) (size : ℕ) (blocks : List Block) (v : Visit) : Type 0 where
  pub statement : Modelled
  pub walked : Walked
  pub is : IsInstanceOf program params statement walked
  pub gives : given v ≡ instance walked
  pub values : v.values ≡ place_in program size blocks (given v)

-- each of these visits stands so, and they give the walked instances, each once, in the tiling's order
pub record AreVisits (program : Program) (params : List ℤ) (size : ℕ) (blocks : List Block) (vs : List Visit)
    : Type 0 where
  pub placed : (v : Visit) → In v vs → IsPlaced program params size blocks v
  pub order : AreInOrder program params (tiling_of program size blocks) (map given vs)
