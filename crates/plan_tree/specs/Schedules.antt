-- The schedules whose tiles a loop tree can carry out, and why one has no tree.
use Rattle.std.specs.Prelude.{◌≡◌, ℕ, ℤ, pos, List, length}
use Rattle.std.specs.List.{range_with_len}
use Rattle.scop_syntax.specs.Kernel.{IsKernel}
use Rattle.scop_syntax.specs.Limits.{HasParameters}
use Rattle.scop_syntax.specs.Members.{In}
use Rattle.scop_syntax.specs.Tree.{Program}
use Rattle.iteration_domains.specs.Dependence.{Dependence}
use Rattle.iteration_domains.specs.Held.{HoldCovers, HoldSources}
use Rattle.iteration_domains.specs.Model.{KernelModel, model_of}
use Rattle.plain_scan.specs.FmStop.{FmStop}
use Rattle.loop_tree.specs.Tiling.{Tiling}
use Rattle.tile_skew.specs.Items.{Block}
use Rattle.tile_skew.specs.Next.{IsSizedDep}
use Rattle.tile_skew.specs.Schedule.{Scheduled, loops_in}
use Rattle.tile_skew.specs.ScanSets.{scan_sets}
use Rattle.tile_skew.specs.Tilings.{schedule_tiling}
use Rattle.plain_scan.specs.Scanning.{StopsScan}

-- the schedule is one of dependences between the program's statements that hold the covers of its walk, but for those
-- by cells of marked arrays, for all parameters in 0..=65536
pub record IsScheduleFor (program : Program) (marked : List ℕ) (s : Scheduled) : Type 0 where
  pub kernel : IsKernel program
  pub model : s.model ≡ model_of program
  pub sized : (d : Dependence) → In d s.deps → IsSizedDep (loops_in s.model) d
  pub covers : (params : List ℤ) → HasParameters program params → HoldCovers program params marked s.deps

-- a schedule of dependences between the program's statements that hold the reads of its walk with their last writers,
-- for all parameters in 0..=65536
pub record IsFlowScheduleFor (program : Program) (s : Scheduled) : Type 0 where
  pub kernel : IsKernel program
  pub model : s.model ≡ model_of program
  pub sized : (d : Dependence) → In d s.deps → IsSizedDep (loops_in s.model) d
  pub sources : (params : List ℤ) → HasParameters program params → HoldSources program params s.deps

-- all arrays of a program, by their numbers
abbrev pub arrays_of : Program → List ℕ
arrays_of program = range_with_len 0 (length program.arrays)

-- the tiling of a program's schedule by tiles of a size
abbrev pub tiling_of : Program → ℕ → List Block → Tiling
tiling_of program size blocks = schedule_tiling size (length (model_of program).statements) blocks

-- the scan of the schedule's scan sets stops so
abbrev pub StopsTiled : KernelModel → ℕ → List Block → FmStop → Type 0
StopsTiled model size blocks stop = StopsScan (scan_sets (pos size) blocks model) stop
