-- What the cells are at the end of a plan's run.
use Rattle.scop_syntax.proofs.Common.{◌≡◌, ◌∙◌, ◌+◌, ◌≤◌, ℕ, ℤ, List, Bool, true, false, Bor, Option, None, Some}
use Rattle.scop_syntax.proofs.Common.{ap₂, arith, length, refl, subst, sym, take, is_some, get_or-take}
use Rattle.scop_syntax.proofs.Common.{length-take-le, Program, IsShaped, cell_number, exec, total_cells}
use Rattle.tile_core.specs.Boards.{IsRun}
use Rattle.tile_core.specs.Cores.{plan_in, state_in}
use Rattle.tile_core.specs.Plans.{AreCopies, AreHeld, AreKept, HoldsContents, HoldsResults, IsPlan, extents_in}
use Rattle.tile_core.specs.Plans.{is_expanded, plain_shape, plan_of, program_in, shape_of, sources_in, walk_in}
use Rattle.tile_core.specs.Plans.{with_copies}
use Rattle.tile_core.proofs.Gates.{shape_extends, wider}
use Rattle.tile_core.specs.declared.cores.Core.{Core}
use Rattle.tile_core.specs.declared.expansion.Expansion.{Expansion}
use Rattle.tile_core.specs.declared.plan.Plan.{Plan}
use Rattle.tile_events.specs.Core.{State, idle}
use Rattle.tile_events.specs.Flat.{flat}
use Rattle.tile_events.specs.Opening.{IsQuiet}
use Rattle.tile_events.specs.Plan as events
use Rattle.tile_events.specs.Sound.{Sound}
use Rattle.tile_runs.specs.Running.{AreExecuted, HasArrays, HasCopies, LeavesCells}
use Rattle.tile_runs.specs.steps.Rows.{Executes}
use Rattle.tile_runs.specs.steps.Alone.{IsAlone, IsLater, shape_in}
use Rattle.tile_runs.proofs.Cells.{row_is, shape_executed}
use Rattle.tile_runs.proofs.SettledCells.{CellsAreBelow}
use Rattle.tile_runs.proofs.Steps.{quiet_alone}

-- the cells of all arrays are in front
front_within : (plan : Plan) → total_cells (extents_in plan) ≤ (shape_of plan).cells
front_within plan =
    let copies = wider plan in
    let more = (shape_extends plan).cells in
    omega (arith, copies, more)

all_copies : (o : Option (Bor Expansion)) (sources : ℕ → List (Option ℕ)) (p : events.Plan) → is_some o ≡ true
    → p.cells + p.places ≤ (with_copies o sources p).cells
all_copies None sources p e = absurd cc
all_copies (Some e) sources p is = omega arith

-- and behind them the copies, where there are any
pub room_for_copies : (plan : Plan) → is_expanded plan ≡ true
    → total_cells (extents_in plan) + length (walk_in plan) ≤ (shape_of plan).cells
room_for_copies plan expanded =
    let copies = all_copies plan.expansion (sources_in plan) (plain_shape plan) expanded in
    let more = (shape_extends plan).cells in
    omega (arith, copies, more)

-- the front of the row then has those of its arrays
row_executed : CellsAreBelow → (plan : Plan) (contents : List (List ℕ)) (cells : List ℕ)
    → IsShaped (extents_in plan) contents → (shape_of plan).cells ≤ length cells → AreHeld plan contents cells
    → HasArrays plan contents cells
row_executed below plan contents cells shape long holds =
    let n = total_cells (extents_in plan) in
    let more = front_within plan in
    row_is (extents_in plan) (exec (program_in plan) plan.params.now contents) (take n cells)
    (shape_executed (program_in plan) plan.params.now contents shape)
    (length-take-le n cells (omega (arith, more, long)))
    (λ c is. get_or-take n cells (cell_number (extents_in plan) c) 0 (below (extents_in plan) c is) ∙ holds c is)

-- or the arrays as they were, and the copies behind them
row_copied : CellsAreBelow → (plan : Plan) (contents : List (List ℕ)) (cells : List ℕ)
    → IsShaped (extents_in plan) contents → (shape_of plan).cells ≤ length cells → AreKept plan contents cells
    → AreCopies plan contents cells → HasCopies plan contents cells
row_copied below plan contents cells shape long kept copies =
    let n = total_cells (extents_in plan) in
    let more = front_within plan in
    record {
      kept = row_is (extents_in plan) contents (take n cells) shape (length-take-le n cells (omega (arith, more, long)))
          (λ c is. get_or-take n cells (cell_number (extents_in plan) c) 0 (below (extents_in plan) c is) ∙ kept c is);
      copies = copies;
    }

by_kind : (b : Bool) (plan : Plan) (contents : List (List ℕ)) (cells : List ℕ)
    → (b ≡ false → HasArrays plan contents cells) → (b ≡ true → HasCopies plan contents cells)
    → LeavesCells b plan contents cells
by_kind true plan contents cells arrays copies = copies refl
by_kind false plan contents cells arrays copies = arrays refl

-- the one or the other
pub cells_left : CellsAreBelow → (plan : Plan) (contents : List (List ℕ)) (cells : List ℕ)
    → IsShaped (extents_in plan) contents → (shape_of plan).cells ≤ length cells → HoldsResults plan contents cells
    → LeavesCells (is_expanded plan) plan contents cells
cells_left below plan contents cells shape long told =
    by_kind (is_expanded plan) plan contents cells
    (λ plain. row_executed below plan contents cells shape long (told.arrays plain))
    (λ expanded. row_copied below plan contents cells shape long (told.kept expanded) (told.copies expanded))

-- told by the plan's program, parameters and extents
pub executes : (plan : Plan) (program : Program) (params : List ℤ) (es : List (List ℕ)) (old new : List ℕ)
    → program_in plan ≡ program → plan.params.now ≡ params → extents_in plan ≡ es
    → Executes (program_in plan) plan.params.now (extents_in plan) old new → Executes program params es old new
executes plan program params es old new of by laid run = λ contents shape is.
    run contents (subst (λ (xs : List (List ℕ)). IsShaped xs contents) (sym laid) shape) is
    ∙ ap₂ (λ (p : Program) (ps : List ℤ). flat (exec p ps contents)) of by

-- a sound state in which nothing is left to do has the cells of execution
abbrev pub SoundEnds : Type 0
SoundEnds = (plan : Plan) (contents : List (List ℕ)) (s : State) → IsPlan plan → is_expanded plan ≡ false
    → IsShaped (extents_in plan) contents → Sound (plan_of plan (flat contents)) s
    → IsQuiet (plan_of plan (flat contents)) s → AreHeld plan contents s.cells

-- with copies each sound state has the cells as they were
abbrev pub SoundKeeps : Type 0
SoundKeeps = (plan : Plan) (contents : List (List ℕ)) (s : State) → IsPlan plan → is_expanded plan ≡ true
    → IsShaped (extents_in plan) contents → Sound (plan_of plan (flat contents)) s → AreKept plan contents s.cells

-- and one in which nothing is left to do has the copies
abbrev pub SoundCopies : Type 0
SoundCopies = (plan : Plan) (contents : List (List ℕ)) (s : State) → IsPlan plan → is_expanded plan ≡ true
    → IsShaped (extents_in plan) contents → Sound (plan_of plan (flat contents)) s
    → IsQuiet (plan_of plan (flat contents)) s → AreCopies plan contents s.cells

-- zeros behind the contents change no plan
abbrev pub ZerosChangeNone : Type 0
ZerosChangeNone = (plan : Plan) (contents : List (List ℕ)) (cells : List ℕ) → HoldsContents contents cells
    → plan_of plan cells ≡ plan_of plan (flat contents)

-- so does the core of one worker who has done all tiles
pub alone_executed : SoundEnds → SoundKeeps → SoundCopies → ZerosChangeNone → CellsAreBelow → (plan : Plan)
    (cells : List ℕ) (old new : Core) → IsPlan plan → plan_in old ≡ plan → IsRun (plan_of plan cells) (state_in old)
    → IsLater old new → IsAlone (state_in new) (shape_in old).tiles (shape_in old).tiles idle
    → length cells ≡ (shape_of plan).cells → AreExecuted plan cells (state_in new).cells
alone_executed ends keeps copies zeros below plan cells old new is same run later alone long = λ contents shape row.
    let first : IsRun (plan_of (plan_in old) cells) (state_in old) =
    subst (λ (p : Plan). IsRun (plan_of p cells) (state_in old)) (sym same) run in
    let last : IsRun (plan_of plan cells) (state_in new) =
    subst (λ (p : Plan). IsRun (plan_of p cells) (state_in new)) same (later.run cells first) in
    let there : IsRun (plan_of plan (flat contents)) (state_in new) =
    subst (λ (p : events.Plan). IsRun p (state_in new)) (zeros plan contents cells row) last in
    let all : IsAlone (state_in new) (shape_of plan).tiles (shape_of plan).tiles idle =
    subst (λ (p : Plan). IsAlone (state_in new) (shape_of p).tiles (shape_of p).tiles idle) same alone in
    let quiet =
    quiet_alone (plan_of plan (flat contents)) (state_in new) (shape_of plan).tiles (omega arith) all in
    let wide = last.sound.wide in (
      wide ∙ sym long,
      cells_left below plan contents (state_in new).cells shape (omega (arith, wide)) (record {
        arrays = λ plain. ends plan contents (state_in new) is plain shape there.sound quiet;
        kept = λ expanded. keeps plan contents (state_in new) is expanded shape there.sound;
        copies = λ expanded. copies plan contents (state_in new) is expanded shape there.sound quiet;
      }),
    )
