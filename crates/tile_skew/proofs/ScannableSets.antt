-- The scan sets of a kernel's schedule: bounded, of few dimensions, in the order of their statements.
use Rattle.scop_syntax.proofs.Common.{◌≡◌, ℕ, suc, ◌+◌, ◌^◌, ◌<◌, ◌≤◌, pos, List, [], ◌∷◌, sym, ◌∙◌, ap, subst, refl}
use Rattle.scop_syntax.proofs.Common.{arith, length, Some, ◌≤ℤ◌, All, slice_get, ints, length-map, All-nil, All-cons}
use Rattle.scop_syntax.proofs.Common.{All-append, IsKernel, In, Sorted, Placed, statements_of, Program, in_map_from}
use Rattle.scop_syntax.proofs.Common.{sorted_map}
use Rattle.std.proofs.lemmas.List.{length-append}
use Rattle.fm_projection.specs.Alone.{IsBounded}
use Rattle.integer_sets.specs.Scanned.{Scanned}
use Rattle.scop_syntax.specs.Statements as source
use Rattle.scop_syntax.proofs.Members.{place_of as place_in}
use Rattle.stmt_graph.specs.Graph.{number_in}
use Rattle.iteration_domains.specs.Model.{Modelled, modelled, model_of}
use Rattle.iteration_domains.specs.Sizes.{IsKernelModel}
use Rattle.loop_tree.specs.Tiling.{row, scalar as number}
use Rattle.schedule_rows.specs.Items.{Marked, Block, scalar, band, band_rows, rows_in}
use Rattle.schedule_rows.specs.Schedule.{loops_in}
use Rattle.schedule_rows.specs.Sized.{AreSized}
use Rattle.schedule_rows.proofs.ModelLoops.{loops_at}
use Rattle.tile_skew.specs.ScanSets.{most_iterators, layout_of, scan_set, scan_sets}
use Rattle.tile_skew.specs.Tilings.{row_items, block_items, first_band, leading_at, behind_at}
use Rattle.tile_skew.specs.Tilings.{statement_items, form_at}
use Rattle.tile_skew.specs.steps.Facts.{StatementFacts}
use Rattle.tile_skew.specs.steps.Sizes.{FitItems, IsLow, AreModest}
use Rattle.tile_skew.proofs.AlikeSets.{band_many, within_most}
use Rattle.tile_skew.proofs.DimensionBounds.{HasNearTurns, set_bounded}
use Rattle.tile_skew.proofs.Counts.{dimensions_few, items_many, most_few, statements_few}
use Rattle.tile_skew.proofs.ItemFits.{items_fit}
use Rattle.tile_skew.proofs.Instances.{loops_are, parameters_are}
use Rattle.tile_skew.proofs.Ranks.{AreNumbered, HasFewItems}

-- scalars of statement k, which is one of n
leading_low : (n b : ℕ) (bs : List Block) (k : ℕ) → AreNumbered n bs → k < n → n ≤ b
    → All (λ z. z < b) (leading_at bs k)
leading_low n b [] k h l m = All-nil (λ z. z < b)
leading_low n b (scalar numbers ∷ bs) k h l m =
    let own = h.0 k l in
    All-cons (λ z. z < b) (number_in numbers k) (leading_at bs k) (omega arith) (leading_low n b bs k h.1 l m)
leading_low n b (band ms ∷ bs) k h l m = All-nil (λ z. z < b)

rows_low : (b : ℕ) (ms : List Marked) (k : ℕ) → All (IsLow b) (row_items ms k)
rows_low b [] k = All-nil (IsLow b)
rows_low b (m ∷ ms) k = All-cons (IsLow b) (row (form_at m.row k)) (row_items ms k) tt (rows_low b ms k)

items_low : (n b : ℕ) (bs : List Block) (k : ℕ) → AreNumbered n bs → k < n → n ≤ b → All (IsLow b) (block_items bs k)
items_low n b [] k h l m = All-nil (IsLow b)
items_low n b (scalar numbers ∷ bs) k h l m =
    let own = h.0 k l in
    All-cons (IsLow b) (number (number_in numbers k)) (block_items bs k) (omega arith) (items_low n b bs k h.1 l m)
items_low n b (band ms ∷ bs) k h l m =
    All-append (IsLow b) (row_items ms k) (block_items bs k) (rows_low b ms k) (items_low n b bs k h l m)

behind_low : (n b : ℕ) (bs : List Block) (k : ℕ) → AreNumbered n bs → k < n → n ≤ b → All (IsLow b) (behind_at bs k)
behind_low n b [] k h l m = All-nil (IsLow b)
behind_low n b (scalar numbers ∷ bs) k h l m = behind_low n b bs k h.1 l m
behind_low n b (band ms ∷ bs) k h l m = items_low n b bs k h l m

length-band_rows : (ms : List Marked) → length (band_rows ms) ≡ length ms
length-band_rows [] = refl
length-band_rows (m ∷ ms) = ap suc (length-band_rows ms)

first_few : (bs : List Block) → length (first_band bs) ≤ length (rows_in bs)
first_few [] = omega arith
first_few (scalar numbers ∷ bs) = first_few bs
first_few (band ms ∷ bs) =
    let a = length-append (band_rows ms) (rows_in bs) in
    let l = length-band_rows ms in
    omega arith

-- the items of a kernel's statement, with at most 5 rows in all and numbers below that of the statements
items_modest : (program : Program) (blocks : List Block) (k : ℕ) (m : Modelled) → IsKernel program
    → IsKernelModel (model_of program) → In m (model_of program).statements
    → AreSized (loops_in (model_of program)) blocks → HasFewItems 5 k (loops_in (model_of program)) blocks
    → AreModest m.domain.dimensions (statement_items blocks m.number)
items_modest program blocks k m kernel one i sized few =
    let ss = (model_of program).statements in
    let loops = loops_in (model_of program) in
    let at = place_in ss m i in
    let here = one.places at.0 m at.1 in
    let inside = (loops_at ss at.0 m at.1).0 in
    let below : m.number < length loops = omega arith in
    let many : length loops ≤ 32 =
    let l = length-map ss (λ (s : Modelled). s.domain.dimensions) in
    let s = statements_few program kernel in
    omega arith in
    let own = loops_are (model_of program) m one i in
    let rows = few.rows in
    let first = first_few blocks in
    let all = band_many blocks m.number in
    record {
      few = omega arith;
      leading = leading_low (length loops) 32 blocks m.number few.numbers below many;
      fit = subst (λ n. FitItems n (statement_items blocks m.number)) own (items_fit loops blocks m.number sized);
      low = behind_low (length loops) 32 blocks m.number few.numbers below many;
    }

-- what is known of a kernel with a schedule of dependences between its statements
pub record HasSchedule (program : Program) (blocks : List Block) : Type 0 where
  pub kernel : IsKernel program
  pub model : IsKernelModel (model_of program)
  pub facts : StatementFacts program
  pub sized : AreSized (loops_in (model_of program)) blocks
  pub few : HasFewItems 5 1024 (loops_in (model_of program)) blocks

pub sets_bounded : (program : Program) (blocks : List Block) (size : ℕ) (s : Scanned) → HasSchedule program blocks
    → ((m : Modelled) → In m (model_of program).statements → HasNearTurns m) → 0 < size → size ≤ 1024
    → In s (scan_sets (pos size) blocks (model_of program)) → IsBounded s.system
sets_bounded program blocks size s h near positive small among =
    let ss = (model_of program).statements in
    let n = most_iterators ss in
    let Set : Modelled → Scanned = λ m. scan_set (pos size) n m (statement_items blocks m.number) in
    let q = in_map_from Set s ss among in
    let m = q.0 in
    let items = statement_items blocks m.number in
    let few = dimensions_few program m h.facts q.1 in
    let modest = items_modest program blocks 1024 m h.kernel h.model q.1 h.sized h.few in
    let low : pos 1 ≤ℤ pos size = omega (arith, ints) in
    let high : pos size ≤ℤ pos 1024 = omega (arith, ints) in
    subst (λ (z : Scanned). IsBounded z.system) (sym q.2)
    (set_bounded (layout_of n m items) (pos size) m items (low, high) refl refl refl few modest (near m q.1))

pub sets_few : (program : Program) (blocks : List Block) (size : ℕ) (s : Scanned) → HasSchedule program blocks
    → In s (scan_sets (pos size) blocks (model_of program))
    → (s.system.parameters ≡ length program.parameters) × (s.first + s.iterators ≤ s.system.dimensions)
    × (s.system.dimensions + s.system.parameters < 2 ^ 32)
sets_few program blocks size s h among =
    let model = model_of program in
    let ss = model.statements in
    let n = most_iterators ss in
    let Set : Modelled → Scanned = λ m. scan_set (pos size) n m (statement_items blocks m.number) in
    let q = in_map_from Set s ss among in
    let m = q.0 in
    let Few : Scanned → Type 0 = λ z.
    (z.system.parameters ≡ length program.parameters) × (z.first + z.iterators ≤ z.system.dimensions)
    × (z.system.dimensions + z.system.parameters < 2 ^ 32) in
    let parameters = parameters_are model m h.model q.1 in
    let least = h.kernel.few_parameters in
    let items = items_many blocks m.number in
    let all = h.few.items in
    let most = most_few ss 5 (λ t i. dimensions_few program t h.facts i) in
    let own = within_most ss m q.1 in
    let first : (Set m).first + (Set m).iterators ≤ (Set m).system.dimensions = omega arith in
    let few : (Set m).system.dimensions + (Set m).system.parameters < 2 ^ 32 = omega arith in
    subst Few (sym q.2) (parameters, first, few)

-- elements whose numbers are their places, from n on
numbers_rise : {A : Type 0} (f : A → ℕ) (n : ℕ) (xs : List A)
    → ((k : ℕ) (x : A) → slice_get xs k ≡ Some x → f x ≡ n + k) → Sorted (λ x y. f x < f y) xs
numbers_rise f n [] h = tt
numbers_rise f n (x ∷ xs) h = (
  λ y i.
      let at = place_in xs y i in
      let later = h (suc at.0) y at.1 in
      let own = h 0 x refl in
      omega arith,
  numbers_rise f (suc n) xs (λ k y e. h (suc k) y e ∙ omega arith),
)

pub sets_rise : (program : Program) (blocks : List Block) (size : ℕ) → IsKernelModel (model_of program)
    → Sorted (λ (x y : Scanned). x.statement < y.statement) (scan_sets (pos size) blocks (model_of program))
sets_rise program blocks size one =
    let ss = (model_of program).statements in
    let n = most_iterators ss in
    let Set : Modelled → Scanned = λ m. scan_set (pos size) n m (statement_items blocks m.number) in
    sorted_map (λ (x y : Modelled). x.number < y.number) (λ (x y : Scanned). x.statement < y.statement) Set ss
    (λ x y l. l) (numbers_rise (λ (m : Modelled). m.number) 0 ss (λ k m e. one.places k m e ∙ omega arith))

pub sets_of_statements : (program : Program) (blocks : List Block) (size : ℕ) (s : Scanned)
    → ((k : ℕ) (p : Placed) → slice_get (statements_of program) k ≡ Some p → p.number ≡ k)
    → In s (scan_sets (pos size) blocks (model_of program))
    → (p : Placed) × (slice_get (statements_of program) s.statement ≡ Some p)
    × (s.iterators ≡ source.loops_in p.scopes)
sets_of_statements program blocks size s numbered among =
    let ss = (model_of program).statements in
    let n = most_iterators ss in
    let Set : Modelled → Scanned = λ m. scan_set (pos size) n m (statement_items blocks m.number) in
    let q = in_map_from Set s ss among in
    let p = in_map_from (modelled (length program.parameters)) q.0 (statements_of program) q.1 in
    let at = place_in (statements_of program) p.0 p.1 in
    let statement : s.statement ≡ at.0 =
    ap (λ (z : Scanned). z.statement) q.2 ∙ (ap (λ (z : Modelled). z.number) p.2 ∙ numbered at.0 p.0 at.1) in
    let iterators : s.iterators ≡ source.loops_in p.0.scopes =
    ap (λ (z : Scanned). z.iterators) q.2 ∙ ap (λ (z : Modelled). z.domain.dimensions) p.2 in
    (p.0, subst (λ k. slice_get (statements_of program) k ≡ Some p.0) (sym statement) at.1, iterators)
