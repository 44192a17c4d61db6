-- A schedule as plain data: of a model and its dependences the items of the determined run, the bands and the marks.
use Rattle.std.specs.Prelude.{◌≡◌, ℕ, suc, ◌+◌, Bool, true, false, List, [], ◌∷◌, ◌++◌, map, length, slice_get, Some}
use Rattle.std.specs.Prelude.{◌↔◌}
use Rattle.scop_syntax.specs.Members.{In}
use Rattle.iteration_domains.specs.Dependence.{Dependence}
use Rattle.iteration_domains.specs.Model.{KernelModel}
use Rattle.schedule_rows.specs.Items as blocks
use Rattle.schedule_rows.specs.Items.{Row, Marked, Block}
use Rattle.schedule_rows.specs.Dependences.{IsEqualAt}
use Rattle.schedule_rows.specs.Outcomes.{state, IsSchedule}
use Rattle.schedule_rows.specs.Reaching.{Reached}
use Rattle.schedule_rows.specs.declared.item.Row as code_row
use Rattle.schedule_rows.specs.declared.item.Marked as code_marked
use Rattle.schedule_rows.specs.declared.item.Item.TheVariants as code_item
use Rattle.schedule_rows.specs.declared.item.Block.TheVariants as code_block
use Rattle.schedule_rows.specs.declared.item.Band.{Band}

-- a row of a band, or a scalar item with a number for each statement
pub data Item : Type 0 where
  row : Row → Item
  scalar : List ℕ → Item

-- what the code's rows, items and blocks stand for
abbrev pub row_of : code_row.Row → Row
row_of r =
    record {
      u = r.u.items;
      w = r.w;
      parts = map (λ p. record { coefficients = p.coefficients.items; shift = p.shift }) r.parts.items;
    }

-- an item
abbrev pub item_of : code_item.the_data → Item
item_of (code_item.Row r) = row (row_of r)
item_of (code_item.Scalar numbers) = scalar numbers.items

-- a row with its mark
abbrev pub marked_of : code_marked.Marked → Marked
marked_of r = record { row = row_of r.row; parallel = r.parallel }

-- a block
abbrev pub block_of : code_block.the_data → Block
block_of (code_block.Scalar numbers) = blocks.scalar numbers.items
block_of (code_block.Band rows) = blocks.band (map marked_of rows.items)

-- how many loops stand round each statement
abbrev pub loops_in : KernelModel → List ℕ
loops_in model = map (λ s. s.domain.dimensions) model.statements

-- the items of blocks
abbrev pub items_of : List Block → List Item
items_of [] = []
items_of (blocks.scalar numbers ∷ bs) = scalar numbers ∷ items_of bs
items_of (blocks.band ms ∷ bs) = map (λ m. row m.row) ms ++ items_of bs

-- the bands of blocks whose first item has number k
abbrev pub bands_from : ℕ → List Block → List Band
bands_from k [] = []
bands_from k (blocks.scalar numbers ∷ bs) = bands_from (suc k) bs
bands_from k (blocks.band [] ∷ bs) = bands_from k bs
bands_from k (blocks.band (m ∷ ms) ∷ bs) =
    record { first = k; last = k + length ms } ∷ bands_from (suc (k + length ms)) bs

-- whether each item is a parallel row
abbrev pub marks_of : List Block → List Bool
marks_of [] = []
marks_of (blocks.scalar numbers ∷ bs) = false ∷ marks_of bs
marks_of (blocks.band ms ∷ bs) = map (λ m. m.parallel) ms ++ marks_of bs

-- items in order, bands by the numbers of their items, and of each item whether it is a parallel row
pub record Scheduled : Type 0 where
  pub model : KernelModel
  pub deps : List Dependence
  pub items : List Item
  pub bands : List Band
  pub parallel : List Bool

-- the schedule of these parts
abbrev pub scheduled : KernelModel → List Dependence → List Item → List Band → List Bool → Scheduled
scheduled model deps items bands parallel =
    record { model = model; deps = deps; items = items; bands = bands; parallel = parallel }

-- it is that of the determined run
pub record IsScheduled (s : Scheduled) : Type 0 where
  pub blocks : List Block
  pub run : IsSchedule s.model.parameters (loops_in s.model) s.deps blocks
  pub items : s.items ≡ items_of blocks
  pub bands : s.bands ≡ bands_from 0 blocks
  pub parallel : s.parallel ≡ marks_of blocks

-- item k is a row with this mark: where its band began, the determined run had come to the blocks before and these
-- remaining dependences, and the row is parallel exactly where it has equal values at all their pairs
pub record IsMarked (m : ℕ) (loops : List ℕ) (deps : List Dependence) (items : List Item) (k : ℕ) (r : Row)
    (parallel : Bool) : Type 0 where
  pub before : List Block
  pub rows : List Marked
  pub behind : List Block
  pub at : ℕ
  pub remaining : List Dependence
  pub schedule : IsSchedule m loops deps (before ++ blocks.band rows ∷ behind)
  pub whole : items ≡ items_of (before ++ blocks.band rows ∷ behind)
  pub began : Reached m loops deps (state before [] remaining)
  pub place : k ≡ length (items_of before) + at
  pub own : slice_get rows at ≡ Some (record { row = r; parallel = parallel })
  pub exact : (parallel ≡ true) ↔ ((d : Dependence) → In d remaining → IsEqualAt m r d)
