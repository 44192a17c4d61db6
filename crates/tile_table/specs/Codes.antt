-- A right side as straight-line code: each step makes one value more of those in the slots before it.
use Rattle.std.specs.Prelude.{◌≡◌, ◌+◌, ◌-◌, ◌*◌, ◌/◌, ◌%◌, ◌^◌, ◌<◌, ℕ, suc, ℤ, List, [], ◌∷◌, ◌++◌, length, map, ⊤}
use Rattle.std.specs.Prelude.{Bool, drop, if◌then◌else◌, slice_index_or}
use Rattle.whole_numbers.specs.Affine.{value_of}
use Rattle.scop_syntax.specs.Cells.{reads}
use Rattle.scop_syntax.specs.Reductions.{added_by}
use Rattle.scop_syntax.specs.Tree.{Access, Head, Right, Statement}
use Rattle.scop_syntax.specs.Values.{applied, stored_by, wrapped}
use Rattle.scop_syntax.specs.View.{operator_of}
use Rattle.tile_table.specs.Points.{point_in}
use Rattle.tile_table.specs.declared.code.Code.{Code}
use Rattle.tile_table.specs.declared.code.Change.{Change}
use Rattle.tile_table.specs.declared.code.Change.TheVariants.{Negated, Complemented, ShiftedLeft, ShiftedRight}
use Rattle.tile_table.specs.declared.code.Change.TheVariants.{Narrowed}
use Rattle.tile_table.specs.declared.code.Step.{Step}
use Rattle.tile_table.specs.declared.code.Step.TheVariants.{Constant, Affine, Unary, Binary}

-- what a change makes of a value: the formulas of `value_on`
abbrev pub changed : Change → ℕ → ℕ
changed Negated x = (2 ^ 64 - x) % 2 ^ 64
changed Complemented x = 2 ^ 64 - 1 - x
changed (ShiftedLeft k) x = (x * 2 ^ k) % 2 ^ 64
changed (ShiftedRight k) x = x / 2 ^ k
changed Narrowed x = x % 2 ^ 32

-- the value that a step makes, where the leaves and the slots have these values
abbrev pub made : List ℕ → List ℕ → Step → ℕ
made leaves slots (Constant c) = c
made leaves slots (Affine k) = slice_index_or leaves k 0
made leaves slots (Unary change a) = changed change (slice_index_or slots a 0)
made leaves slots (Binary op a b) = applied (operator_of op) (slice_index_or slots a 0) (slice_index_or slots b 0)

-- the slots behind steps: each puts what it makes behind those so far
abbrev pub worked : List ℕ → List Step → List ℕ → List ℕ
worked leaves [] slots = slots
worked leaves (step ∷ steps) slots = worked leaves steps (slots ++ made leaves slots step ∷ [])

-- a step names leaves and slots that there are, where there are so many
abbrev pub IsStep : ℕ → ℕ → Step → Type 0
IsStep leaves slots (Constant c) = ⊤
IsStep leaves slots (Affine k) = k < leaves
IsStep leaves slots (Unary change a) = a < slots
IsStep leaves slots (Binary op a b) = (a < slots) × (b < slots)

-- each of some steps does, from so many slots on
abbrev pub AreSteps : ℕ → ℕ → List Step → Type 0
AreSteps leaves slots [] = ⊤
AreSteps leaves slots (step ∷ steps) = IsStep leaves slots step × AreSteps leaves (suc slots) steps

-- each step of a code names its leaves and the slots before its own, and the result is one of the slots
pub record IsWellMade (code : Code) : Type 0 where
  pub steps : AreSteps (length code.leaves.items) code.reads code.steps.items
  pub result : code.result < code.reads + length code.steps.items

-- the values of a code's leaves at these turns
abbrev pub leaves_at : Code → List ℤ → List ℕ
leaves_at code turns = map (λ form. wrapped (value_of form turns)) code.leaves.items

-- the result of a code, where its leaves and its reads have these values
abbrev pub result_by : Code → List ℕ → List ℕ → ℕ
result_by code leaves values = slice_index_or (worked leaves code.steps.items values) code.result 0

-- its result at these turns
abbrev pub value_by : Code → List ℤ → List ℕ → ℕ
value_by code turns values = result_by code (leaves_at code turns) values

-- what a statement loads: all that it reads, or, where it adds to its place, all but that
abbrev pub loaded : Bool → Statement → List Access
loaded adds s = if adds then drop 1 (reads s) else reads s

-- what a right side gives its place: what it adds to it, or what it stores there
abbrev pub given_by : Bool → Right → List ℤ → List ℕ → ℕ
given_by adds own point values = if adds then added_by own point values else stored_by own point values

-- at all turns of these loops the result is what a right side gives its place at the point within them, on any values
-- loaded, and the code takes as many as that loads behind a place
pub record Gives (adds : Bool) (params : List ℤ) (heads : List Head) (own : Right) (code : Code) : Type 0 where
  pub made : IsWellMade code
  pub reads : (place : Access) → code.reads ≡ length (loaded adds (record { place = place; right = own }))
  pub value : (turns : List ℤ) (values : List ℕ) → length turns ≡ length heads → length values ≡ code.reads
      → value_by code turns values ≡ given_by adds own (point_in heads params turns) values
