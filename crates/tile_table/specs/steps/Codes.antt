-- A code that is being made, step by step.
use Rattle.std.specs.Prelude.{Bool, ◌≡◌, ◌+◌, ◌<◌, ◌≤◌, ℕ, ℤ, List, [], ◌∷◌, ◌++◌, drop, length, slice_index_or}
use Rattle.whole_numbers.specs.Affine.{Affine}
use Rattle.scop_syntax.specs.Reductions.{added_by}
use Rattle.scop_syntax.specs.Tree.{Expression, Head, Right}
use Rattle.scop_syntax.specs.Values.{stored_by, value_on}
use Rattle.tile_table.specs.Codes.{AreSteps, changed, given_by, leaves_at, worked}
use Rattle.tile_table.specs.Points.{point_in}
use Rattle.tile_table.specs.declared.code.Change.{Change}
use Rattle.tile_table.specs.declared.code.Code.{Code}
use Rattle.tile_table.specs.declared.code.Step.{Step}

-- a code so far: few values are read, and each step names its leaves and the slots before its own
pub record IsBegun (code : Code) : Type 0 where
  pub few : code.reads ≤ 16
  pub steps : AreSteps (length code.leaves.items) code.reads code.steps.items

-- a step more, over leaves more, and the slot of what it makes
pub record IsPut (forms : List Affine) (step : Step) (old new : Code) (slot : ℕ) : Type 0 where
  pub reads : new.reads ≡ old.reads
  pub leaves : new.leaves.items ≡ old.leaves.items ++ forms
  pub steps : new.steps.items ≡ old.steps.items ++ step ∷ []
  pub place : slot ≡ old.reads + length old.steps.items

-- the values in the slots of a code so far
abbrev pub slots_by : Code → List ℤ → List ℕ → List ℕ
slots_by code turns values = worked (leaves_at code turns) code.steps.items values

-- a code that goes on with another: the slots of that keep their values
pub record GoesOn (old new : Code) : Type 0 where
  pub begun : IsBegun new
  pub reads : new.reads ≡ old.reads
  pub long : length old.steps.items ≤ length new.steps.items
  pub kept : (turns : List ℤ) (values : List ℕ) (slot : ℕ) → length values ≡ old.reads
      → slot < old.reads + length old.steps.items
      → slice_index_or (slots_by new turns values) slot 0 ≡ slice_index_or (slots_by old turns values) slot 0

-- and has this value in a slot at all turns of so many loops
pub record Makes (loops : ℕ) (meant : List ℤ → List ℕ → ℕ) (old new : Code) (slot : ℕ) : Type 0 where
  pub code : GoesOn old new
  pub there : slot < new.reads + length new.steps.items
  pub value : (turns : List ℤ) (values : List ℕ) → length turns ≡ loops → length values ≡ new.reads
      → slice_index_or (slots_by new turns values) slot 0 ≡ meant turns values

-- that of an expression within these loops, which reads the values from a place on
abbrev pub MakesValue : List ℤ → List Head → Expression → ℕ → Code → Code → ℕ → Type 0
MakesValue params heads e at =
    Makes (length heads) (λ turns values. value_on e (point_in heads params turns) (drop at values))

-- what a change makes of that
abbrev pub MakesChanged : Change → List ℤ → List Head → Expression → ℕ → Code → Code → ℕ → Type 0
MakesChanged change params heads e at =
    Makes (length heads) (λ turns values. changed change (value_on e (point_in heads params turns) (drop at values)))

-- that of a right side
abbrev pub MakesStored : List ℤ → List Head → Right → Code → Code → ℕ → Type 0
MakesStored params heads own =
    Makes (length heads) (λ turns values. stored_by own (point_in heads params turns) values)

-- what it adds to its place
abbrev pub MakesAdded : List ℤ → List Head → Right → Code → Code → ℕ → Type 0
MakesAdded params heads own =
    Makes (length heads) (λ turns values. added_by own (point_in heads params turns) values)

-- what it gives its place
abbrev pub MakesGiven : Bool → List ℤ → List Head → Right → Code → Code → ℕ → Type 0
MakesGiven adds params heads own =
    Makes (length heads) (λ turns values. given_by adds own (point_in heads params turns) values)
