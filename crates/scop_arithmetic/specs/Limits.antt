-- Which expressions a text may have where they stand: those that mean something there, within the limits of numbers.
use Rattle.std.specs.Prelude.{◌≡◌, ◌⊎◌, ℕ, ◌+◌, ◌^◌, ◌<◌, ◌≤◌, Bool, true, false, ◌&&◌, pos, ◌-ℤ◌, unsigned_abs, set}
use Rattle.std.specs.Prelude.{length, None, ⊤}
use Rattle.whole_numbers.specs.Lists.{zeros}
use Rattle.scop_expressions.specs.Assign.TheVariants as assign
use Rattle.scop_expressions.specs.Count.TheVariants as count
use Rattle.scop_expressions.specs.Op.TheVariants as op
use Rattle.scop_expressions.specs.declared.token.Sign.TheVariants as sign
use Rattle.scop_expressions.specs.Suffix.TheVariants as suffix
use Rattle.scop_roles.specs.declared.formula.Meaning.TheVariants as meaning
use Rattle.scop_roles.specs.Faults.{are_plain_constants, rank}
use Rattle.scop_roles.specs.Forms.{has_name}
use Rattle.scop_roles.specs.Formula.{Formula, constant, name, index, unary, cast, binary, meaning_of}
use Rattle.scop_roles.specs.Formula.{subscripts}
use Rattle.scop_units.specs.Scopes.{Scope, entries, iterator_fault}
use Rattle.scop_units.specs.Loops.{Change, counted, assigned, LoopHead, names_entry}
use Rattle.scop_units.specs.Units.{Stored}
use Rattle.scop_arithmetic.specs.Arithmetic.{whole, cell_class, class, has_sign, IsCount, MayJoin, HasStored}
use Rattle.scop_arithmetic.specs.Arithmetic.{IsNameOf}

-- over n entries: where all are 0 the whole number is at most 2^20 in absolute value, and 1 at one of them adds at most
-- 16
pub record IsSmall (n : ℕ) (f : Formula) : Type 0 where
  pub constant : unsigned_abs (whole (zeros n) f) ≤ 2 ^ 20
  pub entries : (k : ℕ) → k < n → unsigned_abs (whole (set (zeros n) k (pos 1)) f -ℤ whole (zeros n) f) ≤ 16

-- an affine expression: constants without suffix and entries, and opposites, sums, differences and products of such,
-- each small, where one side of a product has no name in it
abbrev pub IsLinear : ℕ → Formula → Type 0
IsLinear n (constant (suffix.Absent b) v at) = v ≤ 2 ^ 20
IsLinear n (name (meaning.Variable k) at) = ⊤
IsLinear n (unary sign.Minus f at) = IsLinear n f
IsLinear n (binary op.Plus f g at) = IsLinear n f × IsLinear n g × IsSmall n (binary op.Plus f g at)
IsLinear n (binary op.Minus f g at) = IsLinear n f × IsLinear n g × IsSmall n (binary op.Minus f g at)
IsLinear n (binary op.Times f g at) =
    IsLinear n f × IsLinear n g × ((has_name f && has_name g) ≡ false) × IsSmall n (binary op.Times f g at)
IsLinear n _ = ⊥

-- a condition: comparisons of such, joined by &&
abbrev pub IsLinearTruth : ℕ → Formula → Type 0
IsLinearTruth n (binary op.Less f g at) = IsLinear n f × IsLinear n g
IsLinearTruth n (binary op.AtMost f g at) = IsLinear n f × IsLinear n g
IsLinearTruth n (binary op.Greater f g at) = IsLinear n f × IsLinear n g
IsLinearTruth n (binary op.AtLeast f g at) = IsLinear n f × IsLinear n g
IsLinearTruth n (binary op.Equal f g at) = IsLinear n f × IsLinear n g
IsLinearTruth n (binary op.LogicalAnd f g at) = IsLinearTruth n f × IsLinearTruth n g
IsLinearTruth n _ = ⊥

-- no operator stands between two constants without suffix
abbrev pub JoinsNoConstants : Formula → Type 0
JoinsNoConstants (unary s f at) = JoinsNoConstants f
JoinsNoConstants (binary o f g at) = (are_plain_constants f g ≡ false) × JoinsNoConstants f × JoinsNoConstants g
JoinsNoConstants _ = ⊤

-- a signed part of a value: an affine expression, where what a constant is worth is not left to be computed
abbrev pub IsSummand : ℕ → Formula → Type 0
IsSummand n f = (has_sign f ≡ true) × IsLinear n f × JoinsNoConstants f

-- a place: an array with such expressions as subscripts
abbrev pub IsLinearPlace : ℕ → Formula → Type 0
IsLinearPlace n (name (meaning.Array k r b) at) = ⊤
IsLinearPlace n (index q i) = IsLinearPlace n q × IsLinear n i
IsLinearPlace n _ = ⊥

-- a value: constants, entries, cells with all their subscripts, and what operators make of such; what is signed and has
-- an operator is a summand as a whole, and beside uint32_t no wider
abbrev pub IsFitWord : ℕ → Formula → Type 0
IsFitWord n (constant s v at) = ⊤
IsFitWord n (name (meaning.Variable k) at) = ⊤
IsFitWord n (index q i) = IsLinearPlace n (index q i) × (rank (meaning_of q) ≡ subscripts (index q i))
IsFitWord n (unary sign.Minus f at) = IsSummand n f ⊎ ((has_sign f ≡ false) × IsFitWord n f)
IsFitWord n (unary sign.Complement f at) = (has_sign f ≡ false) × IsFitWord n f
IsFitWord n (cast w f at) = IsFitWord n f
IsFitWord n (binary op.Plus f g at) = IsSummand n (binary op.Plus f g at)
    ⊎ ((has_sign (binary op.Plus f g at) ≡ false) × IsFitWord n f × IsFitWord n g × MayJoin f g)
IsFitWord n (binary op.Minus f g at) = IsSummand n (binary op.Minus f g at)
    ⊎ ((has_sign (binary op.Minus f g at) ≡ false) × IsFitWord n f × IsFitWord n g × MayJoin f g)
IsFitWord n (binary op.Times f g at) = IsSummand n (binary op.Times f g at)
    ⊎ ((has_sign (binary op.Times f g at) ≡ false) × IsFitWord n f × IsFitWord n g × MayJoin f g)
IsFitWord n (binary op.BitAnd f g at) =
    (has_sign (binary op.BitAnd f g at) ≡ false) × IsFitWord n f × IsFitWord n g × MayJoin f g
IsFitWord n (binary op.BitOr f g at) =
    (has_sign (binary op.BitOr f g at) ≡ false) × IsFitWord n f × IsFitWord n g × MayJoin f g
IsFitWord n (binary op.BitXor f g at) =
    (has_sign (binary op.BitXor f g at) ≡ false) × IsFitWord n f × IsFitWord n g × MayJoin f g
IsFitWord n (binary op.ShiftLeft f g at) = (has_sign f ≡ false) × IsFitWord n f × IsCount (class f) g
IsFitWord n (binary op.ShiftRight f g at) = (has_sign f ≡ false) × IsFitWord n f × IsCount (class f) g
IsFitWord n _ = ⊥

-- a statement: a cell with all its subscripts, an operator that stores, and such a value
pub record IsFitStored (n : ℕ) (s : Stored) : Type 0 where
  pub cell : IsLinearPlace n s.cell
  pub rank : rank (meaning_of s.cell) ≡ subscripts s.cell
  pub value : IsFitWord n s.value
  pub stores : HasStored (cell_class s.cell) s.assign s.value

-- entry k stands alone on one side of `low < high`, and the other side is affine without it; up: it stands on the left
abbrev pub LiesBetween : ℕ → Bool → Formula → Formula → Type 0
LiesBetween k up low high = ((up ≡ true) × IsNameOf k low × IsLinear (k + 1) high × (names_entry k high ≡ false))
    ⊎ ((up ≡ false) × IsNameOf k high × IsLinear (k + 1) low × (names_entry k low ≡ false))

-- a loop's condition, whose iterator is entry k; up: it rises to what lies above
abbrev pub IsBound : ℕ → Bool → Formula → Type 0
IsBound k up (binary op.Less f g at) = LiesBetween k up f g
IsBound k up (binary op.AtMost f g at) = LiesBetween k up f g
IsBound k up (binary op.Greater f g at) = LiesBetween k up g f
IsBound k up (binary op.AtLeast f g at) = LiesBetween k up g f
IsBound k up _ = ⊥

-- a constant without suffix from 1 to 16
abbrev pub IsStride : Formula → Type 0
IsStride (constant (suffix.Absent b) v at) = (1 ≤ v) × (v ≤ 16)
IsStride _ = ⊥

-- a step of the iterator, which is entry k; up: it rises
abbrev pub IsStep : ℕ → Bool → Change → Type 0
IsStep k up (counted count.Up) = up ≡ true
IsStep k up (counted count.Down) = up ≡ false
IsStep k up (assigned assign.Plus f) = (up ≡ true) × IsStride f
IsStep k up (assigned assign.Minus f) = (up ≡ false) × IsStride f
IsStep k up (assigned assign.Set (binary op.Plus f g at)) = (up ≡ true) × IsNameOf k f × IsStride g
IsStep k up (assigned assign.Set (binary op.Minus f g at)) = (up ≡ false) × IsNameOf k f × IsStride g
IsStep k up _ = ⊥

-- a loop's head: its name may be taken, its condition and its step go one way, and fewer than five loops are open
pub record IsFitLoop (s : Scope) (h : LoopHead) : Type 0 where
  pub iterator : iterator_fault h.new s h.iterator ≡ None
  pub first : IsLinear (entries s) h.first
  pub up : Bool
  pub second : IsBound (entries s) up h.second
  pub changed : IsNameOf (entries s) h.changed
  pub change : IsStep (entries s) up h.change
  pub few : length s.open_loops < 5
