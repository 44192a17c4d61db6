-- Names in scope, and what a name means: parameters and arrays that are declared before, the iterators that are
-- declared at the start, and those of the open loops. C17 6.2.1, without hiding: no name is declared twice.
use Rattle.std.specs.Prelude.{ℕ, ◌+◌, Bool, true, false, ◌||◌, if◌then◌else◌, List, [], ◌∷◌, ◌++◌, length, take, codes}
use Rattle.std.specs.Prelude.{Option, Some, None}
use Rattle.std.specs.Str.{bytes_eq}
use Rattle.scop_lexer.specs.Bytes.{Text}
use Rattle.scop_roles.specs.declared.kinds.Kind.{Kind}
use Rattle.scop_roles.specs.declared.kinds.Kind.TheVariants as kind
use Rattle.scop_roles.specs.declared.formula.Meaning.{Meaning}
use Rattle.scop_roles.specs.declared.formula.Meaning.TheVariants as meaning
use Rattle.scop_roles.specs.Formula.{Lookup}
use Rattle.scop_roles.specs.Faults.{only_where}
use Rattle.scop_units.specs.Words.{Words}

-- an array: its name, how many extents it has, and whether its cells have 32 bits
pub record Ranked : Type 0 where
  pub name : Text
  pub rank : ℕ
  pub narrow : Bool

-- the names in scope, each list in the order of the text
pub record Scope : Type 0 where
  pub parameters : List Text
  pub arrays : List Ranked
  -- whether a name is that of an iterator declared at the start
  pub declared : Text → Bool
  -- the iterators of the open loops, outermost first
  pub open_loops : List Text

-- nothing is in scope
abbrev pub no_scope : Scope
no_scope = record { parameters = []; arrays = []; declared = λ v. false; open_loops = [] }

-- with one parameter more
abbrev pub with_parameter : Scope → Text → Scope
with_parameter s w = record s { parameters = s.parameters ++ w ∷ [] }

-- with one array more, of so many extents and this width
abbrev pub with_array : Scope → Text → ℕ → Bool → Scope
with_array s w r narrow = record s { arrays = s.arrays ++ record { name = w; rank = r; narrow = narrow } ∷ [] }

-- with one iterator more that is declared at the start
abbrev pub with_iterator : Scope → Text → Scope
with_iterator s w = record s { declared = λ v. bytes_eq w v || s.declared v }

-- within a loop of this iterator
abbrev pub with_loop : Scope → Text → Scope
with_loop s w = record s { open_loops = s.open_loops ++ w ∷ [] }

-- the entries of a point: the parameters so far, then the open loops
abbrev pub entries : Scope → ℕ
entries s = length s.parameters + length s.open_loops

-- the number of a name in a list whose first has number k
abbrev pub number_from : ℕ → Text → List Text → Option ℕ
number_from k w [] = None
number_from k w (v ∷ vs) = if bytes_eq v w then Some k else number_from (k + 1) w vs

-- the number of a name in a list, from 0
abbrev pub number_of : Text → List Text → Option ℕ
number_of w names = number_from 0 w names

-- the number, where there is one, else the other
abbrev pub number_or : Option ℕ → Option ℕ → Option ℕ
number_or (Some k) other = Some k
number_or None other = other

-- the number of a word among the open loops and, behind them, a loop of this iterator
abbrev pub number_inside : Text → Text → List Text → Option ℕ
number_inside u w names = number_or (number_of w names) (if bytes_eq u w then Some (length names) else None)

-- an entry behind n others by its number, else another meaning
abbrev pub variable_or : ℕ → Option ℕ → Meaning → Meaning
variable_or n (Some k) otherwise = meaning.Variable (n + k)
variable_or n None otherwise = otherwise

-- the array of a name among arrays whose first has number k
abbrev pub array_in : ℕ → Text → List Ranked → Meaning
array_in k w [] = meaning.Unknown
array_in k w (a ∷ arrays) =
    if bytes_eq a.name w then meaning.Array k a.rank a.narrow else array_in (k + 1) w arrays

-- what a name means outside of all loops
abbrev pub outer_meaning : Scope → Text → Meaning
outer_meaning s w =
    if s.declared w then meaning.Closed else variable_or 0 (number_of w s.parameters) (array_in 0 w s.arrays)

-- what a name means
abbrev pub meaning_in : Scope → Text → Meaning
meaning_in s w = variable_or (length s.parameters) (number_of w s.open_loops) (outer_meaning s w)

-- what stands at a place in a scope
abbrev pub look : Words → Scope → Lookup
look words s = record { meaning = λ at. meaning_in s (words.spelling at); worth = words.worth }

-- a name means something
abbrev pub is_known : Meaning → Bool
is_known meaning.Unknown = false
is_known _ = true

-- names that begin with `pp_` are kept free
abbrev pub is_reserved : Text → Bool
is_reserved w = bytes_eq (take 3 w) (codes "pp_")

-- a name that is declared
abbrev pub redeclared : Scope → Text → Option Kind
redeclared s w = only_where (is_known (meaning_in s w) || is_reserved w) kind.Redeclared

-- a name that a loop takes for its iterator without declaring it: one that is declared, and not open
abbrev pub taken : Meaning → Option Kind
taken meaning.Unknown = Some kind.UnknownName
taken meaning.Closed = None
taken (meaning.Variable k) = Some kind.IteratorOutside
taken (meaning.Array k r narrow) = Some kind.Rank

-- the name of a loop's iterator; new: the loop declares it
abbrev pub iterator_fault : Bool → Scope → Text → Option Kind
iterator_fault true s w = redeclared s w
iterator_fault false s w = taken (meaning_in s w)
