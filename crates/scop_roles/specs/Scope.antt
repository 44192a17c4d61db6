-- Names and constants that a text can have.
use Rattle.std.specs.Prelude.{◌≡◌, ℕ, ◌+◌, ◌^◌, ◌<◌, ◌≤◌, Bool, false, List, length, slice_index_or, ⊤}
use Rattle.scop_roles.specs.declared.kinds.Fault.{Fault}
use Rattle.scop_roles.specs.declared.formula.Meaning.{Meaning}
use Rattle.scop_roles.specs.declared.formula.Meaning.TheVariants as meaning
use Rattle.scop_roles.specs.Formula.{Formula, Lookup, constant, name, index, bare_call, call, unary, cast, binary}
use Rattle.scop_roles.specs.Formula.{meaning_of}

-- an array is one of those with these ranks, and has its rank
abbrev pub IsKnown : List ℕ → Meaning → Type 0
IsKnown ranks (meaning.Array k r narrow) = (k < length ranks) × (slice_index_or ranks k 0 ≡ r)
IsKnown ranks m = ⊤

-- every array of a text is known, and its constants have 64 bits
pub record KnowsArrays (ranks : List ℕ) (look : Lookup) : Type 0 where
  pub meaning : (at : ℕ) → IsKnown ranks (look.meaning at)
  pub worth : (at : ℕ) → look.worth at < 2 ^ 64

-- so it is in a formula
abbrev pub IsInScope : List ℕ → Formula → Type 0
IsInScope ranks (constant s v at) = v < 2 ^ 64
IsInScope ranks (name m at) = IsKnown ranks m
IsInScope ranks (index p i) = IsInScope ranks p × IsInScope ranks i
IsInScope ranks (bare_call m at) = IsKnown ranks m
IsInScope ranks (call m f at) = IsKnown ranks m × IsInScope ranks f
IsInScope ranks (unary s f at) = IsInScope ranks f
IsInScope ranks (cast w f at) = IsInScope ranks f
IsInScope ranks (binary o f g at) = IsInScope ranks f × IsInScope ranks g

-- an array has cells of 32 bits as these say
abbrev pub KnowsWidth : List Bool → Meaning → Type 0
KnowsWidth narrow (meaning.Array k r b) = slice_index_or narrow k false ≡ b
KnowsWidth narrow m = ⊤

-- so has each whose cells a value reads
abbrev pub HasWidths : List Bool → Formula → Type 0
HasWidths narrow (index p i) = KnowsWidth narrow (meaning_of p)
HasWidths narrow (unary s f at) = HasWidths narrow f
HasWidths narrow (cast w f at) = HasWidths narrow f
HasWidths narrow (binary o f g at) = HasWidths narrow f × HasWidths narrow g
HasWidths narrow f = ⊤

-- the name is an array's
abbrev pub IsArrayName : Meaning → Type 0
IsArrayName (meaning.Array k r narrow) = ⊤
IsArrayName m = ⊥

-- the name of a place is an array's
abbrev pub IsArray : Formula → Type 0
IsArray f = IsArrayName (meaning_of f)

-- a fault stands among so many tokens from a place on
pub record LiesWithin (at count : ℕ) (fault : Fault) : Type 0 where
  pub from : at ≤ fault.place
  pub below : fault.place < at + count
