-- Cells of 32 bits, and which values have C's type of 32 bits.
use Rattle.std.specs.Prelude.{◌≡◌, ℕ, ◌^◌, ◌<◌, Bool, true, false, ◌&&◌, if◌then◌else◌, List, [], slice_index_or, ⊤}
use Rattle.scop_syntax.specs.Tree.{Expression, read, negated, complemented, cast, binary}
use Rattle.scop_syntax.specs.Tree.{shifted_left, shifted_right, implied, narrowed}

-- in arrays of 32 bits no cell holds more
abbrev pub HoldWidths : List Bool → List (List ℕ) → Type 0
HoldWidths narrow contents = (a k : ℕ) → slice_index_or narrow a false ≡ true
    → slice_index_or (slice_index_or contents a []) k 0 < 2 ^ 32

-- how many bits a type has
abbrev pub bits : Bool → ℕ
bits narrow = if narrow then 32 else 64

-- each cell holds a number of its array's type
abbrev pub HoldTypes : List Bool → List (List ℕ) → Type 0
HoldTypes narrow contents =
    (a k : ℕ) → slice_index_or (slice_index_or contents a []) k 0 < 2 ^ bits (slice_index_or narrow a false)

-- C gives a value 32 bits by the types of its parts: a cell of such an array, a cast to uint32_t, a sign or a shift of
-- such (C17 6.5.3.3p3 and p4, 6.5.7p3), an operator where both sides have 32 bits (6.3.1.8p1); no integer promotion
-- reaches these, where int has 32 bits (6.3.1.1p2). `implied` changes no type: it has no text
abbrev pub is_narrow : List Bool → Expression → Bool
is_narrow narrow (read access) = slice_index_or narrow access.array false
is_narrow narrow (negated e) = is_narrow narrow e
is_narrow narrow (complemented e) = is_narrow narrow e
is_narrow narrow (binary op e f) = is_narrow narrow e && is_narrow narrow f
is_narrow narrow (shifted_left e k) = is_narrow narrow e
is_narrow narrow (shifted_right e k) = is_narrow narrow e
is_narrow narrow (narrowed implied e) = is_narrow narrow e
is_narrow narrow (narrowed w e) = true
is_narrow narrow e = false

-- what an operator makes is kept to 32 bits by `implied` exactly where C gives it that type, and nothing else is; kept:
-- the value stands in such a one. A shift's count is below the bits of what is shifted (C17 6.5.7p3)
abbrev pub IsTypedAs : List Bool → Bool → Expression → Type 0
IsTypedAs narrow kept (negated e) = (is_narrow narrow e ≡ kept) × IsTypedAs narrow false e
IsTypedAs narrow kept (complemented e) = (is_narrow narrow e ≡ kept) × IsTypedAs narrow false e
IsTypedAs narrow kept (binary op e f) =
    (is_narrow narrow (binary op e f) ≡ kept) × IsTypedAs narrow false e × IsTypedAs narrow false f
IsTypedAs narrow kept (shifted_left e k) = (is_narrow narrow e ≡ kept) × (k < bits kept) × IsTypedAs narrow false e
IsTypedAs narrow kept (shifted_right e k) = (is_narrow narrow e ≡ kept) × (k < bits kept) × IsTypedAs narrow false e
IsTypedAs narrow true e = ⊥
IsTypedAs narrow false (cast e) = IsTypedAs narrow false e
IsTypedAs narrow false (narrowed implied e) = IsTypedAs narrow true e
IsTypedAs narrow false (narrowed w e) = IsTypedAs narrow false e
IsTypedAs narrow false e = ⊤

-- the tree's value of 32 bits or 64 is C's, where the arrays have these widths
abbrev pub IsTyped : List Bool → Expression → Type 0
IsTyped narrow e = IsTypedAs narrow false e
