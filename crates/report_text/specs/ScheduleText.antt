-- The text of a schedule: a line for each item. Items and bands are numbered from 1, and so are statements.
use Rattle.std.specs.Prelude.{◌≡◌, ℕ, zero, suc, ◌+◌, ◌^◌, ◌<◌, Bool, ℤ, pos, ◌<ℤ◌, List, [], ◌∷◌, ◌++◌, length, codes}
use Rattle.std.specs.Prelude.{All, decimal, if◌then◌else◌}
use Rattle.std.specs.Fmt.{signed_decimal}
use Rattle.std.specs.List.{concat}
use Rattle.schedule_rows.specs.Unknowns.{Part}
use Rattle.schedule_rows.specs.Items.{Row, Marked, Block, scalar, band}
use Rattle.schedule_rows.specs.Outcomes.{IsSchedule}
use Rattle.schedule_rows.specs.Schedule as plain
use Rattle.schedule_rows.specs.Schedule.{Item, Scheduled, loops_in}

-- what stands in front of the entry at a place: nothing in front of the first, else the text between two
abbrev pub before : ℕ → List ℕ → List ℕ
before zero between = []
before (suc at) between = between

-- numbers from the one at this place on, a space between
abbrev pub numbers_from : ℕ → List ℤ → List ℕ
numbers_from at [] = []
numbers_from at (z ∷ zs) = (before at (codes " ") ++ signed_decimal z) ++ numbers_from (suc at) zs

-- numbers in parentheses
abbrev pub list_text : List ℤ → List ℕ
list_text zs = codes "(" ++ (numbers_from 0 zs ++ codes ")")

-- `SN (C1 ..) + SHIFT`, the outermost loop's coefficient first
abbrev pub statement_text : ℕ → Part → List ℕ
statement_text at p =
    concat (before at (codes ", ") ∷ codes "S" ∷ decimal (suc at) ∷ codes " " ∷ list_text p.coefficients
    ∷ codes " + " ∷ signed_decimal p.shift ∷ [])

-- these of the statements from the one at this place on
abbrev pub statements_from : ℕ → List Part → List ℕ
statements_from at [] = []
statements_from at (p ∷ ps) = statement_text at p ++ statements_from (suc at) ps

-- whether a row is parallel or carries, in front of its u
abbrev pub mark_text : Bool → List ℕ
mark_text parallel = if parallel then codes " parallel u " else codes " carries u "

-- `row K band B parallel u (U1 ..) w W: S1 (C1 ..) + SHIFT, S2 ..` and a line feed
abbrev pub row_line : ℕ → ℕ → Bool → Row → List ℕ
row_line k b parallel r =
    concat (codes "row " ∷ decimal k ∷ codes " band " ∷ decimal b ∷ mark_text parallel ∷ list_text r.u ∷ codes " w "
    ∷ signed_decimal r.w ∷ codes ": " ∷ []) ++ (statements_from 0 r.parts ++ codes "\n")

-- `SN V`
abbrev pub component_text : ℕ → ℕ → List ℕ
component_text at number =
    concat (before at (codes ", ") ∷ codes "S" ∷ decimal (suc at) ∷ codes " " ∷ decimal number ∷ [])

-- these of the statements from the one at this place on
abbrev pub components_from : ℕ → List ℕ → List ℕ
components_from at [] = []
components_from at (number ∷ numbers) = component_text at number ++ components_from (suc at) numbers

-- `scalar K: S1 V, S2 ..` and a line feed
abbrev pub scalar_line : ℕ → List ℕ → List ℕ
scalar_line k numbers =
    concat (codes "scalar " ∷ decimal k ∷ codes ": " ∷ []) ++ (components_from 0 numbers ++ codes "\n")

-- the lines of a band's rows, from item k on
abbrev pub rows_text : ℕ → ℕ → List Marked → List ℕ
rows_text k b [] = []
rows_text k b (m ∷ ms) = row_line k b m.parallel m.row ++ rows_text (suc k) b ms

-- the lines of blocks, from item k and band b on
abbrev pub blocks_text : ℕ → ℕ → List Block → List ℕ
blocks_text k b [] = []
blocks_text k b (scalar numbers ∷ bs) = scalar_line k numbers ++ blocks_text (suc k) b bs
blocks_text k b (band [] ∷ bs) = blocks_text k b bs
blocks_text k b (band (m ∷ ms) ∷ bs) = rows_text k b (m ∷ ms) ++ blocks_text (suc (k + length ms)) (suc b) bs

-- the text of a schedule
abbrev pub schedule_text : List Block → List ℕ
schedule_text blocks = blocks_text 1 1 blocks

-- the text is that of the schedule of the determined run
pub record IsTextOf (s : Scheduled) (text : List ℕ) : Type 0 where
  pub blocks : List Block
  pub run : IsSchedule s.model.parameters (loops_in s.model) s.deps blocks
  pub text_is : text ≡ schedule_text blocks

-- numbers that their types hold: below 2^127
abbrev pub AreNarrow : List ℤ → Type 0
AreNarrow zs = All (λ z. z <ℤ pos (2 ^ 127)) zs

abbrev pub AreNarrowNumbers : List ℕ → Type 0
AreNarrowNumbers ns = All (λ n. n < 2 ^ 127) ns

-- the bound of a row
abbrev pub IsNarrowRow : Row → Type 0
IsNarrowRow r = AreNarrow r.u × (r.w <ℤ pos (2 ^ 127))

-- the bound of a row, and all numbers of a scalar
abbrev pub IsNarrowItem : Item → Type 0
IsNarrowItem (plain.row r) = IsNarrowRow r
IsNarrowItem (plain.scalar ns) = AreNarrowNumbers ns
