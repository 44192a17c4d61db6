-- The lines of a schedule's items over plain numbers, none of them below 0, without their line feeds. Items and bands are
-- numbered from 1, and so are statements.
use Rattle.std.specs.Prelude.{ℕ, zero, suc, Bool, if◌then◌else◌, List, [], ◌∷◌, ◌++◌, codes}
use Rattle.std.specs.List.{concat}
use Rattle.scop_lexer.specs.Bytes.{Text}
use Rattle.form_text.specs.Numerals.{numeral}

-- a statement's part of a row: a coefficient for each loop, the outermost first, and a shift
pub record Part : Type 0 where
  pub coefficients : List ℕ
  pub shift : ℕ

-- a row: its number, its band, whether it is parallel, the bound u.n + w of its distances, each statement's part
pub record Row : Type 0 where
  pub number : ℕ
  pub band : ℕ
  pub parallel : Bool
  pub u : List ℕ
  pub w : ℕ
  pub parts : List Part

-- a scalar item: its number, and a number for each statement
pub record Scalar : Type 0 where
  pub number : ℕ
  pub values : List ℕ

-- what stands in front of the entry at a place: nothing in front of the first, else the text between two
abbrev pub before : ℕ → Text → Text
before zero between = []
before (suc at) between = between

-- numbers from the one at this place on, a space between
abbrev pub numbers_from : ℕ → List ℕ → Text
numbers_from at [] = []
numbers_from at (n ∷ ns) = (before at (codes " ") ++ numeral n) ++ numbers_from (suc at) ns

-- numbers in parentheses
abbrev pub list_text : List ℕ → Text
list_text ns = codes "(" ++ (numbers_from 0 ns ++ codes ")")

-- `SN `, and what stands in front of it
abbrev pub label_text : ℕ → Text
label_text at = concat (before at (codes ", ") ∷ codes "S" ∷ numeral (suc at) ∷ codes " " ∷ [])

-- `SN (C1 ..) + SHIFT`
abbrev pub part_text : ℕ → Part → Text
part_text at p = concat (label_text at ∷ list_text p.coefficients ∷ codes " + " ∷ numeral p.shift ∷ [])

-- these of the statements from the one at this place on
abbrev pub parts_text : ℕ → List Part → Text
parts_text at [] = []
parts_text at (p ∷ ps) = part_text at p ++ parts_text (suc at) ps

-- whether a row is parallel or carries, in front of its u
abbrev pub mark_text : Bool → Text
mark_text parallel = if parallel then codes " parallel u " else codes " carries u "

-- `row K band B parallel u (U1 ..) w W: S1 (C1 ..) + SHIFT, S2 ..`
abbrev pub row_text : Row → Text
row_text r =
    concat (codes "row " ∷ numeral r.number ∷ codes " band " ∷ numeral r.band ∷ mark_text r.parallel ∷ list_text r.u
    ∷ codes " w " ∷ numeral r.w ∷ codes ": " ∷ parts_text 0 r.parts ∷ [])

-- `SN V` of the statements from the one at this place on
abbrev pub values_text : ℕ → List ℕ → Text
values_text at [] = []
values_text at (v ∷ vs) = (label_text at ++ numeral v) ++ values_text (suc at) vs

-- `scalar K: S1 V, S2 ..`
abbrev pub scalar_text : Scalar → Text
scalar_text s = concat (codes "scalar " ∷ numeral s.number ∷ codes ": " ∷ values_text 0 s.values ∷ [])
