-- The parts of a line, one after another.
use Rattle.std.specs.Prelude.{ℕ, List, [], ◌∷◌, ◌++◌, decimal}
use Rattle.std.specs.Fmt.{signed_decimal}
use Rattle.report_text.specs.declared.parts.Part.{Part}
use Rattle.report_text.specs.declared.parts.Part.TheVariants as part

-- a text, or the decimal of a number
abbrev pub part_text : Part → List ℕ
part_text (part.Text text) = text.now
part_text (part.Number number) = decimal number
part_text (part.Signed number) = signed_decimal number

-- the texts of all parts
abbrev pub parts_text : List Part → List ℕ
parts_text [] = []
parts_text (p ∷ ps) = part_text p ++ parts_text ps
