-- The line that tells why the order of a kernel is kept.
use Rattle.std.specs.Prelude.{ℕ, List, [], ◌∷◌, codes, decimal}
use Rattle.std.specs.List.{concat}
use Rattle.report_text.specs.declared.kept_line.KeptLine.{KeptLine}
use Rattle.report_text.specs.declared.kept_line.KeptLine.TheVariants as line

-- `kept: ` and why, and a line feed
abbrev pub kept_text : KeptLine → List ℕ
kept_text line.Wide = codes "kept: wide\n"
kept_text (line.Spent moves) = concat (codes "kept: spent " ∷ decimal moves ∷ codes "\n" ∷ [])
kept_text (line.Crowded pairs) = concat (codes "kept: crowded " ∷ decimal pairs ∷ codes "\n" ∷ [])
kept_text line.Large = codes "kept: large\n"
kept_text line.NoRow = codes "kept: no row\n"
kept_text line.NoOrder = codes "kept: no order\n"
