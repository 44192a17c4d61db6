-- The line that tells why a run is not expanded.
use Rattle.std.specs.Prelude.{ℕ, List, [], ◌∷◌, codes, decimal}
use Rattle.std.specs.List.{concat}
use Rattle.report_text.specs.declared.unexpanded_line.UnexpandedLine.{UnexpandedLine}
use Rattle.report_text.specs.declared.unexpanded_line.UnexpandedLine.TheVariants as line

-- `unexpanded: ` and why, and a line feed
abbrev pub unexpanded_text : UnexpandedLine → List ℕ
unexpanded_text line.Wide = codes "unexpanded: wide\n"
unexpanded_text (line.Spent moves) = concat (codes "unexpanded: spent " ∷ decimal moves ∷ codes "\n" ∷ [])
unexpanded_text (line.Nodes count) = concat (codes "unexpanded: nodes " ∷ decimal count ∷ codes "\n" ∷ [])
unexpanded_text line.Copies = codes "unexpanded: copies\n"
unexpanded_text line.Reduce = codes "unexpanded: reduce\n"
