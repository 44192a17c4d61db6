-- The pieces of a line that is made in memory, one after another.
use Rattle.std.specs.Prelude.{ℕ, List, [], ◌∷◌, ◌++◌, decimal}
use Rattle.std.specs.Fmt.{signed_decimal}
use Rattle.report_text.specs.declared.pieces.Piece.{Piece}
use Rattle.report_text.specs.declared.pieces.Piece.TheVariants as piece
use Rattle.report_text.specs.ScheduleText.{list_text}

-- a text, the decimal of a number, or numbers in parentheses
abbrev pub piece_text : Piece → List ℕ
piece_text (piece.Text text) = text.now
piece_text (piece.Number number) = decimal number
piece_text (piece.Signed number) = signed_decimal number
piece_text (piece.List numbers) = list_text numbers.now

-- these, one after another
abbrev pub pieces_text : List Piece → List ℕ
pieces_text [] = []
pieces_text (p ∷ ps) = piece_text p ++ pieces_text ps
