-- A schedule of two statements, with items of both kinds, and its text.
use Rattle.std.specs.Prelude.{ℤ, pos, Bool, true, false, List, [], ◌∷◌, ◌++◌, codes}
use Rattle.scop_lexer.specs.Bytes.{Text}
use Rattle.schedule_rows.specs.Unknowns.{Part}
use Rattle.schedule_rows.specs.Items.{Marked, Block, scalar, band}

-- a row, parallel or not: the bound u*N + w, a form of the first statement's three turns and one of the second's two
abbrev row : Bool → ℤ → ℤ → Part → Part → Marked
row parallel u w first second =
    record { row = record { u = u ∷ []; w = w; parts = first ∷ second ∷ [] }; parallel = parallel }

-- a*i + b*j + c*k + shift
abbrev of_three : ℤ → ℤ → ℤ → ℤ → Part
of_three a b c shift = record { coefficients = a ∷ b ∷ c ∷ []; shift = shift }

-- a*i + b*j + shift
abbrev of_two : ℤ → ℤ → ℤ → Part
of_two a b shift = record { coefficients = a ∷ b ∷ []; shift = shift }

-- two rows, of which the first is parallel, then the order of the statements, and a row of the first alone
abbrev pub blocks : List Block
blocks =
    band (row true (pos 0) (pos 0) (of_three (pos 1) (pos 0) (pos 0) (pos 0)) (of_two (pos 1) (pos 0) (pos 1))
    ∷ row false (pos 1) (pos 0) (of_three (pos 0) (pos 1) (pos 0) (pos 0)) (of_two (pos 0) (pos 1) (pos 0)) ∷ [])
    ∷ scalar (1 ∷ 0 ∷ [])
    ∷ band (row false (pos 0) (pos 2) (of_three (pos 0) (pos 0) (pos 1) (pos 0)) (of_two (pos 0) (pos 0) (pos 0)) ∷ [])
    ∷ []

-- their lines
abbrev pub text : Text
text = codes "row 1 band 1 parallel u (0) w 0: S1 (1 0 0) + 0, S2 (1 0) + 1\n"
    ++ (codes "row 2 band 1 carries u (1) w 0: S1 (0 1 0) + 0, S2 (0 1) + 0\n" ++ (codes "scalar 3: S1 1, S2 0\n"
    ++ codes "row 4 band 2 carries u (0) w 2: S1 (0 0 1) + 0, S2 (0 0) + 0\n"))
