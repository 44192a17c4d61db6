-- Rows as lines of a buffer, and the cut on a line.
use Rattle.std.specs.Prelude.{◌≡◌, ℕ, ◌+◌, ◌*◌, ℤ, pos, neg_ℤ, List, ◌∷◌, length, get_or, drop, Option, Some, None}
use Rattle.std.specs.Prelude.{Result, Ok}
use Rattle.wide_math.specs.declared.Wide.{Wide}
use Rattle.wide_math.specs.Checked.{difference_of, ◌>>=◌}
use Rattle.whole_numbers.specs.Floor.{remainder}
use Rattle.whole_numbers.specs.Content.{lowest}
use Rattle.tableau_rows.specs.Rows.{Row}
use Rattle.tableau_rows.specs.Moves.{cut_entries_run, tied, rows_in}

-- -((-b) mod d)
unfoldable pub turned_run : ℤ → ℤ → Result ℤ Wide
turned_run d b = difference_of (pos 0) b >>= λ m. Ok (neg_ℤ (remainder m d))

-- the place of a parameter among the constant and the parameters
abbrev pub behind_constant : Option ℕ → Option ℕ
behind_constant None = None
behind_constant (Some k) = Some (k + 1)

-- the place of a parameter among all entries, behind n columns and the constant
abbrev pub behind_columns : ℕ → Option ℕ → Option ℕ
behind_columns n None = None
behind_columns n (Some k) = Some (n + 1 + k)

-- the cut on a row over n columns that has its denominator in front, tied to the parameter at a place, or to none
unfoldable pub cut_line_run : ℕ → Option ℕ → List ℤ → Result (List ℤ) Wide
cut_line_run n place line =
    cut_entries_run n (get_or line 0 (pos 0)) (drop 1 line) >>= λ es. Ok
    (lowest (get_or line 0 (pos 0) ∷ tied (get_or line 0 (pos 0)) place es))

-- a buffer of `count` lines of one length holds these rows
pub record Holds (stride count : ℕ) (cells : List ℤ) (rows : List Row) : Type 0 where
  pub size : length cells ≡ count * stride
  pub lines : rows_in stride count cells ≡ rows
