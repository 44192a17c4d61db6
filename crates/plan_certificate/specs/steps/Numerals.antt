-- Texts with a number behind them.
use Rattle.std.specs.Prelude.{ℕ, ◌++◌, codes}
use Rattle.scop_lexer.specs.Bytes.{Text}
use Rattle.form_text.specs.Numerals.{numeral}
use Rattle.plan_check.specs.Text.{TermLine}

-- a number behind a text
abbrev pub numbered : Text → ℕ → Text
numbered front number = front ++ numeral number

-- ` K:M`
abbrev pub term_text : TermLine → Text
term_text t = codes " " ++ (numeral t.row ++ (codes ":" ++ numeral t.factor))
