-- Lines, one after another.
use Rattle.scop_syntax.proofs.Common.{◌≡◌, ◌∙◌, sym, ap, ℕ, ◌+◌, List, [], ◌∷◌, Result, Ok, Program}
use Rattle.scop_lexer.specs.Bytes.{Text}
use Rattle.data_lines.specs.declared.refusal.DataRefusal.{DataRefusal}
use Rattle.data_lines.specs.declared.refusal.DataStop.{DataStop}
use Rattle.data_lines.specs.declared.refusal.DataStop.TheVariants.{Refused, NoMemory}
use Rattle.data_lines.specs.Sheets.{Sheet}
use Rattle.data_lines.specs.Entries.{StopsAs, with_line, with_lines}

-- a line is written, and others are to come
pub line_written : (program : Program) (k : ℕ) (sheet after : Sheet) (texts : List Text) (line : Text)
    (others : List Text) (whole : Result Sheet DataRefusal)
    → texts ≡ line ∷ others → with_line program sheet k line ≡ Ok after
    → with_lines program k (Ok sheet) texts ≡ whole → with_lines program (k + 1) (Ok after) others ≡ whole
line_written program k sheet after texts line others whole split written is =
    sym (ap (λ s. with_lines program (k + 1) s others) written)
    ∙ (sym (ap (with_lines program k (Ok sheet)) split) ∙ is)

-- the last line is written
pub last_written : (program : Program) (k : ℕ) (sheet after : Sheet) (texts : List Text) (line : Text)
    (whole : Result Sheet DataRefusal)
    → texts ≡ line ∷ [] → with_line program sheet k line ≡ Ok after → with_lines program k (Ok sheet) texts ≡ whole
    → whole ≡ Ok after
last_written program k sheet after texts line whole split written is =
    sym (line_written program k sheet after texts line [] whole split written is)

-- a line stops the lines
pub lines_stopped : (program : Program) (k : ℕ) (sheet : Sheet) (texts : List Text) (line : Text)
    (others : List Text) (whole : Result Sheet DataRefusal) (stop : DataStop)
    → texts ≡ line ∷ others → StopsAs (with_line program sheet k line) stop
    → with_lines program k (Ok sheet) texts ≡ whole → StopsAs whole stop
lines_stopped program k sheet texts line others whole (Refused refusal) split stops is =
    sym is ∙ (ap (with_lines program k (Ok sheet)) split ∙ ap (λ s. with_lines program (k + 1) s others) stops)
lines_stopped program k sheet texts line others whole NoMemory split stops is = tt
