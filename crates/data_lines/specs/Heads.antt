-- The head of a line: a name and `=`, with blanks round both as one likes.
use Rattle.std.specs.Prelude.{ℕ, ◌==◌, nat_lt, if◌then◌else◌, [], ◌∷◌, take, drop, Option, Some, None}
use Rattle.scop_lexer.specs.Bytes.{Text}
use Rattle.scop_lexer.specs.Stands.{stands_at}
use Rattle.scop_lexer.specs.declared.stand.Stand.{Stand}
use Rattle.scop_lexer.specs.declared.stand.Stand.TheVariants.{Lexeme}
use Rattle.scop_lexer.specs.Kind.TheVariants.{Name}
use Rattle.data_lines.specs.Words.{unindented}

-- how long a name is that stands somewhere, 0 where none does
abbrev pub name_bytes : Stand → ℕ
name_bytes (Lexeme Name value n) = n
name_bytes other = 0

-- how long the name is that a text begins with, a name as kernels have it; 0 where it begins with none
abbrev pub name_len : Text → ℕ
name_len text = name_bytes (stands_at text 0)

-- the name with what stands behind the `=`, which is the first byte
abbrev pub behind_name : Text → Text → Option (Text × Text)
behind_name name [] = None
behind_name name (b ∷ list) = if b == 61 then Some (name, list) else None

-- the name and the list of a text that begins with a name, blanks and `=`
abbrev pub named_list : Text → Option (Text × Text)
named_list text = if nat_lt 0 (name_len text)
    then behind_name (take (name_len text) text) (unindented (drop (name_len text) text)) else None
