-- Signs (C17 6.4.6): those of a kernel's expressions, statements and lists, the longest first.
use Rattle.std.specs.Prelude.{◌≡◌, ◌⊎◌, ◌≤◌, ◌++◌, ℕ, ◌==◌, ◌&&◌, if◌then◌else◌, Option, Some, None, List, [], ◌∷◌}
use Rattle.std.specs.Prelude.{get_or, length}
use Rattle.scop_tokens.specs.declared.Assign.{Assign}
use Rattle.scop_tokens.specs.declared.Assign.TheVariants as assign
use Rattle.scop_tokens.specs.declared.Count.TheVariants as count
use Rattle.scop_tokens.specs.declared.Op.TheVariants as op
use Rattle.scop_tokens.specs.declared.Outside.TheVariants as outside
use Rattle.scop_tokens.specs.declared.Token.{Token as Kind}
use Rattle.scop_tokens.specs.declared.Token.TheVariants.{Binary, Complement, Not, Open, Close, OpenIndex, CloseIndex}
use Rattle.scop_tokens.specs.declared.Token.TheVariants.{Outside}
use Rattle.scop_lexer.specs.Bytes.{Text}
use Rattle.scop_lexer.specs.declared.token.FaultKind.TheVariants.{Character}
use Rattle.scop_lexer.specs.declared.stand.Stand.{Stand}
use Rattle.scop_lexer.specs.declared.stand.Stand.TheVariants.{Lexeme, Wrong}

-- a sign that assigns
abbrev pub assigns : Assign → Kind
assigns a = Outside (outside.Assign a)

-- the sign of a byte in a table
abbrev pub sign_in : List (ℕ × Kind) → ℕ → Option Kind
sign_in [] b = None
sign_in (row ∷ rows) b = if b == row.0 then Some row.1 else sign_in rows b

-- `( ) [ ] { } ; , ~ = ! * / % ^ + - & | < >`
abbrev pub singles : List (ℕ × Kind)
singles =
    (40, Open) ∷ (41, Close) ∷ (91, OpenIndex) ∷ (93, CloseIndex) ∷ (123, Outside outside.BraceOpen)
    ∷ (125, Outside outside.BraceClose) ∷ (59, Outside outside.Semicolon) ∷ (44, Binary op.Comma) ∷ (126, Complement)
    ∷ (61, assigns assign.Set) ∷ (33, Not) ∷ (42, Binary op.Times) ∷ (47, Binary op.Divide)
    ∷ (37, Binary op.Remainder) ∷ (94, Binary op.BitXor) ∷ (43, Binary op.Plus) ∷ (45, Binary op.Minus)
    ∷ (38, Binary op.BitAnd) ∷ (124, Binary op.BitOr) ∷ (60, Binary op.Less) ∷ (62, Binary op.Greater) ∷ []

-- `== != *= /= %= ^= += -= &= |= <= >=`, by their first bytes
abbrev pub equals : List (ℕ × Kind)
equals =
    (61, Binary op.Equal) ∷ (33, Binary op.NotEqual) ∷ (42, assigns assign.Times) ∷ (47, assigns assign.Divide)
    ∷ (37, assigns assign.Remainder) ∷ (94, assigns assign.Xor) ∷ (43, assigns assign.Plus)
    ∷ (45, assigns assign.Minus) ∷ (38, assigns assign.And) ∷ (124, assigns assign.Or) ∷ (60, Binary op.AtMost)
    ∷ (62, Binary op.AtLeast) ∷ []

-- `++ -- && || << >>`, by their bytes
abbrev pub doubles : List (ℕ × Kind)
doubles =
    (43, Outside (outside.Count count.Up)) ∷ (45, Outside (outside.Count count.Down)) ∷ (38, Binary op.LogicalAnd)
    ∷ (124, Binary op.LogicalOr) ∷ (60, Binary op.ShiftLeft) ∷ (62, Binary op.ShiftRight) ∷ []

-- `<<= >>=`, by their first bytes
abbrev pub doubles_with_equal : List (ℕ × Kind)
doubles_with_equal =
    (60, assigns assign.ShiftLeft) ∷ (62, assigns assign.ShiftRight) ∷ []

-- the sign that a byte is
abbrev pub single : ℕ → Option Kind
single b = sign_in singles b

-- the sign that a byte and `=` are
abbrev pub with_equal : ℕ → Option Kind
with_equal b = sign_in equals b

-- the sign that a byte twice is, but for `==`
abbrev pub doubled : ℕ → Option Kind
doubled b = sign_in doubles b

-- the sign that a byte twice and `=` are
abbrev pub doubled_with_equal : ℕ → Option Kind
doubled_with_equal b = sign_in doubles_with_equal b

-- a sign of this length stands in front, else what is told otherwise
abbrev pub sign_or : Option Kind → ℕ → Stand → Stand
sign_or (Some sign) n otherwise = Lexeme sign 0 n
sign_or None n otherwise = otherwise

-- the longest sign that these three bytes begin with
abbrev pub sign_stands_at : ℕ → ℕ → ℕ → Stand
sign_stands_at a b c =
    sign_or (if b == a && c == 61 then doubled_with_equal a else None) 3
    (sign_or (if b == a then doubled a else None) 2
    (sign_or (if b == 61 then with_equal a else None) 2
    (sign_or (single a) 1 (Wrong Character 0))))

-- the longest sign in front of a text; no sign has a byte 0, which stands here for those behind the end
abbrev pub sign_stands : Text → Stand
sign_stands text = sign_stands_at (get_or text 0 0) (get_or text 1 0) (get_or text 2 0)

-- these bytes are the sign
abbrev pub IsWritten : Text → Kind → Type 0
IsWritten (a ∷ []) sign = single a ≡ Some sign
IsWritten (a ∷ b ∷ []) sign = ((b ≡ 61) × (with_equal a ≡ Some sign)) ⊎ ((b ≡ a) × (doubled a ≡ Some sign))
IsWritten (a ∷ b ∷ c ∷ []) sign = (b ≡ a) × (c ≡ 61) × (doubled_with_equal a ≡ Some sign)
IsWritten other sign = ⊥

-- the text begins with these bytes
abbrev pub BeginsWith : Text → Text → Type 0
BeginsWith front text = (rest : Text) × (text ≡ front ++ rest)

-- no sign that is longer than m bytes stands in front of the text
abbrev pub HasNoLonger : ℕ → Text → Type 0
HasNoLonger m text = (w : Text) (sign : Kind) → IsWritten w sign → BeginsWith w text → length w ≤ m

-- the sign stands in front of the text, written so, and none that is longer does
abbrev pub IsLongestSign : Text → Text → Kind → Type 0
IsLongestSign text w sign = IsWritten w sign × BeginsWith w text × HasNoLonger (length w) text

-- what stands in front of the text is its longest sign; it is no character of the language where it has none
abbrev pub StandsAsSign : Text → Stand → Type 0
StandsAsSign text (Lexeme sign value n) = (w : Text) × IsLongestSign text w sign × (value ≡ 0) × (n ≡ length w)
StandsAsSign text (Wrong Character n) = (n ≡ 0)
    × ((w : Text) (sign : Kind) → IsWritten w sign → BeginsWith w text → ⊥)
StandsAsSign text other = ⊥
