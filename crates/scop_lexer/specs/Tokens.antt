-- A text as gaps and tokens, and its first fault.
use Rattle.std.specs.Prelude.{◌≡◌, ℕ, ◌+◌, ◌<◌, ◌≤◌, List, [], ◌∷◌, length, map, ⊤}
use Rattle.scop_lexer.specs.Bytes.{Text}
use Rattle.scop_lexer.specs.Stands.{stands_at}
use Rattle.scop_lexer.specs.declared.token.Token.{Token}
use Rattle.scop_lexer.specs.declared.token.Fault.{Fault}
use Rattle.scop_lexer.specs.declared.token.Stop.{Stop}
use Rattle.scop_lexer.specs.declared.token.Stop.TheVariants.{Refused, NoMemory}
use Rattle.scop_tokens.specs.declared.Token.TheVariants.{Name}
use Rattle.scop_lexer.specs.declared.stand.Stand.{Stand}
use Rattle.scop_lexer.specs.declared.stand.Stand.TheVariants.{Gap, Lexeme, Wrong}

-- gaps of these lengths, one behind the other, fill the text from a place to another
abbrev pub AreGaps : Text → ℕ → List ℕ → ℕ → Type 0
AreGaps text at [] to = at ≡ to
AreGaps text at (n ∷ ns) to = (stands_at text at ≡ Gap n) × AreGaps text (at + n) ns to

-- nothing but blanks, comments and directive lines stands from a place to another
abbrev pub IsGap : Text → ℕ → ℕ → Type 0
IsGap text at to = (lengths : List ℕ) × AreGaps text at lengths to

-- the token stands at its start, up to its end
abbrev pub IsToken : Text → Token → Type 0
IsToken text token = (n : ℕ) × (stands_at text token.start ≡ Lexeme token.kind token.value n)
    × (token.end ≡ token.start + n)

-- the token that begins at a place where this stands; an empty name where it is none
abbrev pub token_of : ℕ → Stand → Token
token_of at (Lexeme kind value n) = record { kind = kind; value = value; start = at; end = at + n }
token_of at _ = record { kind = Name; value = 0; start = at; end = at }

-- the token that begins at a place of a text
abbrev pub token_at : Text → ℕ → Token
token_at text at = token_of at (stands_at text at)

-- the tokens that begin at these places
abbrev pub tokens_at : Text → List ℕ → List Token
tokens_at text starts = map (token_at text) starts

-- from a place to another the text is these tokens in turn, and gaps before, between and behind them
abbrev pub AreTokens : Text → ℕ → List Token → ℕ → Type 0
AreTokens text at [] to = IsGap text at to
AreTokens text at (token ∷ tokens) to = IsGap text at token.start × IsToken text token
    × AreTokens text token.end tokens to

-- the whole text is these tokens and gaps
abbrev pub HasTokens : Text → List Token → Type 0
HasTokens text tokens = AreTokens text 0 tokens (length text)

-- what begins at the place is wrong there, or at a byte of it
abbrev pub IsFault : Text → ℕ → Fault → Type 0
IsFault text at fault = (n : ℕ) × (stands_at text at ≡ Wrong fault.kind n) × (fault.place ≡ at + n)

-- the first fault of the text: all in front of it is tokens and gaps
abbrev pub HasFault : Text → Fault → Type 0
HasFault text fault = (tokens : List Token) × (at : ℕ) × AreTokens text 0 tokens at × IsFault text at fault

-- the next token from a place on: only a gap stands in front of it
abbrev pub IsNext : Text → ℕ → Token → Type 0
IsNext text at token = IsGap text at token.start × IsToken text token

-- a fault stands in place of the next token
abbrev pub IsNextFault : Text → ℕ → Fault → Type 0
IsNextFault text at fault = (to : ℕ) × IsGap text at to × IsFault text to fault

-- why there are no tokens: the text's first fault; of memory nothing is said
abbrev pub RefusesTokens : Text → Stop → Type 0
RefusesTokens text (Refused fault) = HasFault text fault
RefusesTokens text NoMemory = ⊤

-- the token has bytes, and they lie between two places
abbrev pub IsBetween : ℕ → Token → ℕ → Type 0
IsBetween from token to = (from ≤ token.start) × (token.start < token.end) × (token.end ≤ to)

-- the tokens have bytes and stand in order between two places
abbrev pub AreBetween : ℕ → List Token → ℕ → Type 0
AreBetween from [] to = from ≤ to
AreBetween from (token ∷ tokens) to = (from ≤ token.start) × (token.start < token.end)
    × AreBetween token.end tokens to

-- a fault stands at one of n bytes; of memory nothing is said
abbrev pub StopsWithin : ℕ → Stop → Type 0
StopsWithin n (Refused fault) = fault.place < n
StopsWithin n NoMemory = ⊤
