-- The tokens of a text as the grammar sees them, and what is looked up by a token's place: its bytes, and the number
-- that a constant is.
use Rattle.std.specs.Prelude.{ℕ, ◌-◌, ◌<◌, ◌^◌, List, [], length, map, take, drop, slice_get, Option, Some}
use Rattle.std.specs.Prelude.{None}
use Rattle.scop_lexer.specs.Bytes.{Text}
use Rattle.scop_lexer.specs.declared.token.Token.{Token as Lexeme}
use Rattle.scop_expressions.specs.Token.{Token}

-- what tokens are in the grammar
abbrev pub grammar_tokens : List Lexeme → List Token
grammar_tokens tokens = map (λ (t : Lexeme). t.kind) tokens

-- what stands where, by the places of tokens
pub record Words : Type 0 where
  -- the bytes of a token
  pub spelling : ℕ → Text
  -- the number that a constant is
  pub worth : ℕ → ℕ

-- the bytes of a token; none where there is no token
abbrev pub spelling_of : Text → Option Lexeme → Text
spelling_of text (Some t) = take (t.end - t.start) (drop t.start text)
spelling_of text None = []

-- the number that a token is; 0 where there is no token
abbrev pub worth_of : Option Lexeme → ℕ
worth_of (Some t) = t.value
worth_of None = 0

-- the words of a text with its tokens
abbrev pub words_of : Text → List Lexeme → Words
words_of text tokens =
    record {
      spelling = λ at. spelling_of text (slice_get tokens at);
      worth = λ at. worth_of (slice_get tokens at);
    }

-- the byte where a token begins; n where there is no token
abbrev pub start_or : ℕ → Option Lexeme → ℕ
start_or n (Some t) = t.start
start_or n None = n

-- the byte where the token at a place begins; behind the last the text's end
abbrev pub start_of : Text → List Lexeme → ℕ → ℕ
start_of text tokens at = start_or (length text) (slice_get tokens at)

-- constants have 64 bits
abbrev pub HasWorth : Words → Type 0
HasWorth words = (at : ℕ) → words.worth at < 2 ^ 64
