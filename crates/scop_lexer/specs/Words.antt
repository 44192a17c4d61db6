-- Words: keywords, names of types and names (C17 6.4.1 and 6.4.2.1).
use Rattle.std.specs.Prelude.{◌≡◌, true, nat_le, if◌then◌else◌, List, [], ◌∷◌, length, get_or, codes}
use Rattle.std.specs.List.{list_all, list_any}
use Rattle.std.specs.Str.{bytes_eq}
use Rattle.scop_lexer.specs.Bytes.{Text, is_letter, is_word_byte}
use Rattle.scop_tokens.specs.declared.Outside.TheVariants.{Void, For, If, Int64, Keyword}
use Rattle.scop_tokens.specs.declared.Token.{Token as Kind}
use Rattle.scop_tokens.specs.declared.Token.TheVariants.{Outside, Unsigned, Name}
use Rattle.scop_tokens.specs.declared.Width.TheVariants.{Narrow, Full}
use Rattle.scop_lexer.specs.declared.token.FaultKind.TheVariants.{Character}
use Rattle.scop_lexer.specs.declared.stand.Stand.{Stand}
use Rattle.scop_lexer.specs.declared.stand.Stand.TheVariants.{Lexeme, Wrong}

-- the keywords of C17 6.4.1 that no kernel has
abbrev pub other_keywords : List Text
other_keywords = codes "auto" ∷ codes "break" ∷ codes "case" ∷ codes "char" ∷ codes "const" ∷ codes "continue"
    ∷ codes "default" ∷ codes "do" ∷ codes "double" ∷ codes "else" ∷ codes "enum" ∷ codes "extern" ∷ codes "float"
    ∷ codes "goto" ∷ codes "inline" ∷ codes "int" ∷ codes "long" ∷ codes "register" ∷ codes "restrict"
    ∷ codes "return" ∷ codes "short" ∷ codes "signed" ∷ codes "sizeof" ∷ codes "static" ∷ codes "struct"
    ∷ codes "switch" ∷ codes "typedef" ∷ codes "union" ∷ codes "unsigned" ∷ codes "volatile" ∷ codes "while"
    ∷ codes "_Alignas" ∷ codes "_Alignof" ∷ codes "_Atomic" ∷ codes "_Bool" ∷ codes "_Complex" ∷ codes "_Generic"
    ∷ codes "_Imaginary" ∷ codes "_Noreturn" ∷ codes "_Static_assert" ∷ codes "_Thread_local" ∷ []

-- the kind of a word that begins with a letter
abbrev pub kind_of_word : Text → Kind
kind_of_word word = if bytes_eq word (codes "void") then Outside Void
    else if bytes_eq word (codes "for") then Outside For
    else if bytes_eq word (codes "if") then Outside If
    else if bytes_eq word (codes "int64_t") then Outside Int64
    else if bytes_eq word (codes "uint64_t") then Unsigned Full
    else if bytes_eq word (codes "uint32_t") then Unsigned Narrow
    else if list_any (λ keyword. bytes_eq keyword word) other_keywords then Outside Keyword
    else Name

-- a word that begins with a letter; its 64th byte is wrong (C17 5.2.4.1 asks for 63)
abbrev pub word_stands : Text → Stand
word_stands word = if nat_le (length word) 63 then Lexeme (kind_of_word word) 0 (length word) else Wrong Character 63

-- a name, from its first byte, a letter or `_`, to its last
pub record IsName (name : Text) : Type 0 where
  pub letter : is_letter (get_or name 0 0) ≡ true
  pub bytes : list_all is_word_byte name ≡ true
  pub word : word_stands name ≡ Lexeme Name 0 (length name)
