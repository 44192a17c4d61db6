-- Which program a text spells, and which fault it is refused for.
use Rattle.std.specs.Prelude.{◌≡◌, ◌⊎◌, ℕ, List, [], take, Some}
use Rattle.scop_syntax.specs.Tree.{Program}
use Rattle.scop_lexer.specs.Bytes.{Text}
use Rattle.scop_lexer.specs.Lines.{line_behind, column_behind}
use Rattle.scop_lexer.specs.Tokens.{HasTokens, HasFault}
use Rattle.scop_lexer.specs.declared.token.Token.{Token}
use Rattle.scop_lexer.specs.declared.token.Fault.{Fault as TokenFault}
use Rattle.scop_lexer.specs.declared.token.FaultKind.{FaultKind}
use Rattle.scop_lexer.specs.declared.token.FaultKind.TheVariants as lexical
use Rattle.scop_grammar.specs.Kernel.{Kernel, Spells}
use Rattle.scop_expressions.specs.Token.{Token as GrammarToken}
use Rattle.scop_grammar.specs.Promises.{IsMisplaced, IsUnended, IsTooDeep}
use Rattle.scop_roles.specs.declared.kinds.Kind.{Kind as RefusalKind}
use Rattle.scop_roles.specs.declared.kinds.Kind.TheVariants as kind
use Rattle.scop_roles.specs.declared.kinds.Fault.{Fault}
use Rattle.scop_roles.specs.Faults.{first}
use Rattle.scop_parser.specs.declared.refusal.Refusal.{Refusal}
use Rattle.scop_units.specs.Words.{words_of, grammar_tokens, start_of}
use Rattle.scop_units.specs.Judging.{faults_of}
use Rattle.scop_units.specs.Programs.{program_spelled}

-- the tokens of the text are a kernel of the grammar, with at most 64 brackets open and 256 operators
pub record IsText (text : Text) (tokens : List Token) (kernel : Kernel) : Type 0 where
  pub has : HasTokens text tokens
  pub spells : Spells 64 256 (grammar_tokens tokens) kernel

-- the text is a kernel without faults that stands for the program
pub record SpellsProgram (text : Text) (program : Program) : Type 0 where
  pub tokens : List Token
  pub kernel : Kernel
  pub is_text : IsText text tokens kernel
  pub faultless : faults_of (words_of text tokens) kernel ≡ []
  pub stands : program ≡ program_spelled (words_of text tokens) kernel

-- the kind of a refusal for a fault of the tokens
abbrev pub token_kind : FaultKind → RefusalKind
token_kind lexical.Character = kind.Character
token_kind lexical.Directive = kind.Directive
token_kind lexical.LiteralRange = kind.LiteralRange
token_kind lexical.UnendedComment = kind.UnendedComment

-- the first fault of the text's tokens
pub record HasTokenFault (text : Text) (k : RefusalKind) (at : ℕ) : Type 0 where
  pub fault : TokenFault
  pub has : HasFault text fault
  pub kind : k ≡ token_kind fault.kind
  pub place : at ≡ fault.place

-- the first fault of the grammar, at a token's number
abbrev pub IsGrammarFault : List GrammarToken → RefusalKind → ℕ → Type 0
IsGrammarFault ts k at = ((k ≡ kind.Token) × IsMisplaced 64 256 ts at)
    ⊎ (((k ≡ kind.Unended) × IsUnended 64 256 ts at) ⊎ ((k ≡ kind.Depth) × IsTooDeep 64 256 ts at))

-- the first fault of the grammar, at the byte where its token begins
pub record HasGrammarFault (text : Text) (k : RefusalKind) (at : ℕ) : Type 0 where
  pub tokens : List Token
  pub has : HasTokens text tokens
  pub number : ℕ
  pub fault : IsGrammarFault (grammar_tokens tokens) k number
  pub place : at ≡ start_of text tokens number

-- the first fault of a kernel of the grammar
pub record HasKernelFault (text : Text) (k : RefusalKind) (at : ℕ) : Type 0 where
  pub tokens : List Token
  pub kernel : Kernel
  pub is_text : IsText text tokens kernel
  pub fault : Fault
  pub first : first (faults_of (words_of text tokens) kernel) ≡ Some fault
  pub kind : k ≡ fault.kind
  pub place : at ≡ start_of text tokens fault.place

-- the first fault of a text, at a byte
abbrev pub IsFirstFault : Text → RefusalKind → ℕ → Type 0
IsFirstFault text k at = HasTokenFault text k at ⊎ (HasGrammarFault text k at ⊎ HasKernelFault text k at)

-- the refusal tells the first fault, with the line and the column of its byte
pub record IsRefusedAs (text : Text) (refusal : Refusal) : Type 0 where
  pub at : ℕ
  pub fault : IsFirstFault text refusal.kind at
  pub line : refusal.line ≡ line_behind (take at text)
  pub column : refusal.column ≡ column_behind (take at text)
