-- What the reader's parts answer: why there is no kernel, and which fault a stop tells.
use Rattle.std.specs.Prelude.{List, ⊤}
use Rattle.scop_lexer.specs.Bytes.{Text}
use Rattle.scop_lexer.specs.declared.token.Token.{Token}
use Rattle.scop_grammar.specs.Kernel.{Kernel, Spells}
use Rattle.scop_pass.specs.declared.pass.Stop.{Stop as PassStop}
use Rattle.scop_parser.specs.declared.reader.ReadKernelError.{ReadKernelError}
use Rattle.scop_parser.specs.declared.reader.ReadKernelError.TheVariants.{Refused, NoMemory}
use Rattle.scop_units.specs.Words.{words_of, grammar_tokens}
use Rattle.scop_units.specs.declared.words.Words.{Words}
use Rattle.scop_units.specs.View.{tokens_in}
use Rattle.scop_units.specs.Judging.{faults_of}
use Rattle.scop_pass.specs.Passing.{Tells}
use Rattle.scop_parser.specs.Spelling.{IsText, IsRefusedAs}

-- the text's first fault is told; of memory nothing is said
abbrev pub RefusesText : Text → ReadKernelError → Type 0
RefusesText text (Refused refusal) = IsRefusedAs text refusal
RefusesText text NoMemory = ⊤

-- the stop tells the first fault of a kernel that the tokens spell
pub record TellsKernel (text : Text) (tokens : List Token) (stop : PassStop) : Type 0 where
  pub kernel : Kernel
  pub is_text : IsText text tokens kernel
  pub first : Tells stop (faults_of (words_of text tokens) kernel)

-- the words are those of a kernel of the grammar
abbrev pub IsGrammatical : Words → Type 0
IsGrammatical words = (k : Kernel) × Spells 64 256 (grammar_tokens (tokens_in words)) k
