-- Where the tokens of a text have a name, the text spells one.
use Rattle.scop_syntax.proofs.Common.{◌≡◌, ◌∙◌, sym, ap, subst, ℕ, zero, suc, ◌-◌, List, [], ◌∷◌, take, drop, slice_get}
use Rattle.scop_syntax.proofs.Common.{arith, All, Some, Program}
use Rattle.scop_lexer.specs.Bytes.{Text}
use Rattle.scop_lexer.specs.Words.{IsName}
use Rattle.scop_lexer.specs.Stands.{stands_at}
use Rattle.scop_lexer.specs.Tokens.{IsToken, AreTokens}
use Rattle.scop_lexer.specs.declared.stand.Stand.TheVariants.{Lexeme}
use Rattle.scop_lexer.specs.declared.token.Token.{Token}
use Rattle.scop_expressions.specs.Token.TheVariants as token
use Rattle.scop_grammar.specs.Kernel.{Kernel, kernel_elements, spelled}
use Rattle.scop_units.specs.Words.{Words, grammar_tokens, spelling_of, words_of}
use Rattle.scop_units.specs.Names.{SpellNames, header_names}
use Rattle.scop_units.specs.Programs.{program_spelled}
use Rattle.scop_parser.specs.Spelling.{SpellsProgram}

-- what stands as a name in a text is one by itself, and a kernel's tokens spell its names
pub record NameLaws : Type 0 where
  pub stands : (text : Text) (at v n : ℕ) → stands_at text at ≡ Lexeme token.Name v n
      → IsName (take n (drop at text))
  pub spelled : (words : Words) (k : Kernel) → SpellNames words (spelled (kernel_elements k))
      → All IsName (header_names (program_spelled words k))

token_spells : NameLaws → (text : Text) (t : Token) → IsToken text t → t.kind ≡ token.Name
    → IsName (take (t.end - t.start) (drop t.start text))
token_spells laws text t is named =
    let long : is.0 ≡ t.end - t.start = omega (arith, is.2) in
    subst (λ n. IsName (take n (drop t.start text))) long
    (laws.stands text t.start t.value is.0 (is.1 ∙ ap (λ k. Lexeme k t.value is.0) named))

tokens_spell : NameLaws → (text : Text) (from to : ℕ) (ts : List Token) (at : ℕ) → AreTokens text from ts to
    → slice_get (grammar_tokens ts) at ≡ Some token.Name → IsName (spelling_of text (slice_get ts at))
tokens_spell laws text from to [] at h is = absurd cc
tokens_spell laws text from to (t ∷ ts) zero h is =
    token_spells laws text t h.1 cc
tokens_spell laws text from to (t ∷ ts) (suc at) h is = tokens_spell laws text t.end to ts at h.2 is

-- so the tokens of a text that spells a program spell its kernel's names
pub spells_names : NameLaws → (text : Text) (p : Program) (x : SpellsProgram text p)
    → SpellNames (words_of text x.tokens) (spelled (kernel_elements x.kernel))
spells_names laws text p x =
    let words = words_of text x.tokens in
    let spell : SpellNames words (grammar_tokens x.tokens) =
    λ at is. tokens_spell laws text 0 _ x.tokens at x.is_text.has is in
    subst (SpellNames words) x.is_text.spells.tokens spell

-- and the names of the program are names by themselves
pub names_are_words : NameLaws → (text : Text) (p : Program) → SpellsProgram text p → All IsName (header_names p)
names_are_words laws text p x =
    subst (λ q. All IsName (header_names q)) (sym x.stands)
    (laws.spelled (words_of text x.tokens) x.kernel (spells_names laws text p x))
