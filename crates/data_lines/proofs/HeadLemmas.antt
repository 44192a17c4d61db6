-- The name that a text begins with is its first token.
use Rattle.scop_syntax.proofs.Common.{◌≡◌, ◌∙◌, sym, ap, refl, ℕ, zero, suc, ◌+◌, List, [], ◌∷◌, length, ◌==◌}
use Rattle.scop_syntax.proofs.Common.{if◌then◌else◌, arith}
use Rattle.std.proofs.Common.{ne_eqb}
use Rattle.scop_lexer.specs.Bytes.{Text}
use Rattle.scop_lexer.specs.Stands.{stands_at}
use Rattle.scop_lexer.specs.Tokens.{AreGaps, IsGap, IsNext, IsNextFault}
use Rattle.scop_lexer.specs.declared.token.Token.{Token}
use Rattle.scop_lexer.specs.declared.token.Fault.{Fault}
use Rattle.scop_lexer.specs.Kind.{Token as Kind}
use Rattle.scop_lexer.specs.declared.stand.Stand.TheVariants.{Lexeme}
use Rattle.data_lines.specs.Heads.{name_bytes, name_len}

token_first : (text : Text) (kind : Kind) (value start end n : ℕ) (lengths : List ℕ) → AreGaps text 0 lengths start
    → stands_at text start ≡ Lexeme kind value n → end ≡ start + n
    → (if start == 0 then name_bytes (Lexeme kind value end) else 0) ≡ name_len text
token_first text kind value zero end n lengths gaps found ends =
    let same : end ≡ n = omega (arith, ends) in
    ap (λ k. name_bytes (Lexeme kind value k)) same ∙ sym (ap name_bytes found)
token_first text kind value (suc start) end n [] gaps found ends = absurd (omega (arith, gaps))
token_first text kind value (suc start) end n (m ∷ ms) gaps found ends =
    rw (ne_eqb (suc start) 0 (λ none. absurd (omega (arith, none)))) (sym (ap name_bytes gaps.0))

-- a token is the next: it tells the name
pub name_of_token : (text : Text) (token : Token) → IsNext text 0 token
    → (if token.start == 0 then name_bytes (Lexeme token.kind token.value token.end) else 0) ≡ name_len text
name_of_token text token next = token_first text token.kind token.value token.start token.end next.1.0 next.0.0 next.0.1
    next.1.1 next.1.2

-- no name stands where a gap does, nor where a fault does
gap_first : (text : Text) (to : ℕ) (lengths : List ℕ) → AreGaps text 0 lengths to → (to ≡ 0 → name_len text ≡ 0)
    → 0 ≡ name_len text
gap_first text to [] gaps h = sym (h (sym gaps))
gap_first text to (m ∷ ms) gaps h = sym (ap name_bytes gaps.0)

pub no_name_of_fault : (text : Text) (fault : Fault) → IsNextFault text 0 fault → 0 ≡ name_len text
no_name_of_fault text fault next =
    gap_first text next.0 next.1.0 next.1.1 (λ none. ap (λ at. name_bytes (stands_at text at)) (sym none)
    ∙ ap name_bytes next.2.1)

-- nothing begins with no name
no_text : (text : Text) → length text ≡ 0 → name_len text ≡ 0
unfolding stands_at
no_text [] none = refl
no_text (b ∷ bs) none = absurd (omega (arith, none))

pub no_name_of_gap : (text : Text) → IsGap text 0 (length text) → 0 ≡ name_len text
no_name_of_gap text gap = gap_first text (length text) gap.0 gap.1 (no_text text)
