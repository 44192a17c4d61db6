-- What data says is one thing.
use Rattle.scop_syntax.proofs.Common.{◌≡◌, ◌⊎◌, inl, inr, refl, ◌∙◌, ap, ℕ, List, suc, ◌+◌, [], ◌∷◌, ◌++◌, length}
use Rattle.scop_syntax.proofs.Common.{arith, Program, Result, Ok, Err}
use Rattle.scop_lexer.specs.Bytes.{Text}
use Rattle.data_lines.specs.Sheets.{Sheet}
use Rattle.data_lines.specs.Entries.{with_line, with_lines}
use Rattle.data_lines.specs.declared.refusal.DataRefusal.{DataRefusal}
use Rattle.data_text.specs.Cases.{Said, ok_said}

-- an answer is a case or a refusal
pub one_of_both : (answer : Result Said DataRefusal)
    → ((said : Said) × (answer ≡ ok_said said.params said.contents)) ⊎
    ((refusal : DataRefusal) × (answer ≡ Err refusal))
one_of_both (Ok said) = inl (said, refl)
one_of_both (Err refusal) = inr (refusal, refl)

-- a front of lines is judged before those behind it
pub in_order : (program : Program) (k : ℕ) (sheet : Result Sheet DataRefusal) (front back : List Text)
    → with_lines program k sheet (front ++ back) ≡ with_lines program (k + length front)
    (with_lines program k sheet front) back
in_order program k (Err refusal) front back = refl
in_order program k (Ok sheet) [] back = let same : k ≡ k + 0 = omega arith in
    ap (λ n. with_lines program n (Ok sheet) back) same
in_order program k (Ok sheet) (text ∷ front) back =
    let same : (k + 1) + length front ≡ k + suc (length front) = omega arith in
    in_order program (k + 1) (with_line program sheet k text) front back
    ∙ ap (λ n. with_lines program n (with_lines program (k + 1) (with_line program sheet k text) front) back) same

-- a refusal stands, whatever lines are behind it
pub refusal_stands : (program : Program) (k : ℕ) (sheet : Result Sheet DataRefusal) (front back : List Text)
    (refusal : DataRefusal)
    → with_lines program k sheet front ≡ Err refusal → with_lines program k sheet (front ++ back) ≡ Err refusal
refusal_stands program k sheet front back refusal refused =
    in_order program k sheet front back ∙ ap (λ s. with_lines program (k + length front) s back) refused
