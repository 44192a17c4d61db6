-- The lines of a text, and where an input is cut.
use Rattle.scop_syntax.proofs.Common.{◌≡◌, ◌≢◌, ◌∙◌, sym, ap, refl, ℕ, zero, suc, ◌+◌, ◌<◌, ◌==◌, ◌⊎◌, inl, inr, true}
use Rattle.scop_syntax.proofs.Common.{false, List, [], ◌∷◌, ◌++◌, length, take, drop, get_or, if◌then◌else◌, arith}
use Rattle.scop_syntax.proofs.Common.{subst, append_assoc, drop-drop}
use Rattle.std.proofs.Common.{ne_eqb}
use Rattle.std.proofs.Math.Seq.{take-add}
use Rattle.polypar.specs.Cut.{before_lines, whole_lines, is_cut, before_cut, joined, after_cut}

-- the lines joined are the byte before them and the lines joined
joined-before_lines : (byte : ℕ) (lines : List (List ℕ)) → joined (before_lines byte lines) ≡ byte ∷ joined lines
joined-before_lines byte [] = refl
joined-before_lines byte (line ∷ lines) = elim (byte == 10) as
    (λ b. joined (if b then (byte ∷ []) ∷ line ∷ lines else (byte ∷ line) ∷ lines) ≡ byte ∷ joined (line ∷ lines))
    [ true ↦ refl | false ↦ refl ]

-- the lines of a text joined are the text
pub joined-whole_lines : (text : List ℕ) → joined (whole_lines text) ≡ text
joined-whole_lines [] = refl
joined-whole_lines (byte ∷ text) =
    joined-before_lines byte (whole_lines text) ∙ ap (λ t. byte ∷ t) (joined-whole_lines text)

-- a line feed ends a line of its own
line_feed_first : (lines : List (List ℕ)) → before_lines 10 lines ≡ (10 ∷ []) ∷ lines
line_feed_first [] = refl
line_feed_first (line ∷ lines) = refl

-- another byte begins the line behind it
other_first : (byte : ℕ) (line : List ℕ) (lines : List (List ℕ)) → byte ≢ 10
    → before_lines byte (line ∷ lines) ≡ (byte ∷ line) ∷ lines
other_first byte line lines other = rw (ne_eqb byte 10 other) refl

-- the first n bytes are the first line: no line feed stands before the last of them, which is one or ends the text
pub first_line : (text : List ℕ) (n : ℕ) → n < length text → ((k : ℕ) → k < n → get_or text k 0 ≢ 10)
    → ((get_or text n 0 ≡ 10) ⊎ (n + 1 ≡ length text))
    → whole_lines text ≡ take (n + 1) text ∷ whole_lines (drop (n + 1) text)
first_line [] n within before last = absurd (omega arith)
first_line (byte ∷ text) zero within before (inl feed) =
    subst (λ b. before_lines b (whole_lines text) ≡ (b ∷ []) ∷ whole_lines text) (sym feed)
    (line_feed_first (whole_lines text))
first_line (byte ∷ []) zero within before (inr end) = refl
first_line (byte ∷ (other ∷ text)) zero within before (inr end) = absurd (omega arith)
first_line (byte ∷ text) (suc n) within before last =
    let next : suc n + 1 ≡ suc (n + 1) = omega arith in
    let later : (get_or text n 0 ≡ 10) ⊎ (n + 1 ≡ length text) =
    elim last [ inl feed ↦ inl feed | inr end ↦ inr (omega arith) ] in
    let rest = first_line text n (omega arith) (λ k h. before (suc k) (omega arith)) later in
    rw next (ap (before_lines byte) rest ∙ other_first byte (take (n + 1) text) (whole_lines (drop (n + 1) text))
    (before 0 (omega arith)))

-- the parts of an input whose lines before a place do not cut
pub record IsCutBehind (input : List ℕ) (at : ℕ) : Type 0 where
  pub kernel : before_cut (whole_lines input) ≡ take at input ++ before_cut (whole_lines (drop at input))
  pub case : after_cut (whole_lines input) ≡ after_cut (whole_lines (drop at input))

-- a line that does not cut
pub cut_behind_line : (input : List ℕ) (at n : ℕ) → IsCutBehind input at
    → whole_lines (drop at input) ≡ take n (drop at input) ∷ whole_lines (drop n (drop at input))
    → is_cut (take n (drop at input)) ≡ false → IsCutBehind input (at + n)
cut_behind_line input at n behind first stays =
    let line = take n (drop at input) in
    let rest = drop n (drop at input) in
    let kernel : before_cut (whole_lines (drop at input)) ≡ line ++ before_cut (whole_lines rest) =
    ap before_cut first ∙ rw stays refl in
    let case : after_cut (whole_lines (drop at input)) ≡ after_cut (whole_lines rest) =
    ap after_cut first ∙ rw stays refl in
    record {
      kernel = behind.kernel ∙ (ap (λ t. take at input ++ t) kernel
          ∙ (sym (append_assoc (take at input) line (before_cut (whole_lines rest)))
          ∙ (ap (λ t. t ++ before_cut (whole_lines rest)) (sym (take-add at n input))
          ∙ ap (λ t. take (at + n) input ++ before_cut (whole_lines t)) (drop-drop n at input))));
      case = behind.case ∙ (case ∙ ap (λ t. after_cut (whole_lines t)) (drop-drop n at input));
    }

-- a line that cuts: the data begins behind it
pub case_behind : (input : List ℕ) (at n : ℕ) → IsCutBehind input at
    → whole_lines (drop at input) ≡ take n (drop at input) ∷ whole_lines (drop n (drop at input))
    → is_cut (take n (drop at input)) ≡ true → drop n (drop at input) ≡ after_cut (whole_lines input)
case_behind input at n behind first cuts =
    let rest : after_cut (whole_lines (drop at input)) ≡ joined (whole_lines (drop n (drop at input))) =
    ap after_cut first ∙ rw cuts refl in
    sym (behind.case ∙ (rest ∙ joined-whole_lines (drop n (drop at input))))
