-- Terms that are read one by one.
use Rattle.scop_syntax.proofs.Common.{◌≡◌, ◌∙◌, ap, sym, ℕ, ◌+◌, ◌-◌, ◌<◌, ◌≤◌, List, [], ◌∷◌, ◌++◌, length, arith}
use Rattle.scop_syntax.proofs.Common.{Option, Some, None}
use Rattle.scop_lexer.specs.Bytes.{Text}
use Rattle.form_text.specs.Reading.{when}
use Rattle.schedule_lines.specs.Reading.{with_first}
use Rattle.schedule_lines.proofs.ReadLists.{joined, entry_more, entry_none, joined_end, ahead, past}
use Rattle.plan_check.specs.Text.{TermLine, term_in, terms_in}

terms_on : (n at : ℕ) (text : Text) → at < n → 0 < length text
    → terms_in (n - at) text ≡ when (term_in text) (λ t. with_first t.0 (terms_in (n - (at + 1)) t.1))
terms_on n at [] h some = absurd (omega (arith, some))
terms_on n at (b ∷ bs) h some = ap (λ k. terms_in k (b ∷ bs)) (ahead n at h)

pub terms_more : (n at : ℕ) (x : TermLine) (text rest : Text) (xs more : List TermLine)
    (whole : Option (List TermLine × Text)) → at < n → 0 < length text → Some (x, rest) ≡ term_in text
    → more ≡ xs ++ x ∷ [] → joined xs (terms_in (n - at) text) ≡ whole
    → joined more (terms_in (n - (at + 1)) rest) ≡ whole
terms_more n at x text rest xs more whole h some read pushed so_far =
    entry_more xs more x rest (term_in text) (terms_in (n - (at + 1))) (terms_in (n - at) text) whole
    (terms_on n at text h some) read pushed so_far

pub terms_stop : (n at : ℕ) (text : Text) (xs : List TermLine) (whole : Option (List TermLine × Text)) → at < n
    → 0 < length text → None ≡ term_in text → joined xs (terms_in (n - at) text) ≡ whole → None ≡ whole
terms_stop n at text xs whole h some read so_far =
    entry_none xs (term_in text) (terms_in (n - (at + 1))) (terms_in (n - at) text) whole
    (terms_on n at text h some) read so_far

pub terms_end : (n at : ℕ) (text : Text) (xs : List TermLine) (whole : Option (List TermLine × Text)) → at < n
    → length text ≡ 0 → joined xs (terms_in (n - at) text) ≡ whole → Some (xs, []) ≡ whole
terms_end n at [] xs whole h none so_far =
    joined_end xs [] ∙ (sym (ap (λ k. joined xs (terms_in k [])) (ahead n at h)) ∙ so_far)
terms_end n at (b ∷ bs) xs whole h none so_far = absurd (omega (arith, none))

pub terms_spent : (n at : ℕ) (text : Text) (xs : List TermLine) (whole : Option (List TermLine × Text)) → n ≤ at
    → joined xs (terms_in (n - at) text) ≡ whole → None ≡ whole
terms_spent n at text xs whole h so_far = sym (ap (λ k. joined xs (terms_in k text)) (past n at h)) ∙ so_far

pub ruleset reading_terms = (terms_more, terms_stop, terms_end, terms_spent)
