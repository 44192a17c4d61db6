-- Texts that are appended one after another.
use Rattle.scop_syntax.proofs.Common.{◌≡◌, ◌∙◌, ap, sym, List, [], ◌++◌, append_assoc, append-nil}

-- one text more of a whole
pub next_appended : {A : Type 0} (before now t rest whole : List A) → now ≡ before ++ t → before ++ (t ++ rest) ≡ whole
    → now ++ rest ≡ whole
next_appended before now t rest whole is so_far =
    ap (λ x. x ++ rest) is ∙ (append_assoc before t rest ∙ so_far)

-- nothing more of a whole
pub last_appended : {A : Type 0} (now rest whole : List A) → rest ≡ [] → now ++ rest ≡ whole → now ≡ whole
last_appended now rest whole none so_far = sym (append-nil now) ∙ (ap (λ x. now ++ x) (sym none) ∙ so_far)
