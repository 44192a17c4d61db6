-- The texts of terms and of steps, and terms with new numbers, one more.
use Rattle.scop_syntax.proofs.Common.{◌≡◌, ◌+◌, ◌<◌, ◌++◌, ℕ, List, refl, ap, ◌∙◌, add-one, drop-cons, drop, get_or}
use Rattle.scop_syntax.proofs.Common.{length, map, codes, [], ◌∷◌, get_or_default, map_end, map_more, subst, ◌≤◌}
use Rattle.scop_lexer.specs.Bytes.{Text}
use Rattle.plan_check.specs.Derivations.{step_of}
use Rattle.plan_check.specs.Printed.{step_text, terms_text}
use Rattle.plan_check.specs.declared.lines.Line.{Line}
use Rattle.plan_check.specs.declared.lines.Term.{Term}
use Rattle.plan_certificate.specs.Certificates.{step_line_of, steps_text, term_line_of}
use Rattle.plan_certificate.specs.steps.Numbers.{term_in}
use Rattle.plan_certificate.specs.steps.Numerals.{term_text}

-- the term at a place, and those behind it
pub terms_next : (terms : List Term) (at : ℕ) (d : Term) → at < length terms
    → term_text (term_line_of (get_or terms at d)) ++ terms_text (map term_line_of (drop (at + 1) terms))
    ≡ terms_text (map term_line_of (drop at terms))
terms_next terms at d less = rw (add-one, drop-cons terms at d less) refl

-- the step at a place, and those behind it
pub steps_next : (lines : List Line) (at : ℕ) (line : Line) → at < length lines → line ≡ get_or lines at line
    → (step_text (step_line_of (step_of line)) ++ codes "\n") ++ steps_text (map step_of (drop (at + 1) lines))
    ≡ steps_text (map step_of (drop at lines))
steps_next lines at line less is =
    let Lines : Line → Text = λ l. (step_text (step_line_of (step_of l)) ++ codes "\n")
    ++ steps_text (map step_of (drop (at + 1) lines)) in
    ap Lines is ∙ (rw (add-one, drop-cons lines at line less) refl)

-- a term more with its row's new number
pub term_more : (at : ℕ → ℕ) (own terms : List Term) (i : ℕ) (d y : Term) (done next whole : List Term) → own ≡ terms
    → i < length own → y ≡ term_in at (get_or own i d) → next ≡ done ++ y ∷ []
    → done ++ map (term_in at) (drop i terms) ≡ whole → next ++ map (term_in at) (drop (i + 1) terms) ≡ whole
term_more at own terms i d y done next whole is inside made =
    let less = subst (λ (ts : List Term). i < length ts) is inside in
    map_more (term_in at) terms i (get_or terms i d) y done next whole less (get_or_default terms i d _ less)
    (made ∙ ap (λ (ts : List Term). term_in at (get_or ts i d)) is)

pub term_end : (at : ℕ → ℕ) (own terms : List Term) (i : ℕ) (done whole : List Term) → own ≡ terms → length own ≤ i
    → done ++ map (term_in at) (drop i terms) ≡ whole → done ≡ whole
term_end at own terms i done whole is past =
    map_end (term_in at) terms i done whole (subst (λ (ts : List Term). length ts ≤ i) is past)
