use Rattle.scop_syntax.proofs.Common.{rules, ℕ, ◌∷◌, [], All, subst, ◌<◌, ◌≤◌, arith}
use Rattle.text_callers.proofs.arithmetic.faultless_texts_have_meanings.Goals as goal

pub returns-clause-affine : goal.returns-clause-affine
returns-clause-affine c = c.faultless_texts_have_meanings.ensures.affine 0

pub returns-clause-condition : goal.returns-clause-condition
returns-clause-condition c = c.faultless_texts_have_meanings.ensures.condition 0

pub returns-clause-place : goal.returns-clause-place
returns-clause-place c = c.faultless_texts_have_meanings.ensures.place 0

pub returns-clause-value : goal.returns-clause-value
returns-clause-value c = λ f.
    let none : All (λ (r : ℕ). 1 ≤ r) [] = search rules in
    c.faultless_texts_have_meanings.ensures.value [] 0 f none

pub returns-clause-extents : goal.returns-clause-extents
returns-clause-extents c = λ words s at f none.
    c.faultless_texts_have_meanings.ensures.extents words s at (f ∷ []) none 0 f (omega arith)

pub returns-clause-statement : goal.returns-clause-statement
returns-clause-statement c = λ s scope commas none.
    let ranks : All (λ (r : ℕ). 1 ≤ r) [] = search rules in
    (c.faultless_texts_have_meanings.ensures.statement [] 0 s ranks scope commas none).0

pub returns-clause-loops : goal.returns-clause-loops
returns-clause-loops c = λ s h none. (c.faultless_texts_have_meanings.ensures.loops s h none).0

pub returns-clause-names : goal.returns-clause-names
returns-clause-names c = λ s w k none means.
    let below = subst (λ n. k < n) none (c.faultless_texts_have_meanings.ensures.names s w k means) in
    omega (arith, below)
