use Rattle.scop_syntax.proofs.Common.{[], ◌∷◌, ◌≤◌, ℕ, refl, arith, All, All-nil, All-cons}
use Rattle.scop_units.specs.Scopes.{no_scope}
use Rattle.text_callers.specs.Worked.{below_seven, head, odd, odd_cell, product, sum}
use Rattle.text_callers.proofs.Product.{in_scope, no_comma}
use Rattle.text_callers.proofs.worked_loop.a_worked_loop_has_no_fault.Goals as goal

-- the array has a dimension
ranked : All (λ (r : ℕ). 1 ≤ r) (1 ∷ [])
ranked = All-cons (λ (r : ℕ). 1 ≤ r) 1 [] (omega arith) (All-nil (λ (r : ℕ). 1 ≤ r))

pub returns-clause-affine : goal.returns-clause-affine
returns-clause-affine c =
    let within = c.faultless_texts_lie_within_the_limits.ensures.affine 1 odd refl in
    c.texts_within_the_limits_have_no_fault.ensures.affine 1 odd within

pub returns-clause-condition : goal.returns-clause-condition
returns-clause-condition c =
    let within = c.faultless_texts_lie_within_the_limits.ensures.condition 1 below_seven refl in
    c.texts_within_the_limits_have_no_fault.ensures.condition 1 below_seven within

pub returns-clause-place : goal.returns-clause-place
returns-clause-place c =
    let within = c.faultless_texts_lie_within_the_limits.ensures.place 1 odd_cell tt refl in
    c.texts_within_the_limits_have_no_fault.ensures.place 1 odd_cell within

pub returns-clause-value : goal.returns-clause-value
returns-clause-value c =
    let lie = c.faultless_texts_lie_within_the_limits.ensures.value (1 ∷ []) 1 product ranked in
    c.texts_within_the_limits_have_no_fault.ensures.value 1 product (lie in_scope no_comma refl)

pub returns-clause-statement : goal.returns-clause-statement
returns-clause-statement c =
    let lie = c.faultless_texts_lie_within_the_limits.ensures.statement (1 ∷ []) 1 sum ranked in
    c.texts_within_the_limits_have_no_fault.ensures.statement 1 sum (lie in_scope no_comma refl)

pub returns-clause-loops : goal.returns-clause-loops
returns-clause-loops c =
    let within = c.faultless_texts_lie_within_the_limits.ensures.loops no_scope head refl in
    c.texts_within_the_limits_have_no_fault.ensures.loops no_scope head within
