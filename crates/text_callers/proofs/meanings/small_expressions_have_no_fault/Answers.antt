use Rattle.scop_syntax.proofs.Common.{◌≡◌, refl, sym, subst, arith, false, ◌∷◌, [], All-nil, All-cons}
use Rattle.scop_roles.specs.declared.formula.Meaning.TheVariants as meaning
use Rattle.scop_roles.specs.Faults.{rank}
use Rattle.scop_roles.specs.Formula.{constant, index, name, meaning_of, subscripts}
use Rattle.scop_arithmetic.specs.Arithmetic.{HasStored, HasWord, cell_class}
use Rattle.scop_arithmetic.specs.Limits.{IsLinear, IsLinearTruth, IsLinearPlace, IsFitWord}
use Rattle.text_callers.specs.Worked.{decimal}
use Rattle.text_callers.proofs.meanings.small_expressions_have_no_fault.Goals as goal

pub returns-clause-affine : goal.returns-clause-affine
returns-clause-affine c =
    c.texts_within_the_limits_have_no_fault.ensures.affine 0 (constant decimal 7 0) (omega arith)

pub returns-clause-condition : goal.returns-clause-condition
returns-clause-condition c = λ f is.
    c.texts_within_the_limits_have_no_fault.ensures.condition 0 f
    (subst (λ g. IsLinearTruth 0 g) (sym is) (omega arith, omega arith))

pub returns-clause-place : goal.returns-clause-place
returns-clause-place c =
    c.texts_within_the_limits_have_no_fault.ensures.place 0
    (index (name (meaning.Array 0 1 false) 0) (constant decimal 7 2)) (tt, omega arith)

pub returns-clause-value : goal.returns-clause-value
returns-clause-value c = c.texts_within_the_limits_have_no_fault.ensures.value 0 (constant decimal 7 0) tt

pub returns-clause-statement : goal.returns-clause-statement
returns-clause-statement c = λ s at set to.
    c.texts_within_the_limits_have_no_fault.ensures.statement 0 s (record {
      cell = subst (λ f. IsLinearPlace 0 f) (sym at) (tt, omega arith);
      rank = subst (λ f. rank (meaning_of f) ≡ subscripts f) (sym at) refl;
      value = subst (λ f. IsFitWord 0 f) (sym to) tt;
      stores = subst (λ a. HasStored (cell_class s.cell) a s.value) (sym set) (subst (λ f. HasWord f) (sym to) tt);
    })

pub returns-clause-loops : goal.returns-clause-loops
returns-clause-loops c = c.texts_within_the_limits_have_no_fault.ensures.loops

pub returns-clause-extents : goal.returns-clause-extents
returns-clause-extents c =
    c.texts_within_the_limits_have_no_fault.ensures.extents 0 (constant decimal 7 0 ∷ [])
    (All-cons (IsLinear 0) (constant decimal 7 0) [] (omega arith) (All-nil (IsLinear 0)))
