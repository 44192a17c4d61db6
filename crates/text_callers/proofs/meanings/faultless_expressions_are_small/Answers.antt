use Rattle.scop_syntax.proofs.Common.{false}
use Rattle.scop_roles.specs.declared.formula.Meaning.TheVariants as meaning
use Rattle.scop_roles.specs.Formula.{constant, index, name}
use Rattle.text_callers.specs.Worked.{decimal}
use Rattle.text_callers.proofs.meanings.faultless_expressions_are_small.Goals as goal

pub returns-clause-affine : goal.returns-clause-affine
returns-clause-affine c = λ v none.
    c.faultless_texts_lie_within_the_limits.ensures.affine 0 (constant decimal v 0) none

pub returns-clause-condition : goal.returns-clause-condition
returns-clause-condition c = λ v none.
    c.faultless_texts_lie_within_the_limits.ensures.condition 0 (constant decimal v 0) none

pub returns-clause-place : goal.returns-clause-place
returns-clause-place c = λ i none.
    (c.faultless_texts_lie_within_the_limits.ensures.place 0 (index (name (meaning.Array 0 1 false) 0) i) tt none).1

pub returns-clause-value : goal.returns-clause-value
returns-clause-value c = λ ranks r narrow some known none.
    c.faultless_texts_lie_within_the_limits.ensures.value ranks 0 (name (meaning.Array 0 r narrow) 0) some known tt none

pub returns-clause-statement : goal.returns-clause-statement
returns-clause-statement c = λ ranks s some scope plain none.
    (c.faultless_texts_lie_within_the_limits.ensures.statement ranks 0 s some scope plain none).cell

pub returns-clause-loops : goal.returns-clause-loops
returns-clause-loops c = λ s h none. (c.faultless_texts_lie_within_the_limits.ensures.loops s h none).few

pub returns-clause-extents : goal.returns-clause-extents
returns-clause-extents c = c.faultless_texts_lie_within_the_limits.ensures.extents 0
