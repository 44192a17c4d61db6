use Rattle.scop_arithmetic.proofs.MeaningfulExpressions.{linear_none, truth_none, place_none, word_none, stored_none}
use Rattle.scop_arithmetic.proofs.LoopHeads.{loop_none, extents_none}
use Rattle.scop_arithmetic.proofs.laws.texts_within_the_limits_have_no_fault.Goals as goal

pub returns-clause-affine : goal.returns-clause-affine
returns-clause-affine c n f h = linear_none c.faultless_formulas_are_within_limits.ensures.affine n f h

pub returns-clause-condition : goal.returns-clause-condition
returns-clause-condition c n f h = truth_none c.faultless_formulas_are_within_limits.ensures.affine n f h

pub returns-clause-place : goal.returns-clause-place
returns-clause-place c n f h = place_none c.faultless_formulas_are_within_limits.ensures.affine n f h

pub returns-clause-value : goal.returns-clause-value
returns-clause-value c n f h = word_none c.faultless_formulas_are_within_limits.ensures.affine n f h

pub returns-clause-statement : goal.returns-clause-statement
returns-clause-statement c n s h = stored_none c.faultless_formulas_are_within_limits.ensures.affine n s h

pub returns-clause-loops : goal.returns-clause-loops
returns-clause-loops c s h is = loop_none c.faultless_formulas_are_within_limits.ensures.affine s h is

pub returns-clause-extents : goal.returns-clause-extents
returns-clause-extents c n fs h = extents_none c.faultless_formulas_are_within_limits.ensures.affine n fs h
