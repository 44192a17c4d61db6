use Rattle.scop_arithmetic.proofs.FaultlessExpressions.{linear_of, truth_of, place_of, word_of, stored_of, extents_of}
use Rattle.scop_arithmetic.proofs.LoopHeads.{loop_fits}
use Rattle.scop_arithmetic.proofs.laws.faultless_texts_lie_within_the_limits.Goals as goal

pub returns-clause-affine : goal.returns-clause-affine
returns-clause-affine c n f h = linear_of c.faultless_formulas_are_within_limits.ensures.affine n f h

pub returns-clause-condition : goal.returns-clause-condition
returns-clause-condition c n f h = truth_of c.faultless_formulas_are_within_limits.ensures.affine n f h

pub returns-clause-place : goal.returns-clause-place
returns-clause-place c n f a h = place_of c.faultless_formulas_are_within_limits.ensures.affine n f a h

pub returns-clause-value : goal.returns-clause-value
returns-clause-value c ranks n f some s plain h =
    word_of c.faultless_formulas_are_within_limits.ensures.affine ranks n f some s plain h

pub returns-clause-statement : goal.returns-clause-statement
returns-clause-statement c ranks n s some scope plain e =
    stored_of c.faultless_formulas_are_within_limits.ensures.affine ranks n s some scope plain e

pub returns-clause-extents : goal.returns-clause-extents
returns-clause-extents c n fs e = extents_of c.faultless_formulas_are_within_limits.ensures.affine n fs e

pub returns-clause-loops : goal.returns-clause-loops
returns-clause-loops c s h e = loop_fits c.faultless_formulas_are_within_limits.ensures.affine s h e
