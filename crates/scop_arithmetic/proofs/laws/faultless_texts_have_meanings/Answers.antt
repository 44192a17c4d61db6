use Rattle.scop_arithmetic.proofs.Wholes.{has_whole}
use Rattle.scop_arithmetic.proofs.Extents.{array_whole}
use Rattle.scop_arithmetic.proofs.FaultlessExpressions.{truth_of, fit_truth, place_of, place_cell, word_of}
use Rattle.scop_arithmetic.proofs.FaultlessExpressions.{fit_word, stored_of, stored_defined}
use Rattle.scop_arithmetic.proofs.Loops.{loop_parts, parts_defined}
use Rattle.scop_arithmetic.proofs.Iterators.{entry_below}
use Rattle.scop_arithmetic.proofs.laws.faultless_texts_have_meanings.Goals as goal

pub returns-clause-affine : goal.returns-clause-affine
returns-clause-affine c n f h = has_whole n f h

pub returns-clause-condition : goal.returns-clause-condition
returns-clause-condition c n f h =
    fit_truth n f (truth_of c.faultless_formulas_are_within_limits.ensures.affine n f h)

pub returns-clause-place : goal.returns-clause-place
returns-clause-place c n f a h =
    place_cell n f (place_of c.faultless_formulas_are_within_limits.ensures.affine n f a h)

pub returns-clause-value : goal.returns-clause-value
returns-clause-value c ranks n f some s plain h =
    fit_word n f (word_of c.faultless_formulas_are_within_limits.ensures.affine ranks n f some s plain h)

pub returns-clause-extents : goal.returns-clause-extents
returns-clause-extents c words s at fs e = array_whole words s at fs e

pub returns-clause-statement : goal.returns-clause-statement
returns-clause-statement c ranks n s some scope plain e =
    stored_defined n s
    (stored_of c.faultless_formulas_are_within_limits.ensures.affine ranks n s some scope plain e)

pub returns-clause-loops : goal.returns-clause-loops
returns-clause-loops c s h e = parts_defined s h (loop_parts s h e)

pub returns-clause-names : goal.returns-clause-names
returns-clause-names c s w k e = entry_below s w k e
