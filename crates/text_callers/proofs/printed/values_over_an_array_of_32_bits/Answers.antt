use Rattle.scop_syntax.proofs.Common.{[], ◌∷◌, true}
use Rattle.text_callers.proofs.printed.values_over_an_array_of_32_bits.Goals as goal

pub returns-clause-value : goal.returns-clause-value
returns-clause-value c = λ extents contents e point typed hold.
    c.printed_values_are_those_of_the_tree.ensures.value (true ∷ []) extents contents e point typed hold

pub returns-clause-stored : goal.returns-clause-stored
returns-clause-stored c = λ ranks n extents contents subscripts right point is width hold.
    c.printed_values_are_those_of_the_tree.ensures.stored (true ∷ []) ranks n extents contents
    (record { place = record { array = 0; subscripts = subscripts }; right = right }) point is width hold

pub returns-clause-run : goal.returns-clause-run
returns-clause-run c = λ program params contents v is hold at.
    c.printed_values_are_those_of_the_tree.ensures.run program params contents 0 v is hold at
