use Rattle.scop_syntax.proofs.Common.{[], ap, length, sym}
use Rattle.text_callers.proofs.printed.iterators_without_loops.Goals as goal

pub returns-clause-iterator : goal.returns-clause-iterator
returns-clause-iterator c = λ head turn first counted.
    c.printed_iterators_are_the_source_s.ensures.iterator head turn [] [] [] (ap length first) (ap length counted)

pub returns-clause-point : goal.returns-clause-point
returns-clause-point c = λ program n p turns named none at is.
    c.printed_iterators_are_the_source_s.ensures.point program n p turns [] [] named (sym (ap length none)) at is
