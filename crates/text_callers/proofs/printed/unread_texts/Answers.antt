use Rattle.loop_tree.specs.Tree.{none}
use Rattle.text_callers.proofs.printed.unread_texts.Goals as goal

pub returns-clause-prints : goal.returns-clause-prints
returns-clause-prints c = λ program text. c.unread_texts_are_of_no_tree.ensures.prints program text none

pub returns-clause-printable : goal.returns-clause-printable
returns-clause-printable c = c.unread_texts_are_of_no_tree.ensures.printable

pub returns-clause-none : goal.returns-clause-none
returns-clause-none c = λ program text named unread.
    c.unread_texts_are_of_no_tree.ensures.none program text none named unread tt
