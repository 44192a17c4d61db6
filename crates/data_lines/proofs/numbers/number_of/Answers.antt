-- The digits end, or one more leaves 64 bits, or a byte is none.
use Rattle.scop_syntax.proofs.Common.{◌∙◌, sym, ap, drop_of_length-le, list_all}
use Rattle.scop_lexer.specs.Bytes.{is_digit}
use Rattle.scop_lexer.specs.Constants.{number_behind}
use Rattle.data_lines.proofs.NumberLemmas.{number_is, no_number}
use Rattle.data_lines.proofs.numbers.number_of.Goals as goal

pub returns-in-None : goal.returns-in-None
returns-in-None c =
    let at = c.loop-byte in
    no_number c.args.word.now at.byte-index at.value c.loop-byte-test.true at.invariant.digits at.invariant.value
    (sym c.in-None.is ∙ c.next_number.ensures)

pub returns : goal.returns
returns c =
    let at = c.loop-byte in
    let word = c.args.word.now in
    let none = drop_of_length-le word c.loop-byte-test.false in
    number_is word at.value (sym at.invariant.digits ∙ ap (list_all is_digit) none)
    (ap (number_behind 10 at.value) (sym none) ∙ at.invariant.value) at.invariant.small
