use Rattle.std.proofs.Common.{◌≡◌, ◌-◌, true, false, length, drop, sym, ◌∙◌, refl, arith, take_all, length-drop}
use Rattle.scop_lexer.specs.Constants.{is_hexadecimal, is_octal}
use Rattle.scop_lexer.proofs.constants.constant_of.Goals as goal

pub returns-then-is_hexadecimal : goal.returns-then-is_hexadecimal
returns-then-is_hexadecimal c =
    let word = c.args.word.now in
    let is : is_hexadecimal word ≡ true = sym c.is_hexadecimal.ensures ∙ c.if-is_hexadecimal.true in
    rw is (rw (take_all (length word - 2) (drop 2 word) (omega (arith, length-drop 2 word))) at c.constant_in.ensures)

pub returns-then-is_octal : goal.returns-then-is_octal
returns-then-is_octal c =
    let word = c.args.word.now in
    let not_hexadecimal : is_hexadecimal word ≡ false = sym c.is_hexadecimal.ensures ∙ c.if-is_hexadecimal.false in
    let octal : is_octal word ≡ true = sym c.is_octal.ensures ∙ c.if-is_octal.true in
    rw (not_hexadecimal, octal) refl

pub returns : goal.returns
returns c =
    let word = c.args.word.now in
    let not_hexadecimal : is_hexadecimal word ≡ false = sym c.is_hexadecimal.ensures ∙ c.if-is_hexadecimal.false in
    let not_octal : is_octal word ≡ false = sym c.is_octal.ensures ∙ c.if-is_octal.false in
    rw (not_hexadecimal, not_octal) c.constant_in-2.ensures
