use Rattle.whole_numbers.proofs.Common.{rules, ◌≡◌, ◌∙◌, ◌++◌, subst, arith, decimal, OnOk}
use Rattle.scop_lexer.specs.Bytes.{Text}
use Rattle.form_text.proofs.Numerals.{decimal_is_numeral}
use Rattle.form_text.proofs.form_writer.put_numeral.Goals as goal

pub returns : goal.returns
returns c =
    let text : c.as_bytes.result.now ≡ decimal c.args.number = search rules in
    subst (λ (t : Text). OnOk c.put_bytes.result (c.put_bytes.new.out.items ≡ c.args.out.now.items ++ t))
    (text ∙ decimal_is_numeral c.args.number (omega (arith, c.ranges.number.fits))) c.put_bytes.ensures
