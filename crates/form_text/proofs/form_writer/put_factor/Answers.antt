use Rattle.whole_numbers.proofs.Common.{rules, ◌≡◌, ◌++◌, ◌<◌, length, OnOk, subst}
use Rattle.form_text.specs.Forms.{factor_text}
use Rattle.form_text.proofs.PutTexts.{put_product}
use Rattle.form_text.proofs.form_writer.put_factor.Goals as goal

pub returns : goal.returns
returns c =
    let one = c.if-number-eq1.false in
    let some : 0 < length c.args.name.now = search rules in
    let e : c.put_bytes-2.new.out.items ++ c.args.name.now
    ≡ c.args.out.now.items ++ factor_text c.args.number c.args.name.now =
    put_product c.args.out.now.items c.put_numeral-2.new.out.items c.put_bytes-2.new.out.items c.args.name.now
    c.args.number c.in-Ok.ensures c.in-Ok-put_bytes.ensures some one in
    subst (λ t. OnOk c.put_bytes-3.result (c.put_bytes-3.new.out.items ≡ t)) e c.put_bytes-3.ensures
