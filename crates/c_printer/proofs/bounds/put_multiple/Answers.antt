use Rattle.scop_syntax.proofs.Common.{◌≡◌, ◌∙◌, ◌++◌, OnOk, ℕ, List, map, subst, FitsSigned, w64, codes, signed_decimal}
use Rattle.scop_syntax.proofs.Common.{to_z-of_z}
use Rattle.c_printer.specs.Forms.{tree_form_text}
use Rattle.c_printer.specs.Nodes.{divisor_text}
use Rattle.c_printer.specs.Statements.{between}
use Rattle.c_printer.proofs.PutTexts.{behind}
use Rattle.c_printer.proofs.bounds.put_multiple.Goals as goal

pub returns : goal.returns
returns c =
    let fit : FitsSigned w64 c.args.divisor = c.ranges.divisor in
    let form = tree_form_text (map (λ n. n.items) c.args.names.now) c.args.loops c.args.form.now in
    let d = signed_decimal c.args.divisor in
    let called = between (codes " - ") d (codes "*pp_floord(") in
    let last = divisor_text c.args.divisor in
    let zero = codes " == 0" in
    let a = c.args.out.now.items in
    let one = c.put_tree_form.new.out.items in
    let two = c.put_signed.new.out.items in
    let three = c.put_tree_form-2.new.out.items in
    let four = c.put_signed-2.new.out.items in
    subst (λ (t : List ℕ). OnOk c.put_bytes.result (c.put_bytes.new.out.items ≡ t))
    (behind three four last zero (simp to_z-of_z at c.in_ok-put_signed-2.ensures)
    ∙ (behind two three form (last ++ zero) c.in_ok-put_tree_form-2.ensures
    ∙ (behind one two called (form ++ (last ++ zero)) (simp to_z-of_z at c.in_ok-put_signed.ensures)
    ∙ behind a one form (called ++ (form ++ (last ++ zero))) c.in_ok-put_tree_form.ensures)))
    c.put_bytes.ensures
