use Rattle.scop_syntax.proofs.Common.{rules, ◌≡◌, ◌∙◌, ◌++◌, OnOk, ℕ, List, ap, map, subst, codes}
use Rattle.form_text.specs.Forms.{form_text}
use Rattle.c_printer.specs.Forms.{iterator_form}
use Rattle.c_printer.specs.Statements.{between}
use Rattle.c_printer.proofs.PutTexts.{behind}
use Rattle.c_printer.proofs.instances.put_given.Goals as goal

pub returns : goal.returns
returns c =
    let form = form_text (map (λ n. n.items) c.args.names.now)
    (iterator_form c.args.parameters c.args.loops c.args.head.now c.args.turn.now) in
    let iterator : c.deref.result.now ≡ c.args.head.now.iterator = search rules in
    let named = between (codes "const int64_t ") c.args.head.now.iterator (codes " = ") in
    let a = c.args.out.now.items in
    let one = c.put_between.new.out.items in
    let two = c.put_iterator.new.out.items in
    subst (λ (t : List ℕ). OnOk c.put_bytes.result (c.put_bytes.new.out.items ≡ t))
    (behind one two form (codes "; ") c.in_ok-put_iterator.ensures
    ∙ behind a one named (form ++ codes "; ")
    (c.in_ok-put_between.ensures
    ∙ ap (λ (t : List ℕ). a ++ between (codes "const int64_t ") t (codes " = ")) iterator))
    c.put_bytes.ensures
