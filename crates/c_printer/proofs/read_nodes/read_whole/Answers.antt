use Rattle.scop_syntax.proofs.Common.{rules, ◌≡◌, ◌∙◌, ◌+◌, suc, length, add-one, ap, subst, IfOk, Option, Some}
use Rattle.scop_syntax.proofs.Common.{program_of}
use Rattle.std.specs.Prelude.{option_map}
use Rattle.scop_lexer.specs.Bytes.{Text}
use Rattle.loop_tree.specs.Tree.{Trees}
use Rattle.loop_tree.specs.View.{trees_in}
use Rattle.form_text.specs.Reading.{strip, when}
use Rattle.c_printer.specs.Reading.{printed_as, read_nodes}
use Rattle.c_printer.specs.steps.View.{body_part}
use Rattle.c_printer.specs.Statements.{front_text}
use Rattle.c_printer.proofs.read_nodes.read_whole.Goals as goal

pub returns-in-Ok-Some : goal.returns-in-Ok-Some
returns-in-Ok-Some c =
    let program = program_of c.args.kernel.now in
    let text = c.args.text.now in
    let behind = c.in-Some.behind.now in
    let front : Some behind ≡ strip (front_text program) text = search rules in
    let counted : Some (body_part c.in-Ok-Some.nodes)
    ≡ read_nodes program (length text + 1) 1 0 behind = search rules in
    let read = counted ∙ ap (λ n. read_nodes program n 1 0 behind) (add-one (length text)) in
    subst (λ (o : Option Trees). IfOk c.printed_as.result (λ t. option_map trees_in t ≡ o))
    (ap (λ o. when o (printed_as program text)) read
    ∙ ap (λ o. when o (λ (t : Text). when (read_nodes program (suc (length text)) 1 0 t) (printed_as program text)))
    front)
    c.printed_as.ensures
