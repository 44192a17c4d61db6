use Rattle.scop_syntax.proofs.Common.{◌≡◌, sym, Option, None, Some, IfSome, IsNone, IfOk-weaker, Program, program_of}
use Rattle.std.specs.Prelude.{option_map}
use Rattle.scop_lexer.specs.Bytes.{Text}
use Rattle.loop_tree.specs.Tree.{Trees}
use Rattle.loop_tree.specs.View.{trees_in}
use Rattle.loop_tree.specs.declared.tree.Tree.{Tree}
use Rattle.c_printer.specs.Nodes.{text_of}
use Rattle.c_printer.specs.Printable.{AreNodes}
use Rattle.c_printer.specs.Reading.{read_text}
use Rattle.c_printer.proofs.read_nodes.read_back.Goals as goal

-- what is read prints as the text
prints : (program : Program) (text : Text)
    → ((ts : Trees) → read_text program text ≡ Some ts → text_of program ts ≡ text) → (read : Option Tree)
    → option_map trees_in read ≡ read_text program text → IfSome read (λ tree. text_of program (trees_in tree) ≡ text)
prints program text law None is = tt
prints program text law (Some tree) is = law (trees_in tree) (sym is)

-- where nothing is read no tree does
unread : (program : Program) (text : Text)
    → (read_text program text ≡ None → (ts : Trees) → AreNodes program 0 ts → text_of program ts ≡ text → ⊥)
    → (read : Option Tree) → option_map trees_in read ≡ read_text program text → IsNone read
    → (ts : Trees) → AreNodes program 0 ts → text_of program ts ≡ text → ⊥
unread program text law None is none = law (sym is)
unread program text law (Some tree) is none = absurd cc

pub returns-clause-some : goal.returns-clause-some
returns-clause-some c =
    let program = program_of c.args.kernel.now in
    let text = c.args.text.now in
    IfOk-weaker c.read_whole.result _ _
    (prints program text (λ ts. c.unread_texts_are_of_no_tree.ensures.prints program text ts)) c.read_whole.ensures

pub returns-clause-none : goal.returns-clause-none
returns-clause-none c named =
    let program = program_of c.args.kernel.now in
    let text = c.args.text.now in
    IfOk-weaker c.read_whole.result _ _
    (unread program text (λ none ts nodes. c.unread_texts_are_of_no_tree.ensures.none program text ts named none nodes))
    c.read_whole.ensures
