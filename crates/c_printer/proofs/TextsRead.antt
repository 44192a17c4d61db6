-- A text is read as the tree that prints as it.
use Rattle.scop_syntax.proofs.Common.{◌≡◌, ◌∙◌, ap, sym, subst, refl, suc, Bool, true, false, ◌++◌, length, arith}
use Rattle.scop_syntax.proofs.Common.{codes, Option, Some, None, if◌then◌else◌, bytes_eq, bytes_eq-Decides, none-some}
use Rattle.scop_syntax.proofs.Common.{same_Some, Program}
use Rattle.std.proofs.lemmas.List.{length-append}
use Rattle.scop_lexer.specs.Bytes.{Text}
use Rattle.loop_tree.specs.Tree.{Trees}
use Rattle.form_text.specs.Reading.{strip, when}
use Rattle.form_text.proofs.Calls.{strip_front}
use Rattle.c_printer.specs.Statements.{front_text}
use Rattle.c_printer.specs.Nodes.{nodes_text, text_of}
use Rattle.c_printer.specs.Reading.{read_nodes, printed_as, read_text}
use Rattle.c_printer.specs.Printable.{AreNodes, IsNamed}
use Rattle.c_printer.proofs.NodesRead.{nodes_back}
use Rattle.c_printer.proofs.Lengths.{nodes_le}

-- a printed tree is read back
pub text_back : (program : Program) (ts : Trees) → IsNamed program → AreNodes program 0 ts
    → read_text program (text_of program ts) ≡ Some ts
text_back program ts names h =
    let text = text_of program ts in
    let inner = nodes_text program 1 0 ts in
    let long = nodes_le program 1 0 ts in
    let first = length-append (front_text program) (inner ++ codes "}\n") in
    let second = length-append inner (codes "}\n") in
    ap (λ o. when o (λ t. when (read_nodes program (suc (length text)) 1 0 t) (printed_as program text)))
    (strip_front (front_text program) (inner ++ codes "}\n"))
    ∙ (ap (λ o. when o (printed_as program text))
    (nodes_back program (suc (length text)) 1 0 ts (codes "}\n") names (omega arith) h
    (omega (arith, long, first, second)) refl)
    ∙ ap (λ (t : Bool). if t then Some ts else None) ((bytes_eq-Decides text text).1 refl))

-- two trees with one text are one tree
pub one_tree : (program : Program) (ts us : Trees) → IsNamed program → AreNodes program 0 ts → AreNodes program 0 us
    → text_of program ts ≡ text_of program us → ts ≡ us
one_tree program ts us names h g e =
    same_Some ts us (sym (text_back program ts names h) ∙ (ap (read_text program) e ∙ text_back program us names g))

-- no tree prints as a text that is not read
pub no_tree : (program : Program) (text : Text) (ts : Trees) → IsNamed program → read_text program text ≡ None
    → AreNodes program 0 ts → text_of program ts ≡ text → ⊥
no_tree program text ts names e h is =
    none-some ts (sym e ∙ (ap (read_text program) (sym is) ∙ text_back program ts names h))

-- and a tree that is read prints as the text
pub read_prints : (program : Program) (text : Text) (ts : Trees) → read_text program text ≡ Some ts
    → text_of program ts ≡ text
read_prints program text ts e = front (strip (front_text program) text) e
  where
    printed : (r : Trees × Text) (same : Bool) → bytes_eq (text_of program r.0) text ≡ same
        → (if same then Some r.0 else None) ≡ Some ts → text_of program ts ≡ text
    printed r true is e =
        subst (λ x. text_of program x ≡ text) (same_Some r.0 ts e) ((bytes_eq-Decides (text_of program r.0) text).0 is)
    printed r false is e = absurd (none-some ts e)

    nodes : (o : Option (Trees × Text)) → when o (printed_as program text) ≡ Some ts → text_of program ts ≡ text
    nodes None e = absurd (none-some ts e)
    nodes (Some r) e = printed r (bytes_eq (text_of program r.0) text) refl e

    front : (o : Option Text)
        → when o (λ t. when (read_nodes program (suc (length text)) 1 0 t) (printed_as program text)) ≡ Some ts
        → text_of program ts ≡ text
    front None e = absurd (none-some ts e)
    front (Some t) e = nodes (read_nodes program (suc (length text)) 1 0 t) e
