use Rattle.scop_syntax.proofs.Common.{◌∙◌, ◌+◌, ◌-◌, ◌++◌, ℕ, List, ap, sym}
use Rattle.std.proofs.lemmas.List.{append_assoc}
use Rattle.c_printer.specs.Nodes.{repeated}
use Rattle.c_printer.proofs.PutTexts.{repeated_ahead}
use Rattle.c_printer.proofs.texts.put_repeated.Goals as goal

pub loop-at-preserved : goal.loop-at-preserved
loop-at-preserved c =
    let l = c.loop-at in
    let bytes = c.args.bytes.now in
    let rest = repeated bytes (c.args.count - (l.at + 1)) in
    ap (λ (t : List ℕ). t ++ rest) c.in-Ok.ensures
    ∙ (append_assoc l.out.items bytes rest
    ∙ (ap (λ (t : List ℕ). l.out.items ++ t) (sym (repeated_ahead bytes c.args.count l.at c.loop-at-test.true))
    ∙ l.invariant))
