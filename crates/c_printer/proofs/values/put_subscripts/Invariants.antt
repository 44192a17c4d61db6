-- What is put so far, and the subscripts to come, are all of them.
use Rattle.scop_syntax.proofs.Common.{◌≡◌, ◌++◌, map, drop}
use Rattle.c_printer.specs.Statements.{subscripts_text}
use Rattle.c_printer.proofs.values.put_subscripts.Given as goal

abbrev pub invariant-loop-form : goal.invariant-loop-form
invariant-loop-form l = l.out.items ++ subscripts_text (map (λ n. n.items) l.names) (drop l.form-index l.forms)
    ≡ l.fn.out.items ++ subscripts_text (map (λ n. n.items) l.names) l.forms
