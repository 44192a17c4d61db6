use Rattle.scop_syntax.proofs.Common.{◌∙◌, ◌++◌, ℕ, List, append-nil, ap, drop, map, sym}
use Rattle.c_printer.proofs.PutTexts.{givens_end}
use Rattle.c_printer.proofs.instances.put_givens.Goals as goal

pub returns-then-at-turns : goal.returns-then-at-turns
returns-then-at-turns c =
    let l = c.loop-at in
    let ended = givens_end c.args.parameters c.args.loops (map (λ n. n.items) l.names.items)
    (map (λ h. h.now) (drop l.at c.args.heads.now)) c.args.turns.now l.at c.if-at-turns.true in
    sym (append-nil l.out.items) ∙ (ap (λ (t : List ℕ). l.out.items ++ t) (sym ended) ∙ l.invariant)
