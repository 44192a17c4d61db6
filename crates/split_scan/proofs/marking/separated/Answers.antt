use Rattle.scop_syntax.proofs.Common.{◌+◌, ◌++◌, ◌∷◌, All, subst, sym, IfOk-weaker}
use Rattle.split_scan.specs.steps.Parts.{IsCell}
use Rattle.split_scan.proofs.marking.separated.Goals as goal

pub all_marked-requires-clause-cells : goal.all_marked-requires-clause-cells
all_marked-requires-clause-cells c =
    let level = c.args.level.now in
    subst (All (IsCell level.place (level.place + 1 + level.parameters))) (sym c.deref.ensures.value)
    c.in_ok-cells.ensures.cells

pub returns-clause-enough : goal.returns-clause-enough
returns-clause-enough c =
    IfOk-weaker c.all_marked.result _ _
    (λ v h params outer x at. h (outer ++ x ∷ params) (c.in_ok-cells.ensures.enough params outer x at))
    (rw c.deref.ensures.value at c.all_marked.ensures.enough)
