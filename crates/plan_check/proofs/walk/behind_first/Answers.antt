use Rattle.plan_check.specs.PlanView.{row_of}
use Rattle.plan_check.proofs.Walks.{behind_plain, first_of_row}
use Rattle.plan_check.proofs.walk.behind_first.Goals as goal

pub returns-then-row : goal.returns-then-row
returns-then-row c = λ m p d h. first_of_row m p d c.args.at (row_of c.args.row.now) h

pub returns : goal.returns
returns c = λ m p d h.
    behind_plain m c.args.at c.in_ok-behind.field-0 d (row_of c.args.row.now) c.in_ok-behind.ensures c.if-row.false p h
