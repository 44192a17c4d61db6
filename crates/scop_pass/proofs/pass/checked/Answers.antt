use Rattle.scop_syntax.proofs.Common.{sym, ◌∙◌}
use Rattle.scop_roles.proofs.Firsts.{first_none}
use Rattle.scop_pass.proofs.pass.checked.Goals as goal

pub returns-in-Ok-None : goal.returns-in-Ok-None
returns-in-Ok-None c fs told =
    let some = rw c.in-Ok-None.is at told in
    let none = rw c.in-Ok-None.is at c.in-Ok-None.field-0-is in
    first_none fs (sym some ∙ none)
