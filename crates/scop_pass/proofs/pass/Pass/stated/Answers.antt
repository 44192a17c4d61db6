use Rattle.scop_syntax.proofs.Common.{◌≡◌, [], subst}
use Rattle.scop_units.specs.Units.{statement_faults}
use Rattle.scop_units.specs.View.{stored_of}
use Rattle.scop_pass.proofs.pass.Pass.stated.Goals as goal

pub state-requires : goal.state-requires
state-requires c =
    let s = stored_of c.args.stored.now in
    let n = c.args.self.now.comparisons in
    let k = c.args.self.now.before in
    subst (λ e. statement_faults e n k s ≡ []) c.entries-entries.ensures
    (c.in_ok-checked.ensures (statement_faults c.entries-entries.result n k s) c.statement_fault.ensures)
