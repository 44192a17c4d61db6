use Rattle.scop_syntax.proofs.Common.{◌≡◌, None, subst, sym}
use Rattle.scop_roles.specs.Faults.{first}
use Rattle.scop_units.specs.Scopes.{entries}
use Rattle.scop_units.specs.Units.{stored_faults}
use Rattle.scop_units.specs.View.{scope_of, stored_of}
use Rattle.scop_pass.proofs.CompletedHeads.{statement_front}
use Rattle.scop_pass.proofs.pass.Pass.state.Goals as goal

pub statement_of-requires : goal.statement_of-requires
statement_of-requires c =
    let s = stored_of c.args.stored.now in
    subst (λ n. first (stored_faults n s) ≡ None) (sym c.entries.ensures)
    (statement_front (entries (scope_of c.args.self.now.scope)) c.args.self.now.comparisons c.args.self.now.before s
    c.requires)
