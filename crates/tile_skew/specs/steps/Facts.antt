-- What laws below say of a program's statements, as one record of facts.
use Rattle.std.specs.Prelude.{◌≡◌, length}
use Rattle.scop_syntax.specs.Kernel.{IsPlaced, ranks_of}
use Rattle.scop_syntax.specs.Members.{In}
use Rattle.scop_syntax.specs.Statements.{Placed, loops_in, statements_of}
use Rattle.scop_syntax.specs.Tree.{Program}

-- each statement has its loops, and is within the limits
pub record StatementFacts (program : Program) : Type 0 where
  pub loops : (p : Placed) → In p (statements_of program) → length p.loops ≡ loops_in p.scopes
  pub placed : (p : Placed) → In p (statements_of program)
      → IsPlaced (ranks_of program) (length program.parameters) p
