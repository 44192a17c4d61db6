-- What the code gives, told in terms of the grammar.
use Rattle.std.proofs.Common.{ℕ, List, Result, Ok, Err, IfOk, IfErr}
use Rattle.scop_tokens.specs.declared.Token.{Token}
use Rattle.scop_expressions.specs.declared.reader.Expression.{Expression}
use Rattle.scop_expressions.specs.declared.reader.Stop.{Stop}
use Rattle.scop_expressions.specs.declared.reader.Stop.TheVariants as stop
use Rattle.scop_expressions.specs.Machine.{read}
use Rattle.scop_expressions.specs.Promises.{IsRead}
use Rattle.scop_expressions.specs.Gives.{Gives, IsStop}
use Rattle.scop_expressions.proofs.MachineAnswers.{read_answers}

pub tells_expression : (d n : ℕ) (ts : List Token) (r : Result Expression Stop)
    → Gives r (read d n ts) → IfOk r (λ e. IsRead d n ts e.nodes.items e.count)
tells_expression d n ts (Ok e) h = rw h at (read_answers d n ts)
tells_expression d n ts (Err e) h = tt

pub tells_stop : (d n : ℕ) (ts : List Token) (r : Result Expression Stop)
    → Gives r (read d n ts) → IfErr r (IsStop d n ts)
tells_stop d n ts (Ok e) h = tt
tells_stop d n ts (Err (stop.Unfit at)) h = rw h at (read_answers d n ts)
tells_stop d n ts (Err (stop.Unended at)) h = rw h at (read_answers d n ts)
tells_stop d n ts (Err (stop.Depth at)) h = rw h at (read_answers d n ts)
tells_stop d n ts (Err stop.NoMemory) h = tt
