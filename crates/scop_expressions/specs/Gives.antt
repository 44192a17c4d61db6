-- The answer that a result of the code stands for.
use Rattle.std.specs.Prelude.{◌≡◌, ℕ, List, Result, Ok, Err, ⊤}
use Rattle.scop_tokens.specs.declared.Token.{Token}
use Rattle.scop_expressions.specs.declared.node.Node.{Node}
use Rattle.scop_expressions.specs.Promises.{IsUnfit, IsUnended, IsTooDeep}
use Rattle.scop_expressions.specs.declared.reader.Expression.{Expression}
use Rattle.scop_expressions.specs.declared.reader.Stop.{Stop}
use Rattle.scop_expressions.specs.declared.reader.Stop.TheVariants as stop
use Rattle.scop_expressions.specs.Machine.{Answer, unfit, unended, depth}

-- the nodes of an expression, and how many tokens they took
abbrev pub pair_of : Expression → List Node × ℕ
pair_of e = (e.nodes.items, e.count)

-- a result of the code stands for the answer; want of memory is free
abbrev pub Gives : Result Expression Stop → Answer → Type 0
Gives (Ok e) a = a ≡ Ok (pair_of e)
Gives (Err (stop.Unfit at)) a = a ≡ Err (unfit, at)
Gives (Err (stop.Unended at)) a = a ≡ Err (unended, at)
Gives (Err (stop.Depth at)) a = a ≡ Err (depth, at)
Gives (Err stop.NoMemory) a = ⊤

-- the fault that a stop tells
abbrev pub IsStop : ℕ → ℕ → List Token → Stop → Type 0
IsStop d n ts (stop.Unfit at) = IsUnfit d n ts at
IsStop d n ts (stop.Unended at) = IsUnended d n ts at
IsStop d n ts (stop.Depth at) = IsTooDeep d n ts at
IsStop d n ts stop.NoMemory = ⊤
