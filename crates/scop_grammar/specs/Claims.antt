-- What an answer of the machine claims of the tokens.
use Rattle.std.specs.Prelude.{ℕ, List, Ok, Err}
use Rattle.scop_expressions.specs.Token.{Token}
use Rattle.scop_expressions.specs.Machine.{unfit, unended, depth}
use Rattle.scop_grammar.specs.Promises.{IsRead, IsUnfit, IsUnended, IsTooDeep}
use Rattle.scop_grammar.specs.Machine.{Answer}

-- what an answer says: the pieces of a kernel, or the first fault
abbrev pub IsAnswer : ℕ → ℕ → List Token → Answer → Type 0
IsAnswer d n ts (Ok ps) = IsRead d n ts ps
IsAnswer d n ts (Err (unfit, at)) = IsUnfit d n ts at
IsAnswer d n ts (Err (unended, at)) = IsUnended d n ts at
IsAnswer d n ts (Err (depth, at)) = IsTooDeep d n ts at
