-- What an answer of the machine claims of the tokens.
use Rattle.std.specs.Prelude.{ℕ, List, Ok, Err}
use Rattle.scop_tokens.specs.declared.Token.{Token}
use Rattle.scop_expressions.specs.Promises.{IsRead, IsUnfit, IsUnended, IsTooDeep}
use Rattle.scop_expressions.specs.Machine.{Answer, unfit, unended, depth}

-- what an answer says: the nodes of an expression and how many tokens they took, or the first fault
abbrev pub IsAnswer : ℕ → ℕ → List Token → Answer → Type 0
IsAnswer d n ts (Ok (nodes, count)) = IsRead d n ts nodes count
IsAnswer d n ts (Err (unfit, at)) = IsUnfit d n ts at
IsAnswer d n ts (Err (unended, at)) = IsUnended d n ts at
IsAnswer d n ts (Err (depth, at)) = IsTooDeep d n ts at
