-- What a text of the grammar is, within limits and without, and which fronts can still become one.
use Rattle.std.specs.Prelude.{◌≡◌, ℕ, ◌-◌, ◌≤◌, List, ◌++◌}
use Rattle.scop_tokens.specs.declared.Token.{Token}
use Rattle.scop_tokens.specs.declared.Token.TheVariants as token
use Rattle.scop_expressions.specs.Tree.{Tree, tokens_of, rank, WellBracketed, depth, operators}

-- an expression without a comma of its own
pub record IsExpression (t : Tree) : Type 0 where
  pub brackets : WellBracketed t
  pub rank : 1 ≤ rank t

-- at most so many brackets are open at once, and at most so many operators are there
pub record IsWithin (d n : ℕ) (t : Tree) : Type 0 where
  pub depth : depth t ≤ d
  pub operators : operators t ≤ n

-- an expression within limits that is spelled by the tokens
pub record Spells (d n : ℕ) (ts : List Token) (t : Tree) : Type 0 where
  pub expression : IsExpression t
  pub within : IsWithin d n t
  pub tokens : ts ≡ tokens_of t

-- the tokens can still become an expression within limits
abbrev pub IsFront : ℕ → ℕ → List Token → Type 0
IsFront d n front = (more : List Token) × (t : Tree) × Spells d n (front ++ more) t

-- the tokens can still become an expression
abbrev pub IsFrontWithoutLimits : List Token → Type 0
IsFrontWithoutLimits front = (d : ℕ) × (n : ℕ) × IsFront d n front

-- where a token that is too deep is told: a cast, known by its word, at its parenthesis
abbrev pub told_at : Token → ℕ → ℕ
told_at (token.Unsigned w) at = at - 1
told_at t at = at
