-- What an answer says of the tokens, in terms of the grammar alone.
use Rattle.std.specs.Prelude.{◌≡◌, ℕ, List, [], ◌∷◌, ◌++◌, length, ⊤}
use Rattle.scop_tokens.specs.declared.Token.{Token}
use Rattle.scop_expressions.specs.declared.node.Node.{Node}
use Rattle.scop_expressions.specs.Tree.{Tree, written}
use Rattle.scop_expressions.specs.Grammar.{Spells, IsFront, IsFrontWithoutLimits, told_at}

-- no text goes on with the next token, however deep
abbrev pub GoesNoFurther : List Token → List Token → Type 0
GoesNoFurther front [] = ⊤
GoesNoFurther front (t ∷ rest) = IsFrontWithoutLimits (front ++ t ∷ []) → ⊥

-- no expression is spelled by the tokens
abbrev pub IsNoExpression : ℕ → ℕ → List Token → Type 0
IsNoExpression d n ts = (t : Tree) → Spells d n ts t → ⊥

-- the first tokens spell an expression that no text goes on from, however deep, and the nodes are its own
pub record IsRead (d n : ℕ) (ts : List Token) (nodes : List Node) (count : ℕ) : Type 0 where
  pub front : List Token
  pub rest : List Token
  pub split : ts ≡ front ++ rest
  pub length : count ≡ length front
  pub tree : Tree
  pub spells : Spells d n front tree
  pub written : nodes ≡ written 0 tree
  pub last : GoesNoFurther front rest

-- the token at the place is the first with which no text of the grammar begins so, however deep
pub record IsUnfit (d n : ℕ) (ts : List Token) (at : ℕ) : Type 0 where
  pub front : List Token
  pub token : Token
  pub rest : List Token
  pub split : ts ≡ front ++ token ∷ rest
  pub place : at ≡ length front
  pub fits : IsFront d n front
  pub unfit : IsFrontWithoutLimits (front ++ token ∷ []) → ⊥
  pub incomplete : IsNoExpression d n front

-- every token fits, and the text ends too early
pub record IsUnended (d n : ℕ) (ts : List Token) (at : ℕ) : Type 0 where
  pub place : at ≡ length ts
  pub fits : IsFront d n ts
  pub incomplete : IsNoExpression d n ts

-- the first token with which a text of the grammar begins so, and none within the limits
pub record IsTooDeep (d n : ℕ) (ts : List Token) (at : ℕ) : Type 0 where
  pub front : List Token
  pub token : Token
  pub rest : List Token
  pub split : ts ≡ front ++ token ∷ rest
  pub place : at ≡ told_at token (length front)
  pub fits : IsFront d n front
  pub deep : IsFront d n (front ++ token ∷ []) → ⊥
  pub without_limits : IsFrontWithoutLimits (front ++ token ∷ [])
