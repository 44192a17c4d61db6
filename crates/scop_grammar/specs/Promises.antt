-- What an answer for a text says of its tokens, in terms of the grammar alone.
use Rattle.std.specs.Prelude.{◌≡◌, ◌≤◌, ℕ, List, [], ◌∷◌, ◌++◌, length}
use Rattle.scop_expressions.specs.Token.{Token}
use Rattle.scop_expressions.specs.Grammar.{told_at}
use Rattle.scop_grammar.specs.Kernel.{Kernel, kernel_elements, Piece, pieces, Spells, IsFront}

-- no kernel is spelled by the tokens
abbrev pub IsNoKernel : ℕ → ℕ → List Token → Type 0
IsNoKernel d n ts = (k : Kernel) → Spells d n ts k → ⊥

-- the tokens spell a kernel, and the pieces are its own
pub record IsRead (d n : ℕ) (ts : List Token) (ps : List Piece) : Type 0 where
  pub kernel : Kernel
  pub spells : Spells d n ts kernel
  pub pieces : ps ≡ pieces 0 (kernel_elements kernel)

-- the token at the place is the first with which no text begins so
pub record IsUnfit (d n : ℕ) (ts : List Token) (at : ℕ) : Type 0 where
  pub front : List Token
  pub token : Token
  pub rest : List Token
  pub split : ts ≡ front ++ token ∷ rest
  pub place : at ≡ length front
  pub fits : IsFront d n front
  pub unfit : IsFront d n (front ++ token ∷ []) → ⊥

-- the same however many brackets and operators more a text may have
abbrev pub IsMisplaced : ℕ → ℕ → List Token → ℕ → Type 0
IsMisplaced d n ts at = (e m : ℕ) → d ≤ e → n ≤ m → IsUnfit e m ts at

-- every token fits, and the text ends too early
pub record IsUnended (d n : ℕ) (ts : List Token) (at : ℕ) : Type 0 where
  pub place : at ≡ length ts
  pub fits : IsFront d n ts
  pub incomplete : IsNoKernel d n ts

-- the first token with which a text begins so, and none within the limits
pub record IsTooDeep (d n : ℕ) (ts : List Token) (at : ℕ) : Type 0 where
  pub front : List Token
  pub token : Token
  pub rest : List Token
  pub split : ts ≡ front ++ token ∷ rest
  pub place : at ≡ told_at token (length front)
  pub fits : IsFront d n front
  pub deep : IsFront d n (front ++ token ∷ []) → ⊥
  pub without_limits : (e : ℕ) × (m : ℕ) × IsFront e m (front ++ token ∷ [])
