-- The value of the worked statement, `i * A[i]`, over an array of one dimension.
use Rattle.scop_syntax.proofs.Common.{ℕ, ℤ, List, [], ◌∷◌, refl, arith, Cell}
use Rattle.scop_roles.specs.Scope.{IsInScope}
use Rattle.scop_arithmetic.specs.Arithmetic.{HasNoComma, HoldTypes}
use Rattle.text_callers.specs.Worked.{product}

-- its array is known
pub in_scope : IsInScope (1 ∷ []) product
in_scope = (tt, ((omega arith, refl), tt))

-- it has no comma
pub no_comma : HasNoComma product
no_comma = (tt, (tt, tt))

-- its array has 64 bits
pub hold_types : (held : Cell → ℕ) (p : List ℤ) → HoldTypes held p product
hold_types held p = (tt, λ e. absurd (cc))
