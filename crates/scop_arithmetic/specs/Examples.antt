-- Worked values: -1 and -2 in each type, side by side.
use Rattle.std.specs.Prelude.{ℕ, List, [], ◌∷◌, map}
use Rattle.scop_expressions.specs.Assign.{Assign}
use Rattle.scop_expressions.specs.Base.TheVariants.{Decimal}
use Rattle.scop_expressions.specs.Op.{Op}
use Rattle.scop_expressions.specs.declared.token.Sign.TheVariants as sign
use Rattle.scop_expressions.specs.Suffix.TheVariants.{Absent}
use Rattle.scop_expressions.specs.Width.TheVariants.{Narrow, Full}
use Rattle.scop_roles.specs.Formula.{Formula, constant, unary, cast, binary}
use Rattle.scop_arithmetic.specs.Arithmetic.{class, word, stored}

-- a constant, and -k as an int, as a uint32_t and as a uint64_t
abbrev pub number : ℕ → Formula
number k = constant (Absent Decimal) k 0

abbrev pub int : ℕ → Formula
int k = unary sign.Minus (number k) 0

abbrev pub narrow : ℕ → Formula
narrow k = cast Narrow (int k) 0

abbrev pub full : ℕ → Formula
full k = cast Full (int k) 0

-- the value of an expression that has no name and no cell
abbrev pub value : Formula → ℕ
value f = word (λ c. 0) [] f

-- an operator between -1 and -2: in uint32_t, with an int on the left, on the right, and on neither side; a uint32_t
-- beside a uint64_t, the other way round; in uint64_t as in uint32_t
abbrev pub row : Op → List ℕ
row o =
    map (λ (sides : Formula × Formula). value (binary o sides.0 sides.1 0))
    ((int 1, narrow 2) ∷ (narrow 1, int 2) ∷ (narrow 1, narrow 2) ∷ (narrow 1, full 2) ∷ (full 1, narrow 2)
    ∷ (int 1, full 2) ∷ (full 1, int 2) ∷ (full 1, full 2) ∷ [])

-- what it makes in uint32_t, of both, and in uint64_t
abbrev pub makes : ℕ → ℕ → ℕ → ℕ → List ℕ
makes a b c d = a ∷ a ∷ a ∷ b ∷ c ∷ d ∷ d ∷ d ∷ []

-- an operator stores -2 in a place that holds -1: an int, a uint32_t and a uint64_t in a uint32_t, then in a uint64_t
abbrev pub stores : Assign → List ℕ
stores a =
    map (λ (sides : Formula × Formula). stored (class sides.0) (class sides.1) a (value sides.0) (value sides.1))
    ((narrow 1, int 2) ∷ (narrow 1, narrow 2) ∷ (narrow 1, full 2) ∷ (full 1, int 2) ∷ (full 1, narrow 2)
    ∷ (full 1, full 2) ∷ [])

-- what it leaves in uint32_t, and in uint64_t of a uint32_t and of the others
abbrev pub leaves : ℕ → ℕ → ℕ → List ℕ
leaves a b c = a ∷ a ∷ a ∷ c ∷ b ∷ c ∷ []
