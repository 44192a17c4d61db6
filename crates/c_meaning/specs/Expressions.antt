-- What signed expressions are worth (ISO/IEC 9899:2018, "C17"), where int has 32 bits, and a constant that int does not
-- hold, like int64_t, 64. A point has the values of the names in scope.
use Rattle.std.specs.Prelude.{zero, suc, ◌^◌, nat_lt, Bool, true, false, ◌&&◌, if◌then◌else◌, ℤ, pos, negsuc, neg_ℤ}
use Rattle.std.specs.Prelude.{◌+ℤ◌, ◌-ℤ◌, ◌*ℤ◌, List, [], ◌∷◌, ◌++◌, slice_get, Option, Some, None}
use Rattle.std.specs.Int.Signed.{le_z, lt_z, quot_z}
use Rattle.form_text.specs.Reading.{when}
use Rattle.c_meaning.specs.Syntax.{Function, floord, ceild, greater_of, less_of, Relation, below, above, at_most}
use Rattle.c_meaning.specs.Syntax.{at_least, equals, Expression, number, name, opposite, product, quotient, sum}
use Rattle.c_meaning.specs.Syntax.{difference, choice, call, Comparison}

-- a type holds a number: int where the truth is true, else int64_t (6.2.6.2p2, 7.20.1.1)
abbrev pub fits : Bool → ℤ → Bool
fits true (pos n) = nat_lt n (2 ^ 31)
fits true (negsuc n) = nat_lt n (2 ^ 31)
fits false (pos n) = nat_lt n (2 ^ 63)
fits false (negsuc n) = nat_lt n (2 ^ 63)

-- a result in its type: a number that the type does not hold is undefined (6.5p5)
abbrev pub kept : Bool → ℤ → Option ℤ
kept small z = if fits small z then Some z else None

-- the type of an expression is int: a constant has the first type that holds it (6.4.4.1p5), names and calls are of
-- int64_t, and an operator has the greater type of its operands (6.3.1.8p1, 6.5.3.3p3, 6.5.15p5)
abbrev pub is_int : Expression → Bool
is_int (number n) = nat_lt n (2 ^ 31)
is_int (name k) = false
is_int (opposite e) = is_int e
is_int (product e f) = is_int e && is_int f
is_int (quotient e f) = is_int e && is_int f
is_int (sum e f) = is_int e && is_int f
is_int (difference e f) = is_int e && is_int f
is_int (choice r a b e f) = is_int e && is_int f
is_int (call g e f) = false

-- a comparison of two numbers (6.5.8p6, 6.5.9p3)
abbrev pub related : Relation → ℤ → ℤ → Bool
related below a b = lt_z a b
related above a b = lt_z b a
related at_most a b = le_z a b
related at_least a b = le_z b a
related equals a b = if le_z b a then le_z a b else false

-- a / b without its fraction; over 0, and where the type does not hold it, it is undefined (6.5.5p5, p6)
abbrev pub divided : Bool → ℤ → ℤ → Option ℤ
divided small a (pos zero) = None
divided small a (pos (suc n)) = kept small (quot_z a (pos (suc n)))
divided small a (negsuc n) = kept small (quot_z a (negsuc n))

-- an expression's value at a point, where calls have these values; none where anything that is evaluated is undefined
abbrev pub value : (Function → ℤ → ℤ → Option ℤ) → List ℤ → Expression → Option ℤ
-- a constant that no type holds has none (6.4.4p2)
value calls p (number n) = kept false (pos n)
-- the value of the named object (6.3.2.1p2)
value calls p (name k) = slice_get p k
-- 6.5.3.3p3
value calls p (opposite e) = when (value calls p e) (λ a. kept (is_int e) (neg_ℤ a))
-- 6.5.5p4
value calls p (product e f) =
    when (value calls p e) (λ a. when (value calls p f) (λ b. kept (is_int e && is_int f) (a *ℤ b)))
-- 6.5.5p5
value calls p (quotient e f) =
    when (value calls p e) (λ a. when (value calls p f) (λ b. divided (is_int e && is_int f) a b))
-- 6.5.6p5
value calls p (sum e f) =
    when (value calls p e) (λ a. when (value calls p f) (λ b. kept (is_int e && is_int f) (a +ℤ b)))
-- 6.5.6p6
value calls p (difference e f) =
    when (value calls p e) (λ a. when (value calls p f) (λ b. kept (is_int e && is_int f) (a -ℤ b)))
-- one of the last two operands is evaluated, the other is not (6.5.15p4)
value calls p (choice r a b e f) =
    when (value calls p a) (λ x. when (value calls p b)
    (λ y. if related r x y then value calls p e else value calls p f))
-- both arguments are evaluated and assigned to the parameters, which are of int64_t (6.5.2.2p4, p7)
value calls p (call g e f) = when (value calls p e) (λ a. when (value calls p f) (λ b. calls g a b))

-- what each of the four functions returns, over its parameters (6.8.6.4p3)
abbrev pub returned : Function → Expression
-- n < 0 ? -((-n + d - 1) / d) : n / d
returned floord =
    choice below (name 0) (number 0)
    (opposite (quotient (difference (sum (opposite (name 0)) (name 1)) (number 1)) (name 1)))
    (quotient (name 0) (name 1))
-- n < 0 ? -((-n) / d) : (n + d - 1) / d
returned ceild =
    choice below (name 0) (number 0) (opposite (quotient (opposite (name 0)) (name 1)))
    (quotient (difference (sum (name 0) (name 1)) (number 1)) (name 1))
-- a > b ? a : b
returned greater_of = choice above (name 0) (name 1) (name 0) (name 1)
-- a < b ? a : b
returned less_of = choice below (name 0) (name 1) (name 0) (name 1)

-- the four functions call none
abbrev pub no_calls : Function → ℤ → ℤ → Option ℤ
no_calls g a b = None

-- a call of one of them
abbrev pub called : Function → ℤ → ℤ → Option ℤ
called g a b = value no_calls (a ∷ b ∷ []) (returned g)

-- an expression's value at a point of the program
abbrev pub worth : List ℤ → Expression → Option ℤ
worth p e = value called p e

-- those of expressions, from left to right
abbrev pub worths : List ℤ → List Expression → Option (List ℤ)
worths p [] = Some []
worths p (e ∷ es) = when (worth p e) (λ z. when (worths p es) (λ zs. Some (z ∷ zs)))

-- the truth of a comparison (6.5.8p6, 6.5.9p3)
abbrev pub compared : List ℤ → Comparison → Option Bool
compared p c = when (worth p c.left) (λ a. when (worth p c.right) (λ b. Some (related c.relation a b)))

-- a && b: behind a false left side the right one is not evaluated (6.5.13p4)
abbrev pub both : Option Bool → Option Bool → Option Bool
both None t = None
both (Some false) t = Some false
both (Some true) t = t

-- c && d && .. from left to right (6.5.13p4): of the comparisons behind the first
abbrev pub all_of : List ℤ → List Comparison → Option Bool
all_of p [] = Some true
all_of p (c ∷ cs) = both (compared p c) (all_of p cs)

-- the values of constants, each initialised where those in front are in scope (6.2.1p7, 6.2.4p6, 6.7.9p11)
abbrev pub constants : List ℤ → List Expression → Option (List ℤ)
constants p [] = Some []
constants p (e ∷ es) = when (worth p e) (λ a. when (constants (p ++ a ∷ []) es) (λ vs. Some (a ∷ vs)))
