-- Signed parts beside 32 bits: what is signed has none, and what a value without fault converts is a form or a constant
-- of no more.
use Rattle.scop_syntax.proofs.Common.{◌≡◌, ℕ, ◌^◌, ◌<◌, Bool, true, false, ◌&&◌, ◌||◌, ◌++◌, None, refl, arith, not}
use Rattle.scop_syntax.proofs.Common.{nat_le, and_parts, converted}
use Rattle.std.proofs.lemmas.Bool.{or_parts}
use Rattle.scop_expressions.specs.Op.{Op}
use Rattle.scop_expressions.specs.Op.TheVariants as op
use Rattle.scop_expressions.specs.declared.token.Sign.TheVariants as sign
use Rattle.scop_expressions.specs.Base.{Base}
use Rattle.scop_expressions.specs.Base.TheVariants as base
use Rattle.scop_expressions.specs.Suffix.TheVariants as suffix
use Rattle.scop_syntax.specs.Kernel.{IsNarrowed}
use Rattle.scop_roles.specs.declared.kinds.Kind.{Kind}
use Rattle.scop_roles.specs.declared.kinds.Kind.TheVariants as kind
use Rattle.scop_roles.specs.declared.formula.Role.TheVariants as role
use Rattle.scop_roles.specs.Formula.{Formula, constant, name, index, bare_call, call, unary, cast, binary}
use Rattle.scop_roles.specs.Forms.{is_sum_or_product, is_shift, is_joining, makes_narrow, is_signed, is_narrow, is_bare}
use Rattle.scop_roles.specs.Forms.{greatest, is_long, mixes}
use Rattle.scop_roles.specs.Faults.{first, faults, side_role, own, own_bits, only_where}
use Rattle.scop_roles.specs.Values.{expression}
use Rattle.scop_roles.proofs.Parts.{judged_none}

makes_none : (o : Op) (n m s t : Bool) → is_sum_or_product o ≡ true → n ≡ false → m ≡ false
    → makes_narrow o n m s t ≡ false
makes_none op.Plus n m s t sum n_is m_is = grind (arith, n_is, m_is)
makes_none op.Minus n m s t sum n_is m_is = grind (arith, n_is, m_is)
makes_none op.Times n m s t sum n_is m_is = grind (arith, n_is, m_is)
makes_none _ n m s t sum n_is m_is = absurd (grind (arith, sum))

-- no formula is both
pub signed_is_not_narrow : (f : Formula) → is_signed f ≡ true → is_narrow f ≡ false
signed_is_not_narrow (constant s v at) h = refl
signed_is_not_narrow (name m at) h = refl
signed_is_not_narrow (index p i) h = absurd (grind (arith, h))
signed_is_not_narrow (bare_call m at) h = refl
signed_is_not_narrow (call m f at) h = refl
signed_is_not_narrow (unary sign.Minus f at) h = signed_is_not_narrow f h
signed_is_not_narrow (unary sign.Complement f at) h = absurd (grind (arith, h))
signed_is_not_narrow (unary sign.Not f at) h = refl
signed_is_not_narrow (cast w f at) h = absurd (grind (arith, h))
signed_is_not_narrow (binary o f g at) h =
    let b = and_parts (is_sum_or_product o) (is_signed f && is_signed g) h in
    let sides = and_parts (is_signed f) (is_signed g) b.1 in
    makes_none o (is_narrow f) (is_narrow g) (is_signed f) (is_signed g) b.0 (signed_is_not_narrow f sides.0)
    (signed_is_not_narrow g sides.1)

pub narrow_is_not_signed : (f : Formula) → is_narrow f ≡ true → is_signed f ≡ false
narrow_is_not_signed f h = by_sign (is_signed f) refl
  where
    by_sign : (s : Bool) → is_signed f ≡ s → s ≡ false
    by_sign true e = absurd (grind (arith, h, signed_is_not_narrow f e))
    by_sign false e = refl

applies_not : (b : Bool) (k : Kind) → only_where b k ≡ None → b ≡ false
applies_not true k h = absurd (grind (arith, h))
applies_not false k h = refl

bits_apart : (b m : Bool) → own_bits b m ≡ None → m ≡ false
bits_apart true m h = absurd (grind (arith, h))
bits_apart false m h = applies_not m kind.Width h

own_apart : (n : ℕ) (o : Op) (f g : Formula) (at : ℕ) → is_joining o ≡ true → (is_signed f && is_signed g) ≡ false
    → own n role.Value (binary o f g at) ≡ None → mixes f g ≡ false
own_apart n op.Plus f g at j u h = applies_not (mixes f g) kind.Width (rw u at h)
own_apart n op.Minus f g at j u h = applies_not (mixes f g) kind.Width (rw u at h)
own_apart n op.Times f g at j u h = applies_not (mixes f g) kind.Width (rw u at h)
own_apart n op.BitAnd f g at j u h = bits_apart (is_signed f && is_signed g) (mixes f g) h
own_apart n op.BitXor f g at j u h = bits_apart (is_signed f && is_signed g) (mixes f g) h
own_apart n op.BitOr f g at j u h = bits_apart (is_signed f && is_signed g) (mixes f g) h
own_apart n _ f g at j u h = absurd (grind (arith, j))

-- beside 32 bits no signed part stands that may not
pub value_apart : (n : ℕ) (o : Op) (f g : Formula) (at : ℕ) → is_joining o ≡ true → (is_signed f && is_signed g) ≡ false
    → first (faults n role.Value (binary o f g at)) ≡ None → mixes f g ≡ false
value_apart n o f g at j u h =
    let side = side_role o (is_signed f && is_signed g) role.Value in
    own_apart n o f g at j u
    (judged_none (faults n side f ++ faults n side g) at (own n role.Value (binary o f g at)) h).1

-- what stands beside a signed side, where both make 32 bits
beside_left : (o : Op) (n m s t : Bool) → n ≡ false → makes_narrow o n m s t ≡ true
    → (is_joining o ≡ true) × (m ≡ true)
beside_left o n m s t n_is h = by_shift (is_shift o) refl
  where
    by_shift : (b : Bool) → is_shift o ≡ b → (is_joining o ≡ true) × (m ≡ true)
    by_shift true shift = let n_here : n ≡ true = rw shift at h in absurd (grind (arith, n_is, n_here))
    by_shift false plain =
        let b = and_parts (is_joining o) ((n && (m || t)) || (s && m)) (rw plain at h) in
        (b.0, grind (arith, n_is, b.1))

beside_right : (o : Op) (n m s t : Bool) → is_shift o ≡ false → m ≡ false → makes_narrow o n m s t ≡ true
    → (is_joining o ≡ true) × (n ≡ true)
beside_right o n m s t shift m_is h =
    let b = and_parts (is_joining o) ((n && (m || t)) || (s && m)) (rw shift at h) in
    (b.0, grind (arith, m_is, b.1))

pub bare_there : (s b : Bool) → s ≡ true → (s && not b) ≡ false → b ≡ true
bare_there s b s_is h = grind (arith, s_is, h)

pub bare_left : (n : ℕ) (o : Op) (f g : Formula) (at : ℕ) → is_narrow (binary o f g at) ≡ true → is_signed f ≡ true
    → first (faults n role.Value (binary o f g at)) ≡ None → is_bare f ≡ true
bare_left n o f g at narrow signed h =
    let unlike = signed_is_not_narrow f signed in
    let beside = beside_left o (is_narrow f) (is_narrow g) (is_signed f) (is_signed g) unlike narrow in
    let other = narrow_is_not_signed g beside.1 in
    let apart = or_parts (is_narrow f && is_long g) (is_long f && is_narrow g)
    (value_apart n o f g at beside.0 (grind (arith, other)) h) in
    bare_there (is_signed f) (is_bare f) signed (grind (arith, beside.1, apart.1))

pub bare_right : (n : ℕ) (o : Op) (f g : Formula) (at : ℕ) → is_shift o ≡ false → is_narrow (binary o f g at) ≡ true
    → is_signed g ≡ true → first (faults n role.Value (binary o f g at)) ≡ None → is_bare g ≡ true
bare_right n o f g at shift narrow signed h =
    let beside = beside_right o (is_narrow f) (is_narrow g) (is_signed f) (is_signed g) shift
    (signed_is_not_narrow g signed) narrow in
    let other = narrow_is_not_signed f beside.1 in
    let apart = or_parts (is_narrow f && is_long g) (is_long f && is_narrow g)
    (value_apart n o f g at beside.0 (grind (arith, other)) h) in
    bare_there (is_signed g) (is_bare g) signed (grind (arith, beside.1, apart.0))

constant_fits : (b : Base) (v : ℕ) → nat_le v (greatest b) ≡ true → v < 2 ^ 32
constant_fits base.Decimal v h = grind arith
constant_fits base.Hexadecimal v h = grind arith

-- a signed part that may stand beside 32 bits is a form, or a constant of no more
pub bare_value : (n : ℕ) (f : Formula) → is_signed f ≡ true → is_bare f ≡ true → IsNarrowed converted (expression n f)
bare_value n (constant (suffix.Absent b) v at) s h = constant_fits b v h
bare_value n (constant suffix.Present v at) s h = absurd (grind (arith, s))
bare_value n (name m at) s h = tt
bare_value n (index p i) s h = absurd (grind (arith, s))
bare_value n (bare_call m at) s h = absurd (grind (arith, s))
bare_value n (call m f at) s h = absurd (grind (arith, s))
bare_value n (unary o f at) s h = rw s tt
bare_value n (cast w f at) s h = absurd (grind (arith, s))
bare_value n (binary o f g at) s h = rw s tt
