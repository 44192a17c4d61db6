-- The type of a value without faults is the one that its role says.
use Rattle.scop_syntax.proofs.Common.{◌≡◌, ℕ, Bool, true, false, ◌&&◌, ◌||◌, ◌++◌, refl, ap, ◌∙◌, Option, Some, None}
use Rattle.scop_syntax.proofs.Common.{and_parts}
use Rattle.scop_expressions.specs.Op.{Op}
use Rattle.scop_expressions.specs.Op.TheVariants as op
use Rattle.scop_expressions.specs.declared.token.Sign.TheVariants as sign
use Rattle.scop_expressions.specs.Suffix.TheVariants as suffix
use Rattle.scop_expressions.specs.Width.{Width}
use Rattle.scop_expressions.specs.Width.TheVariants as width
use Rattle.scop_roles.specs.declared.kinds.Kind.{Kind}
use Rattle.scop_roles.specs.declared.kinds.Kind.TheVariants as kind
use Rattle.scop_roles.specs.declared.formula.Meaning.{Meaning}
use Rattle.scop_roles.specs.declared.formula.Meaning.TheVariants as meaning
use Rattle.scop_roles.specs.declared.formula.Role.TheVariants as role
use Rattle.scop_roles.specs.Faults.{first, faults, only_where, own, operand_role, or_else, side_role}
use Rattle.scop_roles.specs.Forms.{is_number, is_signed, is_narrow, is_narrow_array, is_narrow_width, is_sum_or_product}
use Rattle.scop_roles.specs.Formula.{Formula, constant, name, index, unary, cast, binary, meaning_of}
use Rattle.scop_roles.proofs.NodeFaults.{or_else_none}
use Rattle.scop_roles.proofs.Parts.{judged_none, unary_value, binary_value}
use Rattle.scop_units.proofs.FaultlessUnits.{where_false}
use Rattle.scop_arithmetic.specs.Arithmetic.{Class, signed, narrow, full, common, made, name_class, cell_class, class}
use Rattle.scop_arithmetic.specs.Arithmetic.{named_class, is_signed_class, has_sign, HasNoComma}

pub comma_sides : (o : Op) (f g : Formula) (at : ℕ) → HasNoComma (binary o f g at) → HasNoComma f × HasNoComma g
comma_sides op.Comma f g at c = absurd c
comma_sides _ f g at c = c

-- what is signed in its role: an operator and both its sides
pub signed_parts : (o : Op) (f g : Formula) (at : ℕ) → is_signed (binary o f g at) ≡ true
    → (is_sum_or_product o ≡ true) × (is_signed f ≡ true) × (is_signed g ≡ true)
signed_parts o f g at e =
    let a = and_parts (is_sum_or_product o) (is_signed f && is_signed g) e in
    let b = and_parts (is_signed f) (is_signed g) a.1 in
    (a.0, b.0, b.1)

-- where a fault is told first, and there is none
apart : (b : Bool) (k : Option Kind) → or_else (only_where b kind.SignedValue) k ≡ None → b ≡ false
apart b k e = where_false b kind.SignedValue (or_else_none (only_where b kind.SignedValue) k e)

-- the type that a role says: whether it is signed, and whether it is unsigned with 32 bits
abbrev pub type_by : Bool → Bool → Class
type_by true n = signed
type_by false true = narrow
type_by false false = full

abbrev pub IsTyped : Formula → Type 0
IsTyped f = class f ≡ type_by (is_signed f) (is_narrow f)

name_signed : (m : Meaning) → is_number m ≡ true → name_class m ≡ signed
name_signed (meaning.Variable k) e = refl
name_signed meaning.Closed e = refl
name_signed _ e = absurd (cc)

made_signed : (o : Op) (c d : Class) → is_sum_or_product o ≡ true → c ≡ signed → d ≡ signed → made o c d ≡ signed
made_signed op.Plus c d o e f = rw e f
made_signed op.Minus c d o e f = rw e f
made_signed op.Times c d o e f = rw e f
made_signed _ c d o e f = absurd (cc)

pub signed_class : (f : Formula) → is_signed f ≡ true → class f ≡ signed
signed_class (constant (suffix.Absent b) v at) e = refl
signed_class (name m at) e = name_signed m e
signed_class (unary sign.Minus f at) e = signed_class f e
signed_class (binary o f g at) e =
    let parts = signed_parts o f g at e in
    made_signed o (class f) (class g) parts.0 (signed_class f parts.1) (signed_class g parts.2)
signed_class _ e = absurd (cc)

name_type : (m : Meaning) → name_class m ≡ type_by (is_number m) false
name_type (meaning.Variable k) = refl
name_type _ = refl

-- the cells of an array
pub cell_type : (f : Formula) → cell_class f ≡ type_by false (is_narrow_array (meaning_of f))
cell_type (name (meaning.Array k r true) at) = refl
cell_type (name (meaning.Array k r false) at) = refl
cell_type (index q i) = cell_type q
cell_type _ = refl

-- both sides of + - * & | ^
pub common_type : (s t n m : Bool)
    → common (type_by s n) (type_by t m) ≡ type_by (s && t) ((n && (m || t)) || (s && m))
common_type true true n m = refl
common_type true false false m = refl
common_type true false true true = refl
common_type true false true false = refl
common_type false t false m = refl
common_type false true true true = refl
common_type false true true false = refl
common_type false false true true = refl
common_type false false true false = refl

joined_type : (s t n m : Bool) → (s && t) ≡ false
    → common (type_by s n) (type_by t m) ≡ type_by false ((n && (m || t)) || (s && m))
joined_type s t n m u = common_type s t n m ∙ ap (λ b. type_by b ((n && (m || t)) || (s && m))) u

-- an operator without fault that is not signed in its role
unsigned_type : (n : ℕ) (o : Op) (f g : Formula) (at : ℕ) → is_signed (binary o f g at) ≡ false
    → own n role.Value (binary o f g at) ≡ None → HasNoComma (binary o f g at)
    → made o (type_by (is_signed f) (is_narrow f)) (type_by (is_signed g) (is_narrow g))
    ≡ type_by false (is_narrow (binary o f g at))
unsigned_type n op.Plus f g at u e c = joined_type (is_signed f) (is_signed g) (is_narrow f) (is_narrow g) u
unsigned_type n op.Minus f g at u e c = joined_type (is_signed f) (is_signed g) (is_narrow f) (is_narrow g) u
unsigned_type n op.Times f g at u e c = joined_type (is_signed f) (is_signed g) (is_narrow f) (is_narrow g) u
unsigned_type n op.BitAnd f g at u e c =
    joined_type (is_signed f) (is_signed g) (is_narrow f) (is_narrow g) (apart (is_signed f && is_signed g) _ e)
unsigned_type n op.BitXor f g at u e c =
    joined_type (is_signed f) (is_signed g) (is_narrow f) (is_narrow g) (apart (is_signed f && is_signed g) _ e)
unsigned_type n op.BitOr f g at u e c =
    joined_type (is_signed f) (is_signed g) (is_narrow f) (is_narrow g) (apart (is_signed f && is_signed g) _ e)
unsigned_type n op.ShiftLeft f g at u e c = ap (λ b. type_by b (is_narrow f)) (apart (is_signed f) _ e)
unsigned_type n op.ShiftRight f g at u e c = ap (λ b. type_by b (is_narrow f)) (apart (is_signed f) _ e)
unsigned_type n op.Comma f g at u e c = absurd c
unsigned_type n _ f g at u e c = absurd (cc)

pub cast_type : (w : Width) → named_class w ≡ type_by false (is_narrow_width w)
cast_type width.Narrow = refl
cast_type width.Full = refl

pub class_same : (n : ℕ) (f : Formula) → HasNoComma f → first (faults n role.Value f) ≡ None → IsTyped f
class_same n (name m at) c h = name_type m
class_same n (index q i) c h = cell_type q
class_same n (unary sign.Minus f at) c h =
    by_sign (is_signed f) refl (λ u. class_same n f c (unary_value n sign.Minus f at u h))
  where
    by_sign : (b : Bool) → is_signed f ≡ b → (is_signed f ≡ false → IsTyped f) → class f ≡ type_by b (is_narrow f)
    by_sign true e ih = signed_class f e
    by_sign false e ih = ih e ∙ ap (λ b. type_by b (is_narrow f)) e
class_same n (unary sign.Complement f at) c h =
    class_same n f c (unary_value n sign.Complement f at refl h) ∙ ap (λ b. type_by b (is_narrow f))
    (where_false (is_signed f) kind.SignedValue
    (judged_none (faults n (operand_role sign.Complement (is_signed f) role.Value) f) at
    (own n role.Value (unary sign.Complement f at)) h).1)
class_same n (unary sign.Not f at) c h =
    absurd (cc (judged_none (faults n (operand_role sign.Not (is_signed f) role.Value) f) at (Some kind.Condition) h).1)
class_same n (cast w f at) c h = cast_type w
class_same n (binary o f g at) c h =
    by_sign (is_signed (binary o f g at)) refl
    (λ u. class_same n f (comma_sides o f g at c).0 (binary_value n o f g at u h).0)
    (λ u. class_same n g (comma_sides o f g at c).1 (binary_value n o f g at u h).1)
  where
    by_sign : (b : Bool) → is_signed (binary o f g at) ≡ b → (is_signed (binary o f g at) ≡ false → IsTyped f)
        → (is_signed (binary o f g at) ≡ false → IsTyped g)
        → class (binary o f g at) ≡ type_by b (is_narrow (binary o f g at))
    by_sign true e left right = signed_class (binary o f g at) e
    by_sign false e left right =
        let side = side_role o (is_signed f && is_signed g) role.Value in
        let own_none =
        (judged_none (faults n side f ++ faults n side g) at (own n role.Value (binary o f g at)) h).1 in
        rw (left e, right e) (unsigned_type n o f g at e own_none c)
class_same n (constant (suffix.Absent b) v at) c h = refl
class_same n _ c h = refl

-- so it is signed by its type exactly where its role says so
pub type_signed : (s n : Bool) → is_signed_class (type_by s n) ≡ s
type_signed true n = refl
type_signed false true = refl
type_signed false false = refl

pub typed_sign : (f : Formula) → IsTyped f → has_sign f ≡ is_signed f
typed_sign f x = ap is_signed_class x ∙ type_signed (is_signed f) (is_narrow f)

pub sign_same : (n : ℕ) (f : Formula) → HasNoComma f → first (faults n role.Value f) ≡ None
    → has_sign f ≡ is_signed f
sign_same n f c h = typed_sign f (class_same n f c h)
