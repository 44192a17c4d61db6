-- What an expression without faults has of what the definitions ask: counts, and sides that may stand together.
use Rattle.scop_syntax.proofs.Common.{◌≡◌, ℕ, ◌-◌, ◌≤◌, ◌==◌, ◌^◌, Bool, true, false, ◌&&◌, ◌||◌, List, [], All, ap}
use Rattle.scop_syntax.proofs.Common.{sym, ◌∙◌, refl, arith, nat_le, Some, None, and_parts, leb-true, eqb-true}
use Rattle.scop_syntax.proofs.Common.{not-true, All-get_or}
use Rattle.std.proofs.lemmas.Bool.{or_parts}
use Rattle.std.proofs.Math.Bool.{and_comm}
use Rattle.scop_expressions.specs.Assign.{Assign}
use Rattle.scop_expressions.specs.Assign.TheVariants as assigns
use Rattle.scop_expressions.specs.Base.{Base}
use Rattle.scop_expressions.specs.Base.TheVariants as base
use Rattle.scop_expressions.specs.Op.{Op}
use Rattle.scop_expressions.specs.Op.TheVariants as op
use Rattle.scop_expressions.specs.declared.token.Sign.TheVariants as sign
use Rattle.scop_expressions.specs.Suffix.TheVariants as suffix
use Rattle.scop_roles.specs.declared.kinds.Kind.TheVariants as kind
use Rattle.scop_roles.specs.declared.formula.Meaning.{Meaning}
use Rattle.scop_roles.specs.declared.formula.Meaning.TheVariants as meaning
use Rattle.scop_roles.specs.declared.formula.Role.TheVariants as role
use Rattle.scop_roles.specs.Faults.{first, told, faults, own_rank, is_count}
use Rattle.scop_roles.specs.Faults.{last_count, only_where}
use Rattle.scop_roles.specs.Forms.{is_joining, is_shift, is_signed, is_narrow, is_bare, is_long, mixes}
use Rattle.scop_roles.specs.Forms.{has_name, greatest as longest}
use Rattle.scop_roles.specs.Formula.{Formula, constant, name, unary, binary}
use Rattle.scop_roles.specs.Scope.{IsInScope}
use Rattle.scop_roles.proofs.Firsts.{first_none}
use Rattle.scop_roles.proofs.NodeFaults.{signed_is_affine}
use Rattle.scop_roles.proofs.Parts.{judged_none, signed_unary}
use Rattle.scop_roles.proofs.Parts.{signed_binary, binary_value, shift_counted}
use Rattle.scop_roles.proofs.Widths.{value_apart, bare_there}
use Rattle.scop_units.specs.Units.{own_assign}
use Rattle.scop_units.proofs.FaultlessUnits.{only_none, where_false, both_false, at_most}
use Rattle.scop_arithmetic.specs.Arithmetic.{HasWhole, HasWord, HasStored, IsCount, IsShort, MayStandBeside}
use Rattle.scop_arithmetic.specs.Arithmetic.{MayJoin, HasNoComma, Class, signed, narrow, class, is_signed_class}
use Rattle.scop_arithmetic.specs.Arithmetic.{has_sign, greatest}
use Rattle.scop_arithmetic.proofs.Wholes.{has_whole, affine_sides}
use Rattle.scop_arithmetic.proofs.Classes.{comma_sides, type_by, signed_class, class_same, sign_same}

-- counts
pub has_count : (b : Bool) (f : Formula) → is_count 0 (last_count b) f ≡ true → IsCount (type_by false b) f
has_count true (constant (suffix.Absent k) v at) e =
    let small = leb-true v 31 (and_parts (nat_le 0 v) (nat_le v 31) e).1 in omega arith
has_count false (constant (suffix.Absent k) v at) e =
    let small = leb-true v 63 (and_parts (nat_le 0 v) (nat_le v 63) e).1 in omega arith
has_count b _ e = absurd (cc)

-- what is signed and may stand beside 32 bits is short
constant_short : (b : Base) (v : ℕ) → v ≤ 2 ^ 20 → v ≤ greatest b
constant_short base.Decimal v h = omega arith
constant_short base.Hexadecimal v h = omega arith

whole_short : (n : ℕ) (f : Formula) → HasWhole f → first (faults n role.Affine f) ≡ None → has_name f ≡ false
    → IsShort f
whole_short n (constant (suffix.Absent b) v at) w h e =
    constant_short b v (at_most at (2 ^ 20) v kind.Coefficient (first_none _ h))
whole_short n (unary sign.Minus f at) w h e = whole_short n f w (judged_none (faults n role.Affine f) at None h).0 e
whole_short n (binary op.Plus f g at) w h e =
    let parts = affine_sides n op.Plus f g at h in
    let b = both_false (has_name f) (has_name g) e in
    (whole_short n f w.0 parts.2 b.0, whole_short n g w.1 parts.3 b.1)
whole_short n (binary op.Minus f g at) w h e =
    let parts = affine_sides n op.Minus f g at h in
    let b = both_false (has_name f) (has_name g) e in
    (whole_short n f w.0 parts.2 b.0, whole_short n g w.1 parts.3 b.1)
whole_short n (binary op.Times f g at) w h e =
    let parts = affine_sides n op.Times f g at h in
    let b = both_false (has_name f) (has_name g) e in
    (whole_short n f w.0 parts.2 b.0, whole_short n g w.1 parts.3 b.1)
whole_short n (name (meaning.Variable k) at) w h e = absurd (cc)
whole_short n _ w h e = absurd w

summand_short : (n : ℕ) (f : Formula) → first (faults n role.Signed f) ≡ None → has_name f ≡ false → IsShort f
summand_short n f h e = let a = signed_is_affine n f h in whole_short n f (has_whole n f a) a e

base_short : (b : Base) (v : ℕ) → nat_le v (longest b) ≡ true → v ≤ greatest b
base_short base.Decimal v h = leb-true v (2 ^ 31 - 1) h
base_short base.Hexadecimal v h = leb-true v (2 ^ 32 - 1) h

bare_short : (n : ℕ) (f : Formula) → first (faults n role.Value f) ≡ None → is_signed f ≡ true → is_bare f ≡ true
    → IsShort f
bare_short n (constant (suffix.Absent b) v at) h s e = base_short b v e
bare_short n (unary o f at) h s e =
    summand_short n (unary o f at) (signed_unary n o f at s h) (not-true (has_name f) e)
bare_short n (binary o f g at) h s e =
    summand_short n (binary o f g at) (signed_binary n o f g at s h) (not-true (has_name f || has_name g) e)
bare_short n _ h s e = absurd (cc)

-- a conjunction that is false, of which the first part holds
right_false : (a b : Bool) → a ≡ true → (a && b) ≡ false → b ≡ false
right_false true b e h = h
right_false false b e h = absurd (cc)

may_stand : (n : ℕ) (c : Class) (f : Formula) → has_sign f ≡ is_signed f → first (faults n role.Value f) ≡ None
    → (c ≡ narrow → is_long f ≡ false) → MayStandBeside c f
may_stand n c f sign h apart e s =
    let there = sym sign ∙ ap is_signed_class s in
    bare_short n f h there (bare_there (is_signed f) (is_bare f) there (apart e))

type_narrow : (s n : Bool) → type_by s n ≡ narrow → n ≡ true
type_narrow true n e = absurd (cc)
type_narrow false true e = refl
type_narrow false false e = absurd (cc)

may_join : (n : ℕ) (f g : Formula) → HasNoComma f → HasNoComma g → first (faults n role.Value f) ≡ None
    → first (faults n role.Value g) ≡ None → mixes f g ≡ false → MayJoin f g
may_join n f g c d h k apart =
    let parts = or_parts (is_narrow f && is_long g) (is_long f && is_narrow g) apart in (
      may_stand n (class f) g (sign_same n g d k) k
          (λ e. right_false (is_narrow f) (is_long g)
          (type_narrow (is_signed f) (is_narrow f) (sym (class_same n f c h) ∙ e)) parts.0),
      may_stand n (class g) f (sign_same n f c h) h
          (λ e. right_false (is_narrow g) (is_long f)
          (type_narrow (is_signed g) (is_narrow g) (sym (class_same n g d k) ∙ e))
          (and_comm (is_narrow g) (is_long f) ∙ parts.1)),
    )

pub signed_joins : (f g : Formula) → class f ≡ signed → class g ≡ signed → MayJoin f g
signed_joins f g c d = (λ e s. absurd (cc), λ e s. absurd (cc))

-- an operator of unsigned values: its sides may stand beside each other, or the right one is a count
pub value_joins : (n : ℕ) (o : Op) (f g : Formula) (at : ℕ) → HasNoComma (binary o f g at)
    → is_signed (binary o f g at) ≡ false → first (faults n role.Value (binary o f g at)) ≡ None
    → is_joining o ≡ true → MayJoin f g
value_joins n o f g at c u h j = by_sign (is_signed f && is_signed g) refl
  where
    by_sign : (b : Bool) → (is_signed f && is_signed g) ≡ b → MayJoin f g
    by_sign true e =
        let both = and_parts (is_signed f) (is_signed g) e in
        signed_joins f g (signed_class f both.0) (signed_class g both.1)
    by_sign false e =
        let plain = comma_sides o f g at c in
        let sides = binary_value n o f g at u h in
        may_join n f g plain.0 plain.1 sides.0 sides.1 (value_apart n o f g at j e h)

pub value_counts : (n : ℕ) (o : Op) (f g : Formula) (at : ℕ) → HasNoComma (binary o f g at)
    → first (faults n role.Value (binary o f g at)) ≡ None → is_shift o ≡ true → IsCount (class f) g
value_counts n op.ShiftLeft f g at c h s =
    rw (class_same n (binary op.ShiftLeft f g at) c h)
    (has_count (is_narrow f) g (shift_counted n op.ShiftLeft f g at s h))
value_counts n op.ShiftRight f g at c h s =
    rw (class_same n (binary op.ShiftRight f g at) c h)
    (has_count (is_narrow f) g (shift_counted n op.ShiftRight f g at s h))
value_counts n _ f g at c h s = absurd (cc)

-- a name that is a value is a number's: every array has an extent
pub name_word : (ranks : List ℕ) (n : ℕ) (m : Meaning) (at : ℕ) → All (λ r. 1 ≤ r) ranks → IsInScope ranks (name m at)
    → first (faults n role.Value (name m at)) ≡ None → HasWord (name m at)
name_word ranks n (meaning.Variable k) at some s h = tt
name_word ranks n meaning.Unknown at some s h =
    absurd (cc (judged_none (told at (Some kind.UnknownName)) at None h).0)
name_word ranks n meaning.Closed at some s h =
    absurd (cc (judged_none (told at (Some kind.IteratorOutside)) at None h).0)
name_word ranks n (meaning.Array k r b) at some s h =
    let own_none = (judged_none [] at (own_rank (name (meaning.Array k r b) at)) h).1 in
    let zero_is = eqb-true r 0 (only_none (r == 0) kind.Rank own_none) in
    let there = All-get_or (λ (i : ℕ). 1 ≤ i) ranks k 0 s.0 some in
    let same = s.1 in
    absurd (omega arith)

-- an operator that assigns, and its value; b: to a place of 32 bits
stored_stands : (n : ℕ) (b : Bool) (f : Formula) → HasNoComma f → first (faults n role.Value f) ≡ None
    → only_where (b && is_long f) kind.Width ≡ None → MayStandBeside (type_by false b) f
stored_stands n b f c h e =
    may_stand n (type_by false b) f (sign_same n f c h) h
    (λ t. right_false b (is_long f) (type_narrow false b t) (where_false (b && is_long f) kind.Width e))

pub has_stored : (n : ℕ) (b : Bool) (a : Assign) (f : Formula) → HasNoComma f → first (faults n role.Value f) ≡ None
    → own_assign b a f ≡ None → HasWord f → HasStored (type_by false b) a f
has_stored n b assigns.Set f c h e w = w
has_stored n b assigns.Divide f c h e w = absurd (cc)
has_stored n b assigns.Remainder f c h e w = absurd (cc)
has_stored n b assigns.ShiftLeft f c h e w = has_count b f (only_none (is_count 0 (last_count b) f) kind.ShiftCount e)
has_stored n b assigns.ShiftRight f c h e w = has_count b f (only_none (is_count 0 (last_count b) f) kind.ShiftCount e)
has_stored n b _ f c h e w = (w, stored_stands n b f c h e)
