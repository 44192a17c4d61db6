-- The parts of a formula without faults in a role have none in theirs.
use Rattle.scop_syntax.proofs.Common.{◌≡◌, ℕ, Bool, true, false, ◌&&◌, ◌||◌, List, ◌++◌, Option, None, ap, sym, subst}
use Rattle.scop_syntax.proofs.Common.{◌∙◌, refl, arith, and_parts, if◌then◌else◌, not, Expression}
use Rattle.scop_expressions.specs.Op.{Op}
use Rattle.scop_expressions.specs.Op.TheVariants as op
use Rattle.scop_expressions.specs.declared.token.Sign.{Sign}
use Rattle.scop_expressions.specs.declared.token.Sign.TheVariants as sign
use Rattle.scop_expressions.specs.Suffix.TheVariants as suffix
use Rattle.scop_expressions.specs.Width.{Width}
use Rattle.scop_roles.specs.declared.kinds.Fault.{Fault}
use Rattle.scop_roles.specs.declared.kinds.Kind.{Kind}
use Rattle.scop_roles.specs.declared.kinds.Kind.TheVariants as kind
use Rattle.scop_roles.specs.declared.formula.Role.TheVariants as role
use Rattle.scop_syntax.specs.Tree as scop
use Rattle.scop_roles.specs.Formula.{Formula, constant, index, unary, cast, binary, place}
use Rattle.scop_roles.specs.Forms.{is_sum_or_product, is_shift, is_and, is_comparison, is_signed, is_narrow, mixes}
use Rattle.scop_roles.specs.Faults.{first, first_of, told, judged, faults, place_faults, operand_role, term_role}
use Rattle.scop_roles.specs.Faults.{side_role, own, own_rank, own_operator, or_else, only_where, are_plain_constants}
use Rattle.scop_roles.specs.Faults.{is_count, last_count, is_shift_count}
use Rattle.scop_roles.specs.steps.Judgement.{part_or_own}
use Rattle.scop_roles.specs.Values.{combined, operator}
use Rattle.scop_roles.proofs.Firsts.{first-append, first-judged, first_of_none, part_or_own_none, none_part_or_own}
use Rattle.scop_roles.proofs.NodeFaults.{unary_first, binary_first, sum_sides}

-- a node's parts and the node itself
pub judged_none : (fs : List Fault) (at : ℕ) (k : Option Kind) → first (judged fs (told at k)) ≡ None
    → (first fs ≡ None) × (k ≡ None)
judged_none fs at k h = part_or_own_none (first fs) at k (sym (first-judged fs at k) ∙ h)

pub append_none : (fs gs : List Fault) → first (fs ++ gs) ≡ None → (first fs ≡ None) × (first gs ≡ None)
append_none fs gs h = first_of_none (first fs) (first gs) (sym (first-append fs gs) ∙ h)

-- a place's name and its last subscript
pub place_parts : (n : ℕ) (p i : Formula) → first (place_faults n (index p i)) ≡ None
    → (first (place_faults n p) ≡ None) × (first (faults n role.Affine i) ≡ None)
place_parts n p i h = append_none (place_faults n p) (faults n role.Affine i) h

pub index_value : (n : ℕ) (p i : Formula) → first (faults n role.Value (index p i)) ≡ None
    → (first (place_faults n (index p i)) ≡ None) × (own_rank (index p i) ≡ None)
index_value n p i h = judged_none (place_faults n p ++ faults n role.Affine i) (place p) (own_rank (index p i)) h

pub cast_value : (n : ℕ) (w : Width) (f : Formula) (at : ℕ) → first (faults n role.Value (cast w f at)) ≡ None
    → first (faults n role.Value f) ≡ None
cast_value n w f at h = (judged_none (faults n role.Value f) at None h).0

pub unary_value : (n : ℕ) (s : Sign) (f : Formula) (at : ℕ) → is_signed (unary s f at) ≡ false
    → first (faults n role.Value (unary s f at)) ≡ None → first (faults n role.Value f) ≡ None
unary_value n sign.Minus f at unsigned h =
    let e : operand_role sign.Minus (is_signed f) role.Value ≡ role.Value = rw unsigned refl in
    subst (λ r. first (faults n r f) ≡ None) e
    (judged_none (faults n (operand_role sign.Minus (is_signed f) role.Value) f) at None h).0
unary_value n sign.Complement f at unsigned h =
    (judged_none (faults n role.Value f) at (own n role.Value (unary sign.Complement f at)) h).0
unary_value n sign.Not f at unsigned h =
    (judged_none (faults n role.Value f) at (own n role.Value (unary sign.Not f at)) h).0

-- a signed value has no fault as a signed part
pub signed_unary : (n : ℕ) (s : Sign) (f : Formula) (at : ℕ) → is_signed (unary s f at) ≡ true
    → first (faults n role.Value (unary s f at)) ≡ None → first (faults n role.Signed (unary s f at)) ≡ None
signed_unary n sign.Minus f at signed h =
    let e : operand_role sign.Minus (is_signed f) role.Value ≡ role.Signed = rw signed refl in
    let part = subst (λ r. first (faults n r f) ≡ None) e
    (judged_none (faults n (operand_role sign.Minus (is_signed f) role.Value) f) at None h).0 in
    sym (unary_first n role.Signed sign.Minus f at)
    ∙ none_part_or_own (first (faults n role.Signed f)) at None part refl
signed_unary n sign.Complement f at signed h = absurd (grind (arith, signed))
signed_unary n sign.Not f at signed h = absurd (grind (arith, signed))

pub signed_binary : (n : ℕ) (o : Op) (f g : Formula) (at : ℕ) → is_signed (binary o f g at) ≡ true
    → first (faults n role.Value (binary o f g at)) ≡ None → first (faults n role.Signed (binary o f g at)) ≡ None
signed_binary n o f g at signed h =
    let b = and_parts (is_sum_or_product o) (is_signed f && is_signed g) signed in
    let value_side : side_role o (is_signed f && is_signed g) role.Value ≡ role.Signed =
    sum_sides o (is_signed f && is_signed g) role.Value b.0 ∙ ap (λ x. term_role x role.Value) b.1 in
    let signed_side : side_role o (is_signed f && is_signed g) role.Signed ≡ role.Signed =
    sum_sides o (is_signed f && is_signed g) role.Signed b.0 in
    let side = side_role o (is_signed f && is_signed g) role.Value in
    let parts = judged_none (faults n side f ++ faults n side g) at (own n role.Value (binary o f g at)) h in
    let same : own n role.Value (binary o f g at) ≡ own n role.Signed (binary o f g at) = rw (b.0, b.1) refl in
    let p = append_none (faults n side f) (faults n side g) parts.0 in
    let whole : first_of (first (faults n role.Signed f)) (first (faults n role.Signed g)) ≡ None =
    rw (subst (λ r. first (faults n r f) ≡ None) value_side p.0)
    (subst (λ r. first (faults n r g) ≡ None) value_side p.1) in
    sym (binary_first n role.Signed o f g at)
    ∙ subst (λ r. part_or_own (first_of (first (faults n r f)) (first (faults n r g))) at
    (own n role.Signed (binary o f g at)) ≡ None)
    (sym signed_side)
    (none_part_or_own (first_of (first (faults n role.Signed f)) (first (faults n role.Signed g))) at
    (own n role.Signed (binary o f g at)) whole (sym same ∙ parts.1))

-- the sides of an operator of an unsigned value without fault are values
value_side : (o : Op) (b k c m : Bool) (s t : Bool) → (is_sum_or_product o && b) ≡ false → (s && t) ≡ b
    → (if is_sum_or_product o then None else own_operator o s t c k m) ≡ None → side_role o b role.Value ≡ role.Value
value_side op.Comma b k c m s t u e h = refl
value_side op.LogicalOr b k c m s t u e h = refl
value_side op.LogicalAnd b k c m s t u e h = refl
value_side op.BitOr b k c m s t u e h = refl
value_side op.BitXor b k c m s t u e h = refl
value_side op.BitAnd b k c m s t u e h = refl
value_side op.Equal b k c m s t u e h = absurd (grind (arith, h))
value_side op.NotEqual b k c m s t u e h = absurd (grind (arith, h))
value_side op.Less b k c m s t u e h = absurd (grind (arith, h))
value_side op.AtMost b k c m s t u e h = absurd (grind (arith, h))
value_side op.Greater b k c m s t u e h = absurd (grind (arith, h))
value_side op.AtLeast b k c m s t u e h = absurd (grind (arith, h))
value_side op.ShiftLeft b k c m s t u e h = refl
value_side op.ShiftRight b k c m s t u e h = refl
value_side op.Plus b k c m s t u e h = rw u refl
value_side op.Minus b k c m s t u e h = rw u refl
value_side op.Times b k c m s t u e h = rw u refl
value_side op.Divide b k c m s t u e h = refl
value_side op.Remainder b k c m s t u e h = refl

unsigned_own : (n : ℕ) (o : Op) (f g : Formula) (at : ℕ) (a b : Bool) → is_sum_or_product o ≡ a
    → (is_signed f && is_signed g) ≡ b → (a && b) ≡ false → own n role.Value (binary o f g at) ≡ None
    → (if is_sum_or_product o then None
    else own_operator o (is_signed f) (is_signed g) (are_plain_constants f g) (is_shift_count f g) (mixes f g)) ≡ None
unsigned_own n o f g at true true p q u h = absurd (grind (arith, u))
unsigned_own n o f g at true false p q u h = rw p refl
unsigned_own n o f g at false b p q u h = rw p (rw p at h)

pub binary_value : (n : ℕ) (o : Op) (f g : Formula) (at : ℕ) → is_signed (binary o f g at) ≡ false
    → first (faults n role.Value (binary o f g at)) ≡ None
    → (first (faults n role.Value f) ≡ None) × (first (faults n role.Value g) ≡ None)
binary_value n o f g at u h =
    let side = side_role o (is_signed f && is_signed g) role.Value in
    let parts = judged_none (faults n side f ++ faults n side g) at (own n role.Value (binary o f g at)) h in
    let own_none = unsigned_own n o f g at (is_sum_or_product o) (is_signed f && is_signed g) refl refl u parts.1 in
    let e = value_side o (is_signed f && is_signed g) (is_shift_count f g) (are_plain_constants f g) (mixes f g)
    (is_signed f) (is_signed g) u refl own_none in
    let p = append_none (faults n side f) (faults n side g) parts.0 in
    (subst (λ r. first (faults n r f) ≡ None) e p.0, subst (λ r. first (faults n r g) ≡ None) e p.1)

-- a shift without fault has a count
count_there : (s k : Bool) → or_else (only_where s kind.SignedValue) (only_where (not k) kind.ShiftCount) ≡ None
    → k ≡ true
count_there s true h = refl
count_there true false h = absurd (grind (arith, h))
count_there false false h = absurd (grind (arith, h))

pub shift_counted : (n : ℕ) (o : Op) (f g : Formula) (at : ℕ) → is_shift o ≡ true
    → first (faults n role.Value (binary o f g at)) ≡ None → is_shift_count f g ≡ true
shift_counted n op.ShiftLeft f g at s h =
    count_there (is_signed f) (is_shift_count f g)
    (judged_none (faults n role.Value f ++ faults n role.Value g) at (own n role.Value (binary op.ShiftLeft f g at))
    h).1
shift_counted n op.ShiftRight f g at s h =
    count_there (is_signed f) (is_shift_count f g)
    (judged_none (faults n role.Value f ++ faults n role.Value g) at
    (own n role.Value (binary op.ShiftRight f g at)) h).1
shift_counted n _ f g at s h = absurd (grind (arith, s))

-- a count below 64
count_below : (narrow : Bool) (g : Formula) → is_count 0 (last_count narrow) g ≡ true → is_count 0 63 g ≡ true
count_below false g h = h
count_below true (constant (suffix.Absent b) v at) h = grind arith
count_below true _ h = h

pub shift_count : (n : ℕ) (o : Op) (f g : Formula) (at : ℕ) → is_shift o ≡ true
    → first (faults n role.Value (binary o f g at)) ≡ None → is_count 0 63 g ≡ true
shift_count n o f g at s h = count_below (is_narrow f) g (shift_counted n o f g at s h)

pub combined_plain : (o : Op) (e d : Expression) (k : ℕ) → is_shift o ≡ false
    → combined o e d k ≡ scop.binary (operator o) e d
combined_plain op.ShiftLeft e d k s = absurd (grind (arith, s))
combined_plain op.ShiftRight e d k s = absurd (grind (arith, s))
combined_plain _ e d k s = refl

-- a condition without fault is of conditions joined, or a comparison of affine formulas
and_sides : (o : Op) (b : Bool) → is_and o ≡ true → side_role o b role.Condition ≡ role.Condition
and_sides op.LogicalAnd b h = refl
and_sides _ b h = absurd (grind (arith, h))

pub condition_sides : (n : ℕ) (o : Op) (f g : Formula) (at : ℕ) → is_and o ≡ true
    → first (faults n role.Condition (binary o f g at)) ≡ None
    → (first (faults n role.Condition f) ≡ None) × (first (faults n role.Condition g) ≡ None)
condition_sides n o f g at a h =
    let side = side_role o (is_signed f && is_signed g) role.Condition in
    let e = and_sides o (is_signed f && is_signed g) a in
    let p = append_none (faults n side f) (faults n side g)
    (judged_none (faults n side f ++ faults n side g) at (own n role.Condition (binary o f g at)) h).0 in
    (subst (λ r. first (faults n r f) ≡ None) e p.0, subst (λ r. first (faults n r g) ≡ None) e p.1)

compares : (a c : Bool) → a ≡ false → only_where (not (a || c)) kind.Condition ≡ None → c ≡ true
compares true c a h = absurd (grind (arith, a))
compares false true a h = refl
compares false false a h = absurd (grind (arith, h))

pub comparison_sides : (n : ℕ) (o : Op) (f g : Formula) (at : ℕ) → is_and o ≡ false
    → first (faults n role.Condition (binary o f g at)) ≡ None
    → (first (faults n role.Affine f) ≡ None) × (first (faults n role.Affine g) ≡ None)
comparison_sides n o f g at a h =
    let side = side_role o (is_signed f && is_signed g) role.Condition in
    let whole = judged_none (faults n side f ++ faults n side g) at (own n role.Condition (binary o f g at)) h in
    let e : side_role o (is_signed f && is_signed g) role.Condition ≡ role.Affine =
    rw (compares (is_and o) (is_comparison o) a whole.1) refl in
    let p = append_none (faults n side f) (faults n side g) whole.0 in
    (subst (λ r. first (faults n r f) ≡ None) e p.0, subst (λ r. first (faults n r g) ≡ None) e p.1)
