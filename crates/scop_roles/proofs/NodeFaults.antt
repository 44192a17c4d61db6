-- The first fault of each node from what is known of its parts.
use Rattle.scop_syntax.proofs.Common.{◌≡◌, ℕ, zero, suc, ◌==◌, Bool, true, false, ◌&&◌, ◌||◌, ◌++◌, Option, Some, None}
use Rattle.scop_syntax.proofs.Common.{inl, inr, ap, sym, ◌∙◌, refl, add-one, arith, ◌⊎◌, if◌then◌else◌}
use Rattle.scop_expressions.specs.Op.{Op}
use Rattle.scop_expressions.specs.Op.TheVariants as op
use Rattle.scop_expressions.specs.declared.token.Sign.{Sign}
use Rattle.scop_expressions.specs.declared.token.Sign.TheVariants as sign
use Rattle.scop_expressions.specs.Width.{Width}
use Rattle.scop_roles.specs.declared.kinds.Fault.{Fault}
use Rattle.scop_roles.specs.declared.kinds.Kind.{Kind}
use Rattle.scop_roles.specs.declared.kinds.Kind.TheVariants as kind
use Rattle.scop_roles.specs.declared.formula.Meaning.{Meaning}
use Rattle.scop_roles.specs.declared.formula.Role.{Role}
use Rattle.scop_roles.specs.declared.formula.Role.TheVariants as role
use Rattle.scop_roles.specs.declared.judgement.Judgement.{Judgement}
use Rattle.scop_roles.specs.Formula.{Formula, constant, name, index, bare_call, call, unary, cast, binary, place}
use Rattle.scop_roles.specs.Formula.{meaning_of, subscripts}
use Rattle.scop_roles.specs.Forms.{is_sum_or_product, is_signed, is_narrow, mixes}
use Rattle.scop_roles.specs.Faults.{first, first_of, told, faults, place_faults, named, called, operand_role, cast_role}
use Rattle.scop_roles.specs.Faults.{term_role, side_role, rank, own, own_affine, or_else, only_where}
use Rattle.scop_roles.specs.Faults.{are_plain_constants, is_count, last_count, is_shift_count}
use Rattle.scop_roles.specs.steps.Judgement.{IsJudgement, AreAffine, IsOwnAffine, in_role, part_or_own, own_joined}
use Rattle.scop_roles.specs.steps.Judgement.{lacking}
use Rattle.scop_roles.specs.steps.Judgement.{one_less, is_zero}
use Rattle.scop_roles.proofs.Firsts.{first-append, first-judged, first_of_none, part_or_own_none, part_or_own_same}
use Rattle.scop_roles.proofs.Firsts.{none_part_or_own, none_first_of}

pub faults_at : (n : ℕ) (f : Formula) (j : Judgement) (r : Role) → IsJudgement n f j
    → in_role j.faults r ≡ first (faults n r f)
faults_at n f j role.Affine h = h.affine
faults_at n f j role.Signed h = h.summand
faults_at n f j role.Value h = h.value
faults_at n f j role.Condition h = h.condition
faults_at n f j role.Loose h = h.loose
faults_at n f j role.Free h = h.free

pub name_first : (n : ℕ) (r : Role) (m : Meaning) (at : ℕ)
    → part_or_own (first (told at (named m))) at (own n r (name m at)) ≡ first (faults n r (name m at))
name_first n r m at = sym (first-judged (told at (named m)) at (own n r (name m at)))

pub index_first : (n : ℕ) (r : Role) (p i : Formula) (j k : Judgement) → IsJudgement n p j → IsJudgement n i k
    → part_or_own (first_of j.place_fault k.faults.affine) j.place (own n r (index p i))
    ≡ first (faults n r (index p i))
index_first n r p i j k h g =
    rw (h.place_fault, g.affine, h.place)
    (sym (first-judged (place_faults n p ++ faults n role.Affine i) (place p) (own n r (index p i))
    ∙ ap (λ (x : Option Fault). part_or_own x (place p) (own n r (index p i)))
    (first-append (place_faults n p) (faults n role.Affine i))))

pub bare_first : (n : ℕ) (r : Role) (m : Meaning) (at : ℕ)
    → part_or_own (first (told at (called m))) at (own n r (bare_call m at)) ≡ first (faults n r (bare_call m at))
bare_first n r m at = sym (first-judged (told at (called m)) at (own n r (bare_call m at)))

pub call_first : (n : ℕ) (r : Role) (m : Meaning) (f : Formula) (at : ℕ)
    → part_or_own (first_of (first (told at (called m))) (first (faults n role.Free f))) at (own n r (call m f at))
    ≡ first (faults n r (call m f at))
call_first n r m f at =
    sym (first-judged (told at (called m) ++ faults n role.Free f) at (own n r (call m f at))
    ∙ ap (λ (x : Option Fault). part_or_own x at (own n r (call m f at)))
    (first-append (told at (called m)) (faults n role.Free f)))

pub unary_first : (n : ℕ) (r : Role) (s : Sign) (f : Formula) (at : ℕ)
    → part_or_own (first (faults n (operand_role s (is_signed f) r) f)) at (own n r (unary s f at))
    ≡ first (faults n r (unary s f at))
unary_first n r s f at =
    sym (first-judged (faults n (operand_role s (is_signed f) r) f) at (own n r (unary s f at)))

pub cast_first : (n : ℕ) (r : Role) (w : Width) (f : Formula) (at : ℕ)
    → part_or_own (first (faults n (cast_role r) f)) at (own n r (cast w f at)) ≡ first (faults n r (cast w f at))
cast_first n r w f at = sym (first-judged (faults n (cast_role r) f) at (own n r (cast w f at)))

pub binary_first : (n : ℕ) (r : Role) (o : Op) (f g : Formula) (at : ℕ)
    → part_or_own (first_of (first (faults n (side_role o (is_signed f && is_signed g) r) f))
    (first (faults n (side_role o (is_signed f && is_signed g) r) g))) at (own n r (binary o f g at))
    ≡ first (faults n r (binary o f g at))
binary_first n r o f g at =
    let side = side_role o (is_signed f && is_signed g) r in
    sym (first-judged (faults n side f ++ faults n side g) at (own n r (binary o f g at))
    ∙ ap (λ (x : Option Fault). part_or_own x at (own n r (binary o f g at)))
    (first-append (faults n side f) (faults n side g)))

pub unary_judged : (n : ℕ) (r : Role) (s : Sign) (f : Formula) (j : Judgement) (at : ℕ) → IsJudgement n f j
    → part_or_own (in_role j.faults (operand_role s j.signed r)) at (own n r (unary s f at))
    ≡ first (faults n r (unary s f at))
unary_judged n r s f j at h =
    rw (h.signed, faults_at n f j (operand_role s (is_signed f) r) h) (unary_first n r s f at)

pub cast_judged : (n : ℕ) (r : Role) (w : Width) (f : Formula) (j : Judgement) (at : ℕ) → IsJudgement n f j
    → part_or_own (in_role j.faults (cast_role r)) at (own n r (cast w f at)) ≡ first (faults n r (cast w f at))
cast_judged n r w f j at h = rw (faults_at n f j (cast_role r) h) (cast_first n r w f at)

-- what is left of a rank behind so many subscripts
abbrev left_of : ℕ → ℕ → Option ℕ
left_of zero r = Some r
left_of (suc s) zero = None
left_of (suc s) (suc r) = left_of s r

left_less : (s r : ℕ) → one_less (left_of s r) ≡ left_of (suc s) r
left_less zero zero = refl
left_less zero (suc r) = refl
left_less (suc s) zero = refl
left_less (suc s) (suc r) = left_less s r

lacking_is : (f : Formula) → lacking f ≡ left_of (subscripts f) (rank (meaning_of f))
lacking_is (constant s v at) = refl
lacking_is (name m at) = refl
lacking_is (index p i) =
    ap one_less (lacking_is p) ∙ left_less (subscripts p) (rank (meaning_of p))
    ∙ ap (λ (k : ℕ). left_of k (rank (meaning_of p))) (sym (add-one (subscripts p)))
lacking_is (bare_call m at) = refl
lacking_is (call m f at) = refl
lacking_is (unary s f at) = refl
lacking_is (cast w f at) = refl
lacking_is (binary o f g at) = refl

left_none : (s r : ℕ) → is_zero (left_of s r) ≡ (r == s)
left_none zero zero = refl
left_none zero (suc r) = grind arith
left_none (suc s) zero = grind arith
left_none (suc s) (suc r) = let same = left_none s r in grind arith

-- the subscripts that a place lacks are none exactly where it has its rank
pub lacks_none : (f : Formula) → is_zero (lacking f) ≡ (rank (meaning_of f) == subscripts f)
lacks_none f = ap is_zero (lacking_is f) ∙ left_none (subscripts f) (rank (meaning_of f))

-- sides in the role of a signed part stand in that role, or in the same as in the affine one
pub signed_sides : (o : Op) (b : Bool)
    → ((is_sum_or_product o ≡ true) × (side_role o b role.Signed ≡ role.Signed)
    × (side_role o b role.Affine ≡ role.Affine))
    ⊎ ((is_sum_or_product o ≡ false) × (side_role o b role.Signed ≡ side_role o b role.Affine))
signed_sides op.Comma b = inr (refl, refl)
signed_sides op.LogicalOr b = inr (refl, refl)
signed_sides op.LogicalAnd b = inr (refl, refl)
signed_sides op.BitOr b = inr (refl, refl)
signed_sides op.BitXor b = inr (refl, refl)
signed_sides op.BitAnd b = inr (refl, refl)
signed_sides op.Equal b = inr (refl, refl)
signed_sides op.NotEqual b = inr (refl, refl)
signed_sides op.Less b = inr (refl, refl)
signed_sides op.AtMost b = inr (refl, refl)
signed_sides op.Greater b = inr (refl, refl)
signed_sides op.AtLeast b = inr (refl, refl)
signed_sides op.ShiftLeft b = inr (refl, refl)
signed_sides op.ShiftRight b = inr (refl, refl)
signed_sides op.Plus b = inl (refl, refl, refl)
signed_sides op.Minus b = inl (refl, refl, refl)
signed_sides op.Times b = inl (refl, refl, refl)
signed_sides op.Divide b = inr (refl, refl)
signed_sides op.Remainder b = inr (refl, refl)

pub or_else_none : (k l : Option Kind) → or_else k l ≡ None → k ≡ None
or_else_none None l h = refl
or_else_none (Some k) l h = h

-- what has no fault as a signed part has none as an affine formula
pub signed_is_affine : (n : ℕ) (f : Formula) → first (faults n role.Signed f) ≡ None
    → first (faults n role.Affine f) ≡ None
signed_is_affine n (constant s v at) h = h
signed_is_affine n (name m at) h = h
signed_is_affine n (index p i) h = h
signed_is_affine n (bare_call m at) h = h
signed_is_affine n (call m f at) h = h
signed_is_affine n (unary sign.Minus f at) h =
    let parts = part_or_own_none (first (faults n role.Signed f)) at None
    (unary_first n role.Signed sign.Minus f at ∙ h) in
    sym (unary_first n role.Affine sign.Minus f at)
    ∙ none_part_or_own (first (faults n role.Affine f)) at None (signed_is_affine n f parts.0) refl
signed_is_affine n (unary sign.Complement f at) h = h
signed_is_affine n (unary sign.Not f at) h = h
signed_is_affine n (cast w f at) h = h
signed_is_affine n (binary o f g at) h =
    let b = is_signed f && is_signed g in
    let whole = part_or_own_none (first_of (first (faults n (side_role o b role.Signed) f))
    (first (faults n (side_role o b role.Signed) g))) at
    (own n role.Signed (binary o f g at)) (binary_first n role.Signed o f g at ∙ h) in
    let parts = first_of_none (first (faults n (side_role o b role.Signed) f))
    (first (faults n (side_role o b role.Signed) g)) whole.0 in
    let own_none = or_else_none (own_affine n (binary o f g at)) (only_where (are_plain_constants f g) kind.SignedValue)
    whole.1 in
    sym (binary_first n role.Affine o f g at)
    ∙ none_part_or_own (first_of (first (faults n (side_role o b role.Affine) f))
    (first (faults n (side_role o b role.Affine) g))) at
    (own n role.Affine (binary o f g at))
    (none_first_of (first (faults n (side_role o b role.Affine) f)) (first (faults n (side_role o b role.Affine) g))
    (side f parts.0 (signed_is_affine n f)) (side g parts.1 (signed_is_affine n g)))
    own_none
  where
    side : (x : Formula) → first (faults n (side_role o (is_signed f && is_signed g) role.Signed) x) ≡ None
        → (first (faults n role.Signed x) ≡ None → first (faults n role.Affine x) ≡ None)
        → first (faults n (side_role o (is_signed f && is_signed g) role.Affine) x) ≡ None
    side x e ih = by_side x (signed_sides o (is_signed f && is_signed g)) e ih
      where
        by_side : (x : Formula)
            → ((is_sum_or_product o ≡ true) × (side_role o (is_signed f && is_signed g) role.Signed ≡ role.Signed)
            × (side_role o (is_signed f && is_signed g) role.Affine ≡ role.Affine))
            ⊎ ((is_sum_or_product o ≡ false) ×
            (side_role o (is_signed f && is_signed g) role.Signed
            ≡ side_role o (is_signed f && is_signed g) role.Affine))
            → first (faults n (side_role o (is_signed f && is_signed g) role.Signed) x) ≡ None
            → (first (faults n role.Signed x) ≡ None → first (faults n role.Affine x) ≡ None)
            → first (faults n (side_role o (is_signed f && is_signed g) role.Affine) x) ≡ None
        by_side x (inl s) e ih = rw s.2 (ih (rw s.1 at e))
        by_side x (inr s) e ih = rw (sym s.1) e

pub sum_sides : (o : Op) (b : Bool) (r : Role) → is_sum_or_product o ≡ true → side_role o b r ≡ term_role b r
sum_sides op.Plus b r h = refl
sum_sides op.Minus b r h = refl
sum_sides op.Times b r h = refl
sum_sides _ b r h = absurd (grind (arith, h))

-- the first fault of both sides in the role that an operator gives them
abbrev sides : ℕ → Role → Op → Formula → Formula → Option Fault
sides n r o f g =
    first_of (first (faults n (side_role o (is_signed f && is_signed g) r) f))
    (first (faults n (side_role o (is_signed f && is_signed g) r) g))

-- both are affine, where no fault is in a role that says so
both_affine : (n : ℕ) (o : Op) (f g : Formula) (r : Role)
    → (is_sum_or_product o ≡ true → side_role o (is_signed f && is_signed g) r ≡ role.Affine) → sides n r o f g ≡ None
    → AreAffine n o f g
both_affine n o f g r role_is h =
    λ s. let e = rw (role_is s) at h in first_of_none (first (faults n role.Affine f)) (first (faults n role.Affine g))
    e

both_signed : (n : ℕ) (o : Op) (f g : Formula) (r : Role)
    → (is_sum_or_product o ≡ true → side_role o (is_signed f && is_signed g) r ≡ role.Signed) → sides n r o f g ≡ None
    → AreAffine n o f g
both_signed n o f g r role_is h =
    λ s. let e = rw (role_is s) at h in
    let p = first_of_none (first (faults n role.Signed f)) (first (faults n role.Signed g)) e in
    (signed_is_affine n f p.0, signed_is_affine n g p.1)

-- what is wrong with an operator, where what is wrong with it as an affine one is known if its sides are affine
own_same : (n : ℕ) (r : Role) (o : Op) (f g : Formula) (at : ℕ) (a : Option Kind) → IsOwnAffine n o f g at a
    → sides n r o f g ≡ None
    → own_joined a r o (is_signed f) (is_signed g) (are_plain_constants f g) (is_shift_count f g) (mixes f g)
    ≡ own n r (binary o f g at)
own_same n role.Affine o f g at a is h =
    is (both_affine n o f g role.Affine (λ s. sum_sides o (is_signed f && is_signed g) role.Affine s) h)
own_same n role.Signed o f g at a is h =
    ap (λ (k : Option Kind). or_else k (only_where (are_plain_constants f g) kind.SignedValue))
    (is (both_signed n o f g role.Signed (λ s. sum_sides o (is_signed f && is_signed g) role.Signed s) h))
own_same n role.Value o f g at a is h =
    value_same (is_sum_or_product o) (is_signed f && is_signed g) refl refl
  where
    value_same : (b s : Bool) → is_sum_or_product o ≡ b → (is_signed f && is_signed g) ≡ s
        → own_joined a role.Value o (is_signed f) (is_signed g) (are_plain_constants f g) (is_shift_count f g)
        (mixes f g)
        ≡ own_joined (own_affine n (binary o f g at)) role.Value o (is_signed f) (is_signed g) (are_plain_constants f g)
        (is_shift_count f g) (mixes f g)
    value_same true true p q =
        let e = is (both_signed n o f g role.Value
        (λ s. sum_sides o (is_signed f && is_signed g) role.Value s ∙ ap (λ (x : Bool). term_role x role.Value) q) h) in
        rw e refl
    value_same true false p q = rw (p, q) refl
    value_same false s p q = rw p refl
own_same n role.Condition o f g at a is h = refl
own_same n role.Loose o f g at a is h = refl
own_same n role.Free o f g at a is h = refl

count_chosen : (narrow : Bool) (g : Formula)
    → (if narrow then is_count 0 31 g else is_count 0 63 g) ≡ is_count 0 (last_count narrow) g
count_chosen true g = refl
count_chosen false g = refl

pub binary_judged : (n : ℕ) (r : Role) (o : Op) (f g : Formula) (j k : Judgement) (at : ℕ) (a : Option Kind)
    → IsJudgement n f j → IsJudgement n g k → IsOwnAffine n o f g at a
    → part_or_own (first_of (in_role j.faults (side_role o (j.signed && k.signed) r))
    (in_role k.faults (side_role o (j.signed && k.signed) r))) at
    (own_joined a r o j.signed k.signed (j.constant && k.constant) (if j.narrow then k.narrow_count else k.count)
    ((j.narrow && k.long) || (j.long && k.narrow)))
    ≡ first (faults n r (binary o f g at))
binary_judged n r o f g j k at a h i is =
    rw (
      h.signed,
      i.signed,
      h.constant,
      i.constant,
      h.narrow,
      i.narrow,
      h.long,
      i.long,
      i.narrow_count,
      i.count,
      count_chosen (is_narrow f) g,
      faults_at n f j (side_role o (is_signed f && is_signed g) r) h,
      faults_at n g k (side_role o (is_signed f && is_signed g) r) i,
    )
    (part_or_own_same (sides n r o f g) at
    (own_joined a r o (is_signed f) (is_signed g) (are_plain_constants f g) (is_shift_count f g) (mixes f g))
    (own n r (binary o f g at)) (λ e. own_same n r o f g at a is e)
    ∙ binary_first n r o f g at)
