-- What has no fault where it stands means something within the limits.
use Rattle.scop_syntax.proofs.Common.{◌≡◌, ◌∙◌, ap, sym, subst, refl, ℕ, ◌≤◌, ◌==◌, ◌^◌, Bool, true, false, ◌&&◌, List}
use Rattle.scop_syntax.proofs.Common.{[], ◌∷◌, ◌++◌, pos, ◌-ℤ◌, get_or, All, inl, inr, set, Option, Some, None}
use Rattle.scop_syntax.proofs.Common.{eqb-true, length-set, All-nil, All-cons, zeros, length-zeros, at_most_at}
use Rattle.scop_expressions.specs.Op.{Op}
use Rattle.scop_expressions.specs.Op.TheVariants as op
use Rattle.scop_expressions.specs.declared.token.Sign.TheVariants as sign
use Rattle.scop_expressions.specs.Suffix.TheVariants as suffix
use Rattle.scop_roles.specs.declared.kinds.Kind.{Kind}
use Rattle.scop_roles.specs.declared.kinds.Kind.TheVariants as kind
use Rattle.scop_roles.specs.declared.formula.Meaning.{Meaning}
use Rattle.scop_roles.specs.declared.formula.Meaning.TheVariants as meaning
use Rattle.scop_roles.specs.declared.formula.Role.TheVariants as role
use Rattle.scop_roles.specs.Faults.{first, told, faults, place_faults, called, own, own_rank, rank, only_where}
use Rattle.scop_roles.specs.Faults.{or_else, side_role, operand_role, are_plain_constants}
use Rattle.scop_roles.specs.Forms.{is_sum_or_product, is_product, is_comparison, is_and, is_shift, is_joining}
use Rattle.scop_roles.specs.Forms.{is_signed, has_name, form, is_within}
use Rattle.scop_roles.specs.Formula.{Formula, constant, name, index, bare_call, call, unary, cast, binary, place}
use Rattle.scop_roles.specs.Formula.{meaning_of, subscripts}
use Rattle.scop_roles.specs.Scope.{IsArray, IsArrayName, IsInScope}
use Rattle.scop_roles.proofs.Affines.{ranked_array}
use Rattle.scop_roles.proofs.Firsts.{first_none}
use Rattle.scop_roles.proofs.NodeFaults.{signed_is_affine, sum_sides}
use Rattle.scop_roles.proofs.Parts.{judged_none, append_none, place_parts, index_value, cast_value, unary_value}
use Rattle.scop_roles.proofs.Parts.{signed_unary, signed_binary, binary_value, condition_sides}
use Rattle.scop_roles.proofs.Parts.{comparison_sides}
use Rattle.scop_units.specs.Units.{Stored, own_cell, is_narrow_cell, cell_faults, stored_faults, extent_faults}
use Rattle.scop_units.proofs.FaultlessUnits.{parts_none, told_none, only_none, where_false}
use Rattle.scop_units.proofs.FaultlessUnits as standing
use Rattle.scop_arithmetic.specs.Arithmetic.{class, is_signed_class, has_sign, whole, HasNoComma, HasWhole}
use Rattle.scop_arithmetic.specs.Arithmetic.{MayJoin, IsCount, cell_class, HasCell, HasTruth, HasWord, HasStored}
use Rattle.scop_arithmetic.specs.Limits.{IsSmall, IsLinear, IsLinearTruth, JoinsNoConstants, IsSummand, IsLinearPlace}
use Rattle.scop_arithmetic.specs.Limits.{IsFitWord, IsFitStored}
use Rattle.scop_arithmetic.proofs.Wholes.{AreAffine, form_value, affine_sides, own_parts, has_whole}
use Rattle.scop_arithmetic.proofs.Conditions.{is_compared, no_condition}
use Rattle.scop_arithmetic.proofs.Classes.{comma_sides, cell_type, signed_class, sign_same, signed_parts}
use Rattle.scop_arithmetic.proofs.DefinedExpressions.{signed_joins, value_joins, value_counts, name_word}
use Rattle.scop_arithmetic.proofs.DefinedExpressions.{has_stored}
use Rattle.scop_arithmetic.proofs.Stores.{stored_parts}
use Rattle.scop_arithmetic.proofs.MeaningfulExpressions.{at_zeros, at_unit, linear_sign}

-- affine expressions
small_of : (affine : AreAffine) (n : ℕ) (f : Formula) → first (faults n role.Affine f) ≡ None → IsSmall n f
small_of affine n f h =
    let is = affine n f h in
    let origin = form_value n f (zeros n) (length-zeros n) h in
    let constant_is : whole (zeros n) f ≡ (form n f).constant = sym origin ∙ at_zeros (form n f) n in
    record {
      constant = rw constant_is is.constant;
      entries = λ k lt.
          let unit = form_value n f (set (zeros n) k (pos 1)) (length-set (zeros n) k (pos 1) ∙ length-zeros n) h in
          let same : whole (set (zeros n) k (pos 1)) f -ℤ whole (zeros n) f ≡ get_or (form n f).coefficients k (pos 0) =
          rw (sym unit, sym origin) (at_unit (form n f) n k lt) in
          rw same (at_most_at 16 (form n f).coefficients k is.coefficients);
    }

-- of a whole number
linear : (affine : AreAffine) (n : ℕ) (f : Formula) → HasWhole f → first (faults n role.Affine f) ≡ None → IsLinear n f
linear affine n (constant (suffix.Absent b) v at) w h =
    standing.at_most at (2 ^ 20) v kind.Coefficient (first_none _ h)
linear affine n (name (meaning.Variable k) at) w h = tt
linear affine n (unary sign.Minus f at) w h = linear affine n f w (judged_none (faults n role.Affine f) at None h).0
linear affine n (binary op.Plus f g at) w h =
    let parts = affine_sides n op.Plus f g at h in
    let small = small_of affine n (binary op.Plus f g at) h in
    (linear affine n f w.0 parts.2, linear affine n g w.1 parts.3, small)
linear affine n (binary op.Minus f g at) w h =
    let parts = affine_sides n op.Minus f g at h in
    let small = small_of affine n (binary op.Minus f g at) h in
    (linear affine n f w.0 parts.2, linear affine n g w.1 parts.3, small)
linear affine n (binary op.Times f g at) w h =
    let parts = affine_sides n op.Times f g at h in
    let small = small_of affine n (binary op.Times f g at) h in
    (linear affine n f w.0 parts.2, linear affine n g w.1 parts.3, parts.1, small)
linear affine n _ w h = absurd w

pub linear_of : (affine : AreAffine) (n : ℕ) (f : Formula) → first (faults n role.Affine f) ≡ None → IsLinear n f
linear_of affine n f h = linear affine n f (has_whole n f h) h

-- conditions
compared_linear : (n : ℕ) (o : Op) (f g : Formula) (at : ℕ) → is_comparison o ≡ true → IsLinear n f → IsLinear n g
    → IsLinearTruth n (binary o f g at)
compared_linear n op.Less f g at c x y = (x, y)
compared_linear n op.AtMost f g at c x y = (x, y)
compared_linear n op.Greater f g at c x y = (x, y)
compared_linear n op.AtLeast f g at c x y = (x, y)
compared_linear n op.Equal f g at c x y = (x, y)
compared_linear n _ f g at c x y = absurd (cc)

alone_linear : (affine : AreAffine) (n : ℕ) (o : Op) (f g : Formula) (at : ℕ) → is_and o ≡ false
    → first (faults n role.Condition (binary o f g at)) ≡ None → IsLinearTruth n (binary o f g at)
alone_linear affine n o f g at a h =
    let sides = comparison_sides n o f g at a h in
    compared_linear n o f g at (is_compared n o f g at a h) (linear_of affine n f sides.0)
    (linear_of affine n g sides.1)

pub truth_of : (affine : AreAffine) (n : ℕ) (f : Formula) → first (faults n role.Condition f) ≡ None
    → IsLinearTruth n f
truth_of affine n (binary op.LogicalAnd f g at) h =
    let sides = condition_sides n op.LogicalAnd f g at refl h in
    (truth_of affine n f sides.0, truth_of affine n g sides.1)
truth_of affine n (binary o f g at) h = alone_linear affine n o f g at refl h
truth_of affine n f h = absurd (no_condition n f tt h)

-- places
array_place : (n : ℕ) (m : Meaning) (at : ℕ) → IsArrayName m → IsLinearPlace n (name m at)
array_place n (meaning.Array k r b) at a = tt
array_place n meaning.Unknown at a = absurd a
array_place n meaning.Closed at a = absurd a
array_place n (meaning.Variable k) at a = absurd a

pub place_of : (affine : AreAffine) (n : ℕ) (f : Formula) → IsArray f → first (place_faults n f) ≡ None
    → IsLinearPlace n f
place_of affine n (name m at) a h = array_place n m at a
place_of affine n (index q i) a h =
    let parts = place_parts n q i h in (place_of affine n q a parts.0, linear_of affine n i parts.1)
place_of affine n _ a h = absurd a

rank_is : (f : Formula) → own_rank f ≡ None → rank (meaning_of f) ≡ subscripts f
rank_is f e =
    eqb-true (rank (meaning_of f)) (subscripts f) (only_none (rank (meaning_of f) == subscripts f) kind.Rank e)

-- summands
or_parts : (k l : Option Kind) → or_else k l ≡ None → (k ≡ None) × (l ≡ None)
or_parts None l e = (refl, e)
or_parts (Some k) l e = absurd (cc)

joins_none : (n : ℕ) (f : Formula) → first (faults n role.Signed f) ≡ None → JoinsNoConstants f
joins_none n (unary sign.Minus f at) h = joins_none n f (judged_none (faults n role.Signed f) at None h).0
joins_none n (unary sign.Complement f at) h =
    absurd (cc (judged_none (faults n role.Free f) at (Some kind.NotAffine) h).1)
joins_none n (unary sign.Not f at) h = absurd (cc (judged_none (faults n role.Free f) at (Some kind.NotAffine) h).1)
joins_none n (binary o f g at) h =
    let b = is_signed f && is_signed g in
    let side = side_role o b role.Signed in
    let all = judged_none (faults n side f ++ faults n side g) at (own n role.Signed (binary o f g at)) h in
    let parts = append_none (faults n side f) (faults n side g) all.0 in
    let owns = or_parts _ (only_where (are_plain_constants f g) kind.SignedValue) all.1 in
    let t = own_parts (is_sum_or_product o) (is_product o && (has_name f && has_name g))
    (is_within (form n (binary o f g at))) owns.0 in
    let role_is = sum_sides o b role.Signed t.0 in (
      where_false (are_plain_constants f g) kind.SignedValue owns.1,
      joins_none n f (subst (λ r. first (faults n r f) ≡ None) role_is parts.0),
      joins_none n g (subst (λ r. first (faults n r g) ≡ None) role_is parts.1),
    )
joins_none n _ h = tt

summand_of : (affine : AreAffine) (n : ℕ) (f : Formula) → is_signed f ≡ true → first (faults n role.Signed f) ≡ None
    → IsSummand n f
summand_of affine n f e h =
    (ap is_signed_class (signed_class f e), linear_of affine n f (signed_is_affine n f h), joins_none n f h)

sum_fits : (n : ℕ) (o : Op) (f g : Formula) (at : ℕ) → is_sum_or_product o ≡ true → IsSummand n (binary o f g at)
    → IsFitWord n (binary o f g at)
sum_fits n op.Plus f g at s x = inl x
sum_fits n op.Minus f g at s x = inl x
sum_fits n op.Times f g at s x = inl x
sum_fits n _ f g at s x = absurd (cc)

-- values
unsigned_fits : (n : ℕ) (o : Op) (f g : Formula) (at : ℕ) → has_sign (binary o f g at) ≡ false
    → own n role.Value (binary o f g at) ≡ None → HasNoComma (binary o f g at) → (is_joining o ≡ true → MayJoin f g)
    → (is_shift o ≡ true → IsCount (class f) g) → IsFitWord n f → IsFitWord n g → IsFitWord n (binary o f g at)
unsigned_fits n op.Plus f g at u e c joins counts x y = inr (u, x, y, joins refl)
unsigned_fits n op.Minus f g at u e c joins counts x y = inr (u, x, y, joins refl)
unsigned_fits n op.Times f g at u e c joins counts x y = inr (u, x, y, joins refl)
unsigned_fits n op.BitAnd f g at u e c joins counts x y = (u, x, y, joins refl)
unsigned_fits n op.BitOr f g at u e c joins counts x y = (u, x, y, joins refl)
unsigned_fits n op.BitXor f g at u e c joins counts x y = (u, x, y, joins refl)
unsigned_fits n op.ShiftLeft f g at u e c joins counts x y = (u, x, counts refl)
unsigned_fits n op.ShiftRight f g at u e c joins counts x y = (u, x, counts refl)
unsigned_fits n op.Comma f g at u e c joins counts x y = absurd c
unsigned_fits n _ f g at u e c joins counts x y = absurd (cc)

name_fits : (n : ℕ) (m : Meaning) (at : ℕ) → HasWhole (name m at) → IsFitWord n (name m at)
name_fits n (meaning.Variable k) at h = tt
name_fits n meaning.Unknown at h = absurd h
name_fits n meaning.Closed at h = absurd h
name_fits n (meaning.Array k r b) at h = absurd h

pub word_of : (affine : AreAffine) (ranks : List ℕ) (n : ℕ) (f : Formula) → All (λ r. 1 ≤ r) ranks → IsInScope ranks f
    → HasNoComma f → first (faults n role.Value f) ≡ None → IsFitWord n f
word_of affine ranks n (constant t v at) some s c h = tt
word_of affine ranks n (name m at) some s c h = name_fits n m at (name_word ranks n m at some s h)
word_of affine ranks n (index q i) some s c h =
    let parts = index_value n q i h in
    let same = rank_is (index q i) parts.1 in
    (place_of affine n (index q i) (ranked_array (meaning_of q) (subscripts q) same) parts.0, same)
word_of affine ranks n (bare_call m at) some s c h =
    absurd (cc (judged_none (told at (called m)) at (Some kind.Call) h).1)
word_of affine ranks n (call m f at) some s c h =
    absurd (cc (judged_none (told at (called m) ++ faults n role.Free f) at (Some kind.Call) h).1)
word_of affine ranks n (unary sign.Minus f at) some s c h =
    by_sign (is_signed f) refl (λ u. word_of affine ranks n f some s c (unary_value n sign.Minus f at u h))
  where
    by_sign : (b : Bool) → is_signed f ≡ b → (is_signed f ≡ false → IsFitWord n f)
        → IsFitWord n (unary sign.Minus f at)
    by_sign true e ih =
        inl (summand_of affine n f e
        (judged_none (faults n role.Signed f) at None (signed_unary n sign.Minus f at e h)).0)
    by_sign false e ih = inr (sign_same n f c (unary_value n sign.Minus f at e h) ∙ e, ih e)
word_of affine ranks n (unary sign.Complement f at) some s c h = (
  sign_same n (unary sign.Complement f at) c h,
  word_of affine ranks n f some s c (unary_value n sign.Complement f at refl h),
)
word_of affine ranks n (unary sign.Not f at) some s c h =
    absurd (cc (judged_none (faults n (operand_role sign.Not (is_signed f) role.Value) f) at (Some kind.Condition) h).1)
word_of affine ranks n (cast w f at) some s c h = word_of affine ranks n f some s c (cast_value n w f at h)
word_of affine ranks n (binary o f g at) some s c h =
    by_sign (is_signed (binary o f g at)) refl
    (λ u. word_of affine ranks n f some s.0 (comma_sides o f g at c).0 (binary_value n o f g at u h).0)
    (λ u. word_of affine ranks n g some s.1 (comma_sides o f g at c).1 (binary_value n o f g at u h).1)
  where
    by_sign : (b : Bool) → is_signed (binary o f g at) ≡ b → (is_signed (binary o f g at) ≡ false → IsFitWord n f)
        → (is_signed (binary o f g at) ≡ false → IsFitWord n g) → IsFitWord n (binary o f g at)
    by_sign true e left right =
        sum_fits n o f g at (signed_parts o f g at e).0
        (summand_of affine n (binary o f g at) e (signed_binary n o f g at e h))
    by_sign false e left right =
        let side = side_role o (is_signed f && is_signed g) role.Value in
        let own_none =
        (judged_none (faults n side f ++ faults n side g) at (own n role.Value (binary o f g at)) h).1 in
        unsigned_fits n o f g at (sign_same n (binary o f g at) c h ∙ e) own_none c
        (value_joins n o f g at c e h) (value_counts n o f g at c h) (left e) (right e)

-- what fits says something
linear_whole : (n : ℕ) (f : Formula) → IsLinear n f → HasWhole f
linear_whole n (constant (suffix.Absent b) v at) h = tt
linear_whole n (name (meaning.Variable k) at) h = tt
linear_whole n (unary sign.Minus f at) h = linear_whole n f h
linear_whole n (binary op.Plus f g at) h = (linear_whole n f h.0, linear_whole n g h.1)
linear_whole n (binary op.Minus f g at) h = (linear_whole n f h.0, linear_whole n g h.1)
linear_whole n (binary op.Times f g at) h = (linear_whole n f h.0, linear_whole n g h.1)
linear_whole n _ h = absurd h

pub place_cell : (n : ℕ) (f : Formula) → IsLinearPlace n f → HasCell f
place_cell n (name (meaning.Array k r b) at) h = tt
place_cell n (index q i) h = (place_cell n q h.0, linear_whole n i h.1)
place_cell n _ h = absurd h

pub fit_truth : (n : ℕ) (f : Formula) → IsLinearTruth n f → HasTruth f
fit_truth n (binary op.Less f g at) h = (linear_whole n f h.0, linear_whole n g h.1)
fit_truth n (binary op.AtMost f g at) h = (linear_whole n f h.0, linear_whole n g h.1)
fit_truth n (binary op.Greater f g at) h = (linear_whole n f h.0, linear_whole n g h.1)
fit_truth n (binary op.AtLeast f g at) h = (linear_whole n f h.0, linear_whole n g h.1)
fit_truth n (binary op.Equal f g at) h = (linear_whole n f h.0, linear_whole n g h.1)
fit_truth n (binary op.LogicalAnd f g at) h = (fit_truth n f h.0, fit_truth n g h.1)
fit_truth n _ h = absurd h

linear_joins : (n : ℕ) (f g : Formula) → IsLinear n f → IsLinear n g → MayJoin f g
linear_joins n f g x y = signed_joins f g (signed_class f (linear_sign n f x)) (signed_class g (linear_sign n g y))

linear_word : (n : ℕ) (f : Formula) → IsLinear n f → HasWord f
linear_word n (constant s v at) h = tt
linear_word n (name (meaning.Variable k) at) h = tt
linear_word n (unary sign.Minus f at) h = linear_word n f h
linear_word n (binary op.Plus f g at) h =
    (linear_word n f h.0, linear_word n g h.1, linear_joins n f g h.0 h.1)
linear_word n (binary op.Minus f g at) h =
    (linear_word n f h.0, linear_word n g h.1, linear_joins n f g h.0 h.1)
linear_word n (binary op.Times f g at) h =
    (linear_word n f h.0, linear_word n g h.1, linear_joins n f g h.0 h.1)
linear_word n _ h = absurd h

pub fit_word : (n : ℕ) (f : Formula) → IsFitWord n f → HasWord f
fit_word n (constant s v at) h = tt
fit_word n (name (meaning.Variable k) at) h = tt
fit_word n (index q i) h = place_cell n (index q i) h.0
fit_word n (unary sign.Minus f at) (inl h) = linear_word n f h.1
fit_word n (unary sign.Minus f at) (inr h) = fit_word n f h.1
fit_word n (unary sign.Complement f at) h = (h.0, fit_word n f h.1)
fit_word n (cast w f at) h = fit_word n f h
fit_word n (binary op.Plus f g at) (inl h) = linear_word n (binary op.Plus f g at) h.1
fit_word n (binary op.Plus f g at) (inr h) = (fit_word n f h.1, fit_word n g h.2, h.3)
fit_word n (binary op.Minus f g at) (inl h) = linear_word n (binary op.Minus f g at) h.1
fit_word n (binary op.Minus f g at) (inr h) = (fit_word n f h.1, fit_word n g h.2, h.3)
fit_word n (binary op.Times f g at) (inl h) = linear_word n (binary op.Times f g at) h.1
fit_word n (binary op.Times f g at) (inr h) = (fit_word n f h.1, fit_word n g h.2, h.3)
fit_word n (binary op.BitAnd f g at) h = (h.0, fit_word n f h.1, fit_word n g h.2, h.3)
fit_word n (binary op.BitOr f g at) h = (h.0, fit_word n f h.1, fit_word n g h.2, h.3)
fit_word n (binary op.BitXor f g at) h = (h.0, fit_word n f h.1, fit_word n g h.2, h.3)
fit_word n (binary op.ShiftLeft f g at) h = (h.0, fit_word n f h.1, h.2)
fit_word n (binary op.ShiftRight f g at) h = (h.0, fit_word n f h.1, h.2)
fit_word n _ h = absurd h

-- statements
pub stored_of : (affine : AreAffine) (ranks : List ℕ) (n : ℕ) (s : Stored) → All (λ r. 1 ≤ r) ranks
    → IsInScope ranks s.value → HasNoComma s.value → stored_faults n s ≡ [] → IsFitStored n s
stored_of affine ranks n s some scope plain e =
    let is = stored_parts n s e in
    let outer = standing.judged_none (cell_faults n s.cell ++ faults n role.Value s.value) _ e in
    let sides = parts_none (cell_faults n s.cell) _ outer.0 in
    let cell = parts_none (told (place s.cell) (own_cell s.cell)) _ sides.0 in
    let ranked = standing.judged_none (place_faults n s.cell) _ cell.1 in
    let value = word_of affine ranks n s.value some scope plain is.value in
    record {
      cell = place_of affine n s.cell is.array is.place;
      rank = rank_is s.cell (told_none (place s.cell) (own_rank s.cell) ranked.1);
      value = value;
      stores = rw (cell_type s.cell) (has_stored n (is_narrow_cell s.cell) s.assign s.value plain is.value is.own
          (fit_word n s.value value));
    }

pub stored_defined : (n : ℕ) (s : Stored) → IsFitStored n s
    → HasCell s.cell × HasWord s.value × HasStored (cell_class s.cell) s.assign s.value
stored_defined n s is = (place_cell n s.cell is.cell, fit_word n s.value is.value, is.stores)

pub extents_of : (affine : AreAffine) (n : ℕ) (fs : List Formula) → extent_faults n fs ≡ [] → All (IsLinear n) fs
extents_of affine n [] e = All-nil (IsLinear n)
extents_of affine n (f ∷ fs) e =
    let parts = parts_none (faults n role.Affine f) (extent_faults n fs) e in
    All-cons (IsLinear n) f fs (linear_of affine n f (ap first parts.0)) (extents_of affine n fs parts.1)
