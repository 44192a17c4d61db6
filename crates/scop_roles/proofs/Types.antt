-- The value of a formula without faults has the types that C gives it, where arrays have their widths.
use Rattle.scop_syntax.proofs.Common.{◌≡◌, ℕ, ◌+◌, ◌<◌, Bool, true, false, ◌&&◌, ◌||◌, ◌++◌, List, Some, None, sym}
use Rattle.scop_syntax.proofs.Common.{subst, refl, ◌∙◌, ap₂, arith, slice_index_or, if◌then◌else◌, Expression, affine}
use Rattle.scop_syntax.proofs.Common.{implied, converted, IsTyped}
use Rattle.scop_expressions.specs.Op.{Op}
use Rattle.scop_expressions.specs.Op.TheVariants as op
use Rattle.scop_expressions.specs.declared.token.Sign.{Sign}
use Rattle.scop_expressions.specs.declared.token.Sign.TheVariants as sign
use Rattle.scop_expressions.specs.Suffix.TheVariants as suffix
use Rattle.scop_expressions.specs.Width.{Width}
use Rattle.scop_expressions.specs.Width.TheVariants as width
use Rattle.scop_expressions.specs.Tree.{Tree, size}
use Rattle.scop_expressions.specs.Tree as tree
use Rattle.scop_syntax.specs.Tree as scop
use Rattle.scop_syntax.specs.Widths.{bits, is_narrow as has_type, IsTypedAs}
use Rattle.scop_roles.specs.declared.kinds.Kind.TheVariants as kind
use Rattle.scop_roles.specs.declared.formula.Meaning.{Meaning}
use Rattle.scop_roles.specs.declared.formula.Meaning.TheVariants as meaning
use Rattle.scop_roles.specs.declared.formula.Role.TheVariants as role
use Rattle.scop_roles.specs.Formula.{Formula, Lookup, formula, constant, name, index, bare_call, call, unary, cast}
use Rattle.scop_roles.specs.Formula.{binary, meaning_of, subscripts}
use Rattle.scop_roles.specs.Forms.{is_shift, is_joining, makes_narrow, is_signed, keeps_type}
use Rattle.scop_roles.specs.Forms.{is_narrow_array, is_narrow_width, is_narrow, form}
use Rattle.scop_roles.specs.Faults.{first, faults, side_role, own, rank, is_count, last_count}
use Rattle.scop_roles.specs.Scope.{IsArrayName, KnowsWidth, HasWidths}
use Rattle.scop_roles.specs.Values.{array_number, expression, signed_value, combined, count, operator, narrowed_where}
use Rattle.scop_roles.specs.Values.{cast_to, joined}
use Rattle.scop_roles.proofs.Parts.{judged_none, index_value, cast_value, unary_value, binary_value, shift_counted}
use Rattle.scop_roles.proofs.Parts.{combined_plain}
use Rattle.scop_roles.proofs.Widths.{signed_is_not_narrow}
use Rattle.scop_roles.proofs.Affines.{rank_there, ranked_array}

-- the name of a place is one of the text's
pub place_width : (narrow : List Bool) (look : Lookup) → ((i : ℕ) → KnowsWidth narrow (look.meaning i)) → (at : ℕ)
    (t : Tree) → KnowsWidth narrow (meaning_of (formula look at t))
place_width narrow look known at tree.name = known at
place_width narrow look known at (tree.group t) = place_width narrow look known (at + 1) t
place_width narrow look known at (tree.index t i) = place_width narrow look known at t
place_width narrow look known at _ = tt

pub has_widths : (narrow : List Bool) (look : Lookup) → ((i : ℕ) → KnowsWidth narrow (look.meaning i)) → (at : ℕ)
    (t : Tree) → HasWidths narrow (formula look at t)
has_widths narrow look known at (tree.group t) = has_widths narrow look known (at + 1) t
has_widths narrow look known at (tree.index t i) = place_width narrow look known at t
has_widths narrow look known at (tree.unary s t) = has_widths narrow look known (at + 1) t
has_widths narrow look known at (tree.cast w t) = has_widths narrow look known (at + 1 + 1 + 1) t
has_widths narrow look known at (tree.binary o a b) =
    (has_widths narrow look known at a, has_widths narrow look known (at + size a + 1) b)
has_widths narrow look known at _ = tt

pub known_width : (narrow : List Bool) (m : Meaning) → IsArrayName m → KnowsWidth narrow m
    → slice_index_or narrow (array_number m) false ≡ is_narrow_array m
known_width narrow (meaning.Array k r b) is h = h
known_width narrow meaning.Unknown is h = absurd is
known_width narrow meaning.Closed is h = absurd is
known_width narrow (meaning.Variable k) is h = absurd is

-- an expression has C's types, and 32 bits where this says so
abbrev HasType : List Bool → Bool → Expression → Type 0
HasType narrow b e = (has_type narrow e ≡ b) × IsTyped narrow e

-- what an operator makes, kept to 32 bits where it has no more
kept : (narrow : List Bool) (b : Bool) (e : Expression) → has_type narrow e ≡ b → IsTypedAs narrow b e
    → HasType narrow b (narrowed_where b implied e)
kept narrow true e is h = (is, h)
kept narrow false e is h = (is, h)

-- a side, converted where this is so
side : (narrow : List Bool) (b c : Bool) (e : Expression) → HasType narrow b e
    → HasType narrow (b || c) (narrowed_where c converted e)
side narrow true true e h = (refl, h.1)
side narrow false true e h = (refl, h.1)
side narrow true false e h = h
side narrow false false e h = h

-- a sign, in a value without faults
sign_keeps : (n : ℕ) (s : Sign) (f : Formula) (at : ℕ) → first (faults n role.Value (unary s f at)) ≡ None
    → keeps_type s ≡ true
sign_keeps n sign.Minus f at h = refl
sign_keeps n sign.Complement f at h = refl
sign_keeps n sign.Not f at h = absurd
    (grind (arith, (judged_none (faults n role.Value f) at (Some kind.Condition) h).1))

signed : (narrow : List Bool) (s : Sign) (b : Bool) (e : Expression) → keeps_type s ≡ true → HasType narrow b e
    → HasType narrow (keeps_type s && b) (narrowed_where (keeps_type s && b) implied (signed_value s e))
signed narrow sign.Minus b e keeps h = kept narrow b (scop.negated e) h.0 h
signed narrow sign.Complement b e keeps h = kept narrow b (scop.complemented e) h.0 h
signed narrow sign.Not b e keeps h = absurd (grind (arith, keeps))

cast_type : (narrow : List Bool) (w : Width) (b : Bool) (e : Expression) → HasType narrow b e
    → HasType narrow (is_narrow_width w) (cast_to w e)
cast_type narrow width.Narrow b e h = (refl, h.1)
cast_type narrow width.Full b e h = (refl, h.1)

-- the count of a shift
count_within : (b : Bool) (g : Formula) → is_count 0 (last_count b) g ≡ true → count g < bits b
count_within true (constant (suffix.Absent c) v at) h = grind arith
count_within false (constant (suffix.Absent c) v at) h = grind arith
count_within b (constant suffix.Present v at) h = absurd (grind (arith, h))
count_within b (name m at) h = absurd (grind (arith, h))
count_within b (index p i) h = absurd (grind (arith, h))
count_within b (bare_call m at) h = absurd (grind (arith, h))
count_within b (call m f at) h = absurd (grind (arith, h))
count_within b (unary s f at) h = absurd (grind (arith, h))
count_within b (cast w f at) h = absurd (grind (arith, h))
count_within b (binary o f g at) h = absurd (grind (arith, h))

shifted : (narrow : List Bool) (o : Op) (b : Bool) (d e : Expression) (k : ℕ) → is_shift o ≡ true → k < bits b
    → HasType narrow b d → HasType narrow b (narrowed_where b implied (combined o d e k))
shifted narrow op.ShiftLeft b d e k shift few h = kept narrow b (scop.shifted_left d k) h.0 (h.0, few, h.1)
shifted narrow op.ShiftRight b d e k shift few h = kept narrow b (scop.shifted_right d k) h.0 (h.0, few, h.1)
shifted narrow _ b d e k shift few h = absurd (grind (arith, shift))

-- an operator of a value that is no shift
own_joins : (n : ℕ) (o : Op) (f g : Formula) (at : ℕ) → is_shift o ≡ false
    → own n role.Value (binary o f g at) ≡ None → is_joining o ≡ true
own_joins n op.Plus f g at plain h = refl
own_joins n op.Minus f g at plain h = refl
own_joins n op.Times f g at plain h = refl
own_joins n op.BitAnd f g at plain h = refl
own_joins n op.BitXor f g at plain h = refl
own_joins n op.BitOr f g at plain h = refl
own_joins n op.ShiftLeft f g at plain h = absurd (grind (arith, plain))
own_joins n op.ShiftRight f g at plain h = absurd (grind (arith, plain))
own_joins n _ f g at plain h = absurd (grind (arith, h))

-- both sides have 32 bits, as they stand or converted, exactly where what is made has
abbrev made_narrow : Bool → Bool → Bool → Bool → Bool
made_narrow n m s t = (n && (m || t)) || (s && m)

sides_make : (n m s t : Bool)
    → ((n || (made_narrow n m s t && s)) && (m || (made_narrow n m s t && t))) ≡ made_narrow n m s t
sides_make true true s t = refl
sides_make true false s true = refl
sides_make true false true false = refl
sides_make true false false false = refl
sides_make false true true t = refl
sides_make false true false t = refl
sides_make false false true t = refl
sides_make false false false t = refl

plain_makes : (o : Op) (n m s t : Bool) → is_shift o ≡ false → is_joining o ≡ true
    → makes_narrow o n m s t ≡ made_narrow n m s t
plain_makes o n m s t plain joins = rw (plain, joins) refl

same_or_both : (b s : Bool) → (b || (b && s)) ≡ b
same_or_both true s = refl
same_or_both false s = refl

shift_type : (narrow : List Bool) (o : Op) (n b s : Bool) (d right : Expression) (k : ℕ) → is_shift o ≡ true → n ≡ b
    → k < bits n → HasType narrow n d
    → HasType narrow b (narrowed_where b implied (combined o (narrowed_where (b && s) converted d) right k))
shift_type narrow o n b s d right k shift same few h =
    let left = narrowed_where (b && s) converted d in
    shifted narrow o b left right k shift (subst (λ c. k < bits c) same few)
    (subst (λ c. HasType narrow c left) (same_or_both b s)
    (side narrow b (b && s) d (subst (λ c. HasType narrow c d) same h)))

plain_type : (narrow : List Bool) (o : Op) (n m s t b : Bool) (d e : Expression) (k : ℕ) → is_shift o ≡ false
    → made_narrow n m s t ≡ b → HasType narrow n d → HasType narrow m e
    → HasType narrow b (narrowed_where b implied
    (combined o (narrowed_where (b && s) converted d) (narrowed_where (b && t) converted e) k))
plain_type narrow o n m s t b d e k plain same h i =
    let left = narrowed_where (b && s) converted d in
    let right = narrowed_where (b && t) converted e in
    let l = side narrow n (b && s) d h in
    let r = side narrow m (b && t) e i in
    let both : (has_type narrow left && has_type narrow right) ≡ b =
    ap₂ (λ x y. x && y) l.0 r.0
    ∙ subst (λ c. ((n || (c && s)) && (m || (c && t))) ≡ c) same (sides_make n m s t) in
    subst (λ x. HasType narrow b (narrowed_where b implied x)) (sym (combined_plain o left right k plain))
    (kept narrow b (scop.binary (operator o) left right) both (both, l.1, r.1))

joined_type : (narrow : List Bool) (n : ℕ) (o : Op) (f g : Formula) (at : ℕ) (d e : Expression)
    → first (faults n role.Value (binary o f g at)) ≡ None → HasType narrow (is_narrow f) d
    → HasType narrow (is_narrow g) e → HasType narrow (is_narrow (binary o f g at)) (joined o f g at d e)
joined_type narrow n o f g at d e h left right = by_shift (is_shift o) refl
  where
    by_shift : (t : Bool) → is_shift o ≡ t → HasType narrow (is_narrow (binary o f g at)) (joined o f g at d e)
    by_shift true shift =
        let right_side = narrowed_where (is_narrow (binary o f g at) && is_signed g) converted e in
        shift_type narrow o (is_narrow f) (is_narrow (binary o f g at)) (is_signed f) d right_side (count g) shift
        (rw shift refl) (count_within (is_narrow f) g (shift_counted n o f g at shift h)) left
    by_shift false plain =
        let role_here = side_role o (is_signed f && is_signed g) role.Value in
        let none = (judged_none (faults n role_here f ++ faults n role_here g) at (own n role.Value (binary o f g at))
        h).1 in
        plain_type narrow o (is_narrow f) (is_narrow g) (is_signed f) (is_signed g) (is_narrow (binary o f g at)) d e
        (count g) plain
        (sym (plain_makes o (is_narrow f) (is_narrow g) (is_signed f) (is_signed g) plain
        (own_joins n o f g at plain none))) left right

-- a signed part is no value of 32 bits
form_type : (narrow : List Bool) (n : ℕ) (f : Formula) → is_signed f ≡ true
    → HasType narrow (is_narrow f) (affine (form n f))
form_type narrow n f h = (sym (signed_is_not_narrow f h), tt)

pub typed : (narrow : List Bool) (n : ℕ) (f : Formula) → HasWidths narrow f → first (faults n role.Value f) ≡ None
    → HasType narrow (is_narrow f) (expression n f)
typed narrow n (constant s v at) widths h = (refl, tt)
typed narrow n (name m at) widths h = (refl, tt)
typed narrow n (index p i) widths h =
    let r = rank_there (rank (meaning_of p)) (subscripts p + 1) (index_value n p i h).1 in
    (known_width narrow (meaning_of p) (ranked_array (meaning_of p) (subscripts p) r) widths, tt)
typed narrow n (bare_call m at) widths h = (refl, tt)
typed narrow n (call m f at) widths h = (refl, tt)
typed narrow n (unary s f at) widths h =
    by_sign (is_signed (unary s f at)) refl (λ u. typed narrow n f widths (unary_value n s f at u h))
  where
    by_sign : (b : Bool) → is_signed (unary s f at) ≡ b
        → (is_signed (unary s f at) ≡ false → HasType narrow (is_narrow f) (expression n f))
        → HasType narrow (is_narrow (unary s f at)) (if b then affine (form n (unary s f at))
        else narrowed_where (is_narrow (unary s f at)) implied (signed_value s (expression n f)))
    by_sign true e ih = form_type narrow n (unary s f at) e
    by_sign false e ih = signed narrow s (is_narrow f) (expression n f) (sign_keeps n s f at h) (ih e)
typed narrow n (cast w f at) widths h =
    cast_type narrow w (is_narrow f) (expression n f) (typed narrow n f widths (cast_value n w f at h))
typed narrow n (binary o f g at) widths h =
    by_sign (is_signed (binary o f g at)) refl (λ u. typed narrow n f widths.0 (binary_value n o f g at u h).0)
    (λ u. typed narrow n g widths.1 (binary_value n o f g at u h).1)
  where
    by_sign : (b : Bool) → is_signed (binary o f g at) ≡ b
        → (is_signed (binary o f g at) ≡ false → HasType narrow (is_narrow f) (expression n f))
        → (is_signed (binary o f g at) ≡ false → HasType narrow (is_narrow g) (expression n g))
        → HasType narrow (is_narrow (binary o f g at)) (if b then affine (form n (binary o f g at))
        else joined o f g at (expression n f) (expression n g))
    by_sign true e left right = form_type narrow n (binary o f g at) e
    by_sign false e left right =
        joined_type narrow n o f g at (expression n f) (expression n g) h (left e) (right e)
