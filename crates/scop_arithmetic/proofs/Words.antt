-- The value of a formula is its word.
use Rattle.scop_syntax.proofs.Common.{◌≡◌, ℕ, ◌≤◌, Bool, true, false, ◌&&◌, ℤ, List, [], ◌++◌, length, ap, sym, ◌∙◌}
use Rattle.scop_syntax.proofs.Common.{refl, arith, append-nil, map, Some, None, if◌then◌else◌, value_of, Operator, plus}
use Rattle.scop_syntax.proofs.Common.{minus, times, bits_and, bits_or, bits_xor, Expression, affine, negated, implied}
use Rattle.scop_syntax.proofs.Common.{converted, Cell, reads_of, wrapped, value_on}
use Rattle.scop_expressions.specs.Op.{Op}
use Rattle.scop_expressions.specs.Op.TheVariants as op
use Rattle.scop_expressions.specs.declared.token.Sign.TheVariants as sign
use Rattle.scop_expressions.specs.Suffix.TheVariants as suffix
use Rattle.scop_syntax.specs.Tree as scop
use Rattle.scop_roles.specs.declared.kinds.Kind.TheVariants as kind
use Rattle.scop_roles.specs.declared.formula.Meaning.{Meaning}
use Rattle.scop_roles.specs.declared.formula.Meaning.TheVariants as meaning
use Rattle.scop_roles.specs.declared.formula.Role.TheVariants as role
use Rattle.scop_roles.specs.Faults.{first, faults, is_count, own, side_role, operand_role}
use Rattle.scop_roles.specs.Forms.{is_sum_or_product, is_shift, is_signed, is_narrow, form}
use Rattle.scop_roles.specs.Formula.{Formula, constant, name, index, unary, cast, binary}
use Rattle.scop_roles.specs.Scope.{IsInScope}
use Rattle.scop_roles.specs.Values.{joined as code_joined, count, expression, narrowed_where}
use Rattle.scop_roles.proofs.NodeFaults.{signed_is_affine}
use Rattle.scop_roles.proofs.Parts.{judged_none, index_value, cast_value, unary_value, signed_unary}
use Rattle.scop_roles.proofs.Parts.{signed_binary, binary_value, shift_count}
use Rattle.scop_arithmetic.specs.Arithmetic.{Class, signed, narrow, full, common, class, is_signed_class, has_sign}
use Rattle.scop_arithmetic.specs.Arithmetic.{joined, whole, word, HoldTypes, cells_in, HasNoComma}
use Rattle.scop_arithmetic.proofs.Wholes.{name_value, form_value}
use Rattle.scop_arithmetic.proofs.Places.{cell_same, reads_same}
use Rattle.scop_arithmetic.proofs.Classes.{comma_sides, signed_parts, type_by, signed_class, class_same, sign_same}
use Rattle.scop_arithmetic.proofs.NarrowValues.{word_below}
use Rattle.scop_arithmetic.proofs.Worths.{contents, IsWorth, joined_worth, negated_worth, complemented_worth}
use Rattle.scop_arithmetic.proofs.Worths.{cast_worth, moved_left_worth, moved_right_worth}

pub count_word : (held : Cell → ℕ) (p : List ℤ) (k : ℕ) (g : Formula) → k ≤ 63 → is_count 0 k g ≡ true
    → word held p g ≡ count g
count_word held p k (constant (suffix.Absent b) v at) below e =
    let small : v ≤ k = grind arith in omega arith
count_word held p k _ below e = absurd (cc)

-- an unsigned side of an operator of uint32_t is of that type
common_left : (c d : Class) → common c d ≡ narrow → is_signed_class c ≡ false → c ≡ narrow
common_left signed d e u = absurd (cc)
common_left narrow d e u = refl
common_left full d e u = absurd (cc)

common_right : (c d : Class) → common c d ≡ narrow → is_signed_class d ≡ false → d ≡ narrow
common_right signed d e u = e
common_right narrow signed e u = absurd (cc)
common_right narrow narrow e u = refl
common_right narrow full e u = absurd (cc)
common_right full d e u = absurd (cc)

-- what is known of a side, and of its value
record IsSide (f : Formula) (e : Expression) (p : List ℤ) (held : Cell → ℕ) : Type 0 where
  worth : IsWorth e p held (word held p f)
  sign : has_sign f ≡ is_signed f
  types : HoldTypes held p f

sides_worth : (k : Operator) (f g : Formula) (e d : Expression) (p : List ℤ) (held : Cell → ℕ) (b : Bool)
    → common (class f) (class g) ≡ type_by false b → IsSide f e p held → IsSide g d p held
    → IsWorth (narrowed_where b implied (scop.binary k (narrowed_where (b && is_signed f) converted e)
    (narrowed_where (b && is_signed g) converted d))) p held
    (joined (common (class f) (class g)) k (word held p f) (word held p g))
sides_worth k f g e d p held b same left right =
    rw same (joined_worth k e d p held b (is_signed f) (is_signed g) (word held p f) (word held p g) left.worth
    right.worth
    (λ n u. word_below held p f left.types
    (common_left (class f) (class g) (same ∙ ap (type_by false) n) (left.sign ∙ u)))
    (λ n u. word_below held p g right.types
    (common_right (class f) (class g) (same ∙ ap (type_by false) n) (right.sign ∙ u))))

-- an operator of unsigned values
unsigned_worth : (n : ℕ) (o : Op) (f g : Formula) (at : ℕ) (e d : Expression) (p : List ℤ) (held : Cell → ℕ)
    → has_sign (binary o f g at) ≡ false → class (binary o f g at) ≡ type_by false (is_narrow (binary o f g at))
    → own n role.Value (binary o f g at) ≡ None → HasNoComma (binary o f g at)
    → (is_shift o ≡ true → is_count 0 63 g ≡ true) → IsSide f e p held → IsSide g d p held
    → IsWorth (code_joined o f g at e d) p held (word held p (binary o f g at))
unsigned_worth n op.Plus f g at e d p held u same own_none c shift left right =
    rw u (sides_worth plus f g e d p held _ same left right)
unsigned_worth n op.Minus f g at e d p held u same own_none c shift left right =
    rw u (sides_worth minus f g e d p held _ same left right)
unsigned_worth n op.Times f g at e d p held u same own_none c shift left right =
    rw u (sides_worth times f g e d p held _ same left right)
unsigned_worth n op.BitAnd f g at e d p held u same own_none c shift left right =
    rw u (sides_worth bits_and f g e d p held _ same left right)
unsigned_worth n op.BitOr f g at e d p held u same own_none c shift left right =
    rw u (sides_worth bits_or f g e d p held _ same left right)
unsigned_worth n op.BitXor f g at e d p held u same own_none c shift left right =
    rw u (sides_worth bits_xor f g e d p held _ same left right)
unsigned_worth n op.ShiftLeft f g at e d p held u same own_none c shift left right =
    rw (u, same, count_word held p 63 g (omega arith) (shift refl))
    (moved_left_worth e p held (is_narrow f) (is_signed f) (word held p f) (count g) (sym left.sign ∙ u) left.worth)
unsigned_worth n op.ShiftRight f g at e d p held u same own_none c shift left right =
    rw (u, count_word held p 63 g (omega arith) (shift refl))
    (moved_right_worth e p held (is_narrow f) (is_signed f) (word held p f) (count g) (sym left.sign ∙ u) left.worth
    (λ b. word_below held p f left.types (same ∙ ap (type_by false) b)))
unsigned_worth n op.Comma f g at e d p held u same own_none c shift left right = absurd c
unsigned_worth n _ f g at e d p held u same own_none c shift left right = absurd (cc)

-- a signed part is converted
signed_sum : (o : Op) (f g : Formula) (at : ℕ) (p : List ℤ) (held : Cell → ℕ) → is_sum_or_product o ≡ true
    → has_sign (binary o f g at) ≡ true → word held p (binary o f g at) ≡ wrapped (whole p (binary o f g at))
signed_sum op.Plus f g at p held t e = rw e refl
signed_sum op.Minus f g at p held t e = rw e refl
signed_sum op.Times f g at p held t e = rw e refl
signed_sum _ f g at p held t e = absurd (cc)

affine_worth : (n : ℕ) (f : Formula) (p : List ℤ) (held : Cell → ℕ) → length p ≡ n
    → first (faults n role.Signed f) ≡ None → word held p f ≡ wrapped (whole p f)
    → IsWorth (affine (form n f)) p held (word held p f)
affine_worth n f p held long h own more = ap wrapped (form_value n f p long (signed_is_affine n f h)) ∙ sym own

name_worth : (n : ℕ) (m : Meaning) (at : ℕ) (p : List ℤ) (held : Cell → ℕ) → length p ≡ n
    → wrapped (value_of (form n (name m at)) p) ≡ word held p (name m at)
name_worth n (meaning.Variable k) at p held long = ap wrapped (name_value n (meaning.Variable k) at p long)
name_worth n m at p held long = ap wrapped (name_value n m at p long)

-- a formula's value is its word
pub word_value : (ranks : List ℕ) (n : ℕ) (f : Formula) (p : List ℤ) (held : Cell → ℕ) → length p ≡ n
    → IsInScope ranks f → HasNoComma f → first (faults n role.Value f) ≡ None → HoldTypes held p f
    → IsWorth (expression n f) p held (word held p f)
word_value ranks n (constant (suffix.Absent b) v at) p held long s c h t more = omega (arith, s)
word_value ranks n (constant suffix.Present v at) p held long s c h t more = refl
word_value ranks n (name m at) p held long s c h t more = name_worth n m at p held long
word_value ranks n (index q i) p held long s c h t more =
    ap held (cell_same n (index q i) p long (index_value n q i h).0)
word_value ranks n (unary sign.Minus f at) p held long s c h t more =
    by_sign (is_signed f) refl (λ u. word_value ranks n f p held long s c (unary_value n sign.Minus f at u h) t) more
  where
    by_sign : (b : Bool) → is_signed f ≡ b → (is_signed f ≡ false → IsWorth (expression n f) p held (word held p f))
        → IsWorth (if b then affine (form n (unary sign.Minus f at))
        else narrowed_where (is_narrow f) implied (negated (expression n f))) p held
        (word held p (unary sign.Minus f at))
    by_sign true e ih =
        affine_worth n (unary sign.Minus f at) p held long (signed_unary n sign.Minus f at e h)
        (rw (signed_class f e) refl)
    by_sign false e ih =
        let same = class_same n f c (unary_value n sign.Minus f at e h) ∙ ap (λ b. type_by b (is_narrow f)) e in
        rw (sign_same n f c (unary_value n sign.Minus f at e h) ∙ e, same)
        (negated_worth (expression n f) p held (is_narrow f) (word held p f) (ih e)
        (λ b. word_below held p f t (same ∙ ap (type_by false) b)))
word_value ranks n (unary sign.Complement f at) p held long s c h t more =
    let same = class_same n (unary sign.Complement f at) c h in
    rw (sign_same n (unary sign.Complement f at) c h, same)
    (complemented_worth (expression n f) p held (is_narrow f) (word held p f)
    (word_value ranks n f p held long s c (unary_value n sign.Complement f at refl h) t)
    (λ b. word_below held p f t (same ∙ ap (type_by false) b)) more)
word_value ranks n (unary sign.Not f at) p held long s c h t more =
    absurd (cc (judged_none (faults n (operand_role sign.Not (is_signed f) role.Value) f) at (Some kind.Condition) h).1)
word_value ranks n (cast w f at) p held long s c h t more =
    cast_worth w (expression n f) p held (word held p f)
    (word_value ranks n f p held long s c (cast_value n w f at h) t) more
word_value ranks n (binary o f g at) p held long s c h t more =
    by_sign (is_signed (binary o f g at)) refl
    (λ u. word_value ranks n f p held long s.0 (comma_sides o f g at c).0 (binary_value n o f g at u h).0 t.0)
    (λ u. word_value ranks n g p held long s.1 (comma_sides o f g at c).1 (binary_value n o f g at u h).1 t.1) more
  where
    by_sign : (b : Bool) → is_signed (binary o f g at) ≡ b
        → (is_signed (binary o f g at) ≡ false → IsWorth (expression n f) p held (word held p f))
        → (is_signed (binary o f g at) ≡ false → IsWorth (expression n g) p held (word held p g))
        → IsWorth (if b then affine (form n (binary o f g at))
        else code_joined o f g at (expression n f) (expression n g)) p held (word held p (binary o f g at))
    by_sign true e left right =
        affine_worth n (binary o f g at) p held long (signed_binary n o f g at e h)
        (signed_sum o f g at p held (signed_parts o f g at e).0
        (ap is_signed_class (signed_class (binary o f g at) e)))
    by_sign false e left right =
        let side = side_role o (is_signed f && is_signed g) role.Value in
        let own_none =
        (judged_none (faults n side f ++ faults n side g) at (own n role.Value (binary o f g at)) h).1 in
        let plain = comma_sides o f g at c in
        let none = binary_value n o f g at e h in
        unsigned_worth n o f g at (expression n f) (expression n g) p held
        (sign_same n (binary o f g at) c h ∙ e)
        (class_same n (binary o f g at) c h ∙ ap (λ b. type_by b (is_narrow (binary o f g at))) e) own_none c
        (λ s. shift_count n o f g at s h)
        (record { worth = left e; sign = sign_same n f plain.0 none.0; types = t.0 })
        (record { worth = right e; sign = sign_same n g plain.1 none.1; types = t.1 })
word_value ranks n _ p held long s c h t more = refl

-- where nothing else is read
pub word_read : (ranks : List ℕ) (n : ℕ) (f : Formula) (p : List ℤ) (held : Cell → ℕ) → length p ≡ n
    → IsInScope ranks f → HasNoComma f → first (faults n role.Value f) ≡ None → HoldTypes held p f
    → value_on (expression n f) p (map held (cells_in p f)) ≡ word held p f
word_read ranks n f p held long s c h t =
    let same : map held (cells_in p f) ≡ contents held p (reads_of (expression n f)) ++ [] =
    ap (map held) (sym (reads_same n f p long h)) ∙ sym (append-nil (contents held p (reads_of (expression n f)))) in
    ap (λ vs. value_on (expression n f) p vs) same ∙ word_value ranks n f p held long s c h t []
