-- Expressions that mean something within the limits have no fault where they stand.
use Rattle.scop_syntax.proofs.Common.{◌≡◌, ◌∙◌, ap, ap₂, sym, subst, refl, ℕ, suc, ◌-◌, ◌^◌, ◌<◌, ◌≤◌, ◌==◌, Bool, true}
use Rattle.scop_syntax.proofs.Common.{false, ◌&&◌, nat_le, nat_lt, List, [], ◌∷◌, ◌++◌, length, ℤ, pos, ◌-ℤ◌, get_or}
use Rattle.scop_syntax.proofs.Common.{arith, unsigned_abs, inl, inr, set, Option, None, not, if◌then◌else◌, list_all}
use Rattle.scop_syntax.proofs.Common.{ints, nat_tests, length-set, le-leb, and_from, Affine, value_of, zeros, dot_comm}
use Rattle.scop_syntax.proofs.Common.{dot-zeros, dot-unit, length-zeros}
use Rattle.std.proofs.Math.Bool.{and_comm}
use Rattle.scop_expressions.specs.Assign.{Assign}
use Rattle.scop_expressions.specs.Assign.TheVariants as assigns
use Rattle.scop_expressions.specs.Base.{Base}
use Rattle.scop_expressions.specs.Base.TheVariants as base
use Rattle.scop_expressions.specs.Op.{Op}
use Rattle.scop_expressions.specs.Op.TheVariants as op
use Rattle.scop_expressions.specs.declared.token.Sign.TheVariants as sign
use Rattle.scop_expressions.specs.Suffix.TheVariants as suffix
use Rattle.scop_roles.specs.declared.kinds.Fault.{Fault}
use Rattle.scop_roles.specs.declared.kinds.Kind.{Kind}
use Rattle.scop_roles.specs.declared.kinds.Kind.TheVariants as kind
use Rattle.scop_roles.specs.declared.formula.Meaning.TheVariants as meaning
use Rattle.scop_roles.specs.declared.formula.Role.TheVariants as role
use Rattle.scop_roles.specs.Faults.{first, told, judged, faults, place_faults, own_term, own_bits, only_where}
use Rattle.scop_roles.specs.Faults.{own_signed, own_rank, rank, is_count, last_count, is_shift_count, or_else}
use Rattle.scop_roles.specs.Faults.{are_plain_constants, term_role, operand_role}
use Rattle.scop_roles.specs.Forms.{is_sum_or_product, is_product, is_signed, is_narrow, is_bare, is_long, mixes}
use Rattle.scop_roles.specs.Forms.{greatest as longest, has_name, form, is_small, is_within}
use Rattle.scop_roles.specs.Formula.{Formula, constant, name, index, unary, cast, binary, place}
use Rattle.scop_roles.specs.Formula.{meaning_of, subscripts}
use Rattle.scop_roles.proofs.Affines.{combined_entries}
use Rattle.scop_roles.proofs.Widths.{narrow_is_not_signed}
use Rattle.scop_units.specs.Units.{Stored, is_array, own_cell, cell_faults, is_narrow_cell, own_assign, stored_faults}
use Rattle.scop_arithmetic.specs.Arithmetic.{Class, narrow, common, class, is_signed_class, has_sign, whole, IsCount}
use Rattle.scop_arithmetic.specs.Arithmetic.{greatest, IsShort, MayStandBeside, MayJoin, HasStored}
use Rattle.scop_arithmetic.specs.Limits.{IsSmall, IsLinear, IsLinearTruth, JoinsNoConstants, IsLinearPlace}
use Rattle.scop_arithmetic.specs.Limits.{IsFitWord, IsFitStored}
use Rattle.scop_arithmetic.proofs.Wholes.{AreAffine, form_value, term_value}
use Rattle.scop_arithmetic.proofs.Classes.{type_by, IsTyped, signed_class, cell_type, cast_type, common_type}
use Rattle.scop_arithmetic.proofs.Classes.{type_signed, typed_sign}

-- no faults of the parts and of a node: none of the whole
pub none_judged : (fs own : List Fault) → fs ≡ [] → own ≡ [] → judged fs own ≡ []
none_judged fs own e d = rw e d

pub none_both : (fs gs : List Fault) → fs ≡ [] → gs ≡ [] → fs ++ gs ≡ []
none_both fs gs e d = rw e d

-- the entries and the constant of a form by its values
pub at_zeros : (f : Affine) (n : ℕ) → value_of f (zeros n) ≡ f.constant
at_zeros f n =
    let z = dot_comm f.coefficients (zeros n) ∙ dot-zeros n f.coefficients in
    omega (arith, ints)

pub at_unit : (f : Affine) (n k : ℕ) → k < n
    → value_of f (set (zeros n) k (pos 1)) -ℤ value_of f (zeros n) ≡ get_or f.coefficients k (pos 0)
at_unit f n k lt =
    let z = dot_comm f.coefficients (zeros n) ∙ dot-zeros n f.coefficients in
    let u = dot_comm f.coefficients (set (zeros n) k (pos 1)) ∙ dot-unit n k f.coefficients lt in
    omega (arith, ints)

not_past : (a b : ℕ) → a ≤ b → nat_lt b a ≡ false
not_past a b h = grind (arith, nat_tests, h)

all_small : (cs : List ℤ) → ((k : ℕ) → k < length cs → unsigned_abs (get_or cs k (pos 0)) ≤ 16)
    → list_all is_small cs ≡ true
all_small [] h = refl
all_small (c ∷ cs) h =
    and_from (is_small c) (list_all is_small cs) (le-leb (unsigned_abs c) 16 (h 0 (omega arith)))
    (all_small cs (λ k lt. h (suc k) (omega arith)))

form_within : (n : ℕ) (f : Formula) → length (form n f).coefficients ≡ n
    → ((p : List ℤ) → length p ≡ n → value_of (form n f) p ≡ whole p f) → IsSmall n f
    → is_within (form n f) ≡ true
form_within n f long worth small =
    let a = form n f in
    let origin = worth (zeros n) (length-zeros n) in
    let constant_is : a.constant ≡ whole (zeros n) f = sym (at_zeros a n) ∙ origin in
    and_from (list_all is_small a.coefficients) (nat_le (unsigned_abs a.constant) (2 ^ 20))
    (all_small a.coefficients (λ k lt.
    let inside : k < n = omega arith in
    let unit = worth (set (zeros n) k (pos 1)) (length-set (zeros n) k (pos 1) ∙ length-zeros n) in
    let entry = at_unit a n k inside in
    let same : get_or a.coefficients k (pos 0) ≡ whole (set (zeros n) k (pos 1)) f -ℤ whole (zeros n) f =
    sym entry ∙ rw (unit, origin) refl in
    rw same (small.entries k inside)))
    (le-leb (unsigned_abs a.constant) (2 ^ 20) (rw constant_is small.constant))

-- affine expressions
own_none : (n : ℕ) (o : Op) (f g : Formula) (at : ℕ) → (is_product o && (has_name f && has_name g)) ≡ false
    → is_within (form n (binary o f g at)) ≡ true → own_term n o f g at ≡ None
own_none n o f g at e w = rw (e, w) refl

term_none : (affine : AreAffine) (n : ℕ) (o : Op) (f g : Formula) (at : ℕ) → is_sum_or_product o ≡ true
    → (is_product o && (has_name f && has_name g)) ≡ false → faults n role.Affine f ≡ [] → faults n role.Affine g ≡ []
    → IsSmall n (binary o f g at) → own_term n o f g at ≡ None
term_none affine n o f g at s e x y small =
    let left = ap first x in
    let right = ap first y in
    let long = combined_entries n o (has_name f) (form n f) (form n g) (affine n f left).entries
    (affine n g right).entries in
    own_none n o f g at e
    (form_within n (binary o f g at) long
    (λ p l. term_value n o f g at p s e (form_value n f p l left) (form_value n g p l right)) small)

pub linear_none : (affine : AreAffine) (n : ℕ) (f : Formula) → IsLinear n f → faults n role.Affine f ≡ []
linear_none affine n (constant (suffix.Absent b) v at) h =
    let low = not_past v (2 ^ 20) h in
    ap (λ b. told at (only_where b kind.Coefficient)) low
linear_none affine n (name (meaning.Variable k) at) h = refl
linear_none affine n (unary sign.Minus f at) h = none_judged (faults n role.Affine f) [] (linear_none affine n f h) refl
linear_none affine n (binary op.Plus f g at) h =
    let x = linear_none affine n f h.0 in
    let y = linear_none affine n g h.1 in
    none_judged (faults n role.Affine f ++ faults n role.Affine g) _ (none_both _ _ x y)
    (ap (told at) (term_none affine n op.Plus f g at refl refl x y h.2))
linear_none affine n (binary op.Minus f g at) h =
    let x = linear_none affine n f h.0 in
    let y = linear_none affine n g h.1 in
    none_judged (faults n role.Affine f ++ faults n role.Affine g) _ (none_both _ _ x y)
    (ap (told at) (term_none affine n op.Minus f g at refl refl x y h.2))
linear_none affine n (binary op.Times f g at) h =
    let x = linear_none affine n f h.0 in
    let y = linear_none affine n g h.1 in
    none_judged (faults n role.Affine f ++ faults n role.Affine g) _ (none_both _ _ x y)
    (ap (told at) (term_none affine n op.Times f g at refl h.2 x y h.3))
linear_none affine n _ h = absurd h

-- conditions
sides_none : (affine : AreAffine) (n : ℕ) (f g : Formula) → IsLinear n f → IsLinear n g
    → judged (faults n role.Affine f ++ faults n role.Affine g) [] ≡ []
sides_none affine n f g x y =
    none_judged (faults n role.Affine f ++ faults n role.Affine g) []
    (none_both _ _ (linear_none affine n f x) (linear_none affine n g y)) refl

pub truth_none : (affine : AreAffine) (n : ℕ) (f : Formula) → IsLinearTruth n f → faults n role.Condition f ≡ []
truth_none affine n (binary op.Less f g at) h = sides_none affine n f g h.0 h.1
truth_none affine n (binary op.AtMost f g at) h = sides_none affine n f g h.0 h.1
truth_none affine n (binary op.Greater f g at) h = sides_none affine n f g h.0 h.1
truth_none affine n (binary op.AtLeast f g at) h = sides_none affine n f g h.0 h.1
truth_none affine n (binary op.Equal f g at) h = sides_none affine n f g h.0 h.1
truth_none affine n (binary op.LogicalAnd f g at) h =
    none_judged (faults n role.Condition f ++ faults n role.Condition g) []
    (none_both _ _ (truth_none affine n f h.0) (truth_none affine n g h.1)) refl
truth_none affine n _ h = absurd h

-- summands
pub linear_sign : (n : ℕ) (f : Formula) → IsLinear n f → is_signed f ≡ true
linear_sign n (constant (suffix.Absent b) v at) h = refl
linear_sign n (name (meaning.Variable k) at) h = refl
linear_sign n (unary sign.Minus f at) h = linear_sign n f h
linear_sign n (binary op.Plus f g at) h =
    and_from (is_signed f) (is_signed g) (linear_sign n f h.0) (linear_sign n g h.1)
linear_sign n (binary op.Minus f g at) h =
    and_from (is_signed f) (is_signed g) (linear_sign n f h.0) (linear_sign n g h.1)
linear_sign n (binary op.Times f g at) h =
    and_from (is_signed f) (is_signed g) (linear_sign n f h.0) (linear_sign n g h.1)
linear_sign n _ h = absurd h

or_none : (k l : Option Kind) → k ≡ None → l ≡ None → or_else k l ≡ None
or_none k l e d = rw (e, d) refl

signed_own : (affine : AreAffine) (n : ℕ) (o : Op) (f g : Formula) (at : ℕ) → is_sum_or_product o ≡ true
    → (is_product o && (has_name f && has_name g)) ≡ false → IsLinear n f → IsLinear n g → IsSmall n (binary o f g at)
    → are_plain_constants f g ≡ false
    → or_else (own_term n o f g at) (only_where (are_plain_constants f g) kind.SignedValue) ≡ None
signed_own affine n o f g at s e x y small plain =
    or_none _ _
    (term_none affine n o f g at s e (linear_none affine n f x) (linear_none affine n g y) small)
    (ap (λ b. only_where b kind.SignedValue) plain)

summand_none : (affine : AreAffine) (n : ℕ) (f : Formula) → IsLinear n f → JoinsNoConstants f
    → faults n role.Signed f ≡ []
summand_none affine n (constant (suffix.Absent b) v at) h j = linear_none affine n (constant (suffix.Absent b) v at) h
summand_none affine n (name (meaning.Variable k) at) h j = refl
summand_none affine n (unary sign.Minus f at) h j =
    none_judged (faults n role.Signed f) [] (summand_none affine n f h j) refl
summand_none affine n (binary op.Plus f g at) h j =
    none_judged (faults n role.Signed f ++ faults n role.Signed g) _
    (none_both _ _ (summand_none affine n f h.0 j.1) (summand_none affine n g h.1 j.2))
    (ap (told at) (signed_own affine n op.Plus f g at refl refl h.0 h.1 h.2 j.0))
summand_none affine n (binary op.Minus f g at) h j =
    none_judged (faults n role.Signed f ++ faults n role.Signed g) _
    (none_both _ _ (summand_none affine n f h.0 j.1) (summand_none affine n g h.1 j.2))
    (ap (told at) (signed_own affine n op.Minus f g at refl refl h.0 h.1 h.2 j.0))
summand_none affine n (binary op.Times f g at) h j =
    none_judged (faults n role.Signed f ++ faults n role.Signed g) _
    (none_both _ _ (summand_none affine n f h.0 j.1) (summand_none affine n g h.1 j.2))
    (ap (told at) (signed_own affine n op.Times f g at refl h.2 h.0 h.1 h.3 j.0))
summand_none affine n _ h j = absurd h

-- places
pub place_none : (affine : AreAffine) (n : ℕ) (f : Formula) → IsLinearPlace n f → place_faults n f ≡ []
place_none affine n (name (meaning.Array k r b) at) h = refl
place_none affine n (index q i) h = none_both _ _ (place_none affine n q h.0) (linear_none affine n i h.1)
place_none affine n _ h = absurd h

place_array : (n : ℕ) (f : Formula) → IsLinearPlace n f → is_array (meaning_of f) ≡ true
place_array n (name (meaning.Array k r b) at) h = refl
place_array n (index q i) h = place_array n q h.0
place_array n _ h = absurd h

pub same_number : (a b : ℕ) → a ≡ b → (a == b) ≡ true
same_number a b h = grind (arith, nat_tests, h)

rank_none : (f : Formula) → rank (meaning_of f) ≡ subscripts f → own_rank f ≡ None
rank_none f e = ap (λ b. only_where (not b) kind.Rank) (same_number (rank (meaning_of f)) (subscripts f) e)

-- counts; b: of 32 bits
count_is : (b : Bool) (f : Formula) → IsCount (type_by false b) f → is_count 0 (last_count b) f ≡ true
count_is true (constant (suffix.Absent k) v at) h =
    and_from (nat_le 0 v) (nat_le v 31) (le-leb 0 v (omega arith)) (le-leb v 31 (omega (arith, h)))
count_is false (constant (suffix.Absent k) v at) h =
    and_from (nat_le 0 v) (nat_le v 63) (le-leb 0 v (omega arith)) (le-leb v 63 (omega (arith, h)))
count_is b _ h = absurd h

count_none : (c : Class) (n : ℕ) (f : Formula) → IsCount c f → faults n role.Value f ≡ []
count_none c n (constant (suffix.Absent b) v at) h = refl
count_none c n _ h = absurd h

-- a short part may stand beside 32 bits
base_bare : (b : Base) (v : ℕ) → v ≤ greatest b → nat_le v (longest b) ≡ true
base_bare base.Decimal v h = le-leb v (2 ^ 31 - 1) h
base_bare base.Hexadecimal v h = le-leb v (2 ^ 32 - 1) h

short_unnamed : (f : Formula) → IsShort f → has_name f ≡ false
short_unnamed (constant (suffix.Absent b) v at) h = refl
short_unnamed (unary sign.Minus f at) h = short_unnamed f h
short_unnamed (binary op.Plus f g at) h = rw (short_unnamed f h.0) (short_unnamed g h.1)
short_unnamed (binary op.Minus f g at) h = rw (short_unnamed f h.0) (short_unnamed g h.1)
short_unnamed (binary op.Times f g at) h = rw (short_unnamed f h.0) (short_unnamed g h.1)
short_unnamed _ h = absurd h

short_bare : (f : Formula) → IsShort f → is_bare f ≡ true
short_bare (constant (suffix.Absent b) v at) h = base_bare b v h
short_bare (unary s f at) h = ap not (short_unnamed (unary s f at) h)
short_bare (binary o f g at) h = ap not (short_unnamed (binary o f g at) h)
short_bare _ h = absurd h

not_long : (b : Bool) (f : Formula) → (b ≡ true → is_signed f ≡ true → IsShort f) → (b && is_long f) ≡ false
not_long false f short = refl
not_long true f short = by_sign (is_signed f) (short refl)
  where
    by_sign : (s : Bool) → (s ≡ true → IsShort f) → (s && not (is_bare f)) ≡ false
    by_sign true short = ap not (short_bare f (short refl))
    by_sign false short = refl

stands_short : (c : Class) (b : Bool) (f : Formula) → (b ≡ true → c ≡ narrow) → MayStandBeside c f
    → (b && is_long f) ≡ false
stands_short c b f same may = not_long b f (λ t s. may (same t) (signed_class f s))

joins_apart : (f g : Formula) → IsTyped f → IsTyped g → MayJoin f g → mixes f g ≡ false
joins_apart f g x y may =
    let left = stands_short (class f) (is_narrow f) g (λ n. x ∙ ap₂ type_by (narrow_is_not_signed f n) n) may.0 in
    let right = stands_short (class g) (is_narrow g) f (λ n. y ∙ ap₂ type_by (narrow_is_not_signed g n) n) may.1 in
    rw (left, and_comm (is_long f) (is_narrow g), right) refl

-- the type of a value is the one that its role says
linear_class : (n : ℕ) (f : Formula) → IsLinear n f → IsTyped f
linear_class n f h =
    let s = linear_sign n f h in signed_class f s ∙ ap (λ b. type_by b (is_narrow f)) (sym s)

-- + - * & | ^
sum_class : (f g : Formula) → IsTyped f → IsTyped g
    → common (class f) (class g) ≡ type_by (is_signed f && is_signed g) (is_narrow (binary op.Plus f g 0))
sum_class f g x y = rw (x, y) (common_type (is_signed f) (is_signed g) (is_narrow f) (is_narrow g))

sides_sign : (f g : Formula) → IsTyped f → IsTyped g → is_signed_class (common (class f) (class g)) ≡ false
    → (is_signed f && is_signed g) ≡ false
sides_sign f g x y u =
    sym (type_signed (is_signed f && is_signed g) (is_narrow (binary op.Plus f g 0)))
    ∙ (sym (ap is_signed_class (sum_class f g x y)) ∙ u)

bits_class : (f g : Formula) → IsTyped f → IsTyped g → is_signed_class (common (class f) (class g)) ≡ false
    → common (class f) (class g) ≡ type_by false (is_narrow (binary op.Plus f g 0))
bits_class f g x y u =
    sum_class f g x y ∙ ap (λ b. type_by b (is_narrow (binary op.Plus f g 0))) (sides_sign f g x y u)

shift_class : (f : Formula) → IsTyped f → has_sign f ≡ false → class f ≡ type_by false (is_narrow f)
shift_class f x u = x ∙ ap (λ b. type_by b (is_narrow f)) (sym (typed_sign f x) ∙ u)

word_class : (n : ℕ) (f : Formula) → IsFitWord n f → IsTyped f
word_class n (constant (suffix.Absent b) v at) h = refl
word_class n (constant suffix.Present v at) h = refl
word_class n (name (meaning.Variable k) at) h = refl
word_class n (index q i) h = cell_type q
word_class n (unary sign.Minus f at) (inl h) = linear_class n f h.1
word_class n (unary sign.Minus f at) (inr h) = word_class n f h.1
word_class n (unary sign.Complement f at) h = shift_class f (word_class n f h.1) h.0
word_class n (cast w f at) h = cast_type w
word_class n (binary op.Plus f g at) (inl h) = linear_class n (binary op.Plus f g at) h.1
word_class n (binary op.Plus f g at) (inr h) = sum_class f g (word_class n f h.1) (word_class n g h.2)
word_class n (binary op.Minus f g at) (inl h) = linear_class n (binary op.Minus f g at) h.1
word_class n (binary op.Minus f g at) (inr h) = sum_class f g (word_class n f h.1) (word_class n g h.2)
word_class n (binary op.Times f g at) (inl h) = linear_class n (binary op.Times f g at) h.1
word_class n (binary op.Times f g at) (inr h) = sum_class f g (word_class n f h.1) (word_class n g h.2)
word_class n (binary op.BitAnd f g at) h = bits_class f g (word_class n f h.1) (word_class n g h.2) h.0
word_class n (binary op.BitOr f g at) h = bits_class f g (word_class n f h.1) (word_class n g h.2) h.0
word_class n (binary op.BitXor f g at) h = bits_class f g (word_class n f h.1) (word_class n g h.2) h.0
word_class n (binary op.ShiftLeft f g at) h = shift_class f (word_class n f h.1) h.0
word_class n (binary op.ShiftRight f g at) h = shift_class f (word_class n f h.1) h.0
word_class n _ h = absurd h

word_sign : (n : ℕ) (f : Formula) → IsFitWord n f → is_signed f ≡ has_sign f
word_sign n f h = sym (typed_sign f (word_class n f h))

-- a sum, a difference or a product in a value, by whether both sides are signed
abbrev in_value : ℕ → Bool → Op → Formula → Formula → ℕ → List Fault
in_value n b o f g at =
    judged (faults n (term_role b role.Value) f ++ faults n (term_role b role.Value) g)
    (told at (if b then own_signed n (binary o f g at) else only_where (mixes f g) kind.Width))

signed_sum : (n : ℕ) (o : Op) (f g : Formula) (at : ℕ) → (is_signed f && is_signed g) ≡ true
    → judged (faults n role.Signed f ++ faults n role.Signed g) (told at (own_signed n (binary o f g at))) ≡ []
    → in_value n (is_signed f && is_signed g) o f g at ≡ []
signed_sum n o f g at b h = subst (λ t. in_value n t o f g at ≡ []) (sym b) h

unsigned_sum : (n : ℕ) (o : Op) (f g : Formula) (at : ℕ) → is_signed_class (common (class f) (class g)) ≡ false
    → IsFitWord n f → IsFitWord n g → MayJoin f g → faults n role.Value f ≡ [] → faults n role.Value g ≡ []
    → in_value n (is_signed f && is_signed g) o f g at ≡ []
unsigned_sum n o f g at u h k may x y =
    subst (λ t. in_value n t o f g at ≡ []) (sym (sides_sign f g (word_class n f h) (word_class n g k) u))
    (none_judged (faults n role.Value f ++ faults n role.Value g) _ (none_both _ _ x y)
    (ap (λ b. told at (only_where b kind.Width)) (joins_apart f g (word_class n f h) (word_class n g k) may)))

bits_none : (n : ℕ) (f g : Formula) (at : ℕ) → is_signed_class (common (class f) (class g)) ≡ false → IsFitWord n f
    → IsFitWord n g → MayJoin f g → faults n role.Value f ≡ [] → faults n role.Value g ≡ []
    → judged (faults n role.Value f ++ faults n role.Value g)
    (told at (own_bits (is_signed f && is_signed g) (mixes f g))) ≡ []
bits_none n f g at u h k may x y =
    none_judged (faults n role.Value f ++ faults n role.Value g) _ (none_both _ _ x y)
    (ap₂ (λ b m. told at (own_bits b m)) (sides_sign f g (word_class n f h) (word_class n g k) u)
    (joins_apart f g (word_class n f h) (word_class n g k) may))

shift_none : (n : ℕ) (f g : Formula) (at : ℕ) → has_sign f ≡ false → IsFitWord n f → faults n role.Value f ≡ []
    → IsCount (class f) g
    → judged (faults n role.Value f ++ faults n role.Value g) (told at (or_else
    (only_where (is_signed f) kind.SignedValue) (only_where (not (is_shift_count f g)) kind.ShiftCount))) ≡ []
shift_none n f g at u h x c =
    let counts = count_is (is_narrow f) g (subst (λ d. IsCount d g) (shift_class f (word_class n f h) u) c) in
    none_judged (faults n role.Value f ++ faults n role.Value g) _ (none_both _ _ x (count_none (class f) n g c))
    (ap₂ (λ s k. told at (or_else (only_where s kind.SignedValue) (only_where (not k) kind.ShiftCount)))
    (word_sign n f h ∙ u) counts)

-- values
pub word_none : (affine : AreAffine) (n : ℕ) (f : Formula) → IsFitWord n f → faults n role.Value f ≡ []
word_none affine n (constant s v at) h = refl
word_none affine n (name (meaning.Variable k) at) h = refl
word_none affine n (index q i) h =
    none_judged (place_faults n q ++ faults n role.Affine i) _ (place_none affine n (index q i) h.0)
    (ap (told (place q)) (rank_none (index q i) h.1))
word_none affine n (unary sign.Minus f at) (inl h) =
    none_judged (faults n (operand_role sign.Minus (is_signed f) role.Value) f) []
    (subst (λ b. faults n (operand_role sign.Minus b role.Value) f ≡ []) (sym (linear_sign n f h.1))
    (summand_none affine n f h.1 h.2)) refl
word_none affine n (unary sign.Minus f at) (inr h) =
    none_judged (faults n (operand_role sign.Minus (is_signed f) role.Value) f) []
    (subst (λ b. faults n (operand_role sign.Minus b role.Value) f ≡ []) (sym (word_sign n f h.1 ∙ h.0))
    (word_none affine n f h.1)) refl
word_none affine n (unary sign.Complement f at) h =
    none_judged (faults n role.Value f) _ (word_none affine n f h.1)
    (ap (λ b. told at (only_where b kind.SignedValue)) (word_sign n f h.1 ∙ h.0))
word_none affine n (cast w f at) h = none_judged (faults n role.Value f) [] (word_none affine n f h) refl
word_none affine n (binary op.Plus f g at) (inl h) =
    signed_sum n op.Plus f g at (linear_sign n (binary op.Plus f g at) h.1)
    (summand_none affine n (binary op.Plus f g at) h.1 h.2)
word_none affine n (binary op.Plus f g at) (inr h) =
    unsigned_sum n op.Plus f g at h.0 h.1 h.2 h.3 (word_none affine n f h.1) (word_none affine n g h.2)
word_none affine n (binary op.Minus f g at) (inl h) =
    signed_sum n op.Minus f g at (linear_sign n (binary op.Minus f g at) h.1)
    (summand_none affine n (binary op.Minus f g at) h.1 h.2)
word_none affine n (binary op.Minus f g at) (inr h) =
    unsigned_sum n op.Minus f g at h.0 h.1 h.2 h.3 (word_none affine n f h.1) (word_none affine n g h.2)
word_none affine n (binary op.Times f g at) (inl h) =
    signed_sum n op.Times f g at (linear_sign n (binary op.Times f g at) h.1)
    (summand_none affine n (binary op.Times f g at) h.1 h.2)
word_none affine n (binary op.Times f g at) (inr h) =
    unsigned_sum n op.Times f g at h.0 h.1 h.2 h.3 (word_none affine n f h.1) (word_none affine n g h.2)
word_none affine n (binary op.BitAnd f g at) h =
    bits_none n f g at h.0 h.1 h.2 h.3 (word_none affine n f h.1) (word_none affine n g h.2)
word_none affine n (binary op.BitOr f g at) h =
    bits_none n f g at h.0 h.1 h.2 h.3 (word_none affine n f h.1) (word_none affine n g h.2)
word_none affine n (binary op.BitXor f g at) h =
    bits_none n f g at h.0 h.1 h.2 h.3 (word_none affine n f h.1) (word_none affine n g h.2)
word_none affine n (binary op.ShiftLeft f g at) h =
    shift_none n f g at h.0 h.1 (word_none affine n f h.1) h.2
word_none affine n (binary op.ShiftRight f g at) h =
    shift_none n f g at h.0 h.1 (word_none affine n f h.1) h.2
word_none affine n _ h = absurd h

-- statements; b: the place has 32 bits
assign_none : (b : Bool) (a : Assign) (f : Formula) → HasStored (type_by false b) a f → own_assign b a f ≡ None
assign_none b assigns.Set f h = refl
assign_none b assigns.Divide f h = absurd h
assign_none b assigns.Remainder f h = absurd h
assign_none b assigns.ShiftLeft f h = ap (λ k. only_where (not k) kind.ShiftCount) (count_is b f h)
assign_none b assigns.ShiftRight f h = ap (λ k. only_where (not k) kind.ShiftCount) (count_is b f h)
assign_none b _ f h =
    ap (λ k. only_where k kind.Width) (stands_short (type_by false b) b f (λ t. ap (type_by false) t) h.1)

pub stored_none : (affine : AreAffine) (n : ℕ) (s : Stored) → IsFitStored n s → stored_faults n s ≡ []
stored_none affine n s is =
    none_judged (cell_faults n s.cell ++ faults n role.Value s.value) _
    (none_both (cell_faults n s.cell) _
    (none_both (told (place s.cell) (own_cell s.cell)) _
    (ap (λ b. told (place s.cell) (only_where (not b) kind.IteratorOutside)) (place_array n s.cell is.cell))
    (none_judged (place_faults n s.cell) _ (place_none affine n s.cell is.cell)
    (ap (told (place s.cell)) (rank_none s.cell is.rank))))
    (word_none affine n s.value is.value))
    (ap (told s.assign_at) (assign_none (is_narrow_cell s.cell) s.assign s.value
    (subst (λ c. HasStored c s.assign s.value) (cell_type s.cell) is.stores)))
