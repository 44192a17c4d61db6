-- Formulas without faults in their roles are within the limits; entries of combined forms, what shifts and signs read.
use Rattle.scop_syntax.proofs.Common.{◌≡◌, ℕ, ◌+◌, ◌<◌, ◌≤◌, ◌^◌, ◌==◌, Bool, true, false, ◌&&◌, nat_lt, pos, negsuc}
use Rattle.scop_syntax.proofs.Common.{List, [], ◌∷◌, ◌++◌, length, Some, None, All, ap, ap₂, sym, ◌∙◌, refl}
use Rattle.scop_syntax.proofs.Common.{length-append, arith, if◌then◌else◌, not, ℤ, ◌+ℤ◌, ◌*ℤ◌, unsigned_abs, and_parts}
use Rattle.scop_syntax.proofs.Common.{All-nil, All-cons, All-append, Affine, multiple_of_form, sums, multiples}
use Rattle.scop_syntax.proofs.Common.{length-zeros, length-sums, length-multiples, sums-nil, abs_sum, Access}
use Rattle.scop_syntax.proofs.Common.{Expression, affine, implied, converted, Test, reads_of, IsForm, IsAffine}
use Rattle.scop_syntax.proofs.Common.{IsAccess, IsExpression, IsComparison, test_form}
use Rattle.scop_expressions.specs.Op.{Op}
use Rattle.scop_expressions.specs.Op.TheVariants as op
use Rattle.scop_expressions.specs.declared.token.Sign.{Sign}
use Rattle.scop_expressions.specs.declared.token.Sign.TheVariants as sign
use Rattle.scop_expressions.specs.Suffix.TheVariants as suffix
use Rattle.scop_expressions.specs.Width.{Width}
use Rattle.scop_expressions.specs.Width.TheVariants as width
use Rattle.scop_syntax.specs.Tree.{Narrowing}
use Rattle.scop_syntax.specs.Kernel.{IsNarrowed}
use Rattle.scop_roles.specs.declared.kinds.Kind.TheVariants as kind
use Rattle.scop_roles.specs.declared.formula.Meaning.{Meaning}
use Rattle.scop_roles.specs.declared.formula.Meaning.TheVariants as meaning
use Rattle.scop_roles.specs.declared.formula.Role.TheVariants as role
use Rattle.scop_roles.specs.Formula.{Formula, constant, name, index, bare_call, call, unary, cast, binary, place}
use Rattle.scop_roles.specs.Formula.{meaning_of, subscripts}
use Rattle.scop_roles.specs.Forms.{is_sum_or_product, is_product, is_shift, is_and, is_signed, is_narrow, has_name}
use Rattle.scop_roles.specs.Forms.{form, combined_forms, is_within}
use Rattle.scop_roles.specs.Faults.{first, told, faults, place_faults, named, called, rank, only_where, is_count, own}
use Rattle.scop_roles.specs.Faults.{own_rank, side_role}
use Rattle.scop_roles.specs.Scope.{IsKnown, IsInScope, IsArray, IsArrayName}
use Rattle.scop_roles.specs.Values.{access, subscript_forms, expression, signed_value, combined, count, difference}
use Rattle.scop_roles.specs.Values.{comparison, tests, read_places, narrowed_where, cast_to, joined}
use Rattle.scop_roles.proofs.NodeFaults.{unary_first, signed_is_affine}
use Rattle.scop_roles.proofs.Firsts.{part_or_own_none}
use Rattle.scop_roles.proofs.Sizes.{constant_affine, variable_affine, opposite_affine, within_affine, at_most-sums}
use Rattle.scop_roles.proofs.Parts.{judged_none, place_parts, index_value, cast_value, unary_value, signed_unary}
use Rattle.scop_roles.proofs.Parts.{signed_binary, binary_value, shift_count, combined_plain, condition_sides}
use Rattle.scop_roles.proofs.Parts.{comparison_sides}
use Rattle.scop_roles.proofs.Widths.{bare_left, bare_right, bare_value}

pub combined_entries : (n : ℕ) (o : Op) (b : Bool) (f g : Affine) → length f.coefficients ≡ n
    → length g.coefficients ≡ n → length (combined_forms o b f g).coefficients ≡ n
combined_entries n op.Plus b f g h i = length-sums f.coefficients g.coefficients (h ∙ sym i) ∙ h
combined_entries n op.Minus b f g h i =
    let l = length-multiples (negsuc 0) g.coefficients ∙ i in
    length-sums f.coefficients (multiples (negsuc 0) g.coefficients) (h ∙ sym l) ∙ h
combined_entries n op.Times true f g h i = length-multiples g.constant f.coefficients ∙ h
combined_entries n op.Times false f g h i = length-multiples f.constant g.coefficients ∙ i
combined_entries n _ b f g h i = h

form_entries : (n : ℕ) (f : Formula) → length (form n f).coefficients ≡ n
form_entries n (constant s v at) = length-zeros n
form_entries n (name (meaning.Variable k) at) = (variable_affine n k).entries
form_entries n (name meaning.Unknown at) = length-zeros n
form_entries n (name meaning.Closed at) = length-zeros n
form_entries n (name (meaning.Array k r narrow) at) = length-zeros n
form_entries n (index p i) = length-zeros n
form_entries n (bare_call m at) = length-zeros n
form_entries n (call m f at) = length-zeros n
form_entries n (unary sign.Minus f at) = length-multiples (negsuc 0) (form n f).coefficients ∙ form_entries n f
form_entries n (unary sign.Complement f at) = length-zeros n
form_entries n (unary sign.Not f at) = length-zeros n
form_entries n (cast w f at) = length-zeros n
form_entries n (binary o f g at) = combined_entries n o (has_name f) (form n f) (form n g) (form_entries n f)
    (form_entries n g)

within_there : (s p w : Bool) → (if s then (if p then Some kind.NotAffine else only_where (not w) kind.Coefficient)
    else Some kind.NotAffine) ≡ None
    → w ≡ true
within_there true true w h = absurd (grind (arith, h))
within_there true false true h = refl
within_there true false false h = absurd (grind (arith, h))
within_there false p w h = absurd (grind (arith, h))

small_constant : (v : ℕ) → only_where (nat_lt (2 ^ 20) v) kind.Coefficient ≡ None → v ≤ 2 ^ 20
small_constant v h = by_test (nat_lt (2 ^ 20) v) refl h
  where
    by_test : (b : Bool) → nat_lt (2 ^ 20) v ≡ b → only_where b kind.Coefficient ≡ None → v ≤ 2 ^ 20
    by_test true e h = absurd (grind (arith, h))
    by_test false e h = grind arith

pub affine_limits : (n : ℕ) (f : Formula) → first (faults n role.Affine f) ≡ None → IsAffine n (form n f)
affine_limits n (constant (suffix.Absent b) v at) h =
    constant_affine n v (small_constant v (judged_none [] at (own n role.Affine (constant (suffix.Absent b) v at)) h).1)
affine_limits n (constant suffix.Present v at) h = absurd (grind (arith, (judged_none [] at (Some kind.NotAffine) h).1))
affine_limits n (name (meaning.Variable k) at) h = variable_affine n k
affine_limits n (name meaning.Unknown at) h = constant_affine n 0 (omega arith)
affine_limits n (name meaning.Closed at) h = constant_affine n 0 (omega arith)
affine_limits n (name (meaning.Array k r narrow) at) h = constant_affine n 0 (omega arith)
affine_limits n (index p i) h = constant_affine n 0 (omega arith)
affine_limits n (bare_call m at) h = constant_affine n 0 (omega arith)
affine_limits n (call m f at) h = constant_affine n 0 (omega arith)
affine_limits n (unary sign.Minus f at) h =
    opposite_affine n (form n f) (form n (unary sign.Minus f at)) refl
    (affine_limits n f (judged_none (faults n role.Affine f) at None h).0)
affine_limits n (unary sign.Complement f at) h = constant_affine n 0 (omega arith)
affine_limits n (unary sign.Not f at) h = constant_affine n 0 (omega arith)
affine_limits n (cast w f at) h = constant_affine n 0 (omega arith)
affine_limits n (binary o f g at) h =
    let side = side_role o (is_signed f && is_signed g) role.Affine in
    let own_none = (judged_none (faults n side f ++ faults n side g) at (own n role.Affine (binary o f g at)) h).1 in
    within_affine n (form n (binary o f g at)) (form_entries n (binary o f g at))
    (within_there (is_sum_or_product o) (is_product o && (has_name f && has_name g))
    (is_within (form n (binary o f g at))) own_none)

name_limits : (n : ℕ) (m : Meaning) (at : ℕ) → IsAffine n (form n (name m at))
name_limits n (meaning.Variable k) at = variable_affine n k
name_limits n meaning.Unknown at = constant_affine n 0 (omega arith)
name_limits n meaning.Closed at = constant_affine n 0 (omega arith)
name_limits n (meaning.Array k r narrow) at = constant_affine n 0 (omega arith)

known : (ranks : List ℕ) (f : Formula) → IsInScope ranks f → IsKnown ranks (meaning_of f)
known ranks (constant s v at) h = tt
known ranks (name m at) h = h
known ranks (index p i) h = known ranks p h.0
known ranks (bare_call m at) h = tt
known ranks (call m f at) h = tt
known ranks (unary s f at) h = tt
known ranks (cast w f at) h = tt
known ranks (binary o f g at) h = tt

length_subscripts : (n : ℕ) (f : Formula) → length (subscript_forms n f) ≡ subscripts f
length_subscripts n (constant s v at) = refl
length_subscripts n (name m at) = refl
length_subscripts n (index p i) =
    let l = length_subscripts n p in simp length-append (omega arith)
length_subscripts n (bare_call m at) = refl
length_subscripts n (call m f at) = refl
length_subscripts n (unary s f at) = refl
length_subscripts n (cast w f at) = refl
length_subscripts n (binary o f g at) = refl

subscript_limits : (n : ℕ) (f : Formula) → first (place_faults n f) ≡ None → All (IsAffine n) (subscript_forms n f)
subscript_limits n (constant s v at) h = All-nil (IsAffine n)
subscript_limits n (name m at) h = All-nil (IsAffine n)
subscript_limits n (index p i) h =
    let parts = place_parts n p i h in
    All-append (IsAffine n) (subscript_forms n p) (form n i ∷ []) (subscript_limits n p parts.0)
    (All-cons (IsAffine n) (form n i) [] (affine_limits n i parts.1) (All-nil (IsAffine n)))
subscript_limits n (bare_call m at) h = All-nil (IsAffine n)
subscript_limits n (call m f at) h = All-nil (IsAffine n)
subscript_limits n (unary s f at) h = All-nil (IsAffine n)
subscript_limits n (cast w f at) h = All-nil (IsAffine n)
subscript_limits n (binary o f g at) h = All-nil (IsAffine n)

pub rank_there : (a b : ℕ) → only_where (not (a == b)) kind.Rank ≡ None → a ≡ b
rank_there a b h = by_test (a == b) refl h
  where
    by_test : (t : Bool) → (a == b) ≡ t → only_where (not t) kind.Rank ≡ None → a ≡ b
    by_test true e h = grind arith
    by_test false e h = absurd (grind (arith, h))

access_limits : (ranks : List ℕ) (n : ℕ) (f : Formula) (m : Meaning) → meaning_of f ≡ m → IsKnown ranks m
    → IsArrayName m
    → rank m ≡ subscripts f → first (place_faults n f) ≡ None → IsAccess ranks n (access n f)
access_limits ranks n f (meaning.Array k r narrow) e is array r_is h =
    record {
      array = rw e is.0;
      rank = length_subscripts n f ∙ sym r_is ∙ (rw e (sym is.1));
      subscripts = subscript_limits n f h;
    }
access_limits ranks n f meaning.Unknown e is array r_is h = absurd array
access_limits ranks n f meaning.Closed e is array r_is h = absurd array
access_limits ranks n f (meaning.Variable k) e is array r_is h = absurd array

pub place_limits : (ranks : List ℕ) (n : ℕ) (f : Formula) → IsInScope ranks f → IsArray f
    → first (place_faults n f) ≡ None
    → own_rank f ≡ None → IsAccess ranks n (access n f)
place_limits ranks n f scope array h r =
    access_limits ranks n f (meaning_of f) refl (known ranks f scope) array
    (rank_there (rank (meaning_of f)) (subscripts f) r) h

pub ranked_array : (m : Meaning) (k : ℕ) → rank m ≡ k + 1 → IsArrayName m
ranked_array (meaning.Array k r narrow) s e = tt
ranked_array meaning.Unknown s e = absurd (omega arith)
ranked_array meaning.Closed s e = absurd (omega arith)
ranked_array (meaning.Variable k) s e = absurd (omega arith)

signed_limits : (ranks : List ℕ) (n : ℕ) (s : Sign) (e : Expression) → IsExpression ranks n e
    → IsExpression ranks n (signed_value s e)
signed_limits ranks n sign.Minus e h = h
signed_limits ranks n sign.Complement e h = h
signed_limits ranks n sign.Not e h = h

count_small : (f : Formula) → is_count 0 63 f ≡ true → count f ≤ 63
count_small (constant (suffix.Absent b) v at) h = grind arith
count_small (constant suffix.Present v at) h = absurd (grind (arith, h))
count_small (name m at) h = omega arith
count_small (index p i) h = omega arith
count_small (bare_call m at) h = omega arith
count_small (call m f at) h = omega arith
count_small (unary s f at) h = omega arith
count_small (cast w f at) h = omega arith
count_small (binary o f g at) h = omega arith

-- a value kept to 32 bits
pub narrowed_limits : (ranks : List ℕ) (n : ℕ) (b : Bool) (w : Narrowing) (e : Expression) → (b ≡ true → IsNarrowed w e)
    → IsExpression ranks n e → IsExpression ranks n (narrowed_where b w e)
narrowed_limits ranks n true w e fits h = (fits refl, h)
narrowed_limits ranks n false w e fits h = h

cast_limits : (ranks : List ℕ) (n : ℕ) (w : Width) (e : Expression) → IsExpression ranks n e
    → IsExpression ranks n (cast_to w e)
cast_limits ranks n width.Narrow e h = (tt, h)
cast_limits ranks n width.Full e h = h

combined_limits : (ranks : List ℕ) (n : ℕ) (o : Op) (e d : Expression) (k : ℕ) → (is_shift o ≡ true → k ≤ 63)
    → IsExpression ranks n e → (is_shift o ≡ false → IsExpression ranks n d) → IsExpression ranks n (combined o e d k)
combined_limits ranks n op.ShiftLeft e d k small h g = (small refl, h)
combined_limits ranks n op.ShiftRight e d k small h g = (small refl, h)
combined_limits ranks n _ e d k small h g = (h, g refl)

joined_limits : (ranks : List ℕ) (n : ℕ) (o : Op) (f g : Formula) (at : ℕ)
    → first (faults n role.Value (binary o f g at)) ≡ None → IsExpression ranks n (expression n f)
    → IsExpression ranks n (expression n g)
    → IsExpression ranks n (joined o f g at (expression n f) (expression n g))
joined_limits ranks n o f g at h left right =
    let narrow = is_narrow (binary o f g at) in
    let d = narrowed_where (narrow && is_signed f) converted (expression n f) in
    let e = narrowed_where (narrow && is_signed g) converted (expression n g) in
    narrowed_limits ranks n narrow implied (combined o d e (count g)) (λ t. tt)
    (combined_limits ranks n o d e (count g) (λ s. count_small g (shift_count n o f g at s h))
    (narrowed_limits ranks n (narrow && is_signed f) converted (expression n f)
    (λ both. let b = and_parts narrow (is_signed f) both in
    bare_value n f b.1 (bare_left n o f g at b.0 b.1 h)) left)
    (λ s. narrowed_limits ranks n (narrow && is_signed g) converted (expression n g)
    (λ both. let b = and_parts narrow (is_signed g) both in
    bare_value n g b.1 (bare_right n o f g at s b.0 b.1 h)) right))

pub value_limits : (ranks : List ℕ) (n : ℕ) (f : Formula) → IsInScope ranks f → first (faults n role.Value f) ≡ None
    → IsExpression ranks n (expression n f)
value_limits ranks n (constant s v at) scope h = scope
value_limits ranks n (name m at) scope h = name_limits n m at
value_limits ranks n (index p i) scope h =
    let none = index_value n p i h in
    let r = rank_there (rank (meaning_of p)) (subscripts p + 1) none.1 in
    place_limits ranks n (index p i) scope (ranked_array (meaning_of p) (subscripts p) r) none.0 none.1
value_limits ranks n (bare_call m at) scope h = omega arith
value_limits ranks n (call m f at) scope h = omega arith
value_limits ranks n (unary s f at) scope h =
    by_sign (is_signed (unary s f at)) refl (λ u. value_limits ranks n f scope (unary_value n s f at u h))
  where
    by_sign : (b : Bool) → is_signed (unary s f at) ≡ b
        → (is_signed (unary s f at) ≡ false → IsExpression ranks n (expression n f))
        → IsExpression ranks n (if b then affine (form n (unary s f at))
        else narrowed_where (is_narrow (unary s f at)) implied (signed_value s (expression n f)))
    by_sign true e ih = affine_limits n (unary s f at) (signed_is_affine n (unary s f at) (signed_unary n s f at e h))
    by_sign false e ih =
        narrowed_limits ranks n (is_narrow (unary s f at)) implied (signed_value s (expression n f)) (λ t. tt)
        (signed_limits ranks n s (expression n f) (ih e))
value_limits ranks n (cast w f at) scope h =
    cast_limits ranks n w (expression n f) (value_limits ranks n f scope (cast_value n w f at h))
value_limits ranks n (binary o f g at) scope h =
    by_sign (is_signed (binary o f g at)) refl (λ u. value_limits ranks n f scope.0 (binary_value n o f g at u h).0)
    (λ u. value_limits ranks n g scope.1 (binary_value n o f g at u h).1)
  where
    by_sign : (b : Bool) → is_signed (binary o f g at) ≡ b
        → (is_signed (binary o f g at) ≡ false → IsExpression ranks n (expression n f))
        → (is_signed (binary o f g at) ≡ false → IsExpression ranks n (expression n g))
        → IsExpression ranks n (if b then affine (form n (binary o f g at))
        else joined o f g at (expression n f) (expression n g))
    by_sign true e left right = affine_limits n (binary o f g at)
        (signed_is_affine n (binary o f g at) (signed_binary n o f g at e h))
    by_sign false e left right = joined_limits ranks n o f g at h (left e) (right e)

-- a comparison's form
difference_limits : (n : ℕ) (f g : Affine) (k : ℤ) → IsAffine n f → IsAffine n g → unsigned_abs k ≤ 1
    → IsForm n 32 (2 ^ 21 + 1) (difference f g k)
difference_limits n f g k h i small =
    let o = opposite_affine n g (multiple_of_form (negsuc 0) g) refl i in
    let a = abs_sum f.constant (negsuc 0 *ℤ g.constant) in
    let b = abs_sum (f.constant +ℤ (negsuc 0 *ℤ g.constant)) k in
    let fc = h.constant in
    let gc = o.constant in
    record {
      entries = rw (sums-nil (sums f.coefficients (multiples (negsuc 0) g.coefficients)))
          (length-sums f.coefficients (multiples (negsuc 0) g.coefficients) (h.entries ∙ sym o.entries) ∙ h.entries);
      coefficients = rw (sums-nil (sums f.coefficients (multiples (negsuc 0) g.coefficients)))
          (at_most-sums 16 16 f.coefficients (multiples (negsuc 0) g.coefficients) h.coefficients o.coefficients);
      constant = omega arith;
    }

comparison_limits : (n : ℕ) (o : Op) (f g : Affine) → IsAffine n f → IsAffine n g
    → IsComparison n (test_form (comparison o f g))
comparison_limits n op.Less f g h i = difference_limits n g f (negsuc 0) i h (omega arith)
comparison_limits n op.AtMost f g h i = difference_limits n g f (pos 0) i h (omega arith)
comparison_limits n op.Greater f g h i = difference_limits n f g (negsuc 0) h i (omega arith)
comparison_limits n op.AtLeast f g h i = difference_limits n f g (pos 0) h i (omega arith)
comparison_limits n _ f g h i = difference_limits n f g (pos 0) h i (omega arith)

abbrev AreComparisons : ℕ → List Test → Type 0
AreComparisons n ts = (0 < length ts) × All (λ test. IsComparison n (test_form test)) ts

pub condition_limits : (n : ℕ) (f : Formula) → first (faults n role.Condition f) ≡ None → AreComparisons n (tests n f)
condition_limits n (constant s v at) h = absurd (grind (arith, (judged_none [] at (Some kind.Condition) h).1))
condition_limits n (name m at) h = absurd (grind
    (arith, (judged_none (told at (named m)) at (Some kind.Condition) h).1))
condition_limits n (index p i) h =
    absurd (grind (
      arith,
      (judged_none (place_faults n p ++ faults n role.Affine i) (place p) (Some kind.Condition)
          h).1,
    ))
condition_limits n (bare_call m at) h = absurd
    (grind (arith, (judged_none (told at (called m)) at (Some kind.Condition) h).1))
condition_limits n (call m f at) h =
    absurd (grind (arith, (judged_none (told at (called m) ++ faults n role.Free f) at (Some kind.Condition) h).1))
condition_limits n (unary s f at) h =
    absurd (grind (arith, (part_or_own_none _ at (Some kind.Condition) (unary_first n role.Condition s f at ∙ h)).1))
condition_limits n (cast w f at) h = absurd (grind
    (arith, (judged_none (faults n role.Free f) at (Some kind.Condition) h).1))
condition_limits n (binary o f g at) h =
    by_and (is_and o) refl (λ a. condition_limits n f (condition_sides n o f g at a h).0)
    (λ a. condition_limits n g (condition_sides n o f g at a h).1)
  where
    by_and : (b : Bool) → is_and o ≡ b → (is_and o ≡ true → AreComparisons n (tests n f))
        → (is_and o ≡ true → AreComparisons n (tests n g))
        → AreComparisons n (if b then tests n f ++ tests n g else comparison o (form n f) (form n g) ∷ [])
    by_and true e left right =
        let l = left e in
        let some = l.0 in
        let sum = length-append (tests n f) (tests n g) in
        (omega arith, All-append (λ test. IsComparison n (test_form test)) (tests n f) (tests n g) l.1 (right e).1)
    by_and false e left right =
        let sides = comparison_sides n o f g at e h in (
          omega arith,
          All-cons (λ test. IsComparison n (test_form test)) (comparison o (form n f) (form n g)) []
              (comparison_limits n o (form n f) (form n g) (affine_limits n f sides.0) (affine_limits n g sides.1))
              (All-nil (λ test. IsComparison n (test_form test))),
        )

-- a value reads as many cells as its formula names
signed_reads : (f : Formula) → is_signed f ≡ true → read_places f ≡ []
signed_reads (constant s v at) h = refl
signed_reads (name m at) h = refl
signed_reads (index p i) h = absurd (grind (arith, h))
signed_reads (bare_call m at) h = refl
signed_reads (call m f at) h = refl
signed_reads (unary sign.Minus f at) h = signed_reads f h
signed_reads (unary sign.Complement f at) h = absurd (grind (arith, h))
signed_reads (unary sign.Not f at) h = absurd (grind (arith, h))
signed_reads (cast w f at) h = absurd (grind (arith, h))
signed_reads (binary o f g at) h =
    by_parts (is_sum_or_product o) (is_signed f) (is_signed g) (signed_reads f) (signed_reads g) refl refl h
  where
    by_parts : (a s t : Bool) → (is_signed f ≡ true → read_places f ≡ []) → (is_signed g ≡ true → read_places g ≡ [])
        → is_signed f ≡ s → is_signed g ≡ t → (a && (s && t)) ≡ true → read_places f ++ read_places g ≡ []
    by_parts true true true left right e d h = rw (left e, right d) refl
    by_parts true true false left right e d h = absurd (grind (arith, h))
    by_parts true false t left right e d h = absurd (grind (arith, h))
    by_parts false s t left right e d h = absurd (grind (arith, h))

count_reads : (f : Formula) → is_count 0 63 f ≡ true → read_places f ≡ []
count_reads (constant s v at) h = refl
count_reads (name m at) h = refl
count_reads (index p i) h = absurd (grind (arith, h))
count_reads (bare_call m at) h = refl
count_reads (call m f at) h = refl
count_reads (unary s f at) h = absurd (grind (arith, h))
count_reads (cast w f at) h = absurd (grind (arith, h))
count_reads (binary o f g at) h = absurd (grind (arith, h))

pub sign_reads : (s : Sign) (e : Expression) → reads_of (signed_value s e) ≡ reads_of e
sign_reads sign.Minus e = refl
sign_reads sign.Complement e = refl
sign_reads sign.Not e = refl

pub narrowed_reads : (b : Bool) (w : Narrowing) (e : Expression) → reads_of (narrowed_where b w e) ≡ reads_of e
narrowed_reads true w e = refl
narrowed_reads false w e = refl

pub cast_reads : (w : Width) (e : Expression) → reads_of (cast_to w e) ≡ reads_of e
cast_reads width.Narrow e = refl
cast_reads width.Full e = refl

shift_reads : (o : Op) (e d : Expression) (k : ℕ) → is_shift o ≡ true → reads_of (combined o e d k) ≡ reads_of e
shift_reads op.ShiftLeft e d k h = refl
shift_reads op.ShiftRight e d k h = refl
shift_reads _ e d k h = absurd (grind (arith, h))

other_reads : (o : Op) (e d : Expression) (k : ℕ) → is_shift o ≡ false
    → reads_of (combined o e d k) ≡ reads_of e ++ reads_of d
other_reads o e d k h = rw (combined_plain o e d k h) refl

-- what an operator reads does not depend on widths
pub joined_shift_reads : (o : Op) (f g : Formula) (at : ℕ) (d e : Expression) → is_shift o ≡ true
    → reads_of (joined o f g at d e) ≡ reads_of d
joined_shift_reads o f g at d e shift =
    let narrow = is_narrow (binary o f g at) in
    let left = narrowed_where (narrow && is_signed f) converted d in
    let right = narrowed_where (narrow && is_signed g) converted e in
    narrowed_reads narrow implied (combined o left right (count g)) ∙ shift_reads o left right (count g) shift
    ∙ narrowed_reads (narrow && is_signed f) converted d

pub joined_other_reads : (o : Op) (f g : Formula) (at : ℕ) (d e : Expression) → is_shift o ≡ false
    → reads_of (joined o f g at d e) ≡ reads_of d ++ reads_of e
joined_other_reads o f g at d e plain =
    let narrow = is_narrow (binary o f g at) in
    let left = narrowed_where (narrow && is_signed f) converted d in
    let right = narrowed_where (narrow && is_signed g) converted e in
    narrowed_reads narrow implied (combined o left right (count g)) ∙ other_reads o left right (count g) plain
    ∙ ap₂ (λ (xs ys : List Access). xs ++ ys) (narrowed_reads (narrow && is_signed f) converted d)
    (narrowed_reads (narrow && is_signed g) converted e)

pub reads_counted : (n : ℕ) (f : Formula) → first (faults n role.Value f) ≡ None
    → length (read_places f) ≡ length (reads_of (expression n f))
reads_counted n (constant s v at) h = refl
reads_counted n (name m at) h = refl
reads_counted n (index p i) h = refl
reads_counted n (bare_call m at) h = refl
reads_counted n (call m f at) h = refl
reads_counted n (unary s f at) h =
    by_sign (is_signed (unary s f at)) refl (λ u. reads_counted n f (unary_value n s f at u h))
  where
    by_sign : (b : Bool) → is_signed (unary s f at) ≡ b
        → (is_signed (unary s f at) ≡ false → length (read_places f) ≡ length (reads_of (expression n f)))
        → length (read_places f) ≡ length (reads_of
        (if b then affine (form n (unary s f at))
        else narrowed_where (is_narrow (unary s f at)) implied (signed_value s (expression n f))))
    by_sign true e ih = ap length (signed_reads (unary s f at) e)
    by_sign false e ih =
        ih e ∙ ap length (sym (narrowed_reads (is_narrow (unary s f at)) implied (signed_value s (expression n f))
        ∙ sign_reads s (expression n f)))
reads_counted n (cast w f at) h =
    reads_counted n f (cast_value n w f at h) ∙ ap length (sym (cast_reads w (expression n f)))
reads_counted n (binary o f g at) h =
    by_sign (is_signed (binary o f g at)) (is_shift o) refl refl
    (λ u. reads_counted n f (binary_value n o f g at u h).0)
    (λ u. reads_counted n g (binary_value n o f g at u h).1)
  where
    by_sign : (b t : Bool) → is_signed (binary o f g at) ≡ b → is_shift o ≡ t
        → (is_signed (binary o f g at) ≡ false → length (read_places f) ≡ length (reads_of (expression n f)))
        → (is_signed (binary o f g at) ≡ false → length (read_places g) ≡ length (reads_of (expression n g)))
        → length (read_places f ++ read_places g) ≡ length (reads_of
        (if b then affine (form n (binary o f g at)) else joined o f g at (expression n f) (expression n g)))
    by_sign true t e d left right = ap length (signed_reads (binary o f g at) e)
    by_sign false true e d left right =
        let none = count_reads g (shift_count n o f g at d h) in
        let l = left e in
        let a = length-append (read_places f) (read_places g) in
        let b = ap length none in
        rw (joined_shift_reads o f g at (expression n f) (expression n g) d) (omega arith)
    by_sign false false e d left right =
        let l = left e in
        let r = right e in
        let a = length-append (read_places f) (read_places g) in
        let b = length-append (reads_of (expression n f)) (reads_of (expression n g)) in
        rw (joined_other_reads o f g at (expression n f) (expression n g) d) (omega arith)
