-- The values and the comparisons that the code makes of a formula's parts.
use Rattle.scop_syntax.proofs.Common.{◌≡◌, ℕ, Bool, true, false, ◌&&◌, List, [], ◌∷◌, ◌++◌, None, Result, Ok, Err, ap}
use Rattle.scop_syntax.proofs.Common.{sym, subst, ◌∙◌, refl, append_assoc, and_parts, OnOk, IfOk, AllocError, Affine}
use Rattle.scop_syntax.proofs.Common.{Expression, affine, read, implied, converted, Test}
use Rattle.scop_syntax.specs.Tree as scop
use Rattle.scop_expressions.specs.Op.{Op}
use Rattle.scop_expressions.specs.declared.token.Sign.{Sign}
use Rattle.scop_expressions.specs.Width.{Width}
use Rattle.scop_roles.specs.declared.formula.Role.TheVariants as role
use Rattle.scop_roles.specs.Formula.{Formula, index, unary, cast, binary}
use Rattle.scop_roles.specs.Forms.{is_sum_or_product, is_shift, is_and, is_signed, has_name, is_narrow, form}
use Rattle.scop_roles.specs.Faults.{first, faults, place_faults, is_count}
use Rattle.scop_roles.specs.Values.{access, subscript_forms, expression, IsValueOf, signed_value, combined, count}
use Rattle.scop_roles.specs.Values.{comparison, tests, operator, narrowed_where, cast_to, joined, IsSideOf}
use Rattle.scop_roles.specs.declared.judgement.Judgement.{Judgement}
use Rattle.scop_roles.specs.steps.Judgement.{HasForm, IsJudgement}
use Rattle.scop_roles.proofs.NodeFaults.{signed_is_affine}
use Rattle.scop_roles.proofs.Parts.{place_parts, index_value, cast_value, unary_value, signed_unary, signed_binary}
use Rattle.scop_roles.proofs.Parts.{binary_value, shift_count, combined_plain, condition_sides, comparison_sides}

pub on_ok : {T E : Type 0} {P Q : Type 0} (r : Result T E) → (P → Q) → OnOk r P → OnOk r Q
on_ok (Ok x) f h = f h
on_ok (Err e) f h = tt

pub if_ok : {T E : Type 0} {P Q : T → Type 0} (r : Result T E) → ((x : T) → P x → Q x) → IfOk r P → IfOk r Q
if_ok (Ok x) f h = f x h
if_ok (Err e) f h = tt

-- what was judged, if there was memory for it, is within the limits
pub judged_limits : (n : ℕ) (f : Formula) (r : Result Judgement AllocError) → IfOk r (IsJudgement n f)
    → IfOk r (λ j. HasForm n j.form)
judged_limits n f r judged = if_ok r (λ j known. known.limits) judged

-- where no name stands in the left side of a signed operator, one stands in it if in the right side
pub named_right : (f : Formula) (o : Op) (g k : Formula) (at : ℕ) (l r : Bool) → f ≡ binary o g k at
    → (is_signed g ≡ true → l ≡ has_name g) → l ≡ false → (is_signed k ≡ true → r ≡ has_name k) → is_signed f ≡ true
    → r ≡ has_name f
named_right f o g k at l r e left none right signed =
    let all = and_parts (is_sum_or_product o) (is_signed g && is_signed k) (subst (λ f. is_signed f ≡ true) e signed) in
    let both = and_parts (is_signed g) (is_signed k) all.1 in
    let whole : has_name k ≡ has_name (binary o g k at) = rw (sym (left both.0) ∙ none) refl in
    right both.1 ∙ whole ∙ ap has_name (sym e)

pub pushed_subscripts : (n : ℕ) (f p i : Formula) (old mid new : List Affine) (x : Affine) → f ≡ index p i
    → (first (place_faults n p) ≡ None → mid ≡ old ++ subscript_forms n p)
    → (first (faults n role.Affine i) ≡ None → x ≡ form n i) → new ≡ mid ++ x ∷ []
    → first (place_faults n f) ≡ None → new ≡ old ++ subscript_forms n f
pushed_subscripts n f p i old mid new x e before here all h =
    let parts = place_parts n p i (subst (λ f. first (place_faults n f) ≡ None) e h) in
    rw (e, all, before parts.0, here parts.1) (append_assoc old (subscript_forms n p) (form n i ∷ []))

pub read_value : (n : ℕ) (f p i : Formula) (x : Expression) → f ≡ index p i
    → (first (place_faults n f) ≡ None → x ≡ read (access n f)) → IsValueOf n f x
read_value n f p i x e x_is h =
    let none = (index_value n p i (subst (λ f. first (faults n role.Value f) ≡ None) e h)).0 in
    x_is (subst (λ f. first (place_faults n f) ≡ None) (sym e) none)
    ∙ subst (λ f. read (access n f) ≡ expression n f) (sym e) refl

pub signed_unary_value : (n : ℕ) (f : Formula) (s : Sign) (g : Formula) (at : ℕ) (x : Expression) → f ≡ unary s g at
    → is_signed f ≡ true → (first (faults n role.Affine f) ≡ None → x ≡ affine (form n f))
    → IsValueOf n f x
signed_unary_value n f s g at x e signed x_is h =
    let signed_here = subst (λ f. is_signed f ≡ true) e signed in
    let none = signed_is_affine n (unary s g at)
    (signed_unary n s g at signed_here (subst (λ f. first (faults n role.Value f) ≡ None) e h)) in
    let whole : affine (form n (unary s g at)) ≡ expression n (unary s g at) = rw signed_here refl in
    x_is (subst (λ f. first (faults n role.Affine f) ≡ None) (sym e) none)
    ∙ subst (λ f. affine (form n f) ≡ expression n f) (sym e) whole

pub signed_binary_value : (n : ℕ) (f : Formula) (o : Op) (g k : Formula) (at : ℕ) (x : Expression) → f ≡ binary o g k at
    → is_signed f ≡ true → (first (faults n role.Affine f) ≡ None → x ≡ affine (form n f))
    → IsValueOf n f x
signed_binary_value n f o g k at x e signed x_is h =
    let signed_here = subst (λ f. is_signed f ≡ true) e signed in
    let none = signed_is_affine n (binary o g k at)
    (signed_binary n o g k at signed_here (subst (λ f. first (faults n role.Value f) ≡ None) e h)) in
    let whole : affine (form n (binary o g k at)) ≡ expression n (binary o g k at) = rw signed_here refl in
    x_is (subst (λ f. first (faults n role.Affine f) ≡ None) (sym e) none)
    ∙ subst (λ f. affine (form n f) ≡ expression n f) (sym e) whole

pub unsigned_unary_value : (n : ℕ) (s : Sign) (g : Formula) (at : ℕ) (b : Bool) (x y : Expression)
    → is_signed (unary s g at) ≡ false → b ≡ is_narrow (unary s g at) → IsValueOf n g y
    → x ≡ narrowed_where b implied (signed_value s y) → IsValueOf n (unary s g at) x
unsigned_unary_value n s g at b x y unsigned b_is y_is x_is h =
    let whole : narrowed_where (is_narrow (unary s g at)) implied (signed_value s (expression n g))
    ≡ expression n (unary s g at) = rw unsigned refl in
    x_is ∙ ap (λ c. narrowed_where c implied (signed_value s y)) b_is
    ∙ ap (λ z. narrowed_where (is_narrow (unary s g at)) implied (signed_value s z))
    (y_is (unary_value n s g at unsigned h)) ∙ whole

pub cast_of_value : (n : ℕ) (w : Width) (g : Formula) (at : ℕ) (x y : Expression) → IsValueOf n g y → x ≡ cast_to w y
    → IsValueOf n (cast w g at) x
cast_of_value n w g at x y y_is x_is h = x_is ∙ ap (λ z. cast_to w z) (y_is (cast_value n w g at h))

pub converted_side : (n : ℕ) (b t : Bool) (g : Formula) (x y : Expression) → t ≡ (b && is_signed g) → IsValueOf n g y
    → x ≡ narrowed_where t converted y → IsSideOf n b g x
converted_side n b t g x y t_is y_is x_is h =
    x_is ∙ ap (λ u. narrowed_where u converted y) t_is
    ∙ ap (λ z. narrowed_where (b && is_signed g) converted z) (y_is h)

pub shift_value : (n : ℕ) (o : Op) (g k : Formula) (at : ℕ) (b : Bool) (x y : Expression) (c : ℕ)
    → is_signed (binary o g k at) ≡ false → is_shift o ≡ true → b ≡ is_narrow (binary o g k at) → IsSideOf n b g y
    → ((d : Expression) → x ≡ narrowed_where b implied (combined o y d c)) → (is_count 0 63 k ≡ true → c ≡ count k)
    → IsValueOf n (binary o g k at) x
shift_value n o g k at b x y c unsigned shift b_is y_is x_is c_is h =
    let parts = binary_value n o g k at unsigned h in
    let left = narrowed_where (b && is_signed g) converted (expression n g) in
    let right = narrowed_where (b && is_signed k) converted (expression n k) in
    let whole : joined o g k at (expression n g) (expression n k) ≡ expression n (binary o g k at) =
    rw unsigned refl in
    let wide : narrowed_where b implied (combined o left right (count k))
    ≡ joined o g k at (expression n g) (expression n k) = rw b_is refl in
    x_is right ∙ ap (λ z. narrowed_where b implied (combined o z right c)) (y_is parts.0)
    ∙ ap (λ m. narrowed_where b implied (combined o left right m)) (c_is (shift_count n o g k at shift h)) ∙ wide
    ∙ whole

pub joined_value : (n : ℕ) (o : Op) (g k : Formula) (at : ℕ) (b : Bool) (x y z : Expression) → is_shift o ≡ false
    → is_signed (binary o g k at) ≡ false → b ≡ is_narrow (binary o g k at) → IsSideOf n b g y → IsSideOf n b k z
    → x ≡ narrowed_where b implied (scop.binary (operator o) y z) → IsValueOf n (binary o g k at) x
joined_value n o g k at b x y z plain unsigned b_is y_is z_is x_is h =
    let parts = binary_value n o g k at unsigned h in
    let left = narrowed_where (b && is_signed g) converted (expression n g) in
    let right = narrowed_where (b && is_signed k) converted (expression n k) in
    let whole : joined o g k at (expression n g) (expression n k) ≡ expression n (binary o g k at) =
    rw unsigned refl in
    let wide : narrowed_where b implied (combined o left right (count k))
    ≡ joined o g k at (expression n g) (expression n k) = rw b_is refl in
    x_is ∙ ap (λ v. narrowed_where b implied v) (sym (combined_plain o y z (count k) plain))
    ∙ ap (λ v. narrowed_where b implied (combined o v z (count k))) (y_is parts.0)
    ∙ ap (λ v. narrowed_where b implied (combined o left v (count k))) (z_is parts.1) ∙ wide ∙ whole

pub joined_tests : (n : ℕ) (f : Formula) (o : Op) (g k : Formula) (at : ℕ) (old mid new : List Test)
    → f ≡ binary o g k at
    → is_and o ≡ true → (first (faults n role.Condition g) ≡ None → mid ≡ old ++ tests n g)
    → (first (faults n role.Condition k) ≡ None → new ≡ mid ++ tests n k)
    → first (faults n role.Condition f) ≡ None → new ≡ old ++ tests n f
joined_tests n f o g k at old mid new e joins before here h =
    let parts = condition_sides n o g k at joins (subst (λ f. first (faults n role.Condition f) ≡ None) e h) in
    let whole : tests n g ++ tests n k ≡ tests n (binary o g k at) = rw joins refl in
    here parts.1 ∙ ap (λ ts. ts ++ tests n k) (before parts.0) ∙ append_assoc old (tests n g) (tests n k)
    ∙ ap (λ ts. old ++ ts) whole ∙ ap (λ f. old ++ tests n f) (sym e)

pub compared_tests : (n : ℕ) (o : Op) (g k : Formula) (at : ℕ) (old new : List Test) (a b : Affine) (t : Test)
    → is_and o ≡ false → (first (faults n role.Affine g) ≡ None → a ≡ form n g)
    → (first (faults n role.Affine k) ≡ None → b ≡ form n k) → t ≡ comparison o a b → new ≡ old ++ t ∷ []
    → first (faults n role.Condition (binary o g k at)) ≡ None → new ≡ old ++ tests n (binary o g k at)
compared_tests n o g k at old new a b t compares a_is b_is t_is all h =
    let parts = comparison_sides n o g k at compares h in
    let whole : comparison o (form n g) (form n k) ∷ [] ≡ tests n (binary o g k at) = rw compares refl in
    let same : t ≡ comparison o (form n g) (form n k) =
    t_is ∙ ap (λ x. comparison o x b) (a_is parts.0) ∙ ap (λ x. comparison o (form n g) x) (b_is parts.1) in
    all ∙ ap (λ x. old ++ x ∷ []) same ∙ ap (λ ts. old ++ ts) whole
