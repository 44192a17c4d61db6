-- The form of an affine expression is worth at each point what the expression is there.
use Rattle.scop_syntax.proofs.Common.{◌≡◌, [], ℕ, Bool, true, false, ◌&&◌, ℤ, pos, negsuc, ◌*ℤ◌, List, ◌++◌, length, ap}
use Rattle.scop_syntax.proofs.Common.{sym, subst, ◌∙◌, refl, inl, inr, arith, ◌≤◌, ◌^◌, unsigned_abs, Some, None}
use Rattle.scop_syntax.proofs.Common.{if◌then◌else◌, not, ints, cases_lt, get_or_past, Affine, value_of}
use Rattle.scop_syntax.proofs.Common.{multiple_of_form, dot, zeros, multiples, length-zeros, dot-zeros, dot-multiples}
use Rattle.scop_syntax.proofs.Common.{dot-sums, dot-unit, value_of-sum, value_of-multiple, mul_comm_int, mul_zero_right}
use Rattle.scop_syntax.proofs.Common.{IsAffine}
use Rattle.std.proofs.lemmas.List.{set_past}
use Rattle.scop_expressions.specs.Op.{Op}
use Rattle.scop_expressions.specs.Op.TheVariants as op
use Rattle.scop_expressions.specs.declared.token.Sign.TheVariants as sign
use Rattle.scop_expressions.specs.Suffix.TheVariants as suffix
use Rattle.scop_roles.specs.declared.kinds.Kind.TheVariants as kind
use Rattle.scop_roles.specs.declared.formula.Meaning.{Meaning}
use Rattle.scop_roles.specs.declared.formula.Meaning.TheVariants as meaning
use Rattle.scop_roles.specs.declared.formula.Role.TheVariants as role
use Rattle.scop_roles.specs.Faults.{first, told, faults, place_faults, called, own, only_where, side_role}
use Rattle.scop_roles.specs.Forms.{is_sum_or_product, is_product, is_signed, is_within, has_name, form}
use Rattle.scop_roles.specs.Forms.{combined_forms, product_of_forms}
use Rattle.scop_roles.specs.Formula.{Formula, constant, name, index, bare_call, call, unary, cast, binary, place}
use Rattle.scop_roles.proofs.NodeFaults.{sum_sides}
use Rattle.scop_roles.proofs.Parts.{judged_none, append_none}
use Rattle.scop_units.proofs.FaultlessUnits.{both_false}
use Rattle.scop_arithmetic.specs.Arithmetic.{whole, HasWhole}

-- a form without coefficients: where no name stands
combined_flat : (o : Op) (b : Bool) (f g : Affine) (p : List ℤ) → dot f.coefficients p ≡ pos 0
    → dot g.coefficients p ≡ pos 0 → dot (combined_forms o b f g).coefficients p ≡ pos 0
combined_flat op.Plus b f g p x y = let s = dot-sums f.coefficients g.coefficients p in omega (arith, ints)
combined_flat op.Minus b f g p x y =
    let s = dot-sums f.coefficients (multiples (negsuc 0) g.coefficients) p in
    let m = dot-multiples (negsuc 0) g.coefficients p in
    omega (arith, ints)
combined_flat op.Times true f g p x y =
    dot-multiples g.constant f.coefficients p ∙ (ap (λ z. g.constant *ℤ z) x ∙ mul_zero_right g.constant)
combined_flat op.Times false f g p x y =
    dot-multiples f.constant g.coefficients p ∙ (ap (λ z. f.constant *ℤ z) y ∙ mul_zero_right f.constant)
combined_flat _ b f g p x y = x

flat : (n : ℕ) (f : Formula) (p : List ℤ) → has_name f ≡ false → dot (form n f).coefficients p ≡ pos 0
flat n (constant s v at) p e = dot-zeros n p
flat n (unary sign.Minus f at) p e =
    dot-multiples (negsuc 0) (form n f).coefficients p
    ∙ (ap (λ z. negsuc 0 *ℤ z) (flat n f p e) ∙ mul_zero_right (negsuc 0))
flat n (unary _ f at) p e = dot-zeros n p
flat n (cast w f at) p e = dot-zeros n p
flat n (binary o f g at) p e =
    let b = both_false (has_name f) (has_name g) e in
    combined_flat o (has_name f) (form n f) (form n g) p (flat n f p b.0) (flat n g p b.1)
flat n _ p e = absurd (cc)

-- a product of which one side is without coefficients
product_value : (b c : Bool) (f g : Affine) (p : List ℤ) → (b ≡ false → dot f.coefficients p ≡ pos 0)
    → (c ≡ false → dot g.coefficients p ≡ pos 0) → (b && c) ≡ false
    → value_of (product_of_forms b f g) p ≡ value_of f p *ℤ value_of g p
product_value true true f g p x y e = absurd (cc)
product_value true false f g p x y e =
    let m = value_of-multiple g.constant f p in
    let one : value_of g p ≡ g.constant = let z = y refl in omega (arith, ints) in
    m ∙ (mul_comm_int g.constant (value_of f p) ∙ ap (λ z. value_of f p *ℤ z) (sym one))
product_value false c f g p x y e =
    let m = value_of-multiple f.constant g p in
    let one : value_of f p ≡ f.constant = let z = x refl in omega (arith, ints) in
    m ∙ ap (λ z. z *ℤ value_of g p) (sym one)

-- a sum, a difference or a product of forms that are worth their sides
pub term_value : (n : ℕ) (o : Op) (f g : Formula) (at : ℕ) (p : List ℤ) → is_sum_or_product o ≡ true
    → (is_product o && (has_name f && has_name g)) ≡ false → value_of (form n f) p ≡ whole p f
    → value_of (form n g) p ≡ whole p g → value_of (form n (binary o f g at)) p ≡ whole p (binary o f g at)
term_value n op.Plus f g at p s e x y = let v = value_of-sum (form n f) (form n g) p in omega (arith, ints)
term_value n op.Minus f g at p s e x y =
    let v = value_of-sum (form n f) (multiple_of_form (negsuc 0) (form n g)) p in
    let m = value_of-multiple (negsuc 0) (form n g) p in
    omega (arith, ints)
term_value n op.Times f g at p s e x y =
    product_value (has_name f) (has_name g) (form n f) (form n g) p (λ h. flat n f p h) (λ h. flat n g p h) e
    ∙ (ap (λ z. z *ℤ value_of (form n g) p) x ∙ ap (λ z. whole p f *ℤ z) y)
term_value n _ f g at p s e x y = absurd (cc)

-- a name is an entry, or counts 0
pub name_value : (n : ℕ) (m : Meaning) (at : ℕ) (p : List ℤ) → length p ≡ n
    → value_of (form n (name m at)) p ≡ whole p (name m at)
name_value n (meaning.Variable k) at p long = elim (cases_lt k n) [
  | inl inside ↦ let u = dot-unit n k p inside in omega (arith, ints)
  | inr past ↦
      let none = get_or_past p k (pos 0) (omega arith) in
      let same = set_past (zeros n) k (pos 1) (omega (arith, length-zeros n)) in
      let z = ap (λ cs. dot cs p) same ∙ dot-zeros n p in
      omega (arith, ints)
]
name_value n meaning.Unknown at p long = let z = dot-zeros n p in omega (arith, ints)
name_value n meaning.Closed at p long = let z = dot-zeros n p in omega (arith, ints)
name_value n (meaning.Array k r b) at p long = let z = dot-zeros n p in omega (arith, ints)

-- an operator of an affine expression
pub own_parts : (s p w : Bool) → (if s then (if p then Some kind.NotAffine else only_where (not w) kind.Coefficient)
    else Some kind.NotAffine) ≡ None
    → (s ≡ true) × (p ≡ false)
own_parts true true w e = absurd (cc)
own_parts true false w e = (refl, refl)
own_parts false p w e = absurd (cc)

-- the sides of an affine operator are affine
pub affine_sides : (n : ℕ) (o : Op) (f g : Formula) (at : ℕ) → first (faults n role.Affine (binary o f g at)) ≡ None
    → (is_sum_or_product o ≡ true) × ((is_product o && (has_name f && has_name g)) ≡ false)
    × (first (faults n role.Affine f) ≡ None) × (first (faults n role.Affine g) ≡ None)
affine_sides n o f g at h =
    let b = is_signed f && is_signed g in
    let side = side_role o b role.Affine in
    let all = judged_none (faults n side f ++ faults n side g) at (own n role.Affine (binary o f g at)) h in
    let parts = append_none (faults n side f) (faults n side g) all.0 in
    let t = own_parts (is_sum_or_product o) (is_product o && (has_name f && has_name g))
    (is_within (form n (binary o f g at))) all.1 in
    let role_is = sum_sides o b role.Affine t.0 in (
      t.0,
      t.1,
      subst (λ r. first (faults n r f) ≡ None) role_is parts.0,
      subst (λ r. first (faults n r g) ≡ None) role_is parts.1,
    )

-- the form of an affine expression is worth what the expression is
pub form_value : (n : ℕ) (f : Formula) (p : List ℤ) → length p ≡ n → first (faults n role.Affine f) ≡ None
    → value_of (form n f) p ≡ whole p f
form_value n (name m at) p long h = name_value n m at p long
form_value n (unary sign.Minus f at) p long h =
    let v = form_value n f p long (judged_none (faults n role.Affine f) at None h).0 in
    let m = value_of-multiple (negsuc 0) (form n f) p in
    omega (arith, ints)
form_value n (binary o f g at) p long h =
    let parts = affine_sides n o f g at h in
    term_value n o f g at p parts.0 parts.1 (form_value n f p long parts.2) (form_value n g p long parts.3)
form_value n _ p long h = let z = dot-zeros n p in omega (arith, ints)

-- it is an expression that has a whole number
sum_whole : (o : Op) (f g : Formula) (at : ℕ) → is_sum_or_product o ≡ true → HasWhole f → HasWhole g
    → HasWhole (binary o f g at)
sum_whole op.Plus f g at s x y = (x, y)
sum_whole op.Minus f g at s x y = (x, y)
sum_whole op.Times f g at s x y = (x, y)
sum_whole _ f g at s x y = absurd (cc)

pub has_whole : (n : ℕ) (f : Formula) → first (faults n role.Affine f) ≡ None → HasWhole f
has_whole n (constant (suffix.Absent b) v at) h = tt
has_whole n (constant suffix.Present v at) h = absurd (cc (judged_none [] at (Some kind.NotAffine) h).1)
has_whole n (name (meaning.Variable k) at) h = tt
has_whole n (name meaning.Unknown at) h = absurd (cc (judged_none (told at (Some kind.UnknownName)) at None h).0)
has_whole n (name meaning.Closed at) h = absurd (cc (judged_none (told at (Some kind.IteratorOutside)) at None h).0)
has_whole n (name (meaning.Array k r b) at) h = absurd (cc (judged_none [] at (Some kind.NotAffine) h).1)
has_whole n (index q i) h =
    absurd (cc (judged_none (place_faults n q ++ faults n role.Affine i) (place q) (Some kind.NotAffine) h).1)
has_whole n (bare_call m at) h = absurd (cc (judged_none (told at (called m)) at (Some kind.NotAffine) h).1)
has_whole n (call m f at) h =
    absurd (cc (judged_none (told at (called m) ++ faults n role.Free f) at (Some kind.NotAffine) h).1)
has_whole n (unary sign.Minus f at) h = has_whole n f (judged_none (faults n role.Affine f) at None h).0
has_whole n (unary sign.Complement f at) h =
    absurd (cc (judged_none (faults n role.Free f) at (Some kind.NotAffine) h).1)
has_whole n (unary sign.Not f at) h = absurd (cc (judged_none (faults n role.Free f) at (Some kind.NotAffine) h).1)
has_whole n (cast w f at) h = absurd (cc (judged_none (faults n role.Free f) at (Some kind.NotAffine) h).1)
has_whole n (binary o f g at) h =
    let parts = affine_sides n o f g at h in
    sum_whole o f g at parts.0 (has_whole n f parts.2) (has_whole n g parts.3)

-- what roles promise of affine formulas
abbrev pub AreAffine : Type 0
AreAffine = (n : ℕ) (f : Formula) → first (faults n role.Affine f) ≡ None → IsAffine n (form n f)

-- without names it is small
pub constant_small : (affine : AreAffine) (n : ℕ) (f : Formula) (p : List ℤ) → length p ≡ n
    → first (faults n role.Affine f) ≡ None → has_name f ≡ false → unsigned_abs (whole p f) ≤ 2 ^ 20
constant_small affine n f p long h e =
    let v = form_value n f p long h in
    let d = flat n f p e in
    let same : whole p f ≡ (form n f).constant = omega (arith, ints) in
    let small = (affine n f h).constant in
    rw same small
