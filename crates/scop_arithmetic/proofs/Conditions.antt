-- The comparisons of a condition hold at a point exactly where the condition does.
use Rattle.scop_syntax.proofs.Common.{◌≡◌, ℕ, true, false, ◌&&◌, ℤ, pos, negsuc, ◌+ℤ◌, ◌-ℤ◌, ◌≤ℤ◌, ◌<ℤ◌, ◌↔◌, List, []}
use Rattle.scop_syntax.proofs.Common.{◌∷◌, ◌++◌, length, ◌∙◌, refl, arith, Some, None, ⊤, ints, Affine, value_of}
use Rattle.scop_syntax.proofs.Common.{form_of, sum_of_forms, multiple_of_form, value_of-sum, value_of-multiple, Test}
use Rattle.scop_syntax.proofs.Common.{AllHold}
use Rattle.scop_expressions.specs.Op.{Op}
use Rattle.scop_expressions.specs.Op.TheVariants as op
use Rattle.scop_syntax.specs.Statements as tests
use Rattle.scop_roles.specs.declared.kinds.Kind.TheVariants as kind
use Rattle.scop_roles.specs.declared.formula.Role.TheVariants as role
use Rattle.scop_roles.specs.Faults.{first, told, faults, place_faults, named, called, own, side_role, joins_condition}
use Rattle.scop_roles.specs.Forms.{is_and, is_comparison, is_signed, form}
use Rattle.scop_roles.specs.Formula.{Formula, constant, name, index, bare_call, call, unary, cast, binary, place}
use Rattle.scop_roles.specs.Values.{difference, comparison}
use Rattle.scop_roles.specs.Values as roles
use Rattle.scop_roles.proofs.Firsts.{part_or_own_none}
use Rattle.scop_roles.proofs.NodeFaults.{unary_first}
use Rattle.scop_roles.proofs.Parts.{judged_none, condition_sides, comparison_sides}
use Rattle.scop_units.proofs.FaultlessUnits.{only_none}
use Rattle.scop_arithmetic.specs.Arithmetic.{whole, Holds}
use Rattle.scop_arithmetic.proofs.Wholes.{form_value}

difference_value : (f g : Affine) (k : ℤ) (p : List ℤ)
    → value_of (difference f g k) p ≡ (value_of f p -ℤ value_of g p) +ℤ k
difference_value f g k p =
    let s = value_of-sum f (multiple_of_form (negsuc 0) g) p in
    let t = value_of-sum (sum_of_forms f (multiple_of_form (negsuc 0) g)) (form_of [] k) p in
    let m = value_of-multiple (negsuc 0) g p in
    omega (arith, ints)

-- a difference that is at least 0, with 1 taken off and without; a difference that is 0
less : (d a b x y : ℤ) → d ≡ (b -ℤ a) +ℤ negsuc 0 → a ≡ x → b ≡ y → (pos 0 ≤ℤ d) ↔ (x <ℤ y)
less d a b x y e f g = (λ (h : pos 0 ≤ℤ d). omega (arith, ints), λ (h : x <ℤ y). omega (arith, ints))

at_most : (d a b x y : ℤ) → d ≡ (b -ℤ a) +ℤ pos 0 → a ≡ x → b ≡ y → (pos 0 ≤ℤ d) ↔ (x ≤ℤ y)
at_most d a b x y e f g = (λ (h : pos 0 ≤ℤ d). omega (arith, ints), λ (h : x ≤ℤ y). omega (arith, ints))

equals : (d a b x y : ℤ) → d ≡ (a -ℤ b) +ℤ pos 0 → a ≡ x → b ≡ y → (d ≡ pos 0) ↔ (x ≡ y)
equals d a b x y e f g = (λ (h : d ≡ pos 0). omega (arith, ints), λ (h : x ≡ y). omega (arith, ints))

-- a comparison of forms that are worth its sides
pub compared : (m : ℕ) (o : Op) (f g : Formula) (at : ℕ) (p : List ℤ) → is_comparison o ≡ true
    → value_of (form m f) p ≡ whole p f → value_of (form m g) p ≡ whole p g
    → tests.Holds (comparison o (form m f) (form m g)) p ↔ Holds p (binary o f g at)
compared m op.Less f g at p c x y =
    less _ _ _ _ _ (difference_value (form m g) (form m f) (negsuc 0) p) x y
compared m op.AtMost f g at p c x y =
    at_most _ _ _ _ _ (difference_value (form m g) (form m f) (pos 0) p) x y
compared m op.Greater f g at p c x y =
    less _ _ _ _ _ (difference_value (form m f) (form m g) (negsuc 0) p) y x
compared m op.AtLeast f g at p c x y =
    at_most _ _ _ _ _ (difference_value (form m f) (form m g) (pos 0) p) y x
compared m op.Equal f g at p c x y =
    equals _ _ _ _ _ (difference_value (form m f) (form m g) (pos 0) p) x y
compared m _ f g at p c x y = absurd (cc)

-- the tests of two conditions
all_append : (ts us : List Test) (p : List ℤ) → AllHold (ts ++ us) p ↔ (AllHold ts p × AllHold us p)
all_append [] us p = (λ (h : AllHold us p). (tt, h), λ (h : ⊤ × AllHold us p). h.1)
all_append (t ∷ ts) us p =
    let r = all_append ts us p in (
      λ (h : tests.Holds t p × AllHold (ts ++ us) p). let k = r.0 h.1 in ((h.0, k.0), k.1),
      λ (h : (tests.Holds t p × AllHold ts p) × AllHold us p). (h.0.0, r.1 (h.0.1, h.1)),
    )

-- a condition that joins none compares
pub is_compared : (n : ℕ) (o : Op) (f g : Formula) (at : ℕ) → is_and o ≡ false
    → first (faults n role.Condition (binary o f g at)) ≡ None → is_comparison o ≡ true
is_compared n o f g at a h =
    let side = side_role o (is_signed f && is_signed g) role.Condition in
    let own_none = (judged_none (faults n side f ++ faults n side g) at (own n role.Condition (binary o f g at)) h).1 in
    let joined = only_none (joins_condition o) kind.Condition own_none in
    rw a at joined

-- one comparison
alone : (n : ℕ) (o : Op) (f g : Formula) (at : ℕ) (p : List ℤ) → is_and o ≡ false → length p ≡ n
    → first (faults n role.Condition (binary o f g at)) ≡ None
    → AllHold (comparison o (form n f) (form n g) ∷ []) p ↔ Holds p (binary o f g at)
alone n o f g at p a long h =
    let sides = comparison_sides n o f g at a h in
    let c = compared n o f g at p (is_compared n o f g at a h) (form_value n f p long sides.0)
    (form_value n g p long sides.1) in (
      λ (k : AllHold (comparison o (form n f) (form n g) ∷ []) p). c.0 k.0,
      λ (k : Holds p (binary o f g at)). (c.1 k, tt),
    )

-- what is no operator is no condition
abbrev pub IsNoOperator : Formula → Type 0
IsNoOperator (binary o f g at) = ⊥
IsNoOperator _ = ⊤

pub no_condition : (n : ℕ) (f : Formula) → IsNoOperator f → first (faults n role.Condition f) ≡ None → ⊥
no_condition n (constant s v at) o h = absurd (cc (judged_none [] at (Some kind.Condition) h).1)
no_condition n (name m at) o h = absurd (cc (judged_none (told at (named m)) at (Some kind.Condition) h).1)
no_condition n (index q i) o h =
    absurd (cc (judged_none (place_faults n q ++ faults n role.Affine i) (place q) (Some kind.Condition) h).1)
no_condition n (bare_call m at) o h = absurd (cc (judged_none (told at (called m)) at (Some kind.Condition) h).1)
no_condition n (call m f at) o h =
    absurd (cc (judged_none (told at (called m) ++ faults n role.Free f) at (Some kind.Condition) h).1)
no_condition n (unary s f at) o h =
    absurd (cc (part_or_own_none _ at (Some kind.Condition) (unary_first n role.Condition s f at ∙ h)).1)
no_condition n (cast w f at) o h = absurd (cc (judged_none (faults n role.Free f) at (Some kind.Condition) h).1)
no_condition n (binary o f g at) none h = absurd none

-- the tests of a condition
pub tests_value : (n : ℕ) (f : Formula) (p : List ℤ) → length p ≡ n → first (faults n role.Condition f) ≡ None
    → AllHold (roles.tests n f) p ↔ Holds p f
tests_value n (binary op.LogicalAnd f g at) p long h =
    let sides = condition_sides n op.LogicalAnd f g at refl h in
    let a = all_append (roles.tests n f) (roles.tests n g) p in
    let l = tests_value n f p long sides.0 in
    let r = tests_value n g p long sides.1 in (
      λ (k : AllHold (roles.tests n f ++ roles.tests n g) p). (l.0 (a.0 k).0, r.0 (a.0 k).1),
      λ (k : Holds p f × Holds p g). a.1 (l.1 k.0, r.1 k.1),
    )
tests_value n (binary o f g at) p long h = alone n o f g at p refl long h
tests_value n f p long h = absurd (no_condition n f tt h)
