-- The form of a node from those of its parts.
use Rattle.scop_syntax.proofs.Common.{◌≡◌, ◌≢◌, ℕ, Bool, true, false, ◌&&◌, ◌||◌, List, Some, None, inl, inr, ap, sym}
use Rattle.scop_syntax.proofs.Common.{subst, ◌∙◌, refl, length, arith, if◌then◌else◌, ◌⊎◌, not, Affine}
use Rattle.scop_expressions.specs.Op.{Op}
use Rattle.scop_expressions.specs.declared.token.Sign.TheVariants as sign
use Rattle.scop_roles.specs.declared.kinds.Fault.{Fault}
use Rattle.scop_roles.specs.declared.kinds.Kind.{Kind}
use Rattle.scop_roles.specs.declared.kinds.Kind.TheVariants as kind
use Rattle.scop_roles.specs.declared.formula.Meaning.{Meaning}
use Rattle.scop_roles.specs.declared.formula.Meaning.TheVariants as meaning
use Rattle.scop_roles.specs.declared.formula.Role.TheVariants as role
use Rattle.scop_roles.specs.declared.judgement.Judgement.{Judgement}
use Rattle.scop_roles.specs.declared.sides.Joined.{Joined}
use Rattle.scop_roles.specs.Formula.{Formula, name, unary, binary}
use Rattle.scop_roles.specs.Forms.{is_sum_or_product, is_product, is_number, is_signed, has_name, is_long, form}
use Rattle.scop_roles.specs.Forms.{combined_forms, is_within}
use Rattle.scop_roles.specs.Faults.{first, first_of, told, judged, faults, side_role, own, own_affine, only_where}
use Rattle.scop_roles.specs.steps.Judgement.{IsJudgement, IsFormOf, IsJoined, HasForm}
use Rattle.scop_roles.proofs.Firsts.{first-judged, first_of_none, part_or_own_none}
use Rattle.scop_roles.proofs.Sizes.{within_affine}
use Rattle.scop_roles.proofs.NodeFaults.{unary_first, binary_first, sum_sides}

-- a node with a fault of its own has one
pub refused : (fs : List Fault) (at : ℕ) (k : Kind) → first (judged fs (told at (Some k))) ≢ None
refused fs at k h =
    let e = (part_or_own_none (first fs) at (Some k) (sym (first-judged fs at (Some k)) ∙ h)).1 in
    absurd (grind (arith, e))

-- the opposite of what is not affine is not
pub opposite_refused : (n : ℕ) (f : Formula) (at : ℕ) → first (faults n role.Affine f) ≢ None
    → first (faults n role.Affine (unary sign.Minus f at)) ≢ None
opposite_refused n f at no_form h =
    no_form (part_or_own_none (first (faults n role.Affine f)) at None
    (unary_first n role.Affine sign.Minus f at ∙ h)).0

-- a signed part with a name may not stand beside 32 bits
twice_not : (b : Bool) → b ≡ not (not b)
twice_not true = refl
twice_not false = refl

pub long_name : (m : Meaning) (at : ℕ) → is_number m ≡ is_long (name m at)
long_name meaning.Unknown at = refl
long_name (meaning.Variable k) at = refl
long_name meaning.Closed at = refl
long_name (meaning.Array k r narrow) at = refl

pub long_sides : (o : Op) (f g : Formula) (at : ℕ)
    → ((is_sum_or_product o && (is_signed f && is_signed g)) && (has_name f || has_name g)) ≡ is_long (binary o f g at)
long_sides o f g at =
    ap (λ b. (is_sum_or_product o && (is_signed f && is_signed g)) && b) (twice_not (has_name f || has_name g))

-- an operator that is wrong itself has a fault
operator_refused : (n : ℕ) (o : Op) (f g : Formula) (at : ℕ) (k : Kind) → own_affine n (binary o f g at) ≡ Some k
    → first (faults n role.Affine (binary o f g at)) ≢ None
operator_refused n o f g at k e h =
    let side = side_role o (is_signed f && is_signed g) role.Affine in
    let own_none = (part_or_own_none (first_of (first (faults n side f)) (first (faults n side g))) at
    (own n role.Affine (binary o f g at)) (binary_first n role.Affine o f g at ∙ h)).1 in
    absurd (grind (arith, sym e ∙ own_none))

-- so has one over a side that is not affine
sides_refused : (n : ℕ) (o : Op) (f g : Formula) (at : ℕ) → is_sum_or_product o ≡ true
    → ((first (faults n role.Affine f) ≡ None) × (first (faults n role.Affine g) ≡ None) → ⊥)
    → first (faults n role.Affine (binary o f g at)) ≢ None
sides_refused n o f g at s not_both h =
    let b = is_signed f && is_signed g in
    let parts = (part_or_own_none (first_of (first (faults n (side_role o b role.Affine) f))
    (first (faults n (side_role o b role.Affine) g))) at
    (own n role.Affine (binary o f g at)) (binary_first n role.Affine o f g at ∙ h)).0 in
    let affine : first_of (first (faults n role.Affine f)) (first (faults n role.Affine g)) ≡ None =
    rw (sum_sides o b role.Affine s) at parts in
    not_both (first_of_none (first (faults n role.Affine f)) (first (faults n role.Affine g)) affine)

pub joined_other : (n : ℕ) (o : Op) (f g : Formula) (at : ℕ) → is_sum_or_product o ≡ false
    → IsJoined n o f g at record { form = None; own = Some kind.NotAffine }
joined_other n o f g at e =
    let own_is : own_affine n (binary o f g at) ≡ Some kind.NotAffine = rw e refl in
    record { own = λ a. sym own_is; form = operator_refused n o f g at kind.NotAffine own_is }

pub joined_names : (n : ℕ) (o : Op) (f g : Formula) (at : ℕ) (j k : Judgement) → IsJudgement n f j → IsJudgement n g k
    → is_sum_or_product o ≡ true → (is_product o && (j.named && k.named)) ≡ true
    → IsJoined n o f g at record { form = None; own = Some kind.NotAffine }
joined_names n o f g at j k h i s names =
    let both : (is_product o && (has_name f && has_name g)) ≡ true = rw (h.named, i.named) at names in
    let own_is : own_affine n (binary o f g at) ≡ Some kind.NotAffine = rw (s, both) refl in
    record { own = λ a. sym own_is; form = operator_refused n o f g at kind.NotAffine own_is }

no_form : (n : ℕ) (f : Formula) (j : Judgement) → IsJudgement n f j → j.form ≡ None
    → first (faults n role.Affine f) ≢ None
no_form n f j h e = subst (λ x. IsFormOf n f x) e h.form

the_form : (n : ℕ) (f : Formula) (j : Judgement) (a : Affine) → IsJudgement n f j → j.form ≡ Some a → a ≡ form n f
the_form n f j a h e = subst (λ x. IsFormOf n f x) e h.form

pub joined_missing : (n : ℕ) (o : Op) (f g : Formula) (at : ℕ) (j k : Judgement) → IsJudgement n f j → IsJudgement n g k
    → is_sum_or_product o ≡ true → (j.form ≡ None) ⊎ (k.form ≡ None)
    → IsJoined n o f g at record { form = None; own = Some kind.NotAffine }
joined_missing n o f g at j k h i s missing =
    record { own = λ a. absurd (never missing (a s)); form = sides_refused n o f g at s (never missing) }
  where
    never : (j.form ≡ None) ⊎ (k.form ≡ None)
        → (first (faults n role.Affine f) ≡ None) × (first (faults n role.Affine g) ≡ None) → ⊥
    never (inl e) both = no_form n f j h e both.0
    never (inr e) both = no_form n g k i e both.1

pub joined_form : (n : ℕ) (o : Op) (f g : Formula) (at : ℕ) (j k : Judgement) (a b c : Affine) (joined : Joined)
    → IsJudgement n f j → IsJudgement n g k → is_sum_or_product o ≡ true
    → (is_product o && (j.named && k.named)) ≡ false → j.form ≡ Some a → k.form ≡ Some b
    → c ≡ combined_forms o j.named a b
    → joined ≡ (if is_within c then record { form = Some c; own = None }
    else record { form = None; own = Some kind.Coefficient })
    → IsJoined n o f g at joined
joined_form n o f g at j k a b c joined h i s names a_is b_is c_is e =
    rw e (by_limits (is_within c) refl)
  where
    same : c ≡ form n (binary o f g at)
    same = rw (c_is, h.named, the_form n f j a h a_is, the_form n g k b i b_is) refl

    own_is : (b : Bool) → is_within c ≡ b → own_affine n (binary o f g at) ≡ only_where (not b) kind.Coefficient
    own_is b w =
        let both : (is_product o && (has_name f && has_name g)) ≡ false = rw (h.named, i.named) at names in
        rw (s, both, sym same, w) refl

    by_limits : (b : Bool) → is_within c ≡ b
        → IsJoined n o f g at (if b then record { form = Some c; own = None }
        else record { form = None; own = Some kind.Coefficient })
    by_limits true w = record { own = λ x. sym (own_is true w); form = same }
    by_limits false w =
        record { own = λ x. sym (own_is false w); form = operator_refused n o f g at kind.Coefficient (own_is false w) }

within_form : (n : ℕ) (c : Affine) (b : Bool) (joined : Joined) → length c.coefficients ≡ n → is_within c ≡ b
    → joined ≡ (if b then record { form = Some c; own = None } else record { form = None; own = Some kind.Coefficient })
    → HasForm n joined.form
within_form n c true joined l w e = rw e (within_affine n c l w)
within_form n c false joined l w e = rw e tt

pub within_limits : (n : ℕ) (c : Affine) (joined : Joined) → length c.coefficients ≡ n
    → joined ≡ (if is_within c then record { form = Some c; own = None }
    else record { form = None; own = Some kind.Coefficient })
    → HasForm n joined.form
within_limits n c joined l e = within_form n c (is_within c) joined l refl e
