-- What is known of a formula before its role is: what it is, and its first fault in each role; only for the code's own
-- steps.
use Rattle.std.specs.Prelude.{◌≡◌, ℕ, zero, suc, ◌≢◌, Bool, true, false, if◌then◌else◌, ◌&&◌, not, Option, Some, None}
use Rattle.std.specs.Prelude.{⊤}
use Rattle.whole_numbers.specs.Affine.{Affine}
use Rattle.scop_syntax.specs.Kernel.{IsAffine}
use Rattle.scop_expressions.specs.Op.{Op}
use Rattle.scop_roles.specs.declared.kinds.Fault.{Fault}
use Rattle.scop_roles.specs.declared.kinds.Kind.{Kind}
use Rattle.scop_roles.specs.declared.kinds.Kind.TheVariants as kind
use Rattle.scop_roles.specs.declared.formula.Role.{Role}
use Rattle.scop_roles.specs.declared.formula.Role.TheVariants as role
use Rattle.scop_roles.specs.declared.judgement.Faults.{Faults}
use Rattle.scop_roles.specs.declared.judgement.Judgement.{Judgement}
use Rattle.scop_roles.specs.declared.sides.Joined.{Joined}
use Rattle.scop_roles.specs.Formula.{Formula, name, index, binary, place, meaning_of}
use Rattle.scop_roles.specs.Forms.{is_sum_or_product, is_signed, is_narrow_array, is_narrow, is_long, has_name, form}
use Rattle.scop_roles.specs.Faults.{first, told, faults, place_faults, rank, is_plain_constant, is_count, or_else}
use Rattle.scop_roles.specs.Faults.{only_where, own_affine, own_operator, own_loose_operator, joins_condition}

-- the first fault of a node: that of its parts, else its own
abbrev pub part_or_own : Option Fault → ℕ → Option Kind → Option Fault
part_or_own (Some f) at own = Some f
part_or_own None at own = first (told at own)

-- the first fault in a role
abbrev pub in_role : Faults → Role → Option Fault
in_role fs role.Affine = fs.affine
in_role fs role.Signed = fs.signed
in_role fs role.Value = fs.value
in_role fs role.Condition = fs.condition
in_role fs role.Loose = fs.loose
in_role fs role.Free = fs.free

-- one fewer, where there is one
abbrev pub one_less : Option ℕ → Option ℕ
one_less (Some (suc k)) = Some k
one_less _ = None

-- how many subscripts a place lacks, where it has not too many
abbrev pub lacking : Formula → Option ℕ
lacking (name m at) = Some (rank m)
lacking (index p i) = one_less (lacking p)
lacking _ = Some 0

-- a number is there, and it is 0
abbrev pub is_zero : Option ℕ → Bool
is_zero (Some zero) = true
is_zero _ = false

-- what is wrong with an operator itself, where a is wrong with it as an affine one; s, t: its sides are signed;
-- c: both are constants without suffix; k: the right one is a count by which the left one may be shifted; m: a signed
-- part that may not stand beside 32 bits does
abbrev pub own_joined : Option Kind → Role → Op → Bool → Bool → Bool → Bool → Bool → Option Kind
own_joined a role.Affine o s t c k m = a
own_joined a role.Signed o s t c k m = or_else a (only_where c kind.SignedValue)
own_joined a role.Value o s t c k m =
    if is_sum_or_product o
    then (if s && t then or_else a (only_where c kind.SignedValue) else only_where m kind.Width)
    else own_operator o s t c k m
own_joined a role.Condition o s t c k m = only_where (not (joins_condition o)) kind.Condition
own_joined a role.Loose o s t c k m = own_loose_operator o k
own_joined a role.Free o s t c k m = if joins_condition o then Some kind.Condition else own_loose_operator o k

-- the form that a formula is; none only of what is not affine
abbrev pub IsFormOf : ℕ → Formula → Option Affine → Type 0
IsFormOf n f None = first (faults n role.Affine f) ≢ None
IsFormOf n f (Some a) = a ≡ form n f

-- a form within the limits, where there is one
abbrev pub HasForm : ℕ → Option Affine → Type 0
HasForm n None = ⊤
HasForm n (Some a) = IsAffine n a

-- a judgement of a formula over n entries
pub record IsJudgement (n : ℕ) (f : Formula) (j : Judgement) : Type 0 where
  pub place : j.place ≡ place f
  pub signed : j.signed ≡ is_signed f
  pub narrow : j.narrow ≡ is_narrow f
  pub long : j.long ≡ is_long f
  pub named : j.named ≡ has_name f
  pub narrow_cells : j.narrow_cells ≡ is_narrow_array (meaning_of f)
  pub constant : j.constant ≡ is_plain_constant f
  pub count : j.count ≡ is_count 0 63 f
  pub narrow_count : j.narrow_count ≡ is_count 0 31 f
  pub lacking : j.lacking ≡ lacking f
  pub place_fault : j.place_fault ≡ first (place_faults n f)
  pub affine : j.faults.affine ≡ first (faults n role.Affine f)
  pub summand : j.faults.signed ≡ first (faults n role.Signed f)
  pub value : j.faults.value ≡ first (faults n role.Value f)
  pub condition : j.faults.condition ≡ first (faults n role.Condition f)
  pub loose : j.faults.loose ≡ first (faults n role.Loose f)
  pub free : j.faults.free ≡ first (faults n role.Free f)
  pub form : IsFormOf n f j.form
  pub limits : HasForm n j.form

-- both sides are affine, where an operator wants it
abbrev pub AreAffine : ℕ → Op → Formula → Formula → Type 0
AreAffine n o f g =
    is_sum_or_product o ≡ true → (first (faults n role.Affine f) ≡ None) × (first (faults n role.Affine g) ≡ None)

-- what is wrong with an operator as an affine one
abbrev pub IsOwnAffine : ℕ → Op → Formula → Formula → ℕ → Option Kind → Type 0
IsOwnAffine n o f g at own = AreAffine n o f g → own ≡ own_affine n (binary o f g at)

-- what an operator makes of two sides: their form, or what is wrong with it as an affine one
pub record IsJoined (n : ℕ) (o : Op) (f g : Formula) (at : ℕ) (joined : Joined) : Type 0 where
  pub own : IsOwnAffine n o f g at joined.own
  pub form : IsFormOf n (binary o f g at) joined.form
