-- The faults of a formula in a role. A node that has a refused part is not judged itself; of all faults the first
-- counts: the one at the least place, at one place the one of the least kind.
use Rattle.std.specs.Prelude.{ℕ, ◌^◌, Bool, true, false, ◌==◌, ◌&&◌, ◌||◌, not, if◌then◌else◌, nat_le, nat_lt, List, []}
use Rattle.std.specs.Prelude.{◌∷◌, ◌++◌, Option, Some, None}
use Rattle.scop_expressions.specs.Op.{Op}
use Rattle.scop_expressions.specs.Op.TheVariants as op
use Rattle.scop_expressions.specs.declared.token.Sign.{Sign}
use Rattle.scop_expressions.specs.declared.token.Sign.TheVariants as sign
use Rattle.scop_expressions.specs.Suffix.TheVariants as suffix
use Rattle.scop_roles.specs.declared.kinds.Kind.{Kind}
use Rattle.scop_roles.specs.declared.kinds.Kind.TheVariants as kind
use Rattle.scop_roles.specs.declared.kinds.Fault.{Fault}
use Rattle.scop_roles.specs.declared.formula.Meaning.{Meaning}
use Rattle.scop_roles.specs.declared.formula.Meaning.TheVariants as meaning
use Rattle.scop_roles.specs.declared.formula.Role.{Role}
use Rattle.scop_roles.specs.declared.formula.Role.TheVariants as role
use Rattle.scop_roles.specs.Formula.{Formula, constant, name, index, bare_call, call, unary, cast, binary, place}
use Rattle.scop_roles.specs.Formula.{meaning_of, subscripts}
use Rattle.scop_roles.specs.Forms.{is_sum_or_product, is_product, is_and, is_comparison, is_signed, has_name, form}
use Rattle.scop_roles.specs.Forms.{is_within, is_narrow, mixes}

-- the kinds in their order
abbrev pub number : Kind → ℕ
number kind.Character = 1
number kind.Directive = 2
number kind.LiteralRange = 3
number kind.UnendedComment = 4
number kind.Token = 5
number kind.Unended = 6
number kind.UnknownName = 7
number kind.Redeclared = 8
number kind.NotAffine = 9
number kind.Coefficient = 10
number kind.LoopForm = 11
number kind.Condition = 12
number kind.SignedValue = 13
number kind.ShiftCount = 14
number kind.Division = 15
number kind.Call = 16
number kind.Rank = 17
number kind.IteratorOutside = 18
number kind.Depth = 19
number kind.Statements = 20
number kind.Arrays = 21
number kind.Parameters = 22
number kind.Reads = 23
number kind.TooLong = 24
number kind.Width = 25

-- a fault stands before another: at an earlier place, or at the same as a lesser kind
abbrev pub precedes : Fault → Fault → Bool
precedes f g = nat_lt f.place g.place || (f.place == g.place && nat_lt (number f.kind) (number g.kind))

-- the first of two
abbrev pub first_of : Option Fault → Option Fault → Option Fault
first_of None g = g
first_of (Some f) None = Some f
first_of (Some f) (Some g) = if precedes g f then Some g else Some f

-- the first of all
abbrev pub first : List Fault → Option Fault
first [] = None
first (f ∷ fs) = first_of (Some f) (first fs)

-- a fault of this kind at a place, if there is one
abbrev pub told : ℕ → Option Kind → List Fault
told at None = []
told at (Some kind) = record { place = at; kind = kind } ∷ []

-- the faults of a node: those of its parts, or where they have none its own
abbrev pub judged : List Fault → List Fault → List Fault
judged [] own = own
judged (f ∷ fs) own = f ∷ fs

-- the role of an operand of a sign; signed: whether the operand is
abbrev pub operand_role : Sign → Bool → Role → Role
operand_role sign.Not signed role.Condition = role.Loose
operand_role sign.Not signed role.Loose = role.Loose
operand_role sign.Minus signed role.Affine = role.Affine
operand_role sign.Minus signed role.Signed = role.Signed
operand_role sign.Minus signed role.Value = if signed then role.Signed else role.Value
operand_role s signed role.Value = role.Value
operand_role s signed r = role.Free

-- the role of the operand of a cast
abbrev pub cast_role : Role → Role
cast_role role.Value = role.Value
cast_role r = role.Free

-- the role of the sides of a sum, a difference or a product; signed: whether both sides are
abbrev pub term_role : Bool → Role → Role
term_role signed role.Affine = role.Affine
term_role signed role.Signed = role.Signed
term_role signed role.Value = if signed then role.Signed else role.Value
term_role signed r = role.Free

-- the role of the sides of the other operators that are no comparisons; those of != have none
abbrev pub other_role : Op → Role → Role
other_role op.NotEqual r = role.Free
other_role op.LogicalAnd role.Condition = role.Condition
other_role op.LogicalAnd role.Loose = role.Loose
other_role op.LogicalOr role.Condition = role.Loose
other_role op.LogicalOr role.Loose = role.Loose
other_role o role.Value = role.Value
other_role o r = role.Free

-- the role of an operator's sides; signed: whether both are
abbrev pub side_role : Op → Bool → Role → Role
side_role o signed r =
    if is_comparison o then role.Affine
    else (if is_sum_or_product o then term_role signed r else other_role o r)

-- a constant without suffix
abbrev pub is_plain_constant : Formula → Bool
is_plain_constant (constant (suffix.Absent b) v at) = true
is_plain_constant _ = false

-- a constant without suffix, from the one number up to the other
abbrev pub is_count : ℕ → ℕ → Formula → Bool
is_count low high (constant (suffix.Absent b) v at) = nat_le low v && nat_le v high
is_count low high _ = false

-- the greatest count of a shift: one less than the bits of its left side (C17 6.5.7p3)
abbrev pub last_count : Bool → ℕ
last_count narrow = if narrow then 31 else 63

-- this kind where it applies, else none
abbrev pub only_where : Bool → Kind → Option Kind
only_where true k = Some k
only_where false k = None

-- the first cause that is there
abbrev pub or_else : Option Kind → Option Kind → Option Kind
or_else None k = k
or_else (Some k) l = Some k

-- a sum, a difference or a product of affine sides
abbrev pub own_term : ℕ → Op → Formula → Formula → ℕ → Option Kind
own_term n o f g at =
    if is_product o && (has_name f && has_name g) then Some kind.NotAffine
    else only_where (not (is_within (form n (binary o f g at)))) kind.Coefficient

-- what is wrong with a node itself in the role of an affine form over n entries
abbrev pub own_affine : ℕ → Formula → Option Kind
own_affine n (constant (suffix.Absent b) v at) = only_where (nat_lt (2 ^ 20) v) kind.Coefficient
own_affine n (name (meaning.Array k r narrow) at) = Some kind.NotAffine
own_affine n (name m at) = None
own_affine n (unary sign.Minus f at) = None
own_affine n (binary o f g at) =
    if is_sum_or_product o then own_term n o f g at else Some kind.NotAffine
own_affine n _ = Some kind.NotAffine

-- two constants without suffix
abbrev pub are_plain_constants : Formula → Formula → Bool
are_plain_constants f g = is_plain_constant f && is_plain_constant g

-- a sum, a difference or a product of two constants is none in a value
abbrev pub own_signed : ℕ → Formula → Option Kind
own_signed n (binary o f g at) =
    or_else (own_affine n (binary o f g at)) (only_where (are_plain_constants f g) kind.SignedValue)
own_signed n f = own_affine n f

-- how many subscripts a name takes
abbrev pub rank : Meaning → ℕ
rank (meaning.Array k r narrow) = r
rank _ = 0

-- a name with another number of subscripts than its declaration has; what is no array has none
abbrev pub own_rank : Formula → Option Kind
own_rank f = only_where (not (rank (meaning_of f) == subscripts f)) kind.Rank

-- & | ^; b: both sides are signed; m: a signed part that may not stand beside 32 bits does
abbrev pub own_bits : Bool → Bool → Option Kind
own_bits b m = or_else (only_where b kind.SignedValue) (only_where m kind.Width)

-- an operator of a value that is no sum, difference or product; s, t: its sides are signed; c: both are constants
-- without suffix; k: the right one is a count by which the left one may be shifted; m: as for & | ^. A comma stands in
-- a call alone
abbrev pub own_operator : Op → Bool → Bool → Bool → Bool → Bool → Option Kind
own_operator op.BitAnd s t c k m = own_bits (s && t) m
own_operator op.BitXor s t c k m = own_bits (s && t) m
own_operator op.BitOr s t c k m = own_bits (s && t) m
own_operator op.ShiftLeft s t c k m = or_else (only_where s kind.SignedValue) (only_where (not k) kind.ShiftCount)
own_operator op.ShiftRight s t c k m = or_else (only_where s kind.SignedValue) (only_where (not k) kind.ShiftCount)
own_operator op.Divide s t c k m = Some (if c then kind.SignedValue else kind.Division)
own_operator op.Remainder s t c k m = Some (if c then kind.SignedValue else kind.Division)
own_operator op.Comma s t c k m = Some kind.Call
own_operator o s t c k m = Some kind.Condition

-- the right one is a count by which the left one may be shifted
abbrev pub is_shift_count : Formula → Formula → Bool
is_shift_count f g = is_count 0 (last_count (is_narrow f)) g

-- what is wrong with a node itself in the role of a value
abbrev pub own_value : ℕ → Formula → Option Kind
own_value n (constant s v at) = None
own_value n (name m at) = own_rank (name m at)
own_value n (index p i) = own_rank (index p i)
own_value n (bare_call m at) = Some kind.Call
own_value n (call m f at) = Some kind.Call
own_value n (unary sign.Minus f at) = None
own_value n (unary sign.Complement f at) = only_where (is_signed f) kind.SignedValue
own_value n (unary sign.Not f at) = Some kind.Condition
own_value n (cast w f at) = None
own_value n (binary o f g at) =
    if is_sum_or_product o
    then (if is_signed f && is_signed g then own_signed n (binary o f g at)
    else only_where (mixes f g) kind.Width)
    else own_operator o (is_signed f) (is_signed g) (are_plain_constants f g) (is_shift_count f g) (mixes f g)

-- what a condition is made of: comparisons, joined by &&
abbrev pub joins_condition : Op → Bool
joins_condition o = is_and o || is_comparison o

-- what is wrong with a node itself in the role of a condition
abbrev pub own_condition : Formula → Option Kind
own_condition (binary o f g at) = only_where (not (joins_condition o)) kind.Condition
own_condition _ = Some kind.Condition

-- where comparisons may stand and nothing more is asked, what no text may have is still refused; k: the right side is
-- a count by which the left one may be shifted
abbrev pub own_loose_operator : Op → Bool → Option Kind
own_loose_operator op.Divide k = Some kind.Division
own_loose_operator op.Remainder k = Some kind.Division
own_loose_operator op.ShiftLeft k = only_where (not k) kind.ShiftCount
own_loose_operator op.ShiftRight k = only_where (not k) kind.ShiftCount
own_loose_operator op.LogicalOr k = Some kind.Condition
own_loose_operator op.NotEqual k = Some kind.Condition
own_loose_operator o k = None

-- the same of any node
abbrev pub own_loose : Formula → Option Kind
own_loose (name m at) = own_rank (name m at)
own_loose (index p i) = own_rank (index p i)
own_loose (bare_call m at) = Some kind.Call
own_loose (call m f at) = Some kind.Call
own_loose (unary sign.Not f at) = Some kind.Condition
own_loose (binary o f g at) = own_loose_operator o (is_shift_count f g)
own_loose _ = None

-- without a role a comparison and && are refused too
abbrev pub own_free : Formula → Option Kind
own_free (binary o f g at) =
    if joins_condition o then Some kind.Condition else own_loose_operator o (is_shift_count f g)
own_free f = own_loose f

-- what is wrong with a node itself, over n entries
abbrev pub own : ℕ → Role → Formula → Option Kind
own n role.Affine f = own_affine n f
own n role.Signed f = own_signed n f
own n role.Value f = own_value n f
own n role.Condition f = own_condition f
own n role.Loose f = own_loose f
own n role.Free f = own_free f

-- a name that is not in scope, or an iterator outside its loop
abbrev pub named : Meaning → Option Kind
named meaning.Unknown = Some kind.UnknownName
named meaning.Closed = Some kind.IteratorOutside
named _ = None

-- a name in front of a call
abbrev pub called : Meaning → Option Kind
called meaning.Unknown = Some kind.UnknownName
called _ = None

abbrev mutual
  -- the faults of a formula in a role over n entries
  pub faults : ℕ → Role → Formula → List Fault
  faults n r (constant s v at) = told at (own n r (constant s v at))
  faults n r (name m at) = judged (told at (named m)) (told at (own n r (name m at)))
  faults n r (index p i) =
      judged (place_faults n p ++ faults n role.Affine i) (told (place p) (own n r (index p i)))
  faults n r (bare_call m at) = judged (told at (called m)) (told at (own n r (bare_call m at)))
  faults n r (call m f at) =
      judged (told at (called m) ++ faults n role.Free f) (told at (own n r (call m f at)))
  faults n r (unary s f at) =
      judged (faults n (operand_role s (is_signed f) r) f) (told at (own n r (unary s f at)))
  faults n r (cast w f at) = judged (faults n (cast_role r) f) (told at (own n r (cast w f at)))
  faults n r (binary o f g at) =
      judged (faults n (side_role o (is_signed f && is_signed g) r) f
      ++ faults n (side_role o (is_signed f && is_signed g) r) g)
      (told at (own n r (binary o f g at)))

  -- those of the name and the subscripts of a place
  pub place_faults : ℕ → Formula → List Fault
  place_faults n (name m at) = told at (named m)
  place_faults n (index p i) = place_faults n p ++ faults n role.Affine i
  place_faults n _ = []
