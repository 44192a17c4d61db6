-- The head of a loop by its parts: its faults, and its direction, stride and condition, where its own iterator is the
-- entry behind those of the scope round it.
use Rattle.std.specs.Prelude.{ℕ, ◌+◌, ◌-◌, ◌==◌, Bool, true, false, ◌&&◌, ◌||◌, not, nat_le, if◌then◌else◌, ℤ, pos}
use Rattle.std.specs.Prelude.{negsuc, List, [], ◌++◌, length, Option, Some, None}
use Rattle.whole_numbers.specs.Affine.{Affine}
use Rattle.scop_lexer.specs.Bytes.{Text}
use Rattle.scop_syntax.specs.Tree.{Head}
use Rattle.scop_syntax.specs.Kernel.{test_form}
use Rattle.scop_expressions.specs.Assign.{Assign}
use Rattle.scop_expressions.specs.Assign.TheVariants as assign
use Rattle.scop_expressions.specs.Count.{Count}
use Rattle.scop_expressions.specs.Count.TheVariants as count
use Rattle.scop_expressions.specs.Op.TheVariants as op
use Rattle.scop_roles.specs.declared.kinds.Kind.TheVariants as kind
use Rattle.scop_roles.specs.declared.kinds.Fault.{Fault}
use Rattle.scop_roles.specs.declared.formula.Meaning.{Meaning}
use Rattle.scop_roles.specs.declared.formula.Meaning.TheVariants as meaning
use Rattle.scop_roles.specs.declared.formula.Role.TheVariants as role
use Rattle.scop_roles.specs.Formula.{Formula, constant, name, index, bare_call, call, unary, cast, binary}
use Rattle.scop_roles.specs.Faults.{is_count, told, judged, faults, only_where}
use Rattle.scop_roles.specs.Forms.{form}
use Rattle.scop_roles.specs.Values.{comparison, count}
use Rattle.scop_units.specs.Scopes.{Scope, entries, iterator_fault}

-- ++ or --, or an assignment with its right side
pub data Change : Type 0 where
  counted : Count → Change
  assigned : Assign → Formula → Change

-- for ( name = first ; second ; changed change ), told at its `for`; new: with int64_t in front of the name
pub record LoopHead : Type 0 where
  pub place : ℕ
  pub new : Bool
  pub name_at : ℕ
  pub iterator : Text
  pub first : Formula
  pub second : Formula
  pub changed : Formula
  pub change : Change

-- a name means the entry k
abbrev pub is_variable : ℕ → Meaning → Bool
is_variable k (meaning.Variable j) = j == k
is_variable k _ = false

-- a formula is the entry k itself
abbrev pub is_entry : ℕ → Formula → Bool
is_entry k (name m at) = is_variable k m
is_entry k _ = false

-- the entry k is named in a formula
abbrev pub names_entry : ℕ → Formula → Bool
names_entry k (constant s v at) = false
names_entry k (name m at) = is_entry k (name m at)
names_entry k (index p i) = names_entry k p || names_entry k i
names_entry k (bare_call m at) = false
names_entry k (call m f at) = names_entry k f
names_entry k (unary s f at) = names_entry k f
names_entry k (cast w f at) = names_entry k f
names_entry k (binary o f g at) = names_entry k f || names_entry k g

-- the iterator alone on one side, and not on the other; up: whether it rises where it stands on the left
abbrev pub rises_between : ℕ → Bool → Formula → Formula → Option Bool
rises_between k up f g =
    if is_entry k f && not (names_entry k g) then Some up
    else (if is_entry k g && not (names_entry k f) then Some (not up) else None)

-- whether the iterator rises to the other side of a condition, or falls to it
abbrev pub rises : ℕ → Formula → Option Bool
rises k (binary op.Less f g at) = rises_between k true f g
rises k (binary op.AtMost f g at) = rises_between k true f g
rises k (binary op.Greater f g at) = rises_between k false f g
rises k (binary op.AtLeast f g at) = rises_between k false f g
rises k _ = None

-- the condition as a form over n entries that is at least 0
abbrev pub condition_form : ℕ → Formula → Affine
condition_form n (binary o f g at) = test_form (comparison o (form n f) (form n g))
condition_form n f = form n f

-- by so many up, or down
abbrev pub by_count : Bool → ℕ → ℤ
by_count true v = pos v
by_count false v = negsuc (v - 1)

-- the stride by a constant without suffix from 1 to 16, up or down
abbrev pub stride_of : Bool → Formula → Option ℤ
stride_of up f = if is_count 1 16 f then Some (by_count up (count f)) else None

-- the stride by such a constant added to the entry k, or taken off it
abbrev pub added_stride : ℕ → Bool → Formula → Formula → Option ℤ
added_stride k up f g = if is_entry k f then stride_of up g else None

-- i = i + k, i = i - k
abbrev pub set_stride : ℕ → Formula → Option ℤ
set_stride k (binary op.Plus f g at) = added_stride k true f g
set_stride k (binary op.Minus f g at) = added_stride k false f g
set_stride k _ = None

-- the stride of a change: by 1 or such a constant, up or down
abbrev pub change_stride : ℕ → Change → Option ℤ
change_stride k (counted count.Up) = Some (pos 1)
change_stride k (counted count.Down) = Some (negsuc 0)
change_stride k (assigned assign.Plus f) = stride_of true f
change_stride k (assigned assign.Minus f) = stride_of false f
change_stride k (assigned assign.Set f) = set_stride k f
change_stride k (assigned _ f) = None

-- the stride, where the step changes the iterator
abbrev pub stride : ℕ → LoopHead → Option ℤ
stride k h = if is_entry k h.changed then change_stride k h.change else None

-- a loop rises to what lies above, or falls to what lies below
abbrev pub goes : Option Bool → Option ℤ → Bool
goes (Some true) (Some (pos n)) = true
goes (Some false) (Some (negsuc n)) = true
goes _ _ = false

-- the condition and the step have forms that are read, of one direction
abbrev pub is_form : ℕ → LoopHead → Bool
is_form k h = goes (rises k h.second) (stride k h)

-- the faults of a change over n entries: of its right side nothing is asked
abbrev pub change_faults : ℕ → Change → List Fault
change_faults n (counted c) = []
change_faults n (assigned a f) = faults n role.Free f

-- the iterator and the first part stand outside, the other parts inside
abbrev pub part_faults : Scope → LoopHead → List Fault
part_faults s h =
    told h.name_at (iterator_fault h.new s h.iterator)
    ++ (faults (entries s) role.Affine h.first
    ++ (faults (entries s + 1) role.Loose h.second
    ++ (faults (entries s + 1) role.Free h.changed ++ change_faults (entries s + 1) h.change)))

-- the faults of a loop's head; the sixth open loop is one too many
abbrev pub loop_faults : Scope → LoopHead → List Fault
loop_faults s h =
    judged (part_faults s h) (told h.place (only_where (not (is_form (entries s) h)) kind.LoopForm))
    ++ told h.place (only_where (nat_le 5 (length s.open_loops)) kind.Depth)

-- a stride; 0 where there is none
abbrev pub or_zero : Option ℤ → ℤ
or_zero (Some z) = z
or_zero None = pos 0

-- the loop that a head without faults stands for
abbrev pub loop_of : Scope → LoopHead → Head
loop_of s h =
    record {
      iterator = h.iterator;
      first = form (entries s) h.first;
      stride = or_zero (stride (entries s) h);
      condition = condition_form (entries s + 1) h.second;
    }
