-- The head of a loop has no fault exactly where it counts within the limits; such extents have none.
use Rattle.scop_syntax.proofs.Common.{◌≡◌, ◌∙◌, ap, sym, subst, refl, ℕ, ◌+◌, ◌<◌, Bool, true, false, ◌&&◌, nat_le}
use Rattle.scop_syntax.proofs.Common.{List, [], ◌∷◌, ◌++◌, length, inl, inr, ◌⊎◌, arith, All, ℤ, pos, negsuc, ◌-◌, Some}
use Rattle.scop_syntax.proofs.Common.{None, not, if◌then◌else◌, and_parts, not-true, le-leb, and_from, nat_tests}
use Rattle.scop_syntax.proofs.Common.{All-head, All-tail}
use Rattle.scop_expressions.specs.Assign.TheVariants as assign
use Rattle.scop_expressions.specs.Count.TheVariants as count
use Rattle.scop_expressions.specs.Op.TheVariants as op
use Rattle.scop_expressions.specs.Suffix.TheVariants as suffix
use Rattle.scop_roles.specs.declared.kinds.Fault.{Fault}
use Rattle.scop_roles.specs.declared.kinds.Kind.TheVariants as kind
use Rattle.scop_roles.specs.declared.formula.Meaning.{Meaning}
use Rattle.scop_roles.specs.declared.formula.Meaning.TheVariants as meaning
use Rattle.scop_roles.specs.declared.formula.Role.TheVariants as role
use Rattle.scop_roles.specs.Faults.{first, told, judged, faults, only_where, is_count}
use Rattle.scop_roles.specs.Formula.{Formula, constant, name, binary}
use Rattle.scop_units.specs.Scopes.{Scope, entries, iterator_fault}
use Rattle.scop_units.specs.Loops.{Change, counted, assigned, LoopHead, is_variable, is_entry, names_entry}
use Rattle.scop_units.specs.Loops.{rises_between}
use Rattle.scop_units.specs.Loops.{rises, change_stride, stride_of, added_stride, stride, goes, is_form, change_faults}
use Rattle.scop_units.specs.Loops.{part_faults, loop_faults, by_count, set_stride}
use Rattle.scop_units.specs.Units.{extent_faults}
use Rattle.scop_roles.specs.Values.{count as count_in}
use Rattle.scop_units.proofs.FaultlessUnits.{parts_none, judged_none, count_bounds, fewer}
use Rattle.scop_arithmetic.specs.Arithmetic.{IsNameOf, IsEntry}
use Rattle.scop_arithmetic.specs.Limits.{IsLinear, LiesBetween, IsBound, IsStride, IsStep, IsFitLoop}
use Rattle.scop_arithmetic.proofs.Wholes.{AreAffine}
use Rattle.scop_arithmetic.proofs.Loops.{some_if, entry_name, loop_parts}
use Rattle.scop_arithmetic.proofs.FaultlessExpressions.{linear_of}
use Rattle.scop_arithmetic.proofs.MeaningfulExpressions.{none_judged, none_both, same_number, linear_none}

-- the name of an entry
variable_is : (k : ℕ) (m : Meaning) → IsEntry k m → is_variable k m ≡ true
variable_is k (meaning.Variable j) h = same_number j k h
variable_is k _ h = absurd h

name_is : (k : ℕ) (f : Formula) → IsNameOf k f → is_entry k f ≡ true
name_is k (name m at) h = variable_is k m h
name_is k _ h = absurd h

name_named : (k : ℕ) (f : Formula) → IsNameOf k f → names_entry k f ≡ true
name_named k (name m at) h = variable_is k m h
name_named k _ h = absurd h

name_linear : (k n : ℕ) (f : Formula) → IsNameOf k f → IsLinear n f
name_linear k n (name (meaning.Variable j) at) h = tt
name_linear k n (name meaning.Unknown at) h = absurd h
name_linear k n (name meaning.Closed at) h = absurd h
name_linear k n (name (meaning.Array j r b) at) h = absurd h
name_linear k n _ h = absurd h

name_free : (k n : ℕ) (f : Formula) → IsNameOf k f → faults n role.Free f ≡ []
name_free k n (name (meaning.Variable j) at) h = refl
name_free k n (name meaning.Unknown at) h = absurd h
name_free k n (name meaning.Closed at) h = absurd h
name_free k n (name (meaning.Array j r b) at) h = absurd h
name_free k n _ h = absurd h

-- conditions
affine_sides : (affine : AreAffine) (k : ℕ) (up : Bool) (f g : Formula) → LiesBetween k up f g
    → (faults (k + 1) role.Affine f ≡ []) × (faults (k + 1) role.Affine g ≡ [])
affine_sides affine k up f g (inl h) =
    (linear_none affine (k + 1) f (name_linear k (k + 1) f h.1), linear_none affine (k + 1) g h.2)
affine_sides affine k up f g (inr h) =
    (linear_none affine (k + 1) f h.2, linear_none affine (k + 1) g (name_linear k (k + 1) g h.1))

two_none : (n : ℕ) (f g : Formula) → faults n role.Affine f ≡ [] → faults n role.Affine g ≡ []
    → judged (faults n role.Affine f ++ faults n role.Affine g) [] ≡ []
two_none n f g x y = none_judged (faults n role.Affine f ++ faults n role.Affine g) [] (none_both _ _ x y) refl

bound_none : (affine : AreAffine) (k : ℕ) (up : Bool) (f : Formula) → IsBound k up f → faults (k + 1) role.Loose f ≡ []
bound_none affine k up (binary op.Less f g at) h =
    let s = affine_sides affine k up f g h in two_none (k + 1) f g s.0 s.1
bound_none affine k up (binary op.AtMost f g at) h =
    let s = affine_sides affine k up f g h in two_none (k + 1) f g s.0 s.1
bound_none affine k up (binary op.Greater f g at) h =
    let s = affine_sides affine k up g f h in two_none (k + 1) f g s.1 s.0
bound_none affine k up (binary op.AtLeast f g at) h =
    let s = affine_sides affine k up g f h in two_none (k + 1) f g s.1 s.0
bound_none affine k up _ h = absurd h

-- the side on which the iterator stands tells the direction
on_left : (k : ℕ) (b : Bool) (f g : Formula) → IsNameOf k f → names_entry k g ≡ false → rises_between k b f g ≡ Some b
on_left k b f g x y = rw (name_is k f x, y) refl

on_right : (k : ℕ) (b : Bool) (f g : Formula) → IsNameOf k g → names_entry k f ≡ false
    → rises_between k b f g ≡ Some (not b)
on_right k b f g x y = by_test (is_entry k f) refl
  where
    by_test : (t : Bool) → is_entry k f ≡ t → rises_between k b f g ≡ Some (not b)
    by_test true e = rw (e, name_named k g x, name_is k g x, y) refl
    by_test false e = rw (e, name_is k g x, y) refl

below_rises : (k : ℕ) (up : Bool) (f g : Formula) → LiesBetween k up f g → rises_between k true f g ≡ Some up
below_rises k up f g (inl h) = on_left k true f g h.1 h.3 ∙ ap (λ b. Some b) (sym h.0)
below_rises k up f g (inr h) = on_right k true f g h.1 h.3 ∙ ap (λ b. Some b) (sym h.0)

above_rises : (k : ℕ) (up : Bool) (f g : Formula) → LiesBetween k up g f → rises_between k false f g ≡ Some up
above_rises k up f g (inl h) = on_right k false f g h.1 h.3 ∙ ap (λ b. Some b) (sym h.0)
above_rises k up f g (inr h) = on_left k false f g h.1 h.3 ∙ ap (λ b. Some b) (sym h.0)

bound_rises : (k : ℕ) (up : Bool) (f : Formula) → IsBound k up f → rises k f ≡ Some up
bound_rises k up (binary op.Less f g at) h = below_rises k up f g h
bound_rises k up (binary op.AtMost f g at) h = below_rises k up f g h
bound_rises k up (binary op.Greater f g at) h = above_rises k up f g h
bound_rises k up (binary op.AtLeast f g at) h = above_rises k up f g h
bound_rises k up _ h = absurd h

-- steps
stride_free : (n : ℕ) (f : Formula) → IsStride f → faults n role.Free f ≡ []
stride_free n (constant (suffix.Absent b) v at) h = refl
stride_free n _ h = absurd h

step_none : (k n : ℕ) (up : Bool) (c : Change) → IsStep k up c → change_faults n c ≡ []
step_none k n up (counted c) h = refl
step_none k n up (assigned assign.Plus f) h = stride_free n f h.1
step_none k n up (assigned assign.Minus f) h = stride_free n f h.1
step_none k n up (assigned assign.Set (binary op.Plus f g at)) h =
    none_judged (faults n role.Free f ++ faults n role.Free g) []
    (none_both _ _ (name_free k n f h.1) (stride_free n g h.2)) refl
step_none k n up (assigned assign.Set (binary op.Minus f g at)) h =
    none_judged (faults n role.Free f ++ faults n role.Free g) []
    (none_both _ _ (name_free k n f h.1) (stride_free n g h.2)) refl
step_none k n up _ h = absurd h

stride_goes : (b : Bool) (f : Formula) → IsStride f → goes (Some b) (stride_of b f) ≡ true
stride_goes true (constant (suffix.Absent b) v at) h =
    let there = and_from (nat_le 1 v) (nat_le v 16) (le-leb 1 v h.0) (le-leb v 16 h.1) in rw there refl
stride_goes false (constant (suffix.Absent b) v at) h =
    let there = and_from (nat_le 1 v) (nat_le v 16) (le-leb 1 v h.0) (le-leb v 16 h.1) in rw there refl
stride_goes b _ h = absurd h

added_goes : (k : ℕ) (b : Bool) (f g : Formula) → IsNameOf k f → IsStride g
    → goes (Some b) (added_stride k b f g) ≡ true
added_goes k b f g x y =
    ap (λ t. goes (Some b) (if t then stride_of b g else None)) (name_is k f x) ∙ stride_goes b g y

step_goes : (k : ℕ) (up : Bool) (c : Change) → IsStep k up c → goes (Some up) (change_stride k c) ≡ true
step_goes k up (counted count.Up) h = rw h refl
step_goes k up (counted count.Down) h = rw h refl
step_goes k up (assigned assign.Plus f) h =
    ap (λ b. goes (Some b) (stride_of true f)) h.0 ∙ stride_goes true f h.1
step_goes k up (assigned assign.Minus f) h =
    ap (λ b. goes (Some b) (stride_of false f)) h.0 ∙ stride_goes false f h.1
step_goes k up (assigned assign.Set (binary op.Plus f g at)) h =
    ap (λ b. goes (Some b) (added_stride k true f g)) h.0 ∙ added_goes k true f g h.1 h.2
step_goes k up (assigned assign.Set (binary op.Minus f g at)) h =
    ap (λ b. goes (Some b) (added_stride k false f g)) h.0 ∙ added_goes k false f g h.1 h.2
step_goes k up _ h = absurd h

-- heads
not_from : (a b : ℕ) → b < a → nat_le a b ≡ false
not_from a b h = grind (arith, nat_tests, h)

form_is : (k : ℕ) (h : LoopHead) (up : Bool) → IsBound k up h.second → IsNameOf k h.changed → IsStep k up h.change
    → is_form k h ≡ true
form_is k h up second changed change =
    ap (λ r. goes r (stride k h)) (bound_rises k up h.second second)
    ∙ (ap (λ t. goes (Some up) (if t then change_stride k h.change else None)) (name_is k h.changed changed)
    ∙ step_goes k up h.change change)

pub loop_none : (affine : AreAffine) (s : Scope) (h : LoopHead) → IsFitLoop s h → loop_faults s h ≡ []
loop_none affine s h is =
    let k = entries s in
    let parts : part_faults s h ≡ [] =
    none_both (told h.name_at (iterator_fault h.new s h.iterator)) _ (ap (told h.name_at) is.iterator)
    (none_both (faults k role.Affine h.first) _ (linear_none affine k h.first is.first)
    (none_both (faults (k + 1) role.Loose h.second) _ (bound_none affine k is.up h.second is.second)
    (none_both (faults (k + 1) role.Free h.changed) _ (name_free k (k + 1) h.changed is.changed)
    (step_none k (k + 1) is.up h.change is.change)))) in
    none_both _ (told h.place (only_where (nat_le 5 (length s.open_loops)) kind.Depth))
    (none_judged (part_faults s h) _ parts
    (ap (λ b. told h.place (only_where (not b) kind.LoopForm)) (form_is k h is.up is.second is.changed is.change)))
    (ap (λ b. told h.place (only_where b kind.Depth)) (not_from 5 (length s.open_loops) is.few))

pub extents_none : (affine : AreAffine) (n : ℕ) (fs : List Formula) → All (IsLinear n) fs → extent_faults n fs ≡ []
extents_none affine n [] h = refl
extents_none affine n (f ∷ fs) h =
    none_both (faults n role.Affine f) _ (linear_none affine n f (All-head (IsLinear n) f fs h))
    (extents_none affine n fs (All-tail (IsLinear n) f fs h))

-- a head without faults counts within the limits

-- which side the iterator stands on
sides_tell : (k : ℕ) (b up : Bool) (f g : Formula) → rises_between k b f g ≡ Some up
    → ((up ≡ b) × IsNameOf k f × (names_entry k g ≡ false)) ⊎ ((up ≡ not b) × IsNameOf k g × (names_entry k f ≡ false))
sides_tell k b up f g e = by_test (is_entry k f && not (names_entry k g)) refl e
  where
    by_test : (t : Bool) → (is_entry k f && not (names_entry k g)) ≡ t
        → (if t then Some b else (if is_entry k g && not (names_entry k f) then Some (not b) else None)) ≡ Some up
        → ((up ≡ b) × IsNameOf k f × (names_entry k g ≡ false))
        ⊎ ((up ≡ not b) × IsNameOf k g × (names_entry k f ≡ false))
    by_test true there h =
        let both = and_parts (is_entry k f) (not (names_entry k g)) there in
        inl (cc, entry_name k f both.0, not-true (names_entry k g) both.1)
    by_test false there h =
        let right = some_if (is_entry k g && not (names_entry k f)) (Some (not b)) up h in
        let both = and_parts (is_entry k g) (not (names_entry k f)) right.0 in
        let same = right.1 in
        inr (cc, entry_name k g both.0, not-true (names_entry k f) both.1)

below_of : (affine : AreAffine) (k : ℕ) (up : Bool) (f g : Formula) (own : List Fault)
    → judged (faults (k + 1) role.Affine f ++ faults (k + 1) role.Affine g) own ≡ []
    → rises_between k true f g ≡ Some up → LiesBetween k up f g
below_of affine k up f g own e r =
    let s = parts_none (faults (k + 1) role.Affine f) _ (judged_none _ own e).0 in
    elim (sides_tell k true up f g r) [
      | inl h ↦ inl (h.0, h.1, linear_of affine (k + 1) g (ap first s.1), h.2)
      | inr h ↦ inr (h.0, h.1, linear_of affine (k + 1) f (ap first s.0), h.2)
    ]

above_of : (affine : AreAffine) (k : ℕ) (up : Bool) (f g : Formula) (own : List Fault)
    → judged (faults (k + 1) role.Affine f ++ faults (k + 1) role.Affine g) own ≡ []
    → rises_between k false f g ≡ Some up → LiesBetween k up g f
above_of affine k up f g own e r =
    let s = parts_none (faults (k + 1) role.Affine f) _ (judged_none _ own e).0 in
    elim (sides_tell k false up f g r) [
      | inl h ↦ inr (h.0, h.1, linear_of affine (k + 1) g (ap first s.1), h.2)
      | inr h ↦ inl (h.0, h.1, linear_of affine (k + 1) f (ap first s.0), h.2)
    ]

bound_of : (affine : AreAffine) (k : ℕ) (up : Bool) (f : Formula) → faults (k + 1) role.Loose f ≡ []
    → rises k f ≡ Some up → IsBound k up f
bound_of affine k up (binary op.Less f g at) e r = below_of affine k up f g _ e r
bound_of affine k up (binary op.AtMost f g at) e r = below_of affine k up f g _ e r
bound_of affine k up (binary op.Greater f g at) e r = above_of affine k up f g _ e r
bound_of affine k up (binary op.AtLeast f g at) e r = above_of affine k up f g _ e r
bound_of affine k up _ e r = absurd (cc)

-- the direction of a stride
up_of : (up : Bool) (n : ℕ) (z : ℤ) → pos n ≡ z → goes (Some up) (Some z) ≡ true → up ≡ true
up_of up n z e g = by_direction up (subst (λ y. goes (Some up) (Some y) ≡ true) (sym e) g)
  where
    by_direction : (b : Bool) → goes (Some b) (Some (pos n)) ≡ true → b ≡ true
    by_direction true h = refl
    by_direction false h = absurd (cc)

down_of : (up : Bool) (n : ℕ) (z : ℤ) → negsuc n ≡ z → goes (Some up) (Some z) ≡ true → up ≡ false
down_of up n z e g = by_direction up (subst (λ y. goes (Some up) (Some y) ≡ true) (sym e) g)
  where
    by_direction : (b : Bool) → goes (Some b) (Some (negsuc n)) ≡ true → b ≡ false
    by_direction true h = absurd (cc)
    by_direction false h = refl

stride_is_count : (f : Formula) → is_count 1 16 f ≡ true → IsStride f
stride_is_count (constant (suffix.Absent b) v at) e = count_bounds 1 16 (constant (suffix.Absent b) v at) e
stride_is_count _ e = absurd (cc)

stride_up_of : (up : Bool) (f : Formula) (z : ℤ) → stride_of true f ≡ Some z → goes (Some up) (Some z) ≡ true
    → (up ≡ true) × IsStride f
stride_up_of up f z e g =
    let t = some_if (is_count 1 16 f) (Some (by_count true (count_in f))) z e in
    let same : pos (count_in f) ≡ z = let s = t.1 in cc in
    (up_of up (count_in f) z same g, stride_is_count f t.0)

stride_down_of : (up : Bool) (f : Formula) (z : ℤ) → stride_of false f ≡ Some z → goes (Some up) (Some z) ≡ true
    → (up ≡ false) × IsStride f
stride_down_of up f z e g =
    let t = some_if (is_count 1 16 f) (Some (by_count false (count_in f))) z e in
    let same : negsuc (count_in f - 1) ≡ z = let s = t.1 in cc in
    (down_of up (count_in f - 1) z same g, stride_is_count f t.0)

set_of : (k : ℕ) (up : Bool) (f : Formula) (z : ℤ) → set_stride k f ≡ Some z → goes (Some up) (Some z) ≡ true
    → IsStep k up (assigned assign.Set f)
set_of k up (binary op.Plus f g at) z e h =
    let t = some_if (is_entry k f) (stride_of true g) z e in
    let s = stride_up_of up g z t.1 h in
    (s.0, entry_name k f t.0, s.1)
set_of k up (binary op.Minus f g at) z e h =
    let t = some_if (is_entry k f) (stride_of false g) z e in
    let s = stride_down_of up g z t.1 h in
    (s.0, entry_name k f t.0, s.1)
set_of k up _ z e h = absurd (cc)

step_of : (k : ℕ) (up : Bool) (c : Change) (z : ℤ) → change_stride k c ≡ Some z → goes (Some up) (Some z) ≡ true
    → IsStep k up c
step_of k up (counted count.Up) z e h = up_of up 1 z (cc) h
step_of k up (counted count.Down) z e h = down_of up 0 z (cc) h
step_of k up (assigned assign.Plus f) z e h = stride_up_of up f z e h
step_of k up (assigned assign.Minus f) z e h = stride_down_of up f z e h
step_of k up (assigned assign.Set f) z e h = set_of k up f z e h
step_of k up (assigned _ f) z e h = absurd (cc)

pub loop_fits : (affine : AreAffine) (s : Scope) (h : LoopHead) → loop_faults s h ≡ [] → IsFitLoop s h
loop_fits affine s h e =
    let k = entries s in
    let is = loop_parts s h e in
    let own = told h.place (only_where (not (is_form k h)) kind.LoopForm) in
    let deep = parts_none (judged (part_faults s h) own) _ e in
    record {
      iterator = is.iterator;
      first = linear_of affine k h.first (ap first is.starts);
      up = is.up;
      second = bound_of affine k is.up h.second is.condition is.rises;
      changed = entry_name k h.changed is.changed;
      change = step_of k is.up h.change is.step is.changes is.goes;
      few = fewer h.place 5 (length s.open_loops) kind.Depth deep.1;
    }
