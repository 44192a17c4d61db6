-- A loop takes the turns of its head: the first value, the condition, and the step.
use Rattle.scop_syntax.proofs.Common.{◌≡◌, ℕ, ◌+◌, ◌-◌, Bool, true, false, ℤ, pos, negsuc, ◌+ℤ◌, ◌-ℤ◌, ◌*ℤ◌, ◌≤ℤ◌, ◌↔◌}
use Rattle.scop_syntax.proofs.Common.{List, [], ◌∷◌, ◌++◌, length, get_or, ap, sym, ◌∙◌, refl, arith, length-append}
use Rattle.scop_syntax.proofs.Common.{Option, Some, None, if◌then◌else◌, not, ints, eqb-true, get_or-append_seam}
use Rattle.scop_syntax.proofs.Common.{value_of, mul_distrib_left, mul_one_right, mul_zero_right, turn_point}
use Rattle.scop_syntax.proofs.Common.{condition_at}
use Rattle.scop_expressions.specs.Assign.TheVariants as assigns
use Rattle.scop_expressions.specs.Count.TheVariants as counts
use Rattle.scop_expressions.specs.Op.TheVariants as op
use Rattle.scop_expressions.specs.Suffix.TheVariants as suffix
use Rattle.scop_roles.specs.declared.kinds.Kind.TheVariants as kind
use Rattle.scop_roles.specs.declared.kinds.Fault.{Fault}
use Rattle.scop_roles.specs.declared.formula.Meaning.TheVariants as meaning
use Rattle.scop_roles.specs.declared.formula.Role.TheVariants as role
use Rattle.scop_roles.specs.Faults.{first, told, judged, faults, only_where, is_count}
use Rattle.scop_roles.specs.Forms.{form}
use Rattle.scop_roles.specs.Formula.{Formula, constant, name, binary}
use Rattle.scop_roles.specs.Values.{count}
use Rattle.scop_units.specs.Scopes.{Scope, entries, iterator_fault}
use Rattle.scop_units.specs.Loops.{Change, counted, assigned, LoopHead, is_entry, rises, condition_form, by_count}
use Rattle.scop_units.specs.Loops.{added_stride, stride_of, set_stride, change_stride, stride, goes, is_form}
use Rattle.scop_units.specs.Loops.{part_faults}
use Rattle.scop_units.specs.Loops.{loop_faults, or_zero, loop_of}
use Rattle.scop_units.proofs.FaultlessUnits.{parts_none, judged_none, told_none, only_none, count_bounds}
use Rattle.scop_arithmetic.specs.Arithmetic.{whole, Holds, IsNameOf, after_step, HasWhole, HasTruth, HasStep}
use Rattle.scop_arithmetic.proofs.Wholes.{form_value, has_whole}
use Rattle.scop_arithmetic.proofs.Conditions.{compared}

-- conditions

sides_whole : (m : ℕ) (f g : Formula) (own : List Fault)
    → judged (faults m role.Affine f ++ faults m role.Affine g) own ≡ [] → HasWhole f × HasWhole g
sides_whole m f g own e =
    let s = parts_none (faults m role.Affine f) (faults m role.Affine g) (judged_none _ own e).0 in
    (has_whole m f (ap first s.0), has_whole m g (ap first s.1))

-- the condition of a loop that rises or falls
bound_holds : (m k : ℕ) (f : Formula) (up : Bool) (q : List ℤ) → length q ≡ m → faults m role.Loose f ≡ []
    → rises k f ≡ Some up → (pos 0 ≤ℤ value_of (condition_form m f) q) ↔ Holds q f
bound_holds m k (binary op.Less f g at) up q long e r =
    let s = parts_none (faults m role.Affine f) (faults m role.Affine g) (judged_none _ _ e).0 in
    compared m op.Less f g at q refl (form_value m f q long (ap first s.0)) (form_value m g q long (ap first s.1))
bound_holds m k (binary op.AtMost f g at) up q long e r =
    let s = parts_none (faults m role.Affine f) (faults m role.Affine g) (judged_none _ _ e).0 in
    compared m op.AtMost f g at q refl (form_value m f q long (ap first s.0)) (form_value m g q long (ap first s.1))
bound_holds m k (binary op.Greater f g at) up q long e r =
    let s = parts_none (faults m role.Affine f) (faults m role.Affine g) (judged_none _ _ e).0 in
    compared m op.Greater f g at q refl (form_value m f q long (ap first s.0)) (form_value m g q long (ap first s.1))
bound_holds m k (binary op.AtLeast f g at) up q long e r =
    let s = parts_none (faults m role.Affine f) (faults m role.Affine g) (judged_none _ _ e).0 in
    compared m op.AtLeast f g at q refl (form_value m f q long (ap first s.0)) (form_value m g q long (ap first s.1))
bound_holds m k _ up q long e r = absurd (cc)

bound_truth : (m k : ℕ) (f : Formula) (up : Bool) → faults m role.Loose f ≡ [] → rises k f ≡ Some up → HasTruth f
bound_truth m k (binary op.Less f g at) up e r = sides_whole m f g _ e
bound_truth m k (binary op.AtMost f g at) up e r = sides_whole m f g _ e
bound_truth m k (binary op.Greater f g at) up e r = sides_whole m f g _ e
bound_truth m k (binary op.AtLeast f g at) up e r = sides_whole m f g _ e
bound_truth m k _ up e r = absurd (cc)

-- steps

pub some_if : {A : Type 0} (b : Bool) (o : Option A) (z : A) → (if b then o else None) ≡ Some z
    → (b ≡ true) × (o ≡ Some z)
some_if true o z e = (refl, e)
some_if false o z e = absurd (cc)

count_whole : (q : List ℤ) (f : Formula) → is_count 1 16 f ≡ true → whole q f ≡ pos (count f)
count_whole q (constant s v at) e = refl
count_whole q _ e = absurd (cc)

stride_up : (q : List ℤ) (f : Formula) (x z : ℤ) → stride_of true f ≡ Some z → x +ℤ z ≡ x +ℤ whole q f
stride_up q f x z e =
    let t = some_if (is_count 1 16 f) (Some (by_count true (count f))) z e in
    let same : pos (count f) ≡ z = let s = t.1 in cc in
    ap (λ y. x +ℤ y) (sym same ∙ sym (count_whole q f t.0))

stride_down : (q : List ℤ) (f : Formula) (x z : ℤ) → stride_of false f ≡ Some z → x +ℤ z ≡ x -ℤ whole q f
stride_down q f x z e =
    let t = some_if (is_count 1 16 f) (Some (by_count false (count f))) z e in
    let same : negsuc (count f - 1) ≡ z = let s = t.1 in cc in
    let w = count_whole q f t.0 in
    let some = (count_bounds 1 16 f t.0).0 in
    let less : x +ℤ negsuc (count f - 1) ≡ x -ℤ pos (count f) = omega (arith, ints) in
    ap (λ y. x +ℤ y) (sym same) ∙ (less ∙ ap (λ y. x -ℤ y) (sym w))

-- the name of an entry is worth the entry
entry_whole : (k : ℕ) (f : Formula) (q : List ℤ) → is_entry k f ≡ true → whole q f ≡ get_or q k (pos 0)
entry_whole k (name (meaning.Variable j) at) q e = ap (λ i. get_or q i (pos 0)) (eqb-true j k e)
entry_whole k _ q e = absurd (cc)

pub entry_name : (k : ℕ) (f : Formula) → is_entry k f ≡ true → IsNameOf k f
entry_name k (name (meaning.Variable j) at) e = eqb-true j k e
entry_name k _ e = absurd (cc)

set_step : (k : ℕ) (f : Formula) (q : List ℤ) (z : ℤ) → set_stride k f ≡ Some z → get_or q k (pos 0) +ℤ z ≡ whole q f
set_step k (binary op.Plus f g at) q z e =
    let t = some_if (is_entry k f) (stride_of true g) z e in
    stride_up q g (get_or q k (pos 0)) z t.1 ∙ ap (λ x. x +ℤ whole q g) (sym (entry_whole k f q t.0))
set_step k (binary op.Minus f g at) q z e =
    let t = some_if (is_entry k f) (stride_of false g) z e in
    stride_down q g (get_or q k (pos 0)) z t.1 ∙ ap (λ x. x -ℤ whole q g) (sym (entry_whole k f q t.0))
set_step k _ q z e = absurd (cc)

change_step : (k : ℕ) (c : Change) (q : List ℤ) (z : ℤ) → change_stride k c ≡ Some z
    → get_or q k (pos 0) +ℤ z ≡ after_step q k c
change_step k (counted counts.Up) q z e = ap (λ y. get_or q k (pos 0) +ℤ y) (let s : z ≡ pos 1 = cc in s)
change_step k (counted counts.Down) q z e =
    let s : z ≡ negsuc 0 = cc in
    let x = get_or q k (pos 0) in
    omega (arith, ints)
change_step k (assigned assigns.Plus f) q z e = stride_up q f (get_or q k (pos 0)) z e
change_step k (assigned assigns.Minus f) q z e = stride_down q f (get_or q k (pos 0)) z e
change_step k (assigned assigns.Set f) q z e = set_step k f q z e
change_step k (assigned _ f) q z e = absurd (cc)

-- a change by a count is one that has a step
count_has : (f : Formula) → is_count 1 16 f ≡ true → HasWhole f
count_has (constant (suffix.Absent b) v at) e = tt
count_has _ e = absurd (cc)

stride_has : (up : Bool) (f : Formula) (z : ℤ) → stride_of up f ≡ Some z → HasWhole f
stride_has up f z e = count_has f (some_if (is_count 1 16 f) (Some (by_count up (count f))) z e).0

named_whole : (k : ℕ) (f : Formula) → IsNameOf k f → HasWhole f
named_whole k (name (meaning.Variable j) at) h = tt
named_whole k _ h = absurd h

added_has : (k : ℕ) (up : Bool) (f g : Formula) (z : ℤ) → added_stride k up f g ≡ Some z → HasWhole f × HasWhole g
added_has k up f g z e =
    let t = some_if (is_entry k f) (stride_of up g) z e in
    (named_whole k f (entry_name k f t.0), stride_has up g z t.1)

set_has : (k : ℕ) (f : Formula) (z : ℤ) → set_stride k f ≡ Some z → HasWhole f
set_has k (binary op.Plus f g at) z e = added_has k true f g z e
set_has k (binary op.Minus f g at) z e = added_has k false f g z e
set_has k _ z e = absurd (cc)

change_has : (k : ℕ) (c : Change) (z : ℤ) → change_stride k c ≡ Some z → HasStep c
change_has k (counted c) z e = tt
change_has k (assigned assigns.Plus f) z e = stride_has true f z e
change_has k (assigned assigns.Minus f) z e = stride_has false f z e
change_has k (assigned assigns.Set f) z e = set_has k f z e
change_has k (assigned _ f) z e = absurd (cc)

-- a direction and a stride that fit are there
goes_parts : (r : Option Bool) (o : Option ℤ) → goes r o ≡ true
    → (up : Bool) × (z : ℤ) × (r ≡ Some up) × (o ≡ Some z) × (goes (Some up) (Some z) ≡ true)
goes_parts (Some up) (Some z) e = (up, z, refl, refl, e)
goes_parts (Some true) None e = absurd (cc)
goes_parts (Some false) None e = absurd (cc)
goes_parts None o e = absurd (cc)

-- what a head without faults has
pub record IsLoop (s : Scope) (h : LoopHead) : Type 0 where
  pub iterator : iterator_fault h.new s h.iterator ≡ None
  pub starts : faults (entries s) role.Affine h.first ≡ []
  pub condition : faults (entries s + 1) role.Loose h.second ≡ []
  pub up : Bool
  pub rises : rises (entries s) h.second ≡ Some up
  pub step : ℤ
  pub changes : change_stride (entries s) h.change ≡ Some step
  pub changed : is_entry (entries s) h.changed ≡ true
  pub goes : goes (Some up) (Some step) ≡ true

pub loop_parts : (s : Scope) (h : LoopHead) → loop_faults s h ≡ [] → IsLoop s h
loop_parts s h e =
    let n = entries s in
    let own = told h.place (only_where (not (is_form n h)) kind.LoopForm) in
    let all = parts_none (judged (part_faults s h) own) _ e in
    let outer = judged_none (part_faults s h) own all.0 in
    let formed = only_none (is_form n h) kind.LoopForm
    (told_none h.place (only_where (not (is_form n h)) kind.LoopForm) outer.1) in
    let parts = parts_none (told h.name_at (iterator_fault h.new s h.iterator)) _ outer.0 in
    let inner = parts_none (faults n role.Affine h.first) _ parts.1 in
    let second = parts_none (faults (n + 1) role.Loose h.second) _ inner.1 in
    let g = goes_parts (rises n h.second) (stride n h) formed in
    let t = some_if (is_entry n h.changed) (change_stride n h.change) g.1 g.3 in
    record {
      iterator = told_none h.name_at (iterator_fault h.new s h.iterator) parts.0;
      starts = inner.0;
      condition = second.0;
      up = g.0;
      rises = g.2;
      step = g.1;
      changes = t.1;
      changed = t.0;
      goes = g.4;
    }

-- turns

stride_is : (s : Scope) (h : LoopHead) (is : IsLoop s h) → (loop_of s h).stride ≡ is.step
stride_is s h is =
    let there : stride (entries s) h ≡ Some is.step = rw is.changed is.changes in
    ap or_zero there

pub first_turn : (s : Scope) (h : LoopHead) (p : List ℤ) → length p ≡ entries s → IsLoop s h
    → turn_point (loop_of s h) p (pos 0) ≡ p ++ whole p h.first ∷ []
first_turn s h p long is =
    let v = form_value (entries s) h.first p long (ap first is.starts) in
    let z = mul_zero_right (loop_of s h).stride in
    let same : value_of (form (entries s) h.first) p +ℤ ((loop_of s h).stride *ℤ pos 0) ≡ whole p h.first =
    omega (arith, ints) in
    ap (λ x. p ++ x ∷ []) same

last_entry : (p : List ℤ) (x : ℤ) (n : ℕ) → length p ≡ n → get_or (p ++ x ∷ []) n (pos 0) ≡ x
last_entry p x n long = ap (λ k. get_or (p ++ x ∷ []) k (pos 0)) (sym long) ∙ get_or-append_seam p x [] (pos 0)

pub next_turn : (s : Scope) (h : LoopHead) (p : List ℤ) (x : ℤ) → length p ≡ entries s → IsLoop s h
    → turn_point (loop_of s h) p (x +ℤ pos 1)
    ≡ p ++ after_step (turn_point (loop_of s h) p x) (entries s) h.change ∷ []
next_turn s h p x long is =
    let n = entries s in
    let k = (loop_of s h).stride in
    let v = value_of (form n h.first) p in
    let q = turn_point (loop_of s h) p x in
    let own = last_entry p (v +ℤ (k *ℤ x)) n long in
    let d = mul_distrib_left x (pos 1) k in
    let one = mul_one_right k in
    let moved : v +ℤ (k *ℤ (x +ℤ pos 1)) ≡ (v +ℤ (k *ℤ x)) +ℤ k = omega (arith, ints) in
    let step = change_step n h.change q k (is.changes ∙ ap Some (sym (stride_is s h is))) in
    ap (λ y. p ++ y ∷ []) (moved ∙ (ap (λ y. y +ℤ k) (sym own) ∙ step))

pub turn_holds : (s : Scope) (h : LoopHead) (p : List ℤ) (x : ℤ) → length p ≡ entries s → IsLoop s h
    → (pos 0 ≤ℤ condition_at (loop_of s h) p x) ↔ Holds (turn_point (loop_of s h) p x) h.second
turn_holds s h p x long is =
    let q = turn_point (loop_of s h) p x in
    let longer : length q ≡ entries s + 1 =
    length-append p ((value_of (form (entries s) h.first) p +ℤ ((loop_of s h).stride *ℤ x)) ∷ [])
    ∙ ap (λ k. k + 1) long in
    bound_holds (entries s + 1) (entries s) h.second is.up q longer is.condition is.rises

pub changed_name : (s : Scope) (h : LoopHead) → IsLoop s h → IsNameOf (entries s) h.changed
changed_name s h is = entry_name (entries s) h.changed is.changed

-- the parts of a head say something
pub parts_defined : (s : Scope) (h : LoopHead) → IsLoop s h
    → HasWhole h.first × HasTruth h.second × HasStep h.change
parts_defined s h is = (
  has_whole (entries s) h.first (ap first is.starts),
  bound_truth (entries s + 1) (entries s) h.second is.up is.condition is.rises,
  change_has (entries s) h.change is.step is.changes,
)
