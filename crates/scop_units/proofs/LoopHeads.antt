-- The head of a loop without faults rises to a form, or falls to one.
use Rattle.scop_syntax.proofs.Common.{◌≡◌, ◌≢◌, ℕ, suc, ◌+◌, ◌<◌, ◌≤◌, Bool, true, false, not, ◌&&◌, if◌then◌else◌}
use Rattle.scop_syntax.proofs.Common.{◌==◌, List, [], ◌∷◌, ◌++◌, length, get_or, set, ℤ, pos, negsuc, ◌+ℤ◌, ◌-ℤ◌, ◌*ℤ◌}
use Rattle.scop_syntax.proofs.Common.{◌^◌, ◌≤ℤ◌, unsigned_abs, ◌⊎◌, inl, inr, refl, sym, ap, subst, ◌∙◌, arith, Option}
use Rattle.scop_syntax.proofs.Common.{Some, None, ⊤, slice_index_or, ints, and_parts, eqb-true, not-true, nat_tests}
use Rattle.scop_syntax.proofs.Common.{get_or-set_same, get_or-set_other, length-set, Affine, form_of, sum_of_forms}
use Rattle.scop_syntax.proofs.Common.{multiple_of_form, zeros, sums, multiples, length-multiples, length-zeros}
use Rattle.scop_syntax.proofs.Common.{length-sums, get_or-sums, get_or-multiples, get_or-zeros, mul_zero_right}
use Rattle.scop_syntax.proofs.Common.{AreAtMost, IsAffine, IsCondition, IsHead, at_most_at}
use Rattle.std.proofs.lemmas.Bool.{cases_eq}
use Rattle.scop_expressions.specs.Assign.TheVariants as assigns
use Rattle.scop_expressions.specs.Count.TheVariants as counts
use Rattle.scop_expressions.specs.Op.{Op}
use Rattle.scop_expressions.specs.Op.TheVariants as op
use Rattle.scop_expressions.specs.declared.token.Sign.TheVariants as sign
use Rattle.scop_roles.specs.declared.kinds.Fault.{Fault}
use Rattle.scop_roles.specs.declared.kinds.Kind.TheVariants as kind
use Rattle.scop_roles.specs.declared.formula.Meaning.TheVariants as meaning
use Rattle.scop_roles.specs.declared.formula.Role.TheVariants as role
use Rattle.scop_roles.specs.Formula.{Formula, constant, name, index, bare_call, call, unary, cast, binary}
use Rattle.scop_roles.specs.Faults.{first, told, judged, faults, only_where, is_count}
use Rattle.scop_roles.specs.Forms.{form, has_name, product_of_forms, combined_forms}
use Rattle.scop_roles.specs.Values.{difference, count}
use Rattle.scop_units.specs.Scopes.{Scope, entries, iterator_fault}
use Rattle.scop_units.specs.Loops.{Change, counted, assigned, LoopHead, is_entry, names_entry, rises_between, rises}
use Rattle.scop_units.specs.Loops.{condition_form, by_count, stride_of, added_stride, set_stride, change_stride, stride}
use Rattle.scop_units.specs.Loops.{goes, is_form, part_faults, loop_faults, or_zero, loop_of}
use Rattle.scop_units.proofs.FaultlessUnits.{RoleLaws, parts_none, judged_none, told_none, only_none, fewer, both_false}
use Rattle.scop_units.proofs.FaultlessUnits.{count_bounds}

-- coefficients, one by one

pub at_most_all : (k : ℕ) (xs : List ℤ) → ((i : ℕ) → unsigned_abs (get_or xs i (pos 0)) ≤ k) → AreAtMost k xs
at_most_all k [] h = tt
at_most_all k (x ∷ xs) h = (h 0, at_most_all k xs (λ i. h (suc i)))

-- the last of n + 1 entries alone
abbrev pub last_entry : ℕ → Affine
last_entry n = form_of (set (zeros (n + 1)) n (pos 1)) (pos 0)

last_at : (n i : ℕ) → ((i ≡ n) × (get_or (last_entry n).coefficients i (pos 0) ≡ pos 1))
    ⊎ ((i ≢ n) × (get_or (last_entry n).coefficients i (pos 0) ≡ pos 0))
last_at n i = elim (cases_eq i n) [
  | inl e ↦
      let within : n < length (zeros (n + 1)) = let l = length-zeros (n + 1) in omega (arith, l) in
      inl (
        e,
        ap (λ k. get_or (last_entry n).coefficients k (pos 0)) e
            ∙ get_or-set_same (zeros (n + 1)) n (pos 1) (pos 0) within,
      )
  | inr d ↦ inr (d, get_or-set_other (zeros (n + 1)) n i (pos 1) (pos 0) d ∙ get_or-zeros (n + 1) i)
]

-- the entries of a difference
pub difference_at : (f g : Affine) (k : ℤ) (i : ℕ) → get_or (difference f g k).coefficients i (pos 0)
    ≡ get_or f.coefficients i (pos 0) +ℤ (negsuc 0 *ℤ get_or g.coefficients i (pos 0))
difference_at f g k i =
    let inner = sums f.coefficients (multiples (negsuc 0) g.coefficients) in
    let a = get_or-sums inner [] i in
    let b = get_or-sums f.coefficients (multiples (negsuc 0) g.coefficients) i in
    let c = get_or-multiples (negsuc 0) g.coefficients i in
    omega (arith, ints)

pub difference_length : (n : ℕ) (f g : Affine) (k : ℤ) → length f.coefficients ≡ n → length g.coefficients ≡ n
    → length (difference f g k).coefficients ≡ n
difference_length n f g k a b =
    let m = length-multiples (negsuc 0) g.coefficients in
    let inner = sums f.coefficients (multiples (negsuc 0) g.coefficients) in
    let s = length-sums f.coefficients (multiples (negsuc 0) g.coefficients) (omega (arith, m, a, b)) in
    sums_none inner ∙ (s ∙ a)
  where
    sums_none : (xs : List ℤ) → length (sums xs []) ≡ length xs
    sums_none [] = refl
    sums_none (x ∷ xs) = refl

-- a condition with its own coefficient
pub record IsBound (n : ℕ) (own : ℤ) (f : Affine) : Type 0 where
  pub condition : IsCondition (n + 1) f
  pub own_is : slice_index_or f.coefficients n (pos 0) ≡ own

-- a difference whose entries are small
difference_bound : (n : ℕ) (f g : Affine) (k own : ℤ) → length f.coefficients ≡ n + 1 → length g.coefficients ≡ n + 1
    → ((i : ℕ) → unsigned_abs (get_or f.coefficients i (pos 0) -ℤ get_or g.coefficients i (pos 0)) ≤ 16)
    → get_or f.coefficients n (pos 0) -ℤ get_or g.coefficients n (pos 0) ≡ own
    → unsigned_abs (difference f g k).constant ≤ 2 ^ 20 + 1 → IsBound n own (difference f g k)
difference_bound n f g k own a b each is small =
    record {
      condition = record {
        entries = difference_length (n + 1) f g k a b;
        coefficients = at_most_all 16 (difference f g k).coefficients
            (λ i. let d = difference_at f g k i in let e = each i in omega (arith, ints));
        constant = small;
      };
      own_is = let d = difference_at f g k n in omega (arith, ints);
    }

-- the last entry and a form in which it does not stand, each less the other
last_bounds : (n : ℕ) (g : Affine) (k : ℤ) → IsAffine (n + 1) g → get_or g.coefficients n (pos 0) ≡ pos 0
    → unsigned_abs k ≤ 1 → IsBound n (pos 1) (difference (last_entry n) g k)
    × IsBound n (negsuc 0) (difference g (last_entry n) k)
last_bounds n g k is none small =
    let long : length (last_entry n).coefficients ≡ n + 1 =
    length-set (zeros (n + 1)) n (pos 1) ∙ length-zeros (n + 1) in
    let own : get_or (last_entry n).coefficients n (pos 0) ≡ pos 1 = elim (last_at n n) [
      | inl e ↦ e.1
      | inr e ↦ absurd (e.0 refl)
    ] in
    let c = is.constant in (
      difference_bound n (last_entry n) g k (pos 1) long is.entries (λ i. (each i).0) (omega (arith, ints))
          (omega (arith, ints)),
      difference_bound n g (last_entry n) k (negsuc 0) is.entries long (λ i. (each i).1) (omega (arith, ints))
          (omega (arith, ints)),
    )
  where
    each : (i : ℕ)
        → (unsigned_abs (get_or (last_entry n).coefficients i (pos 0) -ℤ get_or g.coefficients i (pos 0)) ≤ 16)
        × (unsigned_abs (get_or g.coefficients i (pos 0) -ℤ get_or (last_entry n).coefficients i (pos 0)) ≤ 16)
    each i = elim (last_at n i) [
      | inl e ↦
          let f = e.1 in
          let h = ap (λ j. get_or g.coefficients j (pos 0)) e.0 in
          (omega (arith, ints), omega (arith, ints))
      | inr e ↦
          let f = e.1 in
          let h = at_most_at 16 g.coefficients i is.coefficients in
          (omega (arith, ints), omega (arith, ints))
    ]

-- the form of the iterator's own name
pub entry_form : (n : ℕ) (f : Formula) → is_entry n f ≡ true → form (n + 1) f ≡ last_entry n
entry_form n (name (meaning.Variable j) at) e =
    ap (λ k. form_of (set (zeros (n + 1)) k (pos 1)) (pos 0)) (eqb-true j n e)
entry_form n (name meaning.Unknown at) e = absurd (cc)
entry_form n (name meaning.Closed at) e = absurd (cc)
entry_form n (name (meaning.Array k r narrow) at) e = absurd (cc)
entry_form n (constant s v at) e = absurd (cc)
entry_form n (index p i) e = absurd (cc)
entry_form n (bare_call m at) e = absurd (cc)
entry_form n (call m f at) e = absurd (cc)
entry_form n (unary s f at) e = absurd (cc)
entry_form n (cast w f at) e = absurd (cc)
entry_form n (binary o f g at) e = absurd (cc)

-- a multiple of a form in which an entry is 0
multiple_none : (n : ℕ) (k : ℤ) (f : Affine) → get_or f.coefficients n (pos 0) ≡ pos 0
    → get_or (multiple_of_form k f).coefficients n (pos 0) ≡ pos 0
multiple_none n k f e = get_or-multiples k f.coefficients n ∙ (ap (λ z. k *ℤ z) e ∙ mul_zero_right k)

product_none : (n : ℕ) (b : Bool) (f g : Affine) → get_or f.coefficients n (pos 0) ≡ pos 0
    → get_or g.coefficients n (pos 0) ≡ pos 0 → get_or (product_of_forms b f g).coefficients n (pos 0) ≡ pos 0
product_none n true f g e d = multiple_none n g.constant f e
product_none n false f g e d = multiple_none n f.constant g d

sum_none : (n : ℕ) (f g : Affine) → get_or f.coefficients n (pos 0) ≡ pos 0 → get_or g.coefficients n (pos 0) ≡ pos 0
    → get_or (sum_of_forms f g).coefficients n (pos 0) ≡ pos 0
sum_none n f g e d = let s = get_or-sums f.coefficients g.coefficients n in omega (arith, ints)

combined_none : (n : ℕ) (o : Op) (b : Bool) (f g : Affine) → get_or f.coefficients n (pos 0) ≡ pos 0
    → get_or g.coefficients n (pos 0) ≡ pos 0 → get_or (combined_forms o b f g).coefficients n (pos 0) ≡ pos 0
combined_none n op.Plus b f g e d = sum_none n f g e d
combined_none n op.Minus b f g e d = sum_none n f (multiple_of_form (negsuc 0) g) e (multiple_none n (negsuc 0) g d)
combined_none n op.Times b f g e d = product_none n b f g e d
combined_none n _ b f g e d = e

not_equal : (a b : ℕ) → (a == b) ≡ false → b ≢ a
not_equal a b e = grind (arith, nat_tests, e)

-- an entry that is not named has coefficient 0
pub unnamed : (m n : ℕ) (f : Formula) → names_entry n f ≡ false → get_or (form m f).coefficients n (pos 0) ≡ pos 0
unnamed m n (constant s v at) e = get_or-zeros m n
unnamed m n (name (meaning.Variable j) at) e =
    get_or-set_other (zeros m) j n (pos 1) (pos 0) (not_equal j n e) ∙ get_or-zeros m n
unnamed m n (name meaning.Unknown at) e = get_or-zeros m n
unnamed m n (name meaning.Closed at) e = get_or-zeros m n
unnamed m n (name (meaning.Array k r narrow) at) e = get_or-zeros m n
unnamed m n (index p i) e = get_or-zeros m n
unnamed m n (bare_call c at) e = get_or-zeros m n
unnamed m n (call c f at) e = get_or-zeros m n
unnamed m n (unary sign.Minus f at) e = multiple_none n (negsuc 0) (form m f) (unnamed m n f e)
unnamed m n (unary _ f at) e = get_or-zeros m n
unnamed m n (cast w f at) e = get_or-zeros m n
unnamed m n (binary o f g at) e =
    let b = both_false (names_entry n f) (names_entry n g) e in
    combined_none n o (has_name f) (form m f) (form m g) (unnamed m n f b.0) (unnamed m n g b.1)

-- a condition's form by the direction of its loop
abbrev pub Bounds : ℕ → Option Bool → Affine → Type 0
Bounds n None f = ⊤
Bounds n (Some true) f = IsBound n (negsuc 0) f
Bounds n (Some false) f = IsBound n (pos 1) f

bounds_by : (n : ℕ) (b : Bool) (r s : Option Bool) (f : Affine) → (b ≡ true → Bounds n r f) → Bounds n s f
    → Bounds n (if b then r else s) f
bounds_by n true r s f h k = h refl
bounds_by n false r s f h k = k

-- the iterator alone on one side, and not on the other
alone_bounds : (laws : RoleLaws) (n : ℕ) (f g : Formula) (k : ℤ) → unsigned_abs k ≤ 1
    → faults (n + 1) role.Affine g ≡ [] → (is_entry n f && not (names_entry n g)) ≡ true
    → IsBound n (pos 1) (difference (form (n + 1) f) (form (n + 1) g) k)
    × IsBound n (negsuc 0) (difference (form (n + 1) g) (form (n + 1) f) k)
alone_bounds laws n f g k small y e =
    let b = form (n + 1) g in
    let c = and_parts (is_entry n f) (not (names_entry n g)) e in
    subst (λ h. IsBound n (pos 1) (difference h b k) × IsBound n (negsuc 0) (difference b h k))
    (sym (entry_form n f c.0))
    (last_bounds n b k (laws.affine (n + 1) g (ap first y))
    (unnamed (n + 1) n g (not-true (names_entry n g) c.1)) small)

-- where it stands on the left, the loop rises
between_up : (laws : RoleLaws) (n : ℕ) (f g : Formula) (k : ℤ) → unsigned_abs k ≤ 1
    → faults (n + 1) role.Affine f ≡ [] → faults (n + 1) role.Affine g ≡ []
    → Bounds n (rises_between n true f g) (difference (form (n + 1) g) (form (n + 1) f) k)
between_up laws n f g k small x y =
    let d = difference (form (n + 1) g) (form (n + 1) f) k in
    bounds_by n (is_entry n f && not (names_entry n g)) (Some true) _ d (λ e. (alone_bounds laws n f g k small y e).1)
    (bounds_by n (is_entry n g && not (names_entry n f)) (Some false) None d
    (λ e. (alone_bounds laws n g f k small x e).0) tt)

-- where it stands on the left, the loop falls
between_down : (laws : RoleLaws) (n : ℕ) (f g : Formula) (k : ℤ) → unsigned_abs k ≤ 1
    → faults (n + 1) role.Affine f ≡ [] → faults (n + 1) role.Affine g ≡ []
    → Bounds n (rises_between n false f g) (difference (form (n + 1) f) (form (n + 1) g) k)
between_down laws n f g k small x y =
    let d = difference (form (n + 1) f) (form (n + 1) g) k in
    bounds_by n (is_entry n f && not (names_entry n g)) (Some false) _ d (λ e. (alone_bounds laws n f g k small y e).0)
    (bounds_by n (is_entry n g && not (names_entry n f)) (Some true) None d
    (λ e. (alone_bounds laws n g f k small x e).1) tt)

sides_none : (fs gs own : List Fault) → judged (fs ++ gs) own ≡ [] → (fs ≡ []) × (gs ≡ [])
sides_none fs gs own e = parts_none fs gs (judged_none (fs ++ gs) own e).0

pub condition_bounds : (laws : RoleLaws) (n : ℕ) (f : Formula) → faults (n + 1) role.Loose f ≡ []
    → Bounds n (rises n f) (condition_form (n + 1) f)
condition_bounds laws n (binary op.Less f g at) e =
    let s = sides_none (faults (n + 1) role.Affine f) (faults (n + 1) role.Affine g) _ e in
    between_up laws n f g (negsuc 0) (omega (arith, ints)) s.0 s.1
condition_bounds laws n (binary op.AtMost f g at) e =
    let s = sides_none (faults (n + 1) role.Affine f) (faults (n + 1) role.Affine g) _ e in
    between_up laws n f g (pos 0) (omega (arith, ints)) s.0 s.1
condition_bounds laws n (binary op.Greater f g at) e =
    let s = sides_none (faults (n + 1) role.Affine f) (faults (n + 1) role.Affine g) _ e in
    between_down laws n f g (negsuc 0) (omega (arith, ints)) s.0 s.1
condition_bounds laws n (binary op.AtLeast f g at) e =
    let s = sides_none (faults (n + 1) role.Affine f) (faults (n + 1) role.Affine g) _ e in
    between_down laws n f g (pos 0) (omega (arith, ints)) s.0 s.1
condition_bounds laws n _ e = tt

-- strides of 1 to 16, up or down
abbrev pub Strides : Option ℤ → Type 0
Strides None = ⊤
Strides (Some z) = (1 ≤ unsigned_abs z) × (unsigned_abs z ≤ 16)

strides_by : (b : Bool) (o p : Option ℤ) → (b ≡ true → Strides o) → Strides p → Strides (if b then o else p)
strides_by true o p h k = h refl
strides_by false o p h k = k

by_count_strides : (up : Bool) (v : ℕ) → 1 ≤ v → v ≤ 16 → Strides (Some (by_count up v))
by_count_strides true v a b = (omega (arith, ints), omega (arith, ints))
by_count_strides false v a b = (omega (arith, ints), omega (arith, ints))

count_strides : (up : Bool) (f : Formula) → Strides (stride_of up f)
count_strides up f = strides_by (is_count 1 16 f) (Some (by_count up (count f))) None
    (λ e. let b = count_bounds 1 16 f e in by_count_strides up (count f) b.0 b.1) tt

added_strides : (k : ℕ) (up : Bool) (f g : Formula) → Strides (added_stride k up f g)
added_strides k up f g = strides_by (is_entry k f) (stride_of up g) None (λ e. count_strides up g) tt

set_strides : (k : ℕ) (f : Formula) → Strides (set_stride k f)
set_strides k (binary op.Plus f g at) = added_strides k true f g
set_strides k (binary op.Minus f g at) = added_strides k false f g
set_strides k _ = tt

change_strides : (k : ℕ) (c : Change) → Strides (change_stride k c)
change_strides k (counted counts.Up) = (omega (arith, ints), omega (arith, ints))
change_strides k (counted counts.Down) = (omega (arith, ints), omega (arith, ints))
change_strides k (assigned assigns.Plus f) = count_strides true f
change_strides k (assigned assigns.Minus f) = count_strides false f
change_strides k (assigned assigns.Set f) = set_strides k f
change_strides k (assigned _ f) = tt

pub head_strides : (k : ℕ) (h : LoopHead) → Strides (stride k h)
head_strides k h = strides_by (is_entry k h.changed) (change_stride k h.change) None (λ e. change_strides k h.change) tt

-- a condition and a step of one direction
abbrev pub Directed : ℕ → Affine → ℤ → Type 0
Directed n f z = IsCondition (n + 1) f × (unsigned_abs z ≤ 16)
    × (((slice_index_or f.coefficients n (pos 0) ≡ negsuc 0) × (pos 1 ≤ℤ z))
    ⊎ ((slice_index_or f.coefficients n (pos 0) ≡ pos 1) × (z ≤ℤ negsuc 0)))

pub directed : (n : ℕ) (r : Option Bool) (o : Option ℤ) (f : Affine) → goes r o ≡ true → Bounds n r f → Strides o
    → Directed n f (or_zero o)
directed n (Some true) (Some (pos m)) f e b s =
    (b.condition, s.1, inl (b.own_is, let some = s.0 in omega (arith, ints)))
directed n (Some true) (Some (negsuc m)) f e b s = absurd (cc)
directed n (Some true) None f e b s = absurd (cc)
directed n (Some false) (Some (negsuc m)) f e b s = (b.condition, s.1, inr (b.own_is, omega (arith, ints)))
directed n (Some false) (Some (pos m)) f e b s = absurd (cc)
directed n (Some false) None f e b s = absurd (cc)
directed n None o f e b s = absurd (cc)

-- a head without faults, in fewer than five loops
pub head_stands : (laws : RoleLaws) (s : Scope) (h : LoopHead) → loop_faults s h ≡ []
    → IsHead (entries s) (loop_of s h) × (length s.open_loops < 5)
head_stands laws s h e =
    let n = entries s in
    let own = told h.place (only_where (not (is_form n h)) kind.LoopForm) in
    let all = parts_none (judged (part_faults s h) own) _ e in
    let outer = judged_none (part_faults s h) own all.0 in
    let form_none = told_none h.place (only_where (not (is_form n h)) kind.LoopForm) outer.1 in
    let formed = only_none (is_form n h) kind.LoopForm form_none in
    let parts = parts_none (told h.name_at (iterator_fault h.new s h.iterator)) _ outer.0 in
    let inner = parts_none (faults n role.Affine h.first) _ parts.1 in
    let second = parts_none (faults (n + 1) role.Loose h.second) _ inner.1 in
    let goes_so = directed n (rises n h.second) (stride n h) (condition_form (n + 1) h.second) formed
    (condition_bounds laws n h.second second.0) (head_strides n h) in (
      record {
        first = laws.affine n h.first (ap first inner.0);
        condition = goes_so.0;
        stride = goes_so.1;
        direction = goes_so.2;
      },
      fewer h.place 5 (length s.open_loops) kind.Depth all.1,
    )
