-- Printed values of typed trees are worth in C what the tree's values are.
use Rattle.scop_syntax.proofs.Common.{◌≡◌, ℕ, zero, suc, ◌-◌, ◌*◌, ◌/◌, ◌%◌, ◌^◌, ◌<◌, Bool, true, false, ℤ, pos}
use Rattle.scop_syntax.proofs.Common.{negsuc, List, [], ◌∷◌, ◌++◌, length, map, drop, ap, ap₂, sym, subst, refl, ◌∙◌}
use Rattle.scop_syntax.proofs.Common.{arith, slice_get, slice_index_or, Some, ⊤, and_parts, mod_below, div-le_self}
use Rattle.scop_syntax.proofs.Common.{mod-eq_of_lt, mod-mod, value_of, Access, Operator, Expression, read, affine}
use Rattle.scop_syntax.proofs.Common.{negated, complemented, cast, binary, shifted_left, shifted_right, implied}
use Rattle.scop_syntax.proofs.Common.{converted, narrowed, Right, assigned, combined, moved_left, moved_right}
use Rattle.scop_syntax.proofs.Common.{combined_narrow, moved_left_narrow, Program, Statement, cell_of, reads_of}
use Rattle.scop_syntax.proofs.Common.{reads_with, Visit, walk_of, before_place, held, layout, value_stored_by, HasWidth}
use Rattle.scop_syntax.proofs.Common.{IsKernel, IsStatement, narrow_arrays, ranks_of, wrapped, applied, applied_narrow}
use Rattle.scop_syntax.proofs.Common.{value_on, stored_by, IsTyped, applied_kept, in_from_place}
use Rattle.scop_syntax.specs.Tree.{constant}
use Rattle.scop_syntax.specs.Tree.{Narrowing, explicit}
use Rattle.scop_syntax.specs.Execution.{values_read_by}
use Rattle.scop_syntax.specs.Widths.{HoldTypes, is_narrow, IsTypedAs}
use Rattle.scop_syntax.proofs.NarrowValues.{moved_kept, negated_kept, complemented_kept, made_below}
use Rattle.scop_syntax.proofs.Values.{stored_below}
use Rattle.scop_syntax.proofs.Widths.{held_below, instance_is, types_kept}
use Rattle.c_printer.specs.Values.{modulus, residue, made, converted_worth, worth, stores}

-- what reads give are numbers of their types
abbrev HaveTypes : List Bool → List Access → List ℕ → Type 0
HaveTypes arrays [] vs = ⊤
HaveTypes arrays (x ∷ xs) vs =
    (slice_index_or vs 0 0 < modulus (slice_index_or arrays x.array false)) × HaveTypes arrays xs (drop 1 vs)

drop_next : {A : Type 0} (n : ℕ) (xs : List A) → drop n (drop 1 xs) ≡ drop (suc n) xs
drop_next zero [] = refl
drop_next (suc n) [] = refl
drop_next n (x ∷ xs) = refl

types_front : (arrays : List Bool) (xs ys : List Access) (vs : List ℕ) → HaveTypes arrays (xs ++ ys) vs
    → HaveTypes arrays xs vs
types_front arrays [] ys vs h = tt
types_front arrays (x ∷ xs) ys vs h = (h.0, types_front arrays xs ys (drop 1 vs) h.1)

types_behind : (arrays : List Bool) (xs ys : List Access) (vs : List ℕ) → HaveTypes arrays (xs ++ ys) vs
    → HaveTypes arrays ys (drop (length xs) vs)
types_behind arrays [] ys vs h = h
types_behind arrays (x ∷ xs) ys vs h =
    subst (HaveTypes arrays ys) (drop_next (length xs) vs) (types_behind arrays xs ys (drop 1 vs) h.1)

held_types : (arrays : List Bool) (extents contents : List (List ℕ)) (point : List ℤ) → HoldTypes arrays contents
    → (xs : List Access) → HaveTypes arrays xs (map (λ access. held extents contents (cell_of access point)) xs)
held_types arrays extents contents point hold [] = tt
held_types arrays extents contents point hold (x ∷ xs) =
    (hold x.array _, held_types arrays extents contents point hold xs)

-- the tree's value, kept to 32 bits where this is so
abbrev kept : Bool → ℕ → ℕ
kept true v = v % 2 ^ 32
kept false v = v

-- a worth of this type stands for a value of the tree, whose `narrowed` is taken off where it is kept
record IsWorth (narrow b : Bool) (w v : ℕ) : Type 0 where
  same : w ≡ kept b v
  below : narrow ≡ true → w < 2 ^ 32

full_residue : (z : ℤ) → residue false z ≡ wrapped z
full_residue (pos n) = refl
full_residue (negsuc n) = refl

narrow_residue : (z : ℤ) → residue true z ≡ wrapped z % 2 ^ 32
narrow_residue (pos n) = omega arith
narrow_residue (negsuc n) = omega arith

negated_worth : (n : Bool) (w : ℕ) → (n ≡ true → w < 2 ^ 32)
    → IsWorth n n ((modulus n - w) % modulus n) ((2 ^ 64 - w) % 2 ^ 64)
negated_worth true w h =
    record { same = sym (negated_kept w (h refl)); below = λ e. mod_below (2 ^ 32 - w) (2 ^ 32) (omega arith) }
negated_worth false w h = record { same = refl; below = λ e. absurd (cc) }

complemented_worth : (n : Bool) (w : ℕ) → (n ≡ true → w < 2 ^ 32)
    → IsWorth n n (modulus n - 1 - w) (2 ^ 64 - 1 - w)
complemented_worth true w h = record { same = sym (complemented_kept w (h refl)); below = λ e. omega arith }
complemented_worth false w h = record { same = refl; below = λ e. absurd (cc) }

moved_left_worth : (n : Bool) (w k : ℕ) → IsWorth n n ((w * 2 ^ k) % modulus n) ((w * 2 ^ k) % 2 ^ 64)
moved_left_worth true w k =
    record { same = sym (moved_kept (w * 2 ^ k)); below = λ e. mod_below (w * 2 ^ k) (2 ^ 32) (omega arith) }
moved_left_worth false w k = record { same = refl; below = λ e. absurd (cc) }

moved_right_worth : (n : Bool) (w k : ℕ) → (n ≡ true → w < 2 ^ 32) → IsWorth n n (w / 2 ^ k) (w / 2 ^ k)
moved_right_worth true w k h =
    let small = h refl in
    let less = div-le_self w (2 ^ k) in
    let below : w / 2 ^ k < 2 ^ 32 = omega (arith, small, less) in
    record { same = sym (mod-eq_of_lt below); below = λ e. below }
moved_right_worth false w k h = record { same = refl; below = λ e. absurd (cc) }

made_kept : (op : Operator) (w x : ℕ) → w < 2 ^ 32 → x < 2 ^ 32 → applied_narrow op w x ≡ applied op w x % 2 ^ 32
made_kept op w x h i =
    sym (applied_kept op w x (omega (arith, i)) ∙ ap₂ (applied_narrow op) (mod-eq_of_lt h) (mod-eq_of_lt i))

made_worth : (n : Bool) (op : Operator) (w x : ℕ) → (n ≡ true → (w < 2 ^ 32) × (x < 2 ^ 32))
    → IsWorth n n (made n op w x) (applied op w x)
made_worth true op w x h =
    let both = h refl in
    record { same = made_kept op w x both.0 both.1; below = λ e. made_below op w x both.0 both.1 }
made_worth false op w x h = record { same = refl; below = λ e. absurd (cc) }

converted_same : (e : Expression) (point : List ℤ) (vs : List ℕ) (w : ℕ) → w ≡ value_on e point vs
    → converted_worth e point w ≡ value_on e point vs % 2 ^ 32
converted_same (affine form) point vs w h = narrow_residue (value_of form point)
converted_same _ point vs w h = ap (λ v. v % 2 ^ 32) h

-- as an operand, and kept where the type says so
moved : (n b : Bool) (w v u : ℕ) → IsWorth n n w v → v ≡ u → n ≡ b → IsWorth n b w u
moved n b w v u h same is =
    record { same = h.same ∙ ap (kept n) same ∙ ap (λ c. kept c u) is; below = h.below }

worth_is : (arrays : List Bool) (b : Bool) (e : Expression) (point : List ℤ) (vs : List ℕ) → IsTypedAs arrays b e
    → HaveTypes arrays (reads_of e) vs
    → IsWorth (is_narrow arrays e) b (worth arrays e point vs) (value_on e point vs)
worth_is arrays b (negated e) point vs typed types =
    let inner = worth_is arrays false e point vs typed.1 types in
    moved (is_narrow arrays e) b _ _ _ (negated_worth (is_narrow arrays e) (worth arrays e point vs) inner.below)
    (ap (λ v. (2 ^ 64 - v) % 2 ^ 64) inner.same) typed.0
worth_is arrays b (complemented e) point vs typed types =
    let inner = worth_is arrays false e point vs typed.1 types in
    moved (is_narrow arrays e) b _ _ _ (complemented_worth (is_narrow arrays e) (worth arrays e point vs) inner.below)
    (ap (λ v. 2 ^ 64 - 1 - v) inner.same) typed.0
worth_is arrays b (binary op e f) point vs typed types =
    let rest = drop (length (reads_of e)) vs in
    let left = worth_is arrays false e point vs typed.1 (types_front arrays (reads_of e) (reads_of f) vs types) in
    let right = worth_is arrays false f point rest typed.2 (types_behind arrays (reads_of e) (reads_of f) vs types) in
    moved (is_narrow arrays (binary op e f)) b _ _ _
    (made_worth (is_narrow arrays (binary op e f)) op (worth arrays e point vs) (worth arrays f point rest)
    (λ both. let parts = and_parts (is_narrow arrays e) (is_narrow arrays f) both in
    (left.below parts.0, right.below parts.1)))
    (ap₂ (applied op) left.same right.same) typed.0
worth_is arrays b (shifted_left e k) point vs typed types =
    let inner = worth_is arrays false e point vs typed.2 types in
    moved (is_narrow arrays e) b _ _ _ (moved_left_worth (is_narrow arrays e) (worth arrays e point vs) k)
    (ap (λ v. (v * 2 ^ k) % 2 ^ 64) inner.same) typed.0
worth_is arrays b (shifted_right e k) point vs typed types =
    let inner = worth_is arrays false e point vs typed.2 types in
    moved (is_narrow arrays e) b _ _ _
    (moved_right_worth (is_narrow arrays e) (worth arrays e point vs) k inner.below)
    (ap (λ v. v / 2 ^ k) inner.same) typed.0
worth_is arrays true _ point vs typed types = absurd typed
worth_is arrays false (read access) point vs typed types =
    record { same = refl; below = λ e. subst (λ n. slice_index_or vs 0 0 < modulus n) e types.0 }
worth_is arrays false (constant c) point vs typed types = record { same = refl; below = λ e. absurd (cc) }
worth_is arrays false (affine form) point vs typed types =
    record { same = full_residue (value_of form point); below = λ e. absurd (cc) }
worth_is arrays false (cast e) point vs typed types =
    let inner = worth_is arrays false e point vs typed types in
    record { same = inner.same; below = λ e. absurd (cc) }
worth_is arrays false (narrowed implied e) point vs typed types =
    let inner = worth_is arrays true e point vs typed types in
    record { same = inner.same; below = inner.below }
worth_is arrays false (narrowed explicit e) point vs typed types =
    let inner = worth_is arrays false e point vs typed types in
    record {
      same = ap (λ v. v % 2 ^ 32) inner.same;
      below = λ n. mod_below (worth arrays e point vs) (2 ^ 32) (omega arith);
    }
worth_is arrays false (narrowed converted e) point vs typed types =
    let inner = worth_is arrays false e point vs typed types in
    let same = converted_same e point vs (worth arrays e point vs) inner.same in
    record {
      same = same;
      below = λ n. subst (λ v. v < 2 ^ 32) (sym same) (mod_below (value_on e point vs) (2 ^ 32) (omega arith));
    }

pub typed_worth : (arrays : List Bool) (extents contents : List (List ℕ)) (e : Expression) (point : List ℤ)
    → IsTyped arrays e → HoldTypes arrays contents
    → worth arrays e point (map (λ access. held extents contents (cell_of access point)) (reads_of e))
    ≡ value_on e point (map (λ access. held extents contents (cell_of access point)) (reads_of e))
typed_worth arrays extents contents e point typed hold =
    (worth_is arrays false e point _ typed (held_types arrays extents contents point hold (reads_of e))).same

-- a value kept to 32 bits, behind the sign of a plain assignment
narrow_set : (arrays : List Bool) (w : Narrowing) (e : Expression) (point : List ℤ) (vs : List ℕ) → IsTyped arrays e
    → HaveTypes arrays (reads_of e) vs
    → worth arrays (narrowed w e) point vs % 2 ^ 32 ≡ value_on e point vs % 2 ^ 32
narrow_set arrays implied e point vs typed types =
    ap (λ v. v % 2 ^ 32) (worth_is arrays false e point vs typed types).same
narrow_set arrays explicit e point vs typed types =
    mod-mod (worth arrays e point vs) (2 ^ 32)
    ∙ ap (λ v. v % 2 ^ 32) (worth_is arrays false e point vs typed types).same
narrow_set arrays converted e point vs typed types =
    ap (λ v. v % 2 ^ 32) (converted_same e point vs (worth arrays e point vs)
    (worth_is arrays false e point vs typed types).same)
    ∙ mod-mod (value_on e point vs) (2 ^ 32)

-- what a compound operator makes of a narrow place
narrow_made : (n : Bool) (op : Operator) (x w v : ℕ) → x < 2 ^ 32 → IsWorth n false w v
    → made n op x w % 2 ^ 32 ≡ applied op x v % 2 ^ 32
narrow_made true op x w v small h =
    ap (λ u. u % 2 ^ 32) (made_kept op x w small (h.below refl)) ∙ mod-mod (applied op x w) (2 ^ 32)
    ∙ ap (λ u. applied op x u % 2 ^ 32) h.same
narrow_made false op x w v small h = ap (λ u. applied op x u % 2 ^ 32) h.same

stores_same : (arrays : List Bool) (place : Access) (cell : Bool) (right : Right) (point : List ℤ) (vs : List ℕ)
    → cell ≡ slice_index_or arrays place.array false → HasWidth arrays cell right
    → HaveTypes arrays (reads_with place right) vs → stored_by right point vs < 2 ^ 64
    → stores arrays cell right point vs ≡ stored_by right point vs
stores_same arrays place true (assigned (narrowed w e)) point vs is width types below =
    narrow_set arrays w e point vs width types
stores_same arrays place true (combined_narrow op e) point vs is width types below =
    narrow_made (is_narrow arrays e) op (slice_index_or vs 0 0) _ _
    (subst (λ n. slice_index_or vs 0 0 < modulus n) (sym is) types.0)
    (worth_is arrays false e point (drop 1 vs) width types.1)
stores_same arrays place true (moved_left_narrow k) point vs is width types below = refl
stores_same arrays place true (moved_right k) point vs is width types below = refl
stores_same arrays place true right point vs is width types below = absurd width
stores_same arrays place false (assigned e) point vs is width types below =
    ap (λ v. v % 2 ^ 64) (worth_is arrays false e point vs width types).same ∙ mod-eq_of_lt below
stores_same arrays place false (combined op e) point vs is width types below =
    ap (λ v. applied op (slice_index_or vs 0 0) v % 2 ^ 64)
    (worth_is arrays false e point (drop 1 vs) width types.1).same ∙ mod-eq_of_lt below
stores_same arrays place false (moved_left k) point vs is width types below = refl
stores_same arrays place false (moved_right k) point vs is width types below = refl
stores_same arrays place false right point vs is width types below = absurd width

pub typed_stores : (arrays : List Bool) (ranks : List ℕ) (n : ℕ) (extents contents : List (List ℕ)) (s : Statement)
    (point : List ℤ) → IsStatement ranks n s
    → HasWidth arrays (slice_index_or arrays s.place.array false) s.right → HoldTypes arrays contents
    → stores arrays (slice_index_or arrays s.place.array false) s.right point (values_read_by extents contents s point)
    ≡ value_stored_by extents contents s point
typed_stores arrays ranks n extents contents s point is width hold =
    let vs = values_read_by extents contents s point in
    stores_same arrays s.place (slice_index_or arrays s.place.array false) s.right point vs refl width
    (held_types arrays extents contents point hold (reads_with s.place s.right))
    (stored_below ranks n s.right point vs is.right
    (held_below arrays extents contents point hold (reads_with s.place s.right)))

pub typed_run : (program : Program) (params : List ℤ) (contents : List (List ℕ)) (j : ℕ) (v : Visit)
    → IsKernel program → HoldTypes (narrow_arrays program) contents → slice_get (walk_of program params) j ≡ Some v
    → stores (narrow_arrays program) (slice_index_or (narrow_arrays program) v.body.place.array false) v.body.right
    v.point (values_read_by (layout program params)
    (before_place (layout program params) contents (walk_of program params) j) v.body v.point)
    ≡ value_stored_by (layout program params)
    (before_place (layout program params) contents (walk_of program params) j) v.body v.point
typed_run program params contents j v is hold found =
    let i = instance_is program params is v (in_from_place (walk_of program params) j v found) in
    typed_stores (narrow_arrays program) (ranks_of program) i.0 (layout program params)
    (before_place (layout program params) contents (walk_of program params) j) v.body v.point i.1 i.2
    (types_kept program params contents j is hold)
