-- Loops and statements without faults are within the limits of a kernel.
use Rattle.scop_syntax.proofs.Common.{◌≡◌, ℕ, zero, suc, ◌<◌, ◌≤◌, Bool, true, false, not, ◌||◌, List, [], ◌∷◌, ◌++◌}
use Rattle.scop_syntax.proofs.Common.{length, refl, sym, ap, subst, arith, All, nat_le, nat_lt, slice_get, Option, Some}
use Rattle.scop_syntax.proofs.Common.{None, ◌&&◌, slice_index_or, and_parts, leb-true, ltb-false, nat_tests, IsAffine}
use Rattle.scop_syntax.proofs.Common.{IsComparison, test_form, IsAccess, IsExpression, IsRight, IsStatement, HasWidth}
use Rattle.scop_syntax.proofs.Common.{IsTyped, reads_of, reads_with, Access, Operator, plus, minus, times, bits_and}
use Rattle.scop_syntax.proofs.Common.{bits_or, bits_xor, implied, converted, Expression}
use Rattle.scop_expressions.specs.Tree.{Tree}
use Rattle.scop_expressions.specs.Assign.{Assign}
use Rattle.scop_expressions.specs.Assign.TheVariants as assigns
use Rattle.scop_expressions.specs.Suffix.TheVariants as suffix
use Rattle.scop_roles.specs.declared.kinds.Fault.{Fault}
use Rattle.scop_roles.specs.declared.kinds.Kind.{Kind}
use Rattle.scop_roles.specs.declared.kinds.Kind.TheVariants as kind
use Rattle.scop_roles.specs.declared.formula.Meaning.{Meaning}
use Rattle.scop_roles.specs.declared.formula.Meaning.TheVariants as meaning
use Rattle.scop_roles.specs.declared.formula.Role.TheVariants as role
use Rattle.scop_roles.specs.Formula.{Formula, Lookup, formula, constant, name, index, bare_call, call, unary, cast}
use Rattle.scop_roles.specs.Formula.{binary, place, meaning_of}
use Rattle.scop_roles.specs.Faults.{first, told, judged, faults, place_faults, own_rank, only_where, is_count}
use Rattle.scop_roles.specs.Faults.{last_count}
use Rattle.scop_roles.specs.Forms.{form, is_signed, is_bare, is_long}
use Rattle.scop_roles.specs.Scope.{IsArrayName, IsArray, IsInScope, KnowsArrays, KnowsWidth, HasWidths}
use Rattle.scop_roles.specs.Values.{array_number, access, expression, tests, narrowed_where, read_places, count}
use Rattle.scop_units.specs.Units.{Stored, is_array, own_cell, cell_faults, own_assign, own_read, read_limit}
use Rattle.scop_units.specs.Units.{is_narrow_cell, stored_faults, statement_faults, combined_as, moved_left_as}
use Rattle.scop_units.specs.Units.{right_of, statement_of}
use Rattle.scop_units.specs.Units as units
use Rattle.scop_roles.proofs.Affines.{narrowed_limits, narrowed_reads}
use Rattle.scop_roles.proofs.Types.{known_width}
use Rattle.scop_roles.proofs.Widths.{bare_there, bare_value}

-- what roles promise of formulas without faults
pub record RoleLaws : Type 0 where
  pub in_scope : (ranks : List ℕ) (look : Lookup) (at : ℕ) (t : Tree) → KnowsArrays ranks look
      → IsInScope ranks (formula look at t)
  pub affine : (n : ℕ) (f : Formula) → first (faults n role.Affine f) ≡ None → IsAffine n (form n f)
  pub value : (ranks : List ℕ) (n : ℕ) (f : Formula) → IsInScope ranks f → first (faults n role.Value f) ≡ None
      → IsExpression ranks n (expression n f)
  pub widths : (narrow : List Bool) (look : Lookup) (at : ℕ) (t : Tree)
      → ((i : ℕ) → KnowsWidth narrow (look.meaning i)) → HasWidths narrow (formula look at t)
  pub types : (narrow : List Bool) (n : ℕ) (f : Formula) → HasWidths narrow f → first (faults n role.Value f) ≡ None
      → IsTyped narrow (expression n f)
  pub cell : (ranks : List ℕ) (n : ℕ) (f : Formula) → IsInScope ranks f → IsArray f
      → first (place_faults n f) ≡ None → own_rank f ≡ None → IsAccess ranks n (access n f)
  pub condition : (n : ℕ) (f : Formula) → first (faults n role.Condition f) ≡ None
      → (0 < length (tests n f)) × All (λ test. IsComparison n (test_form test)) (tests n f)
  pub reads : (n : ℕ) (f : Formula) → first (faults n role.Value f) ≡ None
      → length (read_places f) ≡ length (reads_of (expression n f))

-- no faults of the whole: none of the parts
pub parts_none : {A : Type 0} (xs ys : List A) → xs ++ ys ≡ [] → (xs ≡ []) × (ys ≡ [])
parts_none [] ys e = (refl, e)
parts_none (x ∷ xs) ys e = absurd (cc)

pub judged_none : (fs own : List Fault) → judged fs own ≡ [] → (fs ≡ []) × (own ≡ [])
judged_none [] own e = (refl, e)
judged_none (f ∷ fs) own e = absurd (cc)

pub told_none : (at : ℕ) (k : Option Kind) → told at k ≡ [] → k ≡ None
told_none at None e = refl
told_none at (Some k) e = absurd (cc)

where_none : (at : ℕ) (b : Bool) (k : Kind) → told at (only_where b k) ≡ [] → b ≡ false
where_none at true k e = absurd (cc)
where_none at false k e = refl

pub where_false : (b : Bool) (k : Kind) → only_where b k ≡ None → b ≡ false
where_false true k e = absurd (cc)
where_false false k e = refl

pub only_none : (b : Bool) (k : Kind) → only_where (not b) k ≡ None → b ≡ true
only_none true k e = refl
only_none false k e = absurd (cc)

not_upto : (a b : ℕ) → nat_le a b ≡ false → b < a
not_upto a b e = grind (arith, nat_tests, e)

-- a limit that is not reached, and one that is not passed
pub fewer : (at k n : ℕ) (c : Kind) → told at (only_where (nat_le k n) c) ≡ [] → n < k
fewer at k n c e = not_upto k n (where_none at (nat_le k n) c e)

pub at_most : (at k n : ℕ) (c : Kind) → told at (only_where (nat_lt k n) c) ≡ [] → n ≤ k
at_most at k n c e = ltb-false k n (where_none at (nat_lt k n) c e)

pub both_false : (a b : Bool) → (a || b) ≡ false → (a ≡ false) × (b ≡ false)
both_false true b e = absurd (cc)
both_false false b e = (refl, e)

-- a constant that is a count is at most the limit
pub count_bounds : (low high : ℕ) (f : Formula) → is_count low high f ≡ true → (low ≤ count f) × (count f ≤ high)
count_bounds low high (constant (suffix.Absent b) v at) e =
    let both = and_parts (nat_le low v) (nat_le v high) e in (leb-true low v both.0, leb-true v high both.1)
count_bounds low high (constant suffix.Present v at) e = absurd (cc)
count_bounds low high (name m at) e = absurd (cc)
count_bounds low high (index p i) e = absurd (cc)
count_bounds low high (bare_call m at) e = absurd (cc)
count_bounds low high (call m f at) e = absurd (cc)
count_bounds low high (unary s f at) e = absurd (cc)
count_bounds low high (cast w f at) e = absurd (cc)
count_bounds low high (binary o f g at) e = absurd (cc)

-- statements

pub array_name : (m : Meaning) → is_array m ≡ true → IsArrayName m
array_name (meaning.Array k r narrow) e = tt
array_name meaning.Unknown e = absurd (cc)
array_name meaning.Closed e = absurd (cc)
array_name (meaning.Variable k) e = absurd (cc)

-- a shift's count
shift_count : (high : ℕ) (f : Formula) → only_where (not (is_count 0 high f)) kind.ShiftCount ≡ None → count f ≤ high
shift_count high f e = (count_bounds 0 high f (only_none (is_count 0 high f) kind.ShiftCount e)).1

pub any_count : (narrow : Bool) (f : Formula)
    → only_where (not (is_count 0 (last_count narrow) f)) kind.ShiftCount ≡ None → count f ≤ 63
any_count true f e = let few = shift_count 31 f e in omega (arith, few)
any_count false f e = shift_count 63 f e

-- the right sides of the operators of values, and of <<=
combined_stands : (laws : RoleLaws) (ranks : List ℕ) (n : ℕ) (narrow : Bool) (o : Operator) (f : Formula)
    → IsInScope ranks f → faults n role.Value f ≡ [] → only_where (narrow && is_long f) kind.Width ≡ None
    → IsRight ranks n (combined_as narrow o n f)
combined_stands laws ranks n true o f s v e =
    narrowed_limits ranks n (is_signed f) converted (expression n f)
    (λ signed. bare_value n f signed
    (bare_there (is_signed f) (is_bare f) signed (where_false (is_long f) kind.Width e)))
    (laws.value ranks n f s (ap first v))
combined_stands laws ranks n false o f s v e = laws.value ranks n f s (ap first v)

moved_stands : (ranks : List ℕ) (n : ℕ) (narrow : Bool) (f : Formula)
    → only_where (not (is_count 0 (last_count narrow) f)) kind.ShiftCount ≡ None
    → IsRight ranks n (moved_left_as narrow (count f))
moved_stands ranks n true f e = shift_count 31 f e
moved_stands ranks n false f e = shift_count 63 f e

-- the right side of a statement without faults
stored_right : (laws : RoleLaws) (ranks : List ℕ) (n : ℕ) (narrow : Bool) (a : Assign) (f : Formula) → IsInScope ranks f
    → faults n role.Value f ≡ [] → own_assign narrow a f ≡ None → IsRight ranks n (right_of n narrow a f)
stored_right laws ranks n narrow assigns.Set f s v e =
    narrowed_limits ranks n narrow implied (expression n f) (λ b. tt) (laws.value ranks n f s (ap first v))
stored_right laws ranks n narrow assigns.Plus f s v e = combined_stands laws ranks n narrow plus f s v e
stored_right laws ranks n narrow assigns.Minus f s v e = combined_stands laws ranks n narrow minus f s v e
stored_right laws ranks n narrow assigns.Times f s v e = combined_stands laws ranks n narrow times f s v e
stored_right laws ranks n narrow assigns.And f s v e = combined_stands laws ranks n narrow bits_and f s v e
stored_right laws ranks n narrow assigns.Or f s v e = combined_stands laws ranks n narrow bits_or f s v e
stored_right laws ranks n narrow assigns.Xor f s v e = combined_stands laws ranks n narrow bits_xor f s v e
stored_right laws ranks n narrow assigns.ShiftLeft f s v e = moved_stands ranks n narrow f e
stored_right laws ranks n narrow assigns.ShiftRight f s v e = any_count narrow f e
stored_right laws ranks n narrow assigns.Divide f s v e = absurd (cc)
stored_right laws ranks n narrow assigns.Remainder f s v e = absurd (cc)

-- it has the width of its place
converted_typed : (arrays : List Bool) (b : Bool) (e : Expression) → IsTyped arrays e
    → IsTyped arrays (narrowed_where b converted e)
converted_typed arrays true e typed = typed
converted_typed arrays false e typed = typed

stored_width : (arrays : List Bool) (n : ℕ) (narrow : Bool) (a : Assign) (f : Formula) → IsTyped arrays (expression n f)
    → own_assign narrow a f ≡ None → HasWidth arrays narrow (right_of n narrow a f)
stored_width arrays n true assigns.ShiftLeft f typed e = tt
stored_width arrays n false assigns.ShiftLeft f typed e = tt
stored_width arrays n true assigns.ShiftRight f typed e = shift_count 31 f e
stored_width arrays n false assigns.ShiftRight f typed e = tt
stored_width arrays n true assigns.Set f typed e = typed
stored_width arrays n true assigns.Divide f typed e = absurd (cc)
stored_width arrays n true assigns.Remainder f typed e = absurd (cc)
stored_width arrays n true _ f typed e = converted_typed arrays (is_signed f) (expression n f) typed
stored_width arrays n false _ f typed e = typed

-- a list without a 17th element
pub short_list : {A : Type 0} (k : ℕ) (xs : List A) → slice_get xs k ≡ None → length xs ≤ k
short_list k [] e = omega arith
short_list zero (x ∷ xs) e = absurd (cc)
short_list (suc k) (x ∷ xs) e = let m = short_list k xs e in omega (arith, m)

limit_none : (o : Option ℕ) → read_limit o ≡ [] → o ≡ None
limit_none None e = refl
limit_none (Some at) e = absurd (cc)

pub combined_reads : (p : Access) (n : ℕ) (narrow : Bool) (o : Operator) (f : Formula)
    → reads_with p (combined_as narrow o n f) ≡ p ∷ reads_of (expression n f)
combined_reads p n true o f =
    ap (λ (xs : List Access). p ∷ xs) (narrowed_reads (is_signed f) converted (expression n f))
combined_reads p n false o f = refl

pub moved_reads : (p : Access) (narrow : Bool) (k : ℕ) → reads_with p (moved_left_as narrow k) ≡ p ∷ []
moved_reads p true k = refl
moved_reads p false k = refl

-- a compound operator reads its place once more
with_place : (laws : RoleLaws) (n : ℕ) (p : Access) (narrow : Bool) (o : Operator) (f : Formula) (k : ℕ)
    → faults n role.Value f ≡ [] → suc (length (read_places f)) ≤ k
    → length (reads_with p (combined_as narrow o n f)) ≤ k
with_place laws n p narrow o f k v h =
    let same = ap length (combined_reads p n narrow o f) in
    let r = laws.reads n f (ap first v) in
    omega (arith, same, r, h)

stored_reads : (laws : RoleLaws) (n : ℕ) (p : Access) (narrow : Bool) (a : Assign) (f : Formula) (at k : ℕ) → 1 ≤ k
    → faults n role.Value f ≡ [] → own_assign narrow a f ≡ None → length (own_read a at ++ read_places f) ≤ k
    → length (reads_with p (right_of n narrow a f)) ≤ k
stored_reads laws n p narrow assigns.Set f at k some v e h =
    let same = ap length (narrowed_reads narrow implied (expression n f)) in
    let r = laws.reads n f (ap first v) in
    omega (arith, same, r, h)
stored_reads laws n p narrow assigns.Plus f at k some v e h = with_place laws n p narrow plus f k v h
stored_reads laws n p narrow assigns.Minus f at k some v e h = with_place laws n p narrow minus f k v h
stored_reads laws n p narrow assigns.Times f at k some v e h = with_place laws n p narrow times f k v h
stored_reads laws n p narrow assigns.And f at k some v e h = with_place laws n p narrow bits_and f k v h
stored_reads laws n p narrow assigns.Or f at k some v e h = with_place laws n p narrow bits_or f k v h
stored_reads laws n p narrow assigns.Xor f at k some v e h = with_place laws n p narrow bits_xor f k v h
stored_reads laws n p narrow assigns.ShiftLeft f at k some v e h =
    let same = ap length (moved_reads p narrow (count f)) in omega (arith, same, some)
stored_reads laws n p narrow assigns.ShiftRight f at k some v e h = some
stored_reads laws n p narrow assigns.Divide f at k some v e h = absurd (cc)
stored_reads laws n p narrow assigns.Remainder f at k some v e h = absurd (cc)

-- a statement without faults, and where it may stand
pub record Stands (ranks : List ℕ) (narrow : List Bool) (n comparisons before : ℕ) (s : Stored) : Type 0 where
  pub statement : IsStatement ranks n (statement_of n s)
  pub width : HasWidth narrow (slice_index_or narrow (array_number (meaning_of s.cell)) false) (statement_of n s).right
  pub few_comparisons : comparisons ≤ 16
  pub few_before : before < 32

pub statement_stands : (laws : RoleLaws) (ranks : List ℕ) (narrow : List Bool) (n comparisons before : ℕ) (s : Stored)
    → IsInScope ranks s.cell → IsInScope ranks s.value → KnowsWidth narrow (meaning_of s.cell)
    → HasWidths narrow s.value → statement_faults n comparisons before s ≡ []
    → Stands ranks narrow n comparisons before s
statement_stands laws ranks narrow n comparisons before s in_cell in_value known widths e =
    let all = parts_none (stored_faults n s) _ e in
    let limits = parts_none (read_limit (slice_get (units.reads_of s) 16)) _ all.1 in
    let numbers = parts_none (told (place s.cell) (only_where (nat_lt 16 comparisons) kind.Depth)) _ limits.1 in
    let outer = judged_none (cell_faults n s.cell ++ faults n role.Value s.value) _ all.0 in
    let sides = parts_none (cell_faults n s.cell) _ outer.0 in
    let cell = parts_none (told (place s.cell) (own_cell s.cell)) _ sides.0 in
    let own = told_none (place s.cell) (own_cell s.cell) cell.0 in
    let array = array_name (meaning_of s.cell) (only_none (is_array (meaning_of s.cell)) kind.IteratorOutside own) in
    let parts = judged_none (place_faults n s.cell) _ cell.1 in
    let rank = told_none (place s.cell) (own_rank s.cell) parts.1 in
    let b = is_narrow_cell s.cell in
    let assign = told_none s.assign_at (own_assign b s.assign s.value) outer.1 in
    let few = short_list 16 (units.reads_of s) (limit_none (slice_get (units.reads_of s) 16) limits.0) in
    record {
      statement = record {
        place = laws.cell ranks n s.cell in_cell array (ap first parts.0) rank;
        right = stored_right laws ranks n b s.assign s.value in_value sides.1 assign;
        few_reads = stored_reads laws n (access n s.cell) b s.assign s.value (place s.cell) 16 (omega arith) sides.1
            assign few;
      };
      width = subst (λ (x : Bool). HasWidth narrow x (right_of n b s.assign s.value))
          (sym (known_width narrow (meaning_of s.cell) array known))
          (stored_width narrow n b s.assign s.value (laws.types narrow n s.value widths (ap first sides.1)) assign);
      few_comparisons = at_most (place s.cell) 16 comparisons kind.Depth numbers.0;
      few_before = fewer (place s.cell) 32 before kind.Statements numbers.1;
    }
