-- The first fault of a unit by those of its parts, and what is clean where a unit is.
use Rattle.scop_syntax.proofs.Common.{◌≡◌, ℕ, suc, ◌+◌, ◌<◌, ◌≤◌, Bool, true, false, ℤ, List, [], ◌∷◌, ◌++◌, length}
use Rattle.scop_syntax.proofs.Common.{map, get_or, drop, refl, sym, ap, ◌∙◌, append_assoc, add-one, drop-cons, Option}
use Rattle.scop_syntax.proofs.Common.{Some, None, not, nat_le, nat_lt, slice_get, is_some, Affine}
use Rattle.scop_expressions.specs.Assign.{Assign}
use Rattle.scop_expressions.specs.Assign.TheVariants as assigns
use Rattle.scop_roles.specs.declared.kinds.Fault.{Fault}
use Rattle.scop_roles.specs.declared.kinds.Kind.{Kind}
use Rattle.scop_roles.specs.declared.kinds.Kind.TheVariants as kind
use Rattle.scop_roles.specs.declared.formula.Role.TheVariants as role
use Rattle.scop_roles.specs.Forms.{form}
use Rattle.scop_roles.specs.Values.{count}
use Rattle.scop_roles.specs.declared.formula.Formula.{Formula as CodeFormula}
use Rattle.scop_roles.specs.Formula.{Formula, place, formula_of}
use Rattle.scop_roles.specs.Faults.{first, first_of, told, judged, faults, place_faults, own_rank, only_where}
use Rattle.scop_roles.proofs.Firsts.{first-append, first_of-assoc, first_of_none, some_first}
use Rattle.scop_units.specs.Words.{Words}
use Rattle.scop_units.specs.Scopes.{Scope, entries, iterator_fault}
use Rattle.scop_units.specs.Loops.{LoopHead, rises, goes, is_form, change_faults, part_faults, loop_faults}
use Rattle.scop_units.specs.Units.{Stored, or_fault, own_cell, cell_faults, is_narrow_cell, own_assign, reads_of}
use Rattle.scop_units.specs.Units.{read_limit, name_faults, number_faults, extent_faults, array_faults, stored_faults}
use Rattle.scop_units.specs.Units.{statement_faults}
use Rattle.scop_units.proofs.FaultlessUnits.{any_count}

next_item : (i : ℕ) (xs : List CodeFormula) (x : CodeFormula) → i < length xs → x ≡ get_or xs i x
    → drop i xs ≡ x ∷ drop (i + 1) xs
next_item i xs x h item =
    drop-cons xs i x h
    ∙ (ap (λ (y : CodeFormula). y ∷ drop (suc i) xs) (sym item)
    ∙ ap (λ (k : ℕ). x ∷ drop k xs) (sym (add-one i)))

pub judged_first : (fs own : List Fault) → first (judged fs own) ≡ or_fault (first fs) (first own)
judged_first [] own = refl
judged_first (f ∷ fs) own = let s = some_first f (first fs) in rw s.1 refl

pub or_none : (f own : Option Fault) → or_fault f own ≡ None → (f ≡ None) × (own ≡ None)
or_none None own e = (refl, e)
or_none (Some f) own e = absurd (cc)

-- the first of three lists and of four
three : (fs gs hs : List Fault) → first (fs ++ (gs ++ hs)) ≡ first_of (first fs) (first_of (first gs) (first hs))
three fs gs hs = first-append fs (gs ++ hs) ∙ ap (first_of (first fs)) (first-append gs hs)

four : (fs gs hs is : List Fault)
    → first (fs ++ (gs ++ (hs ++ is))) ≡ first_of (first fs) (first_of (first gs) (first_of (first hs) (first is)))
four fs gs hs is = first-append fs (gs ++ (hs ++ is)) ∙ ap (first_of (first fs)) (three gs hs is)

pub number_parts : (words : Words) (s : Scope) (at : ℕ) → first (number_faults words s at)
    ≡ first_of (first (name_faults words s at))
    (first (told at (only_where (nat_le 4 (length s.parameters)) kind.Parameters)))
number_parts words s at =
    first-append (name_faults words s at) (told at (only_where (nat_le 4 (length s.parameters)) kind.Parameters))

pub extent_parts : (n : ℕ) (f : Formula) (fs : List Formula) → first (extent_faults n (f ∷ fs))
    ≡ first_of (first (faults n role.Affine f)) (first (extent_faults n fs))
extent_parts n f fs = first-append (faults n role.Affine f) (extent_faults n fs)

pub array_parts : (words : Words) (s : Scope) (at : ℕ) (fs : List Formula) → first (array_faults words s at fs)
    ≡ first_of (first (name_faults words s at))
    (first_of (first (told at (only_where (nat_lt 4 (length fs)) kind.Rank)))
    (first_of (first (told at (only_where (nat_le 16 (length s.arrays)) kind.Arrays)))
    (first (extent_faults (entries s) fs))))
array_parts words s at fs =
    four (name_faults words s at) (told at (only_where (nat_lt 4 (length fs)) kind.Rank))
    (told at (only_where (nat_le 16 (length s.arrays)) kind.Arrays)) (extent_faults (entries s) fs)

cell_parts : (n : ℕ) (f : Formula) → first (cell_faults n f)
    ≡ first_of (first (told (place f) (own_cell f)))
    (or_fault (first (place_faults n f)) (first (told (place f) (own_rank f))))
cell_parts n f =
    let rank = told (place f) (own_rank f) in
    first-append (told (place f) (own_cell f)) (judged (place_faults n f) rank)
    ∙ ap (first_of (first (told (place f) (own_cell f)))) (judged_first (place_faults n f) rank)

pub stored_parts : (n : ℕ) (s : Stored) → first (stored_faults n s)
    ≡ or_fault (first_of (first (cell_faults n s.cell)) (first (faults n role.Value s.value)))
    (first (told s.assign_at (own_assign (is_narrow_cell s.cell) s.assign s.value)))
stored_parts n s =
    let own = told s.assign_at (own_assign (is_narrow_cell s.cell) s.assign s.value) in
    judged_first (cell_faults n s.cell ++ faults n role.Value s.value) own
    ∙ ap (λ (f : Option Fault). or_fault f (first own))
    (first-append (cell_faults n s.cell) (faults n role.Value s.value))

pub statement_parts : (n comparisons before : ℕ) (s : Stored) → first (statement_faults n comparisons before s)
    ≡ first_of (first (stored_faults n s)) (first_of (first (read_limit (slice_get (reads_of s) 16)))
    (first_of (first (told (place s.cell) (only_where (nat_lt 16 comparisons) kind.Depth)))
    (first (told (place s.cell) (only_where (nat_le 32 before) kind.Statements)))))
statement_parts n comparisons before s =
    four (stored_faults n s) (read_limit (slice_get (reads_of s) 16))
    (told (place s.cell) (only_where (nat_lt 16 comparisons) kind.Depth))
    (told (place s.cell) (only_where (nat_le 32 before) kind.Statements))

stored_clean : (n : ℕ) (s : Stored) → first (stored_faults n s) ≡ None
    → (first (place_faults n s.cell) ≡ None) × (first (faults n role.Value s.value) ≡ None)
    × (first (told s.assign_at (own_assign (is_narrow_cell s.cell) s.assign s.value)) ≡ None)
stored_clean n s e =
    let outer = or_none _ _ (sym (stored_parts n s) ∙ e) in
    let sides = first_of_none _ _ outer.0 in
    let cell = first_of_none _ _ (sym (cell_parts n s.cell) ∙ sides.0) in
    ((or_none _ _ cell.1).0, sides.1, outer.1)

pub cell_clean : (n : ℕ) (s : Stored) → first (stored_faults n s) ≡ None → first (place_faults n s.cell) ≡ None
cell_clean n s e = (stored_clean n s e).0

pub value_clean : (n : ℕ) (s : Stored) → first (stored_faults n s) ≡ None → first (faults n role.Value s.value) ≡ None
value_clean n s e = (stored_clean n s e).1

told_clean : (at : ℕ) (k : Option Kind) → first (told at k) ≡ None → k ≡ None
told_clean at None e = refl
told_clean at (Some k) e = absurd (cc)

own_clean : (n : ℕ) (s : Stored) (a : Assign) → first (stored_faults n s) ≡ None → s.assign ≡ a
    → own_assign (is_narrow_cell s.cell) a s.value ≡ None
own_clean n s a e is =
    told_clean s.assign_at (own_assign (is_narrow_cell s.cell) a s.value)
    (ap (λ x. first (told s.assign_at (own_assign (is_narrow_cell s.cell) x s.value))) (sym is)
    ∙ (stored_clean n s e).2)

pub count_clean_left : (n : ℕ) (s : Stored) → first (stored_faults n s) ≡ None → s.assign ≡ assigns.ShiftLeft
    → count s.value ≤ 63
count_clean_left n s e is = any_count (is_narrow_cell s.cell) s.value (own_clean n s assigns.ShiftLeft e is)

pub count_clean_right : (n : ℕ) (s : Stored) → first (stored_faults n s) ≡ None → s.assign ≡ assigns.ShiftRight
    → count s.value ≤ 63
count_clean_right n s e is = any_count (is_narrow_cell s.cell) s.value (own_clean n s assigns.ShiftRight e is)

is_formed : (b : Bool) (at : ℕ) → first (told at (only_where (not b) kind.LoopForm)) ≡ None → b ≡ true
is_formed true at e = refl
is_formed false at e = absurd (cc)

pub part_parts : (s : Scope) (h : LoopHead) → first (part_faults s h)
    ≡ first_of (first (told h.name_at (iterator_fault h.new s h.iterator)))
    (first_of (first (faults (entries s) role.Affine h.first))
    (first_of (first (faults (entries s + 1) role.Loose h.second))
    (first_of (first (faults (entries s + 1) role.Free h.changed))
    (first (change_faults (entries s + 1) h.change)))))
part_parts s h =
    let fs = told h.name_at (iterator_fault h.new s h.iterator) in
    let gs = faults (entries s) role.Affine h.first in
    let hs = faults (entries s + 1) role.Loose h.second in
    let is = faults (entries s + 1) role.Free h.changed in
    let js = change_faults (entries s + 1) h.change in
    first-append fs (gs ++ (hs ++ (is ++ js))) ∙ ap (first_of (first fs)) (four gs hs is js)

pub loop_parts : (s : Scope) (h : LoopHead) → first (loop_faults s h)
    ≡ first_of (or_fault (first (part_faults s h))
    (first (told h.place (only_where (not (is_form (entries s) h)) kind.LoopForm))))
    (first (told h.place (only_where (nat_le 5 (length s.open_loops)) kind.Depth)))
loop_parts s h =
    let own = told h.place (only_where (not (is_form (entries s) h)) kind.LoopForm) in
    let deep = told h.place (only_where (nat_le 5 (length s.open_loops)) kind.Depth) in
    first-append (judged (part_faults s h) own) deep
    ∙ ap (λ (f : Option Fault). first_of f (first deep)) (judged_first (part_faults s h) own)

-- a loop over extents: the next one judged
pub extents_step : (n i : ℕ) (xs : List CodeFormula) (x : CodeFormula) (so total fault : Option Fault) → i < length xs
    → x ≡ get_or xs i x → fault ≡ first (faults n role.Affine (formula_of x))
    → first_of so (first (extent_faults n (map formula_of (drop i xs)))) ≡ total
    → first_of (first_of so fault) (first (extent_faults n (map formula_of (drop (i + 1) xs)))) ≡ total
extents_step n i xs x so total fault h item f e =
    let rest = first (extent_faults n (map formula_of (drop (i + 1) xs))) in
    let next = next_item i xs x h item in
    let all : first (extent_faults n (map formula_of (drop i xs))) ≡ first_of fault rest =
    ap (λ (ys : List CodeFormula). first (extent_faults n (map formula_of ys))) next
    ∙ (extent_parts n (formula_of x) (map formula_of (drop (i + 1) xs))
    ∙ ap (λ (g : Option Fault). first_of g rest) (sym f)) in
    first_of-assoc so fault rest ∙ (ap (first_of so) (sym all) ∙ e)

-- the parts of extents without faults have none
pub extents_clean : (n i : ℕ) (xs : List CodeFormula) (x : CodeFormula) → i < length xs → x ≡ get_or xs i x
    → first (extent_faults n (map formula_of (drop i xs))) ≡ None
    → (first (faults n role.Affine (formula_of x)) ≡ None)
    × (first (extent_faults n (map formula_of (drop (i + 1) xs))) ≡ None)
extents_clean n i xs x h item e =
    first_of_none _ _
    (sym (extent_parts n (formula_of x) (map formula_of (drop (i + 1) xs)))
    ∙ (sym (ap (λ (ys : List CodeFormula). first (extent_faults n (map formula_of ys))) (next_item i xs x h item)) ∙ e))

-- a loop over extents: the next form
pub forms_step : (n i : ℕ) (xs : List CodeFormula) (x : CodeFormula) (fs total : List Affine) (f : Affine)
    → i < length xs → x ≡ get_or xs i x → f ≡ form n (formula_of x)
    → fs ++ map (form n) (map formula_of (drop i xs)) ≡ total
    → (fs ++ f ∷ []) ++ map (form n) (map formula_of (drop (i + 1) xs)) ≡ total
forms_step n i xs x fs total f h item g e =
    let rest = map (form n) (map formula_of (drop (i + 1) xs)) in
    append_assoc fs (f ∷ []) rest
    ∙ (ap (λ (a : Affine). fs ++ a ∷ rest) g
    ∙ (ap (λ (ys : List CodeFormula). fs ++ map (form n) (map formula_of ys)) (sym (next_item i xs x h item)) ∙ e))

goes_some : (o : Option Bool) (p : Option ℤ) → goes o p ≡ true → is_some o ≡ true
goes_some (Some b) p e = refl
goes_some None p e = absurd (cc)

-- what is clean where a loop's head is
pub loop_clean : (s : Scope) (h : LoopHead) → first (loop_faults s h) ≡ None
    → (first (faults (entries s) role.Affine h.first) ≡ None)
    × (first (faults (entries s + 1) role.Loose h.second) ≡ None) × (is_some (rises (entries s) h.second) ≡ true)
loop_clean s h e =
    let outer = first_of_none _ _ (sym (loop_parts s h) ∙ e) in
    let judged_ = or_none _ _ outer.0 in
    let parts = first_of_none _ _ (sym (part_parts s h) ∙ judged_.0) in
    let inner = first_of_none _ _ parts.1 in
    let deeper = first_of_none _ _ inner.1 in
    (inner.0, deeper.0, goes_some _ _ (is_formed (is_form (entries s) h) h.place judged_.1))

-- a unit's first fault by the results of the calls that judge its parts

pub number_by : (words : Words) (s : Scope) (at size : ℕ) (name many all : Option Fault)
    → name ≡ first (name_faults words s at) → size ≡ length s.parameters
    → many ≡ first (told at (only_where (nat_le 4 size) kind.Parameters)) → all ≡ first_of name many
    → all ≡ first (number_faults words s at)
number_by words s at size name many all e f g h = rw (h, g, f, e) (sym (number_parts words s at))

pub array_by : (words : Words) (s : Scope) (at : ℕ) (fs : List Formula) (size count n : ℕ)
    (name rank many extent inner outer all : Option Fault) → size ≡ length fs
    → rank ≡ first (told at (only_where (nat_lt 4 size) kind.Rank)) → count ≡ length s.arrays
    → many ≡ first (told at (only_where (nat_le 16 count) kind.Arrays)) → n ≡ entries s
    → extent ≡ first (extent_faults n fs) → name ≡ first (name_faults words s at) → inner ≡ first_of many extent
    → outer ≡ first_of rank inner → all ≡ first_of name outer → all ≡ first (array_faults words s at fs)
array_by words s at fs size count n name rank many extent inner outer all e f g h i j k l m o =
    rw (o, m, l, f, e, h, g, j, i, k) (sym (array_parts words s at fs))

pub cell_by : (n : ℕ) (f : Formula) (p : ℕ) (o r : Option Kind) (parts rank name node all : Option Fault)
    → p ≡ place f → parts ≡ first (place_faults n f) → r ≡ own_rank f → rank ≡ first (told p r)
    → o ≡ own_cell f → name ≡ first (told p o) → node ≡ or_fault parts rank → all ≡ first_of name node
    → all ≡ first (cell_faults n f)
cell_by n f p o r parts rank name node all e g h i j k l m = rw (m, l, k, j, i, h, g, e) (sym (cell_parts n f))

pub stored_by : (n : ℕ) (s : Stored) (b : Bool) (oa : Option Kind) (cell value own sides all : Option Fault)
    → cell ≡ first (cell_faults n s.cell) → value ≡ first (faults n role.Value s.value)
    → b ≡ is_narrow_cell s.cell → oa ≡ own_assign b s.assign s.value → own ≡ first (told s.assign_at oa)
    → sides ≡ first_of cell value → all ≡ or_fault sides own → all ≡ first (stored_faults n s)
stored_by n s b oa cell value own sides all e f k g h i j = rw (j, i, h, g, k, e, f) (sym (stored_parts n s))

pub statement_by : (n comparisons before : ℕ) (s : Stored) (p : ℕ)
    (parts reads deep many inner outer all : Option Fault)
    → p ≡ place s.cell → parts ≡ first (stored_faults n s)
    → reads ≡ first (read_limit (slice_get (reads_of s) 16))
    → deep ≡ first (told p (only_where (nat_lt 16 comparisons) kind.Depth))
    → many ≡ first (told p (only_where (nat_le 32 before) kind.Statements)) → inner ≡ first_of deep many
    → outer ≡ first_of reads inner → all ≡ first_of parts outer → all ≡ first (statement_faults n comparisons before s)
statement_by n comparisons before s p parts reads deep many inner outer all e f g h i j k l =
    rw (l, k, j, f, g, h, i, e) (sym (statement_parts n comparisons before s))

pub part_by : (s : Scope) (h : LoopHead) (n : ℕ) (k : Option Kind) (name so inner outer all : Option Fault)
    → n ≡ entries s → k ≡ iterator_fault h.new s h.iterator → name ≡ first (told h.name_at k)
    → so ≡ first (faults n role.Affine h.first)
    → inner ≡ first_of (first (faults (n + 1) role.Loose h.second))
    (first_of (first (faults (n + 1) role.Free h.changed))
    (first (change_faults (n + 1) h.change)))
    → outer ≡ first_of so inner → all ≡ first_of name outer → all ≡ first (part_faults s h)
part_by s h n k name so inner outer all e f g i j l m = rw (m, l, g, f, i, j, e) (sym (part_parts s h))

pub loop_by : (s : Scope) (h : LoopHead) (n size : ℕ) (b : Bool) (part own deep node all : Option Fault)
    → part ≡ first (part_faults s h) → n ≡ entries s → b ≡ is_form n h
    → own ≡ first (told h.place (only_where (not b) kind.LoopForm)) → size ≡ length s.open_loops
    → deep ≡ first (told h.place (only_where (nat_le 5 size) kind.Depth)) → node ≡ or_fault part own
    → all ≡ first_of node deep → all ≡ first (loop_faults s h)
loop_by s h n size b part own deep node all e f g i j k l m = rw (m, l, i, g, f, k, j, e) (sym (loop_parts s h))
