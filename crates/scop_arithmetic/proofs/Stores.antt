-- What a statement without faults stores, and where.
use Rattle.scop_syntax.proofs.Common.{◌≡◌, ℕ, ◌*◌, ◌/◌, ◌%◌, ◌^◌, ◌≤◌, ◌<◌, Bool, true, false, ℤ, List, [], ◌∷◌, ◌++◌}
use Rattle.scop_syntax.proofs.Common.{length, map, ap, ap₂, sym, ◌∙◌, refl, arith, None, not, mod-mod, mod-eq_of_lt}
use Rattle.scop_syntax.proofs.Common.{Operator, plus, minus, times, bits_and, bits_or, bits_xor, Expression, implied}
use Rattle.scop_syntax.proofs.Common.{converted, assigned, Cell, cell_of, reads_with, applied, applied_narrow, value_on}
use Rattle.scop_syntax.proofs.Common.{stored_by, applied_kept}
use Rattle.scop_expressions.specs.Assign.{Assign}
use Rattle.scop_expressions.specs.Assign.TheVariants as assigns
use Rattle.scop_roles.specs.declared.kinds.Kind.TheVariants as kind
use Rattle.scop_roles.specs.declared.formula.Role.TheVariants as role
use Rattle.scop_roles.specs.Faults.{first, told, faults, place_faults, is_count, last_count, only_where}
use Rattle.scop_roles.specs.Forms.{is_signed, is_narrow}
use Rattle.scop_roles.specs.Formula.{Formula, place, meaning_of}
use Rattle.scop_roles.specs.Scope.{IsArray, IsInScope}
use Rattle.scop_roles.specs.Values.{access, expression, count, narrowed_where}
use Rattle.scop_roles.proofs.Affines.{narrowed_reads}
use Rattle.scop_units.specs.Units.{is_array, Stored, own_cell, cell_faults, is_narrow_cell, own_assign, stored_faults}
use Rattle.scop_units.specs.Units.{combined_as, moved_left_as, right_of, statement_of}
use Rattle.scop_units.proofs.FaultlessUnits.{parts_none, judged_none, told_none, only_none, array_name}
use Rattle.scop_units.proofs.FaultlessUnits.{combined_reads, moved_reads}
use Rattle.scop_arithmetic.specs.Arithmetic.{narrow, common, cell_class, class, bits, kept, joined}
use Rattle.scop_arithmetic.specs.Arithmetic.{cell, word, HoldTypes, cells_in, cells_read, HasNoComma}
use Rattle.scop_arithmetic.specs.Arithmetic.{stored}
use Rattle.scop_arithmetic.proofs.Classes.{type_by, IsTyped, cell_type, class_same}
use Rattle.scop_arithmetic.proofs.NarrowValues.{joined_below, word_below}
use Rattle.scop_arithmetic.proofs.Words.{count_word, word_read}
use Rattle.scop_arithmetic.proofs.Places.{cells_of, cell_same, count_reads, reads_same}

-- a place and a value without faults, and an operator that may stand between them
pub record IsStored (n : ℕ) (s : Stored) : Type 0 where
  pub place : first (place_faults n s.cell) ≡ None
  pub value : first (faults n role.Value s.value) ≡ None
  pub own : own_assign (is_narrow_cell s.cell) s.assign s.value ≡ None
  pub array : IsArray s.cell

pub stored_parts : (n : ℕ) (s : Stored) → stored_faults n s ≡ [] → IsStored n s
stored_parts n s e =
    let outer = judged_none (cell_faults n s.cell ++ faults n role.Value s.value) _ e in
    let sides = parts_none (cell_faults n s.cell) _ outer.0 in
    let cell = parts_none (told (place s.cell) (own_cell s.cell)) _ sides.0 in
    let parts = judged_none (place_faults n s.cell) _ cell.1 in
    let own = told_none (place s.cell) (own_cell s.cell) cell.0 in
    record {
      place = ap first parts.0;
      value = ap first sides.1;
      own = told_none s.assign_at (own_assign (is_narrow_cell s.cell) s.assign s.value) outer.1;
      array = array_name (meaning_of s.cell) (only_none (is_array (meaning_of s.cell)) kind.IteratorOutside own);
    }

pub place_same : (n : ℕ) (s : Stored) (p : List ℤ) → length p ≡ n → stored_faults n s ≡ []
    → cell_of (statement_of n s).place p ≡ cell p s.cell
place_same n s p long e = cell_same n s.cell p long (stored_parts n s e).place

-- what compound operators store of 32 bits, where the value is worth w; s, t: it is signed, and unsigned with 32 bits
kept_narrow : (k : Operator) (v w : ℕ) → w < 2 ^ 64 → applied k v w % 2 ^ 32 ≡ joined narrow k v w % 2 ^ 32
kept_narrow k v w h = applied_kept k v w h ∙ sym (mod-eq_of_lt (joined_below k v w))

narrow_stored : (k : Operator) (s t : Bool) (e : Expression) (p : List ℤ) (vs : List ℕ) (v w : ℕ) → value_on e p vs ≡ w
    → (s ≡ false → t ≡ true → w < 2 ^ 32)
    → applied k v (value_on (narrowed_where s converted e) p vs) % 2 ^ 32
    ≡ joined (common narrow (type_by s t)) k v w % 2 ^ 32
narrow_stored k true t e p vs v w x small =
    ap (λ (u : ℕ). applied k v (u % 2 ^ 32) % 2 ^ 32) x ∙ (kept_narrow k v (w % 2 ^ 32) (omega arith)
    ∙ ap (λ (u : ℕ). applied_narrow k (v % 2 ^ 32) u % 2 ^ 32) (mod-mod w (2 ^ 32)))
narrow_stored k false true e p vs v w x small =
    let h = small refl refl in ap (λ (u : ℕ). applied k v u % 2 ^ 32) x ∙ kept_narrow k v w (omega arith)
narrow_stored k false false e p vs v w x small = ap (λ (u : ℕ). applied k v u % 2 ^ 32) x

-- the operators, where the cell and the value are known; b: the cell has 32 bits
combined_stored : (k : Operator) (n : ℕ) (b : Bool) (f : Formula) (p : List ℤ) (vs : List ℕ) (v w : ℕ)
    → IsTyped f → (class f ≡ narrow → w < 2 ^ 32) → value_on (expression n f) p vs ≡ w
    → stored_by (combined_as b k n f) p (v ∷ vs)
    ≡ kept (type_by false b) (joined (common (type_by false b) (class f)) k v w)
combined_stored k n true f p vs v w same small x =
    rw same (narrow_stored k (is_signed f) (is_narrow f) (expression n f) p vs v w x
    (λ s t. small (same ∙ ap₂ type_by s t)))
combined_stored k n false f p vs v w same small x = ap (applied k v) x

set_stored : (n : ℕ) (b : Bool) (f : Formula) (p : List ℤ) (vs : List ℕ) (w : ℕ) → value_on (expression n f) p vs ≡ w
    → stored_by (assigned (narrowed_where b implied (expression n f))) p vs ≡ kept (type_by false b) w
set_stored n true f p vs w x = ap (λ (u : ℕ). u % 2 ^ 32) x
set_stored n false f p vs w x = x

moved_stored : (b : Bool) (p : List ℤ) (v k w : ℕ) (vs : List ℕ) → w ≡ k
    → stored_by (moved_left_as b k) p (v ∷ vs) ≡ (v * 2 ^ w) % 2 ^ bits (type_by false b)
moved_stored true p v k w vs e = rw e refl
moved_stored false p v k w vs e = rw e refl

last_small : (b : Bool) → last_count b ≤ 63
last_small true = omega arith
last_small false = omega arith

by_operator : (n : ℕ) (b : Bool) (a : Assign) (c f : Formula) (p : List ℤ) (held : Cell → ℕ) → IsTyped f
    → (class f ≡ narrow → word held p f < 2 ^ 32)
    → value_on (expression n f) p (map held (cells_in p f)) ≡ word held p f → own_assign b a f ≡ None
    → stored_by (right_of n b a f) p (map held (cells_read a (cell p c) (cells_in p f)))
    ≡ stored (type_by false b) (class f) a (held (cell p c)) (word held p f)
by_operator n b assigns.Set c f p held same small x own = set_stored n b f p _ _ x
by_operator n b assigns.Plus c f p held same small x own = combined_stored plus n b f p _ _ _ same small x
by_operator n b assigns.Minus c f p held same small x own = combined_stored minus n b f p _ _ _ same small x
by_operator n b assigns.Times c f p held same small x own = combined_stored times n b f p _ _ _ same small x
by_operator n b assigns.And c f p held same small x own = combined_stored bits_and n b f p _ _ _ same small x
by_operator n b assigns.Or c f p held same small x own = combined_stored bits_or n b f p _ _ _ same small x
by_operator n b assigns.Xor c f p held same small x own = combined_stored bits_xor n b f p _ _ _ same small x
by_operator n b assigns.ShiftLeft c f p held same small x own =
    moved_stored b p (held (cell p c)) (count f) (word held p f) _
    (count_word held p (last_count b) f (last_small b) (only_none (is_count 0 (last_count b) f) kind.ShiftCount own))
by_operator n b assigns.ShiftRight c f p held same small x own =
    ap (λ (k : ℕ). held (cell p c) / 2 ^ k) (sym (count_word held p (last_count b) f (last_small b)
    (only_none (is_count 0 (last_count b) f) kind.ShiftCount own)))
by_operator n b assigns.Divide c f p held same small x own = absurd (cc)
by_operator n b assigns.Remainder c f p held same small x own = absurd (cc)

pub right_stores : (ranks : List ℕ) (n : ℕ) (s : Stored) (p : List ℤ) (held : Cell → ℕ) → length p ≡ n
    → IsInScope ranks s.value → HasNoComma s.value → stored_faults n s ≡ [] → HoldTypes held p s.value
    → stored_by (statement_of n s).right p (map held (cells_read s.assign (cell p s.cell) (cells_in p s.value)))
    ≡ stored (cell_class s.cell) (class s.value) s.assign (held (cell p s.cell)) (word held p s.value)
right_stores ranks n s p held long scope plain e types =
    let is = stored_parts n s e in
    rw (cell_type s.cell) (by_operator n (is_narrow_cell s.cell) s.assign s.cell s.value p held
    (class_same n s.value plain is.value) (word_below held p s.value types)
    (word_read ranks n s.value p held long scope plain is.value types) is.own)

-- what is read: the place first
place_first : (n : ℕ) (b : Bool) (k : Operator) (c f : Formula) (p : List ℤ) → length p ≡ n
    → cell_of (access n c) p ≡ cell p c → first (faults n role.Value f) ≡ None
    → cells_of p (reads_with (access n c) (combined_as b k n f)) ≡ cell p c ∷ cells_in p f
place_first n b k c f p long at h =
    ap (cells_of p) (combined_reads (access n c) n b k f)
    ∙ ap₂ (λ (x : Cell) (xs : List Cell). x ∷ xs) at (reads_same n f p long h)

place_alone : (n : ℕ) (b : Bool) (c f : Formula) (p : List ℤ) → cell_of (access n c) p ≡ cell p c
    → only_where (not (is_count 0 (last_count b) f)) kind.ShiftCount ≡ None
    → cell_of (access n c) p ∷ [] ≡ cell p c ∷ cells_in p f
place_alone n b c f p at own =
    ap₂ (λ (x : Cell) (xs : List Cell). x ∷ xs) at
    (sym (count_reads f (last_count b) p (only_none (is_count 0 (last_count b) f) kind.ShiftCount own)))

reads_by : (n : ℕ) (b : Bool) (a : Assign) (c f : Formula) (p : List ℤ) → length p ≡ n
    → cell_of (access n c) p ≡ cell p c → first (faults n role.Value f) ≡ None → own_assign b a f ≡ None
    → cells_of p (reads_with (access n c) (right_of n b a f)) ≡ cells_read a (cell p c) (cells_in p f)
reads_by n b assigns.Set c f p long at h own =
    ap (cells_of p) (narrowed_reads b implied (expression n f)) ∙ reads_same n f p long h
reads_by n b assigns.Plus c f p long at h own = place_first n b plus c f p long at h
reads_by n b assigns.Minus c f p long at h own = place_first n b minus c f p long at h
reads_by n b assigns.Times c f p long at h own = place_first n b times c f p long at h
reads_by n b assigns.And c f p long at h own = place_first n b bits_and c f p long at h
reads_by n b assigns.Or c f p long at h own = place_first n b bits_or c f p long at h
reads_by n b assigns.Xor c f p long at h own = place_first n b bits_xor c f p long at h
reads_by n b assigns.ShiftLeft c f p long at h own =
    ap (cells_of p) (moved_reads (access n c) b (count f)) ∙ place_alone n b c f p at own
reads_by n b assigns.ShiftRight c f p long at h own = place_alone n b c f p at own
reads_by n b assigns.Divide c f p long at h own = absurd (cc)
reads_by n b assigns.Remainder c f p long at h own = absurd (cc)

pub statement_reads : (n : ℕ) (s : Stored) (p : List ℤ) → length p ≡ n → stored_faults n s ≡ []
    → cells_of p (reads_with (statement_of n s).place (statement_of n s).right)
    ≡ cells_read s.assign (cell p s.cell) (cells_in p s.value)
statement_reads n s p long e =
    let is = stored_parts n s e in
    reads_by n (is_narrow_cell s.cell) s.assign s.cell s.value p long (place_same n s p long e) is.value is.own
