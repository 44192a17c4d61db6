-- An assignment of the program does what the source's statement does, and leaves numbers of the cells' types.
use Rattle.scop_syntax.proofs.Common.{◌≡◌, ◌∙◌, ap, sym, subst, refl, ℕ, zero, suc, ◌*◌, ◌/◌, ◌%◌, ◌^◌, ◌<◌, ◌≤◌, Bool}
use Rattle.scop_syntax.proofs.Common.{true, false, ◌&&◌, if◌then◌else◌, ℤ, List, [], ◌∷◌, length, map, drop, arith}
use Rattle.scop_syntax.proofs.Common.{Option, Some, None, inl, inr, nat_lt, slice_index_or, get_or, set, Access}
use Rattle.scop_syntax.proofs.Common.{Operator, Expression, Statement, Right, assigned, combined, moved_left}
use Rattle.scop_syntax.proofs.Common.{moved_right, combined_narrow, moved_left_narrow, implied, converted, narrowed}
use Rattle.scop_syntax.proofs.Common.{cell_of, reads_of, reads_with, accesses, held, offset_of, append-nil, IsStatement}
use Rattle.scop_syntax.proofs.Common.{IsRight, IsExpression, HasWidth, mod_below, div-le_self}
use Rattle.scop_syntax.specs.Tree.{explicit, Narrowing}
use Rattle.scop_syntax.specs.Execution.{performed_by, stored, value_stored_by}
use Rattle.scop_syntax.specs.Widths as widths
use Rattle.form_text.specs.Reading.{when}
use Rattle.c_printer.specs.Values as printed
use Rattle.c_printer.proofs.PrintedValues.{typed_stores}
use Rattle.c_meaning.specs.Assignments.{has_narrow, is_narrow, number_of, found, assigned_number}
use Rattle.c_meaning.specs.Assignments as c
use Rattle.c_meaning.specs.Syntax as syntax
use Rattle.c_meaning.specs.Programs.{right_in, assignment_in}
use Rattle.c_meaning.specs.Narrow.{SubscriptsFit, RightFits, ValueFits}
use Rattle.c_meaning.proofs.ValueWorths.{Spot, IsSpot, point_at, source_at, place_at, value_at, held_at, AreInside, one}
use Rattle.c_meaning.proofs.ValueWorths.{counted, type_is, value_is, found_is, Has}

abbrev right_at : Spot → Right → syntax.Right
right_at s right = right_in (length s.params) (length s.outer) s.names right

-- a value of a statement, alone
alone : (s : Spot) (e : Expression) → Has s e []
    → number_of s.arrays s.contents (point_at s) (value_at s e)
    ≡ Some (printed.worth s.arrays.narrow e (source_at s) (map (held_at s) (reads_of e)))
alone s e h =
    h ∙ ap (λ (vs : List ℕ). Some (printed.worth s.arrays.narrow e (source_at s) vs))
    (append-nil (map (held_at s) (reads_of e)))

-- what `=` assigns to a cell of 32 bits is kept to them by the tree
kept_is : (s : Spot) (ranks : List ℕ) (m : ℕ) (w : Narrowing) (e : Expression) → IsSpot s m
    → widths.IsTyped s.arrays.narrow e → IsExpression ranks m (narrowed w e) → ValueFits s.params s.outer s.given e
    → AreInside s (reads_of e) → Has s (narrowed w e) []
kept_is s ranks m implied e at type is fit inside = value_is s ranks m false e [] at type is.1 fit inside
kept_is s ranks m explicit e at type is fit inside =
    value_is s ranks m false (narrowed explicit e) [] at type is fit inside
kept_is s ranks m converted e at type is fit inside =
    value_is s ranks m false (narrowed converted e) [] at type is fit inside

drop_one : (x : ℕ) (xs : List ℕ) → drop 1 (x ∷ xs) ≡ xs
drop_one x [] = refl
drop_one x (y ∷ xs) = refl

-- what an operator makes of a cell and a value
made_is : (s : Spot) (place : Access) (b : Bool) (op : Operator) (e : Expression)
    → has_narrow s.arrays place.array ≡ b → Has s e []
    → assigned_number s.arrays s.contents (point_at s) (cell_of place (source_at s)) (right_at s (combined op e))
    ≡ Some (printed.stores s.arrays.narrow b (combined op e) (source_at s)
    (map (held_at s) (reads_with place (combined op e))))
made_is s place b op e type h =
    let t = widths.is_narrow s.arrays.narrow e in
    let x = held_at s place in
    let vs = map (held_at s) (reads_of e) in
    let w = printed.worth s.arrays.narrow e (source_at s) vs in
    one (number_of s.arrays s.contents (point_at s) (value_at s e)) w
    (λ y. Some (printed.made (has_narrow s.arrays place.array && is_narrow s.arrays (value_at s e)) op x y
    % printed.modulus (has_narrow s.arrays place.array))) _ (alone s e h)
    (ap (λ (u : Bool). Some (printed.made (has_narrow s.arrays place.array && u) op x w
    % printed.modulus (has_narrow s.arrays place.array))) (type_is s e)
    ∙ (ap (λ (u : Bool). Some (printed.made (u && t) op x w % printed.modulus u)) type
    ∙ ap (λ (us : List ℕ). Some (printed.made (b && t) op x (printed.worth s.arrays.narrow e (source_at s) us)
    % printed.modulus b)) (sym (drop_one x vs))))

number_is : (s : Spot) (ranks : List ℕ) (m : ℕ) (place : Access) (b : Bool) (right : Right) → IsSpot s m
    → has_narrow s.arrays place.array ≡ b → HasWidth s.arrays.narrow b right → IsRight ranks m right
    → RightFits s.params s.outer s.given right → AreInside s (reads_with place right)
    → assigned_number s.arrays s.contents (point_at s) (cell_of place (source_at s)) (right_at s right)
    ≡ Some (printed.stores s.arrays.narrow b right (source_at s) (map (held_at s) (reads_with place right)))
number_is s ranks m place true (assigned (narrowed w e)) at type width is fit inside =
    one (number_of s.arrays s.contents (point_at s) (value_at s (narrowed w e))) _
    (λ a. Some (a % printed.modulus (has_narrow s.arrays place.array))) _
    (alone s (narrowed w e) (kept_is s ranks m w e at width is fit inside))
    (ap (λ (u : Bool). Some (printed.worth s.arrays.narrow (narrowed w e) (source_at s)
    (map (held_at s) (reads_of e)) % printed.modulus u)) type)
number_is s ranks m place true (combined_narrow op e) at type width is fit inside =
    made_is s place true op e type (value_is s ranks m false e [] at width is fit (λ a i. inside a (inr i)))
number_is s ranks m place true (moved_left_narrow k) at type width is fit inside =
    ap (λ (u : Bool). if nat_lt k (widths.bits u) then Some ((held_at s place * 2 ^ k) % printed.modulus u) else None)
    type ∙ (let small : k ≤ 31 = is in let l : k < 32 = omega (arith, small) in counted k true _ l)
number_is s ranks m place true (moved_right k) at type width is fit inside =
    ap (λ (u : Bool). if nat_lt k (widths.bits u) then Some (held_at s place / 2 ^ k) else None) type
    ∙ (let small : k ≤ 31 = width in let l : k < 32 = omega (arith, small) in counted k true _ l)
number_is s ranks m place true right at type width is fit inside = absurd width
number_is s ranks m place false (assigned e) at type width is fit inside =
    one (number_of s.arrays s.contents (point_at s) (value_at s e)) _
    (λ a. Some (a % printed.modulus (has_narrow s.arrays place.array))) _
    (alone s e (value_is s ranks m false e [] at width is fit inside))
    (ap (λ (u : Bool). Some (printed.worth s.arrays.narrow e (source_at s) (map (held_at s) (reads_of e))
    % printed.modulus u)) type)
number_is s ranks m place false (combined op e) at type width is fit inside =
    made_is s place false op e type (value_is s ranks m false e [] at width is fit (λ a i. inside a (inr i)))
number_is s ranks m place false (moved_left k) at type width is fit inside =
    ap (λ (u : Bool). if nat_lt k (widths.bits u) then Some ((held_at s place * 2 ^ k) % printed.modulus u) else None)
    type ∙ (let small : k ≤ 63 = is in let l : k < 64 = omega (arith, small) in counted k false _ l)
number_is s ranks m place false (moved_right k) at type width is fit inside =
    ap (λ (u : Bool). if nat_lt k (widths.bits u) then Some (held_at s place / 2 ^ k) else None) type
    ∙ (let small : k ≤ 63 = is in let l : k < 64 = omega (arith, small) in counted k false _ l)
number_is s ranks m place false right at type width is fit inside = absurd width

-- the statement as an assignment at a spot
pub assigned_is : (s : Spot) (ranks : List ℕ) (m : ℕ) (body : Statement) → IsSpot s m → IsStatement ranks m body
    → HasWidth s.arrays.narrow (has_narrow s.arrays body.place.array) body.right
    → widths.HoldTypes s.arrays.narrow s.contents
    → SubscriptsFit s.params s.outer s.given body.place.subscripts → RightFits s.params s.outer s.given body.right
    → AreInside s (accesses body)
    → c.assigned s.arrays (point_at s) (assignment_in (length s.params) (length s.outer) s.names body) s.contents
    ≡ Some (performed_by s.arrays.extents s.contents body (source_at s))
assigned_is s ranks m body at is width hold fit_place fit_right inside =
    let cell = cell_of body.place (source_at s) in
    let b = has_narrow s.arrays body.place.array in
    one (found s.arrays (point_at s) (place_at s body.place)) cell
    (λ q. when (assigned_number s.arrays s.contents (point_at s) q (right_at s body.right))
    (λ n. Some (stored s.arrays.extents s.contents q n))) _
    (found_is s ranks m body.place at is.place fit_place (inside body.place (inl refl)))
    (ap (λ (o : Option ℕ). when o (λ n. Some (stored s.arrays.extents s.contents cell n)))
    (number_is s ranks m body.place b body.right at refl width is.right fit_right (λ a i. inside a (inr i)))
    ∙ ap (λ (n : ℕ). Some (stored s.arrays.extents s.contents cell n))
    (typed_stores s.arrays.narrow ranks m s.arrays.extents s.contents body (source_at s) is width hold))

-- what a printed assignment stores is a number of its cell's type
rest_below : (b : Bool) (v : ℕ) → v % printed.modulus b < printed.modulus b
rest_below true v = mod_below v (2 ^ 32) (omega arith)
rest_below false v = mod_below v (2 ^ 64) (omega arith)

stores_below : (arrays : List Bool) (b : Bool) (right : Right) (place : Access) (point : List ℤ)
    (extents contents : List (List ℕ)) → held extents contents (cell_of place point) < printed.modulus b
    → printed.stores arrays b right point
    (map (λ access. held extents contents (cell_of access point)) (reads_with place right)) < printed.modulus b
stores_below arrays b (assigned e) place point es rows own = rest_below b _
stores_below arrays b (combined op e) place point es rows own = rest_below b _
stores_below arrays b (moved_left k) place point es rows own = rest_below b _
stores_below arrays b (moved_right k) place point es rows own =
    let l = div-le_self (held es rows (cell_of place point)) (2 ^ k) in omega (arith, l, own)
stores_below arrays b (combined_narrow op e) place point es rows own = rest_below b _
stores_below arrays b (moved_left_narrow k) place point es rows own = rest_below b _

-- an element of a list with another in one place is that other, or what stood there
set_keeps : {A : Type 0} (P : A → Type 0) (xs : List A) (i : ℕ) (x : A) (k : ℕ) (d : A) → (k ≡ i → P x)
    → P (get_or xs k d) → P (get_or (set xs i x) k d)
set_keeps P [] i x k d new old = old
set_keeps P (y ∷ ys) zero x zero d new old = new refl
set_keeps P (y ∷ ys) zero x (suc k) d new old = old
set_keeps P (y ∷ ys) (suc i) x zero d new old = old
set_keeps P (y ∷ ys) (suc i) x (suc k) d new old = set_keeps P ys i x k d (λ e. new (ap suc e)) old

-- the contents behind a statement hold numbers of their types
pub types_behind : (narrow : List Bool) (ranks : List ℕ) (m : ℕ) (extents contents : List (List ℕ)) (body : Statement)
    (point : List ℤ) → IsStatement ranks m body
    → HasWidth narrow (slice_index_or narrow body.place.array false) body.right → widths.HoldTypes narrow contents
    → widths.HoldTypes narrow (performed_by extents contents body point)
types_behind narrow ranks m extents contents body point is width hold a k =
    let cell = cell_of body.place point in
    let row = slice_index_or contents cell.array [] in
    let value = value_stored_by extents contents body point in
    let b = slice_index_or narrow body.place.array false in
    let new : value < printed.modulus b =
    subst (λ v. v < printed.modulus b) (typed_stores narrow ranks m extents contents body point is width hold)
    (stores_below narrow b body.right body.place point extents contents
    (hold body.place.array (offset_of extents cell))) in
    set_keeps (λ cells. slice_index_or cells k 0 < printed.modulus (slice_index_or narrow a false)) contents cell.array
    (set row (offset_of extents cell) value) a []
    (λ e.
    set_keeps (λ v. v < printed.modulus (slice_index_or narrow a false)) row (offset_of extents cell) value k 0
    (λ _. subst (λ i. value < printed.modulus (slice_index_or narrow i false)) (sym e) new)
    (subst (λ i. slice_index_or row k 0 < printed.modulus (slice_index_or narrow i false)) (sym e)
    (hold cell.array k)))
    (hold a k)
