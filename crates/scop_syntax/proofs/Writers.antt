-- A cell holds what its last writer has left in it.
use Rattle.whole_numbers.proofs.Common.{◌+◌, ◌-◌, ◌≡◌, ℕ, zero, suc, ◌<◌, ◌≤◌, Bool, true, false, ℤ, List, [], ◌∷◌}
use Rattle.whole_numbers.proofs.Common.{length, take, drop, fold, map, Some, None, inl, inr, ap, ap₂, subst, sym, ◌∙◌}
use Rattle.whole_numbers.proofs.Common.{refl, arith, Option, slice_get, nat_eq, if◌then◌else◌, le_z, ints, eqb-true}
use Rattle.whole_numbers.proofs.Common.{eq-eqb, take-length}
use Rattle.scop_syntax.specs.Tree.{Access}
use Rattle.scop_syntax.specs.Members.{In}
use Rattle.scop_syntax.specs.Walk.{Visit}
use Rattle.scop_syntax.specs.Cells.{Cell, cell_of, cells_read, reads, written}
use Rattle.scop_syntax.specs.Execution.{IsCell, AreInside, held, stored, values_read, values_read_at, value_stored}
use Rattle.scop_syntax.specs.Execution.{value_stored_at, performed, performed_all, before_place, IsShaped}
use Rattle.scop_syntax.specs.Writers.{same_numbers, same_cell, writes, last_writer, left_by, IsLast, first_writer}
use Rattle.scop_syntax.specs.Writers.{next_writer, IsNext}
use Rattle.scop_syntax.proofs.Members.{nat_cases, both, in_from_place, le_z_holds, holds_le_z}
use Rattle.scop_syntax.proofs.Memory.{held_stored, held_other, shape_stored}

numbers_same : (xs ys : List ℤ) → same_numbers xs ys ≡ true → xs ≡ ys
numbers_same [] [] h = refl
numbers_same [] (y ∷ ys) h = absurd cc
numbers_same (x ∷ xs) [] h = absurd cc
numbers_same (x ∷ xs) (y ∷ ys) h =
    let a = both (le_z x y) (if le_z y x then same_numbers xs ys else false) h in
    let b = both (le_z y x) (same_numbers xs ys) a.1 in
    let up = holds_le_z x y a.0 in
    let down = holds_le_z y x b.0 in
    ap₂ (λ (z : ℤ) (zs : List ℤ). z ∷ zs) (omega (arith, ints)) (numbers_same xs ys b.1)

same_self : (xs : List ℤ) → same_numbers xs xs ≡ true
same_self [] = refl
same_self (x ∷ xs) = rw (le_z_holds x x (omega (arith, ints))) (same_self xs)

pub cell_same : (c d : Cell) → same_cell c d ≡ true → (c.array ≡ d.array) × (c.subscripts ≡ d.subscripts)
cell_same c d h =
    let b = both (nat_eq c.array d.array) (same_numbers c.subscripts d.subscripts) h in
    (eqb-true c.array d.array b.0, numbers_same c.subscripts d.subscripts b.1)

pub same_cells : (c d : Cell) → c.array ≡ d.array → c.subscripts ≡ d.subscripts → same_cell c d ≡ true
same_cells c d e f =
    rw (eq-eqb c.array d.array e) (subst (λ xs. same_numbers c.subscripts xs ≡ true) f (same_self c.subscripts))

-- the contents along the places
fold-take : {A B : Type 0} (f : B → A → B) (a : B) (xs : List A) (j : ℕ) (x : A) → slice_get xs j ≡ Some x
    → fold f a (take (suc j) xs) ≡ f (fold f a (take j xs)) x
fold-take f a [] j x found = absurd cc
fold-take f a (y ∷ ys) zero x found = ap (f a) cc
fold-take f a (y ∷ ys) (suc j) x found = fold-take f (f a y) ys j x found

pub before_next : (es contents : List (List ℕ)) (visits : List Visit) (j : ℕ) (v : Visit) → slice_get visits j ≡ Some v
    → before_place es contents visits (suc j) ≡ performed es (before_place es contents visits j) v
before_next es contents visits j v found = fold-take (performed es) contents visits j v found

pub visit_at : (visits : List Visit) (j : ℕ) → j < length visits → (v : Visit) × (slice_get visits j ≡ Some v)
visit_at [] j h = absurd (omega arith)
visit_at (v ∷ vs) zero h = (v, refl)
visit_at (v ∷ vs) (suc j) h = visit_at vs j (omega arith)

pub shape_before : (es contents : List (List ℕ)) (visits : List Visit) (j : ℕ) → j ≤ length visits
    → IsShaped es contents → IsShaped es (before_place es contents visits j)
shape_before es contents visits zero h shape = shape
shape_before es contents visits (suc j) h shape =
    let v = visit_at visits j (omega arith) in
    let before = before_place es contents visits j in
    subst (IsShaped es) (sym (before_next es contents visits j v.0 v.1))
    (shape_stored es before (written v.0) (value_stored es before (Some v.0))
    (shape_before es contents visits j (omega arith) shape))

pub written_inside : (es : List (List ℕ)) (visits : List Visit) (j : ℕ) (v : Visit) → AreInside es visits
    → slice_get visits j ≡ Some v → IsCell es (written v)
written_inside es visits j v inside found = inside v (in_from_place visits j v found) v.body.place (inl refl)

-- one place: the cell holds what the place stores, or what it held
step_holds : (es contents : List (List ℕ)) (visits : List Visit) (j : ℕ) (v : Visit) (c : Cell) (b : Bool)
    → same_cell (written v) c ≡ b → IsShaped es (before_place es contents visits j) → IsCell es (written v)
    → IsCell es c
    → slice_get visits j ≡ Some v
    → held es (before_place es contents visits j) c ≡ left_by es contents visits c (last_writer visits j c)
    → held es (performed es (before_place es contents visits j) v) c ≡ left_by es contents visits c
    (if b then Some j else last_writer visits j c)
step_holds es contents visits j v c true e shape is_w is_c found ih =
    let before = before_place es contents visits j in
    let s = cell_same (written v) c e in
    let same : written v ≡ c = ap₂ (λ (a : ℕ) (xs : List ℤ). record { array = a; subscripts = xs }) s.0 s.1 in
    subst (λ d. held es (performed es before v) d ≡ value_stored es before (Some v)) same
    (held_stored es before (written v) (value_stored es before (Some v)) shape is_w)
    ∙ ap (value_stored es before) (sym found)
step_holds es contents visits j v c false e shape is_w is_c found ih =
    let before = before_place es contents visits j in
    held_other es before (written v) c (value_stored es before (Some v)) shape is_w is_c
    (λ a s. let t = same_cells (written v) c a s in absurd cc) ∙ ih

pub cell_before : (es contents : List (List ℕ)) (visits : List Visit) (j : ℕ) (c : Cell) → j ≤ length visits
    → IsShaped es contents → AreInside es visits → IsCell es c
    → held es (before_place es contents visits j) c ≡ left_by es contents visits c (last_writer visits j c)
cell_before es contents visits zero c h shape inside is = refl
cell_before es contents visits (suc j) c h shape inside is =
    let v = visit_at visits j (omega arith) in
    let ih = cell_before es contents visits j c (omega arith) shape inside is in
    let s = step_holds es contents visits j v.0 c (same_cell (written v.0) c) refl
    (shape_before es contents visits j (omega arith) shape)
    (written_inside es visits j v.0 inside v.1) is v.1 ih in
    ap (λ m. held es m c) (before_next es contents visits j v.0 v.1)
    ∙ (s ∙ ap (λ o. left_by es contents visits c (if writes o c then Some j else last_writer visits j c)) (sym v.1))

pub cell_after : (es contents : List (List ℕ)) (visits : List Visit) (c : Cell) → IsShaped es contents
    → AreInside es visits → IsCell es c
    → held es (performed_all es contents visits) c ≡ left_by es contents visits c (last_writer visits (length visits) c)
cell_after es contents visits c shape inside is =
    ap (λ vs. held es (performed_all es contents vs) c) (sym (take-length visits))
    ∙ cell_before es contents visits (length visits) c (omega arith) shape inside is

-- the last writer is the greatest place that writes the cell
last_step : (visits : List Visit) (j : ℕ) (c : Cell) (i : ℕ) (b : Bool) → writes (slice_get visits j) c ≡ b
    → (last_writer visits j c ≡ Some i → IsLast visits j c i)
    → (if b then Some j else last_writer visits j c) ≡ Some i → IsLast visits (suc j) c i
last_step visits j c i true e ih h =
    let same : j ≡ i = cc in
    record {
      before = omega arith;
      wrote = subst
          (λ k. writes (slice_get visits k) c ≡ true) same e;
      latest = λ k a b. absurd (omega arith);
    }
last_step visits j c i false e ih h =
    let l = ih h in
    record {
      before = let b = l.before in omega arith;
      wrote = l.wrote;
      latest =
          λ k a b. nat_cases k j (λ less. l.latest k a less)
          (λ same. subst (λ n. writes (slice_get visits n) c ≡ false) (sym same) e) (λ more. absurd (omega arith));
    }

pub last_is : (visits : List Visit) (j : ℕ) (c : Cell) (i : ℕ) → last_writer visits j c ≡ Some i → IsLast visits j c i
last_is visits zero c i h = absurd cc
last_is visits (suc j) c i h = last_step visits j c i (writes (slice_get visits j) c) refl (last_is visits j c i) h

none_step : (visits : List Visit) (j : ℕ) (c : Cell) (b : Bool) → writes (slice_get visits j) c ≡ b
    → (last_writer visits j c ≡ None → (k : ℕ) → k < j → writes (slice_get visits k) c ≡ false)
    → (if b then Some j else last_writer visits j c) ≡ None → (k : ℕ) → k < suc j
    → writes (slice_get visits k) c ≡ false
none_step visits j c true e ih h k less = absurd cc
none_step visits j c false e ih h k less =
    nat_cases k j (λ l. ih h k l) (λ same. subst (λ n. writes (slice_get visits n) c ≡ false) (sym same) e)
    (λ more. absurd (omega arith))

pub none_writes : (visits : List Visit) (j : ℕ) (c : Cell) → last_writer visits j c ≡ None → (k : ℕ) → k < j
    → writes (slice_get visits k) c ≡ false
none_writes visits zero c h k less = absurd (omega arith)
none_writes visits (suc j) c h k less =
    none_step visits j c (writes (slice_get visits j) c) refl (none_writes visits j c) h k less

-- the next writer is the least place behind that writes the cell
first_is : (k : ℕ) (vs : List Visit) (c : Cell) (n : ℕ) → first_writer k vs c ≡ Some n
    → (m : ℕ) × (n ≡ k + m) × (writes (slice_get vs m) c ≡ true) × ((i : ℕ) → i < m → writes (slice_get vs i) c ≡ false)
first_is k [] c n h = absurd cc
first_is k (v ∷ vs) c n h = first_step k v vs c n (same_cell (written v) c) refl h (first_is (suc k) vs c n)
  where
    first_step : (k : ℕ) (v : Visit) (vs : List Visit) (c : Cell) (n : ℕ) (b : Bool) → same_cell (written v) c ≡ b
        → (if b then Some k else first_writer (suc k) vs c) ≡ Some n
        → (first_writer (suc k) vs c ≡ Some n
        → (m : ℕ) × (n ≡ suc k + m) × (writes (slice_get vs m) c ≡ true)
        × ((i : ℕ) → i < m → writes (slice_get vs i) c ≡ false))
        → (m : ℕ) × (n ≡ k + m) × (writes (slice_get (v ∷ vs) m) c ≡ true)
        × ((i : ℕ) → i < m → writes (slice_get (v ∷ vs) i) c ≡ false)
    first_step k v vs c n true e h ih = let same : k ≡ n = cc in (0, omega arith, e, λ i l. absurd (omega arith))
    first_step k v vs c n false e h ih =
        let r = ih h in
        (suc r.0, r.1 ∙ omega arith, r.2, λ i l. not_before v vs c r.0 e r.3 i l)
      where
        not_before : (v : Visit) (vs : List Visit) (c : Cell) (m : ℕ) → same_cell (written v) c ≡ false
            → ((i : ℕ) → i < m → writes (slice_get vs i) c ≡ false)
            → (i : ℕ) → i < suc m → writes (slice_get (v ∷ vs) i) c ≡ false
        not_before v vs c m e h zero l = e
        not_before v vs c m e h (suc i) l = h i (omega arith)

get_dropped : (visits : List Visit) (n i : ℕ) → slice_get (drop n visits) i ≡ slice_get visits (n + i)
get_dropped visits zero i = ap (slice_get visits) (omega arith)
get_dropped [] (suc n) i = refl
get_dropped (v ∷ vs) (suc n) i =
    let e : suc n + i ≡ suc (n + i) = omega arith in get_dropped vs n i ∙ ap (slice_get (v ∷ vs)) (sym e)

pub next_is : (visits : List Visit) (j : ℕ) (c : Cell) (k : ℕ) → next_writer visits j c ≡ Some k → IsNext visits j c k
next_is visits j c k h =
    let r = first_is (suc j) (drop (suc j) visits) c k h in
    record {
      behind = let e = r.1 in omega arith;
      wrote = ap (λ o. writes o c) (ap (slice_get visits) r.1 ∙ sym (get_dropped visits (suc j) r.0)) ∙ r.2;
      soonest = λ i a b.
          let e = r.1 in
          let d : i ≡ suc j + (i - suc j) = omega arith in
          ap (λ o. writes o c) (ap (slice_get visits) d ∙ sym (get_dropped visits (suc j) (i - suc j)))
          ∙ r.3 (i - suc j) (omega arith);
    }

-- where there is none, no place behind writes it
none_first : (k : ℕ) (vs : List Visit) (c : Cell) → first_writer k vs c ≡ None → (m : ℕ)
    → writes (slice_get vs m) c ≡ false
none_first k [] c h m = refl
none_first k (v ∷ vs) c h m = none_here k v vs c (same_cell (written v) c) refl h m (none_first (suc k) vs c)
  where
    none_here : (k : ℕ) (v : Visit) (vs : List Visit) (c : Cell) (b : Bool) → same_cell (written v) c ≡ b
        → (if b then Some k else first_writer (suc k) vs c) ≡ None
        → (m : ℕ) → (first_writer (suc k) vs c ≡ None → (m : ℕ) → writes (slice_get vs m) c ≡ false)
        → writes (slice_get (v ∷ vs) m) c ≡ false
    none_here k v vs c true e h m ih = absurd cc
    none_here k v vs c false e h zero ih = e
    none_here k v vs c false e h (suc m) ih = ih h m

pub none_behind : (visits : List Visit) (j : ℕ) (c : Cell) → next_writer visits j c ≡ None → (k : ℕ) → j < k
    → writes (slice_get visits k) c ≡ false
none_behind visits j c h k less =
    let d : k ≡ suc j + (k - suc j) = omega arith in
    ap (λ o. writes o c) (ap (slice_get visits) d ∙ sym (get_dropped visits (suc j) (k - suc j)))
    ∙ none_first (suc j) (drop (suc j) visits) c h (k - suc j)

pub ruleset writer_laws = (cell_before, cell_after, last_is, none_writes, next_is, none_behind)

-- the values read at a place
accesses_left : (es contents : List (List ℕ)) (visits : List Visit) (j : ℕ) (point : List ℤ) (fs : List Access)
    → j ≤ length visits → IsShaped es contents → AreInside es visits
    → ((a : Access) → In a fs → IsCell es (cell_of a point))
    → map (λ a. held es (before_place es contents visits j) (cell_of a point)) fs
    ≡ map (λ c. left_by es contents visits c (last_writer visits j c)) (map (λ a. cell_of a point) fs)
accesses_left es contents visits j point [] h shape inside cells = refl
accesses_left es contents visits j point (a ∷ fs) h shape inside cells =
    ap₂ (λ (n : ℕ) (ns : List ℕ). n ∷ ns)
    (cell_before es contents visits j (cell_of a point) h shape inside (cells a (inl refl)))
    (accesses_left es contents visits j point fs h shape inside (λ b k. cells b (inr k)))

place_below : (visits : List Visit) (j : ℕ) (v : Visit) → slice_get visits j ≡ Some v → j < length visits
place_below [] j v h = absurd cc
place_below (w ∷ ws) zero v h = omega arith
place_below (w ∷ ws) (suc j) v h = let r = place_below ws j v h in omega arith

pub reads_left : (es contents : List (List ℕ)) (visits : List Visit) (j : ℕ) (v : Visit) → slice_get visits j ≡ Some v
    → IsShaped es contents → AreInside es visits
    → values_read_at es contents visits j ≡ map (λ c. left_by es contents visits c (last_writer visits j c))
    (cells_read v)
reads_left es contents visits j v found shape inside =
    let below = place_below visits j v found in
    let cells : (a : Access) → In a (reads v.body)
    → IsCell es (cell_of a v.point) = λ a h. inside v (in_from_place visits j v found) a (inr h) in
    ap (values_read es (before_place es contents visits j)) found
    ∙ accesses_left es contents visits j v.point (reads v.body) (omega arith) shape inside cells

pub place_goes_on : (es contents : List (List ℕ)) (visits : List Visit) (j : ℕ) (v : Visit)
    → slice_get visits j ≡ Some v
    → before_place es contents visits (j + 1) ≡ stored es (before_place es contents visits j) (written v)
    (value_stored_at es contents visits j)
place_goes_on es contents visits j v found =
    let e : j + 1 ≡ suc j = omega arith in
    ap (before_place es contents visits) e ∙ (before_next es contents visits j v found
    ∙ ap (stored es (before_place es contents visits j) (written v))
    (sym (ap (value_stored es (before_place es contents visits j)) found)))

pub places_end : (es contents : List (List ℕ)) (visits : List Visit)
    → before_place es contents visits (length visits) ≡ performed_all es contents visits
places_end es contents visits = ap (performed_all es contents) (take-length visits)

pub ruleset place_laws = (place_goes_on, places_end)

-- the visit that writes a cell
pub writer_of : (o : Option Visit) (c : Cell) → writes o c ≡ true → (w : Visit) × (o ≡ Some w) × (written w ≡ c)
writer_of None c h = absurd cc
writer_of (Some w) c h =
    let s = cell_same (written w) c h in
    (w, refl, ap₂ (λ (a : ℕ) (xs : List ℤ). record { array = a; subscripts = xs }) s.0 s.1)
