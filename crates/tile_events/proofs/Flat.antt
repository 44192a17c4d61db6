-- A plan whose places are the visits of a walk executes as they do, over the row of all arrays' cells.
use Rattle.scop_syntax.proofs.Common.{◌≡◌, ℕ, zero, suc, ◌+◌, ◌-◌, ◌^◌, ◌<◌, ◌≤◌, inl, inr, Bool, true, false, ℤ, List}
use Rattle.scop_syntax.proofs.Common.{[], ◌∷◌, ◌++◌, map, length, take, drop, get_or, Some, ap, ap₂, sym, refl, ◌∙◌}
use Rattle.scop_syntax.proofs.Common.{subst, arith, slice_get, nat_eq, if◌then◌else◌, eqb-true, eqb-false}
use Rattle.scop_syntax.proofs.Common.{get_or-append-add, get_or-append, take-length, Visit, Access, plus, minus, Right}
use Rattle.scop_syntax.proofs.Common.{assigned, combined, Statement, Cell, cell_of, reads, reads_with, accesses}
use Rattle.scop_syntax.proofs.Common.{written, Conflict, stored_by, value_on, In, cell_count, total_cells, offset_of}
use Rattle.scop_syntax.proofs.Common.{cell_number, held, value_stored_by, performed_all, before_place, IsCell}
use Rattle.scop_syntax.proofs.Common.{AreInside, IsShaped, offset_below, in_map_from, in_from_place, place_of}
use Rattle.scop_syntax.proofs.Common.{shape_before, written_inside, AreMarked, added_by, is_marked, loads}
use Rattle.std.proofs.Math.Nat.{add-mod-mod}
use Rattle.scop_syntax.specs.Execution.{performed}
use Rattle.scop_syntax.proofs.Memory.{held_stored, held_other}
use Rattle.scop_syntax.proofs.Writers.{before_next, visit_at}
use Rattle.tile_events.specs.Plan.{Plan, updated, before, values_read, Touch}
use Rattle.scop_syntax.specs.Reductions.{IsSum}
use Rattle.tile_events.specs.Flat.{IsWalk, flat, read_by, value_by, written_by}

map_held : (es rows : List (List ℕ)) (f : ℕ → ℕ) (point : List ℤ) (touched : List Access)
    → ((c : Cell) → In c (map (λ access. cell_of access point) touched) → f (cell_number es c) ≡ held es rows c)
    → map f (map (cell_number es) (map (λ access. cell_of access point) touched))
    ≡ map (λ access. held es rows (cell_of access point)) touched
map_held es rows f point [] h = refl
map_held es rows f point (a ∷ rest) h =
    ap₂ (λ (x : ℕ) (xs : List ℕ). x ∷ xs) (h (cell_of a point) (inl refl))
    (map_held es rows f point rest (λ d i. h d (inr i)))

-- what is loaded is read
in_drop : {A : Type 0} (a : A) (xs : List A) → In a (drop 1 xs) → In a xs
in_drop a [] h = h
in_drop a (x ∷ xs) h = inr h

pub loads_read : (marked : List ℕ) (s : Statement) (a : Access) → In a (loads marked s) → In a (reads s)
loads_read marked s a h = by_test (is_marked marked s.place.array) h
  where
    by_test : (b : Bool) → In a (if b then drop 1 (reads s) else reads s) → In a (reads s)
    by_test true h = in_drop a (reads s) h
    by_test false h = h

reads_inside : (es : List (List ℕ)) (marked : List ℕ) (visits : List Visit) (j : ℕ) (v : Visit) → AreInside es visits
    → slice_get visits j ≡ Some v → (c : Cell) → In c (map (λ access. cell_of access v.point) (loads marked v.body))
    → IsCell es c
reads_inside es marked visits j v inside found c h =
    let r = in_map_from (λ access. cell_of access v.point) c (loads marked v.body) h in
    subst (IsCell es) (sym r.2)
    (inside v (in_from_place visits j v found) r.0 (inr (loads_read marked v.body r.0 r.1)))

-- what a sum leaves in its place is what it held with the addend
sum_is : (place : Access) (right : Right) (point : List ℤ) (f : Access → ℕ) → IsSum right
    → updated true (f place) (added_by right point (map f (drop 1 (reads_with place right))))
    ≡ stored_by right point (map f (reads_with place right))
sum_is place (combined plus e) point f h = refl
sum_is place (combined minus e) point f h =
    add-mod-mod (f place) (2 ^ 64 - value_on e point (map f (reads_with place (assigned e)))) (2 ^ 64)
sum_is place right point f h = absurd h

-- what a visit leaves in its place, by what it loads
act_is : (marked : List ℕ) (s : Statement) (point : List ℤ) (f : Access → ℕ)
    → (is_marked marked s.place.array ≡ true → IsSum s.right)
    → updated (is_marked marked s.place.array) (f s.place)
    (if is_marked marked s.place.array
    then added_by s.right point (map f (loads marked s))
    else stored_by s.right point (map f (loads marked s)))
    ≡ stored_by s.right point (map f (reads s))
act_is marked s point f sum = by_test (is_marked marked s.place.array) refl
  where
    by_test : (b : Bool) → is_marked marked s.place.array ≡ b
        → updated b (f s.place) (if b then added_by s.right point (map f (if b then drop 1 (reads s) else reads s))
        else stored_by s.right point (map f (if b then drop 1 (reads s) else reads s)))
        ≡ stored_by s.right point (map f (reads s))
    by_test true e = sum_is s.place s.right point f (sum e)
    by_test false e = refl

-- cells with one number are one
abbrev pub AreApart : List (List ℕ) → Type 0
AreApart es = (c d : Cell) → IsCell es c → IsCell es d → cell_number es c ≡ cell_number es d → c ≡ d

-- before each place the row holds what the arrays hold
flat_before : (es contents : List (List ℕ)) (marked : List ℕ) (visits : List Visit) (p : Plan) → AreApart es
    → IsWalk es contents marked visits p → AreMarked marked visits
    → IsShaped es contents → AreInside es visits → (k : ℕ) (c : Cell) → k ≤ length visits → IsCell es c
    → before p k (cell_number es c) ≡ held es (before_place es contents visits k) c
flat_before es contents marked visits p apart w marks shape inside zero c l is = w.initial c is
flat_before es contents marked visits p apart w marks shape inside (suc k) c l is =
    flat_step (visit_at visits k (omega (arith, l)))
    (λ d i. flat_before es contents marked visits p apart w marks shape inside k d (omega (arith, l)) i)
  where
    flat_step : (v : Visit) × (slice_get visits k ≡ Some v)
        → ((d : Cell) → IsCell es d → before p k (cell_number es d) ≡ held es (before_place es contents visits k) d)
        → before p (suc k) (cell_number es c) ≡ held es (before_place es contents visits (suc k)) c
    flat_step (v, found) ih = by_test (nat_eq (p.written k) (cell_number es c)) refl
        ∙ sym (ap (λ m. held es m c) (before_next es contents visits k v found))
      where
        rows : List (List ℕ)
        rows = before_place es contents visits k

        shaped : IsShaped es rows
        shaped = shape_before es contents visits k (omega (arith, l)) shape

        is_w : IsCell es (written v)
        is_w = written_inside es visits k v inside found

        at : p.written k ≡ cell_number es (written v)
        at = w.written k ∙ ap (written_by es) found

        f : Access → ℕ
        f access = held es rows (cell_of access v.point)

        m : Bool
        m = is_marked marked v.body.place.array

        value : p.value k (map (before p k) (p.read k))
            ≡ (if m then added_by v.body.right v.point (map f (loads marked v.body))
            else stored_by v.body.right v.point (map f (loads marked v.body)))
        value = ap (λ (xs : List ℕ). p.value k (map (before p k) xs)) (w.read k ∙ ap (read_by es marked) found)
            ∙ (ap (p.value k) (map_held es rows (before p k) v.point (loads marked v.body)
            (λ d i. ih d (reads_inside es marked visits k v inside found d i)))
            ∙ (w.value k (map f (loads marked v.body))
            ∙ ap (λ o. value_by marked o (map f (loads marked v.body))) found))

        new : updated (p.adds (cell_number es (written v))) (before p k (cell_number es (written v)))
            (p.value k (map (before p k) (p.read k))) ≡ value_stored_by es rows v.body v.point
        new = rw (w.adds (written v) is_w, ih (written v) is_w, value)
            (act_is marked v.body v.point f (marks.sums v (in_from_place visits k v found)))

        by_test : (b : Bool) → nat_eq (p.written k) (cell_number es c) ≡ b
            → (if b then updated (p.adds (cell_number es c)) (before p k (cell_number es c))
            (p.value k (map (before p k) (p.read k))) else before p k (cell_number es c))
            ≡ held es (performed es rows v) c
        by_test true e =
            let same : written v ≡ c =
            apart (written v) c is_w is (sym at ∙ eqb-true (p.written k) (cell_number es c) e) in
            subst (λ d. updated (p.adds (cell_number es d)) (before p k (cell_number es d))
            (p.value k (map (before p k) (p.read k))) ≡ held es (performed es rows v) d) same
            (new ∙ sym (held_stored es rows (written v) (value_stored_by es rows v.body v.point) shaped is_w))
        by_test false e =
            ih c is ∙ sym (held_other es rows (written v) c (value_stored_by es rows v.body v.point) shaped is_w is
            (λ a s. eqb-false (p.written k) (cell_number es c) e (at ∙ ap (cell_number es)
            (ap₂ (λ (x : ℕ) (xs : List ℤ). record { array = x; subscripts = xs }) a s))))

row_at : (es rows : List (List ℕ)) (a s : ℕ) → map length rows ≡ map cell_count es → a < length es
    → s < cell_count (get_or es a [])
    → get_or (flat rows) (total_cells (take a es) + s) 0 ≡ get_or (get_or rows a []) s 0
row_at [] rows a s e l m = absurd (omega (arith, l))
row_at (x ∷ es) [] a s e l m = absurd cc
row_at (x ∷ es) (r ∷ rows) zero s e l m =
    let h : length r ≡ cell_count x = cc in
    ap (λ (i : ℕ). get_or (r ++ flat rows) i 0) (let q : 0 + s ≡ s = omega arith in q)
    ∙ get_or-append r (flat rows) 0 s (omega (arith, h, m))
row_at (x ∷ es) (r ∷ rows) (suc a) s e l m =
    let h : length r ≡ cell_count x = cc in
    let t : map length rows ≡ map cell_count es = cc in
    let q : (cell_count x + total_cells (take a es)) + s ≡ length r + (total_cells (take a es) + s) =
    omega (arith, h) in
    ap (λ (i : ℕ). get_or (r ++ flat rows) i 0) q
    ∙ (get_or-append-add r (flat rows) (total_cells (take a es) + s) 0 ∙ row_at es rows a s t (omega (arith, l)) m)

-- the row of the arrays holds what they hold
pub flat_holds : (es contents : List (List ℕ)) (c : Cell) → IsShaped es contents → IsCell es c
    → get_or (flat contents) (cell_number es c) 0 ≡ held es contents c
flat_holds es contents c shape is =
    let below = offset_below (get_or es c.array []) 0 c.subscripts is.subscripts in
    row_at es contents c.array (offset_of es c) shape is.array (omega (arith, below))

-- the values that a place loads are those that its visit reads there
pub flat_values : (es contents : List (List ℕ)) (marked : List ℕ) (visits : List Visit) (p : Plan) → AreApart es
    → IsWalk es contents marked visits p → AreMarked marked visits → IsShaped es contents → AreInside es visits
    → (k : ℕ) (v : Visit) → slice_get visits k ≡ Some v → k ≤ length visits
    → values_read p k
    ≡ map (λ access. held es (before_place es contents visits k) (cell_of access v.point)) (loads marked v.body)
flat_values es contents marked visits p apart w marks shape inside k v found l =
    ap (map (before p k)) (w.read k ∙ ap (read_by es marked) found)
    ∙ map_held es (before_place es contents visits k) (before p k) v.point (loads marked v.body)
    (λ d i. flat_before es contents marked visits p apart w marks shape inside k d l
    (reads_inside es marked visits k v inside found d i))

-- at the end the row holds what the arrays hold
pub flat_end : (es contents : List (List ℕ)) (marked : List ℕ) (visits : List Visit) (p : Plan) → AreApart es
    → IsWalk es contents marked visits p → AreMarked marked visits → IsShaped es contents → AreInside es visits
    → (c : Cell) → IsCell es c
    → before p (length visits) (cell_number es c) ≡ held es (performed_all es contents visits) c
flat_end es contents marked visits p apart w marks shape inside c is =
    flat_before es contents marked visits p apart w marks shape inside (length visits) c (omega arith) is
    ∙ ap (λ vs. held es (performed_all es contents vs) c) (take-length visits)

-- a load of w that touches the cell that v writes
met : (es : List (List ℕ)) (marked : List ℕ) (visits : List Visit) (v w : Visit) (i j : ℕ) → AreApart es
    → AreMarked marked visits → AreInside es visits
    → slice_get visits i ≡ Some v → slice_get visits j ≡ Some w
    → In (cell_number es (written v))
    (map (cell_number es) (map (λ access. cell_of access w.point) (loads marked w.body)))
    → (b : ℕ) × (second : Access) × (slice_get (accesses w.body) (suc b) ≡ Some second)
    × (written v ≡ cell_of second w.point) × (is_marked marked second.array ≡ false)
met es marked visits v w i j apart marks inside fi fj h =
    let c = in_map_from (cell_number es) (cell_number es (written v))
    (map (λ access. cell_of access w.point) (loads marked w.body)) h in
    let a = in_map_from (λ access. cell_of access w.point) c.0 (loads marked w.body) c.1 in
    let n = place_of (reads w.body) a.0 (loads_read marked w.body a.0 a.1) in
    let v_is = written_inside es visits i v inside fi in
    let w_is = reads_inside es marked visits j w inside fj c.0 c.1 in
    (n.0, a.0, n.1, apart (written v) c.0 v_is w_is c.2 ∙ a.2, marks.others w a.0 (in_from_place visits j w fj) a.1)

-- places that touch one cell, which one of them writes, are in conflict by the accesses of their visits, and the cell
-- lies in no marked array
pub conflict_of : (es contents : List (List ℕ)) (marked : List ℕ) (visits : List Visit) (p : Plan) → AreApart es
    → IsWalk es contents marked visits p → AreMarked marked visits → AreInside es visits → (i j : ℕ) (v w : Visit)
    → slice_get visits i ≡ Some v → slice_get visits j ≡ Some w → Touch p i j
    → (a : ℕ) × (b : ℕ) × (c : Conflict v a w b) × (is_marked marked c.first.array ≡ false)
conflict_of es contents marked visits p apart walk marks inside i j v w fi fj (inl (e, stores)) =
    let at : p.written i ≡ cell_number es (written v) = walk.written i ∙ ap (written_by es) fi in
    let c : Conflict v 0 w 0 = record {
      first = v.body.place;
      second = w.body.place;
      is_first = refl;
      is_second = refl;
      writes = inl refl;
      cell =
          apart (written v) (written w) (written_inside es visits i v inside fi)
          (written_inside es visits j w inside fj) (sym at ∙ (e ∙ (walk.written j ∙ ap (written_by es) fj)));
    } in
    (0, 0, c, sym (walk.adds (written v) (written_inside es visits i v inside fi)) ∙ (sym (ap p.adds at) ∙ stores))
conflict_of es contents marked visits p apart walk marks inside i j v w fi fj (inr (inl h)) =
    let r = met es marked visits v w i j apart marks inside fi fj
    (subst (λ (n : ℕ). In n (read_by es marked (Some w))) (walk.written i ∙ ap (written_by es) fi)
    (subst (λ ns. In (p.written i) ns) (walk.read j ∙ ap (read_by es marked) fj) h)) in
    let c : Conflict v 0 w (suc r.0) = record {
      first = v.body.place;
      second = r.1;
      is_first = refl;
      is_second = r.2;
      writes = inl refl;
      cell = r.3;
    } in
    let arrays : v.body.place.array ≡ r.1.array = ap (λ (d : Cell). d.array) r.3 in
    (0, suc r.0, c, ap (is_marked marked) arrays ∙ r.4)
conflict_of es contents marked visits p apart walk marks inside i j v w fi fj (inr (inr h)) =
    let r = met es marked visits w v j i apart marks inside fj fi
    (subst (λ (n : ℕ). In n (read_by es marked (Some v))) (walk.written j ∙ ap (written_by es) fj)
    (subst (λ ns. In (p.written j) ns) (walk.read i ∙ ap (read_by es marked) fi) h)) in
    let c : Conflict v (suc r.0) w 0 = record {
      first = r.1;
      second = w.body.place;
      is_first = r.2;
      is_second = refl;
      writes = inr refl;
      cell = sym r.3;
    } in
    (suc r.0, 0, c, r.4)
