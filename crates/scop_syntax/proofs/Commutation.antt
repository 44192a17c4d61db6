-- Two visits that do not conflict leave the same contents in either order.
use Rattle.whole_numbers.proofs.Common.{◌≡◌, ℕ, suc, ℤ, List, [], ◌∷◌, map, get_or, set, inl, inr, ap, ap₂, subst, sym}
use Rattle.whole_numbers.proofs.Common.{◌∙◌, refl, ◌≢◌, eqb_tells, get_or-set_same, get_or-set_other}
use Rattle.std.proofs.lemmas.List.{set-set, set_comm}
use Rattle.scop_syntax.specs.Tree.{Access}
use Rattle.scop_syntax.specs.Members.{In}
use Rattle.scop_syntax.specs.Walk.{Visit}
use Rattle.scop_syntax.specs.Cells.{Cell, Conflict, accesses, cell_of, reads, written}
use Rattle.scop_syntax.specs.Execution.{IsCell, IsShaped, held, offset_from, offset_of, performed, stored, value_stored_by}
use Rattle.scop_syntax.specs.Values.{stored_by}
use Rattle.scop_syntax.proofs.Members.{place_of}
use Rattle.scop_syntax.proofs.Memory.{cell_array, held_other, offsets_differ}

-- some two accesses of the visits conflict
abbrev pub Meet : Visit → Visit → Type 0
Meet v w = (a : ℕ) × (b : ℕ) × Conflict v a w b

-- each access of a visit touches a cell of its array
abbrev pub IsVisitInside : List (List ℕ) → Visit → Type 0
IsVisitInside es v = (a : Access) → In a (accesses v.body) → IsCell es (cell_of a v.point)

cells_are_one : (c d : Cell) → c.array ≡ d.array → c.subscripts ≡ d.subscripts → c ≡ d
cells_are_one c d e f = ap₂ (λ (a : ℕ) (xs : List ℤ). record { array = a; subscripts = xs }) e f

-- two values stored in one array
stored_twice : (es rows : List (List ℕ)) (a : ℕ) (ss ts : List ℤ) (x y : ℕ) → IsShaped es rows
    → IsCell es (record { array = a; subscripts = ss })
    → stored es (stored es rows (record { array = a; subscripts = ss }) x) (record { array = a; subscripts = ts }) y
    ≡ set rows a (set (set (get_or rows a []) (offset_from 0 (get_or es a []) ss) x)
    (offset_from 0 (get_or es a []) ts) y)
stored_twice es rows a ss ts x y shape is =
    let row = get_or rows a [] in
    let o = offset_from 0 (get_or es a []) ss in
    let p = offset_from 0 (get_or es a []) ts in
    ap (λ r. set (set rows a (set row o x)) a (set r p y))
    (get_or-set_same rows a (set row o x) [] (cell_array es rows (record { array = a; subscripts = ss }) shape is))
    ∙ set-set rows a (set row o x) (set (set row o x) p y)

commute_within : (es rows : List (List ℕ)) (a : ℕ) (ss ts : List ℤ) (x y : ℕ) → IsShaped es rows
    → IsCell es (record { array = a; subscripts = ss }) → IsCell es (record { array = a; subscripts = ts })
    → (ss ≡ ts → ⊥)
    → stored es (stored es rows (record { array = a; subscripts = ss }) x) (record { array = a; subscripts = ts }) y
    ≡ stored es (stored es rows (record { array = a; subscripts = ts }) y) (record { array = a; subscripts = ss }) x
commute_within es rows a ss ts x y shape c d differ =
    let row = get_or rows a [] in
    let o = offset_from 0 (get_or es a []) ss in
    let p = offset_from 0 (get_or es a []) ts in
    let apart : o ≢ p = λ q. differ (offsets_differ (get_or es a []) 0 0 ss ts c.subscripts d.subscripts q).1 in
    stored_twice es rows a ss ts x y shape c
    ∙ (ap (set rows a) (set_comm row o p x y apart) ∙ sym (stored_twice es rows a ts ss y x shape d))

commute_across : (es rows : List (List ℕ)) (c d : Cell) (x y : ℕ) → d.array ≢ c.array
    → stored es (stored es rows c x) d y ≡ stored es (stored es rows d y) c x
commute_across es rows c d x y apart =
    let left = set (get_or rows c.array []) (offset_of es c) x in
    let right = set (get_or rows d.array []) (offset_of es d) y in
    ap (λ r. set (set rows c.array left) d.array (set r (offset_of es d) y))
    (get_or-set_other rows c.array d.array left [] apart)
    ∙ (set_comm rows c.array d.array left right (λ e. apart (sym e))
    ∙ ap (λ r. set (set rows d.array right) c.array (set r (offset_of es c) x))
    (sym (get_or-set_other rows d.array c.array right [] (λ e. apart (sym e)))))

-- values stored in two cells, in either order
pub stores_commute : (es rows : List (List ℕ)) (c d : Cell) (x y : ℕ) → IsShaped es rows → IsCell es c → IsCell es d
    → (c ≡ d → ⊥) → stored es (stored es rows c x) d y ≡ stored es (stored es rows d y) c x
stores_commute es rows c d x y shape is_c is_d differ = elim (eqb_tells d.array c.array) [
  | inl q ↦
      let is : IsCell es (record { array = d.array; subscripts = c.subscripts }) =
      subst (λ (a : ℕ). IsCell es (record { array = a; subscripts = c.subscripts })) (sym q.1) is_c in
      subst (λ (a : ℕ). stored es (stored es rows (record { array = a; subscripts = c.subscripts }) x) d y
      ≡ stored es (stored es rows d y) (record { array = a; subscripts = c.subscripts }) x) q.1
      (commute_within es rows d.array c.subscripts d.subscripts x y shape is is_d
      (λ e. differ (cells_are_one c d (sym q.1) e)))
  | inr q ↦ commute_across es rows c d x y q.1
]

-- a store in a cell that is not read changes no value that is read
unread : (es rows : List (List ℕ)) (c : Cell) (x : ℕ) (point : List ℤ) (fs : List Access) → IsShaped es rows
    → IsCell es c
    → ((a : Access) → In a fs → IsCell es (cell_of a point))
    → ((a : Access) → In a fs → c ≡ cell_of a point → ⊥)
    → map (λ a. held es (stored es rows c x) (cell_of a point)) fs ≡ map (λ a. held es rows (cell_of a point)) fs
unread es rows c x point [] shape is inside differ = refl
unread es rows c x point (a ∷ fs) shape is inside differ =
    ap₂ (λ (n : ℕ) (ns : List ℕ). n ∷ ns)
    (held_other es rows c (cell_of a point) x shape is (inside a (inl refl))
    (λ e f. differ a (inl refl) (cells_are_one c (cell_of a point) e f)))
    (unread es rows c x point fs shape is (λ b h. inside b (inr h)) (λ b h. differ b (inr h)))

-- so it changes no value that a visit stores which does not read it
same_value : (es rows : List (List ℕ)) (c : Cell) (x : ℕ) (w : Visit) → IsShaped es rows → IsCell es c
    → IsVisitInside es w → ((a : Access) → In a (reads w.body) → c ≡ cell_of a w.point → ⊥)
    → value_stored_by es (stored es rows c x) w.body w.point ≡ value_stored_by es rows w.body w.point
same_value es rows c x w shape is inside differ =
    ap (stored_by w.body.right w.point)
    (unread es rows c x w.point (reads w.body) shape is (λ a h. inside a (inr h)) differ)

-- cells that tell that two visits conflict
meets_written : (v w : Visit) → written v ≡ written w → Meet v w
meets_written v w e = (
  0,
  0,
  record {
    first = v.body.place;
    second = w.body.place;
    is_first = refl;
    is_second = refl;
    writes = inl refl;
    cell = e;
  },
)

meets_read : (v w : Visit) (a : Access) → In a (reads w.body) → written v ≡ cell_of a w.point → Meet v w
meets_read v w a h e =
    let p = place_of (reads w.body) a h in (
      0,
      suc p.0,
      record { first = v.body.place; second = a; is_first = refl; is_second = p.1; writes = inl refl; cell = e },
    )

meets_reading : (v w : Visit) (a : Access) → In a (reads v.body) → written w ≡ cell_of a v.point → Meet v w
meets_reading v w a h e =
    let p = place_of (reads v.body) a h in (
      suc p.0,
      0,
      record { first = a; second = w.body.place; is_first = p.1; is_second = refl; writes = inr refl; cell = sym e },
    )

-- two visits that do not conflict, in either order
pub visits_commute : (es rows : List (List ℕ)) (v w : Visit) → IsShaped es rows → IsVisitInside es v
    → IsVisitInside es w → (Meet v w → ⊥)
    → performed es (performed es rows v) w ≡ performed es (performed es rows w) v
visits_commute es rows v w shape in_v in_w apart =
    let c = written v in
    let d = written w in
    let x = value_stored_by es rows v.body v.point in
    let y = value_stored_by es rows w.body w.point in
    let is_c : IsCell es c = in_v v.body.place (inl refl) in
    let is_d : IsCell es d = in_w w.body.place (inl refl) in
    ap (stored es (stored es rows c x) d)
    (same_value es rows c x w shape is_c in_w (λ a h e. apart (meets_read v w a h e)))
    ∙ (stores_commute es rows c d x y shape is_c is_d (λ e. apart (meets_written v w e))
    ∙ ap (stored es (stored es rows d y) c)
    (sym (same_value es rows d y v shape is_d in_v (λ a h e. apart (meets_reading v w a h e)))))
