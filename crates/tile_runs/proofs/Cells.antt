-- The cells of all arrays in one row, each of a number below the total; the arrays that a row holds; execution keeps
-- the shape.
use Rattle.scop_syntax.proofs.Common.{◌≡◌, ◌∙◌, ℕ, zero, suc, ◌+◌, ◌*◌, ◌-◌, ◌/◌, ◌%◌, ◌<◌, ◌≤◌, ℤ, pos, List, [], ◌∷◌}
use Rattle.scop_syntax.proofs.Common.{◌++◌, length, map, take, drop, get_or, set, ap, ap₂, sym, refl, subst, arith}
use Rattle.scop_syntax.proofs.Common.{add-one, drop-cons, append_assoc, add-mul, mul_assoc, mul-le-mul_right}
use Rattle.scop_syntax.proofs.Common.{length-append, append-nil, ints, get_or-map, length-map, length-take-le, take_all}
use Rattle.scop_syntax.proofs.Common.{drop-append_seam, map-set_same, take-append_seam, take-length, Cell, AreWithin}
use Rattle.scop_syntax.proofs.Common.{IsCell, IsShaped, cell_count, cell_number, exec, held, layout, performed_all}
use Rattle.scop_syntax.proofs.Common.{offset_from, total_cells, Program, walk_of, nat_cases, shape_before}
use Rattle.std.proofs.Common.{length-drop, drop-drop}
use Rattle.std.proofs.lemmas.Grind.{same_number_lists}
use Rattle.std.proofs.lemmas.List.{drop-set-lt, take_more_set}
use Rattle.std.proofs.Math.ListN.{drop_of_length-le}
use Rattle.std.proofs.Math.Nat.{div-add-mod}
use Rattle.tile_events.specs.Flat.{flat}
use Rattle.tile_events.proofs.Flat.{flat_holds}

-- a number below a product, by its quotient and its remainder
quotient_below : (e n k : ℕ) → k < e * n → 0 < n → k / n < e
quotient_below e n k less some =
    let parts = div-add-mod k n in
    nat_cases (k / n) e (λ l. l) (λ s. absurd (over (omega (arith, s)))) (λ l. absurd (over (omega (arith, l))))
  where
    over : e ≤ k / n → ⊥
    over l =
        let more : e * n ≤ k / n * n = mul-le-mul_right n l in
        let parts = div-add-mod k n in
        omega (arith, more, parts, less)

-- each number below an array's count is the offset of some subscripts
subscripts_at : (es : List ℕ) (o k : ℕ) → k < cell_count es
    → (ss : List ℤ) × AreWithin ss es × (offset_from o es ss ≡ o * cell_count es + k)
subscripts_at [] o k less = ([], tt, omega arith)
subscripts_at (e ∷ es) o k less =
    let n = cell_count es in
    let some : 0 < n = above (cell_count es) refl in
    let rest = subscripts_at es (o * e + k / n) (k % n) (omega (arith, some)) in
    let parts = div-add-mod k n in
    let spread = add-mul (o * e) (k / n) n in
    let same = mul_assoc o e n in (
      pos (k / n) ∷ rest.0,
      (omega (arith, ints), (let q = quotient_below e n k less some in omega (arith, ints, q)), rest.1),
      let r = rest.2 in omega (arith, r, parts, spread, same),
    )
  where
    above : (n : ℕ) → n ≡ cell_count es → 0 < n
    above zero none = absurd (let z = ap (λ (m : ℕ). e * m) none in let l = less in omega (arith, z, l))
    above (suc n) some = omega arith

-- each number below the total is that of a cell
pub cell_with : (es : List (List ℕ)) (m : ℕ) → m < total_cells es → (c : Cell) × IsCell es c × (cell_number es c ≡ m)
cell_with [] m less = absurd (omega (arith, less))
cell_with (x ∷ es) m less =
    nat_cases m (cell_count x) here
    (λ s. behind (omega (arith, s)) (cell_with es (m - cell_count x) (omega (arith, s, less))))
    (λ l. behind (omega (arith, l)) (cell_with es (m - cell_count x) (omega (arith, l, less))))
  where
    here : m < cell_count x → (c : Cell) × IsCell (x ∷ es) c × (cell_number (x ∷ es) c ≡ m)
    here l =
        let s = subscripts_at x 0 m l in
        let at = s.2 in
        (record { array = 0; subscripts = s.0 }, record { array = omega arith; subscripts = s.1 }, omega (arith, at))

    behind : cell_count x ≤ m → (c : Cell) × IsCell es c × (cell_number es c ≡ m - cell_count x)
        → (c : Cell) × IsCell (x ∷ es) c × (cell_number (x ∷ es) c ≡ m)
    behind l r =
        let array = r.1.array in
        let at = r.2 in (
          record { array = suc r.0.array; subscripts = r.0.subscripts },
          record { array = omega (arith, array); subscripts = r.1.subscripts },
          omega (arith, at, l),
        )

-- the row of arrays is as long as they have cells
pub flat_long : (es contents : List (List ℕ)) → IsShaped es contents → length (flat contents) ≡ total_cells es
flat_long [] [] shape = refl
flat_long [] (r ∷ rows) shape = absurd (let e = ap length shape in omega (arith, e))
flat_long (x ∷ es) [] shape = absurd (let e = ap length shape in omega (arith, e))
flat_long (x ∷ es) (r ∷ rows) shape =
    let here : length r ≡ cell_count x = cc in
    let rest : map length rows ≡ map cell_count es = cc in
    let long = flat_long es rows rest in
    let both = length-append r (flat rows) in
    omega (arith, here, long, both)

-- execution leaves each array as long as it was
pub shape_executed : (program : Program) (params : List ℤ) (contents : List (List ℕ))
    → IsShaped (layout program params) contents → IsShaped (layout program params) (exec program params contents)
shape_executed program params contents shape =
    let visits = walk_of program params in
    let es = layout program params in
    subst (λ vs. IsShaped es (performed_all es contents vs)) (take-length visits)
    (shape_before es contents visits (length visits) (omega arith) shape)

-- a row that holds in each cell what arrays hold is theirs
pub row_is : (es contents : List (List ℕ)) (row : List ℕ) → IsShaped es contents → length row ≡ total_cells es
    → ((c : Cell) → IsCell es c → get_or row (cell_number es c) 0 ≡ held es contents c) → row ≡ flat contents
row_is es contents row shape long holds =
    let all = flat_long es contents shape in
    same_number_lists row (flat contents) (omega (arith, long, all))
    (λ k less.
    let c = cell_with es k (omega (arith, less, long)) in
    subst (λ (m : ℕ). get_or row m 0 ≡ get_or (flat contents) m 0) c.2
    (holds c.0 c.1 ∙ sym (flat_holds es contents c.0 shape c.1)))

-- the first arrays are back from a row, behind which those of the others stand, where it holds arrays of this shape
pub record IsBack (initial : List (List ℕ)) (row : List ℕ) (k start : ℕ) (rows : List (List ℕ)) : Type 0 where
  pub shape : map length rows ≡ map length initial
  pub room : start + length (flat (drop k rows)) ≡ length row
  pub done : (contents : List (List ℕ)) → map length contents ≡ map length initial → row ≡ flat contents
      → (take k rows ++ drop k contents ≡ contents) × (drop start row ≡ flat (drop k contents))

-- arrays of one shape have one length, and so have the two at one place
as_long : (rows contents : List (List ℕ)) (k : ℕ) → map length contents ≡ map length rows → k < length rows
    → (k < length contents) × (length (get_or contents k []) ≡ length (get_or rows k []))
as_long rows contents k same here =
    let count = ap length same in
    let left = length-map contents length in
    let right = length-map rows length in
    let there : k < length contents = omega (arith, count, left, right, here) in (
      there,
      sym (get_or-map length contents k [] 0 there)
          ∙ (ap (λ ls. get_or ls k 0) same ∙ get_or-map length rows k [] 0 here),
    )

as_far : (initial rows : List (List ℕ)) (k : ℕ) → k < length initial → map length rows ≡ map length initial
    → k < length rows
as_far initial rows k within shape = (as_long initial rows k shape within).0

-- one array more
pub back_next : (initial : List (List ℕ)) (row : List ℕ) (k start count : ℕ) (rows : List (List ℕ)) (cells : List ℕ)
    → k < length initial → count ≡ length (get_or rows k []) → cells ≡ take count (drop start row)
    → IsBack initial row k start rows
    → IsBack initial row (k + 1) (start + count) (set rows k cells)
back_next initial row k start count rows cells within long is back =
    let here : k < length rows = as_far initial rows k within back.shape in
    let cons = ap (λ rs. length (flat rs)) (drop-cons rows k [] here) in
    let both = length-append (get_or rows k []) (flat (drop (suc k) rows)) in
    let room = back.room in
    let rest = length-drop start row in
    let as_many : length cells ≡ count =
    ap length is ∙ length-take-le count (drop start row) (omega (arith, cons, both, room, rest, long)) in record {
      shape = map-set_same length rows k cells [] (as_many ∙ long) ∙ back.shape;
      room =
          let behind = ap (λ rs. length (flat rs)) (drop-set-lt (suc k) rows k cells (omega arith)) in
          let next = ap (λ n. length (flat (drop n (set rows k cells)))) (add-one k) in
          omega (arith, cons, both, behind, next, room, long);
      done = λ contents same holds.
          let far = back.done contents same holds in
          let both = as_long rows contents k (same ∙ sym back.shape) here in
          let at : drop start row ≡ get_or contents k [] ++ flat (drop (suc k) contents) =
          far.1 ∙ ap flat (drop-cons contents k [] both.0) in
          let n : count ≡ length (get_or contents k []) = long ∙ sym both.1 in
          let row_is : cells ≡ get_or contents k [] = is
          ∙ (ap₂ (λ (m : ℕ) (xs : List ℕ). take m xs) n at ∙ take-append_seam (get_or contents k []) _) in (
            ap (λ xs. xs ++ drop (k + 1) contents) (take_more_set rows k cells here)
                ∙ (append_assoc (take k rows) (cells ∷ []) (drop (k + 1) contents)
                ∙ (ap (λ xs. take k rows ++ xs)
                (ap₂ (λ (x : List ℕ) (m : ℕ). x ∷ drop m contents) row_is (add-one k)
                ∙ sym (drop-cons contents k [] both.0))
                ∙ far.0)),
            sym (drop-drop count start row)
                ∙ (ap₂ (λ (m : ℕ) (xs : List ℕ). drop m xs) n at
                ∙ (drop-append_seam (get_or contents k []) _ ∙ ap (λ m. flat (drop m contents)) (sym (add-one k)))),
          );
    }

-- at the end all are back
pub all_back : (initial : List (List ℕ)) (row : List ℕ) (k start : ℕ) (rows contents : List (List ℕ))
    → IsBack initial row k start rows → length initial ≤ k → map length contents ≡ map length initial
    → row ≡ flat contents → rows ≡ contents
all_back initial row k start rows contents back end same holds =
    let far = back.done contents same holds in
    let shape = ap length (same ∙ sym back.shape) in
    let middle = ap length back.shape in
    let first = length-map initial length in
    let left = length-map contents length in
    let right = length-map rows length in
    sym (ap₂ (λ (xs ys : List (List ℕ)). xs ++ ys) (take_all k rows (omega (arith, middle, first, right, end)))
    (drop_of_length-le contents (omega (arith, shape, middle, first, left, right, end))) ∙ append-nil rows) ∙ far.0
