-- A row in which the copies of a walk's places are put, one after another, into the cells that these places write: its
-- front then has the arrays as the kernel's own execution leaves them (`none_settled`, `one_settled`, `all_settled`).
use Rattle.scop_syntax.proofs.Common.{◌≡◌, ◌∙◌, ℕ, zero, suc, ◌+◌, ◌<◌, ◌≤◌, List, [], ◌∷◌, ◌++◌, length, map, take}
use Rattle.scop_syntax.proofs.Common.{get_or, set, Some, ap, ap₂, arith, refl, sym, slice_get, length-map, length-set}
use Rattle.scop_syntax.proofs.Common.{take_all, slice_get_within, Cell, written, AreInside, IsCell, IsShaped}
use Rattle.scop_syntax.proofs.Common.{before_place, cell_count, cell_number, offset_of, performed_all, total_cells}
use Rattle.scop_syntax.proofs.Common.{value_stored, value_stored_at, Instance, Visit, instance, offset_below}
use Rattle.scop_syntax.proofs.Common.{shape_before, written_inside, there_is, StandOnce, walked_distinct}
use Rattle.scop_syntax.specs.Execution.{stored}
use Rattle.scop_syntax.proofs.Writers.{before_next}
use Rattle.tile_core.specs.Plans.{extents_in, places_in, plain_shape, program_in, walk_in}
use Rattle.tile_core.specs.Ranks.{place_in}
use Rattle.tile_core.specs.declared.plan.Plan.{Plan}
use Rattle.tile_core.proofs.Ranks.{place_is}
use Rattle.tile_events.specs.Flat.{flat, written_by}

set_front : (xs ys : List ℕ) (k x : ℕ) → k < length xs → set (xs ++ ys) k x ≡ set xs k x ++ ys
set_front [] ys k x l = absurd (omega (arith, l))
set_front (a ∷ xs) ys zero x l = refl
set_front (a ∷ xs) ys (suc k) x l = ap (λ zs. a ∷ zs) (set_front xs ys k x (omega (arith, l)))

set_behind : (xs ys : List ℕ) (m k x : ℕ) → m ≡ length xs + k → set (xs ++ ys) m x ≡ xs ++ set ys k x
set_behind [] ys m k x e = ap (λ n. set ys n x) (let q : m ≡ k = omega (arith, e) in q)
set_behind (a ∷ xs) ys zero k x e = absurd (omega (arith, e))
set_behind (a ∷ xs) ys (suc m) k x e = ap (λ zs. a ∷ zs) (set_behind xs ys m k x (omega (arith, e)))

row_set : (es rows : List (List ℕ)) (a s m x : ℕ) → map length rows ≡ map cell_count es → a < length es
    → s < cell_count (get_or es a []) → m ≡ total_cells (take a es) + s
    → set (flat rows) m x ≡ flat (set rows a (set (get_or rows a []) s x))
row_set [] rows a s m x e l n at = absurd (omega (arith, l))
row_set (d ∷ es) [] a s m x e l n at = absurd cc
row_set (d ∷ es) (r ∷ rows) zero s m x e l n at =
    let h : length r ≡ cell_count d = cc in
    ap (λ i. set (r ++ flat rows) i x) (let q : m ≡ s = omega (arith, at) in q)
    ∙ set_front r (flat rows) s x (omega (arith, h, n))
row_set (d ∷ es) (r ∷ rows) (suc a) s m x e l n at =
    let h : length r ≡ cell_count d = cc in
    let t : map length rows ≡ map cell_count es = cc in
    set_behind r (flat rows) m (total_cells (take a es) + s) x (omega (arith, at, h))
    ∙ ap (λ ys. r ++ ys) (row_set es rows a s (total_cells (take a es) + s) x t (omega (arith, l)) n refl)

-- the row of arrays in which a cell has another value
stored_flat : (es rows : List (List ℕ)) (c : Cell) (x : ℕ) → IsShaped es rows → IsCell es c
    → set (flat rows) (cell_number es c) x ≡ flat (stored es rows c x)
stored_flat es rows c x shape is =
    let below = offset_below (get_or es c.array []) 0 c.subscripts is.subscripts in
    row_set es rows c.array (offset_of es c) (cell_number es c) x shape is.array (omega (arith, below)) refl

take_set : (n k : ℕ) (xs : List ℕ) (x : ℕ) → take n (set xs k x) ≡ set (take n xs) k x
take_set zero k xs x = refl
take_set (suc n) k [] x = refl
take_set (suc n) zero (a ∷ xs) x = refl
take_set (suc n) (suc k) (a ∷ xs) x = ap (λ zs. a ∷ zs) (take_set n k xs x)

set_other : (xs : List ℕ) (k i x : ℕ) → k < i → get_or (set xs k x) i 0 ≡ get_or xs i 0
set_other [] k i x l = refl
set_other (a ∷ xs) zero zero x l = absurd (omega (arith, l))
set_other (a ∷ xs) zero (suc i) x l = refl
set_other (a ∷ xs) (suc k) zero x l = absurd (omega (arith, l))
set_other (a ∷ xs) (suc k) (suc i) x l = set_other xs k i x (omega (arith, l))

-- where the old row has arrays of these extents in front, and behind them what each place stores, the copies of n
-- places stand in their cells, and those behind all arrays as they stood
pub record IsSettled (es : List (List ℕ)) (visits : List Visit) (old : List ℕ) (n : ℕ) (row : List ℕ) : Type 0 where
  pub long : length row ≡ length old
  pub front : (contents : List (List ℕ)) → IsShaped es contents → take (total_cells es) old ≡ flat contents
      → ((j : ℕ) → j < length visits → get_or old (total_cells es + j) 0 ≡ value_stored_at es contents visits j)
      → take (total_cells es) row ≡ flat (before_place es contents visits n)
  pub copies : (k : ℕ) → total_cells es ≤ k → get_or row k 0 ≡ get_or old k 0

pub none_settled : (es : List (List ℕ)) (visits : List Visit) (old : List ℕ) → IsSettled es visits old 0 old
none_settled es visits old = record {
  long = refl;
  front = λ contents shape kept copies. kept;
  copies = λ k l. refl;
}

-- each cell of arrays of some extents has a number below their total
abbrev pub CellsAreBelow : Type 0
CellsAreBelow = (extents : List (List ℕ)) (c : Cell) → IsCell extents c → cell_number extents c < total_cells extents

pub one_settled : CellsAreBelow → (es : List (List ℕ)) (visits : List Visit) (old row : List ℕ) (n c : ℕ) (v : Visit)
    → AreInside es visits → slice_get visits n ≡ Some v → c ≡ cell_number es (written v)
    → IsSettled es visits old n row
    → IsSettled es visits old (suc n) (set row c (get_or row (total_cells es + n) 0))
one_settled below es visits old row n c v inside found at settled =
    let total = total_cells es in
    let x = get_or row (total + n) 0 in
    let is = written_inside es visits n v inside found in
    let less = below es (written v) is in
    let within = slice_get_within visits n v found in
    record {
      long = length-set row c x ∙ settled.long;
      front = λ contents shape kept copies.
          let rows = before_place es contents visits n in
          let shaped = shape_before es contents visits n (omega (arith, within)) shape in
          let value : x ≡ value_stored_at es contents visits n =
          settled.copies (total + n) (omega arith) ∙ copies n within in
          take_set total c row x
          ∙ (ap (λ ys. set ys c x) (settled.front contents shape kept copies)
          ∙ (ap₂ (λ (k y : ℕ). set (flat rows) k y) at value
          ∙ (stored_flat es rows (written v) (value_stored_at es contents visits n) shaped is
          ∙ ap flat (ap (λ o. stored es rows (written v) (value_stored es rows o)) found
          ∙ sym (before_next es contents visits n v found)))));
      copies = λ k l. set_other row c k x (omega (arith, at, less, l)) ∙ settled.copies k l;
    }

pub all_settled : (es : List (List ℕ)) (visits : List Visit) (old row : List ℕ) (n : ℕ) (contents : List (List ℕ))
    → length visits ≤ n → IsSettled es visits old n row → IsShaped es contents
    → take (total_cells es) old ≡ flat contents
    → ((j : ℕ) → j < length visits → get_or old (total_cells es + j) 0 ≡ value_stored_at es contents visits j)
    → take (total_cells es) row ≡ flat (performed_all es contents visits)
all_settled es visits old row n contents end settled shape kept copies =
    settled.front contents shape kept copies
    ∙ ap (λ vs. flat (performed_all es contents vs)) (take_all n visits end)

-- the visit at a place of the walk, and the cell that the plan writes there where it has no copies
pub record IsVisitAt (plan : Plan) (n : ℕ) (x : Instance) : Type 0 where
  pub visit : Visit
  pub at : slice_get (walk_in plan) n ≡ Some visit
  pub cell : (plain_shape plan).written (place_in (places_in plan) x) ≡ cell_number (extents_in plan) (written visit)

pub visit_there : (plan : Plan) → StandOnce (program_in plan) plan.params.now → (n : ℕ) (x : Instance)
    → slice_get (places_in plan) n ≡ Some x → IsVisitAt plan n x
visit_there plan once n x at =
    let place = place_is (places_in plan) n x (walked_distinct (program_in plan) plan.params.now once) at in
    let less = slice_get_within (places_in plan) n x at in
    let long = length-map (walk_in plan) instance in
    let there = there_is (walk_in plan) n (omega (arith, less, long)) in
    record {
      visit = there.0;
      at = there.1;
      cell = ap (λ (k : ℕ). written_by (extents_in plan) (slice_get (walk_in plan) k)) place
          ∙ ap (written_by (extents_in plan)) there.1;
    }

-- that cell is one of all arrays
pub cell_within : CellsAreBelow → (plan : Plan) (n : ℕ) (x : Instance) → AreInside (extents_in plan) (walk_in plan)
    → (is : IsVisitAt plan n x) → cell_number (extents_in plan) (written is.visit) < total_cells (extents_in plan)
cell_within below plan n x inside is =
    below (extents_in plan) (written is.visit) (written_inside (extents_in plan) (walk_in plan) n is.visit inside is.at)
