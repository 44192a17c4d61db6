-- The marks of cells and the numbers of places, one place more.
use Rattle.scop_syntax.proofs.Common.{◌≡◌, ◌<◌, ◌+◌, ◌*◌, ℕ, suc, Bool, true, false, ℤ, List, [], ◌++◌, Some, ap, ap₂}
use Rattle.scop_syntax.proofs.Common.{refl, sym, ◌∙◌, arith, length, get_or, take, Option, slice_get, slice_index_or}
use Rattle.scop_syntax.proofs.Common.{slice_set, nat_eq, if◌then◌else◌, eqb-true, eqb-false, get_or-set_other}
use Rattle.scop_syntax.proofs.Common.{get_or-set_same, Cell, written, IsCell, cell_number, offset_from, total_cells}
use Rattle.scop_syntax.proofs.Common.{Visit, last_of, last_writer, writes, nat_cases, cell_same, same_cells}
use Rattle.std.proofs.lemmas.List.{length-append}
use Rattle.scop_syntax.specs.Writers.{same_cell}
use Rattle.expansions.specs.Expansions.{number_of}
use Rattle.expansions.specs.steps.Marks.{AreKept, IsMarked, firsts}
use Rattle.expansions.proofs.Firsts.{at_back, at_front, firsts_at, firsts_long}

-- cells of one number are one
abbrev pub HaveOwnNumbers : Type 0
HaveOwnNumbers = (extents : List (List ℕ)) (c d : Cell) → IsCell extents c → IsCell extents d
    → cell_number extents c ≡ cell_number extents d → c ≡ d

-- before all places
pub none_kept : (extents : List (List ℕ)) (visits : List Visit) (most : ℕ) → AreKept extents visits most 0 [] []
none_kept extents visits most = record {
  marks_are = λ c i. refl;
  count = omega arith;
  sources = λ j r less few. absurd (omega (arith, less));
}

module _ (extents : List (List ℕ)) (visits : List Visit) (n : ℕ) (v : Visit) (at : slice_get visits n ≡ Some v) where
  -- whether the place has written the cell tells the cell's last writer
  by_writing : (c : Cell) (b : Bool) → same_cell (written v) c ≡ b
      → (if b then Some n else last_writer visits n c) ≡ last_writer visits (suc n) c
  by_writing c b e =
      let wrote : writes (slice_get visits n) c ≡ b = ap (λ (o : Option Visit). writes o c) at ∙ e in
      sym (ap (λ (d : Bool). if d then Some n else last_writer visits n c) wrote)

  -- so does the number of the cell that it writes
  same_number : HaveOwnNumbers → (c : Cell) (b : Bool) → IsCell extents (written v) → IsCell extents c
      → nat_eq (cell_number extents (written v)) (cell_number extents c) ≡ b → same_cell (written v) c ≡ b
  same_number own c true inside there e =
      let same : written v ≡ c = own extents (written v) c inside there
      (eqb-true (cell_number extents (written v)) (cell_number extents c) e) in
      same_cells (written v) c (ap (λ (d : Cell). d.array) same) (ap (λ (d : Cell). d.subscripts) same)
  same_number own c false inside there e = by_test (same_cell (written v) c) refl
    where
      by_test : (b : Bool) → same_cell (written v) c ≡ b → same_cell (written v) c ≡ false
      by_test true s =
          let two = cell_same (written v) c s in
          absurd (eqb-false (cell_number extents (written v)) (cell_number extents c) e
          (ap₂ (λ (a : ℕ) (ss : List ℤ). total_cells (take a extents) + offset_from 0 (slice_index_or extents a []) ss)
          two.0 two.1))
      by_test false s = s

  marked_more : HaveOwnNumbers → (marks after : List ℕ) → IsCell extents (written v)
      → IsMarked (cell_number extents (written v)) n marks after
      → ((c : Cell) → IsCell extents c → get_or marks (cell_number extents c) 0 ≡ number_of (last_writer visits n c))
      → (c : Cell) → IsCell extents c → get_or after (cell_number extents c) 0 ≡ number_of (last_writer visits (suc n) c)
  marked_more own marks after inside marked are c there =
      marked (cell_number extents c)
      ∙ by_test (nat_eq (cell_number extents (written v)) (cell_number extents c)) refl
    where
      by_test : (b : Bool) → nat_eq (cell_number extents (written v)) (cell_number extents c) ≡ b
          → (if b then suc n else get_or marks (cell_number extents c) 0) ≡ number_of (last_writer visits (suc n) c)
      by_test true e = ap number_of (by_writing c true (same_number own c true inside there e))
      by_test false e =
          are c there ∙ ap number_of (by_writing c false (same_number own c false inside there e))

  -- a place more
  pub kept_more : HaveOwnNumbers → (most : ℕ) (marks after numbers new : List ℕ) (f : ℕ → ℕ)
      → IsCell extents (written v) → IsMarked (cell_number extents (written v)) n marks after
      → new ≡ numbers ++ firsts f most
      → ((r : ℕ) → r < most → f r ≡ number_of (last_of visits n (suc r)))
      → AreKept extents visits most n marks numbers → AreKept extents visits most (suc n) after new
  kept_more own most marks after numbers new f inside marked is told kept =
      let count = kept.count in
      let long = firsts_long f most in
      let both = length-append numbers (firsts f most) in
      let whole = ap (λ (xs : List ℕ). length xs) is in
      let turn : suc n * most ≡ n * most + most = omega arith in
      record {
        marks_are = marked_more own marks after inside marked kept.marks_are;
        count = omega (arith, count, long, both, whole, turn);
        sources = λ j r less few. ap (λ (xs : List ℕ). slice_get xs (j * most + r)) is
            ∙ nat_cases j n
            (λ l. at_front numbers (firsts f most) (j * most + r) (number_of (last_of visits j (suc r)))
            (kept.sources j r l few))
            (λ e. ap (λ (k : ℕ). slice_get (numbers ++ firsts f most) k)
            (ap (λ (k : ℕ). k * most + r) e ∙ ap (λ (k : ℕ). k + r) (sym count))
            ∙ (at_back numbers (firsts f most) r
            ∙ (firsts_at f most r few
            ∙ (ap Some (told r few) ∙ ap (λ (k : ℕ). Some (number_of (last_of visits k (suc r)))) (sym e)))))
            (λ l. absurd (omega (arith, l, less)));
      }

-- a place's mark
pub is_marked : (cell place mark : ℕ) (before middle : List ℕ) → cell < length middle
    → ((c : ℕ) → get_or middle c 0 ≡ get_or before c 0) → mark ≡ suc place
    → IsMarked cell place before (slice_set middle cell mark)
is_marked cell place mark before middle inside same is c = by_test (nat_eq cell c) refl
  where
    by_test : (b : Bool) → nat_eq cell c ≡ b
        → get_or (slice_set middle cell mark) c 0 ≡ (if b then suc place else get_or before c 0)
    by_test true e =
        ap (λ (k : ℕ). get_or (slice_set middle cell mark) k 0) (sym (eqb-true cell c e))
        ∙ (get_or-set_same middle cell mark 0 inside ∙ is)
    by_test false e =
        get_or-set_other middle cell c mark 0 (λ k. eqb-false cell c e (sym k)) ∙ same c
