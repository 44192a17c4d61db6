-- A cell's number tells its array (`adds_is`), and where a cell is added to, tiles are opened by waves (`by_waves_alone`).
use Rattle.scop_syntax.proofs.Common.{◌≡◌, ℕ, zero, suc, ◌+◌, ◌-◌, ◌<◌, true, false, List, [], ◌∷◌, length, take}
use Rattle.scop_syntax.proofs.Common.{get_or, ap, refl, ◌∙◌, Option, Some, None, Bor, subst, arith, ⊤, MatchOption}
use Rattle.scop_syntax.proofs.Common.{lt-ltb, le-ltb, Cell, IsCell, cell_count, total_cells, cell_number, offset_of}
use Rattle.scop_syntax.proofs.Common.{is_marked, offset_below}
use Rattle.tile_events.specs.Core.{is_counted}
use Rattle.tile_edges.specs.declared.waiting.TileEdges.{TileEdges}
use Rattle.tile_core.specs.Marks.{array_of, adds_to}
use Rattle.tile_core.specs.Plans.{IsPlan, extents_in, gated, shape_of, walk_shape}
use Rattle.tile_core.specs.declared.plan.Plan.{Plan}

array_at : (es : List (List ℕ)) (a s : ℕ) → a < length es → s < cell_count (get_or es a [])
    → array_of es (total_cells (take a es) + s) ≡ a
array_at [] a s l m = absurd (omega (arith, l))
array_at (x ∷ es) zero s l m = rw (lt-ltb (0 + s) (cell_count x) (omega (arith, m))) refl
array_at (x ∷ es) (suc a) s l m =
    let r : ((cell_count x + total_cells (take a es)) + s) - cell_count x ≡ total_cells (take a es) + s = omega arith in
    rw (le-ltb ((cell_count x + total_cells (take a es)) + s) (cell_count x) (omega arith))
    (ap suc (ap (array_of es) r ∙ array_at es a s (omega (arith, l)) m))

array_is : (es : List (List ℕ)) (c : Cell) → IsCell es c → array_of es (cell_number es c) ≡ c.array
array_is es c is =
    let below = offset_below (get_or es c.array []) 0 c.subscripts is.subscripts in
    array_at es c.array (offset_of es c) is.array (omega (arith, below))

pub adds_is : (es : List (List ℕ)) (marked : List ℕ) (c : Cell) → IsCell es c
    → adds_to es marked (cell_number es c) ≡ is_marked marked c.array
adds_is es marked c is = ap (is_marked marked) (array_is es c is)

-- where no array is marked, no cell is added to
pub none_added : (es : List (List ℕ)) (marked : List ℕ) (c : ℕ) → marked ≡ [] → adds_to es marked c ≡ false
none_added es marked c none = ap (λ (ms : List ℕ). adds_to es ms c) none

module _ (plan : Plan) (c : ℕ) (adds : (walk_shape plan).adds c ≡ true) where
  no_edges_by : (o : Option (Bor TileEdges)) → MatchOption o ⊤ (λ e. plan.marked.now ≡ []) → o ≡ None
  no_edges_by None alone = refl
  no_edges_by (Some e) alone =
      let none : adds_to (extents_in plan) plan.marked.now c ≡ false =
      none_added (extents_in plan) plan.marked.now c alone in
      let some : adds_to (extents_in plan) plan.marked.now c ≡ true = adds in absurd cc

  pub no_edges : IsPlan plan → plan.edges ≡ None
  no_edges is = no_edges_by plan.edges is.alone

  pub by_waves_alone : IsPlan plan → is_counted (shape_of plan).gate ≡ false
  by_waves_alone is = ap (λ (o : Option (Bor TileEdges)). is_counted (gated o (walk_shape plan)).gate) (no_edges is)

-- where tiles are released one by one, no array is marked
pub none_with : (plan : Plan) (e : Bor TileEdges) → plan.edges ≡ Some e → IsPlan plan → plan.marked.now ≡ []
none_with plan e some is =
    subst (λ (o : Option (Bor TileEdges)). MatchOption o ⊤ (λ e. plan.marked.now ≡ [])) some is.alone
