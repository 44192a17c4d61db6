-- A pass over the walk goes on by one place.
use Rattle.scop_syntax.proofs.Common.{◌≡◌, ◌<◌, ℕ, zero, suc, ℤ, Bool, List, [], ◌∷◌, ◌++◌, Some, ap, ap₂}
use Rattle.scop_syntax.proofs.Common.{sym, refl, ◌∙◌, subst, arith, length, map, get_or, slice_get}
use Rattle.scop_syntax.proofs.Common.{length-map, slice_get_within, value_of, accesses}
use Rattle.scop_syntax.proofs.Common.{cell_of, reads, cell_number, layout, In, Sorted, Program}
use Rattle.scop_syntax.proofs.Common.{wrapped, Instance, Visit, instance, walk_of}
use Rattle.tile_table.specs.declared.table.Row.{Row}
use Rattle.tile_table.specs.declared.table.Table.{Table}
use Rattle.tile_table.proofs.NextPlaces.{AreSmall, NextPlace, as_many, next_place, next_row, none_left, same_row, told_at}
use Rattle.tile_table.proofs.Visits.{WalkLaws}
use Rattle.loop_tree.specs.Tiling.{Tiling}
use Rattle.tile_list.specs.declared.list.TileList.{TileList}
use Rattle.tile_events.specs.Flat.{read_by, written_by}
use Rattle.tile_edges.specs.Edges.{IsTileOf}
use Rattle.tile_edges.specs.steps.Rows.{AreKept, joined, rows_in}
use Rattle.tile_edges.specs.steps.Touches.{AreEven, marks_in, readers_in}
use Rattle.tile_edges.specs.steps.Traces.{AreTraces, met_at}
use Rattle.tile_edges.specs.steps.Walks.{AreFound, CanPass, CanTake, HasPassed, HasTaken, IsOnItsWay, IsTaken, cells_at}
use Rattle.tile_edges.specs.steps.Walks.{held_by, touched}
use Rattle.tile_edges.specs.declared.pairing.Pairs.{Pairs}
use Rattle.tile_edges.specs.declared.touching.Traces.{Traces}
use Rattle.tile_edges.proofs.Traces.{met_place, none_traced, pairs_more, traced_more}

-- two lists that give the same numbers
mapped_same : {A B : Type 0} (f : A → ℕ) (g : B → ℕ) (xs : List A) (ys : List B) → length xs ≡ length ys
    → ((a : ℕ) (x : A) (y : B) → slice_get xs a ≡ Some x → slice_get ys a ≡ Some y → f x ≡ g y)
    → map f xs ≡ map g ys
mapped_same f g [] [] e h = refl
mapped_same f g [] (y ∷ ys) e h = absurd (omega (arith, e))
mapped_same f g (x ∷ xs) [] e h = absurd (omega (arith, e))
mapped_same f g (x ∷ xs) (y ∷ ys) e h =
    ap₂ (λ (n : ℕ) (ns : List ℕ). n ∷ ns) (h 0 x y refl refl)
    (mapped_same f g xs ys (omega (arith, e)) (λ a u v hu hv. h (suc a) u v hu hv))

fused : {A B : Type 0} (f : B → ℕ) (g : A → B) (xs : List A) → map (λ a. f (g a)) xs ≡ map f (map g xs)
fused f g [] = refl
fused f g (x ∷ xs) = ap (λ (ns : List ℕ). f (g x) ∷ ns) (fused f g xs)

module _ (flow : Bool) (program : Program) (params : List ℤ) (tiling : Tiling) (list : TileList) (table : Table)
    (can : CanPass program params tiling list table) where
  abbrev walk : List Visit
  walk = walk_of program params

  module _ (laws : WalkLaws) (small : AreSmall) where
    -- the row tells the cells of the place
    pub cells_told : (n : ℕ) (x : Instance) (rest : List Instance) (next : NextPlace program params n x rest)
        (row : Row) → slice_get table.rows.items x.number ≡ Some row
        → cells_at row x.turns ≡ (touched program params).written n ∷ (touched program params).read n
    cells_told n x rest next row told =
        let v = next.visit in
        let extents = layout program params in
        let has = next_row program params table can.told laws n x rest next in
        let numbers = mapped_same (λ form. wrapped (value_of form x.turns))
        (λ access. cell_number extents (cell_of access v.point)) has.row.cells.items (accesses v.body)
        (as_many program params table can.told laws n x rest next)
        (λ a form access formed accessed. (told_at program params table can.told laws can.limits can.inside small n x rest
        next a access form accessed formed).1) in
        ap (λ (r : Row). cells_at r x.turns) (sym (same_row program params table can.told laws n x rest next row told))
        ∙ (numbers
        ∙ (ap (λ (ns : List ℕ). cell_number extents (cell_of v.body.place v.point) ∷ ns)
        (fused (cell_number extents) (λ access. cell_of access v.point) (reads v.body))
        ∙ sym (ap (λ o. written_by extents o ∷ read_by extents [] o) next.at)))

  -- a place can be taken
  pub can_take : (n : ℕ) (kept : Traces) (found : Pairs) (cells : List ℕ)
      → HasPassed flow program params tiling list n kept found
      → cells ≡ (touched program params).written n ∷ (touched program params).read n
      → CanTake flow cells kept found
  can_take n kept found cells passed are = record {
    even = passed.even;
    kept_is = passed.kept_is;
    tiles = λ w rs e t i.
        let both : w ∷ rs ≡ (touched program params).written n ∷ (touched program params).read n =
        sym e ∙ are in
        let first : w ≡ (touched program params).written n = cc in
        let others : rs ≡ (touched program params).read n = cc in
        let met_there = subst (λ c. In t (met_at flow (marks_in kept) (readers_in kept) c
        ((touched program params).read n))) first
        (subst (λ cs. In t (met_at flow (marks_in kept) (readers_in kept) w cs)) others i) in
        let place = met_place (held_by program params tiling list) (touched program params) n (marks_in kept)
        (readers_in kept) flow passed.traces t met_there in
        let tile = place.2.tile in
        let less = slice_get_within list.tiles.items t tile.tile tile.is in
        let long = passed.long in
        omega (arith, less, long);
  }

  -- and when it has been, the pass has gone on
  pub gone_on : (n : ℕ) (x : Instance) (rest : List Instance) → NextPlace program params n x rest
      → (kept kept_then : Traces) (found found_then : Pairs) → HasPassed flow program params tiling list n kept found
      → (cells : List ℕ) → cells ≡ (touched program params).written n ∷ (touched program params).read n
      → IsTaken flow tiling list x cells kept found kept_then found_then
      → IsOnItsWay flow program params tiling list rest kept_then found_then
  gone_on n x rest next kept kept_then found found_then passed cells are took =
      let p = touched program params in
      let H = held_by program params tiling list in
      let holds : H took.tile n = record {
        visit = next.visit;
        is = next.at;
        tile = subst (IsTileOf tiling list took.tile) (sym next.same) took.is;
      } in
      let gains = took.taken.gains (p.written n) (p.read n) are in
      let long = passed.long in
      let same = gains.long in
      let seen = length-map found.rows.items (λ s. s.keys) in
      let seen_then = length-map found_then.rows.items (λ s. s.keys) in
      let less = slice_get_within walk n next.visit next.at in
      record {
        done = suc n;
        within = omega (arith, less);
        left = next.left;
        passed = record {
          even = took.taken.even;
          traces = traced_more H p n flow took.tile (marks_in kept) (marks_in kept_then) (readers_in kept)
              (readers_in kept_then) holds passed.traces (took.taken.visited (p.written n) (p.read n) are);
          pairs = pairs_more H p n (marks_in kept) (readers_in kept) flow took.tile (rows_in found) (rows_in found_then)
              holds passed.traces passed.pairs gains;
          rises = gains.rises passed.rises;
          kept_is = took.taken.kept_is;
          long = omega (arith, long, same, seen, seen_then);
        };
      }

  -- what a pass has found where it ends
  pub found_all : (most : ℕ) (all : List Instance) (kept : Traces) (found : Pairs) → all ≡ []
      → IsOnItsWay flow program params tiling list all kept found → AreFound flow program params tiling list most found
  found_all most all kept found none way =
      let past = none_left (map instance walk) way.done (sym none ∙ way.left) in
      let long = length-map walk instance in
      let within = way.within in
      record {
        done = way.done;
        within = way.within;
        all = λ few. omega (arith, past, long, within);
        pairs = way.passed.pairs;
        rises = way.passed.rises;
        count = way.passed.kept_is.count;
        long = way.passed.long;
      }

  -- and where it stops
  pub found_many : (most : ℕ) (rest : List Instance) (kept : Traces) (found : Pairs) → most < found.count
      → IsOnItsWay flow program params tiling list rest kept found → AreFound flow program params tiling list most found
  found_many most rest kept found many way = record {
    done = way.done;
    within = way.within;
    all = λ few. absurd (omega (arith, few, many));
    pairs = way.passed.pairs;
    rises = way.passed.rises;
    count = way.passed.kept_is.count;
    long = way.passed.long;
  }

  module _ (laws : WalkLaws) (small : AreSmall) where
    pub step_on : (x : Instance) (all rest : List Instance) (kept kept_then : Traces) (found found_then : Pairs)
        → all ≡ x ∷ rest → IsOnItsWay flow program params tiling list all kept found
        → ((row : Row) → slice_get table.rows.items x.number ≡ Some row
        → IsTaken flow tiling list x (cells_at row x.turns) kept found kept_then found_then)
        → IsOnItsWay flow program params tiling list rest kept_then found_then
    step_on x all rest kept kept_then found found_then is way took =
        let next = next_place program params way.done x all rest is way.left in
        let has = next_row program params table can.told laws way.done x rest next in
        gone_on way.done x rest next kept kept_then found found_then way.passed (cells_at has.row x.turns)
        (cells_told laws small way.done x rest next has.row has.told) (took has.row has.told)

-- rows without numbers
no_row : (rows : List (List ℕ)) → joined rows ≡ [] → (t : ℕ) → get_or rows t [] ≡ []
no_row [] e zero = refl
no_row [] e (suc t) = refl
no_row (row ∷ rows) e zero = front row e
  where
    front : (xs : List ℕ) → xs ++ joined rows ≡ [] → xs ≡ []
    front [] e = refl
    front (x ∷ xs) e = absurd cc
no_row (row ∷ rows) e (suc t) = no_row rows (back row e) t
  where
    back : (xs : List ℕ) → xs ++ joined rows ≡ [] → joined rows ≡ []
    back [] e = e
    back (x ∷ xs) e = absurd cc

-- before all places
pub none_passed : (flow : Bool) (program : Program) (params : List ℤ) (tiling : Tiling) (list : TileList)
    (kept : Traces) (found : Pairs) → AreEven kept → marks_in kept ≡ [] → readers_in kept ≡ []
    → length found.rows.items ≡ length list.tiles.items → joined (rows_in found) ≡ [] → AreKept found
    → HasPassed flow program params tiling list 0 kept found
none_passed flow program params tiling list kept found even marks readers long none kept_is =
    let H = held_by program params tiling list in
    let p = touched program params in
    record {
      even = even;
      traces = subst (λ ms. AreTraces flow H p 0 ms (readers_in kept)) (sym marks)
          (subst (λ rs. AreTraces flow H p 0 [] rs) (sym readers) (none_traced H p 0 flow));
      pairs = record {
        sound = λ t u i. absurd (subst (λ row. In u row) (no_row (rows_in found) none t) i);
        complete = λ i k less s. absurd (omega (arith, less));
      };
      rises = λ t. subst (λ row. Sorted (λ a b. a < b) row) (sym (no_row (rows_in found) none t)) tt;
      kept_is = kept_is;
      long = long;
    }

-- a place whose cells were told by a row
pub is_taken : (flow : Bool) (tiling : Tiling) (list : TileList) (x : Instance) (kept kept_then : Traces)
    (found found_then : Pairs) (row given : Row) (cells : List ℕ) (turns : List ℤ) (tile : ℕ)
    → IsTileOf tiling list tile x → cells ≡ cells_at given turns → turns ≡ x.turns → Some row ≡ Some given
    → HasTaken flow cells tile kept found kept_then found_then
    → IsTaken flow tiling list x (cells_at row x.turns) kept found kept_then found_then
is_taken flow tiling list x kept kept_then found found_then row given cells turns tile is told at both taken =
    let same : given ≡ row = cc in
    record {
      tile = tile;
      is = is;
      taken = subst (λ cs. HasTaken flow cs tile kept found kept_then found_then)
          (told ∙ ap₂ (λ (r : Row) (ts : List ℤ). cells_at r ts) same at) taken;
    }
