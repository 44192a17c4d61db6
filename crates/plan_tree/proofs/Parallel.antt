-- The parallel loops of a tree that scans a schedule's sets: free of conflicts, over the first tile coordinate.
use Rattle.scop_syntax.proofs.Common.{◌≡◌, ℕ, zero, ◌+◌, ◌<◌, ◌≤◌, Bool, true, false, ℤ, pos, List, [], ◌∷◌, length}
use Rattle.scop_syntax.proofs.Common.{inl, ap, subst, sym, ◌∙◌, refl, arith, Option, None, if◌then◌else◌, In, Program}
use Rattle.scop_syntax.proofs.Common.{Instance, in_map_from}
use Rattle.integer_sets.specs.Scanned.{Scanned}
use Rattle.iteration_domains.specs.Model.{Modelled, model_of}
use Rattle.loop_tree.specs.Marks.{MarksAll, marked}
use Rattle.loop_tree.specs.Plans.{AreFree, AreMarked, Conflict, first_coordinate, has_row, has_rows}
use Rattle.loop_tree.specs.Tiling.{TileRow, Items, items_at, tile_of, wave_of}
use Rattle.loop_tree.specs.Tiling.{tiled, IsGoodPlan}
use Rattle.loop_tree.specs.Tree.{Trees}
use Rattle.loop_tree.specs.Walk.{Visit, given, walk_all}
use Rattle.loop_tree.proofs.Marks.{marks_all}
use Rattle.tile_skew.specs.Items.{Block}
use Rattle.tile_skew.specs.Places.{place_of}
use Rattle.tile_skew.specs.ScanSets.{parallel_place, most_iterators, scan_set, scan_sets}
use Rattle.tile_skew.specs.Tilings.{leading_at, first_band_at, behind_at, statement_items, statements_from}
use Rattle.tile_skew.proofs.TilingAgreement.{items_found}
use Rattle.tile_skew.proofs.AlikeSets.{scanned_alike}
use Rattle.tile_skew.proofs.PlaceOrder.{band_lengths}
use Rattle.plain_scan.specs.Scanning.{flags, GiveIterators, dimensions_of, mark_of}
use Rattle.plan_tree.specs.Schedules.{tiling_of}
use Rattle.plan_tree.specs.steps.Parting.{NoneConflict, PartAt}
use Rattle.plan_tree.proofs.ConflictFreedom.{free_all}
use Rattle.plan_tree.proofs.MarkedPlaces.{no_mark, none_parallel}
use Rattle.plan_tree.proofs.ModelStatements.{number_inside}
use Rattle.planned_trees.proofs.Orders.{wave_at}
use Rattle.plan_tree.proofs.Waves.{tile_at, one_wave, marked_place, not_in_conflict}

-- the visits stand at the places of their turns
abbrev pub StandAt : ℕ → ℕ → List Block → List Visit → Type 0
StandAt size n blocks visits =
    (v : Visit) → In v visits → v.values ≡ place_of (pos size) n (statement_items blocks v.number) v.turns

-- what of a statement's items the mark and the dimensions of scan sets tell
pub record IsShaped (program : Program) (blocks : List Block) (mark : Option ℕ) (d k : ℕ) : Type 0 where
  pub inside : k < length (model_of program).statements
  pub mark_is : mark ≡ parallel_place (length (leading_at blocks k) + 1) (first_band_at blocks k)
  pub room : length (leading_at blocks k) + (1 + length (first_band_at blocks k)) ≤ d

-- the first set has the mark and the dimensions of each
first_alike : (sets : List Scanned) (s : Scanned)
    → ((x y : Scanned) → In x sets → In y sets
    → (x.system.dimensions ≡ y.system.dimensions) × (x.parallel ≡ y.parallel))
    → In s sets → (dimensions_of sets ≡ s.system.dimensions) × (mark_of sets ≡ s.parallel)
first_alike [] s alike i = absurd i
first_alike (t ∷ sets) s alike i = alike t s (inl refl) i

-- the mark and the dimensions of scan sets, by the items of any statement
shaped_set : (program : Program) (size : ℕ) (blocks : List Block) (m : Modelled) → In m (model_of program).statements
    → In (scan_set (pos size) (most_iterators (model_of program).statements) m (statement_items blocks m.number))
    (scan_sets (pos size) blocks (model_of program))
    → let sets = scan_sets (pos size) blocks (model_of program) in
    IsShaped program blocks (mark_of sets) (dimensions_of sets) m.number
shaped_set program size blocks m i there =
    let n = most_iterators (model_of program).statements in
    let sets = scan_sets (pos size) blocks (model_of program) in
    let first = first_alike sets (scan_set (pos size) n m (statement_items blocks m.number))
    (scanned_alike (pos size) blocks (model_of program)) there in
    let many = first.0 in
    record { inside = number_inside program m i; mark_is = first.1; room = omega (arith, many) }

shaped : (program : Program) (size : ℕ) (blocks : List Block) (visits : List Visit)
    → let sets = scan_sets (pos size) blocks (model_of program) in
    GiveIterators sets visits → (v : Visit) → In v visits
    → IsShaped program blocks (mark_of sets) (dimensions_of sets) v.number
shaped program size blocks visits gives v i =
    let sets = scan_sets (pos size) blocks (model_of program) in
    let n = most_iterators (model_of program).statements in
    let Set : Modelled → Scanned = λ m. scan_set (pos size) n m (statement_items blocks m.number) in
    let g = gives v i in
    let m = in_map_from Set g.0 (model_of program).statements g.1 in
    let number : m.0.number ≡ v.number = sym (ap (λ (z : Scanned). z.statement) m.2) ∙ g.2 in
    subst (IsShaped program blocks (mark_of sets) (dimensions_of sets)) number
    (shaped_set program size blocks m.0 m.1 (subst (λ (z : Scanned). In z sets) m.2 g.1))

-- a visit's wave and tile by the items of its statement
wave_is : (size count : ℕ) (blocks : List Block) (x : Instance) → x.number < count
    → wave_of (tiled size (statements_from blocks 0 count)) x
    ≡ wave_at (pos size) (leading_at blocks x.number) (first_band_at blocks x.number) x.turns
wave_is size count blocks x h =
    ap (λ (s : Items). wave_at (pos size) s.leading s.band x.turns) (items_found blocks count x.number h)

tile_is : (size count : ℕ) (blocks : List Block) (x : Instance) → x.number < count
    → tile_of (tiled size (statements_from blocks 0 count)) x
    ≡ tile_at (pos size) (leading_at blocks x.number) (first_band_at blocks x.number) x.turns
tile_is size count blocks x h =
    ap (λ (s : Items). tile_at (pos size) s.leading s.band x.turns) (items_found blocks count x.number h)

-- visits whose values part at the marked place do not conflict
none_conflict : (program : Program) (params : List ℤ) (size n d : ℕ) (blocks : List Block) (mark : Option ℕ)
    (visits : List Visit) → IsGoodPlan program params (tiling_of program size blocks)
    → ((v : Visit) → In v visits → IsShaped program blocks mark d v.number) → StandAt size n blocks visits
    → NoneConflict (Conflict program params) (flags mark 0 d) visits
none_conflict program params size n d blocks mark visits good shape stands v w iv iw parted =
    let plan = tiling_of program size blocks in
    let count = length (model_of program).statements in
    let a = shape v iv in
    let b = shape w iw in
    let ls = leading_at blocks v.number in
    let ms = leading_at blocks w.number in
    let qs = first_band_at blocks v.number in
    let rs = first_band_at blocks w.number in
    let at : PartAt (flags mark 0 d) (place_of (pos size) n (statement_items blocks v.number) v.turns)
    (place_of (pos size) n (statement_items blocks w.number) w.turns) =
    subst (λ xs. PartAt (flags mark 0 d) (place_of (pos size) n (statement_items blocks v.number) v.turns) xs)
    (stands w iw) (subst (λ xs. PartAt (flags mark 0 d) xs w.values) (stands v iv) parted) in
    let one = one_wave (pos size) n d ls ms qs rs (behind_at blocks v.number) (behind_at blocks w.number) v.turns
    w.turns mark a.mark_is b.mark_is at in
    not_in_conflict program params plan good (given v) (given w)
    (wave_is size count blocks (given v) a.inside ∙ (one.0 ∙ sym (wave_is size count blocks (given w) b.inside)))
    (λ same. one.1 (sym (tile_is size count blocks (given v) a.inside)
    ∙ (same ∙ tile_is size count blocks (given w) b.inside)))

-- iterations of a parallel loop do not conflict
pub tiles_are_free : (program : Program) (params : List ℤ) (size n : ℕ) (blocks : List Block) (ts : Trees)
    → let sets = scan_sets (pos size) blocks (model_of program) in
    IsGoodPlan program params (tiling_of program size blocks)
    → MarksAll (flags (mark_of sets) zero (dimensions_of sets)) ts → GiveIterators sets (walk_all ts params [])
    → StandAt size n blocks (walk_all ts params []) → AreFree (Conflict program params) ts params []
tiles_are_free program params size n blocks ts good marks gives stands =
    let sets = scan_sets (pos size) blocks (model_of program) in
    let visits = walk_all ts params [] in
    free_all (Conflict program params) (flags (mark_of sets) 0 (dimensions_of sets)) ts params [] marks
    (none_conflict program params size n (dimensions_of sets) blocks (mark_of sets) visits good
    (shaped program size blocks visits gives) stands)

-- the value of the parallel loop round a visit is its first coordinate
marked_first : (program : Program) (size n d : ℕ) (blocks : List Block) (mark : Option ℕ) (v : Visit)
    → v.parallel ≡ marked (flags mark 0 d) v.values
    → v.values ≡ place_of (pos size) n (statement_items blocks v.number) v.turns
    → IsShaped program blocks mark d v.number
    → v.parallel
    ≡ first_coordinate size
    (items_at (statements_from blocks 0 (length (model_of program).statements)) v.number).band v.turns
marked_first program size n d blocks mark v parallel values s =
    parallel
    ∙ (ap (marked (flags mark 0 d)) values
    ∙ (marked_place size n d (leading_at blocks v.number) (first_band_at blocks v.number) (behind_at blocks v.number)
    v.turns mark s.mark_is s.room
    ∙ sym (ap (λ (z : Items). first_coordinate size z.band v.turns)
    (items_found blocks (length (model_of program).statements) v.number s.inside))))

-- a band without a row
no_rows : (rs : List TileRow) (statements : List Items) (b : Bool) → b ≡ has_row rs
    → (if b then true else has_rows statements) ≡ false → rs ≡ []
no_rows [] statements b e h = refl
no_rows (r ∷ rs) statements true e h = absurd cc
no_rows (r ∷ rs) statements false e h = absurd cc

as_empty : (rs ts : List TileRow) → length rs ≡ length ts → rs ≡ [] → ts ≡ []
as_empty rs [] same e = refl
as_empty rs (t ∷ ts) same e = let l = ap length e in absurd (omega (arith, same, l))

-- where no statement has a row, no place is marked
no_row_marked : (size : ℕ) (blocks : List Block) (parameters : ℕ) (ms : List Modelled)
    → has_rows (statements_from blocks 0 (length ms)) ≡ false
    → mark_of (scan_sets (pos size) blocks (record { parameters = parameters; statements = ms })) ≡ None
no_row_marked size blocks parameters [] h = refl
no_row_marked size blocks parameters (m ∷ ms) h =
    let bare : first_band_at blocks 0 ≡ [] =
    no_rows (first_band_at blocks 0) (statements_from blocks 1 (length ms)) (has_row (first_band_at blocks 0)) refl h in
    ap (parallel_place (length (leading_at blocks m.number) + 1))
    (as_empty (first_band_at blocks 0) (first_band_at blocks m.number) (band_lengths blocks 0 m.number) bare)

-- the loops of a tree that scans the sets are marked as the tiling says
pub tiles_are_marked : (program : Program) (params : List ℤ) (size n : ℕ) (blocks : List Block) (ts : Trees)
    → let sets = scan_sets (pos size) blocks (model_of program) in
    MarksAll (flags (mark_of sets) zero (dimensions_of sets)) ts → GiveIterators sets (walk_all ts params [])
    → StandAt size n blocks (walk_all ts params []) → AreMarked (tiling_of program size blocks) ts params
tiles_are_marked program params size n blocks ts marks gives stands =
    let sets = scan_sets (pos size) blocks (model_of program) in
    let d = dimensions_of sets in (
      λ some v i. marked_first program size n d blocks (mark_of sets) v
          (marks_all (flags (mark_of sets) 0 d) ts params [] marks v i) (stands v i)
          (shaped program size blocks (walk_all ts params []) gives v i),
      λ no_row. none_parallel (mark_of sets) 0 d ts
          (no_mark (mark_of sets)
          (no_row_marked size blocks (length program.parameters) (model_of program).statements no_row) 0) marks,
    )
