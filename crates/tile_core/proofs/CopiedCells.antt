-- What the places of a plan with copies write and read: as many cells as without (`as_many_reads`), the place that stands
-- in a tile (`stood`), and of its reads the copies of their sources (`read_there`).
use Rattle.scop_syntax.proofs.Common.{◌≡◌, ◌∙◌, ℕ, zero, suc, ◌+◌, ◌*◌, ◌<◌, ◌≤◌, List, [], ◌∷◌, length, map, get_or}
use Rattle.scop_syntax.proofs.Common.{Option, Some, None, Bor, ap, ap₂, sym, subst, refl, arith, ⊤, MatchOption}
use Rattle.scop_syntax.proofs.Common.{is_some, option_and_then, slice_get, option_map, length-map}
use Rattle.scop_syntax.proofs.Common.{get_or_from_slice_get, slice_get-map, slice_get_within, Cell, accesses, cell_at}
use Rattle.scop_syntax.proofs.Common.{cell_of, reads, cell_number, total_cells, Access, Instance, Visit, instance}
use Rattle.scop_syntax.proofs.Common.{last_of, last_writer, in_at, in_from_place, there_is}
use Rattle.loop_tree.specs.View.{trees_in}
use Rattle.expansions.specs.Expansions.{number_of}
use Rattle.tile_events.specs.Copies.{copies_of, copy_of, expanded}
use Rattle.tile_events.specs.Deal.{IsScan}
use Rattle.tile_events.specs.Flat.{read_by}
use Rattle.tile_events.specs.Plan as events
use Rattle.tile_events.specs.Plan.{IsDealt}
use Rattle.tile_core.specs.Expansions.{IsExpansionOf}
use Rattle.tile_core.specs.Plans.{IsPlan, deal_of, extents_in, places_in, plain_shape, program_in, scan_in, sources_by}
use Rattle.tile_core.specs.Plans.{sources_in, walk_in, walk_shape}
use Rattle.tile_core.specs.Ranks.{rank_in}
use Rattle.tile_core.specs.declared.expansion.Expansion.{Expansion}
use Rattle.tile_core.specs.declared.plan.Plan.{Plan}
use Rattle.tile_core.proofs.Gates.{shape_extends}
use Rattle.tile_core.proofs.Marks.{none_added}
use Rattle.tile_core.proofs.Plans.{copied_is, plain_is, unmarked_is}
use Rattle.tile_core.proofs.Ranks.{placed}
use Rattle.tile_core.proofs.Workers.{rank_within}

-- as many copies as cells and sources
length_copies : (n : ℕ) (cs : List ℕ) (sources : List (Option ℕ)) → length cs ≡ length sources
    → length (copies_of n cs sources) ≡ length cs
length_copies n [] sources e = refl
length_copies n (c ∷ cs) [] e = absurd (omega (arith, e))
length_copies n (c ∷ cs) (o ∷ sources) e = ap suc (length_copies n cs sources (omega (arith, e)))

copy_at : (n r : ℕ) (cs : List ℕ) (sources : List (Option ℕ)) (o : Option ℕ) → slice_get sources r ≡ Some o
    → r < length cs → get_or (copies_of n cs sources) r 0 ≡ copy_of n (get_or cs r 0) o
copy_at n r [] sources o e less = absurd (omega (arith, less))
copy_at n r (c ∷ cs) [] o e less = absurd cc
copy_at n zero (c ∷ cs) (s ∷ sources) o e less = ap (copy_of n c) (let same : s ≡ o = cc in same)
copy_at n (suc r) (c ∷ cs) (s ∷ sources) o e less = copy_at n r cs sources o e (omega (arith, less))

-- where no array is marked, a visit has as many sources as it loads cells
many_sources : (extents : List (List ℕ)) (marked : List ℕ) (visits : List Visit) (j : ℕ) (o : Option Visit) → marked ≡ []
    → length (read_by extents marked o) ≡ length (sources_by visits j o)
many_sources extents marked visits j None none = refl
many_sources extents marked visits j (Some v) none =
    ap (λ (ms : List ℕ). length (read_by extents ms (Some v))) none
    ∙ (length-map (map (λ access. cell_of access v.point) (reads v.body)) (cell_number extents)
    ∙ (length-map (reads v.body) (λ access. cell_of access v.point)
    ∙ sym (length-map (reads v.body) (λ access. last_writer visits j (cell_of access v.point)))))

-- what the code makes of a source's number
pub copied_read : (cells own number result : ℕ) (o : Option ℕ) → number ≡ number_of o → (number ≡ 0 → result ≡ own)
    → ((i : ℕ) → number ≡ suc i → result ≡ cells + i) → result ≡ copy_of cells own o
copied_read cells own number result None is none some = none is
copied_read cells own number result (Some i) is none some = some i is

-- a plan with an expansion
module _ (plan : Plan) (e : Bor Expansion) (some : plan.expansion ≡ Some e) (is : IsPlan plan) where
  copied : walk_shape plan ≡ expanded (plain_shape plan) (sources_in plan)
  copied = copied_is plan [] (ap is_some some)

  pub expansion_is : IsExpansionOf (program_in plan) plan.params.now (trees_in plan.tree.now) plan.list.now e.now
  expansion_is =
      subst (λ (o : Option (Bor Expansion)). MatchOption o ⊤ (λ x. IsExpansionOf (program_in plan) plan.params.now
      (trees_in plan.tree.now) plan.list.now x.now)) some is.copies

  as_many : (j : ℕ) → length ((plain_shape plan).read j) ≡ length (sources_in plan j)
  as_many j =
      many_sources (extents_in plan) plan.marked.now (walk_in plan) j (slice_get (walk_in plan) j)
      (unmarked_is plan is (ap is_some some))

  many_copies : (j : ℕ) → length ((walk_shape plan).read j) ≡ length ((plain_shape plan).read j)
  many_copies j =
      ap (λ (q : events.Plan). length (q.read j)) copied
      ∙ length_copies (plain_shape plan).cells ((plain_shape plan).read j) (sources_in plan j) (as_many j)

  -- a cell and a copy have numbers that fit
  pub few_cells : e.now.cells ≤ 4194304
  few_cells =
      let cells = expansion_is.cells in
      let few : total_cells (extents_in plan) ≤ 4194304 = is.limits.cells in
      omega (arith, cells, few)

  -- what stands behind so many instances of a tile
  module _ (scan : IsScan (deal_of plan)) (many : length (scan_in plan) ≡ length (walk_in plan)) (t k : ℕ)
      (less : t < (walk_shape plan).tiles) (left : k < (walk_shape plan).size t) where
    pub tile_within : t < length e.now.starts.items
    tile_within = slice_get_within e.now.starts.items t _ (expansion_is.starts t less)

    pub begins : get_or e.now.starts.items t 0 ≡ (deal_of plan).start t
    begins = get_or_from_slice_get e.now.starts.items t _ 0 (expansion_is.starts t less)

    abbrev rank : ℕ
    rank = (deal_of plan).start t + k

    here : (x : Instance) × (slice_get (scan_in plan) rank ≡ Some x)
    here =
        let tiles = (shape_extends plan).tiles in
        there_is (scan_in plan) rank (rank_within plan t k scan many (omega (arith, less, tiles)) left)

    -- the place in the walk of an instance of the scan
    one_place : (x : Instance) (j : ℕ) → slice_get (scan_in plan) rank ≡ Some x → slice_get (places_in plan) j ≡ Some x
        → j < length (walk_in plan) → (walk_shape plan).place t k ≡ j
    one_place x j found at within =
        let xs = scan_in plan in
        ap (rank_in (places_in plan)) (found ∙ sym (placed xs x (in_from_place xs rank x found)))
        ∙ (ap (λ (o : Option Instance). rank_in (places_in plan) (slice_get xs (rank_in xs o))) (sym at)
        ∙ scan.there j within)

    pub stood : (j : ℕ) × (slice_get e.now.places.items rank ≡ Some j) × ((walk_shape plan).place t k ≡ j)
        × (j < length (walk_in plan))
    stood =
        let x = here in
        let own = expansion_is.places.each rank x.0 x.1 in
        let long = length-map (walk_in plan) instance in
        let inside = slice_get_within (places_in plan) own.0 x.0 own.2 in
        let within : own.0 < length (walk_in plan) = omega (arith, inside, long) in
        (own.0, own.1, one_place x.0 own.0 x.1 own.2 within, within)

    pub rank_inside : get_or e.now.starts.items t 0 + k < length e.now.places.items
    rank_inside =
        let own = stood in
        let start = begins in
        let inside = slice_get_within e.now.places.items rank own.0 own.1 in
        omega (arith, start, inside)

    -- what the code reads there
    pub place_told : (number : ℕ) → number ≡ get_or e.now.places.items (get_or e.now.starts.items t 0 + k) 0
        → ((walk_shape plan).place t k ≡ number) × (number < length (walk_in plan))
    place_told number told =
        let own = stood in
        let same : number ≡ own.0 =
        told
        ∙ (ap (λ (n : ℕ). get_or e.now.places.items (n + k) 0) begins
        ∙ get_or_from_slice_get e.now.places.items rank own.0 0 own.1) in
        let less = own.3 in
        (own.2 ∙ sym same, omega (arith, same, less))

  -- of a read its source by its number, and the cell or copy
  pub read_there : (j r : ℕ) → j < length (walk_in plan) → r < length ((walk_shape plan).read j)
      → (o : Option ℕ) × (slice_get e.now.sources.numbers.items (j * e.now.sources.most + r) ≡ Some (number_of o))
      × (get_or ((walk_shape plan).read j) r 0 ≡ copy_of (plain_shape plan).cells (get_or ((plain_shape plan).read j) r 0) o)
  read_there j r less within =
      let walk = walk_in plan in
      let v = there_is walk j less in
      let own : Access → Option ℕ = λ access. last_writer walk j (cell_of access v.0.point) in
      let given : sources_in plan j ≡ map own (reads v.0.body) = ap (sources_by walk j) v.1 in
      let long = ap (λ (os : List (Option ℕ)). length os) given in
      let many = length-map (reads v.0.body) own in
      let copies = many_copies j in
      let sources = as_many j in
      let a = there_is (reads v.0.body) r (omega (arith, within, long, many, copies, sources)) in
      let cell : Cell = cell_of a.0 v.0.point in
      let at : cell_at walk j (suc r) ≡ Some cell =
      ap (option_and_then (λ (u : Visit).
      option_map (λ access. cell_of access u.point) (slice_get (accesses u.body) (suc r)))) v.1
      ∙ ap (option_map (λ access. cell_of access v.0.point)) a.1 in
      let source : slice_get (sources_in plan j) r ≡ Some (last_writer walk j cell) =
      ap (λ (os : List (Option ℕ)). slice_get os r) given
      ∙ (slice_get-map own (reads v.0.body) r ∙ ap (option_map own) a.1) in
      let last : last_of walk j (suc r) ≡ last_writer walk j cell = ap (option_and_then (last_writer walk j)) at in
      let from = expansion_is.sources in (
        last_writer walk j cell,
        from.sources j r less (from.reads j r cell at) ∙ ap (λ (o : Option ℕ). Some (number_of o)) last,
        ap (λ (q : events.Plan). get_or (q.read j) r 0) copied
            ∙ copy_at (plain_shape plan).cells r ((plain_shape plan).read j) (sources_in plan j)
            (last_writer walk j cell) source (omega (arith, within, copies)),
      )

  -- what the code writes and reads, where its number is that of the place
  module _ (j number : ℕ) (same : j ≡ number) (less : j < length (walk_in plan)) where
    pub written_there : e.now.cells + number ≡ (walk_shape plan).written j
    written_there =
        ap₂ (λ (a b : ℕ). a + b) expansion_is.cells (sym same)
        ∙ ap (λ (q : events.Plan). q.written j) (sym copied)

    pub copy_fits : e.now.cells + number < 18446744073709551616
    copy_fits = let cells = few_cells in let few = expansion_is.sources.few in omega (arith, cells, few, same, less)

    module _ (r : ℕ) (within : r < length ((walk_shape plan).read j)) where
      pub source_inside : number * e.now.sources.most + r < length e.now.sources.numbers.items
      source_inside =
          let there = read_there j r less within in
          subst (λ (n : ℕ). n * e.now.sources.most + r < length e.now.sources.numbers.items) same
          (slice_get_within e.now.sources.numbers.items (j * e.now.sources.most + r) _ there.1)

      pub copy_there : (own result : ℕ) → own ≡ get_or ((plain_shape plan).read j) r 0
          → (get_or e.now.sources.numbers.items (number * e.now.sources.most + r) 0 ≡ 0 → result ≡ own)
          → ((i : ℕ) → get_or e.now.sources.numbers.items (number * e.now.sources.most + r) 0 ≡ suc i
          → result ≡ e.now.cells + i)
          → result ≡ get_or ((walk_shape plan).read j) r 0
      copy_there own result is_own first other =
          let there = read_there j r less within in
          let told : get_or e.now.sources.numbers.items (number * e.now.sources.most + r) 0 ≡ number_of there.0 =
          ap (λ (n : ℕ). get_or e.now.sources.numbers.items (n * e.now.sources.most + r) 0) (sym same)
          ∙ get_or_from_slice_get e.now.sources.numbers.items (j * e.now.sources.most + r) _ 0 there.1 in
          copied_read e.now.cells own _ result there.0 told first other
          ∙ (ap₂ (λ (n c : ℕ). copy_of n c there.0) expansion_is.cells is_own ∙ sym there.2)

-- a place reads as many cells as without copies
pub as_many_reads : (plan : Plan) → IsPlan plan → (j : ℕ)
    → length ((plain_shape plan).read j) ≡ length ((walk_shape plan).read j)
as_many_reads plan is j = by_option plan.expansion refl
  where
    by_option : (o : Option (Bor Expansion)) → plan.expansion ≡ o
        → length ((plain_shape plan).read j) ≡ length ((walk_shape plan).read j)
    by_option None none = ap (λ (q : events.Plan). length (q.read j)) (sym (plain_is plan [] (ap is_some none)))
    by_option (Some e) some = sym (many_copies plan e some is j)

-- and adds where it does without them
pub adds_alike : (plan : Plan) → IsPlan plan → (j : ℕ)
    → (plain_shape plan).adds ((plain_shape plan).written j) ≡ (walk_shape plan).adds ((walk_shape plan).written j)
adds_alike plan is j = by_option plan.expansion refl
  where
    by_option : (o : Option (Bor Expansion)) → plan.expansion ≡ o
        → (plain_shape plan).adds ((plain_shape plan).written j) ≡ (walk_shape plan).adds ((walk_shape plan).written j)
    by_option None none = ap (λ (q : events.Plan). q.adds (q.written j)) (sym (plain_is plan [] (ap is_some none)))
    by_option (Some e) some =
        let marked = plan.marked.now in
        let none = unmarked_is plan is (ap is_some some) in
        none_added (extents_in plan) marked ((plain_shape plan).written j) none
        ∙ sym (none_added (extents_in plan) marked ((walk_shape plan).written j) none)

-- what a place reads are cells of the plan
pub read_inside : (plan : Plan) (j r : ℕ) → IsDealt (walk_shape plan) → j < length (walk_in plan)
    → r < length ((walk_shape plan).read j) → get_or ((walk_shape plan).read j) r 0 < (walk_shape plan).cells
read_inside plan j r dealt less within =
    dealt.read j (get_or ((walk_shape plan).read j) r 0) less (in_at ((walk_shape plan).read j) r 0 within)
