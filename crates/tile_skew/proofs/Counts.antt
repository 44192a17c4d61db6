-- How many statements and loops a kernel has, and how many items and dimensions the scan sets of its schedules.
use Rattle.scop_syntax.proofs.Common.{◌≡◌, ℕ, zero, suc, List, [], ◌∷◌, refl, sym, ap, subst, inl, inr, arith, length}
use Rattle.scop_syntax.proofs.Common.{map, ◌≤◌, length-map, IsKernel, In, in_guard_of, placed_all, statements_of, guard}
use Rattle.scop_syntax.proofs.Common.{Program, in_map_from, length-placed}
use Rattle.std.proofs.lemmas.List.{length-append}
use Rattle.iteration_domains.specs.Model.{Modelled, modelled, model_of}
use Rattle.schedule_rows.specs.Items.{Marked, Block, scalar, band}
use Rattle.schedule_rows.specs.Outcomes.{items_in}
use Rattle.schedule_rows.specs.Posed.{loops_of}
use Rattle.schedule_rows.specs.Schedule.{loops_in}
use Rattle.tile_skew.specs.ScanSets.{count_of, most_iterators}
use Rattle.tile_skew.specs.Tilings.{row_items, block_items, statement_items}
use Rattle.tile_skew.specs.steps.Facts.{StatementFacts}
use Rattle.tile_skew.proofs.AlikeSets.{rows_many}

-- a statement of a kernel's model has at most five loops
pub dimensions_few : (program : Program) (s : Modelled) → StatementFacts program
    → In s (model_of program).statements → s.domain.dimensions ≤ 5
dimensions_few program s facts i =
    let m = length program.parameters in
    let p = in_map_from (modelled m) s (statements_of program) i in
    let few = (facts.placed p.0 p.1).few_loops in
    let own : (modelled m p.0).domain.dimensions ≤ 5 = omega arith in
    subst (λ (z : Modelled). z.domain.dimensions ≤ 5) (sym p.2) own

pub statements_few : (program : Program) → IsKernel program → length (model_of program).statements ≤ 32
statements_few program kernel =
    let l = length-placed (guard [] program.body) 0 in
    let g = length-map (placed_all program.body 0) (in_guard_of []) in
    let m = length-map (statements_of program) (modelled (length program.parameters)) in
    let few = kernel.few_statements in
    omega arith

loops_each : (ss : List Modelled) (i : ℕ) → ((s : Modelled) → In s ss → s.domain.dimensions ≤ 5)
    → loops_of (map (λ s. s.domain.dimensions) ss) i ≤ 5
loops_each [] i h = omega arith
loops_each (s ∷ ss) zero h = h s (inl refl)
loops_each (s ∷ ss) (suc i) h = loops_each ss i (λ t j. h t (inr j))

pub loops_few : (program : Program) → StatementFacts program → (i : ℕ) → loops_of (loops_in (model_of program)) i ≤ 5
loops_few program facts i =
    loops_each (model_of program).statements i (λ s j. dimensions_few program s facts j)

row_items_many : (ms : List Marked) (k : ℕ) → length (row_items ms k) ≡ length ms
row_items_many [] k = refl
row_items_many (m ∷ ms) k = ap suc (row_items_many ms k)

block_items_many : (bs : List Block) (k : ℕ) → length (block_items bs k) ≡ items_in bs
block_items_many [] k = refl
block_items_many (scalar numbers ∷ bs) k = ap suc (block_items_many bs k)
block_items_many (band ms ∷ bs) k =
    let a = length-append (row_items ms k) (block_items bs k) in
    let m = row_items_many ms k in
    let r = block_items_many bs k in
    omega arith

-- a statement has as many items as the blocks
pub items_many : (bs : List Block) (k : ℕ) → count_of (statement_items bs k) ≡ items_in bs
items_many [] k = refl
items_many (scalar numbers ∷ bs) k = let r = items_many bs k in omega arith
items_many (band ms ∷ bs) k =
    let m = rows_many ms k in
    let r = block_items_many bs k in
    omega arith

pub most_few : (ss : List Modelled) (k : ℕ) → ((s : Modelled) → In s ss → s.domain.dimensions ≤ k)
    → most_iterators ss ≤ k
most_few [] k h = omega arith
most_few (s ∷ ss) k h =
    let own = h s (inl refl) in
    let rest = most_few ss k (λ t i. h t (inr i)) in
    omega arith
