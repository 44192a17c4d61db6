-- The plan that items make one by one is that of their blocks.
use Rattle.scop_syntax.proofs.Common.{◌≡◌, ◌∙◌, sym, ap, ℕ, zero, suc, ◌+◌, ◌<◌, ◌≤◌, Bool, List, [], ◌∷◌, ◌++◌, map}
use Rattle.scop_syntax.proofs.Common.{length, drop, get_or, add-one, drop-cons, append_assoc, append-nil, arith}
use Rattle.scop_syntax.proofs.Common.{drop_of_length-le, Some, slice_get, le-leb, lt-leb}
use Rattle.schedule_rows.specs.Items.{Marked, Block, scalar, band}
use Rattle.schedule_rows.specs.Schedule as plain
use Rattle.schedule_rows.specs.Schedule.{Item, items_of, bands_from, marks_of}
use Rattle.schedule_rows.specs.declared.item.Band.{Band}
use Rattle.plan_check.specs.Plans.{Plan, PlanRow, PlanItem, rows, numbers}
use Rattle.plan_certificate.specs.SchedulePlan.{behind_scalar, forms_of, later_items, plan_of_blocks, plan_row}
use Rattle.plan_certificate.specs.steps.ItemPlans.{in_first, no_items, with_item, with_items, with_row}

-- a plan of these parts
abbrev planned : List (List ℕ) → List PlanRow → List PlanItem → Plan
planned ls rs xs = record { leading = ls; band = rs; behind = xs }

abbrev as_items : List Marked → List Item
as_items ms = map (λ m. plain.row m.row) ms

abbrev marks_in : List Marked → List Bool
marks_in ms = map (λ m. m.parallel) ms

abbrev as_later : List Marked → List PlanItem
as_later ms = map (λ m. rows (forms_of m.row)) ms

-- rows behind the first band
later_rows : (b : Band) (others : List Band) (ms : List Marked) (is : List Item) (ps : List Bool) (at : ℕ)
    (ls : List (List ℕ)) (rs : List PlanRow) (xs : List PlanItem) → b.last < at
    → with_items (b ∷ others) at (as_items ms ++ is) (marks_in ms ++ ps) (planned ls rs xs)
    ≡ with_items (b ∷ others) (at + length ms) is ps (planned ls rs (xs ++ as_later ms))
later_rows b others [] is ps at ls rs xs past =
    ap (λ (k : ℕ). with_items (b ∷ others) k is ps (planned ls rs xs)) (omega arith)
    ∙ ap (λ (z : List PlanItem). with_items (b ∷ others) (at + 0) is ps (planned ls rs z)) (sym (append-nil xs))
later_rows b others (m ∷ ms) is ps at ls rs xs past =
    let first = rows (forms_of m.row) in
    ap (λ (t : Bool). with_items (b ∷ others) (suc at) (as_items ms ++ is) (marks_in ms ++ ps)
    (with_row t m.parallel (forms_of m.row) (planned ls rs xs))) (lt-leb at b.last past)
    ∙ (later_rows b others ms is ps (suc at) ls rs (xs ++ first ∷ []) (omega (arith, past))
    ∙ (ap (λ (k : ℕ). with_items (b ∷ others) k is ps (planned ls rs ((xs ++ first ∷ []) ++ as_later ms)))
    {x = suc at + length ms} {y = at + suc (length ms)} (omega arith)
    ∙ ap (λ (z : List PlanItem). with_items (b ∷ others) (at + suc (length ms)) is ps (planned ls rs z))
    (append_assoc xs (first ∷ []) (as_later ms))))

-- all blocks behind it
later_blocks : (b : Band) (others : List Band) (bs : List Block) (at : ℕ) (ls : List (List ℕ)) (r : PlanRow)
    (rs : List PlanRow) (xs : List PlanItem) → b.last < at
    → with_items (b ∷ others) at (items_of bs) (marks_of bs) (planned ls (r ∷ rs) xs)
    ≡ planned ls (r ∷ rs) (xs ++ later_items bs)
later_blocks b others [] at ls r rs xs past = ap (λ (z : List PlanItem). planned ls (r ∷ rs) z) (sym (append-nil xs))
later_blocks b others (scalar ns ∷ bs) at ls r rs xs past =
    later_blocks b others bs (suc at) ls r rs (xs ++ numbers ns ∷ []) (omega (arith, past))
    ∙ ap (λ (z : List PlanItem). planned ls (r ∷ rs) z) (append_assoc xs (numbers ns ∷ []) (later_items bs))
later_blocks b others (band ms ∷ bs) at ls r rs xs past =
    later_rows b others ms (items_of bs) (marks_of bs) at ls (r ∷ rs) xs past
    ∙ (later_blocks b others bs (at + length ms) ls r rs (xs ++ as_later ms) (omega (arith, past))
    ∙ ap (λ (z : List PlanItem). planned ls (r ∷ rs) z) (append_assoc xs (as_later ms) (later_items bs)))

-- rows of the first band
first_rows : (b : Band) (others : List Band) (ms : List Marked) (is : List Item) (ps : List Bool) (at : ℕ)
    (ls : List (List ℕ)) (rs : List PlanRow) → at + length ms ≤ suc b.last
    → with_items (b ∷ others) at (as_items ms ++ is) (marks_in ms ++ ps) (planned ls rs [])
    ≡ with_items (b ∷ others) (at + length ms) is ps (planned ls (rs ++ map plan_row ms) [])
first_rows b others [] is ps at ls rs within =
    ap (λ (k : ℕ). with_items (b ∷ others) k is ps (planned ls rs [])) (omega arith)
    ∙ ap (λ (z : List PlanRow). with_items (b ∷ others) (at + 0) is ps (planned ls z [])) (sym (append-nil rs))
first_rows b others (m ∷ ms) is ps at ls rs within =
    ap (λ (t : Bool). with_items (b ∷ others) (suc at) (as_items ms ++ is) (marks_in ms ++ ps)
    (with_row t m.parallel (forms_of m.row) (planned ls rs []))) (le-leb at b.last (omega (arith, within)))
    ∙ (first_rows b others ms is ps (suc at) ls (rs ++ plan_row m ∷ []) (omega (arith, within))
    ∙ (ap (λ (k : ℕ). with_items (b ∷ others) k is ps (planned ls ((rs ++ plan_row m ∷ []) ++ map plan_row ms) []))
    {x = suc at + length ms} {y = at + suc (length ms)} (omega arith)
    ∙ ap (λ (z : List PlanRow). with_items (b ∷ others) (at + suc (length ms)) is ps (planned ls z []))
    (append_assoc rs (plan_row m ∷ []) (map plan_row ms))))

-- all blocks, behind scalars
blocks_plan : (bs : List Block) (at : ℕ) (ls : List (List ℕ))
    → with_items (bands_from at bs) at (items_of bs) (marks_of bs) (planned ls [] [])
    ≡ behind_scalar ls (plan_of_blocks bs)
blocks_plan [] at ls = ap (λ (z : List (List ℕ)). planned z [] []) (sym (append-nil ls))
blocks_plan (scalar ns ∷ bs) at ls =
    let p = plan_of_blocks bs in
    blocks_plan bs (suc at) (ls ++ ns ∷ [])
    ∙ ap (λ (z : List (List ℕ)). planned z p.band p.behind) (append_assoc ls (ns ∷ []) p.leading)
blocks_plan (band [] ∷ bs) at ls = blocks_plan bs at ls
blocks_plan (band (m ∷ ms) ∷ bs) at ls =
    let b : Band = record { first = at; last = at + length ms } in
    let others = bands_from (suc (at + length ms)) bs in
    first_rows b others (m ∷ ms) (items_of bs) (marks_of bs) at ls [] (omega arith)
    ∙ (later_blocks b others bs (at + suc (length ms)) ls (plan_row m) (map plan_row ms) [] (omega arith)
    ∙ ap (λ (z : List (List ℕ)). planned z (map plan_row (m ∷ ms)) (later_items bs)) (sym (append-nil ls)))

-- the mark at a place, and those behind it
marks_next : (marks : List Bool) (at : ℕ) (mark : Bool) → slice_get marks at ≡ Some mark
    → drop at marks ≡ mark ∷ drop (suc at) marks
marks_next [] at mark is = cc
marks_next (m ∷ ms) zero mark is = cc
marks_next (m ∷ ms) (suc at) mark is = marks_next ms at mark is

-- the item at a place, and those behind it
pub items_next : (bands own : List Band) (items : List Item) (marks : List Bool) (at : ℕ) (item : Item) (mark : Bool)
    (first : Bool) (p q whole : Plan) → at < length items → get_or items at item ≡ item
    → slice_get marks at ≡ Some mark → own ≡ bands → first ≡ in_first own at → q ≡ with_item first mark item p
    → with_items bands at (drop at items) (drop at marks) p ≡ whole
    → with_items bands (at + 1) (drop (at + 1) items) (drop (at + 1) marks) q ≡ whole
items_next bands own items marks at item mark first p q whole less is marked same told made so_far =
    rw add-one (ap (λ (z : Plan). with_items bands (suc at) (drop (suc at) items) (drop (suc at) marks) z)
    (made ∙ ap (λ (t : Bool). with_item t mark item p) (told ∙ ap (λ (z : List Band). in_first z at) same))
    ∙ (sym (ap (λ (z : List Bool). with_items bands at (drop at items) z p) (marks_next marks at mark marked)
    ∙ ap (λ (z : List Item). with_items bands at z (mark ∷ drop (suc at) marks) p)
    (drop-cons items at item less ∙ ap (λ (i : Item). i ∷ drop (suc at) items) is))
    ∙ so_far))

-- behind the last item the plan is that of the blocks
pub items_end : (items : List Item) (marks : List Bool) (bands : List Band) (blocks : List Block) (at : ℕ) (p : Plan)
    → items ≡ items_of blocks → bands ≡ bands_from 0 blocks → marks ≡ marks_of blocks → length items ≤ at
    → with_items bands at (drop at items) (drop at marks) p ≡ with_items bands 0 items marks no_items
    → p ≡ plan_of_blocks blocks
items_end items marks bands blocks at p items_are bands_are marks_are past whole =
    sym (ap (λ (z : List Item). with_items bands at z (drop at marks) p) (drop_of_length-le items past))
    ∙ (whole ∙ (ap (λ (z : List Band). with_items z 0 items marks no_items) bands_are
    ∙ (ap (λ (z : List Item). with_items (bands_from 0 blocks) 0 z marks no_items) items_are
    ∙ (ap (λ (z : List Bool). with_items (bands_from 0 blocks) 0 (items_of blocks) z no_items) marks_are
    ∙ blocks_plan blocks 0 []))))
