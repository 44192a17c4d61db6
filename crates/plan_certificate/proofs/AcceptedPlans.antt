-- What is laid by a schedule's lines is its plan, with as many rows.
use Rattle.scop_syntax.proofs.Common.{◌≡◌, ◌∙◌, ap, sym, refl, ℕ, suc, ◌+◌, Bool, false, List, [], ◌∷◌, ◌++◌, length}
use Rattle.scop_syntax.proofs.Common.{map, arith, append_assoc, append-nil, ◌==◌, if◌then◌else◌, Affine}
use Rattle.std.proofs.lemmas.List.{length-append}
use Rattle.schedule_rows.specs.Items.{Marked, Block, scalar, band, band_rows, rows_in}
use Rattle.plan_check.specs.Judged.{Laid, nothing_laid, row_laid, scalar_laid, with_row}
use Rattle.plan_check.specs.Plans.{Plan, PlanItem, PlanRow, rows, numbers}
use Rattle.plan_certificate.specs.SchedulePlan.{forms_of, later_items, plan_of_blocks, plan_row}
use Rattle.plan_certificate.proofs.AcceptedItems.{bands_laid, blocks_laid, rows_laid}

-- as many rows
rows_more : (l : Laid) (b : ℕ) (ms : List Marked) → (rows_laid l b ms).rows ≡ l.rows + length ms
rows_more l b [] = omega arith
rows_more l b (m ∷ ms) =
    let behind = rows_more (row_laid l b m.parallel (forms_of m.row)) b ms in omega arith

rows_count : (ms : List Marked) → length (band_rows ms) ≡ length ms
rows_count [] = refl
rows_count (m ∷ ms) = ap suc (rows_count ms)

pub blocks_rows : (l : Laid) (bs : List Block) → (blocks_laid l bs).rows ≡ l.rows + length (rows_in bs)
blocks_rows l [] = omega arith
blocks_rows l (scalar ns ∷ bs) = blocks_rows (scalar_laid l ns) bs
blocks_rows l (band ms ∷ bs) =
    let behind = blocks_rows (rows_laid l (suc l.bands) ms) bs in
    let here = rows_more l (suc l.bands) ms in
    let count = rows_count ms in
    let whole = length-append (band_rows ms) (rows_in bs) in
    omega arith

-- the first band
band_laid : (l : Laid) (ms : List Marked)
    → (rows_laid l 1 ms).plan ≡ record l.plan { band = l.plan.band ++ map plan_row ms }
band_laid l [] = ap (λ (rs : List PlanRow). record l.plan { band = rs }) (sym (append-nil l.plan.band))
band_laid l (m ∷ ms) =
    band_laid (row_laid l 1 m.parallel (forms_of m.row)) ms
    ∙ ap (λ (rs : List PlanRow). record l.plan { band = rs }) (append_assoc l.plan.band (plan_row m ∷ []) (map plan_row ms))

-- items behind it
abbrev behind_all : Plan → List PlanItem → Plan
behind_all p items = record p { behind = p.behind ++ items }

behind_more : (p : Plan) (xs ys : List PlanItem) → behind_all (behind_all p xs) ys ≡ behind_all p (xs ++ ys)
behind_more p xs ys = ap (λ (is : List PlanItem). record p { behind = is }) (append_assoc p.behind xs ys)

not_zero : (n : ℕ) → (suc n == 0) ≡ false
not_zero n = grind arith

not_one : (n : ℕ) → (suc (suc n) == 1) ≡ false
not_one n = grind arith

row_behind : (p : Plan) (n : ℕ) (parallel : Bool) (forms : List Affine)
    → with_row p (suc (suc n)) parallel forms ≡ behind_all p (rows forms ∷ [])
row_behind p n parallel forms =
    ap (λ (t : Bool). if t then record p { band = p.band ++ record { forms = forms; parallel = parallel } ∷ [] }
    else record p { behind = p.behind ++ rows forms ∷ [] }) (not_one n)

later_rows : (l : Laid) (n : ℕ) (ms : List Marked)
    → (rows_laid l (suc (suc n)) ms).plan ≡ behind_all l.plan (map (λ m. rows (forms_of m.row)) ms)
later_rows l n [] = ap (λ (is : List PlanItem). record l.plan { behind = is }) (sym (append-nil l.plan.behind))
later_rows l n (m ∷ ms) =
    later_rows (row_laid l (suc (suc n)) m.parallel (forms_of m.row)) n ms
    ∙ (ap (λ (p : Plan). behind_all p (map (λ m. rows (forms_of m.row)) ms)) (row_behind l.plan n m.parallel (forms_of m.row))
    ∙ behind_more l.plan (rows (forms_of m.row) ∷ []) (map (λ m. rows (forms_of m.row)) ms))

scalar_behind : (l : Laid) (n : ℕ) (ns : List ℕ) → l.bands ≡ suc n
    → (scalar_laid l ns).plan ≡ behind_all l.plan (numbers ns ∷ [])
scalar_behind l n ns h =
    ap (λ (t : Bool). if t then record l.plan { leading = l.plan.leading ++ ns ∷ [] }
    else record l.plan { behind = l.plan.behind ++ numbers ns ∷ [] }) (ap (λ (k : ℕ). k == 0) h ∙ not_zero n)

blocks_later : (l : Laid) (n : ℕ) (bs : List Block) → l.bands ≡ suc n
    → (blocks_laid l bs).plan ≡ behind_all l.plan (later_items bs)
blocks_later l n [] h = ap (λ (is : List PlanItem). record l.plan { behind = is }) (sym (append-nil l.plan.behind))
blocks_later l n (scalar ns ∷ bs) h =
    blocks_later (scalar_laid l ns) n bs h
    ∙ (ap (λ (p : Plan). behind_all p (later_items bs)) (scalar_behind l n ns h)
    ∙ behind_more l.plan (numbers ns ∷ []) (later_items bs))
blocks_later l n (band [] ∷ bs) h = blocks_later l n bs h
blocks_later l n (band (m ∷ ms) ∷ bs) h =
    let b = suc l.bands in
    let next = rows_laid l b (m ∷ ms) in
    let plan : next.plan ≡ behind_all l.plan (map (λ m. rows (forms_of m.row)) (m ∷ ms))
    = ap (λ (k : ℕ). (rows_laid l (suc k) (m ∷ ms)).plan) h ∙ later_rows l n (m ∷ ms) in
    blocks_later next (suc n) bs (bands_laid (row_laid l b m.parallel (forms_of m.row)) b ms refl ∙ ap suc h)
    ∙ (ap (λ (p : Plan). behind_all p (later_items bs)) plan
    ∙ behind_more l.plan (map (λ m. rows (forms_of m.row)) (m ∷ ms)) (later_items bs))

-- before the first row
abbrev leading_laid : List (List ℕ) → Bool → Laid
leading_laid ns in_band =
    record { bands = 0; rows = 0; in_band = in_band; plan = record { leading = ns; band = []; behind = [] } }

abbrev behind_scalar_all : List (List ℕ) → Plan → Plan
behind_scalar_all ns p = record p { leading = ns ++ p.leading }

from_first : (leading : List (List ℕ)) (in_band : Bool) (bs : List Block)
    → (blocks_laid (leading_laid leading in_band) bs).plan ≡ behind_scalar_all leading (plan_of_blocks bs)
from_first leading in_band [] =
    ap (λ (ls : List (List ℕ)). record { leading = ls; band = []; behind = [] }) (sym (append-nil leading))
from_first leading in_band (scalar ns ∷ bs) =
    from_first (leading ++ ns ∷ []) false bs
    ∙ ap (λ (ls : List (List ℕ)). record (plan_of_blocks bs) { leading = ls })
    (append_assoc leading (ns ∷ []) (plan_of_blocks bs).leading)
from_first leading in_band (band [] ∷ bs) = from_first leading in_band bs
from_first leading in_band (band (m ∷ ms) ∷ bs) =
    let l = leading_laid leading in_band in
    let next = rows_laid l 1 (m ∷ ms) in
    blocks_later next 0 bs (bands_laid (row_laid l 1 m.parallel (forms_of m.row)) 1 ms refl)
    ∙ (ap (λ (p : Plan). behind_all p (later_items bs)) (band_laid l (m ∷ ms))
    ∙ ap (λ (ls : List (List ℕ)). record { leading = ls; band = map plan_row (m ∷ ms); behind = later_items bs })
    (sym (append-nil leading)))

pub plan_laid : (bs : List Block) → (blocks_laid nothing_laid bs).plan ≡ plan_of_blocks bs
plan_laid bs = from_first [] false bs
