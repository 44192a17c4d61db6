-- The lines of a schedule's items are laid one by one, up to the items behind them.
use Rattle.scop_syntax.proofs.Common.{◌≡◌, ◌∙◌, ap, ap₂, sym, refl, ℕ, suc, ◌+◌, ◌^◌, ◌<◌, ◌≤◌, Bool, true, false, ℤ}
use Rattle.scop_syntax.proofs.Common.{pos, List, [], ◌∷◌, ◌++◌, length, map, codes, decimal, All, arith, unsigned_abs}
use Rattle.scop_syntax.proofs.Common.{append_assoc, ⊤, ◌==◌, ◌&&◌, Some, Ok, if◌then◌else◌, signed_decimal, list_all}
use Rattle.scop_syntax.proofs.Common.{length-map, All-nil, All-cons, All-head, All-tail, Affine, form_of}
use Rattle.std.specs.List.{concat}
use Rattle.std.proofs.lemmas.List.{length-append}
use Rattle.scop_lexer.specs.Bytes.{Text}
use Rattle.iteration_domains.specs.Model.{KernelModel}
use Rattle.form_text.specs.View.{saturated}
use Rattle.schedule_rows.specs.Unknowns.{Part}
use Rattle.schedule_rows.specs.Items.{Row, Marked, Block, scalar, band}
use Rattle.schedule_lines.specs.Lines as lines
use Rattle.schedule_lines.specs.Reading as reading
use Rattle.report_text.specs.ScheduleText as report
use Rattle.report_text.specs.ScheduleText.{blocks_text, rows_text}
use Rattle.plan_check.specs.Goals.{loops_in}
use Rattle.plan_check.specs.Judged as judging
use Rattle.plan_check.specs.Judged.{Laid, are_held, is_next_band, laid_stage, laying, line_judged}
use Rattle.plan_check.specs.Judged.{lines_judged, part_held, row_held, row_laid, scalar_laid}
use Rattle.schedule_lines.specs.Saturated.{saturated_part}
use Rattle.plan_check.specs.Text as saying
use Rattle.plan_check.specs.Text.{lines_of}
use Rattle.plan_check.proofs.PlanOrder.{lt_true}
use Rattle.plan_certificate.specs.SchedulePlan.{form_of_part, forms_of}
use Rattle.plan_certificate.proofs.AcceptedLines.{IsPlain, PrintedLaws, all_saturated, line_goes, passes, same_number, saturated_same}
use Rattle.plan_certificate.proofs.AcceptedTexts.{IsPrinted, IsPrintedPart, IsPrintedRow, number_less, number_same, printed_part}
use Rattle.plan_certificate.proofs.AcceptedTexts.{printed_row, row_is, scalar_is, sizes}

-- each row of a band, and each block, can be printed
abbrev pub ArePrintedRows : List ℕ → List Marked → Type 0
ArePrintedRows loops [] = ⊤
ArePrintedRows loops (m ∷ ms) = IsPrintedRow loops m.row × ArePrintedRows loops ms

abbrev pub IsPrintedBlock : List ℕ → Block → Type 0
IsPrintedBlock loops (scalar ns) = (length ns ≡ length loops) × All (λ n. n < 2 ^ 127) ns
IsPrintedBlock loops (band ms) = ArePrintedRows loops ms

abbrev pub ArePrinted : List ℕ → List Block → Type 0
ArePrinted loops [] = ⊤
ArePrinted loops (b ∷ bs) = IsPrintedBlock loops b × ArePrinted loops bs

-- the items behind those of a band, and of blocks
abbrev pub rows_laid : Laid → ℕ → List Marked → Laid
rows_laid l b [] = l
rows_laid l b (m ∷ ms) = rows_laid (row_laid l b m.parallel (forms_of m.row)) b ms

abbrev pub blocks_laid : Laid → List Block → Laid
blocks_laid l [] = l
blocks_laid l (scalar ns ∷ bs) = blocks_laid (scalar_laid l ns) bs
blocks_laid l (band ms ∷ bs) = blocks_laid (rows_laid l (suc l.bands) ms) bs

-- how many lines are read behind them
abbrev pub rows_read : ℕ → List Marked → ℕ
rows_read k [] = k
rows_read k (m ∷ ms) = rows_read (suc k) ms

abbrev pub blocks_read : ℕ → List Block → ℕ
blocks_read k [] = k
blocks_read k (scalar ns ∷ bs) = blocks_read (suc k) bs
blocks_read k (band ms ∷ bs) = blocks_read (rows_read k ms) bs

-- numbers are those that are read
sizes_less : (zs : List ℤ) → All IsPrinted zs → All (λ n. n < 2 ^ 127) (sizes zs)
sizes_less [] h = All-nil (λ n. n < 2 ^ 127)
sizes_less (z ∷ zs) h =
    All-cons (λ n. n < 2 ^ 127) (unsigned_abs z) (sizes zs) (number_less z (All-head IsPrinted z zs h))
    (sizes_less zs (All-tail IsPrinted z zs h))

all_held : (ns : List ℕ) → All (λ n. n < 2 ^ 127) ns → are_held ns ≡ true
all_held [] h = refl
all_held (n ∷ ns) h =
    ap₂ (λ (a b : Bool). a && b) (lt_true n (2 ^ 127) (All-head (λ n. n < 2 ^ 127) n ns h))
    (all_held ns (All-tail (λ n. n < 2 ^ 127) n ns h))

part_plain : (p : Part) → IsPrintedPart p → saturated_part (printed_part p) ≡ printed_part p
part_plain p h =
    ap₂ (λ (xs : List ℕ) (x : ℕ). reading.part_of xs x)
    (all_saturated (sizes p.coefficients) (sizes_less p.coefficients h.0))
    (saturated_same (unsigned_abs p.shift) (number_less p.shift h.1))

parts_plain : (ps : List Part) → All IsPrintedPart ps
    → map saturated_part (map printed_part ps) ≡ map printed_part ps
parts_plain [] h = refl
parts_plain (p ∷ ps) h =
    ap₂ (λ (x : lines.Part) (xs : List lines.Part). x ∷ xs) (part_plain p (All-head IsPrintedPart p ps h))
    (parts_plain ps (All-tail IsPrintedPart p ps h))

parts_held : (ps : List Part) → All IsPrintedPart ps → list_all part_held (map printed_part ps) ≡ true
parts_held [] h = refl
parts_held (p ∷ ps) h =
    let here = All-head IsPrintedPart p ps h in
    ap₂ (λ (a b : Bool). a && b)
    (ap₂ (λ (a b : Bool). a && b) (all_held (sizes p.coefficients) (sizes_less p.coefficients here.0))
    (lt_true (unsigned_abs p.shift) (2 ^ 127) (number_less p.shift here.1)))
    (parts_held ps (All-tail IsPrintedPart p ps h))

parts_lengths : (ps : List Part)
    → map (λ (p : lines.Part). length p.coefficients) (map printed_part ps) ≡ map (λ (p : Part). length p.coefficients) ps
parts_lengths [] = refl
parts_lengths (p ∷ ps) =
    ap₂ (λ (x : ℕ) (xs : List ℕ). x ∷ xs) (length-map p.coefficients unsigned_abs) (parts_lengths ps)

row_plain : (loops : List ℕ) (k b : ℕ) (parallel : Bool) (r : Row) → IsPrintedRow loops r → k < 2 ^ 127 → b < 2 ^ 127
    → IsPlain loops (saying.row (printed_row k b parallel r))
row_plain loops k b parallel r is hk hb = record {
  said = parts_lengths r.parts ∙ is.lengths;
  same = ap₂ (λ (x y : ℕ). saying.row (reading.row_of x y parallel (map saturated (sizes r.u)) (saturated (unsigned_abs r.w)) (map saturated_part (map printed_part r.parts))))
      (saturated_same k hk) (saturated_same b hb)
      ∙ (ap₂ (λ (xs : List ℕ) (x : ℕ). saying.row (reading.row_of k b parallel xs x (map saturated_part (map printed_part r.parts))))
      (all_saturated (sizes r.u) (sizes_less r.u is.u)) (saturated_same (unsigned_abs r.w) (number_less r.w is.w))
      ∙ ap (λ (ps : List lines.Part). saying.row (reading.row_of k b parallel (sizes r.u) (unsigned_abs r.w) ps))
      (parts_plain r.parts is.parts));
}

row_is_held : (loops : List ℕ) (k b : ℕ) (parallel : Bool) (r : Row) → IsPrintedRow loops r
    → row_held (printed_row k b parallel r) ≡ true
row_is_held loops k b parallel r is =
    ap₂ (λ (a c : Bool). a && c) (all_held (sizes r.u) (sizes_less r.u is.u))
    (ap₂ (λ (a c : Bool). a && c) (lt_true (unsigned_abs r.w) (2 ^ 127) (number_less r.w is.w))
    (parts_held r.parts is.parts))

-- its forms are those of the schedule
numbers_same : (zs : List ℤ) → All IsPrinted zs → map (λ n. pos n) (sizes zs) ≡ zs
numbers_same [] h = refl
numbers_same (z ∷ zs) h =
    ap₂ (λ (x : ℤ) (xs : List ℤ). x ∷ xs) (number_same z (All-head IsPrinted z zs h))
    (numbers_same zs (All-tail IsPrinted z zs h))

parts_same : (ps : List Part) → All IsPrintedPart ps
    → map judging.form_of_part (map printed_part ps) ≡ map form_of_part ps
parts_same [] h = refl
parts_same (p ∷ ps) h =
    let here = All-head IsPrintedPart p ps h in
    ap₂ (λ (x : Affine) (xs : List Affine). x ∷ xs)
    (ap₂ form_of (numbers_same p.coefficients here.0) (number_same p.shift here.1))
    (parts_same ps (All-tail IsPrintedPart p ps h))

-- a row's line lays it
row_goes : (model : KernelModel) (k b : ℕ) (l : Laid) (m : Marked) → IsPrintedRow (loops_in model) m.row
    → is_next_band l b ≡ true
    → line_judged model k (laying l) (Some (saying.row (printed_row (suc k) b m.parallel m.row)))
    ≡ Ok (laying (row_laid l b m.parallel (forms_of m.row)))
row_goes model k b l m is next =
    let r = printed_row (suc k) b m.parallel m.row in
    ap laid_stage (passes (suc k == suc k) _ _ (same_number (suc k))
    ∙ (passes (is_next_band l b) _ _ next
    ∙ (passes (row_held r) _ (Ok (row_laid l b m.parallel (judging.forms_of r))) (row_is_held (loops_in model) (suc k) b m.parallel m.row is)
    ∙ ap (λ (fs : List Affine). Ok (row_laid l b m.parallel fs)) (parts_same m.row.parts is.parts))))

band_open : (l : Laid) (b : ℕ) (parallel : Bool) (forms : List Affine) → is_next_band (row_laid l b parallel forms) b ≡ true
band_open l b parallel forms =
    ap (λ (t : Bool). if t then true else b == suc b) (same_number b)

-- a line is a byte at least
row_length : (k b : ℕ) (parallel : Bool) (r : Row) → 1 ≤ length (report.row_line k b parallel r)
row_length k b parallel r =
    let tail = report.statements_from 0 r.parts ++ codes "\n" in
    let front = concat (codes "row " ∷ decimal k ∷ codes " band " ∷ decimal b ∷ report.mark_text parallel
    ∷ report.list_text r.u ∷ codes " w " ∷ signed_decimal r.w ∷ codes ": " ∷ []) in
    omega (arith, length-append front tail, length-append (report.statements_from 0 r.parts) (codes "\n"))

pub rows_go : PrintedLaws → (model : KernelModel) (k b : ℕ) (l : Laid) (ms : List Marked) (rest : Text)
    → ArePrintedRows (loops_in model) ms → length (loops_in model) < 2 ^ 64 → is_next_band l b ≡ true → b < 2 ^ 127
    → k + length (rows_text (suc k) b ms ++ rest) < 2 ^ 127
    → lines_judged model k (laying l) (lines_of (rows_text (suc k) b ms ++ rest))
    ≡ lines_judged model (rows_read k ms) (laying (rows_laid l b ms)) (lines_of rest)
rows_go laws model k b l [] rest are few next hb small = refl
rows_go laws model k b l (m ∷ ms) rest are few next hb small =
    let r = printed_row (suc k) b m.parallel m.row in
    let split = append_assoc (report.row_line (suc k) b m.parallel m.row) (rows_text (suc (suc k)) b ms) rest in
    let longer = ap length split in
    let first = length-append (report.row_line (suc k) b m.parallel m.row) (rows_text (suc (suc k)) b ms ++ rest) in
    let some = row_length (suc k) b m.parallel m.row in
    let line = row_is (loops_in model) (suc k) b m.parallel m.row are.0 (omega arith) hb few in
    let here = line_goes laws model k (laying l) (laying (row_laid l b m.parallel (forms_of m.row))) (saying.row r)
    (rows_text (suc (suc k)) b ms ++ rest)
    (row_plain (loops_in model) (suc k) b m.parallel m.row are.0 (omega arith) hb) (row_goes model k b l m are.0 next) in
    ap (λ (t : Text). lines_judged model k (laying l) (lines_of t)) split
    ∙ (ap (λ (t : Text). lines_judged model k (laying l) (lines_of (t ++ (rows_text (suc (suc k)) b ms ++ rest)))) line
    ∙ (here
    ∙ rows_go laws model (suc k) b (row_laid l b m.parallel (forms_of m.row)) ms rest are.1 few
    (band_open l b m.parallel (forms_of m.row)) hb (omega arith)))

-- rows' lines are as many bytes at least, and the open band is theirs behind them
rows_length : (k at b : ℕ) (ms : List Marked) (rest : Text)
    → rows_read k ms + length rest ≤ k + length (rows_text at b ms ++ rest)
rows_length k at b [] rest = omega arith
rows_length k at b (m ∷ ms) rest =
    let behind = rows_length (suc k) (suc at) b ms rest in
    let line = report.row_line at b m.parallel m.row in
    let some = row_length at b m.parallel m.row in
    let longer = ap length (append_assoc line (rows_text (suc at) b ms) rest) in
    let whole = length-append line (rows_text (suc at) b ms ++ rest) in
    omega arith

rows_count : (k : ℕ) (ms : List Marked) → rows_read k ms ≡ k + length ms
rows_count k [] = omega arith
rows_count k (m ∷ ms) = let behind = rows_count (suc k) ms in omega arith

pub bands_laid : (l : Laid) (b : ℕ) (ms : List Marked) → l.bands ≡ b → (rows_laid l b ms).bands ≡ b
bands_laid l b [] h = h
bands_laid l b (m ∷ ms) h = bands_laid (row_laid l b m.parallel (forms_of m.row)) b ms refl

-- a new band is the next one
band_next : (l : Laid) → is_next_band l (suc l.bands) ≡ true
band_next l = either (l.in_band && suc l.bands == l.bands)
  where
    either : (t : Bool) → (if t then true else suc l.bands == suc l.bands) ≡ true
    either true = refl
    either false = same_number (suc l.bands)

-- a scalar's line lays it
scalar_plain : (loops : List ℕ) (k : ℕ) (ns : List ℕ) → length ns ≡ length loops → All (λ n. n < 2 ^ 127) ns
    → k < 2 ^ 127 → IsPlain loops (saying.scalar (reading.scalar_of k ns))
scalar_plain loops k ns count h hk = record {
  said = count;
  same = ap₂ (λ (x : ℕ) (xs : List ℕ). saying.scalar (reading.scalar_of x xs)) (saturated_same k hk) (all_saturated ns h);
}

scalar_goes : (model : KernelModel) (k : ℕ) (l : Laid) (ns : List ℕ) → All (λ n. n < 2 ^ 127) ns
    → line_judged model k (laying l) (Some (saying.scalar (reading.scalar_of (suc k) ns))) ≡ Ok (laying (scalar_laid l ns))
scalar_goes model k l ns h =
    ap laid_stage (passes (suc k == suc k) _ _ (same_number (suc k))
    ∙ passes (are_held ns) _ (Ok (scalar_laid l ns)) (all_held ns h))

scalar_length : (k : ℕ) (ns : List ℕ) → 1 ≤ length (report.scalar_line k ns)
scalar_length k ns =
    let front = concat (codes "scalar " ∷ decimal k ∷ codes ": " ∷ []) in
    omega (
      arith,
      length-append front (report.components_from 0 ns ++ codes "\n"),
      length-append (report.components_from 0 ns) (codes "\n"),
    )

pub blocks_go : PrintedLaws → (model : KernelModel) (k : ℕ) (l : Laid) (bs : List Block) (rest : Text)
    → ArePrinted (loops_in model) bs → length (loops_in model) < 2 ^ 64 → l.bands ≤ k
    → k + length (blocks_text (suc k) (suc l.bands) bs ++ rest) < 2 ^ 127
    → lines_judged model k (laying l) (lines_of (blocks_text (suc k) (suc l.bands) bs ++ rest))
    ≡ lines_judged model (blocks_read k bs) (laying (blocks_laid l bs)) (lines_of rest)
blocks_go laws model k l [] rest are few bands small = refl
blocks_go laws model k l (scalar ns ∷ bs) rest are few bands small =
    let text = blocks_text (suc (suc k)) (suc l.bands) bs in
    let split = append_assoc (report.scalar_line (suc k) ns) text rest in
    let longer = ap length split in
    let whole = length-append (report.scalar_line (suc k) ns) (text ++ rest) in
    let some = scalar_length (suc k) ns in
    let count = are.0.0 in
    let line = scalar_is (suc k) ns (omega arith) (omega arith) are.0.1 in
    ap (λ (t : Text). lines_judged model k (laying l) (lines_of t)) split
    ∙ (ap (λ (t : Text). lines_judged model k (laying l) (lines_of (t ++ (text ++ rest)))) line
    ∙ (line_goes laws model k (laying l) (laying (scalar_laid l ns)) (saying.scalar (reading.scalar_of (suc k) ns))
    (text ++ rest) (scalar_plain (loops_in model) (suc k) ns are.0.0 are.0.1 (omega arith)) (scalar_goes model k l ns are.0.1)
    ∙ blocks_go laws model (suc k) (scalar_laid l ns) bs rest are.1 few (omega arith) (omega arith)))
blocks_go laws model k l (band [] ∷ bs) rest are few bands small =
    blocks_go laws model k l bs rest are.1 few bands small
blocks_go laws model k l (band (m ∷ ms) ∷ bs) rest are few bands small =
    let b = suc l.bands in
    let next = rows_laid l b (m ∷ ms) in
    let at = rows_read k (m ∷ ms) in
    let front = rows_text (suc k) b (m ∷ ms) in
    let text = blocks_text (suc (suc k + length ms)) (suc b) bs in
    let number : suc at ≡ suc (suc k + length ms) = ap suc (rows_count (suc k) ms) in
    let opened : next.bands ≡ b = bands_laid (row_laid l b m.parallel (forms_of m.row)) b ms refl in
    let same : text ≡ blocks_text (suc at) (suc next.bands) bs
    = ap₂ (λ (x y : ℕ). blocks_text x y bs) (sym number) (ap suc (sym opened)) in
    let split = append_assoc front text rest in
    let longer = ap length split in
    let line = rows_length k (suc k) b (m ∷ ms) (text ++ rest) in
    let renamed = ap (λ (t : Text). length (t ++ rest)) same in
    let some = rows_count k (m ∷ ms) in
    ap (λ (t : Text). lines_judged model k (laying l) (lines_of t)) split
    ∙ (rows_go laws model k b l (m ∷ ms) (text ++ rest) are.0 few (band_next l) (omega arith) (omega arith)
    ∙ (ap (λ (t : Text). lines_judged model at (laying next) (lines_of (t ++ rest))) same
    ∙ blocks_go laws model at next bs rest are.1 few (omega arith) (omega arith)))
