-- The lines of a schedule whose numbers are not negative are printed items.
use Rattle.scop_syntax.proofs.Common.{◌≡◌, ◌∙◌, ap, ap₂, sym, refl, ℕ, zero, suc, ◌+◌, ◌^◌, ◌<◌, Bool, true, false, ℤ}
use Rattle.scop_syntax.proofs.Common.{pos, negsuc, ◌≤ℤ◌, ◌<ℤ◌, List, [], ◌∷◌, ◌++◌, length, map, codes, decimal, All}
use Rattle.scop_syntax.proofs.Common.{arith, unsigned_abs, append_assoc, append-nil, signed_decimal, ints, length-map}
use Rattle.scop_syntax.proofs.Common.{All-head, All-tail}
use Rattle.std.specs.List.{concat}
use Rattle.scop_lexer.specs.Bytes.{Text}
use Rattle.schedule_rows.specs.Unknowns.{Part}
use Rattle.schedule_rows.specs.Items.{Row}
use Rattle.schedule_lines.specs.Lines as lines
use Rattle.form_text.specs.Numerals.{numeral}
use Rattle.schedule_lines.specs.Reading as reading
use Rattle.report_text.specs.ScheduleText as report
use Rattle.form_text.proofs.Numerals.{decimal_is_numeral}

-- not negative, and within 128 bits
abbrev pub IsPrinted : ℤ → Type 0
IsPrinted z = (pos 0 ≤ℤ z) × (z <ℤ pos (2 ^ 127))

abbrev pub IsPrintedPart : Part → Type 0
IsPrintedPart p = All IsPrinted p.coefficients × IsPrinted p.shift

-- all numbers of a row are so, and it suits statements with so many loops each
pub record IsPrintedRow (loops : List ℕ) (r : Row) : Type 0 where
  pub u : All IsPrinted r.u
  pub w : IsPrinted r.w
  pub parts : All IsPrintedPart r.parts
  pub lengths : map (λ p. length p.coefficients) r.parts ≡ loops

-- a row as its line says it
abbrev pub sizes : List ℤ → List ℕ
sizes zs = map unsigned_abs zs

abbrev pub printed_part : Part → lines.Part
printed_part p = reading.part_of (sizes p.coefficients) (unsigned_abs p.shift)

abbrev pub printed_row : ℕ → ℕ → Bool → Row → lines.Row
printed_row k b parallel r =
    reading.row_of k b parallel (sizes r.u) (unsigned_abs r.w) (map printed_part r.parts)

-- decimals
decimal_is : (n : ℕ) → n < 2 ^ 127 → decimal n ≡ numeral n
decimal_is n h = decimal_is_numeral n (omega arith)

pub number_text : (z : ℤ) → IsPrinted z → signed_decimal z ≡ numeral (unsigned_abs z)
number_text (pos n) h = let k = h.1 in decimal_is n (omega (arith, ints))
number_text (negsuc n) h = let k = h.0 in absurd (omega (arith, ints))

pub number_same : (z : ℤ) → IsPrinted z → pos (unsigned_abs z) ≡ z
number_same (pos n) h = refl
number_same (negsuc n) h = let k = h.0 in absurd (omega (arith, ints))

pub number_less : (z : ℤ) → IsPrinted z → unsigned_abs z < 2 ^ 127
number_less (pos n) h = let k = h.1 in omega (arith, ints)
number_less (negsuc n) h = let k = h.0 in absurd (omega (arith, ints))

before_is : (at : ℕ) (between : Text) → report.before at between ≡ lines.before at between
before_is zero between = refl
before_is (suc at) between = refl

-- numbers in parentheses
numbers_are : (at : ℕ) (zs : List ℤ) → All IsPrinted zs → report.numbers_from at zs ≡ lines.numbers_from at (sizes zs)
numbers_are at [] h = refl
numbers_are at (z ∷ zs) h =
    ap₂ (λ (x y : Text). x ++ y)
    (ap₂ (λ (x y : Text). x ++ y) (before_is at (codes " ")) (number_text z (All-head IsPrinted z zs h)))
    (numbers_are (suc at) zs (All-tail IsPrinted z zs h))

list_is : (zs : List ℤ) → All IsPrinted zs → report.list_text zs ≡ lines.list_text (sizes zs)
list_is zs h = ap (λ (x : Text). codes "(" ++ (x ++ codes ")")) (numbers_are 0 zs h)

-- texts behind one another
concat_front : (xs ys : List Text) → concat (xs ++ ys) ≡ concat xs ++ concat ys
concat_front [] ys = refl
concat_front (x ∷ xs) ys =
    ap (λ (t : Text). x ++ t) (concat_front xs ys) ∙ sym (append_assoc x (concat xs) (concat ys))

concat_end : (xs : List Text) (last end : Text) → concat xs ++ (last ++ end) ≡ concat (xs ++ last ∷ []) ++ end
concat_end xs last end =
    sym (append_assoc (concat xs) last end)
    ∙ ap (λ (t : Text). t ++ end) (ap (λ (t : Text). concat xs ++ t) (sym (append-nil last))
    ∙ sym (concat_front xs (last ∷ [])))

-- the parts of a row
abbrev label : ℕ → List Text
label at = report.before at (codes ", ") ∷ codes "S" ∷ decimal (suc at) ∷ codes " " ∷ []

label_is : (at : ℕ) → suc at < 2 ^ 127 → concat (label at) ≡ lines.label_text at
label_is at h =
    ap₂ (λ (x y : Text). concat (x ∷ codes "S" ∷ y ∷ codes " " ∷ [])) (before_is at (codes ", "))
    (decimal_is (suc at) h)

part_is : (at : ℕ) (p : Part) → suc at < 2 ^ 127 → IsPrintedPart p
    → report.statement_text at p ≡ lines.part_text at (printed_part p)
part_is at p h k =
    concat_front (label at) (report.list_text p.coefficients ∷ codes " + " ∷ signed_decimal p.shift ∷ [])
    ∙ (ap (λ (x : Text). x ++ concat (report.list_text p.coefficients ∷ codes " + " ∷ signed_decimal p.shift ∷ []))
    (label_is at h)
    ∙ ap₂ (λ (x y : Text). lines.label_text at ++ concat (x ∷ codes " + " ∷ y ∷ [])) (list_is p.coefficients k.0)
    (number_text p.shift k.1))

parts_are : (at : ℕ) (ps : List Part) → at + length ps < 2 ^ 127 → All IsPrintedPart ps
    → report.statements_from at ps ≡ lines.parts_text at (map printed_part ps)
parts_are at [] h k = refl
parts_are at (p ∷ ps) h k =
    ap₂ (λ (x y : Text). x ++ y) (part_is at p (omega arith) (All-head IsPrintedPart p ps k))
    (parts_are (suc at) ps (omega arith) (All-tail IsPrintedPart p ps k))

mark_is : (b : Bool) → report.mark_text b ≡ lines.mark_text b
mark_is true = refl
mark_is false = refl

-- a row's line
abbrev row_front : Text → Text → Text → Text → Text → List Text
row_front k b mark u w =
    codes "row " ∷ k ∷ codes " band " ∷ b ∷ mark ∷ u ∷ codes " w " ∷ w ∷ codes ": " ∷ []

pub row_is : (loops : List ℕ) (k b : ℕ) (parallel : Bool) (r : Row) → IsPrintedRow loops r → k < 2 ^ 127 → b < 2 ^ 127
    → length loops < 2 ^ 64 → report.row_line k b parallel r ≡ lines.row_text (printed_row k b parallel r) ++ codes "\n"
row_is loops k b parallel r is hk hb few =
    let count = ap length is.lengths in
    let sized = length-map r.parts (λ p. length p.coefficients) in
    let front : row_front (decimal k) (decimal b) (report.mark_text parallel) (report.list_text r.u) (signed_decimal r.w)
    ≡ row_front (numeral k) (numeral b) (lines.mark_text parallel) (lines.list_text (sizes r.u))
    (numeral (unsigned_abs r.w)) =
    ap₂ (λ (x y : Text). row_front x y (report.mark_text parallel) (report.list_text r.u) (signed_decimal r.w))
    (decimal_is k hk) (decimal_is b hb)
    ∙ (ap (λ (x : Text). row_front (numeral k) (numeral b) x (report.list_text r.u) (signed_decimal r.w))
    (mark_is parallel)
    ∙ ap₂ (λ (x y : Text). row_front (numeral k) (numeral b) (lines.mark_text parallel) x y) (list_is r.u is.u)
    (number_text r.w is.w)) in
    ap₂ (λ (xs : List Text) (x : Text). concat xs ++ (x ++ codes "\n")) front
    (parts_are 0 r.parts (omega arith) is.parts)
    ∙ concat_end (row_front (numeral k) (numeral b) (lines.mark_text parallel) (lines.list_text (sizes r.u))
    (numeral (unsigned_abs r.w))) (lines.parts_text 0 (map printed_part r.parts)) (codes "\n")

-- a scalar's line
values_are : (at : ℕ) (ns : List ℕ) → at + length ns < 2 ^ 127 → All (λ n. n < 2 ^ 127) ns
    → report.components_from at ns ≡ lines.values_text at ns
values_are at [] h k = refl
values_are at (n ∷ ns) h k =
    ap₂ (λ (x y : Text). x ++ y)
    (concat_front (label at) (decimal n ∷ [])
    ∙ ap₂ (λ (x y : Text). x ++ y) (label_is at (omega arith))
    (append-nil (decimal n) ∙ decimal_is n (All-head (λ n. n < 2 ^ 127) n ns k)))
    (values_are (suc at) ns (omega arith) (All-tail (λ n. n < 2 ^ 127) n ns k))

pub scalar_is : (k : ℕ) (ns : List ℕ) → k < 2 ^ 127 → length ns < 2 ^ 64 → All (λ n. n < 2 ^ 127) ns
    → report.scalar_line k ns ≡ lines.scalar_text (reading.scalar_of k ns) ++ codes "\n"
scalar_is k ns hk few h =
    ap₂ (λ (x y : Text). concat (codes "scalar " ∷ x ∷ codes ": " ∷ []) ++ (y ++ codes "\n")) (decimal_is k hk)
    (values_are 0 ns (omega arith) h)
    ∙ concat_end (codes "scalar " ∷ numeral k ∷ codes ": " ∷ []) (lines.values_text 0 ns) (codes "\n")
