-- Reading an item's line from its front. Numbers are read up to 2^128 - 1, which stands for more, too.
use Rattle.std.specs.Prelude.{ℕ, zero, suc, ◌==◌, Bool, true, false, if◌then◌else◌, List, [], ◌∷◌, length, codes}
use Rattle.std.specs.Prelude.{Option, Some, None}
use Rattle.scop_lexer.specs.Bytes.{Text, is_digit}
use Rattle.form_text.specs.Reading.{strip, when, number_in_front, behind_digits}
use Rattle.form_text.specs.View.{saturated}
use Rattle.schedule_lines.specs.Lines.{Part, Row, Scalar, before}

-- the number in front, without a zero in front of it, and what stands behind
abbrev pub numeral_in : Text → Option (ℕ × Text)
numeral_in [] = None
numeral_in (b ∷ bs) =
    if b == 48 then Some (0, bs)
    else if is_digit b then Some (saturated (number_in_front 0 (b ∷ bs)), behind_digits (b ∷ bs)) else None

-- the same, of any size
abbrev pub whole_numeral_in : Text → Option (ℕ × Text)
whole_numeral_in [] = None
whole_numeral_in (b ∷ bs) =
    if b == 48 then Some (0, bs)
    else if is_digit b then Some (number_in_front 0 (b ∷ bs), behind_digits (b ∷ bs)) else None

-- what stands behind this number
abbrev pub behind_number : ℕ → Text → Option Text
behind_number k text = when (whole_numeral_in text) (λ n. if n.0 == k then Some n.1 else None)

-- one more in front of those that were read
abbrev pub with_first : {A : Type 0} → A → Option (List A × Text) → Option (List A × Text)
with_first x r = when r (λ xs. Some (x ∷ xs.0, xs.1))

-- what was read, where nothing stands behind it
abbrev pub whole : {A : Type 0} → A → Text → Option A
whole x [] = Some x
whole x (b ∷ bs) = None

-- a number of a list, and what stands in front of it
abbrev pub entry_in : ℕ → Text → Option (ℕ × Text)
entry_in at text = when (strip (before at (codes " ")) text) numeral_in

-- the numbers from the one at this place on, up to a closing parenthesis, in so many steps at most; the second text is
-- what stands behind such a parenthesis in front
abbrev pub numbers_by : ℕ → ℕ → Text → Option Text → Option (List ℕ × Text)
numbers_by zero at text end = None
numbers_by (suc k) at text (Some rest) = Some ([], rest)
numbers_by (suc k) at text None =
    when (entry_in at text) (λ n. with_first n.0 (numbers_by k (suc at) n.1 (strip (codes ")") n.1)))

-- numbers behind an opening parenthesis
abbrev pub numbers_in : ℕ → ℕ → Text → Option (List ℕ × Text)
numbers_in k at text = numbers_by k at text (strip (codes ")") text)

-- numbers in parentheses
abbrev pub list_in : Text → Option (List ℕ × Text)
list_in text = when (strip (codes "(") text) (λ t. numbers_in (length t) 0 t)

-- what stands behind a statement's name
abbrev pub behind_label : ℕ → Text → Option Text
behind_label at text = when (strip (before at (codes ", ")) text) (λ a. when (strip (codes "S") a)
    (λ b. when (behind_number (suc at) b) (strip (codes " "))))

-- a part with so many coefficients
abbrev pub part_of : List ℕ → ℕ → Part
part_of coefficients shift = record { coefficients = coefficients; shift = shift }

abbrev pub shifted : ℕ → List ℕ × Text → Option (Part × Text)
shifted n cs = if length cs.0 == n then when (strip (codes " + ") cs.1)
    (λ d. when (numeral_in d) (λ s. Some (part_of cs.0 s.0, s.1))) else None

-- a statement's part, over so many loops
abbrev pub part_in : ℕ → ℕ → Text → Option (Part × Text)
part_in at n text = when (behind_label at text) (λ c. when (list_in c) (shifted n))

-- a part for each of these statements, by their loops
abbrev pub parts_in : ℕ → List ℕ → Text → Option (List Part × Text)
parts_in at [] text = Some ([], text)
parts_in at (n ∷ ns) text = when (part_in at n text) (λ p. with_first p.0 (parts_in (suc at) ns p.1))

-- whether a row is parallel, by what stands behind either mark
abbrev pub mark_by : Option Text → Option Text → Option (Bool × Text)
mark_by (Some t) other = Some (true, t)
mark_by None (Some t) = Some (false, t)
mark_by None None = None

abbrev pub mark_in : Text → Option (Bool × Text)
mark_in text = mark_by (strip (codes " parallel u ") text) (strip (codes " carries u ") text)

-- a row without parts
abbrev pub row_of : ℕ → ℕ → Bool → List ℕ → ℕ → List Part → Row
row_of k b parallel u w parts =
    record { number = k; band = b; parallel = parallel; u = u; w = w; parts = parts }

-- the numbers of a row and its band
abbrev pub place_in : Text → Option ((ℕ × ℕ) × Text)
place_in text = when (strip (codes "row ") text) (λ a. when (numeral_in a) (λ k. when (strip (codes " band ") k.1)
    (λ c. when (numeral_in c) (λ b. Some ((k.0, b.0), b.1)))))

-- the number w behind u
abbrev pub bounded : Bool → List ℕ × Text → Option ((Bool × List ℕ × ℕ) × Text)
bounded parallel u = when (strip (codes " w ") u.1) (λ d. when (numeral_in d) (λ w. when (strip (codes ": ") w.1)
    (λ e. Some ((parallel, u.0, w.0), e))))

-- the mark of a row, u and w
abbrev pub bound_in : Text → Option ((Bool × List ℕ × ℕ) × Text)
bound_in text = when (mark_in text) (λ m. when (list_in m.1) (bounded m.0))

-- the line of a row of statements with so many loops each
abbrev pub row_in : List ℕ → Text → Option Row
row_in loops text = when (place_in text) (λ k. when (bound_in k.1) (λ u. when (parts_in 0 loops u.1)
    (λ p. whole (row_of k.0.0 k.0.1 u.0.0 u.0.1 u.0.2 p.0) p.1)))

-- a number for each of n statements
abbrev pub value_in : ℕ → Text → Option (ℕ × Text)
value_in at text = when (behind_label at text) numeral_in

abbrev pub values_in : ℕ → ℕ → Text → Option (List ℕ × Text)
values_in at zero text = Some ([], text)
values_in at (suc n) text = when (value_in at text) (λ v. with_first v.0 (values_in (suc at) n v.1))

abbrev pub scalar_of : ℕ → List ℕ → Scalar
scalar_of k values = record { number = k; values = values }

-- the line of a scalar item of n statements
abbrev pub scalar_in : ℕ → Text → Option Scalar
scalar_in n text = when (strip (codes "scalar ") text) (λ a. when (numeral_in a) (λ k. when (strip (codes ": ") k.1)
    (λ c. when (values_in 0 n c) (λ vs. whole (scalar_of k.0 vs.0) vs.1))))
