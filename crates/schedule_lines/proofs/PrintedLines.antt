-- Printed lines are read back.
use Rattle.std.proofs.Common.{◌≡◌, ◌∙◌, ap, sym, subst, refl, ℕ, zero, suc, ◌<◌, ◌≤◌, Bool, true, false, List, [], ◌∷◌}
use Rattle.std.proofs.Common.{◌++◌, map, length, get_or, ne_eqb, append-nil, length-append, arith, ◌==◌, if◌then◌else◌}
use Rattle.std.proofs.Common.{Some, None, codes}
use Rattle.std.specs.Int.Digits.{digits_of}
use Rattle.std.proofs.lemmas.Int.Digits.{first_digits_of}
use Rattle.std.proofs.lemmas.Bool.{eq-eqb}
use Rattle.std.proofs.lemmas.List.{append_assoc, length-map}
use Rattle.std.proofs.lemmas.Option.{none-some}
use Rattle.scop_lexer.specs.Bytes.{Text}
use Rattle.form_text.specs.Numerals.{numeral}
use Rattle.form_text.specs.Reading.{strip, when}
use Rattle.form_text.specs.View.{saturated}
use Rattle.form_text.proofs.Digits.{EndsDigits}
use Rattle.form_text.proofs.Calls.{strip_front}
use Rattle.form_text.proofs.Numerals.{bytes_of}
use Rattle.schedule_lines.specs.Lines.{Part, Row, Scalar, before, label_text, list_text, mark_text, numbers_from}
use Rattle.schedule_lines.specs.Lines.{part_text, parts_text, row_text, scalar_text, values_text}
use Rattle.schedule_lines.specs.Reading.{behind_label, behind_number, bound_in, bounded, entry_in, list_in, mark_in}
use Rattle.schedule_lines.specs.Reading.{numbers_by, numbers_in, numeral_in, part_in, part_of, parts_in, place_in, row_in, row_of}
use Rattle.schedule_lines.specs.Reading.{scalar_in, scalar_of, shifted, value_in, values_in, whole, with_first}
use Rattle.schedule_lines.specs.Saturated.{saturated_part, saturated_row, saturated_scalar}
use Rattle.schedule_lines.proofs.NumeralLemmas.{numeral_back, whole_numeral_back}

-- an entry is no closing parenthesis
no_end : (text : Text) (r : ℕ × Text) → numeral_in text ≡ Some r → strip (codes ")") text ≡ None
no_end [] r h = refl
no_end (b ∷ bs) r h =
    ap (λ (t : Bool). if t then Some bs else None)
    (ne_eqb 41 b (λ e. none-some r (subst (λ x. numeral_in (x ∷ bs) ≡ Some r) (sym e) h)))

entry_no_end : (at : ℕ) (text : Text) (r : ℕ × Text) → entry_in at text ≡ Some r → strip (codes ")") text ≡ None
entry_no_end zero text r h = no_end text r h
entry_no_end (suc at) [] r h = refl
entry_no_end (suc at) (b ∷ bs) r h =
    ap (λ (t : Bool). if t then Some bs else None)
    (ne_eqb 41 b (λ e. none-some r (subst (λ x. entry_in (suc at) (x ∷ bs) ≡ Some r) (sym e) h)))

-- numbers up to a closing parenthesis
numbers_end : (at : ℕ) (ns : List ℕ) (rest : Text) → EndsDigits ((numbers_from (suc at) ns ++ codes ")") ++ rest)
numbers_end at [] rest = refl
numbers_end at (n ∷ ns) rest = refl

pub numbers_apart : (at n : ℕ) (ns : List ℕ) (rest : Text) → (numbers_from at (n ∷ ns) ++ codes ")") ++ rest
    ≡ before at (codes " ") ++ (numeral n ++ ((numbers_from (suc at) ns ++ codes ")") ++ rest))
numbers_apart at n ns rest =
    let front = before at (codes " ") ++ numeral n in
    let more = numbers_from (suc at) ns in
    ap (λ t. t ++ rest) (append_assoc front more (codes ")"))
    ∙ (append_assoc front (more ++ codes ")") rest
    ∙ append_assoc (before at (codes " ")) (numeral n) ((more ++ codes ")") ++ rest))

numbers_back : (k at : ℕ) (ns : List ℕ) (rest : Text) → length ns < k
    → numbers_in k at ((numbers_from at ns ++ codes ")") ++ rest) ≡ Some (map saturated ns, rest)
numbers_back zero at ns rest h = absurd (omega (arith, h))
numbers_back (suc k) at [] rest h = refl
numbers_back (suc k) at (n ∷ ns) rest h =
    let more = (numbers_from (suc at) ns ++ codes ")") ++ rest in
    let text = before at (codes " ") ++ (numeral n ++ more) in
    let entry : entry_in at text ≡ Some (saturated n, more) =
    ap (λ o. when o numeral_in) (strip_front (before at (codes " ")) (numeral n ++ more))
    ∙ numeral_back n more (numbers_end at ns rest) in
    ap (numbers_in (suc k) at) (numbers_apart at n ns rest)
    ∙ (ap (numbers_by (suc k) at text) (entry_no_end at text (saturated n, more) entry)
    ∙ (ap (λ o. when o (λ e. with_first e.0 (numbers_in k (suc at) e.1))) entry
    ∙ ap (with_first (saturated n)) (numbers_back k (suc at) ns rest (omega (arith, h)))))

digits_long : (ds : List ℕ) → 0 < get_or ds 0 0 → 1 ≤ length (bytes_of ds)
digits_long [] h = absurd (omega (arith, h))
digits_long (d ∷ ds) h = omega arith

numeral_long : (n : ℕ) → 1 ≤ length (numeral n)
numeral_long zero = omega arith
numeral_long (suc n) = digits_long (digits_of 10 (suc n)) (first_digits_of 10 (suc n) (omega arith) (omega arith))

numbers_long : (at : ℕ) (ns : List ℕ) → length ns ≤ length (numbers_from at ns)
numbers_long at [] = omega arith
numbers_long at (n ∷ ns) =
    let front = before at (codes " ") in
    let one = length-append (front ++ numeral n) (numbers_from (suc at) ns) in
    let two = length-append front (numeral n) in
    omega (arith, one, two, numeral_long n, numbers_long (suc at) ns)

pub list_back : (ns : List ℕ) (rest : Text) → list_in (list_text ns ++ rest) ≡ Some (map saturated ns, rest)
list_back ns rest =
    let text = (numbers_from 0 ns ++ codes ")") ++ rest in
    let one = length-append (numbers_from 0 ns ++ codes ")") rest in
    let two = length-append (numbers_from 0 ns) (codes ")") in
    numbers_back (length text) 0 ns rest (omega (arith, one, two, numbers_long 0 ns))

-- a statement's name
pub label_apart : (at : ℕ) (rest : Text) → label_text at ++ rest
    ≡ before at (codes ", ") ++ (codes "S" ++ (numeral (suc at) ++ (codes " " ++ rest)))
label_apart at rest =
    let front = before at (codes ", ") in
    let number = numeral (suc at) in
    append_assoc front (codes "S" ++ (number ++ codes " ")) rest
    ∙ ap (λ t. front ++ (codes "S" ++ t)) (append_assoc number (codes " ") rest)

label_back : (at : ℕ) (rest : Text) → behind_label at (label_text at ++ rest) ≡ Some rest
label_back at rest =
    let behind = codes " " ++ rest in
    ap (behind_label at) (label_apart at rest)
    ∙ (ap (λ o. when o (λ a. when (strip (codes "S") a) (λ b. when (behind_number (suc at) b) (strip (codes " ")))))
    (strip_front (before at (codes ", ")) (codes "S" ++ (numeral (suc at) ++ behind)))
    ∙ (ap (λ o. when (when o (λ n. if n.0 == suc at then Some n.1 else None)) (strip (codes " ")))
    (whole_numeral_back (suc at) behind refl)
    ∙ ap (λ (t : Bool). when (if t then Some behind else None) (strip (codes " "))) (eq-eqb (suc at) (suc at) refl)))

-- a statement's part
pub part_apart : (at : ℕ) (p : Part) (rest : Text) → part_text at p ++ rest
    ≡ label_text at ++ (list_text p.coefficients ++ (codes " + " ++ (numeral p.shift ++ rest)))
part_apart at p rest =
    let name = label_text at in
    let list = list_text p.coefficients in
    let end = codes " + " ++ (numeral p.shift ++ []) in
    append_assoc name (list ++ end) rest
    ∙ (ap (λ t. name ++ t) (append_assoc list end rest)
    ∙ ap (λ t. name ++ (list ++ (codes " + " ++ t))) (append_assoc (numeral p.shift) [] rest))

part_back : (at : ℕ) (p : Part) (rest : Text) → EndsDigits rest
    → part_in at (length p.coefficients) (part_text at p ++ rest) ≡ Some (saturated_part p, rest)
part_back at p rest e =
    let n = length p.coefficients in
    let cs = map saturated p.coefficients in
    let end = codes " + " ++ (numeral p.shift ++ rest) in
    ap (part_in at n) (part_apart at p rest)
    ∙ (ap (λ o. when o (λ c. when (list_in c) (shifted n))) (label_back at (list_text p.coefficients ++ end))
    ∙ (ap (λ o. when o (shifted n)) (list_back p.coefficients end)
    ∙ (ap (λ (t : Bool). if t then when (numeral_in (numeral p.shift ++ rest)) (λ s. Some (part_of cs s.0, s.1)) else None)
    (eq-eqb (length cs) n (length-map p.coefficients saturated))
    ∙ ap (λ o. when o (λ s. Some (part_of cs s.0, s.1))) (numeral_back p.shift rest e))))

parts_end : (at : ℕ) (ps : List Part) → EndsDigits (parts_text (suc at) ps)
parts_end at [] = tt
parts_end at (p ∷ ps) = refl

parts_back : (at : ℕ) (ps : List Part)
    → parts_in at (map (λ p. length p.coefficients) ps) (parts_text at ps) ≡ Some (map saturated_part ps, [])
parts_back at [] = refl
parts_back at (p ∷ ps) =
    ap (λ o. when o (λ q. with_first q.0 (parts_in (suc at) (map (λ p. length p.coefficients) ps) q.1)))
    (part_back at p (parts_text (suc at) ps) (parts_end at ps))
    ∙ ap (with_first (saturated_part p)) (parts_back (suc at) ps)

-- a row
mark_end : (parallel : Bool) (rest : Text) → EndsDigits (mark_text parallel ++ rest)
mark_end true rest = refl
mark_end false rest = refl

mark_back : (parallel : Bool) (rest : Text) → mark_in (mark_text parallel ++ rest) ≡ Some (parallel, rest)
mark_back true rest = refl
mark_back false rest = refl

-- what stands behind a row's bound, and behind its u, and behind its numbers
abbrev w_text : Row → Text
w_text r = codes " w " ++ (numeral r.w ++ (codes ": " ++ (parts_text 0 r.parts ++ [])))

abbrev mark_on : Row → Text
mark_on r = mark_text r.parallel ++ (list_text r.u ++ w_text r)

place_back : (r : Row) → place_in (row_text r) ≡ Some ((saturated r.number, saturated r.band), mark_on r)
place_back r =
    ap (λ o. when o (λ k. when (strip (codes " band ") k.1) (λ c. when (numeral_in c) (λ b. Some ((k.0, b.0), b.1)))))
    (numeral_back r.number (codes " band " ++ (numeral r.band ++ mark_on r)) refl)
    ∙ ap (λ o. when o (λ b. Some ((saturated r.number, b.0), b.1)))
    (numeral_back r.band (mark_on r) (mark_end r.parallel (list_text r.u ++ w_text r)))

bound_back : (r : Row)
    → bound_in (mark_on r) ≡ Some ((r.parallel, map saturated r.u, saturated r.w), parts_text 0 r.parts ++ [])
bound_back r =
    let parts = parts_text 0 r.parts ++ [] in
    ap (λ o. when o (λ m. when (list_in m.1) (bounded m.0))) (mark_back r.parallel (list_text r.u ++ w_text r))
    ∙ (ap (λ o. when o (bounded r.parallel)) (list_back r.u (w_text r))
    ∙ ap (λ o. when o (λ w. when (strip (codes ": ") w.1) (λ e. Some ((r.parallel, map saturated r.u, w.0), e))))
    (numeral_back r.w (codes ": " ++ parts) refl))

pub row_back : (loops : List ℕ) (r : Row) → map (λ p. length p.coefficients) r.parts ≡ loops
    → row_in loops (row_text r) ≡ Some (saturated_row r)
row_back loops r are =
    let made : List Part → Row = λ ps. row_of (saturated r.number) (saturated r.band) r.parallel (map saturated r.u)
    (saturated r.w) ps in
    ap (λ ls. row_in ls (row_text r)) (sym are)
    ∙ (ap (λ o. when o (λ k. when (bound_in k.1) (λ u. when (parts_in 0 (map (λ p. length p.coefficients) r.parts) u.1)
    (λ p. whole (row_of k.0.0 k.0.1 u.0.0 u.0.1 u.0.2 p.0) p.1)))) (place_back r)
    ∙ (ap (λ o. when o (λ u. when (parts_in 0 (map (λ p. length p.coefficients) r.parts) u.1)
    (λ p. whole (row_of (saturated r.number) (saturated r.band) u.0.0 u.0.1 u.0.2 p.0) p.1))) (bound_back r)
    ∙ (ap (λ t. when (parts_in 0 (map (λ p. length p.coefficients) r.parts) t) (λ p. whole (made p.0) p.1))
    (append-nil (parts_text 0 r.parts))
    ∙ ap (λ o. when o (λ p. whole (made p.0) p.1)) (parts_back 0 r.parts))))

-- a scalar item
values_end : (at : ℕ) (vs : List ℕ) → EndsDigits (values_text (suc at) vs)
values_end at [] = tt
values_end at (v ∷ vs) = refl

values_back : (at : ℕ) (vs : List ℕ) → values_in at (length vs) (values_text at vs) ≡ Some (map saturated vs, [])
values_back at [] = refl
values_back at (v ∷ vs) =
    let rest = values_text (suc at) vs in
    let value : value_in at ((label_text at ++ numeral v) ++ rest) ≡ Some (saturated v, rest) =
    ap (value_in at) (append_assoc (label_text at) (numeral v) rest)
    ∙ (ap (λ o. when o numeral_in) (label_back at (numeral v ++ rest)) ∙ numeral_back v rest (values_end at vs)) in
    ap (λ o. when o (λ e. with_first e.0 (values_in (suc at) (length vs) e.1))) value
    ∙ ap (with_first (saturated v)) (values_back (suc at) vs)

pub scalar_back : (s : Scalar) → scalar_in (length s.values) (scalar_text s) ≡ Some (saturated_scalar s)
scalar_back s =
    let n = length s.values in
    let values = values_text 0 s.values in
    ap (λ o. when o (λ k. when (strip (codes ": ") k.1) (λ c. when (values_in 0 n c)
    (λ vs. whole (scalar_of k.0 vs.0) vs.1)))) (numeral_back s.number (codes ": " ++ (values ++ [])) refl)
    ∙ (ap (λ t. when (values_in 0 n t) (λ vs. whole (scalar_of (saturated s.number) vs.0) vs.1)) (append-nil values)
    ∙ ap (λ o. when o (λ vs. whole (scalar_of (saturated s.number) vs.0) vs.1)) (values_back 0 s.values))
