-- Printed lines have no line feed, so with one behind it each is the first line of a text; goals and steps are read back.
use Rattle.scop_syntax.proofs.Common.{◌≡◌, ◌∙◌, ap, sym, refl, ℕ, zero, suc, ◌+◌, ◌<◌, ◌≤◌, Bool, true, false, not}
use Rattle.scop_syntax.proofs.Common.{◌&&◌, List, [], ◌∷◌, ◌++◌, map, length, append-nil, length-append, arith, ◌==◌}
use Rattle.scop_syntax.proofs.Common.{◌≢◌, All, if◌then◌else◌, Some, None, codes, list_all, slice_split, and_parts}
use Rattle.std.proofs.Common.{ne_eqb}
use Rattle.std.specs.Int.Digits.{digits_of}
use Rattle.std.specs.List.{onto_first}
use Rattle.std.proofs.lemmas.List.{append_assoc}
use Rattle.scop_lexer.specs.Bytes.{Text}
use Rattle.form_text.specs.Numerals.{numeral}
use Rattle.form_text.specs.Reading.{strip, when}
use Rattle.form_text.specs.View.{saturated}
use Rattle.form_text.proofs.Digits.{EndsDigits}
use Rattle.form_text.proofs.Numerals.{bytes_of}
use Rattle.data_lines.proofs.PartLemmas.{first_part}
use Rattle.schedule_lines.specs.Lines.{Part, Row, Scalar, before, label_text, list_text, mark_text, numbers_from}
use Rattle.schedule_lines.specs.Lines.{part_text, parts_text, row_text, scalar_text, values_text}
use Rattle.schedule_lines.specs.Reading.{numeral_in, whole, with_first}
use Rattle.schedule_lines.proofs.NumeralLemmas.{numeral_back}
use Rattle.plan_check.specs.Printed.{goal_text, said_text, saturated_term, step_text, terms_text}
use Rattle.plan_check.specs.Text.{IsStep, Said, StepLine, TermLine, goal, goal_in, is_line_feed, lines_of, positive_in}
use Rattle.plan_check.specs.Text.{row, scalar, some_terms_in, step, step_in, step_line, term_in, term_line, terms_in}
use Rattle.plan_check.specs.Text.{without_end}

-- no line feed
abbrev is_plain : Text → Bool
is_plain text = list_all (λ b. not (is_line_feed b)) text

plain_append : (xs ys : Text) → is_plain xs ≡ true → is_plain ys ≡ true → is_plain (xs ++ ys) ≡ true
plain_append [] ys h g = g
plain_append (b ∷ bs) ys h g =
    let both = and_parts (not (is_line_feed b)) (is_plain bs) h in
    ap (λ t. t && is_plain (bs ++ ys)) both.0 ∙ plain_append bs ys both.1 g

plain_bytes : (ds : List ℕ) → is_plain (bytes_of ds) ≡ true
plain_bytes [] = refl
plain_bytes (d ∷ ds) =
    ap (λ t. not t && is_plain (bytes_of ds)) (ne_eqb (48 + d) 10 (λ e. omega (arith, e))) ∙ plain_bytes ds

plain_numeral : (n : ℕ) → is_plain (numeral n) ≡ true
plain_numeral zero = refl
plain_numeral (suc n) = plain_bytes (digits_of 10 (suc n))

plain_before : (at : ℕ) (between : Text) → is_plain between ≡ true → is_plain (before at between) ≡ true
plain_before zero between h = refl
plain_before (suc at) between h = h

plain_numbers : (at : ℕ) (ns : List ℕ) → is_plain (numbers_from at ns) ≡ true
plain_numbers at [] = refl
plain_numbers at (n ∷ ns) =
    let front = before at (codes " ") in
    plain_append (front ++ numeral n) (numbers_from (suc at) ns)
    (plain_append front (numeral n) (plain_before at (codes " ") refl) (plain_numeral n)) (plain_numbers (suc at) ns)

plain_list : (ns : List ℕ) → is_plain (list_text ns) ≡ true
plain_list ns = plain_append (numbers_from 0 ns) (codes ")") (plain_numbers 0 ns) refl

plain_label : (at : ℕ) → is_plain (label_text at) ≡ true
plain_label at =
    plain_append (before at (codes ", ")) (codes "S" ++ (numeral (suc at) ++ codes " "))
    (plain_before at (codes ", ") refl)
    (plain_append (numeral (suc at)) (codes " ") (plain_numeral (suc at)) refl)

plain_part : (at : ℕ) (p : Part) → is_plain (part_text at p) ≡ true
plain_part at p =
    let shift = numeral p.shift ++ [] in
    plain_append (label_text at) (list_text p.coefficients ++ (codes " + " ++ shift)) (plain_label at)
    (plain_append (list_text p.coefficients) (codes " + " ++ shift) (plain_list p.coefficients)
    (plain_append (numeral p.shift) [] (plain_numeral p.shift) refl))

plain_parts : (at : ℕ) (ps : List Part) → is_plain (parts_text at ps) ≡ true
plain_parts at [] = refl
plain_parts at (p ∷ ps) =
    plain_append (part_text at p) (parts_text (suc at) ps) (plain_part at p) (plain_parts (suc at) ps)

plain_mark : (parallel : Bool) → is_plain (mark_text parallel) ≡ true
plain_mark true = refl
plain_mark false = refl

plain_row : (r : Row) → is_plain (row_text r) ≡ true
plain_row r =
    let parts = codes ": " ++ (parts_text 0 r.parts ++ []) in
    let w = codes " w " ++ (numeral r.w ++ parts) in
    let mark = mark_text r.parallel ++ (list_text r.u ++ w) in
    plain_append (numeral r.number) (codes " band " ++ (numeral r.band ++ mark)) (plain_numeral r.number)
    (plain_append (numeral r.band) mark (plain_numeral r.band)
    (plain_append (mark_text r.parallel) (list_text r.u ++ w) (plain_mark r.parallel)
    (plain_append (list_text r.u) w (plain_list r.u)
    (plain_append (numeral r.w) parts (plain_numeral r.w)
    (plain_append (parts_text 0 r.parts) [] (plain_parts 0 r.parts) refl)))))

plain_values : (at : ℕ) (vs : List ℕ) → is_plain (values_text at vs) ≡ true
plain_values at [] = refl
plain_values at (v ∷ vs) =
    plain_append (label_text at ++ numeral v) (values_text (suc at) vs)
    (plain_append (label_text at) (numeral v) (plain_label at) (plain_numeral v)) (plain_values (suc at) vs)

plain_scalar : (s : Scalar) → is_plain (scalar_text s) ≡ true
plain_scalar s =
    let values = values_text 0 s.values in
    plain_append (numeral s.number) (codes ": " ++ (values ++ [])) (plain_numeral s.number)
    (plain_append values [] (plain_values 0 s.values) refl)

plain_terms : (ts : List TermLine) → is_plain (terms_text ts) ≡ true
plain_terms [] = refl
plain_terms (t ∷ ts) =
    let factor = codes ":" ++ numeral t.factor in
    plain_append (codes " " ++ (numeral t.row ++ factor)) (terms_text ts)
    (plain_append (numeral t.row) factor (plain_numeral t.row) (plain_numeral t.factor)) (plain_terms ts)

plain_said : (s : Said) → is_plain (said_text s) ≡ true
plain_said (row r) = plain_row r
plain_said (scalar s) = plain_scalar s
plain_said (goal g) = plain_numeral g
plain_said (step s) =
    plain_append (numeral s.divisor) (terms_text s.terms) (plain_numeral s.divisor) (plain_terms s.terms)

-- what stands in front of the first line feed is the first line
first_cut : (xs rest : Text) → is_plain xs ≡ true
    → slice_split is_line_feed (xs ++ 10 ∷ rest) ≡ xs ∷ slice_split is_line_feed rest
first_cut [] rest h = refl
first_cut (b ∷ bs) rest h =
    let both = and_parts (not (is_line_feed b)) (is_plain bs) h in
    rw (not_true (is_line_feed b) both.0) (ap (onto_first b) (first_cut bs rest both.1))
  where
    not_true : (t : Bool) → not t ≡ true → t ≡ false
    not_true true e = sym e
    not_true false e = refl

ended : (xs rest : Text) (whole : List Text) → whole ≡ xs ∷ slice_split is_line_feed rest
    → without_end whole ≡ xs ∷ lines_of rest
ended [] rest whole e =
    ap without_end e
    ∙ (ap (λ (ls : List Text). without_end ([] ∷ ls)) (first_part is_line_feed rest)
    ∙ ap (λ (ls : List Text). [] ∷ without_end ls) (sym (first_part is_line_feed rest)))
ended (b ∷ bs) rest whole e =
    ap without_end e
    ∙ (ap (λ (ls : List Text). without_end ((b ∷ bs) ∷ ls)) (first_part is_line_feed rest)
    ∙ ap (λ (ls : List Text). (b ∷ bs) ∷ without_end ls) (sym (first_part is_line_feed rest)))

pub first_line : (s : Said) (rest : Text)
    → lines_of ((said_text s ++ codes "\n") ++ rest) ≡ said_text s ∷ lines_of rest
first_line s rest =
    ap lines_of (append_assoc (said_text s) (codes "\n") rest)
    ∙ ended (said_text s) rest (slice_split is_line_feed (said_text s ++ 10 ∷ rest))
    (first_cut (said_text s) rest (plain_said s))

-- a goal
pub goal_back : (g : ℕ) → goal_in (goal_text g) ≡ Some (saturated g)
goal_back g =
    ap (λ t. when (numeral_in t) (λ n. whole n.0 n.1)) (sym (append-nil (numeral g)))
    ∙ ap (λ o. when o (λ n. whole n.0 n.1)) (numeral_back g [] tt)

-- a step
not_zero : (n : ℕ) → 1 ≤ n → (saturated n == 0) ≡ false
not_zero n h = ne_eqb (saturated n) 0 (λ e. omega (arith, h, e))

positive_back : (n : ℕ) (rest : Text) → 1 ≤ n → EndsDigits rest
    → positive_in (numeral n ++ rest) ≡ Some (saturated n, rest)
positive_back n rest h e =
    ap (λ o. when o (λ m. if m.0 == 0 then None else Some m)) (numeral_back n rest e)
    ∙ ap (λ (t : Bool). if t then None else Some (saturated n, rest)) (not_zero n h)

term_back : (t : TermLine) (rest : Text) → 1 ≤ t.factor → EndsDigits rest
    → term_in ((codes " " ++ (numeral t.row ++ (codes ":" ++ numeral t.factor))) ++ rest)
    ≡ Some (saturated_term t, rest)
term_back t rest h e =
    let behind = numeral t.factor ++ rest in
    ap (λ a. when (numeral_in a) (λ k. when (strip (codes ":") k.1)
    (λ c. when (positive_in c) (λ m. Some (term_line k.0 m.0, m.1)))))
    (append_assoc (numeral t.row) (codes ":" ++ numeral t.factor) rest)
    ∙ (ap (λ o. when o (λ k. when (strip (codes ":") k.1)
    (λ c. when (positive_in c) (λ m. Some (term_line k.0 m.0, m.1))))) (numeral_back t.row (codes ":" ++ behind) refl)
    ∙ ap (λ o. when o (λ m. Some (term_line (saturated t.row) m.0, m.1))) (positive_back t.factor rest h e))

terms_end : (ts : List TermLine) → EndsDigits (terms_text ts)
terms_end [] = tt
terms_end (t ∷ ts) = refl

terms_back : (k : ℕ) (ts : List TermLine) → length ts < k → All (λ t. 1 ≤ t.factor) ts
    → terms_in k (terms_text ts) ≡ Some (map saturated_term ts, [])
terms_back zero ts h are = absurd (omega (arith, h))
terms_back (suc k) [] h are = refl
terms_back (suc k) (t ∷ ts) h are =
    ap (λ o. when o (λ u. with_first u.0 (terms_in k u.1)))
    (term_back t (terms_text ts) (are 0 t (omega arith)) (terms_end ts))
    ∙ ap (with_first (saturated_term t))
    (terms_back k ts (omega (arith, h)) (λ i d g. are (suc i) d (omega (arith, g))))

terms_long : (ts : List TermLine) → length ts + length ts ≤ length (terms_text ts)
terms_long [] = omega arith
terms_long (t ∷ ts) =
    let factor = codes ":" ++ numeral t.factor in
    let one = length-append (codes " " ++ (numeral t.row ++ factor)) (terms_text ts) in
    let two = length-append (numeral t.row) factor in
    omega (arith, one, two, terms_long ts)

some_back : (ts : List TermLine) → ts ≢ [] → All (λ t. 1 ≤ t.factor) ts
    → some_terms_in (terms_text ts) ≡ Some (map saturated_term ts, [])
some_back [] h are = absurd (h refl)
some_back (t ∷ ts) h are =
    terms_back (length (terms_text (t ∷ ts))) (t ∷ ts) (omega (arith, terms_long (t ∷ ts))) are

pub step_back : (s : StepLine) → IsStep s → s.terms ≢ []
    → step_in (step_text s) ≡ Some (step_line (saturated s.divisor) (map saturated_term s.terms))
step_back s is some =
    ap (λ o. when o (λ d. when (some_terms_in d.1) (λ ts. Some (step_line d.0 ts.0))))
    (positive_back s.divisor (terms_text s.terms) is.divisor (terms_end s.terms))
    ∙ ap (λ o. when o (λ ts. Some (step_line (saturated s.divisor) ts.0))) (some_back s.terms some is.factors)
