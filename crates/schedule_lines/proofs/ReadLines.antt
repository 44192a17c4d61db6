-- Lines that are read are printed ones.
use Rattle.std.proofs.Common.{◌≡◌, ◌∙◌, ap, ap₂, sym, subst, refl, ℕ, zero, suc, Bool, true, false, List, [], ◌∷◌, ◌++◌}
use Rattle.std.proofs.Common.{map, length, ◌==◌, if◌then◌else◌, Option, Some, None, codes}
use Rattle.std.proofs.lemmas.Bool.{eqb-true}
use Rattle.std.proofs.lemmas.List.{append_assoc, length-map}
use Rattle.std.proofs.lemmas.Option.{none-some, same_Some}
use Rattle.scop_lexer.specs.Bytes.{Text}
use Rattle.form_text.specs.Numerals.{numeral}
use Rattle.form_text.specs.Reading.{strip, when}
use Rattle.form_text.specs.View.{saturated}
use Rattle.schedule_lines.specs.Lines.{Part, Row, Scalar, before, label_text, list_text, mark_text, numbers_from}
use Rattle.schedule_lines.specs.Lines.{part_text, parts_text, row_text, scalar_text, values_text}
use Rattle.schedule_lines.specs.Reading.{behind_label, behind_number, bound_in, bounded, entry_in, list_in, mark_by, mark_in}
use Rattle.schedule_lines.specs.Reading.{numbers_by, numbers_in, numeral_in, part_in, part_of, parts_in, place_in, row_in}
use Rattle.schedule_lines.specs.Reading.{row_of, scalar_in, scalar_of, shifted, value_in, values_in, whole, whole_numeral_in}
use Rattle.schedule_lines.specs.Reading.{with_first}
use Rattle.schedule_lines.specs.Saturated.{saturated_part, saturated_row, saturated_scalar}
use Rattle.schedule_lines.proofs.NumeralLemmas.{IsRead, numeral_read, whole_numeral_read}
use Rattle.schedule_lines.proofs.PrintedLines.{label_apart, numbers_apart, part_apart}
use Rattle.schedule_lines.proofs.RowParts.{if_some, row_has, when_some, whole_is}

-- what is taken off stood in front
pub strip_some : (p text rest : Text) → strip p text ≡ Some rest → text ≡ p ++ rest
strip_some [] text rest h = same_Some text rest h
strip_some (a ∷ p) [] rest h = absurd (none-some rest h)
strip_some (a ∷ p) (b ∷ bs) rest h =
    let both = if_some (a == b) (strip p bs) rest h in
    ap (λ x. x ∷ bs) (sym (eqb-true a b both.0)) ∙ ap (λ (t : Text). a ∷ t) (strip_some p bs rest both.1)

-- a first entry, and those behind it
pub first_some : {A : Type 0} (x : A) (o : Option (List A × Text)) (r : List A × Text) → with_first x o ≡ Some r
    → (xs : List A × Text) × (o ≡ Some xs) × ((x ∷ xs.0, xs.1) ≡ r)
first_some x None r h = absurd (none-some r h)
first_some x (Some xs) r h = (xs, refl, same_Some (x ∷ xs.0, xs.1) r h)

-- a number behind a text that is taken off
number_behind : (p text : Text) (r : ℕ × Text) → when (strip p text) numeral_in ≡ Some r
    → IsRead saturated (λ n rest. p ++ (numeral n ++ rest)) text r
number_behind p text r h =
    let a = when_some (strip p text) numeral_in r h in
    let n = numeral_read a.0 r a.2 in (n.0, strip_some p text a.0 a.1 ∙ ap (λ t. p ++ t) n.1, n.2)

-- numbers up to a closing parenthesis
abbrev AreNumbers : ℕ → Text → List ℕ × Text → Type 0
AreNumbers at text r = IsRead (map saturated) (λ ns rest. (numbers_from at ns ++ codes ")") ++ rest) text r

numbers_read : (k at : ℕ) (text : Text) (r : List ℕ × Text) → numbers_in k at text ≡ Some r → AreNumbers at text r
numbers_read zero at text r h = absurd (none-some r h)
numbers_read (suc k) at text r h = by_end (numbers_read k (suc at)) (strip (codes ")") text) refl h
  where
    by_end : ((t : Text) (q : List ℕ × Text) → numbers_in k (suc at) t ≡ Some q → AreNumbers (suc at) t q)
        → (end : Option Text) → strip (codes ")") text ≡ end → numbers_by (suc k) at text end ≡ Some r
        → AreNumbers at text r
    by_end again (Some rest) e h =
        subst (AreNumbers at text) (same_Some ([], rest) r h) ([], strip_some (codes ")") text rest e, refl)
    by_end again None e h =
        let n = when_some (entry_in at text) (λ n. with_first n.0 (numbers_in k (suc at) n.1)) r h in
        let ns = first_some n.0.0 (numbers_in k (suc at) n.0.1) r n.2 in
        let one = number_behind (before at (codes " ")) text n.0 n.1 in
        let more = again n.0.1 ns.0 ns.1 in
        let printed = one.1
        ∙ (ap (λ t. before at (codes " ") ++ (numeral one.0 ++ t)) more.1
        ∙ sym (numbers_apart at one.0 more.0 ns.0.1)) in
        subst (AreNumbers at text) ns.2 (one.0 ∷ more.0, printed, ap₂ (λ x xs. x ∷ xs) one.2 more.2)

list_read : (text : Text) (r : List ℕ × Text) → list_in text ≡ Some r
    → IsRead (map saturated) (λ ns rest. list_text ns ++ rest) text r
list_read text r h =
    let a = when_some (strip (codes "(") text) (λ t. numbers_in (length t) 0 t) r h in
    let ns = numbers_read (length a.0) 0 a.0 r a.2 in
    (ns.0, strip_some (codes "(") text a.0 a.1 ∙ ap (λ t. codes "(" ++ t) ns.1, ns.2)

-- a statement's name
number_is : (k : ℕ) (text rest : Text) → behind_number k text ≡ Some rest → text ≡ numeral k ++ rest
number_is k text rest h =
    let n = when_some (whole_numeral_in text) (λ n. if n.0 == k then Some n.1 else None) rest h in
    let same = if_some (n.0.0 == k) (Some n.0.1) rest n.2 in
    whole_numeral_read text n.0 n.1
    ∙ ap₂ (λ i t. numeral i ++ t) (eqb-true n.0.0 k same.0) (same_Some n.0.1 rest same.1)

label_read : (at : ℕ) (text rest : Text) → behind_label at text ≡ Some rest → text ≡ label_text at ++ rest
label_read at text rest h =
    let front = before at (codes ", ") in
    let number = numeral (suc at) in
    let a = when_some (strip front text)
    (λ a. when (strip (codes "S") a) (λ b. when (behind_number (suc at) b) (strip (codes " ")))) rest h in
    let b = when_some (strip (codes "S") a.0) (λ b. when (behind_number (suc at) b) (strip (codes " "))) rest a.2 in
    let c = when_some (behind_number (suc at) b.0) (strip (codes " ")) rest b.2 in
    strip_some front text a.0 a.1
    ∙ (ap (λ t. front ++ t) (strip_some (codes "S") a.0 b.0 b.1)
    ∙ (ap (λ t. front ++ (codes "S" ++ t)) (number_is (suc at) b.0 c.0 c.1)
    ∙ (ap (λ t. front ++ (codes "S" ++ (number ++ t))) (strip_some (codes " ") c.0 rest c.2)
    ∙ sym (label_apart at rest))))

-- a statement's part
abbrev IsPart : ℕ → Text → Part × Text → Type 0
IsPart at text r = IsRead saturated_part (λ p rest. part_text at p ++ rest) text r

part_read : (at n : ℕ) (text : Text) (r : Part × Text) → part_in at n text ≡ Some r → IsPart at text r
part_read at n text r h =
    let a = when_some (behind_label at text) (λ c. when (list_in c) (shifted n)) r h in
    let cs = when_some (list_in a.0) (shifted n) r a.2 in
    let behind = if_some (length cs.0.0 == n) (when (strip (codes " + ") cs.0.1)
    (λ d. when (numeral_in d) (λ s. Some (part_of cs.0.0 s.0, s.1)))) r cs.2 in
    let d = when_some (strip (codes " + ") cs.0.1)
    (λ d. when (numeral_in d) (λ s. Some (part_of cs.0.0 s.0, s.1))) r behind.1 in
    let s = when_some (numeral_in d.0) (λ s. Some (part_of cs.0.0 s.0, s.1)) r d.2 in
    let list = list_read a.0 cs.0 cs.1 in
    let shift = numeral_read d.0 s.0 s.1 in
    let name = label_text at in
    let printed = label_read at text a.0 a.1
    ∙ (ap (λ t. name ++ t) list.1
    ∙ (ap (λ t. name ++ (list_text list.0 ++ t)) (strip_some (codes " + ") cs.0.1 d.0 d.1)
    ∙ (ap (λ t. name ++ (list_text list.0 ++ (codes " + " ++ t))) shift.1
    ∙ sym (part_apart at (part_of list.0 shift.0) s.0.1)))) in
    subst (IsPart at text) (same_Some (part_of cs.0.0 s.0.0, s.0.1) r s.2)
    (part_of list.0 shift.0, printed, ap₂ part_of list.2 shift.2)

abbrev AreParts : ℕ → Text → List Part × Text → Type 0
AreParts at text r = IsRead (map saturated_part) (λ ps rest. parts_text at ps ++ rest) text r

parts_read : (at : ℕ) (loops : List ℕ) (text : Text) (r : List Part × Text) → parts_in at loops text ≡ Some r
    → AreParts at text r
parts_read at [] text r h = subst (AreParts at text) (same_Some ([], text) r h) ([], refl, refl)
parts_read at (n ∷ ns) text r h =
    let p = when_some (part_in at n text) (λ p. with_first p.0 (parts_in (suc at) ns p.1)) r h in
    let ps = first_some p.0.0 (parts_in (suc at) ns p.0.1) r p.2 in
    let one = part_read at n text p.0 p.1 in
    let more = parts_read (suc at) ns p.0.1 ps.0 ps.1 in
    let printed = one.1
    ∙ (ap (λ t. part_text at one.0 ++ t) more.1
    ∙ sym (append_assoc (part_text at one.0) (parts_text (suc at) more.0) ps.0.1)) in
    subst (AreParts at text) ps.2 (one.0 ∷ more.0, printed, ap₂ (λ x xs. x ∷ xs) one.2 more.2)

-- the numbers of a row and its band
abbrev IsPlace : Text → (ℕ × ℕ) × Text → Type 0
IsPlace text r =
    (n : ℕ) × (b : ℕ) × (text ≡ codes "row " ++ (numeral n ++ (codes " band " ++ (numeral b ++ r.1))))
    × (r.0.0 ≡ saturated n) × (r.0.1 ≡ saturated b)

place_read : (text : Text) (r : (ℕ × ℕ) × Text) → place_in text ≡ Some r → IsPlace text r
place_read text r h =
    let a = when_some (strip (codes "row ") text) (λ a. when (numeral_in a) (λ k. when (strip (codes " band ") k.1)
    (λ c. when (numeral_in c) (λ b. Some ((k.0, b.0), b.1))))) r h in
    let k = when_some (numeral_in a.0) (λ k. when (strip (codes " band ") k.1)
    (λ c. when (numeral_in c) (λ b. Some ((k.0, b.0), b.1)))) r a.2 in
    let c = when_some (strip (codes " band ") k.0.1) (λ c. when (numeral_in c) (λ b. Some ((k.0.0, b.0), b.1))) r k.2 in
    let b = when_some (numeral_in c.0) (λ b. Some ((k.0.0, b.0), b.1)) r c.2 in
    let number = numeral_read a.0 k.0 k.1 in
    let band = numeral_read c.0 b.0 b.1 in
    let printed = strip_some (codes "row ") text a.0 a.1
    ∙ (ap (λ t. codes "row " ++ t) number.1
    ∙ (ap (λ t. codes "row " ++ (numeral number.0 ++ t)) (strip_some (codes " band ") k.0.1 c.0 c.1)
    ∙ ap (λ t. codes "row " ++ (numeral number.0 ++ (codes " band " ++ t))) band.1)) in
    subst (IsPlace text) (same_Some ((k.0.0, b.0.0), b.0.1) r b.2) (number.0, band.0, printed, number.2, band.2)

-- the mark of a row, u and w
abbrev IsMark : Text → Bool × Text → Type 0
IsMark text r = text ≡ mark_text r.0 ++ r.1

mark_read : (text : Text) (r : Bool × Text) → mark_in text ≡ Some r → IsMark text r
mark_read text r h = by_mark (strip (codes " parallel u ") text) (strip (codes " carries u ") text) refl refl h
  where
    by_mark : (one other : Option Text) → strip (codes " parallel u ") text ≡ one
        → strip (codes " carries u ") text ≡ other → mark_by one other ≡ Some r → IsMark text r
    by_mark (Some t) other e g h =
        subst (IsMark text) (same_Some (true, t) r h) (strip_some (codes " parallel u ") text t e)
    by_mark None (Some t) e g h =
        subst (IsMark text) (same_Some (false, t) r h) (strip_some (codes " carries u ") text t g)
    by_mark None None e g h = absurd (none-some r h)

abbrev IsBound : Text → (Bool × List ℕ × ℕ) × Text → Type 0
IsBound text r =
    (u : List ℕ) × (w : ℕ)
    × (text ≡ mark_text r.0.0 ++ (list_text u ++ (codes " w " ++ (numeral w ++ (codes ": " ++ r.1)))))
    × (r.0.1 ≡ map saturated u) × (r.0.2 ≡ saturated w)

bound_read : (text : Text) (r : (Bool × List ℕ × ℕ) × Text) → bound_in text ≡ Some r → IsBound text r
bound_read text r h =
    let m = when_some (mark_in text) (λ m. when (list_in m.1) (bounded m.0)) r h in
    let u = when_some (list_in m.0.1) (bounded m.0.0) r m.2 in
    let d = when_some (strip (codes " w ") u.0.1) (λ d. when (numeral_in d) (λ w. when (strip (codes ": ") w.1)
    (λ e. Some ((m.0.0, u.0.0, w.0), e)))) r u.2 in
    let w = when_some (numeral_in d.0) (λ w. when (strip (codes ": ") w.1) (λ e. Some ((m.0.0, u.0.0, w.0), e))) r d.2 in
    let e = when_some (strip (codes ": ") w.0.1) (λ e. Some ((m.0.0, u.0.0, w.0.0), e)) r w.2 in
    let list = list_read m.0.1 u.0 u.1 in
    let number = numeral_read d.0 w.0 w.1 in
    let mark = mark_text m.0.0 in
    let front = list_text list.0 in
    let printed = mark_read text m.0 m.1
    ∙ (ap (λ t. mark ++ t) list.1
    ∙ (ap (λ t. mark ++ (front ++ t)) (strip_some (codes " w ") u.0.1 d.0 d.1)
    ∙ (ap (λ t. mark ++ (front ++ (codes " w " ++ t))) number.1
    ∙ ap (λ t. mark ++ (front ++ (codes " w " ++ (numeral number.0 ++ t)))) (strip_some (codes ": ") w.0.1 e.0 e.1)))) in
    subst (IsBound text) (same_Some ((m.0.0, u.0.0, w.0.0), e.0) r e.2) (list.0, number.0, printed, list.2, number.2)

pub whole_ends : {A : Type 0} (x : A) (text : Text) (y : A) → whole x text ≡ Some y → text ≡ []
whole_ends x [] y h = refl
whole_ends x (b ∷ bs) y h = absurd (none-some y h)

saturated_lengths : (ps : List Part)
    → map (λ p. length p.coefficients) (map saturated_part ps) ≡ map (λ p. length p.coefficients) ps
saturated_lengths [] = refl
saturated_lengths (p ∷ ps) = ap₂ (λ n ns. n ∷ ns) (length-map p.coefficients saturated) (saturated_lengths ps)

-- a row
abbrev IsRow : List ℕ → Text → Row → Type 0
IsRow loops line s =
    (r : Row) × (map (λ p. length p.coefficients) r.parts ≡ loops) × (line ≡ row_text r) × (s ≡ saturated_row r)

pub row_read : (loops : List ℕ) (line : Text) (s : Row) → row_in loops line ≡ Some s → IsRow loops line s
row_read loops line s h =
    let k = when_some (place_in line) (λ k. when (bound_in k.1) (λ u. when (parts_in 0 loops u.1)
    (λ p. whole (row_of k.0.0 k.0.1 u.0.0 u.0.1 u.0.2 p.0) p.1))) s h in
    let u = when_some (bound_in k.0.1) (λ u. when (parts_in 0 loops u.1)
    (λ p. whole (row_of k.0.0.0 k.0.0.1 u.0.0 u.0.1 u.0.2 p.0) p.1)) s k.2 in
    let p = when_some (parts_in 0 loops u.0.1)
    (λ p. whole (row_of k.0.0.0 k.0.0.1 u.0.0.0 u.0.0.1 u.0.0.2 p.0) p.1) s u.2 in
    let made : ℕ → ℕ → List ℕ → ℕ → List Part → Row = λ n b us w ps. row_of n b u.0.0.0 us w ps in
    let place = place_read line k.0 k.1 in
    let bound = bound_read k.0.1 u.0 u.1 in
    let parts = parts_read 0 loops u.0.1 p.0 p.1 in
    let none = whole_ends (made k.0.0.0 k.0.0.1 u.0.0.1 u.0.0.2 p.0.0) p.0.1 s p.2 in
    let r : Row = made place.0 place.1 bound.0 bound.1 parts.0 in
    let front : Text → Text = λ t. codes "row " ++ (numeral place.0 ++ (codes " band " ++ (numeral place.1 ++ t))) in
    let middle : Text → Text = λ t. mark_text u.0.0.0 ++ (list_text bound.0 ++ (codes " w " ++ (numeral bound.1
    ++ (codes ": " ++ t)))) in
    let printed : line ≡ row_text r = place.2
    ∙ (ap front bound.2
    ∙ (ap (λ t. front (middle t)) parts.1 ∙ ap (λ t. front (middle (parts_text 0 parts.0 ++ t))) none)) in
    let same : s ≡ saturated_row r = sym (whole_is (made k.0.0.0 k.0.0.1 u.0.0.1 u.0.0.2 p.0.0) p.0.1 s p.2)
    ∙ (ap (λ n. made n k.0.0.1 u.0.0.1 u.0.0.2 p.0.0) place.3
    ∙ (ap (λ b. made (saturated place.0) b u.0.0.1 u.0.0.2 p.0.0) place.4
    ∙ (ap (λ us. made (saturated place.0) (saturated place.1) us u.0.0.2 p.0.0) bound.3
    ∙ (ap (λ w. made (saturated place.0) (saturated place.1) (map saturated bound.0) w p.0.0) bound.4
    ∙ ap (made (saturated place.0) (saturated place.1) (map saturated bound.0) (saturated bound.1)) parts.2)))) in
    let lengths = sym (saturated_lengths parts.0)
    ∙ (ap (λ (q : Row). map (λ p. length p.coefficients) q.parts) (sym same) ∙ row_has loops line s h) in
    (r, lengths, printed, same)

-- a scalar item
abbrev AreValues : ℕ → ℕ → Text → List ℕ × Text → Type 0
AreValues at n text r =
    (vs : List ℕ) × (length vs ≡ n) × (text ≡ values_text at vs ++ r.1) × (r.0 ≡ map saturated vs)

values_read : (at n : ℕ) (text : Text) (r : List ℕ × Text) → values_in at n text ≡ Some r → AreValues at n text r
values_read at zero text r h = subst (AreValues at zero text) (same_Some ([], text) r h) ([], refl, refl, refl)
values_read at (suc n) text r h =
    let v = when_some (value_in at text) (λ v. with_first v.0 (values_in (suc at) n v.1)) r h in
    let vs = first_some v.0.0 (values_in (suc at) n v.0.1) r v.2 in
    let a = when_some (behind_label at text) numeral_in v.0 v.1 in
    let one = numeral_read a.0 v.0 a.2 in
    let more = values_read (suc at) n v.0.1 vs.0 vs.1 in
    let name = label_text at in
    let rest = values_text (suc at) more.0 in
    let printed = label_read at text a.0 a.1
    ∙ (ap (λ t. name ++ t) one.1
    ∙ (ap (λ t. name ++ (numeral one.0 ++ t)) more.2
    ∙ (sym (append_assoc name (numeral one.0) (rest ++ vs.0.1))
    ∙ sym (append_assoc (name ++ numeral one.0) rest vs.0.1)))) in
    subst (AreValues at (suc n) text) vs.2
    (one.0 ∷ more.0, ap (λ k. suc k) more.1, printed, ap₂ (λ x xs. x ∷ xs) one.2 more.3)

abbrev IsScalar : ℕ → Text → Scalar → Type 0
IsScalar n line t = (s : Scalar) × (length s.values ≡ n) × (line ≡ scalar_text s) × (t ≡ saturated_scalar s)

pub scalar_read : (n : ℕ) (line : Text) (t : Scalar) → scalar_in n line ≡ Some t → IsScalar n line t
scalar_read n line t h =
    let a = when_some (strip (codes "scalar ") line) (λ a. when (numeral_in a) (λ k. when (strip (codes ": ") k.1)
    (λ c. when (values_in 0 n c) (λ vs. whole (scalar_of k.0 vs.0) vs.1)))) t h in
    let k = when_some (numeral_in a.0) (λ k. when (strip (codes ": ") k.1)
    (λ c. when (values_in 0 n c) (λ vs. whole (scalar_of k.0 vs.0) vs.1))) t a.2 in
    let c = when_some (strip (codes ": ") k.0.1) (λ c. when (values_in 0 n c)
    (λ vs. whole (scalar_of k.0.0 vs.0) vs.1)) t k.2 in
    let vs = when_some (values_in 0 n c.0) (λ vs. whole (scalar_of k.0.0 vs.0) vs.1) t c.2 in
    let number = numeral_read a.0 k.0 k.1 in
    let values = values_read 0 n c.0 vs.0 vs.1 in
    let none = whole_ends (scalar_of k.0.0 vs.0.0) vs.0.1 t vs.2 in
    let front : Text → Text = λ u. codes "scalar " ++ (numeral number.0 ++ u) in
    let printed = strip_some (codes "scalar ") line a.0 a.1
    ∙ (ap (λ u. codes "scalar " ++ u) number.1
    ∙ (ap front (strip_some (codes ": ") k.0.1 c.0 c.1)
    ∙ (ap (λ u. front (codes ": " ++ u)) values.2
    ∙ ap (λ u. front (codes ": " ++ (values_text 0 values.0 ++ u))) none))) in (
      scalar_of number.0 values.0,
      values.1,
      printed,
      sym (whole_is (scalar_of k.0.0 vs.0.0) vs.0.1 t vs.2) ∙ ap₂ scalar_of number.2 values.3,
    )
