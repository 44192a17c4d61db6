-- A row's part, and a leaf's form, read off a row's line.
use Rattle.whole_numbers.proofs.Common.{◌≡◌, ℕ, suc, ◌+◌, ◌<◌, ℤ, pos, List, ◌∷◌, length, get_or, drop, map, subst, ap}
use Rattle.whole_numbers.proofs.Common.{ap₂, sym, ◌∙◌, arith, drop-cons, floor, form_of}
use Rattle.std.proofs.Common.{drop-drop}
use Rattle.tableau_rows.specs.Rows.{Row, entry}
use Rattle.tableau_rows.specs.Moves.{line_row}
use Rattle.checked_tableau.specs.Nodes.{all_divided, divided, part_of}
use Rattle.tableau_rows.proofs.Lines.{entry_at}

-- the numbers behind the constant
behind-line : (n : ℕ) (line : List ℤ) → drop (n + 1 + 1) line ≡ drop (n + 1) (drop 1 line)
behind-line n line =
    let k : n + 1 + 1 ≡ 1 + (n + 1) = omega arith in ap (λ (i : ℕ). drop i line) k ∙ sym (drop-drop (n + 1) 1 line)

-- a row's part
pub part-line : (n : ℕ) (line : List ℤ) (row : Row) → line_row line ≡ row
    → form_of (drop (n + 1 + 1) line) (get_or line (n + 1) (pos 0)) ≡ part_of n row
part-line n line row is =
    subst (λ (r : Row). form_of (drop (n + 1 + 1) line) (get_or line (n + 1) (pos 0)) ≡ part_of n r) is
    (ap₂ (λ (zs : List ℤ) (z : ℤ). form_of zs z) (behind-line n line) (sym (entry_at line n)))

-- whether the denominator divides each number of the part
pub numbers-line : (n : ℕ) (line : List ℤ) (row : Row) → line_row line ≡ row → n + 1 < length line
    → all_divided (get_or line 0 (pos 0)) (drop (n + 1) line)
    ≡ all_divided row.denominator (entry row n ∷ drop (n + 1) row.entries)
numbers-line n line row is inside =
    let k : suc (n + 1) ≡ n + 1 + 1 = omega arith in
    subst (λ (r : Row). all_divided (get_or line 0 (pos 0)) (drop (n + 1) line)
    ≡ all_divided r.denominator (entry r n ∷ drop (n + 1) r.entries)) is
    (ap (λ (zs : List ℤ). all_divided (get_or line 0 (pos 0)) zs)
    (drop-cons line (n + 1) (pos 0) inside
    ∙ ap₂ (λ (z : ℤ) (zs : List ℤ). z ∷ zs) (sym (entry_at line n))
    (ap (λ (i : ℕ). drop i line) k ∙ behind-line n line)))

-- a row's part over its denominator
pub divided-line : (n : ℕ) (line : List ℤ) (row : Row) → line_row line ≡ row
    → form_of (map (λ z. floor z (get_or line 0 (pos 0))) (drop (n + 1 + 1) line))
    (floor (get_or line (n + 1) (pos 0)) (get_or line 0 (pos 0))) ≡ divided row.denominator (part_of n row)
divided-line n line row is =
    let d = get_or line 0 (pos 0) in
    subst (λ (r : Row). form_of (map (λ z. floor z d) (drop (n + 1 + 1) line)) (floor (get_or line (n + 1) (pos 0)) d)
    ≡ divided r.denominator (part_of n r)) is
    (ap₂ (λ (zs : List ℤ) (z : ℤ). form_of (map (λ z. floor z d) zs) (floor z d)) (behind-line n line)
    (sym (entry_at line n)))
