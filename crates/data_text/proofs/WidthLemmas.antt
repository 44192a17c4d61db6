-- What lines describe has no cell of more than 32 bits in a narrow array.
use Rattle.scop_syntax.proofs.Common.{◌≡◌, ap, subst, sym, inl, inr, ℕ, ◌^◌, ◌<◌, Bool, true, false, List, [], length}
use Rattle.scop_syntax.proofs.Common.{get_or, arith, cases_lt, get_or_past, mod_below, ℤ, narrow_arrays, Program}
use Rattle.scop_syntax.proofs.Common.{HoldWidths}
use Rattle.scop_lexer.specs.Bytes.{Text}
use Rattle.data_lines.specs.Numbers.{HaveWidth}
use Rattle.data_lines.specs.Sheets.{is_narrow}
use Rattle.data_text.specs.Cases.{seed_cell, seeded_cell}
use Rattle.data_text.specs.Described.{AreCells, AreHeld, Describes}

abbrev IsNarrow : ℕ → Type 0
IsNarrow cell = cell < 2 ^ 32

-- behind the last cell there is 0
cell_narrow : (cells : List ℕ) (k : ℕ) → (k < length cells → IsNarrow (get_or cells k 0)) → IsNarrow (get_or cells k 0)
cell_narrow cells k each = elim (cases_lt k (length cells)) [
  | inl within ↦ each within
  | inr past ↦ subst IsNarrow (sym (get_or_past cells k 0 past)) (omega arith)
]

told_narrow : (n : ℕ) (cell : ℕ → ℕ) (cells : List ℕ) (k : ℕ) → AreCells n cell cells → IsNarrow (cell k)
    → IsNarrow (get_or cells k 0)
told_narrow n cell cells k are narrow = cell_narrow cells k (λ within.
    subst IsNarrow (sym (are.each k (omega (arith, within, are.count_is)))) narrow)

listed_narrow : (narrow : Bool) (cells : List ℕ) (k : ℕ) → narrow ≡ true → HaveWidth narrow cells
    → IsNarrow (get_or cells k 0)
listed_narrow false cells k is have = absurd cc
listed_narrow true cells k is have = cell_narrow cells k (have k 0)

seeded_narrow : (narrow : Bool) (seed k : ℕ) → narrow ≡ true → IsNarrow (seeded_cell narrow seed k)
seeded_narrow false seed k is = absurd cc
seeded_narrow true seed k is = mod_below (seed_cell seed k) (2 ^ 32) (omega arith)

held_narrow : (program : Program) (lines : ℕ → Text) (j n : ℕ) (cells : List ℕ) (k : ℕ) → is_narrow program j ≡ true
    → AreHeld program lines j n cells → IsNarrow (get_or cells k 0)
held_narrow program lines j n cells k is (inl held) = told_narrow n (λ m. 0) cells k held.1 (omega arith)
held_narrow program lines j n cells k is (inr (inl held)) =
    listed_narrow (is_narrow program j) cells k is held.0.3.width
held_narrow program lines j n cells k is (inr (inr held)) =
    told_narrow n (seeded_cell (is_narrow program j) held.0) cells k held.2
    (seeded_narrow (is_narrow program j) held.0 k is)

pub widths_held : (program : Program) (lines : ℕ → Text) (params : List ℤ) (contents : List (List ℕ))
    → Describes program lines params contents → HoldWidths (narrow_arrays program) contents
widths_held program lines params contents is j k narrow = elim (cases_lt j (length contents)) [
  | inl within ↦ held_narrow program lines j _ (get_or contents j []) k narrow (is.contents_are.each j within)
  | inr past ↦ subst IsNarrow (sym (ap (λ (cells : List ℕ). get_or cells k 0) (get_or_past contents j [] past)))
      (omega arith)
]
