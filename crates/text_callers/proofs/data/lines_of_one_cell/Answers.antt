use Rattle.scop_syntax.proofs.Common.{[], ◌∷◌, ◌<◌, ◌^◌, ℕ, Bool, true, false, arith, All, All-nil, All-cons}
use Rattle.data_lines.specs.Numbers.{HaveWidth}
use Rattle.text_callers.proofs.data.lines_of_one_cell.Goals as goal

-- the cell has 64 bits, and also 32
small : All (λ (cell : ℕ). cell < 2 ^ 64) (7 ∷ [])
small = All-cons (λ (cell : ℕ). cell < 2 ^ 64) 7 [] (omega arith) (All-nil (λ (cell : ℕ). cell < 2 ^ 64))

has_width : (narrow : Bool) → HaveWidth narrow (7 ∷ [])
has_width true = All-cons (λ (cell : ℕ). cell < 2 ^ 32) 7 [] (omega arith) (All-nil (λ (cell : ℕ). cell < 2 ^ 32))
has_width false = tt

pub returns-clause-line : goal.returns-clause-line
returns-clause-line c = λ program sheet line name is.
    c.array_lines_are_data_lines.ensures.line program sheet line name (7 ∷ []) is (omega arith) small

pub returns-clause-cells : goal.returns-clause-cells
returns-clause-cells c = λ narrow line.
    c.array_lines_are_data_lines.ensures.cells narrow line (7 ∷ []) (omega arith) small (has_width narrow)
