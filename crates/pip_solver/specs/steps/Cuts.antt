-- The parts of a cut, tied to a parameter that stands or to a new one.
use Rattle.std.specs.Prelude.{◌≡◌, ℕ, ◌+◌, ℤ, false, [], ◌∷◌, ◌++◌, map, Option, Some, None, Result, Ok, Err, ⊤}
use Rattle.wide_math.specs.Checked.{◌>>=◌}
use Rattle.checked_tableau.specs.Rows.{Row}
use Rattle.checked_tableau.specs.Moves.{row_at, cut_run}
use Rattle.checked_tableau.specs.Lines.{behind_columns}
use Rattle.wide_math.specs.declared.Wide.{Wide}
use Rattle.whole_numbers.specs.Affine.{Affine}
use Rattle.checked_tableau.specs.Nodes.{Node, Next, goes, Counted, formed, paid, with_rows}
use Rattle.checked_tableau.specs.Nodes.{cut_bound, longer_row, longer_form, under_run, at_least_run}
use Rattle.checked_tableau.specs.Table.{Table, table_of}
use Rattle.checked_tableau.specs.declared.stop.TableauStop.{TableauStop}
use Rattle.checked_tableau.specs.declared.stop.TableauStop.TheVariants as stop
use Rattle.pip_solver.specs.declared.node.Tableau.{Tableau}
use Rattle.pip_solver.specs.Node.{node_in, node_of}

-- the cut on a row, tied to a parameter that stands, or to none
abbrev pub cut_known : ℕ → ℕ → Node → ℕ → Option ℕ → Counted Next
cut_known n left node i parameter =
    paid left (λ rest. formed left (cut_run n (behind_columns n parameter) (row_at node.rows i))
    (λ new. Ok (goes (with_rows node (node.rows ++ new ∷ [])), rest)))

-- the cut on a row, tied to a new parameter
abbrev pub cut_new : ℕ → ℕ → Node → ℕ → Counted Next
cut_new n left node i = paid left (λ rest. cut_bound n left rest node i None)

-- the two forms that tie a parameter, the quotient of a form by a divisor
abbrev pub ties_run : ℤ → Affine → Result (Affine × Affine) Wide
ties_run divisor form =
    at_least_run divisor form >>= λ low. under_run divisor form >>= λ high. Ok (low, high)

-- the new row, and the two forms that tie the new parameter
abbrev pub tied_run : ℕ → ℕ → Row → ℤ → Affine → Result (Row × Affine × Affine) Wide
tied_run n m row divisor form =
    cut_run n (behind_columns n (Some m)) (longer_row row) >>= λ new. at_least_run divisor form >>= λ low.
    under_run divisor form >>= λ high. Ok (new, low, high)

-- longer rows with the new one behind them, or the number that is too wide
abbrev pub TiesRows : Table → Result Table TableauStop → Result Row Wide → Type 0
TiesRows old (Ok rows) run =
    (new : Row) × (run ≡ Ok new)
    × (rows ≡ table_of old.unknowns (old.parameters + 1) (map longer_row old.rows ++ new ∷ []) None)
TiesRows old (Err (stop.Wide w)) run = run ≡ Err w
TiesRows old (Err stop.NoMemory) run = ⊤

-- longer rows with the new one behind them, and the two forms, or the number that is too wide
abbrev pub TiesParts : Table → Result (Table × Affine × Affine) TableauStop → Result (Row × Affine × Affine) Wide
    → Type 0
TiesParts old (Ok parts) run =
    (new : Row) × (run ≡ Ok (new, parts.1, parts.2))
    × (parts.0 ≡ table_of old.unknowns (old.parameters + 1) (map longer_row old.rows ++ new ∷ []) None)
TiesParts old (Err (stop.Wide w)) run = run ≡ Err w
TiesParts old (Err stop.NoMemory) run = ⊤

-- a node goes on with other rows and a new parameter, or stays
abbrev pub BindsOn : {U E : Type 0} → Tableau → Table → Affine → ℤ → Affine → Affine → Tableau → Result U E → Type 0
BindsOn old rows form divisor low high new (Ok _) =
    (new.rows ≡ rows)
    × (node_of new
    ≡ node_in false rows (map longer_form old.context.items ++ low ∷ high ∷ [])
    (record { form = form; divisor = divisor; place = old.rows.parameters } ∷ old.bounds.items))
BindsOn old rows form divisor low high new (Err _) = (node_of new ≡ node_of old) × (new.rows ≡ old.rows)
