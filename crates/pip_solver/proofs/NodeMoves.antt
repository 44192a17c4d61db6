-- The moves of a node, from those of its rows.
use Rattle.whole_numbers.proofs.Common.{◌≡◌, ℕ, ◌+◌, ◌<◌, ℤ, [], ◌∷◌, ◌++◌, length, map, refl, subst, ap, ◌∙◌, Some}
use Rattle.whole_numbers.proofs.Common.{None, Result, Ok, Err, IfOk, OnOk, Affine}
use Rattle.wide_math.specs.declared.Wide.{Wide}
use Rattle.wide_math.specs.Checked.{◌>>=◌}
use Rattle.checked_tableau.specs.Rows.{Row}
use Rattle.checked_tableau.specs.Moves.{cut_run, row_at}
use Rattle.checked_tableau.specs.Lines.{behind_columns}
use Rattle.checked_tableau.proofs.AddedParameters.{row_at-longer}
use Rattle.checked_tableau.specs.Nodes.{Next, goes, Counted, pivot, longer_row, at_least_run, under_run}
use Rattle.checked_tableau.specs.Table.{Table, table_of, resumed}
use Rattle.pip_solver.specs.Node.{node_of, next_of, Moves}
use Rattle.pip_solver.specs.steps.Cuts.{tied_run, ties_run, TiesRows, TiesParts}
use Rattle.pip_solver.specs.Node.{Pivots, Keeps}
use Rattle.pip_solver.specs.declared.node.Tableau.{Tableau}
use Rattle.pip_solver.specs.declared.node.Move.TheVariants as move
use Rattle.checked_tableau.specs.declared.stop.TableauStop.{TableauStop}
use Rattle.checked_tableau.specs.declared.stop.TableauStop.TheVariants as stop

-- the cut on a row of the wider rows
pub widened-cut : (old wider new : Table) (i place : ℕ)
    → wider ≡ table_of old.unknowns (old.parameters + 1) (map longer_row old.rows) None → i < length old.rows
    → place ≡ old.parameters
    → (x : Row) × (resumed wider.stopped (cut_run wider.unknowns (behind_columns wider.unknowns (Some place))
    (row_at wider.rows i)) ≡ Ok x)
    × (new ≡ table_of wider.unknowns wider.parameters (wider.rows ++ x ∷ []) None)
    → (x : Row) × (cut_run old.unknowns (behind_columns old.unknowns (Some old.parameters))
    (longer_row (row_at old.rows i)) ≡ Ok x)
    × (new ≡ table_of old.unknowns (old.parameters + 1) (map longer_row old.rows ++ x ∷ []) None)
widened-cut old wider new i place is within placed h =
    let g = subst (λ (t : Table). (x : Row) ×
    (resumed t.stopped (cut_run t.unknowns (behind_columns t.unknowns (Some place)) (row_at t.rows i)) ≡ Ok x)
    × (new ≡ table_of t.unknowns t.parameters (t.rows ++ x ∷ []) None)) is h in (
      g.0,
      subst (λ (r : Row). cut_run old.unknowns (behind_columns old.unknowns (Some old.parameters)) r ≡ Ok g.0)
          (row_at-longer old.rows i within)
          (subst (λ (k : ℕ). cut_run old.unknowns (behind_columns old.unknowns (Some k))
          (row_at (map longer_row old.rows) i) ≡ Ok g.0) placed g.1),
      g.2,
    )

-- the run of all parts, from those of the row and of the two forms
in_turn : (new : Row) (low high : Result Affine Wide)
    → ◌>>=◌ {B = Row × Affine × Affine} low (λ f. high >>= λ g. Ok (new, f, g))
    ≡ ◌>>=◌ {B = Row × Affine × Affine} (◌>>=◌ {B = Affine × Affine} low (λ f. high >>= λ g. Ok (f, g)))
    (λ p. Ok (new, p.0, p.1))
in_turn new (Err w) high = refl
in_turn new (Ok f) (Err w) = refl
in_turn new (Ok f) (Ok g) = refl

pub tied-run : (n m : ℕ) (row new : Row) (d : ℤ) (f : Affine) (ties : Result (Affine × Affine) Wide)
    → cut_run n (behind_columns n (Some m)) (longer_row row) ≡ Ok new → ties_run d f ≡ ties
    → tied_run n m row d f ≡ (ties >>= λ p. Ok (new, p.0, p.1))
tied-run n m row new d f ties made tied =
    rw made (in_turn new (at_least_run d f) (under_run d f)
    ∙ ap (λ (q : Result (Affine × Affine) Wide). q >>= λ p. Ok (new, p.0, p.1)) tied)

tied-err : (n m : ℕ) (row : Row) (d : ℤ) (f : Affine) (w : Wide)
    → cut_run n (behind_columns n (Some m)) (longer_row row) ≡ Err w → tied_run n m row d f ≡ Err w
tied-err n m row d f w failed = rw failed refl

pub parts-err : (old : Table) (row : Row) (d : ℤ) (f : Affine) (e : TableauStop)
    → TiesRows old (Err e) (cut_run old.unknowns (behind_columns old.unknowns (Some old.parameters)) (longer_row row))
    → TiesParts old (Err e) (tied_run old.unknowns old.parameters row d f)
parts-err old row d f (stop.Wide w) failed = tied-err old.unknowns old.parameters row d f w failed
parts-err old row d f stop.NoMemory failed = tt

-- a move that is the run's keeps the solutions as the run's does
pub moves-keep : (old new : Tableau) (run : ℕ → Counted Next) (result : Result move.the_data TableauStop)
    → Moves old run new result
    → ((next : Next) → run 1 ≡ Ok (next, 0) → Keeps old next) → IfOk result (λ m. Keeps old (next_of m new))
moves-keep old new run (Ok m) moves keeps = keeps (next_of m new) (moves.0 0)
moves-keep old new run (Err e) moves keeps = tt

pub pivots-keep : {U : Type 0} (old new : Tableau) (row : ℕ) (result : Result U Wide) → Pivots old row new result
    → ((next : Next) → pivot old.rows.unknowns 1 (node_of old) row ≡ Ok (next, 0) → Keeps old next)
    → OnOk result (Keeps old (goes (node_of new)))
pivots-keep old new row (Ok x) pivots keeps = keeps (goes (node_of new)) (pivots.0 0)
pivots-keep old new row (Err w) pivots keeps = tt
