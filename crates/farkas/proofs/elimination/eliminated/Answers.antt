use Rattle.whole_numbers.proofs.Common.{◌∙◌, ◌-◌, sym, ap, ap₂, subst, ℕ, map}
use Rattle.integer_sets.specs.Constraints.{Constraints, system_of}
use Rattle.fractions.specs.Elimination.{narrowed}
use Rattle.farkas.specs.declared.stuck.Stuck.TheVariants as stuck
use Rattle.farkas.specs.Run.{narrowing}
use Rattle.farkas.specs.Gives.{Halts}
use Rattle.farkas.proofs.EliminationRuns.{narrowing-halts, narrowing-gives}
use Rattle.farkas.proofs.elimination.eliminated.Goals as goal

pub returns-in-Err : goal.returns-in-Err
returns-in-Err c budget =
    let s = c.args.system.now in
    subst (λ (e : stuck.the_data). Halts budget e (narrowing (s.dimensions - 1) c.args.variable s)) (sym
    c.by_elimination.ensures)
    (narrowing-halts budget (s.dimensions - 1) c.args.variable s c.in-Err.stop c.in-Err.ensures.run)

pub returns : goal.returns
returns c budget =
    let s = c.args.system.now in
    let v = c.args.variable in
    let t = c.in-Ok.left in
    let is = c.in-Ok.ensures.exact in
    let dimensions = ap (λ (w : Constraints). w.dimensions) is in
    let flat = ap (λ (w : Constraints). w.parameters) is ∙ c.requires.flat in
    narrowing-gives (s.dimensions - 1) v s t c.in-Ok-without_column.narrow c.in-Ok.ensures.run
    (c.in-Ok-without_column.ensures
    ∙ ap₂ (λ (d p : ℕ). system_of (d - 1) p (map (narrowed v) t.equalities) (map (narrowed v) t.rows)) dimensions flat)
