use Rattle.whole_numbers.proofs.Common.{◌∙◌, ◌-◌, ap, arith, refl, ℕ}
use Rattle.farkas.specs.Unknowns.{layout_of}
use Rattle.farkas.specs.declared.layout.Layout.{Layout}
use Rattle.farkas.specs.Run.{left_run, rows_run}
use Rattle.integer_sets.specs.Constraints.{Constraints}
use Rattle.farkas.specs.Gives.{Follows}
use Rattle.farkas.proofs.EliminationRuns.{posed-shape, rows-halt, rows-left, follows-same, follows-farkas}
use Rattle.farkas.proofs.rows_of.Goals as goal
use Rattle.farkas.proofs.rows_of.Goals.{After-without_multipliers}

pub without_multipliers-requires-clause-inside : goal.without_multipliers-requires-clause-inside
without_multipliers-requires-clause-inside c =
    let shape = posed-shape c.args.claim c.args.source c.args.target c.args.system.now c.in-Ok.posed
    (c.in-Ok.ensures.run 0) in
    let dims = shape.0 in
    let own = ap (λ (l : Layout). l.unknowns) (c.in-Some.ensures.layout c.in-Some.layout refl)
    ∙ ap (λ (p : ℕ). (layout_of p c.args.source c.args.target).unknowns) c.parameters.ensures in
    omega arith

pub without_multipliers-requires-clause-flat : goal.without_multipliers-requires-clause-flat
without_multipliers-requires-clause-flat c =
    (posed-shape c.args.claim c.args.source c.args.target c.args.system.now c.in-Ok.posed (c.in-Ok.ensures.run 0)).1

pub returns-in-Err-clause-run : goal.returns-in-Err-clause-run
returns-in-Err-clause-run c =
    rows-halt c.args.budget c.args.claim c.args.source c.args.target c.args.system.now c.in-Err.stuck
    (c.in-Err.ensures.run c.args.budget)

-- the answer is the run's
followed : (c : After-without_multipliers) → Follows (λ (u : Constraints). u) c.args.budget c.without_multipliers.result
    (rows_run c.args.budget c.args.claim c.args.source c.args.target c.args.system.now)
followed c =
    let s = c.args.system.now in
    let n = c.in-Some.layout.unknowns in
    let t = c.in-Ok.posed in
    follows-same c.args.budget c.without_multipliers.result (left_run c.args.budget n (t.dimensions - n) t)
    (rows_run c.args.budget c.args.claim c.args.source c.args.target s)
    (rows-left c.args.budget c.args.claim c.args.source c.args.target s t n (c.in-Ok.ensures.run c.args.budget)
    (ap (λ (l : Layout). l.unknowns) (c.in-Some.ensures.layout c.in-Some.layout refl)
    ∙ ap (λ (p : ℕ). (layout_of p c.args.source c.args.target).unknowns) c.parameters.ensures))
    c.without_multipliers.ensures

pub returns-in-Ok-clause-run : goal.returns-in-Ok-clause-run
returns-in-Ok-clause-run c = followed (goal.at.returns-in-Ok-clause-run c).After-without_multipliers

pub returns-in-Ok-clause-farkas : goal.returns-in-Ok-clause-farkas
returns-in-Ok-clause-farkas c =
    follows-farkas c.args.budget c.args.claim c.args.source c.args.target c.args.system.now c.without_multipliers.result
    c.in-Ok.ensures.sized c.requires.iterators c.requires.one
    (followed (goal.at.returns-in-Ok-clause-farkas c).After-without_multipliers)
