use Rattle.scop_syntax.proofs.Common.{◌∙◌, ap, subst, IfOk, Result, Ok, Err}
use Rattle.integer_sets.specs.Constraints.{Constraints}
use Rattle.traced_projections.specs.Projections.{LastFollows, alone_of, system_in}
use Rattle.plain_scan.proofs.AppendedRows.{alone_shape}
use Rattle.plain_scan.proofs.ShadowStops.{alone_halts}
use Rattle.plain_scan.proofs.outline.shadow_of.Goals as goal

pub returns-in-Err-clause-stops : goal.returns-in-Err-clause-stops
returns-in-Err-clause-stops c = alone_halts c.args.projection.now c.in-Err.stop c.in-Err.ensures.run

pub shadow_between-requires-clause-dimensions : goal.shadow_between-requires-clause-dimensions
shadow_between-requires-clause-dimensions c =
    ap (λ (w : Constraints). w.dimensions) c.in-Ok.ensures.run.1
    ∙ (alone_shape c.args.projection.now c.requires.some).0

pub shadow_between-requires-clause-parameters : goal.shadow_between-requires-clause-parameters
shadow_between-requires-clause-parameters c =
    ap (λ (w : Constraints). w.parameters) c.in-Ok.ensures.run.1
    ∙ (alone_shape c.args.projection.now c.requires.some).1

pub returns-clause-follows : goal.returns-clause-follows
returns-clause-follows c =
    let p = c.args.projection.now in
    always c.shadow_between.result (LastFollows (system_in p) (alone_of p))
    (subst (LastFollows (system_in p)) c.in-Ok.ensures.run.1 c.in-Ok.ensures.points)
  where
    always : {X Y : Type 0} (r : Result X Y) (P : Type 0) → P → IfOk r (λ x. P)
    always (Ok x) P h = h
    always (Err y) P h = tt
