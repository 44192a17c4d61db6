use Rattle.whole_numbers.proofs.Common.{rules, ◌∙◌, ap, sym, List, Ok, Affine}
use Rattle.pip_solver.proofs.Systems.{wide_at}
use Rattle.pip_solver.proofs.Decisions.{posed_flat}
use Rattle.pip_solver.proofs.system_point.pose.Goals as goal

pub equality_rows-requires : goal.equality_rows-requires
equality_rows-requires c = c.dimensions-unknowns.ensures ∙ sym (wide_at c.args.system.now c.requires)

pub returns-in-Ok-joined : goal.returns-in-Ok-joined
returns-in-Ok-joined c =
    let s = c.args.system.now in
    let is = c.in-Ok-joined.ensures in
    let front = c.in-Ok.front.items in (
      record {
        unknowns = is.unknowns ∙ (c.dimensions-unknowns.ensures ∙ sym (wide_at s c.requires));
        parameters = is.parameters;
        rows = posed_flat s front c.rows-own.result.now c.requires c.rows-own.ensures.forms c.in-Ok.ensures.formed
            ∙ ap (λ (fs : List Affine). Ok fs) (sym is.rows);
        context = is.context;
      },
      search rules,
    )
