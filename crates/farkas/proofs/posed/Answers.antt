use Rattle.whole_numbers.proofs.Common.{sym, ap, subst, refl}
use Rattle.fm_projection.proofs.RemovedEntries.{same_ok}
use Rattle.wide_math.specs.declared.Wide.{Wide}
use Rattle.fractions.specs.Farkas.{own_rows}
use Rattle.farkas.specs.declared.layout.Layout.{Layout}
use Rattle.farkas.specs.declared.stuck.Stuck.TheVariants as stuck
use Rattle.farkas.specs.Run.{posed_run}
use Rattle.farkas.specs.Gives.{Halts}
use Rattle.farkas.proofs.MatchingParts.{posed-halts, posed-sized, posed-gives}
use Rattle.farkas.proofs.posed.Goals as goal

pub returns-in-Err-clause-run : goal.returns-in-Err-clause-run
returns-in-Err-clause-run c budget =
    subst (λ (e : stuck.the_data). Halts budget e (posed_run c.args.claim c.args.source c.args.target
    c.args.system.now))
    (sym c.by_form.ensures)
    (posed-halts budget c.args.claim c.args.source c.args.target c.args.system.now c.in-Err.stop c.in-Err.ensures)

pub from_parts-requires : goal.from_parts-requires
from_parts-requires c =
    let n = c.args.layout.unknowns in
    let k = c.in-Some-multipliers.count in
    let rows = same_ok {E = Wide} (own_rows n k) c.in-Ok-last_rows.rows.items c.in-Ok-last_rows.ensures in
    record {
      sized = posed-sized c.args.claim c.args.source c.args.target c.args.system.now c.in-Ok.equalities.items
          c.in-Ok-last_rows.rows.items n k c.in-Some-checked_add.all (ap (λ (l : Layout). l.unknowns) c.requires.layout)
          (c.in-Some-multipliers.ensures.count c.in-Some-multipliers.count refl) c.in-Some-checked_add.ensures.1
          c.in-Ok.ensures rows;
    }

pub returns-in-Ok-last_rows-clause-run : goal.returns-in-Ok-last_rows-clause-run
returns-in-Ok-last_rows-clause-run c budget =
    let n = c.args.layout.unknowns in
    let k = c.in-Some-multipliers.count in
    let rows = same_ok {E = Wide} (own_rows n k) c.in-Ok-last_rows.rows.items c.in-Ok-last_rows.ensures in
    posed-gives c.args.claim c.args.source c.args.target c.args.system.now c.from_parts.result c.in-Ok.equalities.items
    c.in-Ok-last_rows.rows.items n k c.in-Some-checked_add.all (ap (λ (l : Layout). l.unknowns) c.requires.layout)
    (c.in-Some-multipliers.ensures.count c.in-Some-multipliers.count refl) c.in-Some-checked_add.ensures.1
    c.in-Ok.ensures rows c.from_parts.ensures
