use Rattle.scop_syntax.proofs.Common.{◌∙◌, ap, length, subst, sym}
use Rattle.plain_scan.specs.Hulls.{sets_in}
use Rattle.split_scan.specs.steps.Parts.{Keeps}
use Rattle.split_scan.proofs.marking.marked.Goals as goal

pub returns-clause-keeps : goal.returns-clause-keeps
returns-clause-keeps c =
    let level = c.args.level.now in
    subst (λ bs. Keeps level.place level.inside.items (sets_in c.args.outlines.now) bs c.args.cell.now.cuts.items)
    (sym c.in_ok-part.ensures.stays) c.in_ok-stays.ensures.keeps

pub returns-clause-count : goal.returns-clause-count
returns-clause-count c = ap length c.in_ok-part.ensures.stays ∙ c.in_ok-stays.ensures.count
