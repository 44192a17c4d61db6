-- All were gone through, and each is told.
use Rattle.scop_syntax.proofs.Common.{◌∙◌, ap, drop_of_length-le, sym}
use Rattle.polypar.specs.Expanding.{first_unresolved}
use Rattle.polypar.proofs.CourseLemmas.{all_resolved}
use Rattle.polypar.proofs.expansion.first_line.Goals as goal

pub returns : goal.returns
returns c =
    let sources = c.args.sources.now in
    all_resolved sources
    (sym c.loop-source.invariant ∙ ap first_unresolved (drop_of_length-le sources c.loop-source-test.false))
