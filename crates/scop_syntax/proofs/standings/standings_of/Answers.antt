use Rattle.whole_numbers.proofs.Common.{◌∙◌, ◌++◌, List, ap, ap₂, map}
use Rattle.scop_syntax.specs.Tree.{Head}
use Rattle.scop_syntax.specs.View.{items_of, program_of}
use Rattle.scop_syntax.specs.declared.tree.Item.{Item}
use Rattle.scop_syntax.specs.StandingView.{standing_of}
use Rattle.scop_syntax.specs.steps.Gathered.{gathered_all}
use Rattle.scop_syntax.specs.Standings.{Standing}
use Rattle.scop_syntax.proofs.GatheredStatements.{program_gathered}
use Rattle.scop_syntax.proofs.standings.standings_of.Goals as goal

pub returns : goal.returns
returns c =
    let items = c.deref.result.now in
    c.in_ok-gather_items.ensures.statements
    ∙ (ap₂ (λ (ss : List Standing) (hs : List Head). ss ++ gathered_all hs (items_of items))
    (ap (map standing_of) c.new-statements.ensures.items) (ap (map (λ h. h.now)) c.new-heads.ensures.items)
    ∙ (ap (λ (is : List Item). gathered_all _ (items_of is)) c.deref.ensures.value
    ∙ program_gathered (program_of c.args.kernel.now)))
