use Rattle.scop_syntax.specs.Execution.{layout}
use Rattle.scop_syntax.specs.Walk.{walk_of}
use Rattle.scop_syntax.proofs.SameContents.{distinct_by_places}
use Rattle.scop_syntax.proofs.order_laws.orders_of_walks_end_as_they_do.Goals as goal

pub returns : goal.returns
returns c program params contents order shape inside is keeps =
    c.orders_that_keep_conflicts_end_alike.ensures (layout program params) contents (walk_of program params) order
    shape inside (distinct_by_places (walk_of program params) (c.walks_are_in_order.ensures.once program params)) is
    keeps
