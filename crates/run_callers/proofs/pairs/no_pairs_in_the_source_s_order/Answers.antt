use Rattle.scop_syntax.proofs.Common.{[], walk_of}
use Rattle.run_callers.proofs.pairs.no_pairs_in_the_source_s_order.Goals as goal

pub returns : goal.returns
returns c = λ flow program told. c.kept_orders_have_no_edges.ensures flow (walk_of program []) told
