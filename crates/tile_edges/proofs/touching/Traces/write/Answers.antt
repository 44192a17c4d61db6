use Rattle.scop_syntax.proofs.Common.{[]}
use Rattle.tile_edges.proofs.Taken.{seen_set}
use Rattle.tile_edges.proofs.touching.Traces.write.Goals as goal

pub returns-in-Some-clause-readers : goal.returns-in-Some-clause-readers
returns-in-Some-clause-readers c =
    seen_set (λ list. list.items) c.args.self.now.readers.items c.clear.new.self c.args.cell [] c.clear.ensures.items
