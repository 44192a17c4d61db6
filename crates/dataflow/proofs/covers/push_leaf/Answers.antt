use Rattle.dataflow.proofs.Common.{ℕ, subst, sym, side_of, CanWrite}
use Rattle.dataflow.proofs.covers.push_leaf.Goals as goal

pub leaf_dep-requires : goal.leaf_dep-requires
leaf_dep-requires c =
    let reader = side_of c.args.reader.now in
    let writer = side_of c.in-Some.writer in
    subst (λ (m : ℕ). CanWrite m reader writer c.args.path.now) (sym c.parameters.ensures.parameters) (record {
      reader_side = c.requires.reader;
      writer_side = c.in-Some.ensures.pairs;
      leaf = c.requires.leaf writer c.in-Some.ensures.writer;
    })
