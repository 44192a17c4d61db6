use Rattle.dataflow.proofs.Common.{◌+◌, ◌++◌, map, pair_can, flow_from, read_sides, tree_in}
use Rattle.dataflow.proofs.FlowReads.{access_inside, own_source, read_step, reads_end}
use Rattle.dataflow.proofs.flow_deps.push_reads.Goals as goal

pub bounds-accesses-number : goal.bounds-accesses-number
bounds-accesses-number c =
    access_inside c.args.model.now c.args.statement.now c.accesses-accesses.result.now c.args.sources.now
    c.loop-index.index c.requires.sources c.accesses-accesses.ensures.accesses c.loop-index-test.true

pub push_source-requires-clause-reader : goal.push_source-requires-clause-reader
push_source-requires-clause-reader c = record {
  statement = c.requires.statement;
  pairs = pair_can c.args.model.now.parameters c.args.statement.now (c.loop-index.index + 1) _
      c.accesses-accesses.result.now c.accesses-accesses.ensures.dimensions
      c.accesses-accesses.ensures.few c.requires.parameters
      c.accesses-accesses.ensures.narrow c.index-accesses-number.is
      (access_inside c.args.model.now c.args.statement.now c.accesses-accesses.result.now c.args.sources.now
      c.loop-index.index c.requires.sources c.accesses-accesses.ensures.accesses c.loop-index-test.true);
}

pub push_source-requires-clause-source : goal.push_source-requires-clause-source
push_source-requires-clause-source c =
    own_source c.args.model.now c.args.statement.now c.args.sources.now c.loop-index.index c.index-sources-index.result
    c.requires.sources c.loop-index-test.true c.index-sources-index.is

pub loop-index-preserved : goal.loop-index-preserved
loop-index-preserved c =
    let model = c.args.model.now in
    let s = c.args.statement.now in
    let found = c.accesses-accesses.result.now in
    read_step model s found c.args.sources.now c.loop-index.index
    c.index-accesses-number.result c.index-sources-index.result c.loop-index.out.items c.push_source.new.out.items
    (c.args.out.now.items ++ flow_from model (read_sides s) (map tree_in c.args.sources.now))
    c.index-accesses-number.is
    (access_inside model s found c.args.sources.now c.loop-index.index c.requires.sources
    c.accesses-accesses.ensures.accesses c.loop-index-test.true)
    c.index-sources-index.is c.loop-index-test.true c.loop-index.invariant c.in_ok-push_source.ensures

pub returns : goal.returns
returns c =
    let model = c.args.model.now in
    let s = c.args.statement.now in
    reads_end model _ c.args.sources.now c.loop-index.index c.loop-index.out.items
    (c.args.out.now.items ++ flow_from model (read_sides s) (map tree_in c.args.sources.now))
    c.loop-index-test.false c.loop-index.invariant
