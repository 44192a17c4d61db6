use Rattle.scop_syntax.proofs.Common.{ap, arith, length, length-map, has_parameters, program_of, instance, walk_of}
use Rattle.expansions.proofs.sourcing.sources_if_few.Goals as goal

pub of_source-requires : goal.of_source-requires
of_source-requires c = c.requires.limits.kernel

pub visits_few-requires : goal.visits_few-requires
visits_few-requires c = c.in_ok-source.ensures.walk c.args.params.now (has_parameters c.requires.limits)

pub returns : goal.returns
returns c =
    let many = c.in_ok-few.ensures.many c.if-few.false in
    let same = ap length (c.in_ok-source.ensures.visits c.args.params.now c.requires.limits.count) in
    let long = length-map (walk_of (program_of c.args.kernel.now) c.args.params.now) instance in
    omega (arith, many, same, long)

pub sources_of-requires-clause-can : goal.sources_of-requires-clause-can
sources_of-requires-clause-can c =
    let few = c.in_ok-few.ensures.few c.if-few.true in
    let same = ap length (c.in_ok-source.ensures.visits c.args.params.now c.requires.limits.count) in
    let long = length-map (walk_of (program_of c.args.kernel.now) c.args.params.now) instance in
    record {
      limits = c.requires.limits;
      inside = c.requires.inside;
      told = c.requires.table;
      few = omega (arith, few, same, long);
    }

pub sources_of-requires-clause-walk : goal.sources_of-requires-clause-walk
sources_of-requires-clause-walk c =
    c.in_ok-source.ensures.walk c.args.params.now (has_parameters c.requires.limits)

pub sources_of-requires-clause-visits : goal.sources_of-requires-clause-visits
sources_of-requires-clause-visits c =
    c.in_ok-source.ensures.visits c.args.params.now c.requires.limits.count
