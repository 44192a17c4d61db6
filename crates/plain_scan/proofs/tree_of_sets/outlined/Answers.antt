use Rattle.scop_syntax.proofs.Common.{rules, ◌<◌, length}
use Rattle.plain_scan.specs.Hulls.{sets_in}
use Rattle.plain_scan.proofs.OmittedSets.{kept_rise}
use Rattle.plain_scan.proofs.WholeScans.{few_kept, shaped}
use Rattle.plain_scan.proofs.tree_of_sets.outlined.Goals as goal

pub invariant_of-result : goal.invariant_of-result
invariant_of-result c =
    let sets = c.args.sets.now in
    let os = c.in-Ok.outlines.items in
    let n = c.dimensions_in.result in
    let p = c.parameters_in.result in
    let some : 0 < length os = search rules in
    record {
      some = some;
      few = few_kept sets os n p c.dimensions_in.ensures c.parameters_in.ensures c.requires.sets c.in-Ok.ensures.kept
          some;
      sets = shaped sets os n p c.dimensions_in.ensures c.parameters_in.ensures c.requires.sets c.in-Ok.ensures.kept;
    }

pub returns-clause-found : goal.returns-clause-found
returns-clause-found c =
    let kept = c.in-Ok.ensures.kept in
    record {
      kept = kept;
      rise = kept_rise c.args.sets.now (sets_in c.in-Ok.outlines.items) kept c.requires.rise;
      dimensions = c.dimensions_in.ensures;
      parameters = c.parameters_in.ensures;
      parallel = c.mark_in.ensures;
    }
