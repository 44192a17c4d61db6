use Rattle.scop_syntax.proofs.Common.{rules, ◌<◌, ◌^◌}
use Rattle.dataflow.proofs.CandidateRuns.{numbers_are}
use Rattle.dataflow.proofs.TellableSources.{loops_are, told_if_ok}
use Rattle.dataflow.proofs.reads.source_of.Goals as goal

pub returns-clause-told : goal.returns-clause-told
returns-clause-told c =
    let k = c.requires.kernel in
    let model = c.args.model.now in
    let small : c.args.budget < 2 ^ 64 = search rules in
    told_if_ok c.args.way model c.args.budget c.args.access c.args.statement.now c.candidates_joined.result
    (loops_are k.0 model k.2 (c.statements_are_numbered.ensures.loops k.0))
    (numbers_are k.0 model k.1 k.2 (c.statements_are_numbered.ensures.same k.0)
    (c.statements_are_numbered.ensures.number k.0)) small c.requires.statement c.candidates_joined.ensures
