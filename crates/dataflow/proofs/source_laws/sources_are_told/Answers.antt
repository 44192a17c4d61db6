use Rattle.dataflow.specs.ReadSources.{reads_of}
use Rattle.dataflow.proofs.CandidateRuns.{numbers_are}
use Rattle.dataflow.proofs.TellableSources.{all_there, loops_are, sources_told}
use Rattle.dataflow.proofs.source_laws.sources_are_told.Goals as goal

pub returns : goal.returns
returns c = λ way model budget sources k small are.
    let loops = loops_are k.0 model k.2 (c.statements_are_numbered.ensures.loops k.0) in
    sources_told way model budget (reads_of model) sources loops small
    (all_there model
    (numbers_are k.0 model k.1 k.2 (c.statements_are_numbered.ensures.same k.0)
    (c.statements_are_numbered.ensures.number k.0)) loops)
    are
