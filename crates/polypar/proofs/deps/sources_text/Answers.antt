-- The sources are those of the program's model, and their text is told.
use Rattle.scop_syntax.proofs.Common.{◌≡◌, subst, IfOk, program_of}
use Rattle.plan_search.specs.DepsText.{deps_text}
use Rattle.polypar.proofs.SourcesLemmas.{sources_told}
use Rattle.polypar.proofs.deps.sources_text.Goals as goal

pub last_writes-requires : goal.last_writes-requires
last_writes-requires c = (program_of c.args.kernel.now, c.requires.kernel, c.requires.model)

pub returns-in-Ok : goal.returns-in-Ok
returns-in-Ok c =
    sources_told c.args.budget (program_of c.args.kernel.now) c.args.model.now c.in-Ok.sources.items c.deps_text.result
    c.requires.model c.in-Ok.ensures.sources c.in-Ok.ensures.last
    c.in-Ok.ensures.told
    (subst (λ sources. IfOk c.deps_text.result (λ text. text.items ≡ deps_text (program_of c.args.kernel.now) sources))
    c.deref.ensures.value c.deps_text.ensures)
