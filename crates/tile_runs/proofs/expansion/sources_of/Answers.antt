use Rattle.scop_syntax.proofs.Common.{List, ℤ, subst, sym, IsInside, program_of}
use Rattle.tile_runs.proofs.expansion.sources_of.Goals as goal

pub source_places-requires-clause-inside : goal.source_places-requires-clause-inside
source_places-requires-clause-inside c =
    subst (λ (ps : List ℤ). IsInside (program_of c.args.kernel.now) ps) (sym c.deref-in-Ok.ensures.value)
    c.requires.inside
