use Rattle.conflict_deps.proofs.Parts.{parts_of}
use Rattle.conflict_deps.proofs.conflict_laws.systems_have_parts.Goals as goal

pub returns : goal.returns
returns c = parts_of
