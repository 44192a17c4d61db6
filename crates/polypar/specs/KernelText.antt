-- What the commands that look at a kernel alone tell of it.
use Rattle.scop_syntax.specs.Tree.{Program}
use Rattle.command_line.specs.declared.command.KernelCommand.{KernelCommand}
use Rattle.command_line.specs.declared.command.KernelCommand.TheVariants.{Schedule, Deps, Emit, Certify}
use Rattle.polypar.specs.Told.{Told, IsTextAlone}
use Rattle.plan_search.specs.Certifying.{IsCertificateText}
use Rattle.plan_search.specs.Planning.{IsPlanText}
use Rattle.polypar.specs.Sources.{IsSourcesText}
use Rattle.polypar.specs.Emitting.{IsLoopsText}

-- of `schedule` the schedule, or why the order is kept; of `deps` the source of each read; of `emit` the loops, and, if
-- the order is kept, on a line why; of `certify` the certificate of the schedule, the number of the first goal without
-- one, or why the order is kept
abbrev pub IsTextFor : KernelCommand → Program → Told → Type 0
IsTextFor (Schedule budget) program told = IsTextAlone (IsPlanText budget program) told
IsTextFor (Deps budget) program told = IsTextAlone (IsSourcesText budget program) told
IsTextFor (Emit tile budget) program told = IsLoopsText tile budget program told
IsTextFor (Certify budget) program told = IsTextAlone (IsCertificateText budget program) told
