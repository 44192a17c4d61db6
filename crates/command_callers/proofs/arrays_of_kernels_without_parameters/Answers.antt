use Rattle.scop_syntax.proofs.Common.{[]}
use Rattle.command_callers.proofs.arrays_of_kernels_without_parameters.Goals as goal

pub returns : goal.returns
returns c =
    λ text program contents spelled limits shape cells widths.
    c.printed_arrays_are_data.ensures text program [] contents spelled limits shape cells widths
