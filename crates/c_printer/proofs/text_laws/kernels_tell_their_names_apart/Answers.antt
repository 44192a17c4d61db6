use Rattle.c_printer.proofs.NamesTold.{names_told}
use Rattle.c_printer.proofs.text_laws.kernels_tell_their_names_apart.Goals as goal

pub returns : goal.returns
returns c = names_told
