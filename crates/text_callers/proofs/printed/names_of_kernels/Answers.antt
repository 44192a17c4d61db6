use Rattle.text_callers.proofs.printed.names_of_kernels.Goals as goal

pub returns : goal.returns
returns c = c.kernels_tell_their_names_apart.ensures
