use Rattle.command_callers.proofs.loops_of_tiles_of_size_1.Goals as goal

pub returns : goal.returns
returns c =
    λ words budget source source_after out out_after err err_after answered is.
    c.printed_loops_are_read_back.ensures words 1 budget source source_after out out_after err err_after answered is
