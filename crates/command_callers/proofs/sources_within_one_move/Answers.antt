use Rattle.command_callers.proofs.sources_within_one_move.Goals as goal

pub returns : goal.returns
returns c =
    λ words source source_after out out_after err err_after answered is.
    c.printed_sources_tell_last_writes.ensures words 1 source source_after out out_after err err_after answered is
