use Rattle.scop_syntax.proofs.Common.{[]}
use Rattle.text_callers.proofs.quasts.sources_of_one_text.Goals as goal

pub returns : goal.returns
returns c = λ text program sources spelled told none same.
    c.printed_sources_are_read_in_one_way.ensures text program sources [] spelled told none same
