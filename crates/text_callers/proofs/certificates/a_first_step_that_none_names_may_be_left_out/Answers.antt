use Rattle.scop_syntax.proofs.Common.{◌∷◌, [], true, false}
use Rattle.text_callers.proofs.certificates.a_first_step_that_none_names_may_be_left_out.Goals as goal

pub returns : goal.returns
returns c n rows first second run own =
    c.needless_lines_may_be_left_out.ensures n rows (false ∷ true ∷ []) (first ∷ second ∷ []) run
    ((λ e. cc), (own, tt))
