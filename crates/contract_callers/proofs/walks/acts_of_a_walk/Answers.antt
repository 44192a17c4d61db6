use Rattle.scop_syntax.proofs.Common.{◌∙◌, ap, length, sym, length-map, act_of, walk_of}
use Rattle.contract_callers.proofs.walks.acts_of_a_walk.Goals as goal

pub returns : goal.returns
returns c = λ program params.
    sym (length-map (walk_of program params) act_of) ∙ ap length (c.walks_are_acts.ensures program params)
