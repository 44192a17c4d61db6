use Rattle.scop_roles.proofs.Types.{has_widths, typed}
use Rattle.scop_roles.proofs.laws.faultless_values_have_types.Goals as goal

pub returns-clause-widths : goal.returns-clause-widths
returns-clause-widths c narrow look at t known = has_widths narrow look known at t

pub returns-clause-types : goal.returns-clause-types
returns-clause-types c narrow n f widths h = (typed narrow n f widths h).1
