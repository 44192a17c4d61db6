use Rattle.scop_syntax.proofs.Common.{Ok}
use Rattle.std.proofs.lemmas.List.Splits.{join_with_byte-slice_split}
use Rattle.data_text.proofs.CaseLemmas.{in_order, refusal_stands}
use Rattle.data_text.proofs.laws.lines_are_judged_in_order.Goals as goal

pub returns-clause-joined : goal.returns-clause-joined
returns-clause-joined c = join_with_byte-slice_split 10

pub returns-clause-order : goal.returns-clause-order
returns-clause-order c = λ program k sheet front back. in_order program k (Ok sheet) front back

pub returns-clause-stands : goal.returns-clause-stands
returns-clause-stands c = λ program k sheet front back refusal. refusal_stands program k (Ok sheet) front back refusal
