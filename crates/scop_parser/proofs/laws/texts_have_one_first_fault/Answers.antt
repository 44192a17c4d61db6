use Rattle.scop_parser.proofs.Refusals.{fault-once, refusal-once}
use Rattle.scop_parser.proofs.laws.texts_have_one_first_fault.Goals as goal

pub returns : goal.returns
returns c = record { fault = fault-once; refusal = refusal-once }
