use Rattle.whole_numbers.proofs.Common.{Ok}
use Rattle.lexmin_runs.specs.Nodes as next
use Rattle.lexmin_runs.proofs.Steps.{whole_step, resumed_step, resumed_stops}
use Rattle.lexmin_runs.proofs.laws.runs_go_on_by_steps.Goals as goal

pub returns : goal.returns
returns c = record {
  step = whole_step;
  ends = λ n left node frames tree rest h. resumed_step n left node frames (Ok (next.ends tree, rest)) h;
  goes = λ n left node on frames rest h. resumed_step n left node frames (Ok (next.goes on, rest)) h;
  binds = λ n left node on frames f d rest h. resumed_step n left node frames (Ok (next.binds f d on, rest)) h;
  splits = λ n left node a b frames f rest h. resumed_step n left node frames (Ok (next.splits f a b, rest)) h;
  stops = resumed_stops;
}
