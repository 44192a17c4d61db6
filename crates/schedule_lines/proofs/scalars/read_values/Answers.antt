use Rattle.std.proofs.Common.{rules, ◌≡◌, ◌<◌, None}
use Rattle.schedule_lines.specs.Reading.{value_in, values_in}
use Rattle.schedule_lines.proofs.ReadLists.{values_stop}
use Rattle.schedule_lines.proofs.scalars.read_values.Goals as goal

pub returns-in-None : goal.returns-in-None
returns-in-None c =
    let l = c.loop-at in
    let n = c.args.statements in
    let h : l.at < n = search rules in
    let stop : None ≡ value_in l.at l.rest.now = search rules in
    values_stop n l.at l.rest.now l.found.items (values_in 0 n c.args.text.now) h stop l.invariant
