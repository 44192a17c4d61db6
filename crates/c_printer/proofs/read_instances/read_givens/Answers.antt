use Rattle.scop_syntax.proofs.Common.{rules, ◌≡◌, ◌++◌, ◌∷◌, ◌<◌, ◌≤◌, [], ap, length, map, Some, drop_all}
use Rattle.c_printer.specs.steps.Reading.{read_given}
use Rattle.c_printer.proofs.PutTexts.{entry_here}
use Rattle.c_printer.proofs.ReadSteps.{givens_more, givens_done}
use Rattle.c_printer.proofs.read_instances.read_givens.Goals as goal

pub loop-at-preserved : goal.loop-at-preserved
loop-at-preserved c =
    let l = c.loop-at in
    let heads = c.args.heads.now in
    let head = c.index-heads-at.result in
    let turn = c.in-Ok-Some.turn in
    let names = map (λ n. n.items) l.names.items in
    let within : l.at < length heads = search rules in
    let here = ap (map (λ h. h.now)) (entry_here heads l.at head c.index-heads-at.is within) in
    let named : map (λ n. n.items) c.push_name.new.names.items ≡ names ++ head.now.iterator ∷ [] = search rules in
    let is : Some (turn.part, turn.rest.now) ≡ read_given c.args.parameters c.args.loops names head.now l.rest.now =
    search rules in
    givens_more _ _ names _ head.now _ _ l.turns.items c.push.new.list.items turn.part l.rest.now turn.rest.now _ here
    named c.in-Ok.ensures.pushed is l.invariant

pub returns : goal.returns
returns c =
    let l = c.loop-at in
    let heads = c.args.heads.now in
    let past : length heads ≤ l.at = search rules in
    givens_done _ _ _ _ l.turns.items l.rest.now _ (ap (map (λ h. h.now)) (drop_all l.at heads past)) l.invariant
