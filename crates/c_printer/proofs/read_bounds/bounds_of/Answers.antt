use Rattle.scop_syntax.proofs.Common.{rules, ◌≤◌, length}
use Rattle.c_printer.proofs.BoundTexts.{all_of_first}
use Rattle.c_printer.proofs.read_bounds.bounds_of.Goals as goal

pub returns-in-Ok : goal.returns-in-Ok
returns-in-Ok c =
    let bs = c.args.bounds.items in
    let some : 1 ≤ length bs = search rules in
    all_of_first bs c.remove-first.new.self.items c.push.new.self.items c.remove-first.result c.args.last some
    c.remove-first.ensures.value c.remove-first.ensures.items c.in-Ok.ensures.items
