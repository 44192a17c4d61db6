use Rattle.scop_syntax.proofs.Common.{rules, ◌≡◌, ◌∙◌, ap, map, sym, None}
use Rattle.c_printer.specs.Reading.{read_bound}
use Rattle.c_printer.specs.steps.Reading.{closed_bounds, last_bound}
use Rattle.c_printer.proofs.ReadSteps.{nothing_closed}
use Rattle.c_printer.proofs.read_bounds.read_last.Goals as goal

pub returns-in-Ok-None : goal.returns-in-Ok-None
returns-in-Ok-None c =
    let bs = c.args.bounds.items in
    let names = map (λ n. n.items) c.args.names.now in
    let none : None ≡ read_bound c.args.divided.now c.args.parameters names c.args.text.now = search rules in
    sym (nothing_closed bs) ∙ ap (λ o. closed_bounds bs (last_bound o)) none
