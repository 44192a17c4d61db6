use Rattle.scop_syntax.proofs.Common.{rules, ◌≡◌, length, Some, None, codes}
use Rattle.loop_tree.specs.Tree.{only}
use Rattle.loop_tree.specs.View.{bounds_in}
use Rattle.form_text.specs.Reading.{strip}
use Rattle.c_printer.specs.Nodes.{repeated}
use Rattle.c_printer.proofs.BoundTexts.{closing_none, closing_some}
use Rattle.c_printer.proofs.read_bounds.closed_bounds.Goals as goal

pub returns-in_default : goal.returns-in_default
returns-in_default c =
    let bs = c.args.bounds.items in
    let text = c.args.last.rest.now in
    let count : c.len.result ≡ length bs = search rules in
    let none : None ≡ strip (repeated (codes ")") c.len.result) text = search rules in
    closing_none bs (only c.args.last.part) text c.len.result count none

pub returns-in-Ok : goal.returns-in-Ok
returns-in-Ok c =
    let bs = c.args.bounds.items in
    let text = c.args.last.rest.now in
    let count : c.len.result ≡ length bs = search rules in
    let some : Some c.in-Some.rest.now ≡ strip (repeated (codes ")") c.len.result) text = search rules in
    closing_some bs (only c.args.last.part) (bounds_in c.in-Ok.part) text c.in-Some.rest.now c.len.result count some
    c.in-Ok.ensures
