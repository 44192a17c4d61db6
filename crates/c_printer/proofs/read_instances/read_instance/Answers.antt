use Rattle.scop_syntax.proofs.Common.{rules, ◌≡◌, ◌∙◌, ap, map, subst, IfOk, Option, Some, codes, slice_get, program_of}
use Rattle.scop_syntax.proofs.Common.{standings_of}
use Rattle.scop_lexer.specs.Bytes.{Text}
use Rattle.loop_tree.specs.Tree.{Tree}
use Rattle.form_text.specs.Reading.{strip, when}
use Rattle.c_printer.specs.Reading.{body_at}
use Rattle.c_printer.specs.steps.View.{node_in}
use Rattle.c_printer.specs.steps.Reading.{place_of}
use Rattle.c_printer.proofs.BoundTexts.{placed}
use Rattle.c_printer.proofs.read_instances.read_instance.Goals as goal

pub returns : goal.returns
returns c =
    let a = c.args in
    let program = program_of a.place.now.source.now in
    let names = map (λ n. n.items) a.place.now.names.items in
    let read = c.read_number-number.ensures in
    let m = c.read_number-number.result.0 in
    let counted = c.read_number-number.result.1.now in
    let k = c.in-Some.statement in
    let place : Some k ≡ place_of m = search rules in
    let some : Some c.in-Some-strip.behind.now ≡ strip (codes " */ ") counted = search rules in
    subst (λ (o : Option (Tree × Text)). IfOk c.read_found.result (λ r. node_in r ≡ o))
    (ap (λ o. when o (λ t. body_at program names a.place.now.loops k t (slice_get (standings_of program) k))) some
    ∙ placed program names a.place.now.loops a.text.now counted m k read.number read.behind place)
    c.read_found.ensures
