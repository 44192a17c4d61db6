use Rattle.scop_syntax.proofs.Common.{rules, ◌≡◌, ◌∙◌, ◌+◌, ◌<◌, ◌≤◌, ◌∷◌, List, ap, drop, length, map, sym}
use Rattle.scop_lexer.specs.Bytes.{Text}
use Rattle.c_printer.proofs.Declarations.{map_here, declared_more, declared_all}
use Rattle.c_printer.proofs.header.put_declared.Goals as goal

pub loop-at-preserved : goal.loop-at-preserved
loop-at-preserved c =
    let l = c.loop-at in
    let xs = c.args.kernel.now.parameters.items in
    let ps : List Text = map (λ n. n.items) xs in
    let h : l.at < length xs = search rules in
    let here = map_here (λ n. n.items) xs l.at c.index.result.now c.index.ensures h in
    let named : drop l.at ps ≡ c.deref.result.now ∷ drop (l.at + 1) ps =
    here ∙ ap (λ (t : Text). t ∷ drop (l.at + 1) ps) (sym c.deref.ensures.value) in
    declared_more ps c.args.kernel.now.arrays.items l.at l.out.items c.put_arrays.new.out.items
    c.put_parameter.new.out.items _ c.deref.result.now l.first c.in-Ok.here named c.in-Ok.ensures
    c.in-Ok-put_parameter.ensures l.invariant

pub returns-in-Ok-put_arrays : goal.returns-in-Ok-put_arrays
returns-in-Ok-put_arrays c =
    let l = c.loop-at in
    let xs = c.args.kernel.now.parameters.items in
    let past : length xs ≤ l.at = search rules in
    let count : c.len.result ≡ l.at = search rules in
    declared_all (λ n. n.items) xs c.args.kernel.now.arrays.items l.at c.len.result l.out.items
    c.put_arrays-2.new.out.items _ l.first c.in-Ok-put_arrays.field-0 past count c.in-Ok-put_arrays.ensures l.invariant
