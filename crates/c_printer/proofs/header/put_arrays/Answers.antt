use Rattle.scop_syntax.proofs.Common.{rules, ◌≡◌, ◌∙◌, ◌<◌, ap, get_or, length, map, sym, Declaration}
use Rattle.c_printer.proofs.Declarations.{array_more, array_past}
use Rattle.c_printer.proofs.header.put_arrays.Goals as goal
use Rattle.c_printer.proofs.header.put_arrays.Goals.{then-array-behind+in-Ok, else-array-behind}

pub loop-array-preserved : goal.loop-array-preserved
loop-array-preserved c =
    let l = c.loop-array in
    let ps = map (λ n. n.items) c.args.kernel.now.parameters.items in
    let ds = c.args.kernel.now.arrays.items in
    let d = c.array-item.result in
    let told = ap (λ (a : Declaration). a.parameters_before) c.array.view_is in
    let is : d ≡ get_or ds l.array-index d = search rules in
    let within : l.array-index < length ds = search rules in
    elim c.if-array-behind.branch [
      | then-array-behind+in-Ok w ↦
          rw (w.out-is, w.first-is) (array_more ps ds c.args.behind l.array-index d l.first l.out.items
          w.put_array.new.out.items _ is within (sym told ∙ w.if-array-behind.true)
          (rw w.deref.ensures.value at w.in-Ok.ensures) l.invariant)
      | else-array-behind w ↦
          rw (w.out-is, w.first-is) (array_past ps ds c.args.behind l.array-index d l.first l.out.items _
          is within (λ e. w.if-array-behind.false (told ∙ e)) l.invariant)
    ]
