use Rattle.scop_syntax.proofs.Common.{List, map, refl, Head, combined, expression_of, operator_of}
use Rattle.tile_table.proofs.Compiling.{combined_made}
use Rattle.tile_table.proofs.code.put_combined.Goals as goal

pub returns : goal.returns
returns c =
    let heads : List Head = map (λ h. h.now) c.args.heads.now in
    let e = expression_of c.args.value.now in
    combined_made c.args.params.now heads (combined (operator_of c.args.operator) e) e c.args.operator c.args.code.now
    c.put_value.new.code c.put.new.code c.in_ok-slot.slot c.put.result refl (λ place. c.requires.reads)
    c.in_ok-slot.ensures.makes c.put.ensures
