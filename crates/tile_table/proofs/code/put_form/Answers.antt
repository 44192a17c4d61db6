use Rattle.scop_syntax.proofs.Common.{List, map, Head}
use Rattle.tile_table.proofs.Compiling.{form_made}
use Rattle.tile_table.proofs.code.put_form.Goals as goal

pub returns : goal.returns
returns c = λ at.
    let heads : List Head = map (λ h. h.now) c.args.heads.now in
    form_made c.args.params.now heads c.args.form.now c.in_ok-over.over at c.args.code.now c.put_leaf.new.code
    c.put_leaf.result c.requires.begun c.in_ok-over.ensures c.put_leaf.ensures
