use Rattle.scop_syntax.proofs.Common.{◌≡◌, length, rules, ◌∙◌, ap, ap₂, ℕ, List, take, map}
use Rattle.tile_table.specs.Codes.{result_by}
use Rattle.tile_table.specs.declared.lane.Lane.{Lane}
use Rattle.tile_table.proofs.Lanes.{stands_at}
use Rattle.tile_table.proofs.table.Row.value.Goals as goal

pub returns-clause-value : goal.returns-clause-value
returns-clause-value c = λ steps turns is.
    let row = c.args.self.now in
    let desk = c.args.desk.now in
    let at = stands_at row.code.leaves.items steps turns desk.leaves.items c.requires.room.leaves is.leaves in
    let count : c.len.result ≡ length row.code.leaves.items = search rules in
    let own = ap₂ (λ (n : ℕ) (lanes : List Lane). map (λ lane. lane.at) (take n lanes)) count
    c.deref.ensures.value in
    c.run.ensures.result
    ∙ ap₂ (λ (leaves values : List ℕ). result_by row.code leaves values) (own ∙ at)
    (ap (take row.code.reads) c.deref_mut.ensures.value)
