use Rattle.scop_syntax.proofs.Common.{[], ◌∷◌, sums}
use Rattle.tile_table.proofs.Joins.{lanes_on}
use Rattle.tile_table.proofs.join.JoinLanes.go_on.Goals as goal

pub returns : goal.returns
returns c row steps turns is =
    let old = c.args.self.now in
    let next = sums turns steps in
    let a = c.go_on.new.self in
    let b = c.go_on-2.new.self in
    let d = c.go_on-3.new.self in
    let e = c.go_on-4.new.self in
    record {
      cells = lanes_on steps turns next old.place a (old.first ∷ old.second ∷ old.third ∷ []) (b ∷ d ∷ e ∷ [])
          (λ form. c.go_on.ensures form steps turns)
          (lanes_on steps turns next old.first b (old.second ∷ old.third ∷ []) (d ∷ e ∷ [])
          (λ form. c.go_on-2.ensures form steps turns)
          (lanes_on steps turns next old.second d (old.third ∷ []) (e ∷ []) (λ form. c.go_on-3.ensures form steps turns)
          (lanes_on steps turns next old.third e [] [] (λ form. c.go_on-4.ensures form steps turns)
          (λ forms are. record { each = λ k form lane told at. absurd cc })))) row.cells.items is.cells;
      stores = is.stores;
      joins = is.joins;
    }
