use Rattle.scop_syntax.proofs.Common.{rules, ◌≡◌, ◌++◌, List, ap₂, arith, length, get_or, Instance}
use Rattle.loop_tree.proofs.Braids.{braid_none}
use Rattle.loop_tree.proofs.Stretches.{nothing_left}
use Rattle.tile_list.proofs.cutting.has_left.Goals as goal

pub returns : goal.returns
returns c false =
    let b = c.args.braid.now in
    let d = c.index-braid-braid.result in
    let all : length b.strands ≡ 4 = search rules in
    let empty : (get_or b.strands b.at d).left ≡ 0 = grind (arith, false) in
    let none = c.if-stretch-gt0.false in
    ap₂ (λ (xs ys : List Instance). xs ++ ys) (nothing_left c.args.stretch.now (omega (arith, none)))
    (braid_none b d c.requires all empty)
