use Rattle.scop_syntax.proofs.Common.{rules, ◌≡◌, ◌∙◌, arith, length, get_or, refl, set, length-take}
use Rattle.loop_tree.specs.TilingView.{tiling_of}
use Rattle.loop_tree.specs.declared.braid.Braid.{Braid}
use Rattle.loop_tree.specs.declared.stretch.Stretch.{Stretch}
use Rattle.tile_list.proofs.Braids.{braid_count, braid_done, braid_has_key, done_is_braid, strands_fit, strands_held}
use Rattle.tile_list.proofs.TakenInstances.{passes_braid}
use Rattle.tile_list.proofs.cutting.Cut.take_braid.Goals as goal

pub is_of_strands-requires-clause-held : goal.is_of_strands-requires-clause-held
is_of_strands-requires-clause-held c =
    let rounds = c.rounds_left-rounds.result in
    let some = c.if-rounds-eq0.false in
    strands_held c.args.spot.now.braid rounds (c.rounds_left-rounds.ensures.rounds (omega (arith, some)))
    c.requires.braid.held

pub is_of_strands-requires-clause-fits : goal.is_of_strands-requires-clause-fits
is_of_strands-requires-clause-fits c =
    let rounds = c.rounds_left-rounds.result in
    let some = c.if-rounds-eq0.false in
    strands_fit (tiling_of c.args.tiling.now) c.args.spot.now.braid rounds
    (c.rounds_left-rounds.ensures.rounds (omega (arith, some))) c.requires.fits

pub returns : goal.returns
returns c =
    let tiling = tiling_of c.args.tiling.now in
    let old = c.args.self.now in
    let b = c.args.spot.now.braid in
    let rounds = c.rounds_left-rounds.result in
    let some = c.if-rounds-eq0.false in
    let has = c.rounds_left-rounds.ensures.rounds (omega (arith, some)) in
    let all : length b.strands ≡ 4 = search rules in
    let few = c.requires.braid.few in
    let taken = length-take b.count b.strands in
    let first = get_or b.strands 0 c.index-spot-0.result in
    let empty : Stretch = record first { left = 0 } in
    let new : Braid = record { strands = set b.strands 0 empty; count = 1; at = b.at } in
    let none = braid_done b.strands empty b.at (omega (arith, all)) refl has.turn in
    passes_braid tiling c.args.spot.now new c.in_ok-times.field-0 old c.grow.new.self
    c.requires.stretch none (done_is_braid new none refl has.turn)
    (c.in_ok-times.ensures ∙ braid_count b rounds has (omega (arith, taken, few, all)))
    (braid_has_key tiling old.key b rounds has (c.is_of_strands.ensures c.if-not-is_of_strands.false))
    c.in_ok-grow.ensures
