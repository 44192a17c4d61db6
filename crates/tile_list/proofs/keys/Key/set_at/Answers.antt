use Rattle.scop_syntax.proofs.Common.{rules, ◌∙◌, ◌++◌, ap, pos, List, ℤ, ℕ, FitsSigned, w128, to_z-of_z}
use Rattle.loop_tree.specs.Tiling.{coordinates}
use Rattle.tile_list.specs.steps.Keys.{carried}
use Rattle.tile_list.proofs.TellingKeys.{carried_is}
use Rattle.tile_list.proofs.keys.Key.set_at.Goals as goal

pub returns : goal.returns
returns c =
    let d = pos c.args.size in
    let rows = c.args.band.now in
    let turns = c.args.turns.now in
    let sum = c.carried_sum-self.result in
    let fits : FitsSigned w128 sum = search rules in
    let tile = c.in_ok-push_coordinates.ensures
    ∙ ap (λ (zs : List ℤ). zs ++ coordinates d rows turns) c.clear-2.ensures.items in
    record {
      leading = c.in_ok-extend_from_slice.ensures.items
          ∙ ap (λ (ns : List ℕ). ns ++ c.args.leading.now) c.clear.ensures.items;
      sum = to_z-of_z w128 sum fits
          ∙ (c.carried_sum-self.ensures
          ∙ (ap (carried rows) (c.deref.ensures.value ∙ tile) ∙ carried_is d rows turns));
      tile = tile;
    }
