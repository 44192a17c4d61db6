use Rattle.scop_syntax.proofs.Common.{◌≡◌, ◌∙◌, ◌+◌, ◌∷◌, ℕ, List, [], ap, arith, length, refl, suc, sym}
use Rattle.scop_syntax.proofs.Common.{slice_get_read}
use Rattle.std.proofs.lemmas.List.{length-append}
use Rattle.tile_core.specs.Ranks.{sizes_of, start_at}
use Rattle.tile_core.proofs.Tiles.{start_step, starts_more}
use Rattle.tile_core.proofs.expansion.starts_of.Goals as goal

pub loop-tile-preserved : goal.loop-tile-preserved
loop-tile-preserved c =
    let tiles = c.args.tiles.now in
    let i = c.loop-tile.tile-index in
    let inv = c.loop-tile.invariant in
    let tile = c.tile-item.result in
    let there = slice_get_read tiles (length tiles) i tile refl c.loop-tile-test.true c.tile-item.is in
    let next : suc i ≡ i + 1 = omega arith in
    let new = ap (λ (ns : List ℕ). length ns) c.in_ok-push.ensures.items in
    let long = length-append c.loop-tile.starts.items (c.loop-tile.start ∷ []) in
    let many = inv.many in record {
      many = omega (arith, new, long, many);
      start = c.in_ok-start.ensures
          ∙ (ap (λ (n : ℕ). n + tile.size) inv.start
          ∙ (sym (start_step tiles i tile there) ∙ ap (start_at (sizes_of tiles)) next));
      starts = starts_more tiles i c.loop-tile.start c.loop-tile.starts.items c.push.new.self.items
          c.in_ok-push.ensures.items inv.many inv.start inv.starts;
    }
