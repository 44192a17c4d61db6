use Rattle.scop_syntax.proofs.Common.{◌≡◌, ◌++◌, ◌∷◌, [], ◌+◌, List, length, map, ap, subst, ◌∙◌, arith, length-map}
use Rattle.scop_syntax.proofs.Common.{Bool}
use Rattle.std.proofs.lemmas.List.{length-append}
use Rattle.schedule_rows.specs.declared.item.Band.{Band}
use Rattle.schedule_rows.specs.declared.item.Block.TheVariants as code
use Rattle.schedule_rows.specs.Schedule.{Item, item_of, block_of, items_of, bands_from, marks_of}
use Rattle.schedule_rows.proofs.BlockItems.{items_next, bands_next, marks_next}
use Rattle.schedule_rows.proofs.schedule.Schedule.of.Goals as goal

pub loop-block-preserved : goal.loop-block-preserved
loop-block-preserved c =
    let old = c.loop-block.items.items in
    let new = c.push_block.new.items.items in
    let bands = c.loop-block.bands.items in
    let marks = c.loop-block.parallel.items in
    let b = block_of c.in-Some.block in
    let rest = map block_of c.next.new.self.rest.items in
    let all = map block_of c.args.blocks.items in
    let e = c.in-Some.ensures.steps.0 in
    let gain = c.in-Ok.ensures in
    let count = ap length gain.items in
    let l = length-append (map item_of old) (items_of (b ∷ [])) in
    let m = length-map old item_of in
    let n = length-map new item_of in
    let size : length new ≡ length old + length (items_of (b ∷ [])) = omega arith in
    let before = c.loop-block.invariant in (
      tt,
      tt,
      ap (λ (z : List Item). z ++ items_of rest) gain.items
          ∙ items_next (map item_of old) (items_of all) b rest
          (subst (λ (z : List code.the_data). map item_of old ++ items_of (map block_of z) ≡ items_of all) e before.2),
      ap (λ (z : List Band). z ++ bands_from (length new) rest) gain.bands
          ∙ bands_next bands (bands_from 0 all) b rest (length old) (length new) size
          (subst (λ (z : List code.the_data). bands ++ bands_from (length old) (map block_of z) ≡ bands_from 0 all) e
          before.3),
      ap (λ (z : List Bool). z ++ marks_of rest) gain.parallel
          ∙ marks_next marks (marks_of all) b rest
          (subst (λ (z : List code.the_data). marks ++ marks_of (map block_of z) ≡ marks_of all) e before.4),
    )
