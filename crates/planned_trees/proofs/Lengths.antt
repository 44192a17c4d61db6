-- Waves and tiles of an even plan have one length each.
use Rattle.scop_syntax.proofs.Common.{◌≡◌, ◌∙◌, ℕ, ◌+◌, ℤ, pos, List, ◌++◌, length, map, ap, ap₂, refl, sym, arith}
use Rattle.scop_syntax.proofs.Common.{length-map, value_of, floor, In, Program, Instance}
use Rattle.std.proofs.lemmas.List.{length-append}
use Rattle.loop_tree.specs.Plans.{AreInOrder}
use Rattle.loop_tree.specs.Tiling.{Items, TileRow, Tiling, kept, tiled, coordinates, items_at, tile_of, wave_of}
use Rattle.planned_trees.specs.Trees.{AreEven}
use Rattle.planned_trees.proofs.Orders.{length_wave, walked_number}
use Rattle.planned_trees.proofs.WalkedVisits.{visited_walked}

length_tile : (size : ℤ) (s : Items) (us : List ℤ)
    → length (map pos s.leading ++ coordinates size s.band us) ≡ length s.leading + length s.band
length_tile size s us =
    length-append (map pos s.leading) (coordinates size s.band us)
    ∙ ap₂ (λ (m n : ℕ). m + n) (length-map s.leading pos)
    (length-map s.band (λ (r : TileRow). floor (value_of r.form us) size))

pub one_length : (program : Program) (params : List ℤ) (plan : Tiling) (xs : List Instance) → AreEven program plan
    → AreInOrder program params plan xs → (x y : Instance) → In x xs → In y xs
    → (length (wave_of plan x) ≡ length (wave_of plan y)) × (length (tile_of plan x) ≡ length (tile_of plan y))
one_length program params kept xs even exact x y i j = (refl, refl)
one_length program params (tiled size statements) xs even exact x y i j =
    let plan = tiled size statements in
    let v = visited_walked program params plan xs exact x i in
    let w = visited_walked program params plan xs exact y j in
    let a = walked_number program params v.0 v.1 in
    let b = walked_number program params w.0 w.1 in
    let first : x.number ≡ v.0.number = ap (λ (z : Instance). z.number) v.2 in
    let second : y.number ≡ w.0.number = ap (λ (z : Instance). z.number) w.2 in
    let e = even x.number y.number (omega (arith, a, first)) (omega (arith, b, second)) in
    let s = items_at statements x.number in
    let t = items_at statements y.number in (
      length_wave (pos size) s.leading s.band x.turns
          ∙ (ap (λ (n : ℕ). n + 1) e.0 ∙ sym (length_wave (pos size) t.leading t.band y.turns)),
      length_tile (pos size) s x.turns
          ∙ (ap₂ (λ (m n : ℕ). m + n) e.0 e.1 ∙ sym (length_tile (pos size) t y.turns)),
    )
