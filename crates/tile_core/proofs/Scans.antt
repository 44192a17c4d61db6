-- A plan's scan: the walked instances, each once, in an order in which conflicting places stand by tile and wave.
use Rattle.scop_syntax.proofs.Common.{◌≡◌, ℕ, suc, ◌<◌, ℤ, List, length, Some, ◌⊎◌, inl, inr, ap, subst, sym, ◌∙◌}
use Rattle.scop_syntax.proofs.Common.{arith, slice_get, ◌≢◌, option_map, length-map, slice_get-map, slice_get_within}
use Rattle.scop_syntax.proofs.Common.{LexLess, LexLess-asym, LexLess-irrefl, In, Program, Instance, instance, Visit}
use Rattle.scop_syntax.proofs.Common.{walk_of, in_from_place, nat_cases, sorted_places, there_is, AreDistinct}
use Rattle.scop_syntax.proofs.Common.{StandOnce, walked_distinct}
use Rattle.scop_syntax.proofs.SortedLists.{sorted_weaker}
use Rattle.loop_tree.specs.Plans.{AreInOrder, Precedes, walked}
use Rattle.loop_tree.specs.Tiling.{IsInOrder, StandsBefore, Tiling, kept, tiled, order_of, tile_of, wave_of}
use Rattle.loop_tree.proofs.Visits.{listed_same}
use Rattle.tile_list.specs.Tiles.{TileBefore}
use Rattle.tile_core.specs.Ranks.{rank_in}
use Rattle.tile_core.proofs.Cuts.{IsCut, IsInTile, starts_rise}
use Rattle.tile_core.proofs.Ranks.{distinct_le, place_is, placed}

-- instances in a plan's order are distinct
scan_distinct : (program : Program) (params : List ℤ) (tiling : Tiling) (xs : List Instance) → StandOnce program params
    → AreInOrder program params tiling xs → AreDistinct xs
scan_distinct program params kept xs once same =
    subst (λ (ys : List Instance). AreDistinct ys) (sym same) (walked_distinct program params once)
scan_distinct program params (tiled size statements) xs once (sorted, all) =
    sorted_weaker (Precedes size statements) (λ (x y : Instance). x ≢ y) xs
    (λ x y less e. LexLess-irrefl (order_of size statements y)
    (subst (λ z. Precedes size statements z y) e less)) sorted

-- what stands before another in the plan's order has the lower rank
ranks_in_order : (program : Program) (params : List ℤ) (tiling : Tiling) (xs : List Instance) (i j r s : ℕ)
    (x y : Instance)
    → AreDistinct (walked program params) → AreInOrder program params tiling xs
    → slice_get (walked program params) i ≡ Some x → slice_get (walked program params) j ≡ Some y
    → slice_get xs r ≡ Some x → slice_get xs s ≡ Some y → StandsBefore tiling i x j y → r < s
ranks_in_order program params kept xs i j r s x y distinct same at_i at_j at_r at_s less =
    let a = place_is (walked program params) i x distinct at_i in
    let b = place_is (walked program params) j y distinct at_j in
    let c = place_is (walked program params) r x distinct (sym (ap (λ ys. slice_get ys r) same) ∙ at_r) in
    let d = place_is (walked program params) s y distinct (sym (ap (λ ys. slice_get ys s) same) ∙ at_s) in
    omega (arith, a, b, c, d, less)
ranks_in_order program params (tiled size statements) xs i j r s x y distinct (sorted, all) at_i at_j at_r at_s less =
    nat_cases r s (λ l. l)
    (λ e. let same : x ≡ y = one r s e at_r at_s in
    absurd (LexLess-irrefl (order_of size statements y) (subst (λ z. Precedes size statements z y) same less)))
    (λ l. absurd (LexLess-asym (order_of size statements x) (order_of size statements y) less
    (sorted_places (Precedes size statements) xs sorted s r y x at_s at_r l)))
  where
    one : (a b : ℕ) → a ≡ b → slice_get xs a ≡ Some x → slice_get xs b ≡ Some y → x ≡ y
    one a b e g h = cc

-- tiles in which instances that stand in order lie: one, or the wave rises
pub tiles_in_order : (program : Program) (params : List ℤ) (tiling : Tiling) (xs : List Instance) (n : ℕ)
    (start wave : ℕ → ℕ)
    (i j r s t u : ℕ) (x y : Instance) → AreDistinct (walked program params) → AreInOrder program params tiling xs
    → IsCut tiling xs n start wave → slice_get (walked program params) i ≡ Some x
    → slice_get (walked program params) j ≡ Some y
    → IsInTile xs n start t r x → IsInTile xs n start u s y → IsInOrder tiling i x j y
    → ((t ≡ u) × (r < s)) ⊎ (wave t < wave u)
tiles_in_order program params tiling xs n start wave i j r s t u x y distinct order cut at_i at_j a b (inl less) =
    nat_cases t u
    (λ l. inr (nat_cases (wave t) (wave u) (λ m. m)
    (λ e. absurd (not_same (cut.waves t u r s x y a b l e)))
    (λ m. let k = cut.by_wave t u l b.tile in absurd (omega (arith, k, m)))))
    (λ e. absurd (not_same (cut.one u r s x y (subst (λ k. IsInTile xs n start k r x) e a) b).wave))
    (λ l. absurd (behind (cut.rise u t s r y x b a l)))
  where
    not_same : wave_of tiling x ≡ wave_of tiling y → ⊥
    not_same e = LexLess-irrefl (wave_of tiling y) (subst (λ z. LexLess z (wave_of tiling y)) e less)

    behind : TileBefore tiling y x → ⊥
    behind (inl more) = LexLess-asym (wave_of tiling x) (wave_of tiling y) less more
    behind (inr h) = not_same (sym h.0)
tiles_in_order program params tiling xs n start wave i j r s t u x y distinct order cut at_i at_j a b
    (inr (tile, before)) =
    let less = ranks_in_order program params tiling xs i j r s x y distinct order at_i at_j a.there b.there before in
    nat_cases t u
    (λ l. inr (nat_cases (wave t) (wave u) (λ m. m)
    (λ e. absurd (apart (cut.waves t u r s x y a b l e) (cut.rise t u r s x y a b l)))
    (λ m. let k = cut.by_wave t u l b.tile in absurd (omega (arith, k, m)))))
    (λ e. inl (e, less))
    (λ l. let q = a.tile in
    let up = starts_rise start n cut.rises (suc u) t (omega (arith, l)) (omega (arith, q)) in
    let f = a.from in
    let g = b.to in
    absurd (omega (arith, up, f, g, less)))
  where
    apart : wave_of tiling x ≡ wave_of tiling y → TileBefore tiling x y → ⊥
    apart e (inl h) = LexLess-irrefl (wave_of tiling y) (subst (λ z. LexLess z (wave_of tiling y)) e h)
    apart e (inr h) = LexLess-irrefl (tile_of tiling y) (subst (λ z. LexLess z (tile_of tiling y)) tile h.1)

-- where an instance of one list stands in another that has it, too
there : (us vs : List Instance) → ((x : Instance) → In x us → In x vs) → (j : ℕ) (x : Instance)
    → slice_get us j ≡ Some x
    → slice_get vs (rank_in vs (slice_get us j)) ≡ Some x
there us vs all j x at = ap (λ o. slice_get vs (rank_in vs o)) at ∙ placed vs x (all x (in_from_place us j x at))

-- and back again
back : (us vs : List Instance) → AreDistinct us → ((x : Instance) → In x us → In x vs) → (j : ℕ) (x : Instance)
    → slice_get us j ≡ Some x → rank_in us (slice_get vs (rank_in vs (slice_get us j))) ≡ j
back us vs distinct all j x at = ap (rank_in us) (there us vs all j x at) ∙ place_is us j x distinct at

-- the ranks of the walk's instances in the scan, and their places
module _ (program : Program) (params : List ℤ) (tiling : Tiling) (xs : List Instance) (once : StandOnce program params)
    (order : AreInOrder program params tiling xs) where
  abbrev ws : List Instance
  ws = walked program params

  to_scan : (x : Instance) → In x ws → In x xs
  to_scan x i = (listed_same program params tiling xs order x).1 i

  to_walk : (x : Instance) → In x xs → In x ws
  to_walk x i = (listed_same program params tiling xs order x).0 i

  pub as_many : length xs ≡ length (walk_of program params)
  as_many =
      let a = distinct_le xs ws (scan_distinct program params tiling xs once order) to_walk in
      let b = distinct_le ws xs (walked_distinct program params once) to_scan in
      let c = length-map (walk_of program params) instance in
      omega (arith, a, b, c)

  pub instance_at : (j : ℕ) → j < length (walk_of program params)
      → (v : Visit) × (slice_get (walk_of program params) j ≡ Some v) × (slice_get ws j ≡ Some (instance v))
  instance_at j l =
      let v = there_is (walk_of program params) j l in
      (v.0, v.1, slice_get-map instance (walk_of program params) j ∙ ap (option_map instance) v.1)

  pub rank_there : (j : ℕ) (x : Instance) → slice_get ws j ≡ Some x
      → slice_get xs (rank_in xs (slice_get ws j)) ≡ Some x
  rank_there j x at = there ws xs to_scan j x at

  pub rank_within : (j : ℕ) → j < length (walk_of program params)
      → rank_in xs (slice_get ws j) < length (walk_of program params)
  rank_within j l =
      let v = instance_at j l in
      let w = slice_get_within xs (rank_in xs (slice_get ws j)) (instance v.0) (rank_there j (instance v.0) v.2) in
      let e = as_many in
      omega (arith, w, e)

  pub place_within : (r : ℕ) → r < length (walk_of program params)
      → rank_in ws (slice_get xs r) < length (walk_of program params)
  place_within r l =
      let e = as_many in
      let x = there_is xs r (omega (arith, e, l)) in
      let w = slice_get_within ws (rank_in ws (slice_get xs r)) x.0 (there xs ws to_walk r x.0 x.1) in
      let c = length-map (walk_of program params) instance in
      omega (arith, w, c)

  pub rank_back : (j : ℕ) → j < length (walk_of program params)
      → rank_in ws (slice_get xs (rank_in xs (slice_get ws j))) ≡ j
  rank_back j l =
      let v = instance_at j l in back ws xs (walked_distinct program params once) to_scan j (instance v.0) v.2

  pub place_back : (r : ℕ) → r < length (walk_of program params)
      → rank_in xs (slice_get ws (rank_in ws (slice_get xs r))) ≡ r
  place_back r l =
      let e = as_many in
      let x = there_is xs r (omega (arith, e, l)) in
      back xs ws (scan_distinct program params tiling xs once order) to_walk r x.0 x.1
