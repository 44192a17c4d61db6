-- What goes along the blocks of a schedule is in order under its tiling.
use Rattle.scop_syntax.proofs.Common.{◌≡◌, ℕ, ◌<◌, Bool, true, false, ℤ, pos, List, [], ◌∷◌, ◌++◌, refl, sym, ◌∙◌, ap}
use Rattle.scop_syntax.proofs.Common.{ap₂, subst, ◌⊎◌, inl, inr, arith, ints, length, ◌≤ℤ◌, ◌<ℤ◌, ◌+ℤ◌, not}
use Rattle.scop_syntax.proofs.Common.{if◌then◌else◌, floor, LexLess, LexLess-front, floor_is, floor_at_least, In}
use Rattle.scop_syntax.proofs.Common.{Instance}
use Rattle.whole_numbers.proofs.Common.{subst₂}
use Rattle.iteration_domains.specs.Dependence.{Dependence}
use Rattle.loop_tree.specs.Tiling.{Items, item_values, coordinates, wave_sum, IsInOrder}
use Rattle.schedule_rows.specs.Bands.{AreKept, Along}
use Rattle.schedule_rows.specs.Dependences.{Relates}
use Rattle.schedule_rows.specs.Items.{Marked, Block, scalar, band, phi, values}
use Rattle.schedule_rows.specs.Next.{IsSizedDep}
use Rattle.schedule_rows.specs.Outcomes.{IsSchedule}
use Rattle.schedule_rows.specs.Posed.{loops_of}
use Rattle.schedule_rows.proofs.BlockOrder.{along_values, le_apart, length-values, less_behind}
use Rattle.schedule_rows.proofs.RunInvariants.{schedule_along}
use Rattle.tile_skew.specs.Tilings.{rows_at, schedule_tiling, statement_items}
use Rattle.tile_skew.proofs.TilingAgreement.{items_found, last_part, order_by, tile_by, values_agree, wave_by}

-- floors do not fall
floor_rises : (a b d : ℤ) → pos 0 <ℤ d → a ≤ℤ b → floor a d ≤ℤ floor b d
floor_rises a b d h l =
    let f = floor_is a d h in
    let g = floor_is b d h in
    (floor_at_least b d (floor b d) (floor a d) h g).1 (omega (arith, ints))

fronts : {v w : ℤ} {xs ys : List ℤ} → v ≡ w → xs ≡ ys → v ∷ xs ≡ w ∷ ys
fronts e f = ap₂ (λ (z : ℤ) (zs : List ℤ). z ∷ zs) e f

-- a row more of a band: the sum rises, or all is equal
row_step : (p : Bool) (d a b s t : ℤ) (cs ds : List ℤ) → pos 0 <ℤ d → a ≤ℤ b → (p ≡ true → a ≡ b)
    → (s <ℤ t) ⊎ ((s ≡ t) × (cs ≡ ds))
    → (((if not p then floor a d else pos 0) +ℤ s) <ℤ ((if not p then floor b d else pos 0) +ℤ t))
    ⊎ ((((if not p then floor a d else pos 0) +ℤ s) ≡ ((if not p then floor b d else pos 0) +ℤ t))
    × (floor a d ∷ cs ≡ floor b d ∷ ds))
row_step true d a b s t cs ds h l e (inl k) = inl (omega (arith, ints))
row_step true d a b s t cs ds h l e (inr k) =
    inr (ap (λ (z : ℤ). pos 0 +ℤ z) k.0, fronts (ap (λ (z : ℤ). floor z d) (e refl)) k.1)
row_step false d a b s t cs ds h l e (inl k) = let f = floor_rises a b d h l in inl (omega (arith, ints))
row_step false d a b s t cs ds h l e (inr k) = elim (le_apart (floor a d) (floor b d) (floor_rises a b d h l)) [
  | inl u ↦ let q = k.0 in inl (omega (arith, ints))
  | inr q ↦ inr (ap₂ (λ (y : ℤ) (z : ℤ). y +ℤ z) q k.0, fronts q k.1)
]

band_tiles : (size : ℤ) (ms : List Marked) (x y : Instance) → pos 0 <ℤ size → AreKept ms x y
    → (wave_sum size (rows_at ms x.number) x.turns <ℤ wave_sum size (rows_at ms y.number) y.turns)
    ⊎ ((wave_sum size (rows_at ms x.number) x.turns ≡ wave_sum size (rows_at ms y.number) y.turns)
    × (coordinates size (rows_at ms x.number) x.turns ≡ coordinates size (rows_at ms y.number) y.turns))
band_tiles size [] x y h k = inr (refl, refl)
band_tiles size (m ∷ ms) x y h k =
    row_step m.parallel size (phi m.row x) (phi m.row y) (wave_sum size (rows_at ms x.number) x.turns)
    (wave_sum size (rows_at ms y.number) y.turns) (coordinates size (rows_at ms x.number) x.turns)
    (coordinates size (rows_at ms y.number) y.turns) h k.0 k.1 (band_tiles size ms x y h k.2)

-- the wave rises, or wave and tile are one
along_tiles : (size : ℤ) (bs : List Block) (x y : Instance) (E : Type 0) → pos 0 <ℤ size → Along bs x y E
    → LexLess (wave_by size x (statement_items bs x.number)) (wave_by size y (statement_items bs y.number))
    ⊎ ((wave_by size x (statement_items bs x.number) ≡ wave_by size y (statement_items bs y.number))
    × (tile_by size x (statement_items bs x.number) ≡ tile_by size y (statement_items bs y.number)))
along_tiles size [] x y E h a = inr (refl, refl)
along_tiles size (scalar numbers ∷ bs) x y E h (inl l) = inl (inl (omega (arith, ints)))
along_tiles size (scalar numbers ∷ bs) x y E h (inr a) = elim (along_tiles size bs x y E h a.1) [
  | inl l ↦ inl (inr (ap pos a.0, l))
  | inr e ↦ inr (fronts (ap pos a.0) e.0, fronts (ap pos a.0) e.1)
]
along_tiles size (band ms ∷ bs) x y E h a = elim (band_tiles size ms x y h a.0) [
  | inl l ↦ inl (inl l)
  | inr e ↦ inr (fronts e.0 refl, e.1)
]

-- the order of two instances by the items of their statements
abbrev pub AreOrdered : ℤ → Instance → Instance → Items → Items → Type 0
AreOrdered size x y s t =
    LexLess (wave_by size x s) (wave_by size y t)
    ⊎ ((tile_by size x s ≡ tile_by size y t) × LexLess (order_by size x s) (order_by size y t))

along_ordered : (size : ℤ) (bs : List Block) (x y : Instance) → pos 0 <ℤ size
    → (x.number ≡ y.number → length x.turns ≡ length y.turns) → (x.number ≡ y.number → LexLess x.turns y.turns)
    → Along bs x y (x.number ≡ y.number)
    → AreOrdered size x y (statement_items bs x.number) (statement_items bs y.number)
along_ordered size bs x y h sizes later a = elim (along_tiles size bs x y (x.number ≡ y.number) h a) [
  | inl l ↦ inl l
  | inr e ↦
      let s = statement_items bs x.number in
      let t = statement_items bs y.number in
      let us = item_values s x.turns ++ last_part x in
      let vs = item_values t y.turns ++ last_part y in
      let rises : LexLess us vs =
      subst₂ (λ (is js : List ℤ). LexLess (is ++ last_part x) (js ++ last_part y)) (sym (values_agree bs x))
      (sym (values_agree bs y)) (elim (along_values bs x y (x.number ≡ y.number) a) [
        | inl l ↦ LexLess-front (values bs x) (values bs y) (last_part x) (last_part y) (length-values bs x y) l
        | inr q ↦ less_behind (values bs x) (values bs y) (last_part x) (last_part y) q.0
            (LexLess-front x.turns y.turns _ _ (sizes q.1) (later q.1))
      ]) in
      inr (
        e.1,
        less_behind (wave_by size x s) (wave_by size y t) (tile_by size x s ++ us) (tile_by size y t ++ vs) e.0
            (less_behind (tile_by size x s) (tile_by size y t) us vs e.1 rises),
      )
]

-- a pair that goes along the blocks is in order under their tiling
pub along_in_order : (size n : ℕ) (bs : List Block) (i j : ℕ) (x y : Instance) → 0 < size → x.number < n
    → y.number < n → (x.number ≡ y.number → length x.turns ≡ length y.turns)
    → (x.number ≡ y.number → LexLess x.turns y.turns) → Along bs x y (x.number ≡ y.number)
    → IsInOrder (schedule_tiling size n bs) i x j y
along_in_order size n bs i j x y positive first second sizes later a =
    subst₂ (AreOrdered (pos size) x y) (sym (items_found bs n x.number first)) (sym (items_found bs n y.number second))
    (along_ordered (pos size) bs x y (omega (arith, ints, positive)) sizes later a)

-- so is each dependence's pair along its schedule
pub schedule_in_order : (m : ℕ) (loops : List ℕ) (deps : List Dependence) (blocks : List Block) (size i j : ℕ)
    → 0 < size → ((d : Dependence) → In d deps → IsSizedDep loops d) → IsSchedule m loops deps blocks
    → (d : Dependence) (params : List ℤ) (x y : Instance) → In d deps → length params ≡ m → Relates params d x y
    → (x.number ≡ y.number → LexLess x.turns y.turns)
    → IsInOrder (schedule_tiling size (length loops) blocks) i x j y
schedule_in_order m loops deps blocks size i j positive sized s d params x y among l r later =
    let z = sized d among in
    along_in_order size (length loops) blocks i j x y positive
    (subst (λ (k : ℕ). k < length loops) (sym r.source) z.source)
    (subst (λ (k : ℕ). k < length loops) (sym r.target) z.target)
    (λ same. r.source_size
    ∙ (z.source_turns
    ∙ (ap (λ (k : ℕ). loops_of loops k) (sym r.source ∙ (same ∙ r.target))
    ∙ (sym z.target_turns ∙ sym r.target_size))))
    later (schedule_along m loops deps blocks sized s d params x y among l r)
