-- A pair that is a point of no goal of its dependence is in order under the plan's tiling.
use Rattle.scop_syntax.proofs.Common.{◌≡◌, ◌+◌, ℕ, zero, suc, ◌<◌, ◌≤◌, Bool, true, false, ℤ, pos, ◌+ℤ◌, ◌≤ℤ◌, ◌<ℤ◌}
use Rattle.scop_syntax.proofs.Common.{List, [], ◌∷◌, ◌++◌, length, map, All, refl, sym, ◌∙◌, ap, ap₂, subst, arith, ◌⊎◌}
use Rattle.scop_syntax.proofs.Common.{inl, inr, if◌then◌else◌, nat_lt, not, slice_index_or, ⊤, ◌-◌, flat_map, ints}
use Rattle.scop_syntax.proofs.Common.{All-head, All-tail, value_of, complement, floor, zeros, LexLess, floor_is}
use Rattle.scop_syntax.proofs.Common.{floor_at_least, le_or_lt, LexLess-front, LexLess-rest, Instance}
use Rattle.std.proofs.lemmas.List.{length-append}
use Rattle.iteration_domains.specs.Dependence.{Dependence}
use Rattle.iteration_domains.specs.Restrictions.{equality_behind, row_behind}
use Rattle.iteration_domains.specs.declared.dep.DepEnd.{DepEnd}
use Rattle.plan_check.specs.Goals.{difference, above, row_goals, later_goals, restricted, band_goals}
use Rattle.plan_check.specs.Goals.{leading_goals, HasNoPoint}
use Rattle.plan_check.proofs.GoalPoints.{IsPairOf, SuitsEnds, at_source, at_target, equal_pair, all_front}
use Rattle.plan_check.proofs.GoalPoints.{all_back, not_falling, not_rising}
use Rattle.loop_tree.specs.Tiling.{Items, item_value, item_values, coordinates, wave_sum}
use Rattle.loop_tree.specs.Tiling.{items_at, tile_of, wave_of, order_of, IsInOrder}
use Rattle.plan_check.specs.Plans.{PlanRow, PlanItem, rows, numbers, Plan, number_of, leading_at}
use Rattle.plan_check.specs.Plans.{band_at, behind_at, items_for, items_from, tiling_of}

-- the items of statement k of the tiling
found : (p : Plan) (j n i : ℕ) → i < n
    → slice_index_or (items_from p j n) i (record { leading = []; band = []; behind = [] }) ≡ items_for p (j + i)
found p j zero i h = absurd (omega arith)
found p j (suc n) zero h = let e : j ≡ j + 0 = omega arith in ap (items_for p) e
found p j (suc n) (suc i) h =
    let e : suc j + i ≡ j + suc i = omega arith in found p (suc j) n i (omega arith) ∙ ap (items_for p) e

pub items_found : (p : Plan) (n k : ℕ) → k < n → items_at (items_from p 0 n) k ≡ items_for p k
items_found p n k h = let e : 0 + k ≡ k = omega arith in found p 0 n k h ∙ ap (items_for p) e

-- of two numbers one is less or they are equal
three : (a b : ℕ) → (a < b) ⊎ ((b < a) ⊎ (a ≡ b))
three zero zero = inr (inr refl)
three zero (suc b) = inl (omega arith)
three (suc a) zero = inr (inl (omega arith))
three (suc a) (suc b) = elim (three a b) [
  | inl h ↦ inl (omega arith)
  | inr (inl h) ↦ inr (inl (omega arith))
  | inr (inr h) ↦ inr (inr (ap suc h))
]

pub lt_true : (a b : ℕ) → a < b → nat_lt a b ≡ true
lt_true a b h = grind arith

pub lt_false : (a b : ℕ) → b ≤ a → nat_lt a b ≡ false
lt_false a b h = grind arith

-- what goals there are where the first number is greater, or both are one
greater : (a b : ℕ) (P : Dependence → Type 0) (less more equal : List Dependence) → b < a
    → All P (if nat_lt a b then less else if nat_lt b a then more else equal) → All P more
greater a b P less more equal h all =
    subst (λ (c : Bool). All P (if c then more else equal)) (lt_true b a h)
    (subst (λ (c : Bool). All P (if c then less else if nat_lt b a then more else equal))
    (lt_false a b (omega arith)) all)

same : (a b : ℕ) (P : Dependence → Type 0) (less more equal : List Dependence) → a ≡ b
    → All P (if nat_lt a b then less else if nat_lt b a then more else equal) → All P equal
same a b P less more equal h all =
    subst (λ (c : Bool). All P (if c then more else equal)) (lt_false b a (omega arith))
    (subst (λ (c : Bool). All P (if c then less else if nat_lt b a then more else equal))
    (lt_false a b (omega arith)) all)

-- what is not above is less or equal
apart : (a b : ℤ) → a ≤ℤ b → (a <ℤ b) ⊎ (a ≡ b)
apart a b h = elim (le_or_lt b a) [
  | inl k ↦ inr (omega (arith, ints))
  | inr k ↦ inl k
]

-- all forms of a plan's rows have the numbers of turns of the dependence's ends
abbrev pub ItemSuits : DepEnd → DepEnd → PlanItem → Type 0
ItemSuits source target (rows forms) = SuitsEnds source target forms
ItemSuits source target (numbers ns) = ⊤

-- the values of the items behind the first band
abbrev later_values : List PlanItem → ℕ → List ℤ → List ℤ
later_values items k turns = map (item_value turns) (behind_at items k)

later_sized : (items : List PlanItem) (j k : ℕ) (xs ys : List ℤ)
    → length (later_values items j xs) ≡ length (later_values items k ys)
later_sized [] j k xs ys = refl
later_sized (rows forms ∷ items) j k xs ys = ap suc (later_sized items j k xs ys)
later_sized (numbers ns ∷ items) j k xs ys = ap suc (later_sized items j k xs ys)

-- behind equal items the values rise
later_rises : (m : ℕ) (d : Dependence) (xs ys params : List ℤ) (items : List PlanItem)
    → IsPairOf m d xs ys params → All (ItemSuits d.source d.target) items
    → All HasNoPoint (later_goals m d items)
    → LexLess (later_values items d.source.statement xs) (later_values items d.target.statement ys)
later_rises m d xs ys params [] pair fits none =
    absurd (All-head HasNoPoint d [] none (xs ++ (ys ++ params)) pair.holds)
later_rises m d xs ys params (rows forms ∷ items) pair fits none =
    let goal = row_behind d (complement (difference m d forms)) in
    let inner = equality_behind d (difference m d forms) in
    let suits = All-head (ItemSuits d.source d.target) (rows forms) items fits in
    let rest = All-tail (ItemSuits d.source d.target) (rows forms) items fits in
    elim (apart (at_source d forms xs) (at_target d forms ys)
    (not_falling m d xs ys params forms pair suits
    (All-head HasNoPoint goal (later_goals m inner items) none))) [
      | inl h ↦ inl h
      | inr h ↦ inr (
        h,
        later_rises m inner xs ys params items (equal_pair m d xs ys params forms pair suits h) rest
            (All-tail HasNoPoint goal (later_goals m inner items) none),
      )
    ]
later_rises m d xs ys params (numbers ns ∷ items) pair fits none =
    let a = number_of ns d.source.statement in
    let b = number_of ns d.target.statement in
    let rest = All-tail (ItemSuits d.source d.target) (numbers ns) items fits in
    elim (three a b) [
      | inl h ↦ inl (omega (arith, ints))
      | inr (inl h) ↦
          let left = greater a b HasNoPoint [] (d ∷ later_goals m d items) (later_goals m d items) h none in
          absurd (All-head HasNoPoint d (later_goals m d items) left (xs ++ (ys ++ params)) pair.holds)
      | inr (inr h) ↦
          let left = same a b HasNoPoint [] (d ∷ later_goals m d items) (later_goals m d items) h none in
          inr (ap pos h, later_rises m d xs ys params items pair rest left)
    ]

-- the rows of a band do not fall, and those marked parallel stay
Kept : Dependence → List ℤ → List ℤ → List PlanRow → Type 0
Kept d xs ys [] = ⊤
Kept d xs ys (r ∷ rs) =
    (at_source d r.forms xs ≤ℤ at_target d r.forms ys)
    × (r.parallel ≡ true → at_source d r.forms xs ≡ at_target d r.forms ys) × Kept d xs ys rs

Equal : Dependence → List ℤ → List ℤ → List PlanRow → Type 0
Equal d xs ys [] = ⊤
Equal d xs ys (r ∷ rs) = (at_source d r.forms xs ≡ at_target d r.forms ys) × Equal d xs ys rs

marked : (b : Bool) (g : Dependence) → b ≡ true → All HasNoPoint (if b then g ∷ [] else []) → HasNoPoint g
marked true g h all = All-head HasNoPoint g [] all
marked false g h all = absurd cc

band_kept : (m : ℕ) (d : Dependence) (xs ys params : List ℤ) (band : List PlanRow) → IsPairOf m d xs ys params
    → All (λ r. SuitsEnds d.source d.target r.forms) band → All HasNoPoint (flat_map (row_goals m d) band)
    → Kept d xs ys band
unfolding Kept
band_kept m d xs ys params [] pair fits none = tt
band_kept m d xs ys params (r ∷ rs) pair fits none =
    let suits = All-head (λ r. SuitsEnds d.source d.target r.forms) r rs fits in
    let here = all_front HasNoPoint (row_goals m d r) (flat_map (row_goals m d) rs) none in
    let fall = row_behind d (complement (difference m d r.forms)) in
    let rise = row_behind d (above (difference m d r.forms)) in
    let more = if r.parallel then rise ∷ [] else [] in
    let low = not_falling m d xs ys params r.forms pair suits (All-head HasNoPoint fall more here) in (
      low,
      λ e.
          let high = not_rising m d xs ys params r.forms pair suits
          (marked r.parallel rise e (All-tail HasNoPoint fall more here)) in
          omega (arith, ints),
      band_kept m d xs ys params rs pair (All-tail (λ r. SuitsEnds d.source d.target r.forms) r rs fits)
          (all_back HasNoPoint (row_goals m d r) (flat_map (row_goals m d) rs) none),
    )

-- a row more of a band: the wave rises, or all is equal
floor_rises : (a b d : ℤ) → pos 0 <ℤ d → a ≤ℤ b → floor a d ≤ℤ floor b d
floor_rises a b d h l =
    let f = floor_is a d h in
    let g = floor_is b d h in
    (floor_at_least b d (floor b d) (floor a d) h g).1 (omega (arith, ints))

row_step : (p : Bool) (d a b s t : ℤ) → pos 0 <ℤ d → a ≤ℤ b → (p ≡ true → a ≡ b) → (s <ℤ t) ⊎ (s ≡ t)
    → (((if not p then floor a d else pos 0) +ℤ s) <ℤ ((if not p then floor b d else pos 0) +ℤ t))
    ⊎ ((s ≡ t) × (floor a d ≡ floor b d) ×
    (((if not p then floor a d else pos 0) +ℤ s) ≡ ((if not p then floor b d else pos 0) +ℤ t)))
row_step true d a b s t h l e (inl k) = inl (omega (arith, ints))
row_step true d a b s t h l e (inr k) = inr (k, ap (λ (z : ℤ). floor z d) (e refl), omega (arith, ints))
row_step false d a b s t h l e (inl k) = let f = floor_rises a b d h l in inl (omega (arith, ints))
row_step false d a b s t h l e (inr k) = elim (apart (floor a d) (floor b d) (floor_rises a b d h l)) [
  | inl u ↦ inl (omega (arith, ints))
  | inr q ↦ inr (k, q, omega (arith, ints))
]

band_tiles : (size : ℤ) (d : Dependence) (xs ys : List ℤ) (band : List PlanRow) → pos 0 <ℤ size → Kept d xs ys band
    → (wave_sum size (band_at band d.source.statement) xs <ℤ wave_sum size (band_at band d.target.statement) ys)
    ⊎ ((wave_sum size (band_at band d.source.statement) xs ≡ wave_sum size (band_at band d.target.statement) ys)
    × (coordinates size (band_at band d.source.statement) xs ≡ coordinates size (band_at band d.target.statement) ys))
unfolding Kept
band_tiles size d xs ys [] h k = inr (refl, refl)
band_tiles size d xs ys (r ∷ rs) h k =
    let a = at_source d r.forms xs in
    let b = at_target d r.forms ys in
    let s = wave_sum size (band_at rs d.source.statement) xs in
    let t = wave_sum size (band_at rs d.target.statement) ys in
    elim (band_tiles size d xs ys rs h k.2) [
      | inl l ↦ elim (row_step r.parallel size a b s t h k.0 k.1 (inl l)) [
        | inl u ↦ inl u
        | inr e ↦ absurd (omega (arith, ints))
      ]
      | inr q ↦ elim (row_step r.parallel size a b s t h k.0 k.1 (inr q.0)) [
        | inl u ↦ inl u
        | inr e ↦ inr (e.2, ap₂ (λ (v : ℤ) (vs : List ℤ). v ∷ vs) e.1 q.1)
      ]
    ]

-- the values of the band rise, or all its rows are equal
abbrev band_values : List PlanRow → ℕ → List ℤ → List ℤ
band_values band k turns = map (λ r. value_of r.form turns) (band_at band k)

band_less : (d : Dependence) (xs ys : List ℤ) (band : List PlanRow) → Kept d xs ys band
    → ((us vs : List ℤ) → LexLess (band_values band d.source.statement xs ++ us)
    (band_values band d.target.statement ys ++ vs))
    ⊎ Equal d xs ys band
unfolding Kept Equal
band_less d xs ys [] k = inr tt
band_less d xs ys (r ∷ rs) k = elim (apart (at_source d r.forms xs) (at_target d r.forms ys) k.0) [
  | inl h ↦ inl (λ us vs. inl h)
  | inr e ↦ elim (band_less d xs ys rs k.2) [
    | inl h ↦ inl (λ us vs. inr (e, h us vs))
    | inr h ↦ inr (e, h)
  ]
]

band_same : (d : Dependence) (xs ys : List ℤ) (band : List PlanRow) → Equal d xs ys band
    → band_values band d.source.statement xs ≡ band_values band d.target.statement ys
unfolding Equal
band_same d xs ys [] h = refl
band_same d xs ys (r ∷ rs) h = ap₂ (λ (v : ℤ) (vs : List ℤ). v ∷ vs) h.0 (band_same d xs ys rs h.1)

-- where they are equal the pair is one of the restricted dependence, whose ends are the same
Ends : Dependence → Dependence → Type 0
Ends d e = (e.source ≡ d.source) × (e.target ≡ d.target)

restricted_ends : (m : ℕ) (d : Dependence) (band : List PlanRow) → Ends d (restricted m d band)
unfolding Ends
restricted_ends m d [] = (refl, refl)
restricted_ends m d (r ∷ rs) = restricted_ends m (equality_behind d (difference m d r.forms)) rs

band_pair : (m : ℕ) (d : Dependence) (xs ys params : List ℤ) (band : List PlanRow) → IsPairOf m d xs ys params
    → All (λ r. SuitsEnds d.source d.target r.forms) band → Equal d xs ys band
    → IsPairOf m (restricted m d band) xs ys params
unfolding Equal
band_pair m d xs ys params [] pair fits h = pair
band_pair m d xs ys params (r ∷ rs) pair fits h =
    band_pair m (equality_behind d (difference m d r.forms)) xs ys params rs
    (equal_pair m d xs ys params r.forms pair (All-head (λ r. SuitsEnds d.source d.target r.forms) r rs fits) h.0)
    (All-tail (λ r. SuitsEnds d.source d.target r.forms) r rs fits) (moved_equal rs h.1)
  where
    moved_equal : (rs : List PlanRow) → Equal d xs ys rs
        → Equal (equality_behind d (difference m d r.forms)) xs ys rs
    moved_equal [] h = tt
    moved_equal (q ∷ qs) h = (h.0, moved_equal qs h.1)

less_behind : (xs ys front back : List ℤ) → xs ≡ ys → LexLess front back → LexLess (xs ++ front) (ys ++ back)
less_behind xs ys front back e h =
    subst (λ (zs : List ℤ). LexLess (xs ++ front) (zs ++ back)) e (LexLess-rest xs front back h)

band_sized : (band : List PlanRow) (j k : ℕ) (xs ys : List ℤ)
    → length (band_values band j xs) ≡ length (band_values band k ys)
band_sized [] j k xs ys = refl
band_sized (r ∷ rs) j k xs ys = ap suc (band_sized rs j k xs ys)

leading_sized : (items : List (List ℕ)) (j k : ℕ)
    → length (map pos (leading_at items j)) ≡ length (map pos (leading_at items k))
leading_sized [] j k = refl
leading_sized (ns ∷ items) j k = ap suc (leading_sized items j k)

-- the leading numbers rise, or are equal and the goals behind them have no point
leading_order : (m : ℕ) (d : Dependence) (xs ys params : List ℤ) (items : List (List ℕ)) (goals : List Dependence)
    → IsPairOf m d xs ys params → All HasNoPoint (leading_goals d items goals)
    → ((us vs : List ℤ) → LexLess (map pos (leading_at items d.source.statement) ++ us)
    (map pos (leading_at items d.target.statement) ++ vs))
    ⊎ ((map pos (leading_at items d.source.statement) ≡ map pos (leading_at items d.target.statement))
    × All HasNoPoint goals)
leading_order m d xs ys params [] goals pair none = inr (refl, none)
leading_order m d xs ys params (ns ∷ items) goals pair none =
    let a = number_of ns d.source.statement in
    let b = number_of ns d.target.statement in
    elim (three a b) [
      | inl h ↦ inl (λ us vs. inl (omega (arith, ints)))
      | inr (inl h) ↦
          let left = greater a b HasNoPoint [] (d ∷ []) (leading_goals d items goals) h none in
          absurd (All-head HasNoPoint d [] left (xs ++ (ys ++ params)) pair.holds)
      | inr (inr h) ↦
          let left = same a b HasNoPoint [] (d ∷ []) (leading_goals d items goals) h none in
          let e = ap pos h in
          elim (leading_order m d xs ys params items goals pair left) [
            | inl k ↦ inl (λ us vs. inr (e, k us vs))
            | inr k ↦ inr (ap₂ (λ (v : ℤ) (vs : List ℤ). v ∷ vs) e k.0, k.1)
          ]
    ]

-- all values rise where wave and tile are one
values_rise : (m : ℕ) (d : Dependence) (xs ys params : List ℤ) (p : Plan) → IsPairOf m d xs ys params
    → All (λ r. SuitsEnds d.source d.target r.forms) p.band → All (ItemSuits d.source d.target) p.behind
    → Kept d xs ys p.band
    → All HasNoPoint (later_goals m (restricted m d p.band) p.behind)
    → map pos (leading_at p.leading d.source.statement) ≡ map pos (leading_at p.leading d.target.statement)
    → LexLess (item_values (items_for p d.source.statement) xs) (item_values (items_for p d.target.statement) ys)
unfolding Ends
values_rise m d xs ys params p pair band behind kept none e =
    let us = later_values p.behind d.source.statement xs in
    let vs = later_values p.behind d.target.statement ys in
    let s = band_values p.band d.source.statement xs in
    let t = band_values p.band d.target.statement ys in
    let inner = restricted m d p.band in
    let ends = restricted_ends m d p.band in
    less_behind (map pos (leading_at p.leading d.source.statement)) (map pos (leading_at p.leading d.target.statement))
    (s ++ us) (t ++ vs) e
    (elim (band_less d xs ys p.band kept) [
      | inl h ↦ h us vs
      | inr h ↦
          let suits = subst (λ (b : DepEnd). All (ItemSuits inner.source b) p.behind) (sym ends.1)
          (subst (λ (a : DepEnd). All (ItemSuits a d.target) p.behind) (sym ends.0) behind) in
          let rise = later_rises m inner xs ys params p.behind
          (band_pair m d xs ys params p.band pair band h) suits none in
          less_behind s t us vs (band_same d xs ys p.band h)
          (subst (λ (b : DepEnd). LexLess us (later_values p.behind b.statement ys)) ends.1
          (subst (λ (a : DepEnd). LexLess (later_values p.behind a.statement xs)
          (later_values p.behind inner.target.statement ys)) ends.0 rise))
    ])

values_sized : (p : Plan) (j k : ℕ) (xs ys : List ℤ)
    → length (item_values (items_for p j) xs) ≡ length (item_values (items_for p k) ys)
values_sized p j k xs ys =
    let a = leading_sized p.leading j k in
    let b = band_sized p.band j k xs ys in
    let c = later_sized p.behind j k xs ys in
    let d = length-append (map pos (leading_at p.leading j)) (band_values p.band j xs ++ later_values p.behind j xs) in
    let e = length-append (map pos (leading_at p.leading k)) (band_values p.band k ys ++ later_values p.behind k ys) in
    let f = length-append (band_values p.band j xs) (later_values p.behind j xs) in
    let g = length-append (band_values p.band k ys) (later_values p.behind k ys) in
    omega arith

-- the parts of an order behind the values
abbrev last_part : Instance → List ℤ
last_part z = z.turns ++ (zeros (5 - length z.turns) ++ pos z.number ∷ [])

-- tile, wave and order of an instance of statement k by the plan
abbrev plan_tile : ℕ → Plan → ℕ → List ℤ → List ℤ
plan_tile size p k turns = map pos (leading_at p.leading k) ++ coordinates (pos size) (band_at p.band k) turns

abbrev plan_wave : ℕ → Plan → ℕ → List ℤ → List ℤ
plan_wave size p k turns = map pos (leading_at p.leading k) ++ wave_sum (pos size) (band_at p.band k) turns ∷ []

abbrev plan_order : ℕ → Plan → ℕ → List ℤ → List ℤ → List ℤ
plan_order size p k turns last =
    plan_wave size p k turns ++ (plan_tile size p k turns ++ (item_values (items_for p k) turns ++ last))

tile_is : (size n k : ℕ) (p : Plan) (z : Instance) → z.number ≡ k → z.number < n
    → tile_of (tiling_of size n p) z ≡ plan_tile size p k z.turns
tile_is size n k p z e h =
    ap (λ (s : Items). map pos s.leading ++ coordinates (pos size) s.band z.turns) (items_found p n z.number h)
    ∙ ap (λ (j : ℕ). plan_tile size p j z.turns) e

wave_is : (size n k : ℕ) (p : Plan) (z : Instance) → z.number ≡ k → z.number < n
    → wave_of (tiling_of size n p) z ≡ plan_wave size p k z.turns
wave_is size n k p z e h =
    ap (λ (s : Items). map pos s.leading ++ wave_sum (pos size) s.band z.turns ∷ []) (items_found p n z.number h)
    ∙ ap (λ (j : ℕ). plan_wave size p j z.turns) e

values_are : (n k : ℕ) (p : Plan) (z : Instance) → z.number ≡ k → z.number < n
    → item_values (items_at (items_from p 0 n) z.number) z.turns ≡ item_values (items_for p k) z.turns
values_are n k p z e h =
    ap (λ (s : Items). item_values s z.turns) (items_found p n z.number h)
    ∙ ap (λ (j : ℕ). item_values (items_for p j) z.turns) e

order_is : (size n k : ℕ) (p : Plan) (z : Instance) → z.number ≡ k → z.number < n
    → order_of size (items_from p 0 n) z ≡ plan_order size p k z.turns (last_part z)
order_is size n k p z e h =
    ap₂ (λ (us vs : List ℤ). us ++ vs) (wave_is size n k p z e h)
    (ap₂ (λ (us vs : List ℤ). us ++ vs) (tile_is size n k p z e h)
    (ap (λ (us : List ℤ). us ++ last_part z) (values_are n k p z e h)))

-- from equal lists to lists in order
moved : (xs ys us vs : List ℤ) → xs ≡ us → ys ≡ vs → LexLess us vs → LexLess xs ys
moved xs ys us vs e f h =
    subst (λ (l : List ℤ). LexLess l ys) (sym e) (subst (λ (l : List ℤ). LexLess us l) (sym f) h)

-- the pair is in order
pub pair_in_order : (m size n i j : ℕ) (d : Dependence) (p : Plan) (x y : Instance) (params : List ℤ)
    → IsPairOf m d x.turns y.turns params → x.number ≡ d.source.statement → y.number ≡ d.target.statement
    → x.number < n → y.number < n → 0 < size
    → All (λ r. SuitsEnds d.source d.target r.forms) p.band → All (ItemSuits d.source d.target) p.behind
    → All HasNoPoint (leading_goals d p.leading (band_goals m d p)) → IsInOrder (tiling_of size n p) i x j y
pair_in_order m size n i j d p x y params pair source target first second positive band behind none =
    let xs = x.turns in
    let ys = y.turns in
    let s = d.source.statement in
    let t = d.target.statement in
    let above_0 : pos 0 <ℤ pos size = omega (arith, ints, positive) in
    let plan = tiling_of size n p in
    let wx = wave_is size n s p x source first in
    let wy = wave_is size n t p y target second in
    elim (leading_order m d xs ys params p.leading (band_goals m d p) pair none) [
      | inl h ↦ inl (moved (wave_of plan x) (wave_of plan y) (plan_wave size p s xs) (plan_wave size p t ys) wx wy
          (h (wave_sum (pos size) (band_at p.band s) xs ∷ []) (wave_sum (pos size) (band_at p.band t) ys ∷ [])))
      | inr h ↦
          let rows_free = all_front HasNoPoint (flat_map (row_goals m d) p.band)
          (later_goals m (restricted m d p.band) p.behind) h.1 in
          let later_free = all_back HasNoPoint (flat_map (row_goals m d) p.band)
          (later_goals m (restricted m d p.band) p.behind) h.1 in
          let kept = band_kept m d xs ys params p.band pair band rows_free in
          elim (band_tiles (pos size) d xs ys p.band above_0 kept) [
            | inl l ↦ inl (moved (wave_of plan x) (wave_of plan y) (plan_wave size p s xs) (plan_wave size p t ys) wx
                wy
                (less_behind (map pos (leading_at p.leading s)) (map pos (leading_at p.leading t))
                (wave_sum (pos size) (band_at p.band s) xs ∷ []) (wave_sum (pos size) (band_at p.band t) ys ∷ []) h.0
                (inl l)))
            | inr e ↦
                let waves = ap₂ (λ (us vs : List ℤ). us ++ vs) h.0 (ap (λ (z : ℤ). z ∷ []) e.0) in
                let tiles = ap₂ (λ (us vs : List ℤ). us ++ vs) h.0 e.1 in
                let rise = values_rise m d xs ys params p pair band behind kept later_free h.0 in
                let tx = tile_is size n s p x source first in
                let ty = tile_is size n t p y target second in
                let us = item_values (items_for p s) xs in
                let vs = item_values (items_for p t) ys in
                inr (
                  tx ∙ (tiles ∙ sym ty),
                  moved (order_of size (items_from p 0 n) x) (order_of size (items_from p 0 n) y)
                      (plan_order size p s xs (last_part x)) (plan_order size p t ys (last_part y))
                      (order_is size n s p x source first) (order_is size n t p y target second)
                      (less_behind (plan_wave size p s xs) (plan_wave size p t ys)
                      (plan_tile size p s xs ++ (us ++ last_part x)) (plan_tile size p t ys ++ (vs ++ last_part y))
                      waves
                      (less_behind (plan_tile size p s xs) (plan_tile size p t ys) (us ++ last_part x)
                      (vs ++ last_part y) tiles
                      (LexLess-front us vs (last_part x) (last_part y) (values_sized p s t xs ys) rise))),
                )
          ]
    ]
