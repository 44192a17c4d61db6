-- Each dimension of a scan set lies within 2^64 over fractions, where the turns lie within 2^46.
use Rattle.scop_syntax.proofs.Common.{◌≡◌, ℕ, zero, suc, ◌+◌, ◌-◌, ◌*◌, ◌^◌, ◌<◌, ◌≤◌, ℤ, pos, List, [], ◌∷◌, ◌++◌, sym}
use Rattle.scop_syntax.proofs.Common.{◌∙◌, refl, ap, subst, inl, inr, arith, length, map, take, drop, get_or, mul-le-mul}
use Rattle.scop_syntax.proofs.Common.{◌+ℤ◌, ◌-ℤ◌, ◌*ℤ◌, ◌≤ℤ◌, ◌<ℤ◌, unsigned_abs, All, ints, All-nil, All-cons}
use Rattle.scop_syntax.proofs.Common.{All-head, All-tail, All-append, All-map, All-weaker, Affine, form_of, dot, zeros}
use Rattle.scop_syntax.proofs.Common.{dot-zeros, le_or_lt, mul_le, mul_le_left, mul_le_turned, mul_comm_int}
use Rattle.scop_syntax.proofs.Common.{mul_one_left, mul_one_right, mul_zero_left, abs_low, abs_high, abs_at_most}
use Rattle.null_space.specs.Sizes.{IsWithin, AreWithin}
use Rattle.null_space.proofs.Sizes.{within_add, within_mul, are_within_more}
use Rattle.fractions.specs.Fractions.{value_over, HoldsOver}
use Rattle.fractions.proofs.PointValues.{value_over-sum, value_over-multiple}
use Rattle.fm_projection.specs.Alone.{AreInRangeOver, IsBounded}
use Rattle.iteration_domains.specs.Model.{Modelled}
use Rattle.iteration_domains.specs.Sizes.{size, form_size}
use Rattle.loop_tree.specs.Tiling.{TileRow, Item, row, scalar, Items}
use Rattle.tile_skew.specs.declared.layout.Layout.{Layout}
use Rattle.tile_skew.specs.ScanSets.{front_of, width, domain_form, row_form, number_form, item_form, carried}
use Rattle.tile_skew.specs.ScanSets.{carried_form, tile_begins, tile_ends, are_coordinates, forms_of_items, points_of}
use Rattle.tile_skew.specs.steps.Sizes.{FitsTurns, FitsItem, IsLow, AreModest}
use Rattle.tile_skew.proofs.ComposedValues.{value_over-variable}
use Rattle.tile_skew.proofs.SetValues.{AreValues, begins-value, domain-value, ends-value, middle, next_place, row-value}
use Rattle.tile_skew.proofs.SetValues.{segment}
use Rattle.tile_skew.proofs.Points.{Parts, Tells, at_tiles, domain_from, front_size, point, point_size, tells}
use Rattle.tile_skew.proofs.Points.{wave_forms}
use Rattle.tile_skew.proofs.Widths.{length-carried, size-carried}
use Rattle.tile_skew.proofs.Instances.{parted}

-- the values over d, times d
fraction_values : (l : Layout) (d : ℤ) (x : List ℤ) → AreValues l d x (λ f. value_over f d x)
fraction_values l d x =
    record {
      sums = λ f g. value_over-sum f g d x;
      multiples = λ k f. value_over-multiple k f d x;
      variables = λ j h. value_over-variable (width l) j d x h;
      numbers = λ k. let z = dot-zeros (width l) x in omega (arith, ints);
    }

-- the form whose value is d times the value over d
abbrev scaled : ℤ → Affine → Affine
scaled d f = form_of f.coefficients (f.constant *ℤ d)

-- a dot product with numbers within b
dot_within : (b : ℕ) (cs xs : List ℤ) → AreWithin b xs → IsWithin (size cs * b) (dot cs xs)
dot_within b [] xs h = omega arith
dot_within b (c ∷ cs) [] h = omega arith
dot_within b (c ∷ cs) (x ∷ xs) h =
    let own : unsigned_abs c ≤ unsigned_abs c = omega arith in
    let p = within_mul (unsigned_abs c) b c x own (All-head (IsWithin b) x xs h) in
    let r = dot_within b cs xs (All-tail (IsWithin b) x xs h) in
    let a = within_add (unsigned_abs c * b) (size cs * b) (c *ℤ x) (dot cs xs) p r in
    omega (arith, a)

-- a value over d at numerators within b, which are not less than d
value_within : (b : ℕ) (f : Affine) (d : ℤ) (xs : List ℤ) → IsWithin b d → AreWithin b xs
    → IsWithin (form_size f * b) (value_over f d xs)
value_within b f d xs h k =
    let own : unsigned_abs f.constant ≤ unsigned_abs f.constant = omega arith in
    let p = dot_within b f.coefficients xs k in
    let q = within_mul (unsigned_abs f.constant) b f.constant d own h in
    let a = within_add (size f.coefficients * b) (unsigned_abs f.constant * b) (dot f.coefficients xs)
    (f.constant *ℤ d) p q in
    omega (arith, a)

row_near : (l : Layout) (b : ℕ) (d : ℤ) (f : Affine) (fs ts rest : List ℤ) → length fs ≡ l.front
    → length ts ≡ l.turns → l.turns ≤ 5 → FitsTurns l.turns f → IsWithin b d → AreWithin b ts
    → IsWithin (24576 * b) (value_over (row_form l f) d (fs ++ (ts ++ rest)))
row_near l b d f fs ts rest front turns few fits h k =
    let e = row-value l (scaled d f) fs ts rest front (fits.0 ∙ sym turns) in
    let v = value_within b f d ts h k in
    let small = fits.1 in
    let same : b ≤ b = omega arith in
    let most : form_size f * b ≤ 24576 * b = mul-le-mul (omega (arith, small, few)) same in
    subst (IsWithin (24576 * b)) (sym e) (omega (arith, v, most))

number_near : (l : Layout) (b : ℕ) (d : ℤ) (k : ℕ) (x : List ℤ) → k < 32 → IsWithin b d
    → IsWithin (24576 * b) (value_over (number_form l (pos k)) d x)
number_near l b d k x low h =
    let v = within_mul k b (pos k) d (omega arith) h in
    let same : b ≤ b = omega arith in
    let most : k * b ≤ 24576 * b = mul-le-mul (omega (arith, low)) same in
    subst (IsWithin (24576 * b)) (sym ((fraction_values l d x).numbers (pos k))) (omega (arith, v, most))

item_near : (l : Layout) (b : ℕ) (d : ℤ) (i : Item) (fs ts rest : List ℤ) → length fs ≡ l.front
    → length ts ≡ l.turns → l.turns ≤ 5 → FitsItem l.turns i → IsLow 32 i → IsWithin b d → AreWithin b ts
    → IsWithin (24576 * b) (value_over (item_form l i) d (fs ++ (ts ++ rest)))
item_near l b d (row f) fs ts rest front turns few fits low h k =
    row_near l b d f fs ts rest front turns few (fits f refl) h k
item_near l b d (scalar n) fs ts rest front turns few fits low h k =
    number_near l b d n (fs ++ (ts ++ rest)) low h

-- a tile coordinate t of a row whose value is r
coordinate_near : (s r t d : ℤ) (n : ℕ) → (pos 1 ≤ℤ s) × (s ≤ℤ pos 1024) → pos 0 <ℤ d → IsWithin n r
    → pos 0 ≤ℤ (r -ℤ (t *ℤ s)) → pos 0 ≤ℤ ((((s -ℤ pos 1) *ℤ d) +ℤ (t *ℤ s)) -ℤ r)
    → IsWithin (n + 1024 * unsigned_abs d) t
coordinate_near s r t d n bounds positive near below above =
    let least = bounds.0 in
    let most = bounds.1 in
    let rl = abs_low r in
    let rh = abs_high r in
    let dh = abs_high d in
    let w = mul_le (s -ℤ pos 1) (pos 1024) d (omega (arith, ints)) (omega (arith, ints)) in
    elim (le_or_lt (pos 0) t) [
      | inl up ↦
          let g = mul_le_left (pos 1) s t least up in
          let o = mul_one_right t in
          abs_at_most t (n + 1024 * unsigned_abs d) (omega (arith, ints)) (omega (arith, ints))
      | inr down ↦
          let g = mul_le_turned (pos 1) s t least (omega (arith, ints)) in
          let o = mul_one_left t in
          let c = mul_comm_int t s in
          abs_at_most t (n + 1024 * unsigned_abs d) (omega (arith, ints)) (omega (arith, ints))
    ]

-- the dimensions from j on are tile coordinates of rows whose values are within 24576 b
tiles_near : (l : Layout) (d : ℤ) (V : Affine → ℤ) (s : ℤ) (j : ℕ) (rows : List TileRow) (x : List ℤ) (b : ℕ)
    → AreValues l d x V → (pos 1 ≤ℤ s) × (s ≤ℤ pos 1024) → pos 0 <ℤ d → IsWithin b d → j + length rows ≤ width l
    → j + length rows ≤ length x → All (λ r. IsWithin (24576 * b) (V (row_form l r.form))) rows
    → All (λ f. pos 0 ≤ℤ V f) (are_coordinates l s j rows) → AreWithin (25600 * b) (take (length rows) (drop j x))
tiles_near l d V s j [] x b v bounds positive h inside long near a = All-nil (IsWithin (25600 * b))
tiles_near l d V s j (r ∷ rs) x b v bounds positive h inside long near a =
    let P : Affine → Type 0 = λ f. pos 0 ≤ℤ V f in
    let N : TileRow → Type 0 = λ q. IsWithin (24576 * b) (V (row_form l q.form)) in
    let f = row_form l r.form in
    let rest = are_coordinates l s (suc j) rs in
    let t = get_or x j (pos 0) in
    let low = All-head P (tile_begins l s j f) (tile_ends l s j f ∷ rest) a in
    let behind = All-tail P (tile_begins l s j f) (tile_ends l s j f ∷ rest) a in
    let high = All-head P (tile_ends l s j f) rest behind in
    let below = subst (λ z. pos 0 ≤ℤ z) (begins-value l d x V s j f v (omega arith)) low in
    let above = subst (λ z. pos 0 ≤ℤ z) (ends-value l d x V s j f v (omega arith)) high in
    let own = coordinate_near s (V f) t d (24576 * b) bounds positive (All-head N r rs near) below above in
    let more = tiles_near l d V s (suc j) rs x b v bounds positive h (omega arith) (omega arith) (All-tail N r rs near)
    (All-tail P (tile_ends l s j f) rest behind) in
    subst (AreWithin (25600 * b)) (sym (next_place x j (length rs) (omega arith)))
    (All-cons (IsWithin (25600 * b)) t (take (length rs) (drop (suc j) x)) (omega (arith, own, h)) more)

-- the wave sum of at most 5 coordinates
wave_near : (l : Layout) (b : ℕ) (d : ℤ) (rows : List TileRow) (fs bs rest : List ℤ) (j : ℕ) → length fs ≡ j
    → length bs ≡ length rows → length rows ≤ 5 → AreWithin (25600 * b) bs
    → IsWithin (128000 * b) (value_over (carried_form l j rows) d (fs ++ (bs ++ rest)))
wave_near l b d rows fs bs rest j front many few near =
    let c = length-carried rows in
    let e = middle j (width l - (j + length rows)) (carried rows) fs bs rest front (omega (arith, c, many)) in
    let none = mul_zero_left d in
    let v = dot_within (25600 * b) (carried rows) bs near in
    let picked = size-carried rows in
    let same : 25600 * b ≤ 25600 * b = omega arith in
    let most : size (carried rows) * (25600 * b) ≤ 5 * (25600 * b) = mul-le-mul (omega (arith, picked, few)) same in
    let whole : value_over (carried_form l j rows) d (fs ++ (bs ++ rest)) ≡ dot (carried rows) bs =
    omega (arith, ints) in
    subst (IsWithin (128000 * b)) (sym whole) (omega (arith, v, most))

zeros_near : (k n : ℕ) → AreWithin k (zeros n)
zeros_near k zero = All-nil (IsWithin k)
zeros_near k (suc n) = All-cons (IsWithin k) (pos 0) (zeros n) (omega arith) (zeros_near k n)

-- what is known of a point over d in parts, with turns within b
record Near (l : Layout) (b : ℕ) (d : ℤ) (s : Items) (hs bs cs ts zs ps : List ℤ) : Type 0 where
  pub parts : Parts l s hs bs cs ts zs ps
  pub modest : AreModest l.turns s
  pub few : l.turns ≤ 5
  pub positive : pos 0 <ℤ d
  pub denominator : IsWithin b d
  pub turns : AreWithin b ts

abbrev value_at : ℤ → List ℤ → Affine → ℤ
value_at d x f = value_over f d x

leads_near : (l : Layout) (b : ℕ) (d : ℤ) (x : List ℤ) (ks : List ℕ) → IsWithin b d → All (λ k. k < 32) ks
    → All (λ f. IsWithin (24576 * b) (value_at d x f)) (map (λ k. number_form l (pos k)) ks)
leads_near l b d x ks h low =
    let N : Affine → Type 0 = λ f. IsWithin (24576 * b) (value_at d x f) in
    All-map N (λ k. number_form l (pos k)) ks
    (All-weaker (λ k. k < 32) (λ k. N (number_form l (pos k))) (λ k g. number_near l b d k x g h) ks low)

rows_near : (l : Layout) (b : ℕ) (d : ℤ) (s : Items) (hs bs cs ts zs ps : List ℤ) → Near l b d s hs bs cs ts zs ps
    → All (λ r. IsWithin (24576 * b) (value_at d (point hs bs cs ts zs ps) (row_form l r.form))) s.band
rows_near l b d s hs bs cs ts zs ps n =
    let front = front_size l s hs bs cs ts zs ps n.parts in
    All-weaker (λ r. FitsTurns l.turns r.form)
    (λ r. IsWithin (24576 * b) (value_at d (point hs bs cs ts zs ps) (row_form l r.form)))
    (λ r fits. row_near l b d r.form (hs ++ (bs ++ cs)) ts (zs ++ ps) front n.parts.turns n.few fits n.denominator
    n.turns) s.band n.modest.fit.band

items_near : (l : Layout) (b : ℕ) (d : ℤ) (s : Items) (hs bs cs ts zs ps : List ℤ) → Near l b d s hs bs cs ts zs ps
    → All (λ f. IsWithin (24576 * b) (value_at d (point hs bs cs ts zs ps) f)) (forms_of_items l s)
items_near l b d s hs bs cs ts zs ps n =
    let x = point hs bs cs ts zs ps in
    let N : Affine → Type 0 = λ f. IsWithin (24576 * b) (value_at d x f) in
    let front = front_size l s hs bs cs ts zs ps n.parts in
    let first = map (λ (k : ℕ). number_form l (pos k)) s.leading in
    let second = map (λ (r : TileRow). row_form l r.form) s.band in
    let third = map (item_form l) s.behind in
    let own : (i : Item) → FitsItem l.turns i × IsLow 32 i → N (item_form l i) =
    λ i both. item_near l b d i (hs ++ (bs ++ cs)) ts (zs ++ ps) front n.parts.turns n.few both.0 both.1 n.denominator
    n.turns in
    let both : All (λ i. FitsItem l.turns i × IsLow 32 i) s.behind =
    λ k e lt. (n.modest.fit.behind k e lt, n.modest.low k e lt) in
    All-append N first (second ++ third) (leads_near l b d x s.leading n.denominator n.modest.leading)
    (All-append N second third
    (All-map N (λ r. row_form l r.form) s.band (rows_near l b d s hs bs cs ts zs ps n))
    (All-map N (item_form l) s.behind
    (All-weaker (λ i. FitsItem l.turns i × IsLow 32 i) (λ i. N (item_form l i)) own s.behind both)))

coordinates_near : (l : Layout) (b : ℕ) (d z : ℤ) (s : Items) (hs bs cs ts zs ps : List ℤ)
    → Near l b d s hs bs cs ts zs ps → (pos 1 ≤ℤ z) × (z ≤ℤ pos 1024)
    → All (λ f. pos 0 ≤ℤ value_at d (point hs bs cs ts zs ps) f) (are_coordinates l z (length s.leading + 1) s.band)
    → AreWithin (25600 * b) bs
coordinates_near l b d z s hs bs cs ts zs ps n bounds a =
    let x = point hs bs cs ts zs ps in
    let r = ts ++ (zs ++ ps) in
    let j = length s.leading + 1 in
    let size_x = point_size l s hs bs cs ts zs ps n.parts in
    let f = n.parts.front in
    let t = tiles_near l d (value_at d x) z j s.band x b (fraction_values l d x) bounds n.positive n.denominator
    (omega arith) (omega arith) (rows_near l b d s hs bs cs ts zs ps n) a in
    subst (AreWithin (25600 * b))
    (segment hs bs (cs ++ r) x j (length s.band) (at_tiles hs bs cs r) n.parts.waves n.parts.tiles) t

waves_near : (l : Layout) (b : ℕ) (d : ℤ) (s : Items) (hs bs cs ts zs ps : List ℤ) → Near l b d s hs bs cs ts zs ps
    → AreWithin (25600 * b) bs
    → All (λ f. IsWithin (128000 * b) (value_at d (point hs bs cs ts zs ps) f)) (wave_forms l s)
waves_near l b d s hs bs cs ts zs ps n near =
    let x = point hs bs cs ts zs ps in
    let r = ts ++ (zs ++ ps) in
    let j = length s.leading + 1 in
    let N : Affine → Type 0 = λ f. IsWithin (128000 * b) (value_at d x f) in
    let leads = map (λ (k : ℕ). number_form l (pos k)) s.leading in
    let sum = carried_form l j s.band in
    let own = wave_near l b d s.band hs bs (cs ++ r) j n.parts.waves n.parts.tiles n.modest.few near in
    let here = subst (λ y. IsWithin (128000 * b) (value_at d y sum)) (sym (at_tiles hs bs cs r)) own in
    All-append N leads (sum ∷ [])
    (All-weaker (λ f. IsWithin (24576 * b) (value_at d x f)) N (λ f h. omega arith) leads
    (leads_near l b d x s.leading n.denominator n.modest.leading))
    (All-cons N sum [] here (All-nil N))

-- all dimensions lie within 2^18 b
point_near : (l : Layout) (b : ℕ) (d z : ℤ) (m : Modelled) (s : Items) (hs bs cs ts zs ps : List ℤ)
    → Near l b d s hs bs cs ts zs ps → (pos 1 ≤ℤ z) × (z ≤ℤ pos 1024)
    → Tells l (value_at d (point hs bs cs ts zs ps)) z m s hs cs zs
    → AreWithin (2 ^ 18 * b) ((hs ++ (bs ++ cs)) ++ (ts ++ zs))
point_near l b d z m s hs bs cs ts zs ps n bounds told =
    let k = 2 ^ 18 * b in
    let V = value_at d (point hs bs cs ts zs ps) in
    let tiles = coordinates_near l b d z s hs bs cs ts zs ps n bounds told.tiles in
    let waves = subst (AreWithin (128000 * b)) (sym told.waves)
    (All-map (IsWithin (128000 * b)) V (wave_forms l s) (waves_near l b d s hs bs cs ts zs ps n tiles)) in
    let items = subst (AreWithin (24576 * b)) (sym told.items)
    (All-map (IsWithin (24576 * b)) V (forms_of_items l s) (items_near l b d s hs bs cs ts zs ps n)) in
    let none = subst (AreWithin k) (sym told.missing) (zeros_near k (length zs)) in
    All-append (IsWithin k) (hs ++ (bs ++ cs)) (ts ++ zs)
    (All-append (IsWithin k) hs (bs ++ cs) (are_within_more (128000 * b) k hs (omega arith) waves)
    (All-append (IsWithin k) bs cs (are_within_more (25600 * b) k bs (omega arith) tiles)
    (are_within_more (24576 * b) k cs (omega arith) items)))
    (All-append (IsWithin k) ts zs (are_within_more b k ts (omega arith) n.turns) none)

-- the turns of a domain lie within 2^46 over fractions
abbrev pub HasNearTurns : Modelled → Type 0
HasNearTurns m =
    (d : ℤ) (ts ps : List ℤ) → pos 0 <ℤ d → length ts ≡ m.domain.dimensions → length ps ≡ m.domain.parameters
    → AreInRangeOver d ps → HoldsOver m.domain.equalities m.domain.rows d (ts ++ ps)
    → All (λ x. unsigned_abs x ≤ 2 ^ 46 * unsigned_abs d) ts

pub set_bounded : (l : Layout) (z : ℤ) (m : Modelled) (s : Items) → (pos 1 ≤ℤ z) × (z ≤ℤ pos 1024)
    → l.front ≡ front_of s → l.turns ≡ m.domain.dimensions → l.parameters ≡ m.domain.parameters → l.turns ≤ 5
    → AreModest l.turns s → HasNearTurns m → IsBounded (points_of l z m s)
set_bounded l z m s bounds front turns parameters few modest near d xs ps positive many count range holds =
    let p = parted l s xs ps many count front in
    let b = 2 ^ 46 * unsigned_abs d in
    let x = point p.hs p.bs p.cs p.ts p.zs ps in
    let fs = p.hs ++ (p.bs ++ p.cs) in
    let place : xs ++ ps ≡ x = ap (λ (ys : List ℤ). ys ++ ps) p.whole ∙ at_tiles fs p.ts p.zs ps in
    let there = subst (HoldsOver (points_of l z m s).equalities (points_of l z m s).rows d) place holds in
    let V = value_at d x in
    let W = value_at d (p.ts ++ ps) in
    let told = tells l d V z m s p.hs p.bs p.cs p.ts p.zs ps p.parts (fraction_values l d x) there.0 there.1 in
    let size_f = front_size l s p.hs p.bs p.cs p.ts p.zs ps p.parts in
    let own : (f : Affine) → V (domain_form l f) ≡ W f =
    λ f. domain-value l (scaled d f) fs p.ts p.zs ps size_f p.parts.turns p.parts.missing in
    let own_turns = near d p.ts ps positive (p.parts.turns ∙ turns) (count ∙ parameters) range (
      domain_from l (λ v. v ≡ pos 0) V W own m.domain.equalities told.equalities,
      domain_from l (λ v. pos 0 ≤ℤ v) V W own m.domain.rows told.rows,
    ) in
    let n : Near l b d s p.hs p.bs p.cs p.ts p.zs ps = record {
      parts = p.parts;
      modest = modest;
      few = few;
      positive = positive;
      denominator = omega arith;
      turns = own_turns;
    } in
    subst (AreWithin (2 ^ 64 * unsigned_abs d)) (sym p.whole)
    (are_within_more (2 ^ 18 * b) (2 ^ 64 * unsigned_abs d) (fs ++ (p.ts ++ p.zs)) (omega arith)
    (point_near l b d z m s p.hs p.bs p.cs p.ts p.zs ps n bounds told))
