-- The points of a statement's scan set against the instances of the walk.
use Rattle.scop_syntax.proofs.Common.{◌≡◌, ℕ, ◌+◌, ◌-◌, ◌≤◌, Bool, true, false, ℤ, pos, List, [], ◌∷◌, ◌++◌, refl, sym}
use Rattle.scop_syntax.proofs.Common.{◌∙◌, ap, ap₂, subst, arith, length, map, take, drop, ◌≤ℤ◌, ◌<ℤ◌, not}
use Rattle.scop_syntax.proofs.Common.{if◌then◌else◌, ints, length-map, length-drop, length-take-le, take-append-drop}
use Rattle.scop_syntax.proofs.Common.{All-weaker, value_of, floor, zeros, NotNegative, length-zeros, floor_is}
use Rattle.scop_syntax.proofs.Common.{not_negative_all, mul_zero_left, In}
use Rattle.std.proofs.lemmas.List.{append_assoc, length-append}
use Rattle.whole_numbers.proofs.Floors.{floor_greatest}
use Rattle.whole_numbers.proofs.Lists.{dot_not_negative}
use Rattle.integer_sets.specs.Points.{Satisfies}
use Rattle.scop_syntax.proofs.Members.{place_of as place_in}
use Rattle.stmt_graph.proofs.Reachability.{in_all}
use Rattle.iteration_domains.specs.Model.{Modelled, KernelModel}
use Rattle.iteration_domains.specs.Sizes.{IsKernelModel}
use Rattle.loop_tree.specs.Tiling.{TileRow, Item, row, scalar as number, Items, item_values, item_value, coordinates}
use Rattle.loop_tree.specs.Tiling.{wave_sum}
use Rattle.schedule_rows.specs.Items.{Marked, Block, scalar, band, part_of}
use Rattle.schedule_rows.specs.Posed.{loops_of}
use Rattle.schedule_rows.specs.Schedule.{loops_in}
use Rattle.schedule_rows.specs.Sized.{IsSmall, AreSizedRows, AreSized}
use Rattle.schedule_rows.proofs.ModelLoops.{loops_at}
use Rattle.tile_skew.specs.Places.{before_iterators, place_of}
use Rattle.tile_skew.specs.declared.layout.Layout.{Layout}
use Rattle.tile_skew.specs.ScanSets.{count_of, front_of, points_of}
use Rattle.tile_skew.specs.Tilings.{form_at, rows_at, row_items, block_items, first_band_at, behind_at, statement_items}
use Rattle.tile_skew.specs.steps.Sizes.{AreRowsOver, AreItemsOver, AreOver}
use Rattle.tile_skew.proofs.Points.{Parts, Says, point, point_from, point_to, at_tiles}

-- a list in two parts
cut : (n : ℕ) (xs : List ℤ) → n ≤ length xs
    → (length (take n xs) ≡ n) × (length (drop n xs) + n ≡ length xs) × (xs ≡ take n xs ++ drop n xs)
cut n xs h =
    let d = length-drop n xs in
    (length-take-le n xs h, omega arith, sym (take-append-drop n xs))

-- a point of a scan set in its parts
pub record Parted (l : Layout) (s : Items) (xs ps : List ℤ) : Type 0 where
  pub hs : List ℤ
  pub bs : List ℤ
  pub cs : List ℤ
  pub ts : List ℤ
  pub zs : List ℤ
  pub parts : Parts l s hs bs cs ts zs ps
  pub whole : xs ≡ (hs ++ (bs ++ cs)) ++ (ts ++ zs)

pub parted : (l : Layout) (s : Items) (xs ps : List ℤ) → length xs ≡ l.front + (l.turns + l.missing)
    → length ps ≡ l.parameters → l.front ≡ front_of s → Parted l s xs ps
parted l s xs ps h k f =
    let a = cut (length s.leading + 1) xs (omega arith) in
    let r1 = drop (length s.leading + 1) xs in
    let a1 = a.1 in
    let b = cut (length s.band) r1 (omega arith) in
    let r2 = drop (length s.band) r1 in
    let b1 = b.1 in
    let c = cut (count_of s) r2 (omega arith) in
    let r3 = drop (count_of s) r2 in
    let c1 = c.1 in
    let d = cut l.turns r3 (omega arith) in
    let d1 = d.1 in
    let hs = take (length s.leading + 1) xs in
    let bs = take (length s.band) r1 in
    let cs = take (count_of s) r2 in
    let ts = take l.turns r3 in
    let zs = drop l.turns r3 in
    record {
      hs = hs;
      bs = bs;
      cs = cs;
      ts = ts;
      zs = zs;
      parts = record {
        waves = a.0;
        tiles = b.0;
        items = c.0;
        turns = d.0;
        missing = omega arith;
        parameters = k;
        front = f;
      };
      whole = a.2
          ∙ (ap (λ (ys : List ℤ). hs ++ ys) (b.2 ∙ ap (λ (ys : List ℤ). bs ++ ys) (c.2
          ∙ ap (λ (ys : List ℤ). cs ++ ys) d.2))
          ∙ (ap (λ (ys : List ℤ). hs ++ ys) (sym (append_assoc bs cs (ts ++ zs)))
          ∙ sym (append_assoc hs (bs ++ cs) (ts ++ zs))));
    }

-- the place that is told part by part
told : (size : ℤ) (s : Items) (ts : List ℤ)
    → (map pos s.leading ++ wave_sum size s.band ts ∷ []) ++ (coordinates size s.band ts ++ item_values s ts)
    ≡ before_iterators size s ts
told size s ts =
    append_assoc (map pos s.leading) (wave_sum size s.band ts ∷ []) (coordinates size s.band ts ++ item_values s ts)

-- a point is a place
pub point_place : (l : Layout) (size : ℤ) (n : ℕ) (m : Modelled) (s : Items) (xs ps : List ℤ) (p : Parted l s xs ps)
    → l.missing ≡ n - length p.ts → Says size m s p.hs p.bs p.cs p.ts p.zs ps → xs ≡ place_of size n s p.ts
point_place l size n m s xs ps p e says =
    let last : p.zs ≡ zeros (n - length p.ts) = says.missing ∙ ap zeros (p.parts.missing ∙ e) in
    p.whole
    ∙ ap₂ (λ (us vs : List ℤ). us ++ vs)
    (ap₂ (λ (us vs : List ℤ). us ++ vs) says.waves (ap₂ (λ (us vs : List ℤ). us ++ vs) says.tiles says.items)
    ∙ told size s p.ts)
    (ap (λ (us : List ℤ). p.ts ++ us) last)

pub from_point : (l : Layout) (size : ℤ) (n : ℕ) (m : Modelled) (s : Items) (xs ps : List ℤ) → pos 0 <ℤ size
    → (p : Parted l s xs ps) → AreOver (length p.ts) s → l.missing ≡ n - length p.ts
    → Satisfies (points_of l size m s) (xs ++ ps)
    → Satisfies m.domain (p.ts ++ ps) × (xs ≡ place_of size n s p.ts)
from_point l size n m s xs ps h p over e holds =
    let place : xs ++ ps ≡ point p.hs p.bs p.cs p.ts p.zs ps =
    ap (λ (ys : List ℤ). ys ++ ps) p.whole ∙ at_tiles (p.hs ++ (p.bs ++ p.cs)) p.ts p.zs ps in
    let says = point_from l size m s p.hs p.bs p.cs p.ts p.zs ps h p.parts over
    (subst (Satisfies (points_of l size m s)) place holds) in
    (says.domain, point_place l size n m s xs ps p e says)

-- a place is a point
pub to_point : (l : Layout) (size : ℤ) (n : ℕ) (m : Modelled) (s : Items) (ts ps : List ℤ) → pos 0 <ℤ size
    → length ts ≡ l.turns → length ps ≡ l.parameters → l.front ≡ front_of s → l.missing ≡ n - length ts
    → AreOver (length ts) s → pos 0 ≤ℤ wave_sum size s.band ts → Satisfies m.domain (ts ++ ps)
    → Satisfies (points_of l size m s) (place_of size n s ts ++ ps)
to_point l size n m s ts ps h t p f e over up holds =
    let hs = map pos s.leading ++ wave_sum size s.band ts ∷ [] in
    let bs = coordinates size s.band ts in
    let cs = item_values s ts in
    let zs = zeros (n - length ts) in
    let first = map (λ (r : TileRow). value_of r.form ts) s.band in
    let second = map (item_value ts) s.behind in
    let la = length-append (map pos s.leading) (wave_sum size s.band ts ∷ []) in
    let lm = length-map s.leading pos in
    let lb = length-map s.band (λ (r : TileRow). floor (value_of r.form ts) size) in
    let lc = length-append (map pos s.leading) (first ++ second) in
    let ld = length-append first second in
    let le = length-map s.band (λ (r : TileRow). value_of r.form ts) in
    let lf = length-map s.behind (item_value ts) in
    let lz = length-zeros (n - length ts) in
    let parts : Parts l s hs bs cs ts zs ps = record {
      waves = omega arith;
      tiles = lb;
      items = omega arith;
      turns = t;
      missing = lz ∙ sym e;
      parameters = p;
      front = f;
    } in
    let says : Says size m s hs bs cs ts zs ps = record {
      domain = holds;
      waves = refl;
      tiles = refl;
      items = refl;
      missing = ap zeros (sym lz);
    } in
    let place : place_of size n s ts ++ ps ≡ point hs bs cs ts zs ps =
    at_tiles (before_iterators size s ts) ts zs ps
    ∙ ap (λ (us : List ℤ). us ++ (ts ++ (zs ++ ps))) (sym (told size s ts)) in
    subst (Satisfies (points_of l size m s)) (sym place) (point_to l size m s hs bs cs ts zs ps h parts over up says)

-- the rows of sized blocks have a coefficient for each loop
rows_over : (loops : List ℕ) (ms : List Marked) (k : ℕ) → AreSizedRows loops ms
    → AreRowsOver (loops_of loops k) (rows_at ms k)
rows_over loops [] k a = tt
rows_over loops (m ∷ ms) k a = (a.0.sized k, rows_over loops ms k a.1)

over_append : (n : ℕ) (xs ys : List Item) → AreItemsOver n xs → AreItemsOver n ys → AreItemsOver n (xs ++ ys)
over_append n [] ys h k = k
over_append n (row f ∷ xs) ys h k = (h.0, over_append n xs ys h.1 k)
over_append n (number z ∷ xs) ys h k = (tt, over_append n xs ys h.1 k)

row_items_over : (loops : List ℕ) (ms : List Marked) (k : ℕ) → AreSizedRows loops ms
    → AreItemsOver (loops_of loops k) (row_items ms k)
row_items_over loops [] k a = tt
row_items_over loops (m ∷ ms) k a = (a.0.sized k, row_items_over loops ms k a.1)

items_over : (loops : List ℕ) (bs : List Block) (k : ℕ) → AreSized loops bs
    → AreItemsOver (loops_of loops k) (block_items bs k)
items_over loops [] k a = tt
items_over loops (scalar numbers ∷ bs) k a = (tt, items_over loops bs k a.1)
items_over loops (band [] ∷ bs) k a = absurd a.0
items_over loops (band (m ∷ ms) ∷ bs) k a =
    over_append (loops_of loops k) (row_items (m ∷ ms) k) (block_items bs k)
    (row_items_over loops (m ∷ ms) k a.0) (items_over loops bs k a.1)

first_over : (loops : List ℕ) (bs : List Block) (k : ℕ) → AreSized loops bs
    → AreRowsOver (loops_of loops k) (first_band_at bs k)
first_over loops [] k a = tt
first_over loops (scalar numbers ∷ bs) k a = first_over loops bs k a.1
first_over loops (band [] ∷ bs) k a = absurd a.0
first_over loops (band (m ∷ ms) ∷ bs) k a = rows_over loops (m ∷ ms) k a.0

behind_over : (loops : List ℕ) (bs : List Block) (k : ℕ) → AreSized loops bs
    → AreItemsOver (loops_of loops k) (behind_at bs k)
behind_over loops [] k a = tt
behind_over loops (scalar numbers ∷ bs) k a = behind_over loops bs k a.1
behind_over loops (band [] ∷ bs) k a = absurd a.0
behind_over loops (band (m ∷ ms) ∷ bs) k a = items_over loops bs k a.1

pub statement_over : (loops : List ℕ) (bs : List Block) (k : ℕ) → AreSized loops bs
    → AreOver (loops_of loops k) (statement_items bs k)
statement_over loops bs k a = record { band = first_over loops bs k a; behind = behind_over loops bs k a }

-- rows of sized blocks have no negative wave sum at turns from 0 on
band_from_0 : (loops : List ℕ) (size : ℤ) (ms : List Marked) (k : ℕ) (ts : List ℤ) → pos 0 <ℤ size → NotNegative ts
    → AreSizedRows loops ms → pos 0 ≤ℤ wave_sum size (rows_at ms k) ts
band_from_0 loops size [] k ts h up a = omega (arith, ints)
band_from_0 loops size (m ∷ ms) k ts h up a =
    let cs = (part_of m.row k).coefficients in
    let r = value_of (form_at m.row k) ts in
    let small = All-weaker IsSmall (λ c. pos 0 ≤ℤ c) (λ c s. s.0) cs (a.0.coefficients k) in
    let own = dot_not_negative cs ts ((not_negative_all cs).1 small) up in
    let shift = (a.0.shift k).0 in
    let none = mul_zero_left size in
    let one = floor_greatest r size (floor r size) (pos 0) h (floor_is r size h) (omega (arith, ints)) in
    let picked = chosen (not m.parallel) (floor r size) one in
    let more = band_from_0 loops size ms k ts h up a.1 in
    omega (arith, ints)
  where
    chosen : (b : Bool) (z : ℤ) → pos 0 ≤ℤ z → pos 0 ≤ℤ (if b then z else pos 0)
    chosen true z h = h
    chosen false z h = omega (arith, ints)

pub wave_from_0 : (loops : List ℕ) (size : ℤ) (bs : List Block) (k : ℕ) (ts : List ℤ) → pos 0 <ℤ size
    → NotNegative ts → AreSized loops bs → pos 0 ≤ℤ wave_sum size (first_band_at bs k) ts
wave_from_0 loops size [] k ts h up a = omega (arith, ints)
wave_from_0 loops size (scalar numbers ∷ bs) k ts h up a = wave_from_0 loops size bs k ts h up a.1
wave_from_0 loops size (band [] ∷ bs) k ts h up a = absurd a.0
wave_from_0 loops size (band (m ∷ ms) ∷ bs) k ts h up a = band_from_0 loops size (m ∷ ms) k ts h up a.0

-- a statement of a model has its number of loops in the list of them
pub loops_are : (model : KernelModel) (s : Modelled) → IsKernelModel model → In s model.statements
    → loops_of (loops_in model) s.number ≡ s.domain.dimensions
loops_are model s is i =
    let p = place_in model.statements s i in
    ap (loops_of (loops_in model)) (is.places p.0 s p.1) ∙ (loops_at model.statements p.0 s p.1).1

pub parameters_are : (model : KernelModel) (s : Modelled) → IsKernelModel model → In s model.statements
    → s.domain.parameters ≡ model.parameters
parameters_are model s is i =
    in_all (λ (z : Modelled). z.domain.parameters ≡ model.parameters) s model.statements is.domains i
