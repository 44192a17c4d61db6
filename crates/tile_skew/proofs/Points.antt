-- The whole points of a scan set are the places of its statement's instances, part by part (`tells`).
use Rattle.scop_syntax.proofs.Common.{◌≡◌, ℕ, zero, suc, ◌+◌, ◌≤◌, ℤ, pos, List, [], ◌∷◌, ◌++◌, refl, sym, ◌∙◌, ap, ap₂}
use Rattle.scop_syntax.proofs.Common.{subst, arith, length, map, take, drop, get_or, ◌≤ℤ◌, ◌<ℤ◌, All, length-map}
use Rattle.scop_syntax.proofs.Common.{map-append, All-nil, All-cons, All-head, All-tail, All-append, Affine, value_of}
use Rattle.scop_syntax.proofs.Common.{values_of, zeros, all_front, all_back}
use Rattle.std.proofs.lemmas.List.{append_assoc, length-append}
use Rattle.integer_sets.specs.Points.{Satisfies}
use Rattle.iteration_domains.specs.Model.{Modelled}
use Rattle.iteration_domains.specs.Rows.{variable, variables}
use Rattle.iteration_domains.proofs.RowLaws.{value_of-variable}
use Rattle.loop_tree.specs.Tiling.{TileRow, Items, item_values, coordinates, wave_sum}
use Rattle.schedule_rows.proofs.Determinism.{same_head, same_tail}
use Rattle.tile_skew.specs.declared.layout.Layout.{Layout}
use Rattle.tile_skew.specs.ScanSets.{count_of, front_of, width, domain_form, row_form, number_form}
use Rattle.tile_skew.specs.ScanSets.{item_form}
use Rattle.tile_skew.specs.ScanSets.{carried_form}
use Rattle.tile_skew.specs.ScanSets.{are_coordinates, forms_of_items, wave_equalities, item_equalities}
use Rattle.tile_skew.specs.ScanSets.{missing_equalities, points_of}
use Rattle.tile_skew.specs.steps.Sizes.{AreOver}
use Rattle.tile_skew.proofs.SetValues.{domain-value, carried-value, segment, values_from, values_to, rows_agree}
use Rattle.tile_skew.proofs.SetValues.{AreValues, next_place, whole_values}
use Rattle.tile_skew.proofs.SetValues.{coordinates_from, coordinates_to, numbers-values, items-values}

-- a point in parts: leading scalars and wave sum, coordinates, items, turns, missing iterators, parameters
pub record Parts (l : Layout) (s : Items) (hs bs cs ts zs ps : List ℤ) : Type 0 where
  pub waves : length hs ≡ length s.leading + 1
  pub tiles : length bs ≡ length s.band
  pub items : length cs ≡ count_of s
  pub turns : length ts ≡ l.turns
  pub missing : length zs ≡ l.missing
  pub parameters : length ps ≡ l.parameters
  pub front : l.front ≡ front_of s

abbrev pub point : List ℤ → List ℤ → List ℤ → List ℤ → List ℤ → List ℤ → List ℤ
point hs bs cs ts zs ps = (hs ++ (bs ++ cs)) ++ (ts ++ (zs ++ ps))

pub front_size : (l : Layout) (s : Items) (hs bs cs ts zs ps : List ℤ) → Parts l s hs bs cs ts zs ps
    → length (hs ++ (bs ++ cs)) ≡ l.front
front_size l s hs bs cs ts zs ps p =
    let a = length-append hs (bs ++ cs) in
    let b = length-append bs cs in
    let w = p.waves in
    let t = p.tiles in
    let i = p.items in
    let f = p.front in
    omega arith

pub point_size : (l : Layout) (s : Items) (hs bs cs ts zs ps : List ℤ) → Parts l s hs bs cs ts zs ps
    → length (point hs bs cs ts zs ps) ≡ width l
point_size l s hs bs cs ts zs ps p =
    let f = front_size l s hs bs cs ts zs ps p in
    let a = length-append (hs ++ (bs ++ cs)) (ts ++ (zs ++ ps)) in
    let b = length-append ts (zs ++ ps) in
    let c = length-append zs ps in
    let t = p.turns in
    let m = p.missing in
    let q = p.parameters in
    omega arith

-- the domain's forms have the values at the point that W gives them over turns and parameters
pub domain_from : (l : Layout) (P : ℤ → Type 0) (V W : Affine → ℤ) → ((f : Affine) → V (domain_form l f) ≡ W f)
    → (forms : List Affine) → All (λ f. P (V f)) (map (domain_form l) forms) → All (λ f. P (W f)) forms
domain_from l P V W e [] a = All-nil (λ f. P (W f))
domain_from l P V W e (f ∷ forms) a =
    let Q : Affine → Type 0 = λ g. P (V g) in
    All-cons (λ g. P (W g)) f forms
    (subst P (e f) (All-head Q (domain_form l f) (map (domain_form l) forms) a))
    (domain_from l P V W e forms (All-tail Q (domain_form l f) (map (domain_form l) forms) a))

domain_to : (l : Layout) (P : ℤ → Type 0) (forms : List Affine) (fs ts zs ps : List ℤ) → length fs ≡ l.front
    → length ts ≡ l.turns → length zs ≡ l.missing → All (λ f. P (value_of f (ts ++ ps))) forms
    → All (λ f. P (value_of f (fs ++ (ts ++ (zs ++ ps))))) (map (domain_form l) forms)
domain_to l P [] fs ts zs ps h k m a = All-nil (λ f. P (value_of f (fs ++ (ts ++ (zs ++ ps)))))
domain_to l P (f ∷ forms) fs ts zs ps h k m a =
    let Q : Affine → Type 0 = λ g. P (value_of g (ts ++ ps)) in
    All-cons (λ g. P (value_of g (fs ++ (ts ++ (zs ++ ps))))) (domain_form l f) (map (domain_form l) forms)
    (subst P (sym (domain-value l f fs ts zs ps h k m)) (All-head Q f forms a))
    (domain_to l P forms fs ts zs ps h k m (All-tail Q f forms a))

-- variables from j on that are 0
zero_from : (l : Layout) (d : ℤ) (V : Affine → ℤ) (j m : ℕ) (x : List ℤ) → AreValues l d x V → j + m ≤ width l
    → j + m ≤ length x → All (λ f. V f ≡ pos 0) (variables (width l) j m) → take m (drop j x) ≡ zeros m
zero_from l d V j zero x v h k a = refl
zero_from l d V j (suc m) x v h k a =
    let P : Affine → Type 0 = λ f. V f ≡ pos 0 in
    let n = width l in
    let e : suc j ≡ j + 1 = omega arith in
    let head = sym (v.variables j (omega arith)) ∙ All-head P (variable n j) (variables n (j + 1) m) a in
    next_place x j m (omega arith)
    ∙ ap₂ (λ (z : ℤ) (zs : List ℤ). z ∷ zs) head
    (ap (λ (i : ℕ). take m (drop i x)) e
    ∙ zero_from l d V (j + 1) m x v (omega arith) (omega arith)
    (All-tail P (variable n j) (variables n (j + 1) m) a))

zero_to : (n j m : ℕ) (x : List ℤ) → j + m ≤ n → j + m ≤ length x → take m (drop j x) ≡ zeros m
    → All (λ f. value_of f x ≡ pos 0) (variables n j m)
zero_to n j zero x h k e = All-nil (λ f. value_of f x ≡ pos 0)
zero_to n j (suc m) x h k e =
    let at : suc j ≡ j + 1 = omega arith in
    let both = sym (next_place x j m (omega arith)) ∙ e in
    let head = same_head (get_or x j (pos 0)) (pos 0) (take m (drop (suc j) x)) (zeros m) both in
    let rest = same_tail (get_or x j (pos 0)) (pos 0) (take m (drop (suc j) x)) (zeros m) both in
    All-cons (λ f. value_of f x ≡ pos 0) (variable n j) (variables n (j + 1) m)
    (value_of-variable n j x (omega arith) ∙ head)
    (zero_to n (j + 1) m x (omega arith) (omega arith)
    (subst (λ (i : ℕ). take m (drop i x) ≡ zeros m) at rest))

-- where the parts stand in the point
pub at_tiles : (hs bs cs r : List ℤ) → (hs ++ (bs ++ cs)) ++ r ≡ hs ++ (bs ++ (cs ++ r))
at_tiles hs bs cs r = append_assoc hs (bs ++ cs) r ∙ ap (λ (ys : List ℤ). hs ++ ys) (append_assoc bs cs r)

at_items : (hs bs cs r : List ℤ) → (hs ++ (bs ++ cs)) ++ r ≡ (hs ++ bs) ++ (cs ++ r)
at_items hs bs cs r = at_tiles hs bs cs r ∙ sym (append_assoc hs bs (cs ++ r))

at_missing : (fs ts zs ps : List ℤ) → fs ++ (ts ++ (zs ++ ps)) ≡ (fs ++ ts) ++ (zs ++ ps)
at_missing fs ts zs ps = sym (append_assoc fs ts (zs ++ ps))

-- the values of the leading scalars and of the wave sum, the coordinates being bs
waves_are : (l : Layout) (size : ℤ) (s : Items) (hs bs cs ts zs ps : List ℤ) → Parts l s hs bs cs ts zs ps
    → bs ≡ coordinates size s.band ts
    → values_of (map (λ k. number_form l (pos k)) s.leading ++ carried_form l (length s.leading + 1) s.band ∷ [])
    (point hs bs cs ts zs ps) ≡ map pos s.leading ++ wave_sum size s.band ts ∷ []
waves_are l size s hs bs cs ts zs ps p e =
    let x = point hs bs cs ts zs ps in
    let rest = cs ++ (ts ++ (zs ++ ps)) in
    let numbers = map (λ (k : ℕ). number_form l (pos k)) s.leading in
    let place : x ≡ hs ++ (coordinates size s.band ts ++ rest) =
    at_tiles hs bs cs (ts ++ (zs ++ ps)) ∙ ap (λ (ys : List ℤ). hs ++ (ys ++ rest)) e in
    let sum : value_of (carried_form l (length s.leading + 1) s.band) x ≡ wave_sum size s.band ts =
    ap (value_of (carried_form l (length s.leading + 1) s.band)) place
    ∙ carried-value l size s.band ts hs rest (length s.leading + 1) p.waves in
    map-append (λ (f : Affine). value_of f x) numbers (carried_form l (length s.leading + 1) s.band ∷ [])
    ∙ ap₂ (λ (us : List ℤ) (z : ℤ). us ++ z ∷ []) (numbers-values l s.leading x) sum

abbrev pub wave_forms : Layout → Items → List Affine
wave_forms l s = map (λ k. number_form l (pos k)) s.leading ++ carried_form l (length s.leading + 1) s.band ∷ []

length-wave_forms : (l : Layout) (s : Items) → length (wave_forms l s) ≡ length s.leading + 1
length-wave_forms l s =
    let numbers = map (λ (k : ℕ). number_form l (pos k)) s.leading in
    let a = length-append numbers (carried_form l (length s.leading + 1) s.band ∷ []) in
    let m = length-map s.leading (λ (k : ℕ). number_form l (pos k)) in
    omega arith

length-forms : (l : Layout) (s : Items) → length (forms_of_items l s) ≡ count_of s
length-forms l s =
    let numbers = map (λ (k : ℕ). number_form l (pos k)) s.leading in
    let rows = map (λ (r : TileRow). row_form l r.form) s.band in
    let others = map (item_form l) s.behind in
    let a = length-append numbers (rows ++ others) in
    let b = length-append rows others in
    let m = length-map s.leading (λ (k : ℕ). number_form l (pos k)) in
    let n = length-map s.band (λ (r : TileRow). row_form l r.form) in
    let o = length-map s.behind (item_form l) in
    omega arith

-- what the system says of the parts of a point
pub record Says (size : ℤ) (m : Modelled) (s : Items) (hs bs cs ts zs ps : List ℤ) : Type 0 where
  pub domain : Satisfies m.domain (ts ++ ps)
  pub waves : hs ≡ map pos s.leading ++ wave_sum size s.band ts ∷ []
  pub tiles : bs ≡ coordinates size s.band ts
  pub items : cs ≡ item_values s ts
  pub missing : zs ≡ zeros (length zs)

-- what the system says of the parts of a point x over d at which forms have the values V
pub record Tells (l : Layout) (V : Affine → ℤ) (size : ℤ) (m : Modelled) (s : Items) (hs cs zs : List ℤ) : Type 0 where
  pub equalities : All (λ f. V f ≡ pos 0) (map (domain_form l) m.domain.equalities)
  pub rows : All (λ f. pos 0 ≤ℤ V f) (map (domain_form l) m.domain.rows)
  pub waves : hs ≡ map V (wave_forms l s)
  pub tiles : All (λ f. pos 0 ≤ℤ V f) (are_coordinates l size (length s.leading + 1) s.band)
  pub items : cs ≡ map V (forms_of_items l s)
  pub missing : zs ≡ zeros (length zs)

pub tells : (l : Layout) (d : ℤ) (V : Affine → ℤ) (size : ℤ) (m : Modelled) (s : Items)
    (hs bs cs ts zs ps : List ℤ) → Parts l s hs bs cs ts zs ps → AreValues l d (point hs bs cs ts zs ps) V
    → All (λ f. V f ≡ pos 0) (points_of l size m s).equalities
    → All (λ f. pos 0 ≤ℤ V f) (points_of l size m s).rows → Tells l V size m s hs cs zs
tells l d V size m s hs bs cs ts zs ps p v equal rising =
    let x = point hs bs cs ts zs ps in
    let fs = hs ++ (bs ++ cs) in
    let r = ts ++ (zs ++ ps) in
    let E : Affine → Type 0 = λ f. V f ≡ pos 0 in
    let G : Affine → Type 0 = λ f. pos 0 ≤ℤ V f in
    let size_f = front_size l s hs bs cs ts zs ps p in
    let size_x = point_size l s hs bs cs ts zs ps p in
    let w = p.waves in
    let t = p.tiles in
    let q = p.front in
    let z = p.missing in
    let u = p.turns in
    let lw = length-wave_forms l s in
    let li = length-forms l s in
    let k = length s.leading + (1 + length s.band) in
    let own = map (domain_form l) m.domain.equalities in
    let waves = wave_equalities l s in
    let items = item_equalities l s in
    let missing = missing_equalities l in
    let dimensions = all_back E own (waves ++ (items ++ missing)) equal in
    let behind = all_back E waves (items ++ missing) dimensions in
    let rows = map (domain_form l) m.domain.rows in
    let wave = variable (width l) (length s.leading) in
    let tiles = are_coordinates l size (length s.leading + 1) s.band in
    let place : length (hs ++ bs) ≡ k = length-append hs bs ∙ omega arith in
    let last : length (fs ++ ts) ≡ l.front + l.turns = length-append fs ts ∙ omega arith in
    record {
      equalities = all_front E own (waves ++ (items ++ missing)) equal;
      rows = all_front G rows (wave ∷ tiles) rising;
      waves = sym (segment [] hs ((bs ++ cs) ++ r) x 0 (length (wave_forms l s)) (append_assoc hs (bs ++ cs) r) refl
          (w ∙ sym lw))
          ∙ values_from l d V 0 (wave_forms l s) x v (omega arith) (omega arith)
          (all_front E waves (items ++ missing) dimensions);
      tiles = All-tail G wave tiles (all_back G rows (wave ∷ tiles) rising);
      items = sym (segment (hs ++ bs) cs r x k (length (forms_of_items l s)) (at_items hs bs cs r) place
          (p.items ∙ sym li))
          ∙ values_from l d V k (forms_of_items l s) x v (omega arith) (omega arith)
          (all_front E items missing behind);
      missing = sym (segment (fs ++ ts) zs ps x (l.front + l.turns) l.missing (at_missing fs ts zs ps) last z)
          ∙ (zero_from l d V (l.front + l.turns) l.missing x v (omega arith) (omega arith)
          (all_back E items missing behind) ∙ ap zeros (sym z));
    }

pub point_from : (l : Layout) (size : ℤ) (m : Modelled) (s : Items) (hs bs cs ts zs ps : List ℤ) → pos 0 <ℤ size
    → Parts l s hs bs cs ts zs ps → AreOver (length ts) s → Satisfies (points_of l size m s) (point hs bs cs ts zs ps)
    → Says size m s hs bs cs ts zs ps
point_from l size m s hs bs cs ts zs ps h p over holds =
    let x = point hs bs cs ts zs ps in
    let fs = hs ++ (bs ++ cs) in
    let V : Affine → ℤ = λ f. value_of f x in
    let W : Affine → ℤ = λ f. value_of f (ts ++ ps) in
    let told = tells l (pos 1) V size m s hs bs cs ts zs ps p (whole_values l x) holds.0 holds.1 in
    let size_f = front_size l s hs bs cs ts zs ps p in
    let size_x = point_size l s hs bs cs ts zs ps p in
    let w = p.waves in
    let t = p.tiles in
    let q = p.front in
    let j = length s.leading + 1 in
    let own : (f : Affine) → V (domain_form l f) ≡ W f = λ f. domain-value l f fs ts zs ps size_f p.turns p.missing in
    let agree = rows_agree l s.band fs ts (zs ++ ps) size_f over.band in
    let coordinates_are = coordinates_from l size j s.band x ts h (omega arith) (omega arith) agree told.tiles in
    let bs_are : bs ≡ coordinates size s.band ts =
    sym (segment hs bs (cs ++ (ts ++ (zs ++ ps))) x j (length s.band) (at_tiles hs bs cs (ts ++ (zs ++ ps))) w t)
    ∙ coordinates_are in
    record {
      domain = (
        domain_from l (λ v. v ≡ pos 0) V W own m.domain.equalities told.equalities,
        domain_from l (λ v. pos 0 ≤ℤ v) V W own m.domain.rows told.rows,
      );
      waves = told.waves ∙ waves_are l size s hs bs cs ts zs ps p bs_are;
      tiles = bs_are;
      items = told.items ∙ items-values l s fs ts (zs ++ ps) size_f over;
      missing = told.missing;
    }

-- the value of the wave's dimension
wave_is : (leading : List ℕ) (w : ℤ) (hs rest x : List ℤ) → x ≡ hs ++ rest → hs ≡ map pos leading ++ w ∷ []
    → get_or x (length leading) (pos 0) ≡ w
wave_is leading w hs rest x e is =
    let j = length leading in
    let split = append_assoc (map pos leading) (w ∷ []) rest in
    let place : x ≡ map pos leading ++ (w ∷ [] ++ rest) = e ∙ (ap (λ (ys : List ℤ). ys ++ rest) is ∙ split) in
    let many = length-map leading pos in
    let a = length-append (map pos leading) (w ∷ [] ++ rest) in
    let b = ap length place in
    let there = segment (map pos leading) (w ∷ []) rest x j 1 place many refl in
    same_head (get_or x j (pos 0)) w (take 0 (drop (suc j) x)) [] (sym (next_place x j 0 (omega arith)) ∙ there)

pub point_to : (l : Layout) (size : ℤ) (m : Modelled) (s : Items) (hs bs cs ts zs ps : List ℤ) → pos 0 <ℤ size
    → Parts l s hs bs cs ts zs ps → AreOver (length ts) s → pos 0 ≤ℤ wave_sum size s.band ts
    → Says size m s hs bs cs ts zs ps → Satisfies (points_of l size m s) (point hs bs cs ts zs ps)
point_to l size m s hs bs cs ts zs ps h p over up says =
    let x = point hs bs cs ts zs ps in
    let fs = hs ++ (bs ++ cs) in
    let r = ts ++ (zs ++ ps) in
    let E : Affine → Type 0 = λ f. value_of f x ≡ pos 0 in
    let G : Affine → Type 0 = λ f. pos 0 ≤ℤ value_of f x in
    let size_f = front_size l s hs bs cs ts zs ps p in
    let size_x = point_size l s hs bs cs ts zs ps p in
    let w = p.waves in
    let t = p.tiles in
    let q = p.front in
    let z = p.missing in
    let u = p.turns in
    let lw = length-wave_forms l s in
    let li = length-forms l s in
    let j = length s.leading + 1 in
    let k = length s.leading + (1 + length s.band) in
    let own = map (domain_form l) m.domain.equalities in
    let waves = wave_equalities l s in
    let items = item_equalities l s in
    let missing = missing_equalities l in
    let rows = map (domain_form l) m.domain.rows in
    let wave = variable (width l) (length s.leading) in
    let tiles = are_coordinates l size j s.band in
    let wave_at = value_of-variable (width l) (length s.leading) x (omega arith)
    ∙ wave_is s.leading (wave_sum size s.band ts) hs ((bs ++ cs) ++ r) x (append_assoc hs (bs ++ cs) r) says.waves in
    let agree = rows_agree l s.band fs ts (zs ++ ps) size_f over.band in
    let place : length (hs ++ bs) ≡ k = length-append hs bs ∙ omega arith in
    let last : length (fs ++ ts) ≡ l.front + l.turns = length-append fs ts ∙ omega arith in
    let first = values_to l 0 (wave_forms l s) x (omega arith) (omega arith)
    (segment [] hs ((bs ++ cs) ++ r) x 0 (length (wave_forms l s)) (append_assoc hs (bs ++ cs) r) refl (w ∙ sym lw)
    ∙ (says.waves ∙ sym (waves_are l size s hs bs cs ts zs ps p says.tiles))) in
    let second = values_to l k (forms_of_items l s) x (omega arith) (omega arith)
    (segment (hs ++ bs) cs r x k (length (forms_of_items l s)) (at_items hs bs cs r) place (p.items ∙ sym li)
    ∙ (says.items ∙ sym (items-values l s fs ts (zs ++ ps) size_f over))) in
    let third = zero_to (width l) (l.front + l.turns) l.missing x (omega arith) (omega arith)
    (segment (fs ++ ts) zs ps x (l.front + l.turns) l.missing (at_missing fs ts zs ps) last z
    ∙ (says.missing ∙ ap zeros z)) in
    let fourth = coordinates_to l size j s.band x ts h (omega arith) (omega arith) agree
    (segment hs bs (cs ++ r) x j (length s.band) (at_tiles hs bs cs r) w t ∙ says.tiles) in (
      All-append E own (waves ++ (items ++ missing))
          (domain_to l (λ v. v ≡ pos 0) m.domain.equalities fs ts zs ps size_f u z says.domain.0)
          (All-append E waves (items ++ missing) first (All-append E items missing second third)),
      All-append G rows (wave ∷ tiles)
          (domain_to l (λ v. pos 0 ≤ℤ v) m.domain.rows fs ts zs ps size_f u z says.domain.1)
          (All-cons G wave tiles (subst (λ v. pos 0 ≤ℤ v) (sym wave_at) up) fourth),
    )
