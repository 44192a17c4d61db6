-- The values of a scan set's forms at a point, whole or over a denominator (`AreValues`), and what its equalities and
-- coordinate rows say there.
use Rattle.scop_syntax.proofs.Common.{◌≡◌, ℕ, suc, ◌+◌, ◌-◌, ◌<◌, ◌≤◌, Bool, true, false, ℤ, pos, negsuc, List, [], ◌∷◌}
use Rattle.scop_syntax.proofs.Common.{◌++◌, refl, sym, ◌∙◌, ap, ap₂, subst, arith, length, map, take, drop, get_or}
use Rattle.scop_syntax.proofs.Common.{◌+ℤ◌, ◌-ℤ◌, ◌*ℤ◌, ◌≤ℤ◌, ◌<ℤ◌, neg_ℤ, All, if◌then◌else◌, ⊤, ints, map-append}
use Rattle.scop_syntax.proofs.Common.{length-map, drop_more, drop_at, All-nil, All-cons, All-head, All-tail, Affine}
use Rattle.scop_syntax.proofs.Common.{value_of, values_of, sum_of_forms, multiple_of_form, IsFloor, floor, dot, zeros}
use Rattle.scop_syntax.proofs.Common.{mul_one_left, mul_one_right, mul_neg_left, mul_zero_left, dot-append, dot-zeros}
use Rattle.scop_syntax.proofs.Common.{dot-padded, dot-past, length-zeros, floor_is, floor_unique, value_of-sum}
use Rattle.scop_syntax.proofs.Common.{value_of-multiple}
use Rattle.std.proofs.lemmas.List.{take_at}
use Rattle.iteration_domains.specs.Rows.{variable}
use Rattle.iteration_domains.proofs.RowLaws.{value_of-variable}
use Rattle.conflict_deps.specs.Conflicts.{difference_of_forms, source_form}
use Rattle.conflict_deps.proofs.Orders.{value_of-source, value_of-target}
use Rattle.loop_tree.specs.Tiling.{TileRow, Item, row, scalar, Items, item_value, item_values, coordinates, wave_sum}
use Rattle.schedule_rows.proofs.Determinism.{same_head, same_tail}
use Rattle.tile_skew.specs.declared.layout.Layout.{Layout}
use Rattle.tile_skew.specs.ScanSets.{width, domain_form, row_form, number_form, item_form, carried, carried_form}
use Rattle.tile_skew.specs.ScanSets.{have_values, tile_begins, tile_ends, are_coordinates, forms_of_items}
use Rattle.tile_skew.specs.steps.Sizes.{AreRowsOver, AreItemsOver, AreOver}
use Rattle.tile_skew.proofs.Widths.{length-carried}

-- a form of the domain
pub domain-value : (l : Layout) (f : Affine) (fs ts zs ps : List ℤ) → length fs ≡ l.front → length ts ≡ l.turns
    → length zs ≡ l.missing → value_of (domain_form l f) (fs ++ (ts ++ (zs ++ ps))) ≡ value_of f (ts ++ ps)
domain-value l f fs ts zs ps h k m =
    value_of-target l.front (source_form l.turns l.missing f) fs (ts ++ (zs ++ ps)) h
    ∙ value_of-source l.turns l.missing f ts zs ps k m

-- zeros, coefficients, zeros
pub middle : (j k : ℕ) (cs fs ts rest : List ℤ) → length fs ≡ j → length cs ≤ length ts
    → dot (zeros j ++ (cs ++ zeros k)) (fs ++ (ts ++ rest)) ≡ dot cs ts
middle j k cs fs ts rest h few =
    let front = dot-append (zeros j) (cs ++ zeros k) fs (ts ++ rest) (length-zeros j ∙ sym h) in
    let none = dot-zeros j fs in
    let padded = dot-padded cs k (ts ++ rest) in
    let past = dot-past cs ts rest few in
    omega (arith, ints)

-- a row's form
pub row-value : (l : Layout) (f : Affine) (fs ts rest : List ℤ) → length fs ≡ l.front
    → length f.coefficients ≡ length ts → value_of (row_form l f) (fs ++ (ts ++ rest)) ≡ value_of f ts
row-value l f fs ts rest h few =
    ap (λ (z : ℤ). z +ℤ f.constant)
    (middle l.front (l.missing + l.parameters) f.coefficients fs ts rest h (omega (arith, few)))

-- a number
pub number-value : (l : Layout) (k : ℤ) (x : List ℤ) → value_of (number_form l k) x ≡ k
number-value l k x = let z = dot-zeros (width l) x in omega (arith, ints)

-- values that forms have at a point x over d; at a whole point d is 1
pub record AreValues (l : Layout) (d : ℤ) (x : List ℤ) (V : Affine → ℤ) : Type 0 where
  pub sums : (f g : Affine) → V (sum_of_forms f g) ≡ V f +ℤ V g
  pub multiples : (k : ℤ) (f : Affine) → V (multiple_of_form k f) ≡ k *ℤ V f
  pub variables : (j : ℕ) → j < width l → V (variable (width l) j) ≡ get_or x j (pos 0)
  pub numbers : (k : ℤ) → V (number_form l k) ≡ k *ℤ d

-- those at a whole point
pub whole_values : (l : Layout) (x : List ℤ) → AreValues l (pos 1) x (λ f. value_of f x)
whole_values l x =
    record {
      sums = λ f g. value_of-sum f g x;
      multiples = λ k f. value_of-multiple k f x;
      variables = λ j h. value_of-variable (width l) j x h;
      numbers = λ k. number-value l k x ∙ sym (mul_one_right k);
    }

-- f - g
value-difference : (l : Layout) (d : ℤ) (x : List ℤ) (V : Affine → ℤ) (f g : Affine) → AreValues l d x V
    → V (difference_of_forms f g) ≡ V f -ℤ V g
value-difference l d x V f g a =
    let s = a.sums f (multiple_of_form (negsuc 0) g) in
    let m = a.multiples (negsuc 0) g in
    omega (arith, ints)

-- the rows that carry pick their coordinates
carried-dot : (size : ℤ) (rows : List TileRow) (ts : List ℤ)
    → dot (carried rows) (coordinates size rows ts) ≡ wave_sum size rows ts
carried-dot size [] ts = refl
carried-dot size (r ∷ rs) ts =
    ap₂ (λ (a b : ℤ). a +ℤ b) (picked r.carries (floor (value_of r.form ts) size)) (carried-dot size rs ts)
  where
    picked : (b : Bool) (z : ℤ) → (if b then pos 1 else pos 0) *ℤ z ≡ (if b then z else pos 0)
    picked true z = mul_one_left z
    picked false z = mul_zero_left z

length-coordinates : (size : ℤ) (rows : List TileRow) (ts : List ℤ) → length (coordinates size rows ts) ≡ length rows
length-coordinates size rows ts = length-map rows (λ r. floor (value_of r.form ts) size)

-- the wave sum
pub carried-value : (l : Layout) (size : ℤ) (rows : List TileRow) (ts fs rest : List ℤ) (j : ℕ) → length fs ≡ j
    → value_of (carried_form l j rows) (fs ++ (coordinates size rows ts ++ rest)) ≡ wave_sum size rows ts
carried-value l size rows ts fs rest j h =
    let c = length-carried rows in
    let d = length-coordinates size rows ts in
    let m = middle j (width l - (j + length rows)) (carried rows) fs (coordinates size rows ts) rest h
    (omega (arith, c, d)) in
    ap (λ (z : ℤ). z +ℤ pos 0) (m ∙ carried-dot size rows ts) ∙ none (wave_sum size rows ts)
  where
    none : (z : ℤ) → z +ℤ pos 0 ≡ z
    none z = omega (arith, ints)

-- what stands from place j on
pub segment : (fs seg rest x : List ℤ) (j n : ℕ) → x ≡ fs ++ (seg ++ rest) → length fs ≡ j → length seg ≡ n
    → take n (drop j x) ≡ seg
segment fs seg rest x j n e h k =
    ap (λ (y : List ℤ). take n (drop j y)) e
    ∙ (ap (take n) (drop_at fs (seg ++ rest) j h) ∙ take_at seg rest n k)

pub next_place : (x : List ℤ) (j n : ℕ) → j < length x
    → take (suc n) (drop j x) ≡ get_or x j (pos 0) ∷ take n (drop (suc j) x)
next_place x j n h =
    let e : j + 1 ≡ suc j = omega arith in
    ap (take (suc n)) (drop_more x j (pos 0) h ∙ ap (λ (k : ℕ). get_or x j (pos 0) ∷ drop k x) e)

-- the dimensions from j on have the values of the forms
pub values_from : (l : Layout) (d : ℤ) (V : Affine → ℤ) (j : ℕ) (fs : List Affine) (x : List ℤ) → AreValues l d x V
    → j + length fs ≤ width l → j + length fs ≤ length x → All (λ f. V f ≡ pos 0) (have_values l j fs)
    → take (length fs) (drop j x) ≡ map V fs
values_from l d V j [] x v h k a = refl
values_from l d V j (f ∷ fs) x v h k a =
    let P : Affine → Type 0 = λ g. V g ≡ pos 0 in
    let w = variable (width l) j in
    let one = All-head P (difference_of_forms f w) (have_values l (suc j) fs) a in
    let e = value-difference l d x V f w v in
    let at = v.variables j (omega arith) in
    let head : get_or x j (pos 0) ≡ V f = omega (arith, ints) in
    next_place x j (length fs) (omega arith)
    ∙ ap₂ (λ (z : ℤ) (zs : List ℤ). z ∷ zs) head
    (values_from l d V (suc j) fs x v (omega arith) (omega arith)
    (All-tail P (difference_of_forms f w) (have_values l (suc j) fs) a))

pub values_to : (l : Layout) (j : ℕ) (fs : List Affine) (x : List ℤ) → j + length fs ≤ width l
    → j + length fs ≤ length x → take (length fs) (drop j x) ≡ values_of fs x
    → All (λ f. value_of f x ≡ pos 0) (have_values l j fs)
values_to l j [] x h k e = All-nil (λ f. value_of f x ≡ pos 0)
values_to l j (f ∷ fs) x h k e =
    let v = variable (width l) j in
    let both = sym (next_place x j (length fs) (omega arith)) ∙ e in
    let more = take (length fs) (drop (suc j) x) in
    let head = same_head (get_or x j (pos 0)) (value_of f x) more (values_of fs x) both in
    let rest = same_tail (get_or x j (pos 0)) (value_of f x) more (values_of fs x) both in
    let d = value-difference l (pos 1) x (λ g. value_of g x) f v (whole_values l x) in
    let at = value_of-variable (width l) j x (omega arith) in
    All-cons (λ g. value_of g x ≡ pos 0) (difference_of_forms f v) (have_values l (suc j) fs) (omega (arith, ints))
    (values_to l (suc j) fs x (omega arith) (omega arith) rest)

-- both rows of a tile coordinate
pub begins-value : (l : Layout) (d : ℤ) (x : List ℤ) (V : Affine → ℤ) (size : ℤ) (j : ℕ) (f : Affine)
    → AreValues l d x V → j < width l → V (tile_begins l size j f) ≡ V f -ℤ (get_or x j (pos 0) *ℤ size)
begins-value l d x V size j f a h =
    let v = variable (width l) j in
    let s = a.sums f (multiple_of_form (neg_ℤ size) v) in
    let m = a.multiples (neg_ℤ size) v in
    let at = a.variables j h in
    let n = mul_neg_left size (get_or x j (pos 0)) in
    let p = ap (λ (z : ℤ). neg_ℤ size *ℤ z) at in
    omega (arith, ints)

pub ends-value : (l : Layout) (d : ℤ) (x : List ℤ) (V : Affine → ℤ) (size : ℤ) (j : ℕ) (f : Affine)
    → AreValues l d x V → j < width l
    → V (tile_ends l size j f) ≡ (((size -ℤ pos 1) *ℤ d) +ℤ (get_or x j (pos 0) *ℤ size)) -ℤ V f
ends-value l d x V size j f a h =
    let v = variable (width l) j in
    let n = number_form l (size -ℤ pos 1) in
    let e = value-difference l d x V (sum_of_forms n (multiple_of_form size v)) f a in
    let s = a.sums n (multiple_of_form size v) in
    let k = a.numbers (size -ℤ pos 1) in
    let m = a.multiples size v in
    let at = a.variables j h in
    let p = ap (λ (z : ℤ). size *ℤ z) at in
    omega (arith, ints)

-- the rows' forms have their values at x over the turns
abbrev pub RowsAgree : Layout → List ℤ → List ℤ → List TileRow → Type 0
RowsAgree l x ts [] = ⊤
RowsAgree l x ts (r ∷ rs) = (value_of (row_form l r.form) x ≡ value_of r.form ts) × RowsAgree l x ts rs

-- the dimensions from j on are the tile coordinates
pub coordinates_from : (l : Layout) (size : ℤ) (j : ℕ) (rows : List TileRow) (x ts : List ℤ) → pos 0 <ℤ size
    → j + length rows ≤ width l → j + length rows ≤ length x → RowsAgree l x ts rows
    → All (λ f. pos 0 ≤ℤ value_of f x) (are_coordinates l size j rows)
    → take (length rows) (drop j x) ≡ coordinates size rows ts
coordinates_from l size j [] x ts p h k g a = refl
coordinates_from l size j (r ∷ rs) x ts p h k g a =
    let P : Affine → Type 0 = λ f. pos 0 ≤ℤ value_of f x in
    let f = row_form l r.form in
    let rest = are_coordinates l size (suc j) rs in
    let low = All-head P (tile_begins l size j f) (tile_ends l size j f ∷ rest) a in
    let behind = All-tail P (tile_begins l size j f) (tile_ends l size j f ∷ rest) a in
    let high = All-head P (tile_ends l size j f) rest behind in
    let V : Affine → ℤ = λ g. value_of g x in
    let b = begins-value l (pos 1) x V size j f (whole_values l x) (omega arith) in
    let e = ends-value l (pos 1) x V size j f (whole_values l x) (omega arith) in
    let o = mul_one_right (size -ℤ pos 1) in
    let own = g.0 in
    let t = get_or x j (pos 0) in
    let is : IsFloor (value_of r.form ts) size t =
    record { below = omega (arith, ints); above = omega (arith, ints) } in
    let head : t ≡ floor (value_of r.form ts) size =
    floor_unique (value_of r.form ts) size t (floor (value_of r.form ts) size) p is
    (floor_is (value_of r.form ts) size p) in
    next_place x j (length rs) (omega arith)
    ∙ ap₂ (λ (z : ℤ) (zs : List ℤ). z ∷ zs) head
    (coordinates_from l size (suc j) rs x ts p (omega arith) (omega arith) g.1
    (All-tail P (tile_ends l size j f) rest behind))

pub coordinates_to : (l : Layout) (size : ℤ) (j : ℕ) (rows : List TileRow) (x ts : List ℤ) → pos 0 <ℤ size
    → j + length rows ≤ width l → j + length rows ≤ length x → RowsAgree l x ts rows
    → take (length rows) (drop j x) ≡ coordinates size rows ts
    → All (λ f. pos 0 ≤ℤ value_of f x) (are_coordinates l size j rows)
coordinates_to l size j [] x ts p h k g e = All-nil (λ f. pos 0 ≤ℤ value_of f x)
coordinates_to l size j (r ∷ rs) x ts p h k g e =
    let P : Affine → Type 0 = λ f. pos 0 ≤ℤ value_of f x in
    let f = row_form l r.form in
    let rest = are_coordinates l size (suc j) rs in
    let v = floor (value_of r.form ts) size in
    let both = sym (next_place x j (length rs) (omega arith)) ∙ e in
    let head = same_head (get_or x j (pos 0)) v (take (length rs) (drop (suc j) x)) (coordinates size rs ts) both in
    let more = same_tail (get_or x j (pos 0)) v (take (length rs) (drop (suc j) x)) (coordinates size rs ts) both in
    let is = subst (IsFloor (value_of r.form ts) size) (sym head) (floor_is (value_of r.form ts) size p) in
    let below = is.below in
    let above = is.above in
    let V : Affine → ℤ = λ g. value_of g x in
    let b = begins-value l (pos 1) x V size j f (whole_values l x) (omega arith) in
    let e = ends-value l (pos 1) x V size j f (whole_values l x) (omega arith) in
    let o = mul_one_right (size -ℤ pos 1) in
    let own = g.0 in
    All-cons P (tile_begins l size j f) (tile_ends l size j f ∷ rest) (omega (arith, ints))
    (All-cons P (tile_ends l size j f) rest (omega (arith, ints))
    (coordinates_to l size (suc j) rs x ts p (omega arith) (omega arith) g.1 more))

pub rows_agree : (l : Layout) (rows : List TileRow) (fs ts rest : List ℤ) → length fs ≡ l.front
    → AreRowsOver (length ts) rows → RowsAgree l (fs ++ (ts ++ rest)) ts rows
rows_agree l [] fs ts rest h k = tt
rows_agree l (r ∷ rs) fs ts rest h k = (row-value l r.form fs ts rest h k.0, rows_agree l rs fs ts rest h k.1)

-- the values of the items' forms
rows-values : (l : Layout) (rows : List TileRow) (x ts : List ℤ) → RowsAgree l x ts rows
    → values_of (map (λ r. row_form l r.form) rows) x ≡ map (λ r. value_of r.form ts) rows
rows-values l [] x ts h = refl
rows-values l (r ∷ rs) x ts h = ap₂ (λ (z : ℤ) (zs : List ℤ). z ∷ zs) h.0 (rows-values l rs x ts h.1)

pub numbers-values : (l : Layout) (ks : List ℕ) (x : List ℤ)
    → values_of (map (λ k. number_form l (pos k)) ks) x ≡ map pos ks
numbers-values l [] x = refl
numbers-values l (k ∷ ks) x =
    ap₂ (λ (z : ℤ) (zs : List ℤ). z ∷ zs) (number-value l (pos k) x) (numbers-values l ks x)

behind-values : (l : Layout) (items : List Item) (fs ts rest : List ℤ) → length fs ≡ l.front
    → AreItemsOver (length ts) items
    → values_of (map (item_form l) items) (fs ++ (ts ++ rest)) ≡ map (item_value ts) items
behind-values l [] fs ts rest h k = refl
behind-values l (row f ∷ items) fs ts rest h k =
    ap₂ (λ (z : ℤ) (zs : List ℤ). z ∷ zs) (row-value l f fs ts rest h k.0) (behind-values l items fs ts rest h k.1)
behind-values l (scalar n ∷ items) fs ts rest h k =
    ap₂ (λ (z : ℤ) (zs : List ℤ). z ∷ zs) (number-value l (pos n) (fs ++ (ts ++ rest)))
    (behind-values l items fs ts rest h k.1)

pub items-values : (l : Layout) (s : Items) (fs ts rest : List ℤ) → length fs ≡ l.front → AreOver (length ts) s
    → values_of (forms_of_items l s) (fs ++ (ts ++ rest)) ≡ item_values s ts
items-values l s fs ts rest h k =
    let x = fs ++ (ts ++ rest) in
    let first = map (λ (n : ℕ). number_form l (pos n)) s.leading in
    let second = map (λ (r : TileRow). row_form l r.form) s.band in
    let third = map (item_form l) s.behind in
    map-append (λ (f : Affine). value_of f x) first (second ++ third)
    ∙ ap₂ (λ (xs ys : List ℤ). xs ++ ys) (numbers-values l s.leading x)
    (map-append (λ (f : Affine). value_of f x) second third
    ∙ ap₂ (λ (xs ys : List ℤ). xs ++ ys) (rows-values l s.band x ts (rows_agree l s.band fs ts rest h k.band))
    (behind-values l s.behind fs ts rest h k.behind))
