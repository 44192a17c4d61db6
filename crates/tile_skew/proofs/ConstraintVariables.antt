-- All constraints of a scan set speak of all its variables.
use Rattle.scop_syntax.proofs.Common.{◌≡◌, ℕ, suc, ◌+◌, ◌≤◌, ℤ, pos, List, [], ◌∷◌, ◌++◌, sym, ◌∙◌, arith, length, map}
use Rattle.scop_syntax.proofs.Common.{subst, ap, All, neg_ℤ, All-nil, All-cons, All-head, All-tail, All-append}
use Rattle.scop_syntax.proofs.Common.{refl, Affine, multiples, length-sums, length-multiples}
use Rattle.affine_forms.specs.Parts.{variables_of}
use Rattle.iteration_domains.specs.Rows.{variable, variables}
use Rattle.iteration_domains.proofs.Surroundings.{length-variable, sized-variables}
use Rattle.conflict_deps.specs.Conflicts.{source_form, difference_of_forms}
use Rattle.conflict_deps.proofs.Shapes.{length-source, length-target, length-difference}
use Rattle.loop_tree.specs.Tiling.{TileRow, Item, row, scalar, Items}
use Rattle.tile_skew.specs.declared.layout.Layout.{Layout}
use Rattle.tile_skew.specs.steps.Sizes.{FitItems, FitsItem, FitsTurns}
use Rattle.tile_skew.specs.ScanSets.{width, domain_form, row_form, number_form, item_form, carried_form, have_values}
use Rattle.tile_skew.specs.ScanSets.{tile_begins, tile_ends, are_coordinates, front_of, dimension_equalities}
use Rattle.tile_skew.proofs.Widths.{length-row, length-number, length-carried_form, length-end, end_form}

abbrev pub Over : Layout → Affine → Type 0
Over l f = variables_of f ≡ width l

domain_one : (l : Layout) (f : Affine) → variables_of f ≡ l.turns + l.parameters → Over l (domain_form l f)
domain_one l f h =
    let s = length-source l.turns l.missing l.parameters f h in
    let t = length-target l.front (l.turns + l.missing) l.parameters (source_form l.turns l.missing f) s in
    omega (arith, t)

-- the domain's
pub domain_over : (l : Layout) (fs : List Affine) → All (λ f. variables_of f ≡ l.turns + l.parameters) fs
    → All (Over l) (map (domain_form l) fs)
domain_over l [] h = All-nil (Over l)
domain_over l (f ∷ fs) h =
    All-cons (Over l) (domain_form l f) (map (domain_form l) fs)
    (domain_one l f (All-head (λ (g : Affine). variables_of g ≡ l.turns + l.parameters) f fs h))
    (domain_over l fs (All-tail (λ (g : Affine). variables_of g ≡ l.turns + l.parameters) f fs h))

-- forms of as many variables as others, which are more than n
pub resized : (n m : ℕ) (fs gs : List Affine) → n ≡ m → fs ≡ gs → All (λ f. variables_of f ≡ n) fs
    → All (λ f. variables_of f ≡ m) gs
resized n m fs gs e f h =
    subst (λ k. All (λ g. variables_of g ≡ k) gs) e (subst (λ zs. All (λ g. variables_of g ≡ n) zs) f h)

pub all_wide : (n k : ℕ) (fs : List Affine) → n ≤ k → All (λ f. variables_of f ≡ k) fs
    → All (λ f. n ≤ variables_of f) fs
all_wide n k [] l h = All-nil (λ f. n ≤ variables_of f)
all_wide n k (f ∷ fs) l h =
    let own = All-head (λ (g : Affine). variables_of g ≡ k) f fs h in
    All-cons (λ g. n ≤ variables_of g) f fs (omega (arith, l, own))
    (all_wide n k fs l (All-tail (λ (g : Affine). variables_of g ≡ k) f fs h))

-- values of forms over all variables
have_over : (l : Layout) (j : ℕ) (fs : List Affine) → All (Over l) fs → All (Over l) (have_values l j fs)
have_over l j [] h = All-nil (Over l)
have_over l j (f ∷ fs) h =
    All-cons (Over l) (difference_of_forms f (variable (width l) j)) (have_values l (suc j) fs)
    (length-difference (width l) f (variable (width l) j) (All-head (Over l) f fs h) (length-variable (width l) j))
    (have_over l (suc j) fs (All-tail (Over l) f fs h))

numbers_over : (l : Layout) (ks : List ℕ) → All (Over l) (map (λ k. number_form l (pos k)) ks)
numbers_over l [] = All-nil (Over l)
numbers_over l (k ∷ ks) =
    All-cons (Over l) (number_form l (pos k)) (map (λ n. number_form l (pos n)) ks) (length-number l (pos k))
    (numbers_over l ks)

rows_over : (l : Layout) (rs : List TileRow) → All (λ r. FitsTurns l.turns r.form) rs
    → All (Over l) (map (λ r. row_form l r.form) rs)
rows_over l [] h = All-nil (Over l)
rows_over l (r ∷ rs) h =
    All-cons (Over l) (row_form l r.form) (map (λ (q : TileRow). row_form l q.form) rs)
    (length-row l r.form (All-head (λ (q : TileRow). FitsTurns l.turns q.form) r rs h).0)
    (rows_over l rs (All-tail (λ (q : TileRow). FitsTurns l.turns q.form) r rs h))

item_one : (l : Layout) (i : Item) → FitsItem l.turns i → Over l (item_form l i)
item_one l (row f) h = length-row l f (h f refl).0
item_one l (scalar k) h = length-number l (pos k)

items_over : (l : Layout) (is : List Item) → All (FitsItem l.turns) is → All (Over l) (map (item_form l) is)
items_over l [] h = All-nil (Over l)
items_over l (i ∷ is) h =
    All-cons (Over l) (item_form l i) (map (item_form l) is) (item_one l i (All-head (FitsItem l.turns) i is h))
    (items_over l is (All-tail (FitsItem l.turns) i is h))

-- the dimensions'
pub dimensions_over : (l : Layout) (s : Items) → front_of s ≤ width l → FitItems l.turns s
    → All (Over l) (dimension_equalities l s)
dimensions_over l s place fit =
    let leads = numbers_over l s.leading in
    let numbers = map (λ k. number_form l (pos k)) s.leading in
    let sum = carried_form l (length s.leading + 1) s.band in
    let one = All-cons (Over l) sum [] (length-carried_form l (length s.leading + 1) s.band (omega (arith, place)))
    (All-nil (Over l)) in
    let waves = have_over l 0 (numbers ++ sum ∷ []) (All-append (Over l) numbers (sum ∷ []) leads one) in
    let band = map (λ r. row_form l r.form) s.band in
    let last = map (item_form l) s.behind in
    let at = length s.leading + (1 + length s.band) in
    let items = have_over l at (numbers ++ (band ++ last))
    (All-append (Over l) numbers (band ++ last) leads
    (All-append (Over l) band last (rows_over l s.band fit.band) (items_over l s.behind fit.behind))) in
    let missing = variables (width l) (l.front + l.turns) l.missing in
    All-append (Over l) (have_values l 0 (numbers ++ sum ∷ []))
    (have_values l at (numbers ++ (band ++ last)) ++ missing) waves
    (All-append (Over l) (have_values l at (numbers ++ (band ++ last))) missing items
    (sized-variables (width l) (l.front + l.turns) l.missing))

begins_one : (l : Layout) (z : ℤ) (j : ℕ) (f : Affine) → Over l f → Over l (tile_begins l z j f)
begins_one l z j f h =
    let v = variable (width l) j in
    let m = length-multiples (neg_ℤ z) v.coefficients ∙ length-variable (width l) j in
    length-sums f.coefficients (multiples (neg_ℤ z) v.coefficients) (h ∙ sym m) ∙ h

-- the tile coordinates'
pub coordinates_over : (l : Layout) (z : ℤ) (j : ℕ) (rs : List TileRow) → All (λ r. FitsTurns l.turns r.form) rs
    → All (Over l) (are_coordinates l z j rs)
coordinates_over l z j [] h = All-nil (Over l)
coordinates_over l z j (r ∷ rs) h =
    let f = row_form l r.form in
    let own = length-row l r.form (All-head (λ (q : TileRow). FitsTurns l.turns q.form) r rs h).0 in
    let rest = coordinates_over l z (suc j) rs (All-tail (λ (q : TileRow). FitsTurns l.turns q.form) r rs h) in
    All-cons (Over l) (tile_begins l z j f) (tile_ends l z j f ∷ are_coordinates l z (suc j) rs)
    (begins_one l z j f own)
    (All-cons (Over l) (tile_ends l z j f) (are_coordinates l z (suc j) rs)
    (length-difference (width l) (end_form l z j) f (length-end l z j) own) rest)

-- a list put behind nothing: forms, one more, and others
pub parts_over : (l : Layout) (none first second third us vs : List Affine) (f : Affine) → none ≡ []
    → first ≡ none ++ us → second ≡ first ++ f ∷ [] → third ≡ second ++ vs → All (Over l) us → Over l f
    → All (Over l) vs → All (Over l) third
parts_over l none first second third us vs f n a b c h o k =
    let whole : third ≡ (us ++ f ∷ []) ++ vs =
    c ∙ ap (λ zs. zs ++ vs) (b ∙ ap (λ zs. zs ++ f ∷ []) (a ∙ ap (λ zs. zs ++ us) n)) in
    subst (All (Over l)) (sym whole)
    (All-append (Over l) (us ++ f ∷ []) vs
    (All-append (Over l) us (f ∷ []) h (All-cons (Over l) f [] o (All-nil (Over l)))) k)
