-- The steps of the loops that read a statement's items off a schedule's.
use Rattle.scop_syntax.proofs.Common.{◌≡◌, ℕ, zero, suc, ◌+◌, ◌-◌, ◌<◌, ◌≤◌, Bool, ℤ, pos, List, [], ◌∷◌, ◌++◌, refl}
use Rattle.scop_syntax.proofs.Common.{sym, ◌∙◌, ap, ap₂, append-nil, arith, length, map, take, drop, get_or, slice_get}
use Rattle.scop_syntax.proofs.Common.{Some, drop_more, length-map, Affine, zeros}
use Rattle.std.proofs.lemmas.List.{append_assoc, take_rest}
use Rattle.iteration_domains.specs.Rows.{variable}
use Rattle.conflict_deps.specs.Conflicts.{spread, difference_of_forms}
use Rattle.conflict_deps.proofs.Shapes.{spread_parts}
use Rattle.loop_tree.specs.Tiling.{TileRow, Items}
use Rattle.schedule_rows.specs.Items.{Block, Row}
use Rattle.schedule_rows.specs.Schedule.{Item, row, scalar}
use Rattle.stmt_graph.specs.Graph.{number_in}
use Rattle.tile_skew.specs.Tilings.{statement_items, statements_from}
use Rattle.tile_skew.specs.declared.layout.Layout.{Layout}
use Rattle.tile_skew.specs.ScanSets.{width, number_form, row_form, carried_form, have_values, wave_equalities}
use Rattle.tile_skew.specs.ScanSets.{tile_begins, tile_ends, are_coordinates}
use Rattle.tile_skew.specs.steps.Listed.{leading_in, rows_in}

-- the mark at a place, and those behind it
mark_there : (marks : List Bool) (at : ℕ) (mark : Bool) → slice_get marks at ≡ Some mark
    → drop at marks ≡ mark ∷ drop (suc at) marks
mark_there [] at mark is = absurd cc
mark_there (m ∷ ms) zero mark is = cc
mark_there (m ∷ ms) (suc at) mark is = mark_there ms at mark is

-- the first of some items
one_row : (i : Item) (p : Bool) (items : List Item) (marks : List Bool) (k : ℕ)
    → rows_in (i ∷ items) (p ∷ marks) k ≡ rows_in (i ∷ []) (p ∷ []) k ++ rows_in items marks k
one_row (row r) p items marks k = refl
one_row (scalar numbers) p items marks k = refl

-- one item more of the first band
pub rows_step : (items : List Item) (marks : List Bool) (at behind k : ℕ) (item : Item) (mark : Bool)
    (rows new whole : List TileRow) → at < behind → behind ≤ length items → item ≡ get_or items at item
    → slice_get marks at ≡ Some mark → new ≡ rows ++ rows_in (item ∷ []) (mark ∷ []) k
    → rows ++ rows_in (take (behind - at) (drop at items)) (drop at marks) k ≡ whole
    → new ++ rows_in (take (behind - (at + 1)) (drop (at + 1) items)) (drop (at + 1) marks) k ≡ whole
rows_step items marks at behind k item mark rows new whole h few is marked now before =
    let left = behind - (at + 1) in
    let one : behind - at ≡ suc left = omega arith in
    let next : suc at ≡ at + 1 = omega arith in
    let rest = take left (drop (at + 1) items) in
    let more = drop (at + 1) marks in
    let items_are = drop_more items at item (omega arith)
    ∙ ap (λ (i : Item). i ∷ drop (at + 1) items) (sym is) in
    let marks_are = mark_there marks at mark marked ∙ ap (λ (n : ℕ). mark ∷ drop n marks) next in
    let there : rows_in (take (behind - at) (drop at items)) (drop at marks) k ≡ rows_in (item ∷ rest) (mark ∷ more) k =
    ap₂ (λ (n : ℕ) (is : List Item). rows_in (take n is) (drop at marks) k) one items_are
    ∙ ap (λ (ms : List Bool). rows_in (item ∷ rest) ms k) marks_are in
    ap (λ (rs : List TileRow). rs ++ rows_in rest more k) now
    ∙ (append_assoc rows (rows_in (item ∷ []) (mark ∷ []) k) (rows_in rest more k)
    ∙ (ap (λ (rs : List TileRow). rows ++ rs) (sym (one_row item mark rest more k) ∙ sym there) ∙ before))

-- one statement more
pub statements_step : (bs : List Block) (done new : List Items) (whole : List Items) (k count : ℕ) → k < count
    → new ≡ done ++ statement_items bs k ∷ [] → done ++ statements_from bs k (count - k) ≡ whole
    → new ++ statements_from bs (k + 1) (count - (k + 1)) ≡ whole
statements_step bs done new whole k count h now before =
    let left = count - (k + 1) in
    let one : count - k ≡ suc left = omega arith in
    let next : suc k ≡ k + 1 = omega arith in
    let there : statements_from bs k (count - k) ≡ statement_items bs k ∷ statements_from bs (k + 1) left =
    ap (statements_from bs k) one
    ∙ ap (λ (n : ℕ). statement_items bs k ∷ statements_from bs n left) next in
    ap (λ (is : List Items). is ++ statements_from bs (k + 1) left) now
    ∙ (append_assoc done (statement_items bs k ∷ []) (statements_from bs (k + 1) left)
    ∙ (ap (λ (is : List Items). done ++ is) (sym there) ∙ before))

-- one element more of a list made from another
pub mapped_step : {X Y : Type 0} (h : X → Y) (xs : List X) (at : ℕ) (x : X) (done new whole : List Y) → at < length xs
    → get_or xs at x ≡ x → new ≡ done ++ h x ∷ [] → done ++ map h (drop at xs) ≡ whole
    → new ++ map h (drop (at + 1) xs) ≡ whole
mapped_step h xs at x done new whole few is now before =
    let rest = map h (drop (at + 1) xs) in
    let there : map h (drop at xs) ≡ h x ∷ rest =
    ap (map h) (drop_more xs at x few) ∙ ap (λ y. h y ∷ rest) is in
    ap (λ ys. ys ++ rest) now
    ∙ (append_assoc done (h x ∷ []) rest ∙ (ap (λ ys. done ++ ys) (sym there) ∙ before))

-- what was made is the whole where nothing is left
pub nothing_left : {X : Type 0} (done rest whole : List X) → rest ≡ [] → done ++ rest ≡ whole → done ≡ whole
nothing_left done rest whole none before = sym (append-nil done) ∙ (ap (λ xs. done ++ xs) (sym none) ∙ before)

-- one scalar more before the first row
pub leading_step : {X : Type 0} (h : X → Item) (xs : List X) (at k : ℕ) (x : X) (numbers done new whole : List ℕ)
    → at < length xs → x ≡ get_or xs at x → h x ≡ scalar numbers → new ≡ done ++ number_in numbers k ∷ []
    → done ++ leading_in (map h (drop at xs)) k ≡ whole → new ++ leading_in (map h (drop (at + 1) xs)) k ≡ whole
leading_step h xs at k x numbers done new whole few is shown now before =
    let rest = map h (drop (at + 1) xs) in
    let there : map h (drop at xs) ≡ scalar numbers ∷ rest =
    ap (map h) (drop_more xs at x few) ∙ ap (λ i. i ∷ rest) (ap h (sym is) ∙ shown) in
    ap (λ ns. ns ++ leading_in rest k) now
    ∙ (append_assoc done (number_in numbers k ∷ []) (leading_in rest k)
    ∙ (ap (λ is. done ++ leading_in is k) (sym there) ∙ before))

-- the first row ends them
pub leading_stop : {X : Type 0} (h : X → Item) (xs : List X) (at k : ℕ) (x : X) (r : Row) (done whole : List ℕ)
    → at < length xs → x ≡ get_or xs at x → h x ≡ row r → done ++ leading_in (map h (drop at xs)) k ≡ whole
    → done ≡ whole
leading_stop h xs at k x r done whole few is shown before =
    let rest = map h (drop (at + 1) xs) in
    let there : map h (drop at xs) ≡ row r ∷ rest =
    ap (map h) (drop_more xs at x few) ∙ ap (λ i. i ∷ rest) (ap h (sym is) ∙ shown) in
    nothing_left done _ whole (ap (λ is. leading_in is k) there) before

-- the coefficients of a form of the domain, put part by part
pub domain_put : (front d e : ℕ) (cs first second third fourth fifth : List ℤ) → d ≤ length cs → first ≡ []
    → second ≡ first ++ zeros front → third ≡ second ++ take d cs → fourth ≡ third ++ zeros e
    → fifth ≡ fourth ++ take (length cs - d) (drop d cs) → fifth ≡ zeros front ++ spread e d cs
domain_put front d e cs first second third fourth fifth h a b c f g =
    let last : take (length cs - d) (drop d cs) ≡ drop d cs = take_rest cs d in
    g ∙ (ap₂ (λ xs ys. xs ++ ys)
    (f ∙ ap (λ xs. xs ++ zeros e) (c ∙ ap (λ xs. xs ++ take d cs) (b ∙ ap (λ xs. xs ++ zeros front) a))) last
    ∙ (append_assoc (zeros front ++ take d cs) (zeros e) (drop d cs)
    ∙ (append_assoc (zeros front) (take d cs) (zeros e ++ drop d cs)
    ∙ ap (λ xs. zeros front ++ xs) (sym (spread_parts d e cs h)))))

-- the values of some dimensions, then those of the next
pub values_behind : (l : Layout) (j : ℕ) (fs gs : List Affine)
    → have_values l j (fs ++ gs) ≡ have_values l j fs ++ have_values l (j + length fs) gs
values_behind l j [] gs = let e : j ≡ j + 0 = omega arith in ap (λ k. have_values l k gs) e
values_behind l j (f ∷ fs) gs =
    let e : suc j + length fs ≡ j + suc (length fs) = omega arith in
    let here = difference_of_forms f (variable (width l) j) in
    ap (λ hs. here ∷ hs) (values_behind l (suc j) fs gs ∙ ap (λ k. have_values l (suc j) fs ++ have_values l k gs) e)

-- the value of one dimension more
pub values_step : (l : Layout) (first at : ℕ) (f : Affine) (fs rest done new whole : List Affine) → fs ≡ f ∷ rest
    → new ≡ done ++ have_values l (first + at) (f ∷ []) → done ++ have_values l (first + at) fs ≡ whole
    → new ++ have_values l (first + (at + 1)) rest ≡ whole
values_step l first at f fs rest done new whole is now before =
    let next : first + (at + 1) ≡ suc (first + at) = omega arith in
    let here = have_values l (first + at) (f ∷ []) in
    let behind = have_values l (suc (first + at)) rest in
    ap₂ (λ xs n. xs ++ have_values l n rest) now next
    ∙ (append_assoc done here behind ∙ (ap (λ gs. done ++ have_values l (first + at) gs) (sym is) ∙ before))

-- one tile coordinate more
pub coordinates_step : (l : Layout) (size : ℤ) (first at : ℕ) (rows : List TileRow) (r : TileRow) (f : Affine)
    (done new whole : List Affine) → at < length rows → r ≡ get_or rows at r → f ≡ row_form l r.form
    → new ≡ done ++ tile_begins l size (first + at) f ∷ tile_ends l size (first + at) f ∷ []
    → done ++ are_coordinates l size (first + at) (drop at rows) ≡ whole
    → new ++ are_coordinates l size (first + (at + 1)) (drop (at + 1) rows) ≡ whole
coordinates_step l size first at rows r f done new whole few is made now before =
    let rest = drop (at + 1) rows in
    let next : first + (at + 1) ≡ suc (first + at) = omega arith in
    let pair : Affine → List Affine =
    λ g. tile_begins l size (first + at) g ∷ tile_ends l size (first + at) g ∷ [] in
    let there : drop at rows ≡ r ∷ rest = drop_more rows at r few ∙ ap (λ q. q ∷ rest) (sym is) in
    ap₂ (λ xs n. xs ++ are_coordinates l size n rest) (now ∙ ap (λ g. done ++ pair g) made) next
    ∙ (append_assoc done (pair (row_form l r.form)) (are_coordinates l size (suc (first + at)) rest)
    ∙ (ap (λ rs. done ++ are_coordinates l size (first + at) rs) (sym there) ∙ before))

-- the leading scalars and the wave sum
pub waves_put : (l : Layout) (s : Items) (old first second : List Affine) (sum : Affine) (at : ℕ)
    → at ≡ length s.leading
    → first ≡ old ++ have_values l 0 (map (λ k. number_form l (pos k)) s.leading)
    → sum ≡ carried_form l (length s.leading + 1) s.band → second ≡ first ++ have_values l at (sum ∷ [])
    → second ≡ old ++ wave_equalities l s
waves_put l s old first second sum at h a b c =
    let numbers = map (λ (k : ℕ). number_form l (pos k)) s.leading in
    let last = carried_form l (length s.leading + 1) s.band in
    let many = length-map s.leading (λ (k : ℕ). number_form l (pos k)) in
    let size : 0 + length numbers ≡ length s.leading = omega arith in
    let split : wave_equalities l s ≡ have_values l 0 numbers ++ have_values l (length s.leading) (last ∷ []) =
    values_behind l 0 numbers (last ∷ [])
    ∙ ap (λ k. have_values l 0 numbers ++ have_values l k (last ∷ [])) size in
    c ∙ (ap₂ (λ xs ys. xs ++ ys) a (ap₂ (λ k f. have_values l k (f ∷ [])) h b)
    ∙ (append_assoc old (have_values l 0 numbers) (have_values l (length s.leading) (last ∷ []))
    ∙ ap (λ xs. old ++ xs) (sym split)))

-- the values of all items, put part by part
pub items_put : (l : Layout) (j k m : ℕ) (fs gs hs old first second third : List Affine) → k ≡ j + length fs
    → m ≡ k + length gs → first ≡ old ++ have_values l j fs → second ≡ first ++ have_values l k gs
    → third ≡ second ++ have_values l m hs → third ≡ old ++ have_values l j (fs ++ (gs ++ hs))
items_put l j k m fs gs hs old first second third e f a b c =
    let last = have_values l m hs in
    let next = have_values l k gs in
    let behind : have_values l k (gs ++ hs) ≡ next ++ last =
    values_behind l k gs hs ∙ ap (λ n. next ++ have_values l n hs) (sym f) in
    let whole : have_values l j (fs ++ (gs ++ hs)) ≡ have_values l j fs ++ (next ++ last) =
    values_behind l j fs (gs ++ hs)
    ∙ (ap (λ n. have_values l j fs ++ have_values l n (gs ++ hs)) (sym e)
    ∙ ap (λ xs. have_values l j fs ++ xs) behind) in
    c ∙ (ap (λ xs. xs ++ last) (b ∙ ap (λ xs. xs ++ next) a)
    ∙ (append_assoc (old ++ have_values l j fs) next last
    ∙ (append_assoc old (have_values l j fs) (next ++ last) ∙ ap (λ xs. old ++ xs) (sym whole))))

-- a list put in four parts behind nothing
pub four_put : (none first second third fourth us vs ws xs : List Affine) → none ≡ [] → first ≡ none ++ us
    → second ≡ first ++ vs → third ≡ second ++ ws → fourth ≡ third ++ xs → fourth ≡ us ++ (vs ++ (ws ++ xs))
four_put none first second third fourth us vs ws xs n a b c d =
    d ∙ (ap (λ zs. zs ++ xs) (c ∙ ap (λ zs. zs ++ ws) (b ∙ ap (λ zs. zs ++ vs) (a ∙ ap (λ zs. zs ++ us) n)))
    ∙ (append_assoc (us ++ vs) ws xs ∙ append_assoc us vs (ws ++ xs)))
