-- Contents, one array after another.
use Rattle.scop_syntax.proofs.Common.{◌≡◌, ◌∙◌, sym, ap, ap₂, refl, ℕ, ◌+◌, ◌<◌, Bool, true, false, ltb, if◌then◌else◌}
use Rattle.scop_syntax.proofs.Common.{◌==◌, List, [], ◌∷◌, ◌++◌, map, length, drop, get_or, add-one, drop-cons}
use Rattle.scop_syntax.proofs.Common.{append_assoc, arith, length-replicate, Option, Some, None, drop-drop, get_or-drop}
use Rattle.scop_syntax.proofs.Common.{get_or-map, cell_count}
use Rattle.std.proofs.Common.{eqb-true}
use Rattle.std.proofs.lemmas.List.FromFn.{length-map-range_with_len}
use Rattle.data_lines.specs.Sheets.{Given, nothing, listed, seeded, given_of}
use Rattle.data_lines.specs.declared.sheet.Given.{Given as CodeGiven}
use Rattle.data_lines.specs.declared.sheet.Given.TheVariants.{Nothing}
use Rattle.data_text.specs.declared.counts.Miscount.{Miscount}
use Rattle.data_text.specs.Cases.{cells_said, contents_said, earlier, first_miscount, miscount_of, miscounted}
use Rattle.data_text.specs.Cases.{seeded_cell}

-- the contents of the next array
pub contents_next : (narrow : List Bool) (layouts : List (List ℕ)) (rows after : List CodeGiven) (i : ℕ)
    (done whole : List (List ℕ)) (cells : List ℕ) (given : Given) → i < length layouts → i < length rows
    → given ≡ get_or (map given_of rows) i nothing
    → cells ≡ cells_said (get_or narrow i false) (cell_count (get_or layouts i [])) given
    → drop (i + 1) after ≡ drop (i + 1) rows
    → done ++ contents_said (drop i narrow) (drop i layouts) (map given_of (drop i rows)) ≡ whole
    → (done ++ cells ∷ [])
    ++ contents_said (drop (i + 1) narrow) (drop (i + 1) layouts) (map given_of (drop (i + 1) after)) ≡ whole
contents_next narrow layouts rows after i done whole cells given within there taken filled others is =
    let width : get_or (drop i narrow) 0 false ≡ get_or narrow i false =
    get_or-drop i narrow 0 false ∙ ap (λ n. get_or narrow n false) (omega arith) in
    let row : given ≡ given_of (get_or rows i Nothing) = taken ∙ get_or-map given_of rows i Nothing nothing there in
    let count = cell_count (get_or layouts i []) in
    let first : cells_said (get_or (drop i narrow) 0 false) count (given_of (get_or rows i Nothing)) ≡ cells =
    ap₂ (λ w g. cells_said w count g) width (sym row) ∙ sym filled in
    let tail : drop 1 (drop i narrow) ≡ drop (i + 1) narrow = drop-drop 1 i narrow in
    let rest = contents_said (drop (i + 1) narrow) (drop (i + 1) layouts) (map given_of (drop (i + 1) rows)) in
    let left : drop i layouts ≡ get_or layouts i [] ∷ drop (i + 1) layouts = drop-cons layouts i [] within
    ∙ ap (λ n. get_or layouts i [] ∷ drop n layouts) (sym (add-one i)) in
    let right : drop i rows ≡ get_or rows i Nothing ∷ drop (i + 1) rows = drop-cons rows i Nothing there
    ∙ ap (λ n. get_or rows i Nothing ∷ drop n rows) (sym (add-one i)) in
    let next : contents_said (drop i narrow) (drop i layouts) (map given_of (drop i rows)) ≡ cells ∷ rest =
    ap₂ (λ es gs. contents_said (drop i narrow) es (map given_of gs)) left right
    ∙ ap₂ (λ cs ws. cs ∷ contents_said ws (drop (i + 1) layouts) (map given_of (drop (i + 1) rows))) first tail in
    append_assoc done (cells ∷ [])
    (contents_said (drop (i + 1) narrow) (drop (i + 1) layouts) (map given_of (drop (i + 1) after)))
    ∙ (ap (λ gs. done ++ cells ∷ contents_said (drop (i + 1) narrow) (drop (i + 1) layouts) (map given_of gs)) others
    ∙ (sym (ap (λ cs. done ++ cs) next) ∙ is))

-- a list of another length stays the earliest or gives way to an earlier one
stays_by : (best other : Miscount) (before : Bool) → (m : Miscount)
    × ((if before then Some other else Some best) ≡ Some m)
stays_by best other true = (other, refl)
stays_by best other false = (best, refl)

stays : (best : Miscount) (other : Option Miscount) → (m : Miscount) × (earlier (Some best) other ≡ Some m)
stays best None = (best, refl)
stays best (Some other) = stays_by best other (ltb other.line best.line)

one_found : (best : Miscount) (layouts : List (List ℕ)) (rows : List Given)
    → first_miscount (Some best) layouts rows ≡ None → ⊥
one_found best [] rows none = cc
one_found best (extents ∷ layouts) [] none = cc
one_found best (extents ∷ layouts) (given ∷ rows) none =
    let other = stays best (miscount_of (cell_count extents) given) in
    one_found other.0 layouts rows (ap (λ m. first_miscount m layouts rows) (sym other.1) ∙ none)

pub none_before : (best : Option Miscount) (layouts : List (List ℕ)) (rows : List Given)
    → first_miscount best layouts rows ≡ None → best ≡ None
none_before None layouts rows none = refl
none_before (Some best) layouts rows none = absurd (one_found best layouts rows none)

-- where a list is as long as its array, so are the cells that are said
long_by : (n line : ℕ) (cells : List ℕ) (m : Miscount) (same : Bool) → (length cells == n) ≡ same
    → (if same then None else Some m) ≡ None → length cells ≡ n
long_by n line cells m true is none = eqb-true (length cells) n is
long_by n line cells m false is none = cc

pub cells_long : (narrow : Bool) (n : ℕ) (given : Given) → miscount_of n given ≡ None
    → length (cells_said narrow n given) ≡ n
cells_long narrow n nothing none = length-replicate n 0
cells_long narrow n (listed line cells) none = long_by n line cells _ (length cells == n) refl none
cells_long narrow n (seeded seed) none = length-map-range_with_len (seeded_cell narrow seed) 0 n

-- where each list is, each array has as many cells as its extents say
pub shaped : (narrow : List Bool) (layouts : List (List ℕ)) (rows : List Given) → length rows ≡ length layouts
    → first_miscount None layouts rows ≡ None
    → map length (contents_said narrow layouts rows) ≡ map cell_count layouts
shaped narrow [] rows count none = refl
shaped narrow (extents ∷ layouts) [] count none = absurd (omega (arith, count))
shaped narrow (extents ∷ layouts) (given ∷ rows) count none =
    let here : miscount_of (cell_count extents) given ≡ None =
    none_before (miscount_of (cell_count extents) given) layouts rows none in
    let rest : first_miscount None layouts rows ≡ None = ap (λ m. first_miscount m layouts rows) (sym here) ∙ none in
    ap₂ (λ n ns. n ∷ ns) (cells_long (get_or narrow 0 false) (cell_count extents) given here)
    (shaped (drop 1 narrow) layouts rows (omega (arith, count)) rest)

pub none_miscounted : (best : Option Miscount) → miscounted best ≡ None → best ≡ None
none_miscounted None none = refl
none_miscounted (Some m) none = cc
