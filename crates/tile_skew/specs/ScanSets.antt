-- The scan set of a statement: its domain, and each scattering dimension by its value (Bastoul, PACT 2004; tiles after
-- Bondhugula and others, PLDI 2008).
use Rattle.std.specs.Prelude.{ℕ, suc, ◌+◌, ◌-◌, max, ℤ, pos, neg_ℤ, ◌-ℤ◌, List, [], ◌∷◌, ◌++◌, length, map}
use Rattle.std.specs.Prelude.{if◌then◌else◌, Option, Some, None}
use Rattle.whole_numbers.specs.Affine.{Affine, form_of, sum_of_forms, multiple_of_form}
use Rattle.whole_numbers.specs.Lists.{zeros}
use Rattle.integer_sets.specs.Constraints.{Constraints, system_of}
use Rattle.integer_sets.specs.Scanned.{Scanned, scanned}
use Rattle.iteration_domains.specs.Model.{Modelled, KernelModel}
use Rattle.iteration_domains.specs.Rows.{variable, variables}
use Rattle.conflict_deps.specs.Conflicts.{difference_of_forms, source_form, target_form}
use Rattle.loop_tree.specs.Tiling.{TileRow, Item, row, scalar, Items}
use Rattle.schedule_rows.specs.Items.{Block}
use Rattle.tile_skew.specs.declared.layout.Layout.{Layout}
use Rattle.tile_skew.specs.Tilings.{statement_items}

-- how many items a statement has
abbrev pub count_of : Items → ℕ
count_of s = length s.leading + (length s.band + length s.behind)

-- how many dimensions stand before the iterators
abbrev pub front_of : Items → ℕ
front_of s = length s.leading + (1 + (length s.band + count_of s))

-- how many variables there are: front dimensions, iterators, dimensions of missing ones, parameters
abbrev pub width : Layout → ℕ
width l = l.front + (l.turns + (l.missing + l.parameters))

-- a form of the domain, over turns and parameters, over all of them
abbrev pub domain_form : Layout → Affine → Affine
domain_form l f = target_form l.front (source_form l.turns l.missing f)

-- a row's form, over the turns, over all of them
abbrev pub row_form : Layout → Affine → Affine
row_form l f = form_of (zeros l.front ++ (f.coefficients ++ zeros (l.missing + l.parameters))) f.constant

-- a number, as a form over all of them
abbrev pub number_form : Layout → ℤ → Affine
number_form l k = form_of (zeros (width l)) k

-- an item's form
abbrev pub item_form : Layout → Item → Affine
item_form l (row f) = row_form l f
item_form l (scalar k) = number_form l (pos k)

-- 1 where a row carries
abbrev pub carried : List TileRow → List ℤ
carried [] = []
carried (r ∷ rs) = (if r.carries then pos 1 else pos 0) ∷ carried rs

-- the sum of those of the dimensions from j on that are tile coordinates of rows that carry
abbrev pub carried_form : Layout → ℕ → List TileRow → Affine
carried_form l j rows = form_of (zeros j ++ (carried rows ++ zeros (width l - (j + length rows)))) (pos 0)

-- the dimensions from j on have the values of the forms: value - dimension = 0
abbrev pub have_values : Layout → ℕ → List Affine → List Affine
have_values l j [] = []
have_values l j (f ∷ fs) = difference_of_forms f (variable (width l) j) ∷ have_values l (suc j) fs

-- row - size * T >= 0, T being the dimension j
abbrev pub tile_begins : Layout → ℤ → ℕ → Affine → Affine
tile_begins l size j f = sum_of_forms f (multiple_of_form (neg_ℤ size) (variable (width l) j))

-- size * T + size - 1 - row >= 0
abbrev pub tile_ends : Layout → ℤ → ℕ → Affine → Affine
tile_ends l size j f =
    difference_of_forms
    (sum_of_forms (number_form l (size -ℤ pos 1)) (multiple_of_form size (variable (width l) j))) f

-- the dimensions from j on are the tile coordinates of the rows
abbrev pub are_coordinates : Layout → ℤ → ℕ → List TileRow → List Affine
are_coordinates l size j [] = []
are_coordinates l size j (r ∷ rs) =
    tile_begins l size j (row_form l r.form) ∷ tile_ends l size j (row_form l r.form)
    ∷ are_coordinates l size (suc j) rs

-- all items as forms, in order
abbrev pub forms_of_items : Layout → Items → List Affine
forms_of_items l s =
    map (λ k. number_form l (pos k)) s.leading ++ (map (λ r. row_form l r.form) s.band ++ map (item_form l) s.behind)

-- the leading scalars and the wave sum, from dimension 0 on
abbrev pub wave_equalities : Layout → Items → List Affine
wave_equalities l s =
    have_values l 0
    (map (λ k. number_form l (pos k)) s.leading ++ carried_form l (length s.leading + 1) s.band ∷ [])

-- the items, behind the tile coordinates
abbrev pub item_equalities : Layout → Items → List Affine
item_equalities l s = have_values l (length s.leading + (1 + length s.band)) (forms_of_items l s)

-- the dimensions of missing iterators are 0
abbrev pub missing_equalities : Layout → List Affine
missing_equalities l = variables (width l) (l.front + l.turns) l.missing

-- the equalities of the dimensions, in their order
abbrev pub dimension_equalities : Layout → Items → List Affine
dimension_equalities l s = wave_equalities l s ++ (item_equalities l s ++ missing_equalities l)

-- the layout of a statement's scan set, where n is the greatest number of iterators of a statement
abbrev pub layout_of : ℕ → Modelled → Items → Layout
layout_of n m s =
    record {
      front = front_of s;
      turns = m.domain.dimensions;
      missing = n - m.domain.dimensions;
      parameters = m.domain.parameters;
    }

-- the points of a statement: the domain, then the dimensions; the wave is not negative, as no row is
abbrev pub points_of : Layout → ℤ → Modelled → Items → Constraints
points_of l size m s =
    system_of (l.front + (l.turns + l.missing)) l.parameters
    (map (domain_form l) m.domain.equalities ++ dimension_equalities l s)
    (map (domain_form l) m.domain.rows
    ++ variable (width l) (length s.leading) ∷ are_coordinates l size (length s.leading + 1) s.band)

-- the dimension that may run in parallel: that of the first tile coordinate, which stands at k
abbrev pub parallel_place : ℕ → List TileRow → Option ℕ
parallel_place k [] = None
parallel_place k (r ∷ rs) = Some k

-- the scan set of a statement
abbrev pub scan_set : ℤ → ℕ → Modelled → Items → Scanned
scan_set size n m s =
    scanned m.number (parallel_place (length s.leading + 1) s.band) (front_of s) m.domain.dimensions
    (points_of (layout_of n m s) size m s)

-- the greatest number of iterators of a statement
abbrev pub most_iterators : List Modelled → ℕ
most_iterators [] = 0
most_iterators (m ∷ ms) = max m.domain.dimensions (most_iterators ms)

-- the scan sets of a model's statements by the blocks of a schedule, in textual order
abbrev pub scan_sets : ℤ → List Block → KernelModel → List Scanned
scan_sets size blocks model =
    map (λ m. scan_set size (most_iterators model.statements) m (statement_items blocks m.number)) model.statements
