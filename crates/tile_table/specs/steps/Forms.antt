-- Points and numbers as forms of n turns.
use Rattle.std.specs.Prelude.{◌≡◌, ◌+◌, ◌<◌, ◌≤◌, ℕ, suc, ℤ, pos, List, [], ◌∷◌, ◌++◌, length, map, set, Some}
use Rattle.std.specs.Prelude.{slice_get}
use Rattle.whole_numbers.specs.Affine.{Affine, composed, form_of, multiple_of_form, sum_of_forms, value_of}
use Rattle.whole_numbers.specs.Lists.{zeros}
use Rattle.scop_meaning.specs.Instances.{AreLayout}
use Rattle.scop_syntax.specs.Cells.{accesses, reads}
use Rattle.scop_syntax.specs.Tree.{Access, Head}
use Rattle.scop_syntax.specs.Standings.{Standing}
use Rattle.scop_syntax.specs.Values.{wrapped}
use Rattle.tile_table.specs.Numbers.{number_behind}
use Rattle.tile_table.specs.Points.{point_in}

-- turn k alone
abbrev pub turn_form : ℕ → ℕ → Affine
turn_form n k = form_of (set (zeros n) k (pos 1)) (pos 0)

-- the entries of a point within loops of which the outermost has turn k, from a point of these forms on
abbrev pub point_forms : ℕ → List Head → List Affine → ℕ → List Affine
point_forms n [] forms k = forms
point_forms n (head ∷ heads) forms k =
    point_forms n heads
    (forms ++ sum_of_forms (composed head.first forms n) (multiple_of_form head.stride (turn_form n k)) ∷ []) (suc k)

-- the parameters
abbrev pub constants : List ℤ → List Affine
constants params = map (form_of []) params

-- the row-major offset of subscripts that are forms
abbrev pub offset_form : Affine → List ℕ → List Affine → Affine
offset_form offset [] subscripts = offset
offset_form offset (extent ∷ extents) [] = offset
offset_form offset (extent ∷ extents) (subscript ∷ subscripts) =
    offset_form (sum_of_forms subscript (multiple_of_form (pos extent) offset)) extents subscripts

-- the number of a cell within these loops, in an array with these extents behind so many cells
unfoldable pub number_form : ℕ → ℕ → List ℕ → List Affine → List Head → List ℤ → Affine
number_form n before extents subscripts heads params =
    sum_of_forms (form_of [] (pos before))
    (offset_form (form_of [] (pos 0)) extents
    (map (λ form. composed form (point_forms n heads (constants params) 0) n) subscripts))

-- at all turns of these loops a form's value is that number, modulo 2^64
abbrev pub TellsNumber : ℕ → List ℕ → List Affine → List Head → List ℤ → Affine → Type 0
TellsNumber before extents subscripts heads params form =
    (turns : List ℤ) → length turns ≡ length heads
    → wrapped (value_of form turns) ≡ wrapped (number_behind before extents subscripts (point_in heads params turns))

-- at all turns of these loops a form has the value of another at the point within them, modulo 2^64
abbrev pub IsFormOver : List ℤ → List Head → Affine → Affine → Type 0
IsFormOver params heads form over =
    (turns : List ℤ) → length turns ≡ length heads
    → wrapped (value_of over turns) ≡ wrapped (value_of form (point_in heads params turns))

-- what making the forms of a statement takes: few cells, loops and reads, room for its points, and arrays for its cells
pub record CanForm (extents : List (List ℕ)) (params : List ℤ) (s : Standing) : Type 0 where
  pub layout : AreLayout extents
  pub loops : length s.heads ≤ 5
  pub room : length params + length s.heads ≤ 9
  pub few_reads : length (reads s.body) ≤ 16
  pub arrays : (a : ℕ) (access : Access) → slice_get (accesses s.body) a ≡ Some access → access.array < length extents
