-- The unknowns of one dependence among the columns of the objective: u for each parameter, w, then each statement's
-- coefficients from the innermost loop to the outermost and its shift.
use Rattle.std.specs.Prelude.{◌≡◌, ℕ, suc, ◌+◌, nat_eq, Bool, true, if◌then◌else◌, ℤ, pos, List, [], ◌∷◌, ◌++◌, ⊤}
use Rattle.std.specs.Prelude.{take, drop, length, reverse, slice_index_or}
use Rattle.whole_numbers.specs.Affine.{Affine, form_of}
use Rattle.whole_numbers.specs.Lists.{zeros}
use Rattle.farkas.specs.Unknowns.{Part, part_numbers}
use Rattle.schedule_rows.specs.Items.{Row}

-- how many columns statements of these numbers of loops have
abbrev pub columns_in : List ℕ → ℕ
columns_in [] = 0
columns_in (l ∷ ls) = (l + 1) + columns_in ls

-- how many columns there are with m parameters
abbrev pub columns_of : ℕ → List ℕ → ℕ
columns_of m loops = (m + 1) + columns_in loops

-- whether a statement is one of the two
abbrev pub is_end : ℕ → ℕ → ℕ → Bool
is_end source target s = if nat_eq s source then true else nat_eq s target

-- factors of the unknowns of two statements, as factors of the columns of the statements from s on: 0 for all others
abbrev pub placed_parts : ℕ → ℕ → ℕ → List ℕ → List ℤ → List ℤ
placed_parts source target s [] cs = []
placed_parts source target s (l ∷ ls) cs =
    if is_end source target s
    then take (l + 1) cs ++ placed_parts source target (suc s) ls (drop (l + 1) cs)
    else zeros (l + 1) ++ placed_parts source target (suc s) ls cs

-- a form over u, w and the unknowns of two statements, as a form over all columns
abbrev pub placed : ℕ → ℕ → ℕ → List ℕ → Affine → Affine
placed m source target loops f =
    form_of
    (take (m + 1) f.coefficients ++ placed_parts source target 0 loops (drop (m + 1) f.coefficients))
    f.constant

-- the numbers of parts from statement s on that are the unknowns of two statements
abbrev pub gathered_parts : ℕ → ℕ → ℕ → List Part → List ℤ
gathered_parts source target s [] = []
gathered_parts source target s (p ∷ ps) =
    if is_end source target s
    then part_numbers p ++ gathered_parts source target (suc s) ps
    else gathered_parts source target (suc s) ps

-- the numbers of a row that are u, w and the unknowns of two statements
abbrev pub gathered : ℕ → ℕ → Row → List ℤ
gathered source target r = r.u ++ r.w ∷ gathered_parts source target 0 r.parts

-- a part for each statement, with a coefficient for each loop
abbrev pub AreShaped : List ℕ → List Part → Type 0
AreShaped [] [] = ⊤
AreShaped [] (p ∷ ps) = ⊥
AreShaped (l ∷ ls) [] = ⊥
AreShaped (l ∷ ls) (p ∷ ps) = (length p.coefficients ≡ l) × AreShaped ls ps

-- the row has u for each of m parameters and such parts
pub record IsShaped (m : ℕ) (loops : List ℕ) (r : Row) : Type 0 where
  pub bounds : length r.u ≡ m
  pub parts : AreShaped loops r.parts

-- the parts of these numbers
abbrev pub parts_from : List ℕ → List ℤ → List Part
parts_from [] xs = []
parts_from (l ∷ ls) xs =
    record { coefficients = reverse (take l xs); shift = slice_index_or xs l (pos 0) } ∷ parts_from ls (drop
    (l + 1) xs)

-- the row of these numbers
abbrev pub row_from : ℕ → List ℕ → List ℤ → Row
row_from m loops xs =
    record { u = take m xs; w = slice_index_or xs m (pos 0); parts = parts_from loops (drop (m + 1) xs) }
