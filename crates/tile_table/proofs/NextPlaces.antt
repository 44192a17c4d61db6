-- A pass over a walk: the place that comes next, the row of its statement, and the numbers of cells that the row tells.
use Rattle.scop_syntax.proofs.Common.{◌≡◌, ◌<◌, ◌≤◌, ◌^◌, ℕ, zero, suc, ℤ, List, [], ◌∷◌, Some, ap, sym, ◌∙◌, subst}
use Rattle.scop_syntax.proofs.Common.{arith, length, map, drop, slice_get, option_map, length-map, slice_get-map}
use Rattle.scop_syntax.proofs.Common.{slice_get_within, Affine, value_of, Cell, accesses, cell_of, IsCell, cell_number}
use Rattle.scop_syntax.proofs.Common.{layout, IsInside, WithinLimits, In, Access, Program, Statement, wrapped, Instance}
use Rattle.scop_syntax.proofs.Common.{Visit, instance, walk_of, in_from_place, in_map, there_is}
use Rattle.tile_table.specs.Tables.{IsTableOf}
use Rattle.tile_table.specs.declared.table.Row.{Row}
use Rattle.tile_table.specs.declared.table.Table.{Table}
use Rattle.tile_table.proofs.Visits.{HasRow, WalkLaws, cell_told, row_of}

-- the numbers of cells are small
abbrev pub AreSmall : Type 0
AreSmall = (program : Program) (params : List ℤ) (c : Cell) → WithinLimits program params
    → IsCell (layout program params) c → cell_number (layout program params) c < 2 ^ 22

-- what comes next of a list, and that none is left
pub next_left : {A : Type 0} (xs : List A) (n : ℕ) (x : A) (rest : List A) → x ∷ rest ≡ drop n xs
    → (slice_get xs n ≡ Some x) × (rest ≡ drop (suc n) xs)
next_left [] zero x rest e = absurd cc
next_left [] (suc n) x rest e = absurd cc
next_left {A} (y ∷ xs) zero x rest e =
    let head : x ≡ y = cc in
    let tail : rest ≡ xs = cc in
    (ap Some (sym head), tail)
next_left (y ∷ xs) (suc n) x rest e = next_left xs n x rest e

pub none_left : {A : Type 0} (xs : List A) (n : ℕ) → [] ≡ drop n xs → length xs ≤ n
none_left [] n e = omega arith
none_left (x ∷ xs) zero e = absurd cc
none_left (x ∷ xs) (suc n) e = let l = none_left xs n e in omega (arith, l)

module _ (program : Program) (params : List ℤ) where
  abbrev walk : List Visit
  walk = walk_of program params

  -- the place with this number comes next, and the rest behind it
  pub record NextPlace (n : ℕ) (x : Instance) (rest : List Instance) : Type 0 where
    pub visit : Visit
    pub at : slice_get walk n ≡ Some visit
    pub same : instance visit ≡ x
    pub left : rest ≡ drop (suc n) (map instance walk)

  pub next_place : (n : ℕ) (x : Instance) (all rest : List Instance) → all ≡ x ∷ rest
      → all ≡ drop n (map instance walk) → NextPlace n x rest
  next_place n x all rest is left =
      let next = next_left (map instance walk) n x rest (sym is ∙ left) in
      let less = slice_get_within (map instance walk) n x next.0 in
      let long = length-map walk instance in
      let there = there_is walk n (omega (arith, less, long)) in
      let both : Some (instance there.0) ≡ Some x =
      sym (ap (option_map instance) there.1) ∙ (sym (slice_get-map instance walk n) ∙ next.0) in
      record { visit = there.0; at = there.1; same = cc; left = next.1 }

  -- it is an instance of the walk
  pub next_walked : (n : ℕ) (x : Instance) (rest : List Instance) → NextPlace n x rest → In x (map instance walk)
  next_walked n x rest next =
      subst (λ y. In y (map instance walk)) next.same
      (in_map instance next.visit walk (in_from_place walk n next.visit next.at))

  module _ (table : Table) (told : IsTableOf program params table) (laws : WalkLaws) where
    pub next_row : (n : ℕ) (x : Instance) (rest : List Instance) (next : NextPlace n x rest)
        → HasRow program params table x next.visit
    next_row n x rest next =
        row_of laws program params table x next.visit told
        (record { walked = in_from_place walk n next.visit next.at; same = next.same })

    pub row_within : (n : ℕ) (x : Instance) (rest : List Instance) → NextPlace n x rest
        → x.number < length table.rows.items
    row_within n x rest next =
        let has = next_row n x rest next in
        slice_get_within table.rows.items x.number has.row has.told

    pub same_row : (n : ℕ) (x : Instance) (rest : List Instance) (next : NextPlace n x rest) (row : Row)
        → slice_get table.rows.items x.number ≡ Some row → (next_row n x rest next).row ≡ row
    same_row n x rest next row told =
        let has = next_row n x rest next in
        let both : Some has.row ≡ Some row = sym has.told ∙ told in
        cc

    -- the row has a form for each access of the place
    pub as_many : (n : ℕ) (x : Instance) (rest : List Instance) (next : NextPlace n x rest)
        → length (next_row n x rest next).row.cells.items ≡ length (accesses next.visit.body)
    as_many n x rest next =
        let has = next_row n x rest next in
        has.fits.forms.count ∙ ap (λ (s : Statement). length (accesses s)) has.body

    -- and the form tells the access's cell
    pub told_at : WithinLimits program params → IsInside program params → AreSmall → (n : ℕ) (x : Instance)
        (rest : List Instance) (next : NextPlace n x rest) (a : ℕ) (access : Access) (form : Affine)
        → slice_get (accesses next.visit.body) a ≡ Some access
        → slice_get (next_row n x rest next).row.cells.items a ≡ Some form
        → IsCell (layout program params) (cell_of access next.visit.point)
        × (wrapped (value_of form x.turns) ≡ cell_number (layout program params) (cell_of access next.visit.point))
    told_at limits inside small n x rest next a access form accessed formed =
        let v = next.visit in
        let cell = inside v (in_from_place walk n v next.at) access (in_from_place (accesses v.body) a access accessed) in (
          cell,
          cell_told program params table x v a access (wrapped (value_of form x.turns)) cell
              (small program params (cell_of access v.point) limits cell) (next_row n x rest next) accessed
              (λ other e. one_form form other (sym formed ∙ e)),
        )
      where
        one_form : (form other : Affine) → Some form ≡ Some other
            → wrapped (value_of form x.turns) ≡ wrapped (value_of other x.turns)
        one_form form other e =
            let same : form ≡ other = cc in ap (λ (f : Affine). wrapped (value_of f x.turns)) same
