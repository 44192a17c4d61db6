-- The row of a visit's statement, and what it tells at the visit.
use Rattle.scop_syntax.proofs.Common.{◌≡◌, ◌∙◌, ap, sym, ℕ, ◌<◌, ◌^◌, ◌%◌, List, [], length, Some, arith, ℤ, slice_get}
use Rattle.scop_syntax.proofs.Common.{option_map, slice_get-map, slice_get_within, Affine, value_of, accesses, cell_of}
use Rattle.scop_syntax.proofs.Common.{IsCell, cell_number, layout, In, is_marked, loads, Placed, Runs, Scope, loops_in}
use Rattle.scop_syntax.proofs.Common.{statements_of, visit_of, Access, Program, Statement, wrapped, Instance, Visit}
use Rattle.scop_syntax.proofs.Common.{walk_of, place_of, there_is, Standing, heads_in, standing, standings_of}
use Rattle.scop_syntax.proofs.Common.{as_many_heads}
use Rattle.scop_meaning.specs.Instances.{IsVisitOf}
use Rattle.tile_table.specs.Codes.{given_by, value_by}
use Rattle.tile_table.specs.Numbers.{number_at}
use Rattle.tile_table.specs.Points.{point_in}
use Rattle.tile_table.specs.Tables.{IsRowBy, IsTableBy, IsTableOf, touched}
use Rattle.tile_table.specs.declared.table.Row.{Row}
use Rattle.tile_table.specs.declared.table.Table.{Table}
use Rattle.tile_table.proofs.Offsets.{number_exact}
use Rattle.tile_table.proofs.LoopPoints.{point_in_scopes}

-- the laws of walks and statements
pub record WalkLaws : Type 0 where
  pub found : (program : Program) (params : List ℤ) (v : Visit) → In v (walk_of program params)
      → (p : Placed) × (xs : List ℤ) × In p (statements_of program) × Runs p.scopes params xs
      × (v ≡ visit_of p params xs)
  pub turns : (scopes : List Scope) (params xs : List ℤ) → Runs scopes params xs → length xs ≡ loops_in scopes
  pub number : (program : Program) (k : ℕ) (p : Placed) → slice_get (statements_of program) k ≡ Some p → p.number ≡ k

-- the row of an instance's statement, and how its visit lies in it
pub record HasRowBy (marked : List ℕ) (program : Program) (params : List ℤ) (table : Table) (x : Instance)
    (v : Visit) : Type 0 where
  pub own : Standing
  pub row : Row
  pub told : slice_get table.rows.items x.number ≡ Some row
  pub fits : IsRowBy marked (layout program params) params own row
  pub body : own.body ≡ v.body
  pub turns : x.turns ≡ v.turns
  pub many : length v.turns ≡ length own.heads
  pub point : point_in own.heads params v.turns ≡ v.point

-- where no array is marked
abbrev pub HasRow : Program → List ℤ → Table → Instance → Visit → Type 0
HasRow = HasRowBy []

pub row_by : WalkLaws → (marked : List ℕ) (program : Program) (params : List ℤ) (table : Table) (x : Instance) (v : Visit)
    → IsTableBy marked program params table → IsVisitOf program params x v
    → HasRowBy marked program params table x v
row_by laws marked program params table x v is visit =
    let stood = laws.found program params v visit.walked in
    let p = stood.0 in
    let xs = stood.1 in
    let place = place_of (statements_of program) p stood.2 in
    let k = place.0 in
    let number : x.number ≡ k =
    sym (ap (λ (x : Instance). x.number) visit.same)
    ∙ (ap (λ (w : Visit). w.number) stood.4 ∙ laws.number program k p place.1) in
    let around = standing (heads_in p.scopes) p.body in
    let here : slice_get (standings_of program) k ≡ Some around =
    slice_get-map (λ (q : Placed). standing (heads_in q.scopes) q.body) (statements_of program) k
    ∙ ap (option_map (λ (q : Placed). standing (heads_in q.scopes) q.body)) place.1 in
    let within = slice_get_within (standings_of program) k around here in
    let count = is.count in
    let found = there_is table.rows.items k (omega (arith, within, count)) in
    let row = found.0 in
    let at = ap (slice_get table.rows.items) number ∙ found.1 in
    let fits = is.rows k around row here found.1 in
    let turned = ap (λ (w : Visit). w.turns) stood.4 in
    let heads = as_many_heads p.scopes in
    let long = laws.turns p.scopes params xs stood.3 in
    let same = ap (λ (l : List ℤ). length l) turned in
    record {
      own = around;
      row = row;
      told = at;
      fits = fits;
      body = ap (λ (w : Visit). w.body) (sym stood.4);
      turns = sym (ap (λ (x : Instance). x.turns) visit.same);
      many = omega (arith, heads, long, same);
      point = ap (point_in (heads_in p.scopes) params) turned
          ∙ (sym (point_in_scopes p.scopes params xs) ∙ ap (λ (w : Visit). w.point) (sym stood.4));
    }

pub row_of : WalkLaws → (program : Program) (params : List ℤ) (table : Table) (x : Instance) (v : Visit)
    → IsTableOf program params table → IsVisitOf program params x v → HasRow program params table x v
row_of laws program params table x v = row_by laws [] program params table x v

-- what the forms tell of what is touched is the number of the visit's cell
pub cell_told_by : (marked : List ℕ) (program : Program) (params : List ℤ) (table : Table) (x : Instance) (v : Visit)
    (a : ℕ) (access : Access) (result : ℕ) → IsCell (layout program params) (cell_of access v.point)
    → cell_number (layout program params) (cell_of access v.point) < 2 ^ 22
    → (has : HasRowBy marked program params table x v)
    → slice_get (touched (is_marked marked v.body.place.array) v.body) a ≡ Some access
    → ((form : Affine) → slice_get has.row.cells.items a ≡ Some form
    → result ≡ wrapped (value_of form x.turns))
    → result ≡ cell_number (layout program params) (cell_of access v.point)
cell_told_by marked program params table x v a access result cell small has at tells =
    let extents = layout program params in
    let c = cell_number extents (cell_of access v.point) in
    let there : slice_get (touched (is_marked marked has.own.body.place.array) has.own.body) a ≡ Some access =
    ap (λ (s : Statement). slice_get (touched (is_marked marked s.place.array) s) a) has.body ∙ at in
    let count = has.fits.forms.count in
    let within = slice_get_within (touched (is_marked marked has.own.body.place.array) has.own.body) a access there in
    let found = there_is has.row.cells.items a (omega (arith, count, within)) in
    let form = found.0 in
    let told = has.fits.forms.each a access form there found.1 v.turns has.many in
    tells form found.1
    ∙ (ap (λ (xs : List ℤ). wrapped (value_of form xs)) has.turns
    ∙ (told
    ∙ (ap (λ (p : List ℤ). wrapped (number_at extents access p)) has.point
    ∙ (ap wrapped (number_exact extents access v.point cell) ∙ kept c small))))
  where
    kept : (n : ℕ) → n < 2 ^ 22 → n % 2 ^ 64 ≡ n
    kept n less = omega (arith, less)

pub cell_told : (program : Program) (params : List ℤ) (table : Table) (x : Instance) (v : Visit) (a : ℕ)
    (access : Access) (result : ℕ) → IsCell (layout program params) (cell_of access v.point)
    → cell_number (layout program params) (cell_of access v.point) < 2 ^ 22
    → (has : HasRow program params table x v) → slice_get (accesses v.body) a ≡ Some access
    → ((form : Affine) → slice_get has.row.cells.items a ≡ Some form
    → result ≡ wrapped (value_of form x.turns))
    → result ≡ cell_number (layout program params) (cell_of access v.point)
cell_told program params table x v = cell_told_by [] program params table x v

-- the row tells whether the visit adds to its cell
pub adds_told : (marked : List ℕ) (program : Program) (params : List ℤ) (table : Table) (x : Instance) (v : Visit)
    (has : HasRowBy marked program params table x v) → has.row.adds ≡ is_marked marked v.body.place.array
adds_told marked program params table x v has =
    has.fits.adds_so ∙ ap (λ (s : Statement). is_marked marked s.place.array) has.body

-- the code in the row takes as many values as the visit loads
pub reads_told : (marked : List ℕ) (program : Program) (params : List ℤ) (table : Table) (x : Instance) (v : Visit)
    (has : HasRowBy marked program params table x v) → length (loads marked v.body) ≡ has.row.code.reads
reads_told marked program params table x v has =
    ap (λ (s : Statement). length (loads marked s)) (sym has.body) ∙ sym (has.fits.stored.reads has.own.body.place)

-- and makes of them what the visit stores or adds
pub value_told : (marked : List ℕ) (program : Program) (params : List ℤ) (table : Table) (x : Instance) (v : Visit)
    (values : List ℕ) (has : HasRowBy marked program params table x v) → length values ≡ length (loads marked v.body)
    → value_by has.row.code x.turns values
    ≡ given_by (is_marked marked v.body.place.array) v.body.right v.point values
value_told marked program params table x v values has long =
    ap (λ (xs : List ℤ). value_by has.row.code xs values) has.turns
    ∙ (has.fits.stored.value v.turns values has.many (long ∙ reads_told marked program params table x v has)
    ∙ (ap (λ (s : Statement). given_by (is_marked marked s.place.array) s.right
    (point_in has.own.heads params v.turns) values) has.body
    ∙ ap (λ (p : List ℤ). given_by (is_marked marked v.body.place.array) v.body.right p values) has.point))
