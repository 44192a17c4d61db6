-- A program is inside where each access of each statement is, at all turns at which the statement runs (`inside_by`).
use Rattle.scop_syntax.proofs.Common.{List, ℕ, sym, subst, ℤ, Access, Program, In, Visit, Placed, Runs, point_of}
use Rattle.scop_syntax.proofs.Common.{statements_of, accesses, cell_of, IsCell, IsInside, layout}
use Rattle.scop_syntax.proofs.Statements.{found_at}

-- each access of a statement lies inside at all turns at which the statement runs
abbrev pub PlacedInside : List (List ℕ) → List ℤ → Placed → Type 0
PlacedInside extents params p =
    (xs : List ℤ) → Runs p.scopes params xs → (access : Access) → In access (accesses p.body)
    → IsCell extents (cell_of access (point_of p.scopes params xs))

pub inside_by : (program : Program) (params : List ℤ)
    → ((p : Placed) → In p (statements_of program) → PlacedInside (layout program params) params p)
    → IsInside program params
inside_by program params each v walked access touched =
    let found = found_at program.body 0 params v walked in
    subst (λ (w : Visit). In access (accesses w.body) → IsCell (layout program params) (cell_of access w.point))
    (sym found.4) (each found.0 found.2 found.1 found.3 access) touched
