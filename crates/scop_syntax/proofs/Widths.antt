-- Cells hold numbers of their types, whatever runs: those of 32 bits hold no more.
use Rattle.whole_numbers.proofs.Common.{◌≡◌, ℕ, zero, suc, ◌+◌, ◌*◌, ◌^◌, ◌<◌, Bool, true, false, ℤ, List, [], ◌∷◌, map}
use Rattle.whole_numbers.proofs.Common.{get_or, take, set, inl, inr, ap, subst, sym, refl, arith, All, length}
use Rattle.whole_numbers.proofs.Common.{mod_below, All-nil, All-cons, div-le_self}
use Rattle.scop_syntax.specs.Tree.{Access, narrowed, Right, assigned, moved_right}
use Rattle.scop_syntax.specs.Tree.{combined_narrow, moved_left_narrow, Statement, Tree, loop, guard, statement, Trees}
use Rattle.scop_syntax.specs.Tree.{none, more, Program}
use Rattle.scop_syntax.specs.Members.{In}
use Rattle.scop_syntax.specs.Walk.{Visit, statements_in, walk_of}
use Rattle.scop_syntax.specs.Cells.{cell_of, reads, reads_of, reads_with}
use Rattle.scop_syntax.specs.Values.{applied, value_on, stored_by}
use Rattle.scop_syntax.specs.Execution.{layout, offset_of, held, value_stored_by, performed, performed_all, exec}
use Rattle.scop_syntax.specs.Execution.{before_place}
use Rattle.scop_syntax.specs.Kernel.{HasWidth, KeepsWidths, KeepWidths, IsKernel, IsStatement, narrow_arrays}
use Rattle.scop_syntax.specs.Kernel.{ranks_of}
use Rattle.scop_syntax.specs.Statements.{Placed, in_loop_of, in_guard_of, placed, placed_all, loops_in}
use Rattle.scop_syntax.specs.Widths.{HoldTypes, HoldWidths, bits}
use Rattle.scop_syntax.proofs.Members.{in_append, in_map_from}
use Rattle.scop_syntax.proofs.Statements.{found_at}
use Rattle.scop_syntax.proofs.Kernels.{kernel_placed}
use Rattle.scop_syntax.proofs.Values.{stored_below}

-- the statement has the width of its place
abbrev Keeps : List Bool → Statement → Type 0
Keeps narrow s = HasWidth narrow (get_or narrow s.place.array false) s.right

mutual
  placed_keeps : (narrow : List Bool) (t : Tree) (n : ℕ) (p : Placed) → KeepsWidths narrow t → In p (placed t n)
      → Keeps narrow p.body
  placed_keeps narrow (loop head body) n p widths h =
      let q = in_map_from (in_loop_of n head) p (placed_all body n) h in
      subst (λ r. Keeps narrow r.body) (sym q.2) (all_keep narrow body n q.0 widths q.1)
  placed_keeps narrow (guard tests body) n p widths h =
      let q = in_map_from (in_guard_of tests) p (placed_all body n) h in
      subst (λ r. Keeps narrow r.body) (sym q.2) (all_keep narrow body n q.0 widths q.1)
  placed_keeps narrow (statement s) n p widths (inl e) = subst (λ r. Keeps narrow r.body) (sym e) widths
  placed_keeps narrow (statement s) n p widths (inr h) = absurd h

  all_keep : (narrow : List Bool) (ts : Trees) (n : ℕ) (p : Placed) → KeepWidths narrow ts → In p (placed_all ts n)
      → Keeps narrow p.body
  all_keep narrow none n p widths h = absurd h
  all_keep narrow (more t ts) n p widths h = elim (in_append p (placed t n) (placed_all ts (n + statements_in t)) h) [
    | inl g ↦ placed_keeps narrow t n p widths.0 g
    | inr g ↦ all_keep narrow ts (n + statements_in t) p widths.1 g
  ]

-- what is stored is kept to 32 bits, or is a part of what the cell held
stored_narrow : (narrow : List Bool) (right : Right) (place : Access) (point : List ℤ) (es rows : List (List ℕ))
    → HasWidth narrow true right → held es rows (cell_of place point) < 2 ^ 32
    → stored_by right point (map (λ access. held es rows (cell_of access point)) (reads_with place right)) < 2 ^ 32
stored_narrow narrow (assigned (narrowed w e)) place point es rows width own =
    mod_below (value_on e point (map (λ access. held es rows (cell_of access point)) (reads_of e))) (2 ^ 32)
    (omega arith)
stored_narrow narrow (moved_right k) place point es rows width own =
    let d = div-le_self (held es rows (cell_of place point)) (2 ^ k) in omega arith
stored_narrow narrow (combined_narrow op e) place point es rows width own =
    mod_below (applied op (held es rows (cell_of place point))
    (value_on e point (map (λ access. held es rows (cell_of access point)) (reads_of e)))) (2 ^ 32) (omega arith)
stored_narrow narrow (moved_left_narrow k) place point es rows width own =
    mod_below (held es rows (cell_of place point) * 2 ^ k) (2 ^ 32) (omega arith)
stored_narrow narrow right place point es rows width own = absurd width

-- an element of a list with another in one place is that other, or what stood there
set_keeps : {A : Type 0} (P : A → Type 0) (xs : List A) (i : ℕ) (x : A) (k : ℕ) (d : A) → (k ≡ i → P x)
    → P (get_or xs k d) → P (get_or (set xs i x) k d)
set_keeps P [] i x k d new old = old
set_keeps P (y ∷ ys) zero x zero d new old = new refl
set_keeps P (y ∷ ys) zero x (suc k) d new old = old
set_keeps P (y ∷ ys) (suc i) x zero d new old = old
set_keeps P (y ∷ ys) (suc i) x (suc k) d new old = set_keeps P ys i x k d (λ e. new (ap suc e)) old

-- what each cell holds, by the number of its array
abbrev Hold : (ℕ → ℕ → Type 0) → List (List ℕ) → Type 0
Hold P rows = (a k : ℕ) → P a (get_or (get_or rows a []) k 0)

visit_holds : (P : ℕ → ℕ → Type 0) (es rows : List (List ℕ)) (v : Visit)
    → P v.body.place.array (value_stored_by es rows v.body v.point) → Hold P rows → Hold P (performed es rows v)
visit_holds P es rows v new hold a k =
    let cell = cell_of v.body.place v.point in
    let row = get_or rows cell.array [] in
    let value = value_stored_by es rows v.body v.point in
    set_keeps (λ cells. P a (get_or cells k 0)) rows cell.array (set row (offset_of es cell) value) a []
    (λ e.
    set_keeps (P a) row (offset_of es cell) value k 0 (λ _. subst (λ i. P i value) (sym e) new)
    (subst (λ i. P i (get_or row k 0)) (sym e) (hold cell.array k)))
    (hold a k)

visits_hold : (P : ℕ → ℕ → Type 0) (es rows : List (List ℕ)) (visits : List Visit)
    → ((v : Visit) → In v visits → (now : List (List ℕ)) → Hold P now
    → P v.body.place.array (value_stored_by es now v.body v.point))
    → Hold P rows → Hold P (performed_all es rows visits)
visits_hold P es rows [] new hold = hold
visits_hold P es rows (v ∷ vs) new hold =
    visits_hold P es (performed es rows v) vs (λ u h. new u (inr h))
    (visit_holds P es rows v (new v (inl refl) rows hold) hold)

-- the statement of an instance
pub instance_is : (program : Program) (params : List ℤ) → IsKernel program → (v : Visit)
    → In v (walk_of program params)
    → (n : ℕ) × IsStatement (ranks_of program) n v.body × Keeps (narrow_arrays program) v.body
instance_is program params is v h =
    let f = found_at program.body 0 params v h in
    let body = (kernel_placed program f.0 is f.2).body in
    let n = length program.parameters + loops_in f.0.scopes in (
      n,
      subst (λ (u : Visit). IsStatement (ranks_of program) n u.body) (sym f.4) body,
      subst (λ (u : Visit). Keeps (narrow_arrays program) u.body) (sym f.4)
          (all_keep (narrow_arrays program) program.body 0 f.0 is.widths f.2),
    )

in_taken : {A : Type 0} (x : A) (n : ℕ) (xs : List A) → In x (take n xs) → In x xs
in_taken x zero xs h = absurd h
in_taken x (suc n) [] h = h
in_taken x (suc n) (y ∷ ys) (inl e) = inl e
in_taken x (suc n) (y ∷ ys) (inr h) = inr (in_taken x n ys h)

-- a cell of 32 bits
abbrev IsNarrow : List Bool → ℕ → ℕ → Type 0
IsNarrow narrow a v = get_or narrow a false ≡ true → v < 2 ^ 32

width_kept : (program : Program) (params : List ℤ) → IsKernel program → (v : Visit) → In v (walk_of program params)
    → (rows : List (List ℕ)) → HoldWidths (narrow_arrays program) rows → IsNarrow (narrow_arrays program)
    v.body.place.array (value_stored_by (layout program params) rows v.body v.point)
width_kept program params is v h rows hold narrow =
    let es = layout program params in
    let width = (instance_is program params is v h).2 in
    stored_narrow (narrow_arrays program) v.body.right v.body.place v.point es rows
    (subst (λ b. HasWidth (narrow_arrays program) b v.body.right) narrow width)
    (hold v.body.place.array (offset_of es (cell_of v.body.place v.point)) narrow)

pub kernel_keeps : (program : Program) (params : List ℤ) (contents : List (List ℕ)) → IsKernel program
    → HoldWidths (narrow_arrays program) contents → HoldWidths (narrow_arrays program) (exec program params contents)
kernel_keeps program params contents is hold =
    visits_hold (IsNarrow (narrow_arrays program)) (layout program params) contents (walk_of program params)
    (width_kept program params is) hold

pub places_keep : (program : Program) (params : List ℤ) (contents : List (List ℕ)) (j : ℕ) → IsKernel program
    → HoldWidths (narrow_arrays program) contents → HoldWidths (narrow_arrays program)
    (before_place (layout program params) contents (walk_of program params) j)
places_keep program params contents j is hold =
    visits_hold (IsNarrow (narrow_arrays program)) (layout program params) contents
    (take j (walk_of program params))
    (λ v h. width_kept program params is v (in_taken v j (walk_of program params) h)) hold

-- a cell's number is one of its array's type
type_below : (b : Bool) (v : ℕ) → v < 2 ^ bits b → v < 2 ^ 64
type_below true v h = omega arith
type_below false v h = h

pub held_below : (narrow : List Bool) (es rows : List (List ℕ)) (point : List ℤ) → HoldTypes narrow rows
    → (xs : List Access) → All (λ v. v < 2 ^ 64) (map (λ access. held es rows (cell_of access point)) xs)
held_below narrow es rows point hold [] = All-nil (λ v. v < 2 ^ 64)
held_below narrow es rows point hold (x ∷ xs) =
    All-cons (λ v. v < 2 ^ 64) _ _ (type_below (get_or narrow x.array false) _ (hold x.array _))
    (held_below narrow es rows point hold xs)

type_stored : (narrow : List Bool) (ranks : List ℕ) (n : ℕ) (es rows : List (List ℕ)) (s : Statement) (point : List ℤ)
    → IsStatement ranks n s → Keeps narrow s → HoldTypes narrow rows
    → value_stored_by es rows s point < 2 ^ bits (get_or narrow s.place.array false)
type_stored narrow ranks n es rows s point is width hold = by_width (get_or narrow s.place.array false) refl
  where
    by_width : (b : Bool) → get_or narrow s.place.array false ≡ b
        → value_stored_by es rows s point < 2 ^ bits (get_or narrow s.place.array false)
    by_width true e =
        subst (λ b. value_stored_by es rows s point < 2 ^ bits b) (sym e)
        (stored_narrow narrow s.right s.place point es rows (subst (λ b. HasWidth narrow b s.right) e width)
        (subst (λ b. held es rows (cell_of s.place point) < 2 ^ bits b) e (hold s.place.array _)))
    by_width false e =
        subst (λ b. value_stored_by es rows s point < 2 ^ bits b) (sym e)
        (stored_below ranks n s.right point _ is.right (held_below narrow es rows point hold (reads s)))

pub types_kept : (program : Program) (params : List ℤ) (contents : List (List ℕ)) (j : ℕ) → IsKernel program
    → HoldTypes (narrow_arrays program) contents → HoldTypes (narrow_arrays program)
    (before_place (layout program params) contents (walk_of program params) j)
types_kept program params contents j is hold =
    visits_hold (λ a v. v < 2 ^ bits (get_or (narrow_arrays program) a false)) (layout program params) contents
    (take j (walk_of program params))
    (λ v h rows now.
    let i = instance_is program params is v (in_taken v j (walk_of program params) h) in
    type_stored (narrow_arrays program) (ranks_of program) i.0 (layout program params) rows v.body v.point i.1 i.2 now)
    hold
