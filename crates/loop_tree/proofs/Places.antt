-- Places in a source's tree: the point within one loop or guard more, and when a statement runs there.
use Rattle.scop_syntax.proofs.Common.{◌≡◌, ℕ, ◌+◌, ℤ, pos, List, [], ◌∷◌, ◌++◌, length, ap, ap₂, sym, ◌∙◌, refl, arith}
use Rattle.scop_syntax.proofs.Common.{subst, length-append, ◌≤ℤ◌, length-map, value_of, values, IsHead, Test, Head}
use Rattle.scop_syntax.proofs.Common.{Statement, assigned, loop, guard, Trees, none, more, turn_point, condition_at}
use Rattle.scop_syntax.proofs.Common.{Scope, round, under, loops_in, point_of, AllHold, Runs}
use Rattle.scop_syntax.specs.Tree.{constant}
use Rattle.iteration_domains.specs.Rows.{variables, forms_from}
use Rattle.iteration_domains.specs.Path.{Path, CanModel, placed_at}
use Rattle.iteration_domains.proofs.RowLaws.{values-point}
use Rattle.iteration_domains.proofs.TreeStatements.{point_forms_are, can_loop, can_guard}
use Rattle.loop_tree.specs.Source.{point_at}

-- the point within one loop more
pub point_of-loop : (scopes : List Scope) (head : Head) (point xs : List ℤ) (x : ℤ) → length xs ≡ loops_in scopes
    → point_of (scopes ++ round head ∷ []) point (xs ++ x ∷ []) ≡ turn_point head (point_of scopes point xs) x
point_of-loop [] head point [] x l = refl
point_of-loop [] head point (y ∷ xs) x l = absurd (omega arith)
point_of-loop (under tests ∷ scopes) head point xs x l = point_of-loop scopes head point xs x l
point_of-loop (round h ∷ scopes) head point [] x l = absurd (omega arith)
point_of-loop (round h ∷ scopes) head point (y ∷ xs) x l =
    point_of-loop scopes head (turn_point h point y) xs x (omega arith)

-- within one guard more it is the same
pub point_of-guard : (scopes : List Scope) (tests : List Test) (point xs : List ℤ) → length xs ≡ loops_in scopes
    → point_of (scopes ++ under tests ∷ []) point xs ≡ point_of scopes point xs
point_of-guard [] tests point xs l = refl
point_of-guard (under others ∷ scopes) tests point xs l = point_of-guard scopes tests point xs l
point_of-guard (round h ∷ scopes) tests point [] l = absurd (omega arith)
point_of-guard (round h ∷ scopes) tests point (y ∷ xs) l =
    point_of-guard scopes tests (turn_point h point y) xs (omega arith)

-- what runs at a turn of one loop more
pub runs_loop : (scopes : List Scope) (head : Head) (point xs : List ℤ) (x : ℤ) → Runs scopes point xs → pos 0 ≤ℤ x
    → pos 0 ≤ℤ condition_at head (point_of scopes point xs) x
    → Runs (scopes ++ round head ∷ []) point (xs ++ x ∷ [])
runs_loop [] head point [] x r up h = (up, h, tt)
runs_loop [] head point (y ∷ xs) x r up h = absurd r
runs_loop (under tests ∷ scopes) head point xs x r up h = (r.0, runs_loop scopes head point xs x r.1 up h)
runs_loop (round g ∷ scopes) head point [] x r up h = absurd r
runs_loop (round g ∷ scopes) head point (y ∷ xs) x r up h =
    (r.0, r.1, runs_loop scopes head (turn_point g point y) xs x r.2 up h)

-- and within one guard more
pub runs_guard : (scopes : List Scope) (tests : List Test) (point xs : List ℤ) → Runs scopes point xs
    → AllHold tests (point_of scopes point xs) → Runs (scopes ++ under tests ∷ []) point xs
runs_guard [] tests point [] r h = (h, tt)
runs_guard [] tests point (y ∷ xs) r h = absurd r
runs_guard (under others ∷ scopes) tests point xs r h = (r.0, runs_guard scopes tests point xs r.1 h)
runs_guard (round g ∷ scopes) tests point [] r h = absurd r
runs_guard (round g ∷ scopes) tests point (y ∷ xs) r h =
    (r.0, r.1, runs_guard scopes tests (turn_point g point y) xs r.2 h)

-- any statement
nothing_done : Statement
nothing_done = record { place = record { array = 0; subscripts = [] }; right = assigned (constant 0) }

-- the forms of the place have the values of the point
pub values_at : (path : Path) (ts : Trees) (params outer : List ℤ) → CanModel path ts
    → length params ≡ path.parameters → length outer ≡ loops_in path.scopes
    → values (point_at path) (outer ++ params) ≡ point_of path.scopes params outer
values_at path ts params outer can count l =
    let ss = path.scopes in
    ap₂ (λ (d m : ℕ). values (forms_from (d + m) 0 ss (variables (d + m) d m)) (outer ++ params)) can.loops (sym count)
    ∙ values-point (placed_at path 0 nothing_done) params outer l

-- how many entries the point has
pub length-point : (path : Path) (ts : Trees) (params outer : List ℤ) → CanModel path ts
    → length params ≡ path.parameters → length outer ≡ loops_in path.scopes
    → length (point_of path.scopes params outer) ≡ path.parameters + loops_in path.scopes
length-point path ts params outer can count l =
    sym (ap (λ (xs : List ℤ). length xs) (values_at path ts params outer can count l))
    ∙ (length-map (point_at path) (λ form. value_of form (outer ++ params)) ∙ (point_forms_are path ts can).count)

-- a loop's head is one at the point
pub head_at : (path : Path) (head : Head) (body : Trees) (params outer : List ℤ)
    → CanModel path (more (loop head body) none) → length params ≡ path.parameters
    → length outer ≡ loops_in path.scopes → IsHead (length (point_of path.scopes params outer)) head
head_at path head body params outer can count l =
    subst (λ n. IsHead n head) (sym (length-point path (more (loop head body) none) params outer can count l))
    can.trees.0.1

-- within one loop more there is one turn more
pub turns_within : (path : Path) (head : Head) (body : Trees) (k : ℕ) (outer : List ℤ) (x : ℤ)
    → CanModel path (more (loop head body) none) → length outer ≡ loops_in path.scopes
    → length (outer ++ x ∷ []) ≡ loops_in (path.scopes ++ round head ∷ [])
turns_within path head body k outer x can l =
    let inner = (can_loop path head body k can).loops in
    let here = can.loops in
    let a = length-append outer (x ∷ []) in
    let b = length-append path.loops (k ∷ []) in
    omega arith

-- within one guard more as many
pub turns_guarded : (path : Path) (tests : List Test) (body : Trees) (outer : List ℤ)
    → CanModel path (more (guard tests body) none) → length outer ≡ loops_in path.scopes
    → length outer ≡ loops_in (path.scopes ++ under tests ∷ [])
turns_guarded path tests body outer can l =
    let inner = (can_guard path tests body can).loops in
    let here = can.loops in
    omega arith
