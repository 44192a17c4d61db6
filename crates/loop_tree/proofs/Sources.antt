-- The loop tree of a source visits the source's walk; it is flat, serial, and over its variables.
use Rattle.scop_syntax.proofs.Common.{◌≡◌, ℕ, ◌+◌, Bool, true, false, ℤ, pos, List, [], ◌∷◌, ◌++◌, map, length, ap, ap₂}
use Rattle.scop_syntax.proofs.Common.{sym, ◌∙◌, refl, arith, length-append, append-nil, ◌+ℤ◌, ◌-ℤ◌, ◌*ℤ◌, if◌then◌else◌}
use Rattle.scop_syntax.proofs.Common.{unsigned_abs, le_z, ints, map-append, zeros, Affine, form_of, value_of, composed}
use Rattle.scop_syntax.proofs.Common.{floor, ceiling, dot-zeros, mul_zero_right, value_of-composed, Head, statement}
use Rattle.scop_syntax.proofs.Common.{values, loops_in, point_of, Instance, turn_point, condition_at, most_turns}
use Rattle.scop_syntax.proofs.Common.{statements_in, condition_falls, loop_turns}
use Rattle.std.proofs.lemmas.List.{append_assoc}
use Rattle.scop_syntax.specs.Tree.{Test as Comparison, at_least as is_up, equal as is_zero, Tree as Item}
use Rattle.scop_syntax.specs.Tree.{loop as repeated, guard as guarded, Trees as Items, none as nothing}
use Rattle.scop_syntax.specs.Tree.{more as followed}
use Rattle.scop_syntax.specs.Walk.{Visit as Step, within}
use Rattle.scop_syntax.specs.Walk.{holds as comparison_holds, all_hold as comparisons_hold}
use Rattle.scop_syntax.specs.Walk.{walk as source_walk, walk_all as source_walk_all}
use Rattle.iteration_domains.specs.Rows.{variables}
use Rattle.iteration_domains.specs.Path.{Path, CanModel}
use Rattle.iteration_domains.proofs.RowLaws.{values-variables, goes_on}
use Rattle.iteration_domains.proofs.TreeStatements.{can_first, can_rest, can_loop, can_guard}
use Rattle.loop_tree.specs.Tree.{only}
use Rattle.loop_tree.specs.Walk.{lower, upper, holds, all_hold, Visit, through, between, walk, walk_all, given}
use Rattle.loop_tree.specs.Marks.{AreTests, Flat, FlatAll}
use Rattle.loop_tree.specs.Shape.{IsSerial, AreSerial}
use Rattle.loop_tree.specs.Source.{variables_at, point_at, in_loop, in_guard, first_turn, last_turn, test_over, source}
use Rattle.loop_tree.specs.Source.{sources}
use Rattle.loop_tree.proofs.Places.{point_of-loop, point_of-guard, values_at, head_at, turns_within, turns_guarded}
use Rattle.loop_tree.proofs.Turns.{stride_positive, runs_until, along_turns}

-- the instance of a step of the source, within loops at these turns
abbrev pub behind : List ℤ → Step → Instance
behind outer v = record { number = v.number; turns = outer ++ v.turns }

pub given_through : (flag : Bool) (x : ℤ) (vs : List Visit) → map given (map (through flag x) vs) ≡ map given vs
given_through flag x [] = refl
given_through flag x (v ∷ vs) = ap (λ (is : List Instance). given v ∷ is) (given_through flag x vs)

behind_within : (outer : List ℤ) (k : ℕ) (x : ℤ) (vs : List Step)
    → map (behind outer) (map (within k x) vs) ≡ map (behind (outer ++ x ∷ [])) vs
behind_within outer k x [] = refl
behind_within outer k x (v ∷ vs) =
    ap₂ (λ (xs : List ℤ) (is : List Instance). record { number = v.number; turns = xs } ∷ is)
    (sym (append_assoc outer (x ∷ []) v.turns)) (behind_within outer k x vs)

choice : (b : Bool) (outer : List ℤ) (ws : List Visit) (vs : List Step) → map given ws ≡ map (behind outer) vs
    → map given (if b then ws else []) ≡ map (behind outer) (if b then vs else [])
choice true outer ws vs e = e
choice false outer ws vs e = refl

-- comparisons hold as they do at the point
holds_over : (n : ℕ) (forms : List Affine) (test : Comparison) (x : List ℤ)
    → holds (test_over n forms test) x ≡ comparison_holds test (values forms x)
holds_over n forms (is_up f) x = ap (λ z. le_z (pos 0) z) (value_of-composed f forms n x)
holds_over n forms (is_zero f) x =
    ap (λ z. if le_z (pos 0) z then le_z z (pos 0) else false) (value_of-composed f forms n x)

pub all_hold_over : (n : ℕ) (forms : List Affine) (tests : List Comparison) (x : List ℤ)
    → all_hold (map (test_over n forms) tests) x ≡ comparisons_hold tests (values forms x)
all_hold_over n forms [] x = refl
all_hold_over n forms (test ∷ tests) x =
    ap₂ (λ (a b : Bool). if a then b else false) (holds_over n forms test x) (all_hold_over n forms tests x)

-- where the loop of a head starts, and where it ends
pub starts_at : (n : ℕ) (x : List ℤ) → lower (only (first_turn n)) x ≡ pos 0
starts_at n x =
    let d = dot-zeros n x in
    let v : value_of (form_of (zeros n) (pos 0)) x ≡ pos 0 = omega (arith, ints) in
    ap (λ z. ceiling z (pos 1)) v

pub ends_at : (n : ℕ) (forms : List Affine) (head : Head) (x p : List ℤ) → values forms x ≡ p
    → upper (only (last_turn n forms head)) x
    ≡ floor (condition_at head p (pos 0)) (pos (unsigned_abs head.stride))
ends_at n forms head x p is =
    let first = composed head.first forms n in
    let begun : value_of first x ≡ value_of head.first p +ℤ (head.stride *ℤ pos 0) =
    let c = value_of-composed head.first forms n x ∙ ap (λ (q : List ℤ). value_of head.first q) is in
    let z = mul_zero_right head.stride in
    omega (arith, ints) in
    let point : values (forms ++ first ∷ []) x ≡ turn_point head p (pos 0) =
    map-append (λ form. value_of form x) forms (first ∷ [])
    ∙ ap₂ (λ (q : List ℤ) (z : ℤ). q ++ z ∷ []) is begun in
    ap (λ z. floor z (pos (unsigned_abs head.stride)))
    (value_of-composed head.condition (forms ++ first ∷ []) n x
    ∙ ap (λ (q : List ℤ). value_of head.condition q) point)

mutual
  -- a tree visits, within loops at these turns, what its source walks at the point there
  pub source_walks : (path : Path) (t : Item) (k : ℕ) (params outer : List ℤ) → CanModel path (followed t nothing)
      → length params ≡ path.parameters → length outer ≡ loops_in path.scopes
      → map given (walk (source path t k) params outer)
      ≡ map (behind outer) (source_walk t k (point_of path.scopes params outer))
  source_walks path (repeated head body) k params outer can count l =
      let p = point_of path.scopes params outer in
      let x = outer ++ params in
      let n = variables_at path in
      let is = head_at path head body params outer can count l in
      let last = floor (condition_at head p (pos 0)) (pos (unsigned_abs head.stride)) in
      let inner = in_loop path head k in
      let ws : ℤ → List Visit =
      λ y. map (through false y) (walk_all (sources inner body k) params (outer ++ y ∷ [])) in
      let vs : ℕ → List Step =
      λ j. map (within k (pos j)) (source_walk_all body k (turn_point head p (pos j))) in
      let each : (j : ℕ) → map given (ws (pos j)) ≡ map (behind outer) (vs j) =
      λ j.
      given_through false (pos j) (walk_all (sources inner body k) params (outer ++ pos j ∷ []))
      ∙ (sources_walk inner body k params (outer ++ pos j ∷ []) (can_loop path head body k can) count
      (turns_within path head body k outer (pos j) can l)
      ∙ (ap (λ (q : List ℤ). map (behind (outer ++ pos j ∷ [])) (source_walk_all body k q))
      (point_of-loop path.scopes head params outer (pos j) l)
      ∙ sym (behind_within outer k (pos j) (source_walk_all body k (turn_point head p (pos j)))))) in
      let m = most_turns (last -ℤ pos 0) in
      let high = ends_at n (point_at path) head x p
      (values_at path (followed (repeated head body) nothing) params outer can count l) in
      ap₂ (λ (a b : ℤ). map given (between ws a b)) (starts_at n x) high
      ∙ (along_turns given (behind outer) ws vs m 0 each
      ∙ ap (map (behind outer))
      (sym (loop_turns (λ j. condition_at head p (pos j)) vs m (condition_falls head p is) (runs_until head p is))))
  source_walks path (guarded tests body) k params outer can count l =
      let p = point_of path.scopes params outer in
      let x = outer ++ params in
      let n = variables_at path in
      let inner = in_guard path tests in
      let same : all_hold (map (test_over n (point_at path)) tests) x ≡ comparisons_hold tests p =
      all_hold_over n (point_at path) tests x
      ∙ ap (comparisons_hold tests)
      (values_at path (followed (guarded tests body) nothing) params outer can count l) in
      let ws = walk_all (sources inner body k) params outer in
      let vs = source_walk_all body k p in
      let deep : map given ws ≡ map (behind outer) vs =
      sources_walk inner body k params outer (can_guard path tests body can) count
      (turns_guarded path tests body outer can l)
      ∙ ap (λ (q : List ℤ). map (behind outer) (source_walk_all body k q))
      (point_of-guard path.scopes tests params outer l) in
      ap (λ (b : Bool). map given (if b then walk_all (sources inner body k) params outer else [])) same
      ∙ choice (comparisons_hold tests p) outer ws vs deep
  source_walks path (statement s) k params outer can count l =
      let n = variables_at path in
      let d = length path.loops in
      let x = outer ++ params in
      let here = can.loops in
      let a = length-append outer params in
      let e : values (variables n 0 d) x ≡ outer =
      values-variables n 0 d x outer (omega arith) (omega arith) (goes_on [] outer params) in
      ap (λ (ts : List ℤ). record { number = k; turns = ts } ∷ []) (e ∙ sym (append-nil outer))

  -- so do trees, one after another
  pub sources_walk : (path : Path) (ts : Items) (k : ℕ) (params outer : List ℤ) → CanModel path ts
      → length params ≡ path.parameters → length outer ≡ loops_in path.scopes
      → map given (walk_all (sources path ts k) params outer)
      ≡ map (behind outer) (source_walk_all ts k (point_of path.scopes params outer))
  sources_walk path nothing k params outer can count l = refl
  sources_walk path (followed t ts) k params outer can count l =
      let p = point_of path.scopes params outer in
      let next = k + statements_in t in
      map-append given (walk (source path t k) params outer) (walk_all (sources path ts next) params outer)
      ∙ (ap₂ (λ (is js : List Instance). is ++ js)
      (source_walks path t k params outer (can_first path t ts can) count l)
      (sources_walk path ts next params outer (can_rest path t ts can) count l)
      ∙ sym (map-append (behind outer) (source_walk t k p) (source_walk_all ts next p)))

-- within no loop a step's instance is its own
pub behind_nothing : (vs : List Step) → map (behind []) vs ≡ map (λ v. record { number = v.number; turns = v.turns }) vs
behind_nothing [] = refl
behind_nothing (v ∷ vs) = ap (λ (is : List Instance). behind [] v ∷ is) (behind_nothing vs)

-- composed comparisons are tests
tests_are : (n : ℕ) (forms : List Affine) (tests : List Comparison) → AreTests (map (test_over n forms) tests)
tests_are n forms [] = tt
tests_are n forms (is_up f ∷ tests) = (tt, tests_are n forms tests)
tests_are n forms (is_zero f ∷ tests) = (tt, tests_are n forms tests)

mutual
  -- the tree has a test in each guard, and divisors from 1 on
  pub source_flat : (path : Path) (t : Item) (k : ℕ) → CanModel path (followed t nothing) → Flat (source path t k)
  source_flat path (repeated head body) k can = (
    omega (arith, ints),
    stride_positive (path.parameters + loops_in path.scopes) head can.trees.0.1,
    sources_flat (in_loop path head k) body k (can_loop path head body k can),
  )
  source_flat path (guarded [] body) k can = absurd (let some = can.trees.0.0 in omega arith)
  source_flat path (guarded (test ∷ tests) body) k can = (
    tests_are (variables_at path) (point_at path) (test ∷ tests),
    sources_flat (in_guard path (test ∷ tests)) body k (can_guard path (test ∷ tests) body can),
  )
  source_flat path (statement s) k can = tt

  pub sources_flat : (path : Path) (ts : Items) (k : ℕ) → CanModel path ts → FlatAll (sources path ts k)
  sources_flat path nothing k can = tt
  sources_flat path (followed t ts) k can = (
    source_flat path t k (can_first path t ts can),
    sources_flat path ts (k + statements_in t) (can_rest path t ts can),
  )

mutual
  -- no loop is parallel
  pub source_serial : (path : Path) (t : Item) (k : ℕ) → IsSerial (source path t k)
  source_serial path (repeated head body) k = (refl, sources_serial (in_loop path head k) body k)
  source_serial path (guarded tests body) k = sources_serial (in_guard path tests) body k
  source_serial path (statement s) k = tt

  pub sources_serial : (path : Path) (ts : Items) (k : ℕ) → AreSerial (sources path ts k)
  sources_serial path nothing k = tt
  sources_serial path (followed t ts) k = (source_serial path t k, sources_serial path ts (k + statements_in t))
