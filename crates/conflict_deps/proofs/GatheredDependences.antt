-- The dependences as the code gathers them: from access to access, from statement to statement.
use Rattle.scop_syntax.proofs.Common.{◌≡◌, ℕ, ◌+◌, ◌<◌, ◌≤◌, Bool, List, [], ◌∷◌, ◌++◌, length, drop, get_or, ap, ap₂}
use Rattle.scop_syntax.proofs.Common.{subst, sym, ◌∙◌, refl, add-one, drop-cons, All, flat_map, All-get_or}
use Rattle.scop_syntax.proofs.Common.{Affine, Access}
use Rattle.std.proofs.lemmas.List.{append_assoc}
use Rattle.integer_sets.specs.Constraints.{Constraints, system_of}
use Rattle.iteration_domains.specs.Sizes.{IsNarrow}
use Rattle.iteration_domains.specs.Model.{Modelled}
use Rattle.iteration_domains.specs.Constraints.{constraints_of}
use Rattle.iteration_domains.specs.Dependence.{Dependence, dependence}
use Rattle.iteration_domains.specs.declared.dep.DepEnd.{DepEnd}
use Rattle.conflict_deps.specs.Conflicts.{Side, side, sides_from, sides_of, loops_of, pair_size, tests_between, end_of}
use Rattle.conflict_deps.specs.Conflicts.{dep_of}
use Rattle.conflict_deps.specs.steps.View.{CanPair, ShowsTests, GainsTests, order_at}
use Rattle.conflict_deps.specs.declared.deps.PairRows.{PairRows}

-- an access of a statement that the code holds
pub pair_can : (m : ℕ) (s : Modelled) (k : ℕ) (a : Access) (found : List Access)
    → length s.loops ≡ s.domain.dimensions → s.domain.dimensions ≤ 5 → s.domain.parameters ≡ m
    → All (λ (b : Access). All (IsNarrow (s.domain.dimensions + s.domain.parameters)) b.subscripts) found
    → a ≡ get_or found k a → k < length found → CanPair m (side s k a)
pair_can m s k a found named few count narrow is h =
    let P : Access → Type 0 = λ b. All (IsNarrow (s.domain.dimensions + s.domain.parameters)) b.subscripts in
    let here : P a = subst (λ (b : Access). All (IsNarrow (s.domain.dimensions + s.domain.parameters)) b.subscripts)
    (sym is)
    (All-get_or P found k a h narrow) in
    record {
      parameters = count;
      loops = named;
      few_loops = few;
      narrow = subst (λ (n : ℕ). All (IsNarrow (s.domain.dimensions + n)) a.subscripts) count here;
    }

-- the accesses of a statement, of which the first have been gone through
pub sides_step : (f : Side → List Dependence) (s : Modelled) (found : List Access) (k : ℕ) (a : Access)
    (out next whole : List Dependence) → a ≡ get_or found k a → k < length found
    → out ++ flat_map f (sides_from s k (drop k found)) ≡ whole → next ≡ out ++ f (side s k a)
    → next ++ flat_map f (sides_from s (k + 1) (drop (k + 1) found)) ≡ whole
sides_step f s found k a out next whole is h so_far pushed =
    let rest = flat_map f (sides_from s (k + 1) (drop (k + 1) found)) in
    let first : drop k found ≡ get_or found k a ∷ drop (k + 1) found = rw (add-one, drop-cons found k a h) refl in
    let here : drop k found ≡ a ∷ drop (k + 1) found =
    first ∙ ap (λ (b : Access). b ∷ drop (k + 1) found) (sym is) in
    ap (λ (xs : List Dependence). xs ++ rest) pushed
    ∙ (append_assoc out (f (side s k a)) rest
    ∙ (ap (λ (as_list : List Access). out ++ flat_map f (sides_from s k as_list)) (sym here) ∙ so_far))

-- the statements, of which the first have been gone through
flat_map-append : (f : Side → List Dependence) (xs ys : List Side)
    → flat_map f (xs ++ ys) ≡ flat_map f xs ++ flat_map f ys
flat_map-append f [] ys = refl
flat_map-append f (x ∷ xs) ys =
    ap (λ (zs : List Dependence). f x ++ zs) (flat_map-append f xs ys)
    ∙ sym (append_assoc (f x) (flat_map f xs) (flat_map f ys))

pub statements_step : (f : Side → List Dependence) (ss : List Modelled) (i : ℕ) (s : Modelled)
    (out next whole : List Dependence) → s ≡ get_or ss i s → i < length ss
    → out ++ flat_map f (flat_map sides_of (drop i ss)) ≡ whole → next ≡ out ++ flat_map f (sides_of s)
    → next ++ flat_map f (flat_map sides_of (drop (i + 1) ss)) ≡ whole
statements_step f ss i s out next whole is h so_far pushed =
    let behind = flat_map sides_of (drop (i + 1) ss) in
    let first : drop i ss ≡ get_or ss i s ∷ drop (i + 1) ss = rw (add-one, drop-cons ss i s h) refl in
    let here : drop i ss ≡ s ∷ drop (i + 1) ss = first ∙ ap (λ (t : Modelled). t ∷ drop (i + 1) ss) (sym is) in
    ap (λ (xs : List Dependence). xs ++ flat_map f behind) pushed
    ∙ (append_assoc out (flat_map f (sides_of s)) (flat_map f behind)
    ∙ (ap (λ (xs : List Dependence). out ++ xs) (sym (flat_map-append f (sides_of s) behind))
    ∙ (ap (λ (ts : List Modelled). out ++ flat_map f (flat_map sides_of ts)) (sym here) ∙ so_far)))

-- what all statements have, one of them has
pub statement_has : (P : Modelled → Type 0) (ss : List Modelled) (i : ℕ) (s : Modelled)
    → All P ss → s ≡ get_or ss i s → i < length ss → P s
statement_has P ss i s all is h = subst P (sym is) (All-get_or P ss i s h all)

-- the order's rows over the variables of the pair
pub order_put : (m : ℕ) (s t : Side) (a b k : ℕ) (later : Bool) (old new : PairRows) → a ≡ loops_of s → b ≡ loops_of t
    → GainsTests (a + b + m) old new (order_at (a + b + m) a k later).rows
    → GainsTests (pair_size m s t) old new (order_at (pair_size m s t) (loops_of s) k later).rows
order_put m s t a b k later old new first second gains =
    subst (λ (y : ℕ). GainsTests (loops_of s + y + m) old new (order_at (loops_of s + y + m) (loops_of s) k later).rows)
    second (subst (λ (x : ℕ). GainsTests (x + b + m) old new (order_at (x + b + m) x k later).rows) first gains)

-- a dependence put together
pub dep_put : (m : ℕ) (s t : Side) (a b k : ℕ) (later : Bool) (rows : PairRows) (system : Constraints) (from to :
    DepEnd)
    → a ≡ loops_of s → b ≡ loops_of t
    → ShowsTests (pair_size m s t) rows (tests_between m s t (order_at (pair_size m s t) (loops_of s) k later))
    → system ≡ system_of (a + b) m rows.equalities.items rows.rows.items → from ≡ end_of s → to ≡ end_of t
    → dependence from to (k + 1) system ≡ dep_of m s t (order_at (pair_size m s t) (loops_of s) k later)
dep_put m s t a b k later rows system from to first second shows is source target =
    let tests = tests_between m s t (order_at (pair_size m s t) (loops_of s) k later) in
    let whole : system ≡ constraints_of (loops_of s + loops_of t) m tests =
    is ∙ (ap₂ (λ (x y : ℕ). system_of (x + y) m rows.equalities.items rows.rows.items) first second
    ∙ ap₂ (λ (es rs : List Affine). system_of (loops_of s + loops_of t) m es rs) shows.equalities shows.rows_are) in
    ap₂ (λ (x y : DepEnd). dependence x y (k + 1) system) source target
    ∙ ap (λ (z : Constraints). dependence (end_of s) (end_of t) (k + 1) z) whole
