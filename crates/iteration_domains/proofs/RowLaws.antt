-- The rows of a statement hold at the turns at which it runs, and its point's forms have the point's values.
use Rattle.scop_syntax.proofs.Common.{◌≡◌, ℕ, zero, suc, ◌+◌, ◌<◌, ℤ, pos, List, [], ◌∷◌, ◌++◌, length, map, get_or, ap}
use Rattle.scop_syntax.proofs.Common.{ap₂, subst, sym, ◌∙◌, refl, arith, length-append, ◌+ℤ◌, ◌*ℤ◌, ◌≤ℤ◌}
use Rattle.scop_syntax.proofs.Common.{slice_index_or, ⊤, ints, map-append, get_or-append_seam, Affine, value_of}
use Rattle.scop_syntax.proofs.Common.{multiple_of_form, composed, dot-unit, value_of-sum, value_of-multiple}
use Rattle.scop_syntax.proofs.Common.{value_of-composed, Test, at_least, equal, Head, turn_point, Scope, round, under}
use Rattle.scop_syntax.proofs.Common.{Placed, loops_in, point_of, AllHold, Runs, values}
use Rattle.std.proofs.lemmas.List.{append_assoc, append-nil}
use Rattle.scop_syntax.specs.Statements.{Holds}
use Rattle.iteration_domains.specs.Rows.{variable, variables, composed_test, iterator, within_loop, rows_from}
use Rattle.iteration_domains.specs.Rows.{forms_from, variables_of_statement, parameter_forms, rows_of, point_forms}
use Rattle.iteration_domains.proofs.Points.{hold_append, hold_front, hold_back}

-- from place j on x goes on with ys
abbrev pub GoesOn : List ℤ → ℕ → List ℤ → Type 0
GoesOn x j [] = ⊤
GoesOn x j (y ∷ ys) = (j < length x) × (slice_index_or x j (pos 0) ≡ y) × GoesOn x (j + 1) ys

pub value_of-variable : (n j : ℕ) (x : List ℤ) → j < n → value_of (variable n j) x ≡ get_or x j (pos 0)
value_of-variable n j x h = let e = dot-unit n j x h in omega (arith, ints)

pub values-variables : (n j m : ℕ) (x ys : List ℤ) → n ≡ length x → length ys ≡ m → GoesOn x j ys
    → values (variables n j m) x ≡ ys
values-variables n j zero x [] e l g = refl
values-variables n j zero x (y ∷ ys) e l g = absurd (omega arith)
values-variables n j (suc m) x [] e l g = absurd (omega arith)
values-variables n j (suc m) x (y ∷ ys) e l g =
    let h = g.0 in
    ap₂ (λ (z : ℤ) (zs : List ℤ). z ∷ zs) (value_of-variable n j x (omega arith) ∙ g.1)
    (values-variables n (j + 1) m x ys e (omega arith) g.2)

-- the point within a loop at turn y
values-within : (n j : ℕ) (head : Head) (forms : List Affine) (x : List ℤ) (y : ℤ) → j < n → get_or x j (pos 0) ≡ y
    → values (within_loop n j head forms) x ≡ turn_point head (values forms x) y
values-within n j head forms x y h e =
    let last = iterator n j head forms in
    let s = value_of-sum (composed head.first forms n) (multiple_of_form head.stride (variable n j)) x in
    let c = value_of-composed head.first forms n x in
    let m = value_of-multiple head.stride (variable n j) x in
    let v = ap (λ z. head.stride *ℤ z) (value_of-variable n j x h ∙ e) in
    let l : value_of last x ≡ value_of head.first (values forms x) +ℤ (head.stride *ℤ y) = omega (arith, ints) in
    map-append (λ form. value_of form x) forms (last ∷ []) ∙ ap (λ z. values forms x ++ z ∷ []) l

test_to : (n : ℕ) (forms : List Affine) (test : Test) (x : List ℤ) → Holds (composed_test n forms test) x
    → Holds test (values forms x)
test_to n forms (at_least f) x h = subst (λ z. pos 0 ≤ℤ z) (value_of-composed f forms n x) h
test_to n forms (equal f) x h = subst (λ z. z ≡ pos 0) (value_of-composed f forms n x) h

test_from : (n : ℕ) (forms : List Affine) (test : Test) (x : List ℤ) → Holds test (values forms x)
    → Holds (composed_test n forms test) x
test_from n forms (at_least f) x h = subst (λ z. pos 0 ≤ℤ z) (sym (value_of-composed f forms n x)) h
test_from n forms (equal f) x h = subst (λ z. z ≡ pos 0) (sym (value_of-composed f forms n x)) h

tests_to : (n : ℕ) (forms : List Affine) (tests : List Test) (x : List ℤ)
    → AllHold (map (composed_test n forms) tests) x → AllHold tests (values forms x)
tests_to n forms [] x h = tt
tests_to n forms (test ∷ tests) x h = (test_to n forms test x h.0, tests_to n forms tests x h.1)

tests_from : (n : ℕ) (forms : List Affine) (tests : List Test) (x : List ℤ) → AllHold tests (values forms x)
    → AllHold (map (composed_test n forms) tests) x
tests_from n forms [] x h = tt
tests_from n forms (test ∷ tests) x h = (test_from n forms test x h.0, tests_from n forms tests x h.1)

-- the rows of what stands round a statement hold exactly where it runs
rows_to : (scopes : List Scope) (n j : ℕ) (forms : List Affine) (x ys : List ℤ) → n ≡ length x → GoesOn x j ys
    → length ys ≡ loops_in scopes → AllHold (rows_from n j scopes forms) x → Runs scopes (values forms x) ys
rows_to [] n j forms x [] e g l h = tt
rows_to [] n j forms x (y ∷ ys) e g l h = absurd (omega arith)
rows_to (under tests ∷ scopes) n j forms x ys e g l h =
    let rows = map (composed_test n forms) tests in
    let rest = rows_from n j scopes forms in
    (tests_to n forms tests x (hold_front rows rest x h), rows_to scopes n j forms x ys e g l (hold_back rows rest x h))
rows_to (round head ∷ scopes) n j forms x [] e g l h = absurd (omega arith)
rows_to (round head ∷ scopes) n j forms x (y ∷ ys) e g l h =
    let k = g.0 in
    let inner = within_loop n j head forms in
    let p = values-within n j head forms x y (omega arith) g.1 in (
      subst (λ z. pos 0 ≤ℤ z) (value_of-variable n j x (omega arith) ∙ g.1) h.0,
      subst (λ z. pos 0 ≤ℤ z) (value_of-composed head.condition inner n x ∙ ap (value_of head.condition) p) h.1.0,
      subst (λ q. Runs scopes q ys) p (rows_to scopes n (j + 1) inner x ys e g.2 (omega arith) h.1.1),
    )

rows_from_runs : (scopes : List Scope) (n j : ℕ) (forms : List Affine) (x ys : List ℤ) → n ≡ length x → GoesOn x j ys
    → length ys ≡ loops_in scopes → Runs scopes (values forms x) ys → AllHold (rows_from n j scopes forms) x
rows_from_runs [] n j forms x ys e g l h = tt
rows_from_runs (under tests ∷ scopes) n j forms x ys e g l h =
    let rows = map (composed_test n forms) tests in
    let rest = rows_from n j scopes forms in
    hold_append rows rest x (tests_from n forms tests x h.0) (rows_from_runs scopes n j forms x ys e g l h.1)
rows_from_runs (round head ∷ scopes) n j forms x [] e g l h = absurd h
rows_from_runs (round head ∷ scopes) n j forms x (y ∷ ys) e g l h =
    let k = g.0 in
    let inner = within_loop n j head forms in
    let p = values-within n j head forms x y (omega arith) g.1 in (
      subst (λ z. pos 0 ≤ℤ z) (sym (value_of-variable n j x (omega arith) ∙ g.1)) h.0,
      (
        subst (λ z. pos 0 ≤ℤ z)
            (sym (value_of-composed head.condition inner n x ∙ ap (value_of head.condition) p)) h.1,
        rows_from_runs scopes n (j + 1) inner x ys e g.2 (omega arith) (subst (λ q. Runs scopes q ys) (sym p) h.2),
      ),
    )

-- the forms of the point have its values
values-forms : (scopes : List Scope) (n j : ℕ) (forms : List Affine) (x ys : List ℤ) → n ≡ length x → GoesOn x j ys
    → length ys ≡ loops_in scopes → values (forms_from n j scopes forms) x ≡ point_of scopes (values forms x) ys
values-forms [] n j forms x ys e g l = refl
values-forms (under tests ∷ scopes) n j forms x ys e g l = values-forms scopes n j forms x ys e g l
values-forms (round head ∷ scopes) n j forms x [] e g l = absurd (omega arith)
values-forms (round head ∷ scopes) n j forms x (y ∷ ys) e g l =
    let k = g.0 in
    values-forms scopes n (j + 1) (within_loop n j head forms) x ys e g.2 (omega arith)
    ∙ ap (λ q. point_of scopes q ys) (values-within n j head forms x y (omega arith) g.1)

-- parts of a list that is put together
pub goes_on : (front ys back : List ℤ) → GoesOn (front ++ (ys ++ back)) (length front) ys
goes_on front [] back = tt
goes_on front (y ∷ ys) back =
    let l = length-append front (y ∷ (ys ++ back)) in
    let a = append_assoc front (y ∷ []) (ys ++ back) in
    let m = length-append front (y ∷ []) in (
      omega (arith, l),
      get_or-append_seam front y (ys ++ back) (pos 0),
      subst (λ i. GoesOn (front ++ (y ∷ (ys ++ back))) i ys) m
          (subst (λ z. GoesOn z (length (front ++ y ∷ [])) ys) a (goes_on (front ++ y ∷ []) ys back)),
    )

pub goes_on_last : (front ys : List ℤ) → GoesOn (front ++ ys) (length front) ys
goes_on_last front ys = subst (λ z. GoesOn (front ++ z) (length front) ys) (append-nil ys) (goes_on front ys [])

-- behind the turns xs stand the parameters
record Behind (p : Placed) (params xs : List ℤ) : Type 0 where
  size : variables_of_statement (length params) p ≡ length (xs ++ params)
  params_are : values (parameter_forms (length params) p) (xs ++ params) ≡ params

behind : (p : Placed) (params xs : List ℤ) → length xs ≡ loops_in p.scopes → Behind p params xs
behind p params xs l =
    let n = variables_of_statement (length params) p in
    let x = xs ++ params in
    let e : n ≡ length x = let a = length-append xs params in omega arith in
    record {
      size = e;
      params_are = values-variables n (loops_in p.scopes) (length params) x params e refl
          (subst (λ i. GoesOn x i params) l (goes_on_last xs params));
    }

-- a statement's rows hold exactly at the turns at which it runs
pub rows_run : (p : Placed) (params xs : List ℤ) → length xs ≡ loops_in p.scopes
    → AllHold (rows_of (length params) p) (xs ++ params) → Runs p.scopes params xs
rows_run p params xs l h =
    let b = behind p params xs l in
    let n = variables_of_statement (length params) p in
    subst (λ q. Runs p.scopes q xs) b.params_are
    (rows_to p.scopes n 0 (parameter_forms (length params) p) (xs ++ params) xs b.size (goes_on [] xs params) l h)

pub run_rows : (p : Placed) (params xs : List ℤ) → length xs ≡ loops_in p.scopes → Runs p.scopes params xs
    → AllHold (rows_of (length params) p) (xs ++ params)
run_rows p params xs l h =
    let b = behind p params xs l in
    let n = variables_of_statement (length params) p in
    rows_from_runs p.scopes n 0 (parameter_forms (length params) p) (xs ++ params) xs b.size (goes_on [] xs params) l
    (subst (λ q. Runs p.scopes q xs) (sym b.params_are) h)

-- its point's forms have the values of its point
pub values-point : (p : Placed) (params xs : List ℤ) → length xs ≡ loops_in p.scopes
    → values (point_forms (length params) p) (xs ++ params) ≡ point_of p.scopes params xs
values-point p params xs l =
    let b = behind p params xs l in
    let n = variables_of_statement (length params) p in
    values-forms p.scopes n 0 (parameter_forms (length params) p) (xs ++ params) xs b.size (goes_on [] xs params) l
    ∙ ap (λ q. point_of p.scopes q xs) b.params_are
