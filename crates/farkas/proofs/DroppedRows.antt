-- Rows that a run drops are implied by those that it keeps.
use Rattle.whole_numbers.proofs.Common.{◌≡◌, ℕ, ◌+◌, ℤ, pos, negsuc, ◌≤ℤ◌, Bool, true, false, List, [], ◌∷◌, ◌++◌}
use Rattle.whole_numbers.proofs.Common.{length, refl, sym, ◌∙◌, subst, All, arith, inl, inr, append_assoc, Ok}
use Rattle.whole_numbers.proofs.Common.{if◌then◌else◌, ints, All-cons, All-nil, All-append, All-head, All-tail, Affine}
use Rattle.whole_numbers.proofs.Common.{complement, length-multiples, not_negative_all, value_of-complement, all_front}
use Rattle.whole_numbers.proofs.Common.{all_back}
use Rattle.std.proofs.lemmas.List.{append-nil}
use Rattle.whole_numbers.proofs.Values.{form_same}
use Rattle.affine_forms.specs.Parts.{variables_of}
use Rattle.fractions.specs.Fractions.{HoldsOver}
use Rattle.fractions.specs.Farkas.{HasNoPoint, Dropped}
use Rattle.integer_sets.specs.Constraints.{IsSized, system_of, variables_in}
use Rattle.fm_projection.proofs.Law.{whole_point}
use Rattle.pip_solver.specs.Nodes.{opposite_run}
use Rattle.pip_solver.proofs.QuestionAnswers.{opposite-value}
use Rattle.pip_solver.proofs.EmptinessLaws.{empty-true}
use Rattle.farkas.specs.Run.{formed, emptiness, implied_run, kept_run}
use Rattle.farkas.proofs.Chains.{then-ok, formed-ok, emptiness-run}

-- what the negation is
pub opposite_is : (f g : Affine) → opposite_run f ≡ Ok g → g ≡ complement f
opposite_is f g h =
    let n = length f.coefficients in
    form_same n g (complement f) (opposite-value f g [] h).1 (length-multiples (negsuc 0) f.coefficients) (λ point size.
    let own = (opposite-value f g point h).0 in
    let value = value_of-complement f point in
    omega (arith, ints))

-- a system that the solver finds empty has no whole point that is not negative
pub empty_has_no_point : (budget n : ℕ) (es rs : List Affine) → All (λ f. variables_of f ≡ n) es
    → All (λ f. variables_of f ≡ n) rs → emptiness budget (system_of n 0 es rs) ≡ Ok true → HasNoPoint n es rs
empty_has_no_point budget n es rs he hr h xs size positive holds =
    let s = system_of n 0 es rs in
    let run = emptiness-run budget s true h in
    let all : n + 0 ≡ n = omega arith in
    let sized : IsSized (variables_in s) es rs = record {
      equalities_sized = subst (λ (m : ℕ). All (λ f. variables_of f ≡ m) es) (sym all) he;
      rows_sized = subst (λ (m : ℕ). All (λ f. variables_of f ≡ m) rs) (sym all) hr;
    } in
    empty-true budget s run.0 sized run.1 xs [] (record {
      dimensions = size;
      parameters = refl;
      not_negative = (not_negative_all (xs ++ [])).1
          (subst (λ (ys : List ℤ). All (λ x. pos 0 ≤ℤ x) ys) (sym (append-nil xs)) positive);
      bounded = All-nil (λ z. z ≤ℤ pos 65536);
      inside = (whole_point s (xs ++ [])).0
          (subst (λ (ys : List ℤ). HoldsOver es rs (pos 1) ys) (sym (append-nil xs)) holds);
    })

pub implied_has_no_point : (budget n : ℕ) (es others : List Affine) (row : Affine) → All (λ f. variables_of f ≡ n) es
    → All (λ f. variables_of f ≡ n) others → variables_of row ≡ n → implied_run budget n es others row ≡ Ok true
    → HasNoPoint n es (others ++ complement row ∷ [])
unfolding implied_run
implied_has_no_point budget n es others row he ho hr h =
    let c = then-ok (formed (opposite_run row))
    (λ (g : Affine). emptiness budget (system_of n 0 es (others ++ g ∷ []))) true h in
    let is = opposite_is row c.0 (formed-ok (opposite_run row) c.0 c.1) in
    let asked = subst (λ (g : Affine). emptiness budget (system_of n 0 es (others ++ g ∷ [])) ≡ Ok true) is c.2 in
    let Sized : Affine → Type 0 = λ f. variables_of f ≡ n in
    empty_has_no_point budget n es (others ++ complement row ∷ []) he
    (All-append Sized others (complement row ∷ []) ho
    (All-cons Sized (complement row) [] (length-multiples (negsuc 0) row.coefficients ∙ hr) (All-nil Sized))) asked

-- what is kept begins with what stood in front
pub kept-front : (budget n : ℕ) (es front rest kept : List Affine) → kept_run budget n es front rest ≡ Ok kept
    → (more : List Affine) × (kept ≡ front ++ more)
kept-front budget n es front [] kept h = let is : front ≡ kept = cc in ([], sym is ∙ sym (append-nil front))
kept-front budget n es front (r ∷ rest) kept h =
    let c = then-ok (implied_run budget n es (front ++ rest) r)
    (λ (drops : Bool). kept_run budget n es (if drops then front else front ++ r ∷ []) rest) kept h in
    by_answer c.0 (kept-front budget n es front rest kept) (kept-front budget n es (front ++ r ∷ []) rest kept) c.2
  where
    by_answer : (drops : Bool)
        → (kept_run budget n es front rest ≡ Ok kept → (more : List Affine) × (kept ≡ front ++ more))
        → (kept_run budget n es (front ++ r ∷ []) rest ≡ Ok kept
        → (more : List Affine) × (kept ≡ (front ++ r ∷ []) ++ more))
        → kept_run budget n es (if drops then front else front ++ r ∷ []) rest ≡ Ok kept
        → (more : List Affine) × (kept ≡ front ++ more)
    by_answer true there here h = there h
    by_answer false there here h = let k = here h in (r ∷ k.0, k.1 ∙ append_assoc front (r ∷ []) k.0)

-- and has what all rows have
pub kept-all : (P : Affine → Type 0) (budget n : ℕ) (es front rest kept : List Affine)
    → kept_run budget n es front rest ≡ Ok kept → All P (front ++ rest) → All P kept
kept-all P budget n es front [] kept h all =
    let is : front ≡ kept = cc in subst (λ (fs : List Affine). All P fs) (append-nil front ∙ is) all
kept-all P budget n es front (r ∷ rest) kept h all =
    let c = then-ok (implied_run budget n es (front ++ rest) r)
    (λ (drops : Bool). kept_run budget n es (if drops then front else front ++ r ∷ []) rest) kept h in
    let others = All-append P front rest (all_front P front (r ∷ rest) all)
    (All-tail P r rest (all_back P front (r ∷ rest) all)) in
    let joined = subst (λ (fs : List Affine). All P fs) (sym (append_assoc front (r ∷ []) rest)) all in
    by_answer c.0 (λ h. kept-all P budget n es front rest kept h others)
    (λ h. kept-all P budget n es (front ++ r ∷ []) rest kept h joined) c.2
  where
    by_answer : (drops : Bool) → (kept_run budget n es front rest ≡ Ok kept → All P kept)
        → (kept_run budget n es (front ++ r ∷ []) rest ≡ Ok kept → All P kept)
        → kept_run budget n es (if drops then front else front ++ r ∷ []) rest ≡ Ok kept
        → All P kept
    by_answer true there here h = there h
    by_answer false there here h = here h

-- row by row each is kept, or has no point where its negation stands with the others
pub kept-dropped : (budget n : ℕ) (es front rest kept : List Affine) → All (λ f. variables_of f ≡ n) es
    → All (λ f. variables_of f ≡ n) (front ++ rest) → kept_run budget n es front rest ≡ Ok kept
    → Dropped n es front rest kept
kept-dropped budget n es front [] kept he all h = cc
kept-dropped budget n es front (r ∷ rest) kept he all h =
    let c = then-ok (implied_run budget n es (front ++ rest) r)
    (λ (drops : Bool). kept_run budget n es (if drops then front else front ++ r ∷ []) rest) kept h in
    let f = all_front (λ f. variables_of f ≡ n) front (r ∷ rest) all in
    let b = all_back (λ f. variables_of f ≡ n) front (r ∷ rest) all in
    let others = All-append (λ f. variables_of f ≡ n) front rest f (All-tail (λ f. variables_of f ≡ n) r rest b) in
    let joined = subst (λ (fs : List Affine). All (λ f. variables_of f ≡ n) fs) (sym (append_assoc front (r ∷ [])
    rest)) all in
    by_answer c.0 others (All-head (λ f. variables_of f ≡ n) r rest b)
    (λ h. kept-dropped budget n es front rest kept he others h)
    (λ h. kept-dropped budget n es (front ++ r ∷ []) rest kept he joined h) c.1 c.2
  where
    by_answer : (drops : Bool) → All (λ f. variables_of f ≡ n) (front ++ rest) → variables_of r ≡ n
        → (kept_run budget n es front rest ≡ Ok kept → Dropped n es front rest kept)
        → (kept_run budget n es (front ++ r ∷ []) rest ≡ Ok kept → Dropped n es (front ++ r ∷ []) rest kept)
        → implied_run budget n es (front ++ rest) r ≡ Ok drops
        → kept_run budget n es (if drops then front else front ++ r ∷ []) rest ≡ Ok kept
        → Dropped n es front (r ∷ rest) kept
    by_answer true others own there here asked h =
        inr (implied_has_no_point budget n es (front ++ rest) r he others own asked, there h)
    by_answer false others own there here asked h = inl (here h)

-- rows in front that are not asked are kept
pub kept_in_front : (n : ℕ) (es front xs rest kept : List Affine) → Dropped n es (front ++ xs) rest kept
    → Dropped n es front (xs ++ rest) kept
kept_in_front n es front [] rest kept h = subst (λ (fs : List Affine). Dropped n es fs rest kept) (append-nil front) h
kept_in_front n es front (x ∷ xs) rest kept h =
    inl (kept_in_front n es (front ++ x ∷ []) xs rest kept
    (subst (λ (fs : List Affine). Dropped n es fs rest kept) (sym (append_assoc front (x ∷ []) xs)) h))
