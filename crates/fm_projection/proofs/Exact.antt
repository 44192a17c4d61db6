-- A run of an elimination that is Ok gives the exact elimination.
use Rattle.whole_numbers.proofs.Common.{◌≡◌, ℕ, ℤ, pos, negsuc, neg_ℤ, unsigned_abs, Bool, List, [], ◌∷◌, ◌++◌, refl}
use Rattle.whole_numbers.proofs.Common.{sym, ◌∙◌, ap, ap₂, All, arith, map, Result, Ok, Option, Some, None, ints}
use Rattle.whole_numbers.proofs.Common.{Affine, sum_of_forms, multiple_of_form, floor, multiples, length-multiples}
use Rattle.whole_numbers.proofs.Common.{length-sums, length-map, map-append, All-head, All-tail}
use Rattle.whole_numbers.specs.Content.{content_of_form, lowest_of_form}
use Rattle.fractions.proofs.CarriedProperties.{eliminated_all, sums_carry}
use Rattle.fractions.proofs.SystemElimination.{taken_out}
use Rattle.fractions.specs.Elimination.{coefficient_of, is_zero, is_not_zero, is_positive, is_negative, chosen}
use Rattle.fractions.specs.Elimination.{combined, paired, pairs, projected_rows, sign, reduced, reduced_all}
use Rattle.fractions.specs.Elimination.{first_with, eliminated_by, eliminated}
use Rattle.fractions.proofs.ChosenRows.{chosen_from}
use Rattle.wide_math.specs.declared.Wide.{Wide}
use Rattle.wide_math.specs.Checked.{difference_of, product_of, ◌>>=◌}
use Rattle.wide_math.proofs.Steps.{difference_of-ok, product_of-ok, chain-ok}
use Rattle.affine_forms.specs.Parts.{variables_of}
use Rattle.affine_forms.specs.Runs.{forms_sum_run, forms_difference_run}
use Rattle.affine_forms.proofs.Exact.{forms_sum_run-exact, forms_difference_run-exact}
use Rattle.integer_sets.specs.Constraints.{Constraints, IsSized, system_of}
use Rattle.fm_projection.specs.Runs.{forms_run, pair_run, pairs_run, size_run, reduced_run, behind}
use Rattle.fm_projection.specs.Runs.{reduced_all_run, projected_run, eliminated_by_run, eliminated_run}
use Rattle.fm_projection.specs.Projection.{IsEliminated}

pair_run-exact : (i : ℕ) (p n f : Affine) → variables_of n ≡ variables_of p → pair_run i p n ≡ Ok f → f
    ≡ lowest_of_form (combined i p n)
unfolding pair_run
pair_run-exact i p n f same h =
    let a = coefficient_of i p in
    let c = coefficient_of i n in
    let x = chain-ok (difference_of (pos 0) c) (λ (b : ℤ). forms_sum_run b p a n >>= λ g. Ok
    (lowest_of_form g)) f h in
    let y = chain-ok (forms_sum_run x.0 p a n) (λ (g : Affine). Ok (lowest_of_form g)) f x.2 in
    let b = ((difference_of-ok (pos 0) c x.0).0 x.1).0 in
    let turned : x.0 ≡ neg_ℤ c = omega (arith, ints) in
    let g = forms_sum_run-exact x.0 p a n y.0 same y.1 in
    let last : lowest_of_form y.0 ≡ f = cc in
    sym last ∙ ap lowest_of_form
    (g ∙ ap (λ (z : ℤ). sum_of_forms (multiple_of_form z p) (multiple_of_form a n)) turned)

size_run-exact : (a z : ℤ) → size_run a ≡ Ok z → z ≡ pos (unsigned_abs a)
size_run-exact (pos n) z h = let e : pos n ≡ z = cc in sym e
size_run-exact (negsuc n) z h = let e = ((difference_of-ok (pos 0) (negsuc n) z).0 h).0 in omega (arith, ints)

pub reduced_run-exact : (i : ℕ) (e r f : Affine) → variables_of r ≡ variables_of e → reduced_run i e r ≡ Ok f → f
    ≡ lowest_of_form (reduced i e r)
unfolding reduced_run
reduced_run-exact i e r f same h =
    let a = coefficient_of i e in
    let c = coefficient_of i r in
    let w = chain-ok (size_run a)
    (λ (m : ℤ). product_of (sign a) c >>= λ k. forms_difference_run m r k e >>= λ g. Ok
    (lowest_of_form g)) f h in
    let x = chain-ok (product_of (sign a) c)
    (λ (k : ℤ). forms_difference_run w.0 r k e >>= λ g. Ok (lowest_of_form g)) f w.2 in
    let y = chain-ok (forms_difference_run w.0 r x.0 e) (λ (g : Affine). Ok (lowest_of_form g)) f x.2 in
    let m = size_run-exact a w.0 w.1 in
    let k = ((product_of-ok (sign a) c x.0).0 x.1).0 in
    let g = forms_difference_run-exact w.0 r x.0 e y.0 (sym same) y.1 in
    let last : lowest_of_form y.0 ≡ f = cc in
    sym last ∙ ap lowest_of_form (g ∙ ap₂
    (λ (z y : ℤ). sum_of_forms (multiple_of_form z r) (multiple_of_form (neg_ℤ y) e)) m k)

forms_run-exact : (step : Affine → Result Affine Wide) (h : Affine → Affine) (P : Affine → Type 0)
    (fs gs : List Affine)
    → ((f g : Affine) → P f → step f ≡ Ok g → g ≡ h f) → All P fs → forms_run step fs ≡ Ok gs → gs ≡ map h fs
forms_run-exact step h P [] gs exact all run = cc
forms_run-exact step h P (f ∷ fs) gs exact all run =
    let c = chain-ok (step f) (λ (g : Affine). forms_run step fs >>= λ rest. Ok (g ∷ rest)) gs run in
    let d = chain-ok (forms_run step fs) (λ (rest : List Affine). Ok (c.0 ∷ rest)) gs c.2 in
    let first = exact f c.0 (All-head P f fs all) c.1 in
    let rest = forms_run-exact step h P fs d.0 exact (All-tail P f fs all) d.1 in
    let last : c.0 ∷ d.0 ≡ gs = cc in
    sym last ∙ ap₂ (λ (z : Affine) (zs : List Affine). z ∷ zs) first rest

lowest_paired : (i : ℕ) (p : Affine) (ns : List Affine) → map lowest_of_form (paired i p ns)
    ≡ map (λ n. lowest_of_form (combined i p n)) ns
lowest_paired i p [] = refl
lowest_paired i p (n ∷ ns) = ap (λ (zs : List Affine). lowest_of_form (combined i p n) ∷ zs) (lowest_paired i p ns)

pairs_run-exact : (i v : ℕ) (ps ns gs : List Affine) → All (λ f. variables_of f ≡ v) ps
    → All (λ f. variables_of f ≡ v) ns
    → pairs_run i ps ns ≡ Ok gs → gs ≡ map lowest_of_form (pairs i ps ns)
pairs_run-exact i v [] ns gs hp hn run = cc
pairs_run-exact i v (p ∷ ps) ns gs hp hn run =
    let Sized : Affine → Type 0 = λ f. variables_of f ≡ v in
    let c = chain-ok (forms_run (pair_run i p) ns)
    (λ (fs : List Affine). pairs_run i ps ns >>= λ rest. Ok (fs ++ rest)) gs run in
    let d = chain-ok (pairs_run i ps ns) (λ (rest : List Affine). Ok (c.0 ++ rest)) gs c.2 in
    let own : variables_of p ≡ v = All-head Sized p ps hp in
    let first = forms_run-exact (pair_run i p) (λ n. lowest_of_form (combined i p n)) Sized ns c.0
    (λ n g same e. pair_run-exact i p n g (same ∙ sym own) e) hn c.1 in
    let rest = pairs_run-exact i v ps ns d.0 (All-tail Sized p ps hp) hn d.1 in
    let last : c.0 ++ d.0 ≡ gs = cc in
    sym last ∙ ap₂ (λ (xs ys : List Affine). xs ++ ys) (first ∙ sym (lowest_paired i p ns)) rest
    ∙ sym (map-append lowest_of_form (paired i p ns) (pairs i ps ns))

-- what is behind
behind_gives : (front : List Affine) (run : Result (List Affine) Wide) (gs : List Affine) → behind front run ≡ Ok gs
    → (rest : List Affine) × (run ≡ Ok rest) × (gs ≡ front ++ rest)
behind_gives front run gs h =
    let c = chain-ok run (λ (rest : List Affine). Ok (front ++ rest)) gs h in
    let last : front ++ c.0 ≡ gs = cc in
    (c.0, c.1, sym last)

-- each form speaks of v variables
abbrev pub AreSized : ℕ → List Affine → Type 0
AreSized v fs = All (λ f. variables_of f ≡ v) fs

pub chosen_sized : (v : ℕ) (test : ℤ → Bool) (i : ℕ) (fs : List Affine) → AreSized v fs
    → AreSized v (chosen test i fs)
chosen_sized v test i fs all = chosen_from (λ f. variables_of f ≡ v) test i fs (λ k d inside. λ _. all k d inside)

pub reduced_all_run-exact : (i : ℕ) (e : Affine) (fs gs : List Affine) → AreSized (variables_of e) fs
    → reduced_all_run i e fs ≡ Ok gs
    → gs ≡ map lowest_of_form (reduced_all i e fs)
reduced_all_run-exact i e fs gs sized run =
    let others = chosen is_not_zero i fs in
    let b = behind_gives (map lowest_of_form (chosen is_zero i fs)) (forms_run (reduced_run i e) others) gs run in
    let x = forms_run-exact (reduced_run i e) (λ r. lowest_of_form (reduced i e r))
    (λ f. variables_of f ≡ variables_of e) others b.0
    (λ f g same h. reduced_run-exact i e f g same h) (chosen_sized (variables_of e) is_not_zero i fs sized) b.1 in
    b.2 ∙ ap (λ (zs : List Affine). map lowest_of_form (chosen is_zero i fs) ++ zs) (x ∙ sym (map_map others))
    ∙ sym (map-append lowest_of_form (chosen is_zero i fs) (map (reduced i e) others))
  where
    map_map : (xs : List Affine) → map lowest_of_form (map (reduced i e) xs) ≡ map
        (λ r. lowest_of_form (reduced i e r)) xs
    map_map [] = refl
    map_map (x ∷ xs) = ap (λ (zs : List Affine). lowest_of_form (reduced i e x) ∷ zs) (map_map xs)

pub projected_run-exact : (i v : ℕ) (rows gs : List Affine) → AreSized v rows → projected_run i rows ≡ Ok gs
    → gs ≡ map lowest_of_form (projected_rows i rows)
projected_run-exact i v rows gs sized run =
    let ps = chosen is_positive i rows in
    let ns = chosen is_negative i rows in
    let b = behind_gives (map lowest_of_form (chosen is_zero i rows)) (pairs_run i ps ns) gs run in
    let x = pairs_run-exact i v ps ns b.0 (chosen_sized v is_positive i rows sized)
    (chosen_sized v is_negative i rows sized) b.1 in
    b.2 ∙ ap (λ (zs : List Affine). map lowest_of_form (chosen is_zero i rows) ++ zs) x
    ∙ sym (map-append lowest_of_form (chosen is_zero i rows) (pairs i ps ns))

-- what is taken out has the size of all
taken_sized : (v i : ℕ) (es : List Affine) (g : Affine × List Affine) → AreSized v es → first_with i es ≡ Some g
    → (variables_of g.0 ≡ v) × AreSized v g.1
taken_sized v i es g sized h = (taken_out i (λ f. variables_of f ≡ v) es g h).1.0 sized

eliminated_by_run-exact : (i v : ℕ) (o : Option (Affine × List Affine)) (s t : Constraints)
    → AreSized v s.equalities
    → AreSized v s.rows
    → first_with i s.equalities ≡ o → eliminated_by_run i o s ≡ Ok t
    → t ≡ system_of s.dimensions s.parameters (eliminated_by i o s.equalities s.rows).0
    (eliminated_by i o s.equalities s.rows).1
eliminated_by_run-exact i v None s t he hr first run =
    let c = chain-ok (projected_run i s.rows)
    (λ (rows : List Affine). Ok (system_of s.dimensions s.parameters
    (map lowest_of_form s.equalities) rows)) t run in
    let x = projected_run-exact i v s.rows c.0 hr c.1 in
    let last : system_of s.dimensions s.parameters (map lowest_of_form s.equalities) c.0 ≡ t = cc in
    sym last ∙ ap (λ (rows : List Affine). system_of s.dimensions s.parameters
    (map lowest_of_form s.equalities) rows) x
eliminated_by_run-exact i v (Some g) s t he hr first run =
    let sized = taken_sized v i s.equalities g he first in
    let c = chain-ok (reduced_all_run i g.0 g.1)
    (λ (es : List Affine). reduced_all_run i g.0 s.rows >>= λ rows. Ok
    (system_of s.dimensions s.parameters es rows))
    t run in
    let d = chain-ok (reduced_all_run i g.0 s.rows)
    (λ (rows : List Affine). Ok (system_of s.dimensions s.parameters c.0 rows)) t c.2 in
    let one : AreSized (variables_of g.0) g.1 = rw sized.0 sized.1 in
    let two : AreSized (variables_of g.0) s.rows = rw sized.0 hr in
    let x = reduced_all_run-exact i g.0 g.1 c.0 one c.1 in
    let y = reduced_all_run-exact i g.0 s.rows d.0 two d.1 in
    let last : system_of s.dimensions s.parameters c.0 d.0 ≡ t = cc in
    sym last ∙ ap₂ (λ (es rows : List Affine). system_of s.dimensions s.parameters es rows) x y

pub eliminated_run-exact : (i v : ℕ) (s t : Constraints) → AreSized v s.equalities → AreSized v s.rows
    → eliminated_run i s ≡ Ok t → IsEliminated i s t
unfolding eliminated_run eliminated
eliminated_run-exact i v s t he hr run = eliminated_by_run-exact i v (first_with i s.equalities) s t he hr refl run

-- the result is sized
pub lowest_sized : (f : Affine) → variables_of (lowest_of_form f) ≡ variables_of f
unfolding lowest_of_form
lowest_sized f = length-map f.coefficients (λ x. floor x (pos (content_of_form f)))

pub sum_sized : (v : ℕ) (a b : ℤ) (f g : Affine) → variables_of f ≡ v → variables_of g ≡ v
    → variables_of (sum_of_forms (multiple_of_form a f) (multiple_of_form b g)) ≡ v
sum_sized v a b f g hf hg =
    let x = length-multiples a f.coefficients in
    let y = length-multiples b g.coefficients in
    length-sums (multiples a f.coefficients) (multiples b g.coefficients) (omega (arith, x, y)) ∙ x ∙ hf

pub eliminated_sized : (v i : ℕ) (es rs : List Affine) → AreSized v es → AreSized v rs
    → AreSized v (eliminated i es rs).0 × AreSized v (eliminated i es rs).1
eliminated_sized v i es rs he hr =
    let Sized : Affine → Type 0 = λ f. variables_of f ≡ v in
    eliminated_all i Sized Sized es rs (sums_carry Sized (sum_sized v) (λ f h. lowest_sized f ∙ h) i) he hr

pub eliminated_run-sized : (i v : ℕ) (s t : Constraints) → IsSized v s.equalities s.rows
    → eliminated_run i s ≡ Ok t → IsSized v t.equalities t.rows
eliminated_run-sized i v s t sized run =
    let e = eliminated_run-exact i v s t sized.equalities_sized sized.rows_sized run in
    let both = eliminated_sized v i s.equalities s.rows sized.equalities_sized sized.rows_sized in
    rw e (record { equalities_sized = both.0; rows_sized = both.1 })
