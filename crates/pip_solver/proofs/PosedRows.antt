-- The rows of equalities and of bounds, form by form.
use Rattle.whole_numbers.proofs.Common.{◌≡◌, ℕ, suc, ◌+◌, ℤ, pos, List, [], ◌∷◌, ◌++◌, set, take, drop, refl, sym}
use Rattle.whole_numbers.proofs.Common.{subst, ap, ◌∙◌, add-one, append_assoc, Result, Ok, Err, negsuc}
use Rattle.whole_numbers.proofs.Common.{take-append-drop, Affine, form_of, zeros}
use Rattle.wide_math.specs.declared.Wide.{Wide}
use Rattle.wide_math.specs.Checked.{difference_of, ◌>>=◌}
use Rattle.affine_forms.specs.Runs.{map_run}
use Rattle.checked_tableau.specs.Nodes.{opposites_run}
use Rattle.checked_tableau.specs.Emptiness.{negated_run, equality_rows_run, bound_rows}
use Rattle.wide_math.proofs.Steps.{chain-ok}
use Rattle.affine_forms.specs.Gives.{Gives}
use Rattle.pip_solver.specs.Promises.{FormedUntil}
use Rattle.pip_solver.specs.steps.Promises.{Forms}
use Rattle.affine_forms.specs.declared.stop.FormStop.{FormStop}
use Rattle.affine_forms.specs.declared.stop.FormStop.TheVariants as stop

-- a form's opposite
pub opposites-map : (xs : List ℤ) → opposites_run xs ≡ map_run (difference_of (pos 0)) xs
opposites-map [] = refl
opposites-map (x ∷ xs) = ap (λ (r : Result (List ℤ) Wide). difference_of (pos 0) x >>= λ z. r >>= λ zs. Ok (z ∷ zs))
    (opposites-map xs)

pub negated-err : (f : Affine) (w : Wide) → map_run (difference_of (pos 0)) f.coefficients ≡ Err w
    → negated_run f ≡ Err w
unfolding negated_run
negated-err f w failed = rw (opposites-map f.coefficients, failed) refl

pub negated-wide : (f : Affine) (bs : List ℤ) (w : Wide) → map_run (difference_of (pos 0)) f.coefficients ≡ Ok bs
    → difference_of (pos 0) f.constant ≡ Err w → negated_run f ≡ Err w
unfolding negated_run
negated-wide f bs w formed failed = rw (opposites-map f.coefficients, formed, failed) refl

pub negated-ok : (f : Affine) (bs : List ℤ) (c : ℤ) → map_run (difference_of (pos 0)) f.coefficients ≡ Ok bs
    → difference_of (pos 0) f.constant ≡ Ok c → negated_run f ≡ Ok (form_of bs c)
unfolding negated_run
negated-ok f bs c formed made = rw (opposites-map f.coefficients, formed, made) refl

-- one equality more
pub rows-more : (fs : List Affine) (f g : Affine) (done : List Affine) → equality_rows_run fs ≡ Ok done
    → negated_run f ≡ Ok g → equality_rows_run (fs ++ f ∷ []) ≡ Ok (done ++ f ∷ g ∷ [])
rows-more [] f g done formed made = let e : [] ≡ done = cc in rw (made, ← e) refl
rows-more (e ∷ fs) f g done formed made =
    let c = chain-ok (negated_run e) (λ (h : Affine). equality_rows_run fs >>= λ hs. Ok (e ∷ h ∷ hs)) done formed in
    let d = chain-ok (equality_rows_run fs) (λ (hs : List Affine). Ok (e ∷ c.0 ∷ hs)) done c.2 in
    let is : e ∷ c.0 ∷ d.0 ≡ done = cc (d.2) in
    let more = rows-more fs f g d.0 d.1 made in
    rw (c.1, more) (ap (λ (hs : List Affine). Ok (hs ++ f ∷ g ∷ [])) is)

-- the run stops at the first number that is too wide
rows-stop : (front : List Affine) (f : Affine) (behind rows : List Affine) (w : Wide)
    → equality_rows_run front ≡ Ok rows → negated_run f ≡ Err w → equality_rows_run (front ++ f ∷ behind) ≡ Err w
rows-stop [] f behind rows w formed wide = rw wide refl
rows-stop (e ∷ front) f behind rows w formed wide =
    let c = chain-ok (negated_run e) (λ (h : Affine). equality_rows_run front >>= λ hs. Ok (e ∷ h ∷ hs)) rows formed in
    let d = chain-ok (equality_rows_run front) (λ (hs : List Affine). Ok (e ∷ c.0 ∷ hs)) rows c.2 in
    let stops = rows-stop front f behind d.0 w d.1 wide in
    rw (c.1, stops) refl

pub until-stops : (w : Wide) (fs rows : List Affine) → FormedUntil w fs rows → equality_rows_run fs ≡ Err w
until-stops w fs rows until =
    ap (λ (gs : List Affine). equality_rows_run gs) until.whole
    ∙ rows-stop until.front until.equality until.behind rows w until.formed until.wide

pub forms-stop : (i : ℕ) (fs : List Affine) (f : Affine) (rows : List Affine) (stop : FormStop)
    → drop i fs ≡ f ∷ drop (i + 1) fs → equality_rows_run (take i fs) ≡ Ok rows
    → Gives {X = Affine} (λ g. g) (Err stop) (negated_run f) → Forms {U = Unit {0}} (Err stop) fs rows
forms-stop i fs f rows stop.NoMemory next formed failed = tt
forms-stop i fs f rows (stop.Wide w) next formed failed = record {
  front = take i fs;
  equality = f;
  behind = drop (i + 1) fs;
  whole = sym (take-append-drop i fs) ∙ ap (λ (gs : List Affine). take i fs ++ gs) next;
  formed = formed;
  wide = failed;
}

-- one bound more
pub bounds-more : (v i k n : ℕ) (done : List Affine) (all : List Affine) → k ≡ suc n → done ++ bound_rows v i k ≡ all
    → (done ++ form_of (set (zeros v) i (negsuc 0)) (pos 65536) ∷ []) ++ bound_rows v (i + 1) n ≡ all
bounds-more v i k n done all more kept =
    let e = subst (λ (j : ℕ). done ++ bound_rows v i j ≡ all) more kept in
    append_assoc done (form_of (set (zeros v) i (negsuc 0)) (pos 65536) ∷ []) (bound_rows v (i + 1) n)
    ∙ ap (λ (j : ℕ). done ++ (form_of (set (zeros v) i (negsuc 0)) (pos 65536) ∷ bound_rows v j n)) (add-one i) ∙ e
