-- The runs of rows in the parts that the code takes: a row combined in place.
use Rattle.whole_numbers.proofs.Common.{◌≡◌, ℕ, zero, suc, ◌+◌, ◌<◌, ℤ, pos, List, [], ◌∷◌, ◌++◌, length, set, get_or}
use Rattle.whole_numbers.proofs.Common.{drop, take, refl, subst, ap, sym, ◌∙◌, arith, add-one, drop-cons, Result, Ok}
use Rattle.whole_numbers.proofs.Common.{Err, take-append-drop, length-take-le}
use Rattle.affine_forms.specs.Wide.{Wide}
use Rattle.affine_forms.specs.Checked.{product_of, cross_of, ◌>>=◌}
use Rattle.affine_forms.specs.WideGives.{Becomes}
use Rattle.tableau_rows.specs.Rows.{entry}
use Rattle.tableau_rows.specs.Moves.{crossed_run, entries_run, line_run, line_row}

-- an entry of a row that has its denominator in front
pub entry_at : (row : List ℤ) (j : ℕ) → entry (line_row row) j ≡ get_or row (j + 1) (pos 0)
entry_at [] j = refl
entry_at (x ∷ row) j = ap (λ (k : ℕ). get_or (x ∷ row) k (pos 0)) (sym (add-one j))

step_parts : (c : Result ℤ Wide) (r : Result (List ℤ) Wide) (p : Result ℤ Wide) (q : Result (List ℤ) Wide)
    → (c >>= λ x. (r >>= λ fs. p >>= λ z. q >>= λ bs. Ok (fs ++ z ∷ bs)) >>= λ zs. Ok (x ∷ zs))
    ≡ ((c >>= λ x. r >>= λ fs. Ok (x ∷ fs)) >>= λ fs. p >>= λ z. q >>= λ bs. Ok (fs ++ z ∷ bs))
step_parts (Err w) r p q = refl
step_parts (Ok x) (Err w) p q = refl
step_parts (Ok x) (Ok fs) (Err w) q = refl
step_parts (Ok x) (Ok fs) (Ok z) (Err w) = refl
step_parts (Ok x) (Ok fs) (Ok z) (Ok bs) = refl

-- the entries before the column, the one in it, and those behind it
pub entries_run-parts : (s : ℕ) (a b d : ℤ) (front : List ℤ) (x : ℤ) (back others : List ℤ) (y : ℤ) (more : List ℤ)
    → length front ≡ s → length others ≡ s
    → entries_run s a b d (front ++ x ∷ back) (others ++ y ∷ more)
    ≡ (crossed_run a b front others >>= λ fs. product_of b d >>= λ z. crossed_run a b back more >>= λ bs. Ok
    (fs ++ z ∷ bs))
unfolding crossed_run
entries_run-parts zero a b d [] x back [] y more h k = by_cases (product_of b d) (crossed_run a b back more)
  where
    by_cases : (p : Result ℤ Wide) (q : Result (List ℤ) Wide)
        → (p >>= λ z. q >>= λ zs. Ok (z ∷ zs)) ≡ (p >>= λ z. q >>= λ bs. Ok ([] ++ z ∷ bs))
    by_cases (Err w) q = refl
    by_cases (Ok z) (Err w) = refl
    by_cases (Ok z) (Ok zs) = refl
entries_run-parts zero a b d [] x back (o ∷ others) y more h k = absurd (omega arith)
entries_run-parts zero a b d (f ∷ front) x back others y more h k = absurd (omega arith)
entries_run-parts (suc s) a b d [] x back others y more h k = absurd (omega arith)
entries_run-parts (suc s) a b d (f ∷ front) x back [] y more h k = absurd (omega arith)
entries_run-parts (suc s) a b d (f ∷ front) x back (o ∷ others) y more h k =
    ap (λ (r : Result (List ℤ) Wide). cross_of f a b o >>= λ z. r >>= λ zs. Ok (z ∷ zs))
    (entries_run-parts s a b d front x back others y more (omega arith) (omega arith))
    ∙ step_parts (cross_of f a b o) (crossed_run a b front others) (product_of b d) (crossed_run a b back more)

-- the same of a row that was taken apart
pub entries_run-split : (s : ℕ) (d : ℤ) (es ps front rest cell back : List ℤ) → length es ≡ length ps → s < length es
    → es ≡ front ++ rest → length front ≡ s → rest ≡ cell ++ back → length cell ≡ 1
    → entries_run s (get_or ps s (pos 0)) (get_or es s (pos 0)) d es ps
    ≡ (crossed_run (get_or ps s (pos 0)) (get_or es s (pos 0)) front (take s ps) >>= λ fs. product_of
    (get_or es s (pos 0)) d >>= λ z.
    crossed_run (get_or ps s (pos 0)) (get_or es s (pos 0)) back (drop (s + 1) ps) >>= λ bs. Ok (fs ++ z ∷ bs))
entries_run-split s d es ps front rest [] back same within is size apart one = absurd (omega arith)
entries_run-split s d es ps front rest (x ∷ y ∷ cell) back same within is size apart one = absurd (omega arith)
entries_run-split s d es ps front rest (x ∷ []) back same within is size apart one =
    let a = get_or ps s (pos 0) in
    let b = get_or es s (pos 0) in
    let e : es ≡ front ++ x ∷ back = is ∙ ap (λ (r : List ℤ). front ++ r) apart in
    let cut : ps ≡ take s ps ++ get_or ps s (pos 0) ∷ drop (s + 1) ps = parted s ps (omega arith) in
    let count = length-take-le s ps (omega arith) in
    subst (λ (xs : List ℤ). entries_run s a b d xs
    ps ≡ (crossed_run a b front (take s ps) >>= λ fs. product_of b d >>= λ z. crossed_run a b back
    (drop (s + 1) ps) >>= λ bs. Ok (fs ++ z ∷ bs))) (sym e)
    (ap (λ (ys : List ℤ). entries_run s a b d (front ++ x ∷ back) ys) cut
    ∙ entries_run-parts s a b d front x back (take s ps) a (drop (s + 1) ps) size count)
  where
    parted : (s : ℕ) (ps : List ℤ) → s < length ps → ps ≡ take s ps ++ get_or ps s (pos 0) ∷ drop (s + 1) ps
    parted s ps h =
        sym (take-append-drop s ps) ∙ ap (λ (r : List ℤ). take s ps ++ r) (drop-cons ps s (pos 0) h)
        ∙ ap (λ (k : ℕ). take s ps ++ get_or ps s (pos 0) ∷ drop k ps) (sym (add-one s))

-- a run of three, the first of which failed, then the second, and what comes of the third
pub first-err : (r : Result (List ℤ) Wide) (p : Result ℤ Wide) (q : Result (List ℤ) Wide) (w : Wide) → r ≡ Err w
    → (r >>= λ fs. p >>= λ z. q >>= λ bs. Ok (fs ++ z ∷ bs)) ≡ Err w
first-err r p q w h = rw h refl

pub second-err : (r : Result (List ℤ) Wide) (p : Result ℤ Wide) (q : Result (List ℤ) Wide) (fs : List ℤ) (w : Wide)
    → r ≡ Ok fs → p ≡ Err w
    → (r >>= λ fs. p >>= λ z. q >>= λ bs. Ok (fs ++ z ∷ bs)) ≡ Err w
second-err r p q fs w h k = rw (h, k) refl

pub third_becomes : {U : Type 0} (r : Result (List ℤ) Wide) (p : Result ℤ Wide) (q : Result (List ℤ) Wide)
    (fs : List ℤ) (z : ℤ) (cell bs : List ℤ) (u : Result U Wide)
    → r ≡ Ok fs → p ≡ Ok z → length cell ≡ 1 → Becomes bs u q
    → Becomes (fs ++ (set cell 0 z ++ bs)) u (r >>= λ fs. p >>= λ z. q >>= λ bs. Ok (fs ++ z ∷ bs))
third_becomes r p q fs z [] bs u h k one is = absurd (omega arith)
third_becomes r p q fs z (x ∷ y ∷ cell) bs u h k one is = absurd (omega arith)
third_becomes r p q fs z (x ∷ []) bs (Ok _) h k one is = rw (h, k, is) refl
third_becomes r p q fs z (x ∷ []) bs (Err w) h k one is = rw (h, k, is) refl

-- a row that has its denominator in front
pub line_run-split : (s : ℕ) (ps row den es : List ℤ) → row ≡ den ++ es → length den ≡ 1
    → line_run s ps row
    ≡ (product_of (get_or den 0 (pos 0)) (get_or ps (s + 1) (pos 0)) >>= λ d.
    entries_run s (get_or (drop 1 ps) s (pos 0)) (get_or es s (pos 0)) (get_or ps 0 (pos 0)) es (drop 1 ps) >>=
    λ zs. Ok (d ∷ zs))
unfolding line_run
line_run-split s ps row [] es is one = absurd (omega arith)
line_run-split s ps row (x ∷ y ∷ den) es is one = absurd (omega arith)
line_run-split s ps row (x ∷ []) es is one =
    rw (is, ← entry_at ps s, ← entry_at (x ∷ es) s) refl

pub line_becomes : {U : Type 0} (p : Result ℤ Wide) (q : Result (List ℤ) Wide) (z : ℤ) (den es : List ℤ)
    (u : Result U Wide) → p ≡ Ok z → length den ≡ 1
    → Becomes es u q → Becomes (set den 0 z ++ es) u (p >>= λ d. q >>= λ zs. Ok (d ∷ zs))
line_becomes p q z [] es u h one is = absurd (omega arith)
line_becomes p q z (x ∷ y ∷ den) es u h one is = absurd (omega arith)
line_becomes p q z (x ∷ []) es (Ok _) h one is = rw (h, is) refl
line_becomes p q z (x ∷ []) es (Err w) h one is = rw (h, is) refl

pub line-err : (p : Result ℤ Wide) (q : Result (List ℤ) Wide) (w : Wide) → p ≡ Err w
    → (p >>= λ d. q >>= λ zs. Ok (d ∷ zs)) ≡ Err w
line-err p q w h = rw h refl
