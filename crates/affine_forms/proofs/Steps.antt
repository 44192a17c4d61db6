-- The runs over lists, step by step: what a loop that goes up through the places needs; loops in place, entry by entry.
use Rattle.std.proofs.Common.{◌≡◌, ℕ, suc, ◌+◌, ◌<◌, ◌≤◌, ℤ, pos, List, [], ◌∷◌, ◌++◌, length, get_or, take, drop, refl}
use Rattle.std.proofs.Common.{sym, ap, append_assoc, add-one, arith, drop-cons, Result, Ok, Err, set}
use Rattle.std.specs.List.{refill}
use Rattle.std.proofs.Math.ListN.{drop_of_length-le}
use Rattle.std.proofs.lemmas.List.{take_more_set, drop-set-lt, take_all, append-nil}
use Rattle.wide_math.specs.declared.Wide.{Wide}
use Rattle.wide_math.specs.Checked.{◌>>=◌}
use Rattle.wide_math.specs.Affine.{Affine, form_of}
use Rattle.affine_forms.specs.Runs.{map_run, zip_run, multiply_add_run, dot_run_from}
use Rattle.affine_forms.specs.Runs.{form_run, plus_multiple_run, plus_combination_run}

-- what is done already, in front of what a run gives for the rest
abbrev pub with_front : List ℤ → Result (List ℤ) Wide → Result (List ℤ) Wide
with_front front run = run >>= λ rest. Ok (front ++ rest)

-- an entry more in front is a longer front
pub with_front-step : (front : List ℤ) (z : ℤ) (run : Result (List ℤ) Wide)
    → with_front front (run >>= λ zs. Ok (z ∷ zs)) ≡ with_front (front ++ z ∷ []) run
with_front-step front z (Ok zs) = ap Ok (sym (append_assoc front (z ∷ []) zs))
with_front-step front z (Err w) = refl

-- a step at place i that gives z writes z there
pub zip_run-step : (step : ℤ → ℤ → Result ℤ Wide) (xs ys : List ℤ) (i : ℕ) (z : ℤ)
    → i < length xs
    → i < length ys → step (get_or xs i (pos 0)) (get_or ys i (pos 0)) ≡ Ok z
    → with_front (take (i + 1) (set xs i z))
    (zip_run step (drop (i + 1) (set xs i z)) (drop (i + 1) ys))
    ≡ with_front (take i xs) (zip_run step (drop i xs) (drop i ys))
zip_run-step step xs ys i z hx hy e =
    rw (take_more_set xs i z hx, drop-set-lt (i + 1) xs i z (omega arith))
    (rw (drop-cons xs i (pos 0) hx, drop-cons ys i (pos 0) hy, add-one i, e)
    (sym (with_front-step (take i xs) z (zip_run step (drop (suc i) xs) (drop (suc i) ys)))))

-- a step at place i that fails fails the run
pub zip_run-stop : (step : ℤ → ℤ → Result ℤ Wide) (xs ys : List ℤ) (i : ℕ) (w : Wide)
    → i < length xs
    → i < length ys → step (get_or xs i (pos 0)) (get_or ys i (pos 0)) ≡ Err w
    → with_front (take i xs) (zip_run step (drop i xs) (drop i ys)) ≡ Err w
zip_run-stop step xs ys i w hx hy e = rw (drop-cons xs i (pos 0) hx, drop-cons ys i (pos 0) hy, e) refl

-- at the end all is in front
pub zip_run-end : (step : ℤ → ℤ → Result ℤ Wide) (xs ys : List ℤ) (i : ℕ) → length xs ≤ i
    → with_front (take i xs) (zip_run step (drop i xs) ys) ≡ Ok xs
zip_run-end step xs ys i h = rw (drop_of_length-le xs h, take_all i xs h, append-nil xs) refl

-- a step at place i that gives z writes z there
pub map_run-step : (step : ℤ → Result ℤ Wide) (xs : List ℤ) (i : ℕ) (z : ℤ) → i < length xs
    → step (get_or xs i (pos 0)) ≡ Ok z
    → with_front (take (i + 1) (set xs i z)) (map_run step (drop (i + 1) (set xs i z)))
    ≡ with_front (take i xs) (map_run step (drop i xs))
map_run-step step xs i z h e =
    rw (take_more_set xs i z h, drop-set-lt (i + 1) xs i z (omega arith))
    (rw (drop-cons xs i (pos 0) h, add-one i, e)
    (sym (with_front-step (take i xs) z (map_run step (drop (suc i) xs)))))

-- a step at place i that fails fails the run
pub map_run-stop : (step : ℤ → Result ℤ Wide) (xs : List ℤ) (i : ℕ) (w : Wide) → i < length xs
    → step (get_or xs i (pos 0)) ≡ Err w → with_front (take i xs) (map_run step (drop i xs)) ≡ Err w
map_run-stop step xs i w h e = rw (drop-cons xs i (pos 0) h, e) refl

-- at the end all is in front
pub map_run-end : (step : ℤ → Result ℤ Wide) (xs : List ℤ) (i : ℕ) → length xs ≤ i
    → with_front (take i xs) (map_run step (drop i xs)) ≡ Ok xs
map_run-end step xs i h = rw (drop_of_length-le xs h, take_all i xs h, append-nil xs) refl

-- a dot product: a term more, a term that fails, and the end
pub dot_run_from-step : (sum : ℤ) (xs ys : List ℤ) (i : ℕ) (next : ℤ) → i < length xs → i < length ys
    → multiply_add_run sum (get_or xs i (pos 0)) (get_or ys i (pos 0)) ≡ Ok next
    → dot_run_from next (drop (i + 1) xs) (drop (i + 1) ys) ≡ dot_run_from sum (drop i xs) (drop i ys)
dot_run_from-step sum xs ys i next hx hy e =
    rw (add-one i, drop-cons xs i (pos 0) hx, drop-cons ys i (pos 0) hy, e) refl

pub dot_run_from-stop : (sum : ℤ) (xs ys : List ℤ) (i : ℕ) (w : Wide) → i < length xs → i < length ys
    → multiply_add_run sum (get_or xs i (pos 0)) (get_or ys i (pos 0)) ≡ Err w
    → dot_run_from sum (drop i xs) (drop i ys) ≡ Err w
dot_run_from-stop sum xs ys i w hx hy e = rw (drop-cons xs i (pos 0) hx, drop-cons ys i (pos 0) hy, e) refl

pub dot_run_from-end : (sum : ℤ) (xs ys : List ℤ) (i : ℕ) → length xs ≤ i
    → dot_run_from sum (drop i xs) ys ≡ Ok sum
dot_run_from-end sum xs ys i h = rw (drop_of_length-le xs h) refl

-- a form more of a combination
pub plus_combination_run-step : (sum : Affine) (ks : List ℤ) (gs : List Affine) (i : ℕ)
    (g next : Affine) → i < length ks → i < length gs → g ≡ get_or gs i g
    → plus_multiple_run sum (get_or ks i (pos 0)) g ≡ Ok next
    → plus_combination_run next (drop (i + 1) ks) (drop (i + 1) gs)
    ≡ plus_combination_run sum (drop i ks) (drop i gs)
plus_combination_run-step sum ks gs i g next hk hg is given =
    rw (add-one i, drop-cons ks i (pos 0) hk, drop-cons gs i g hg, ← is, given) refl

-- a list written over a whole one of its length
pub refill_same : {X : Type 0} (xs ws : List X) → length ws ≡ length xs → refill (length xs) xs ws ≡ ws
refill_same xs ws h =
    let none : drop (length ws) xs ≡ [] = drop_of_length-le xs (omega arith) in
    rw (none, append-nil ws) (take_all (length xs) ws (omega arith))

-- a form whose coefficients and constant are written over its own
pub form_run-written : (row : Result (List ℤ) Wide) (last : Result ℤ Wide) (old new : List ℤ) (z : ℤ)
    → row ≡ Ok new → last ≡ Ok z → length new ≡ length old
    → form_run row last ≡ Ok (form_of (refill (length old) old new) z)
form_run-written row last old new z first second sized = rw (first, second, refill_same old new sized) refl
