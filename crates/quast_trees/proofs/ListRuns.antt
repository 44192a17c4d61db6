-- Runs over the elements of a list, in order.
use Rattle.whole_numbers.proofs.Common.{◌≡◌, ℕ, ◌+◌, ◌<◌, ◌≤◌, List, [], ◌∷◌, ◌++◌, length, get_or, drop, Result, Ok}
use Rattle.whole_numbers.proofs.Common.{Err, refl, sym, ap, ◌∙◌, append_assoc, append-nil, add-one, drop-cons, map, All}
use Rattle.whole_numbers.proofs.Common.{drop_all, All-nil, All-cons, All-head, All-tail}
use Rattle.wide_math.specs.declared.Wide.{Wide}
use Rattle.wide_math.specs.Checked.{◌>>=◌}
use Rattle.wide_math.proofs.Steps.{chain-ok}
use Rattle.affine_forms.specs.Gives.{Fails}
use Rattle.affine_forms.specs.declared.stop.FormStop.{FormStop}
use Rattle.affine_forms.specs.declared.stop.FormStop.TheVariants as stop
use Rattle.quast_trees.specs.Each.{each_run}

-- results so far in front of those of the rest
abbrev pub after : {B : Type 0} → List B → Result (List B) Wide → Result (List B) Wide
after front rest = rest >>= λ ys. Ok (front ++ ys)

-- the first i elements gave these results
pub record EachSoFar {A B : Type 0} (run : A → Result B Wide) (xs : List A) (i : ℕ) (done : List B) : Type 0 where
  pub so_far : after done (each_run run (drop i xs)) ≡ each_run run xs

-- no results in front change nothing
pub after-nil : {B : Type 0} (rest : Result (List B) Wide) → after [] rest ≡ rest
after-nil (Ok ys) = refl
after-nil (Err e) = refl

-- what is left from an element on
each_drop : {A B : Type 0} (run : A → Result B Wide) (xs : List A) (i : ℕ) (d : A) → i < length xs
    → each_run run (drop i xs) ≡ (run (get_or xs i d) >>= λ y. each_run run (drop (i + 1) xs) >>= λ ys. Ok (y ∷ ys))
each_drop run xs i d h = rw (add-one, drop-cons xs i d) refl

-- results in front, and one more behind them
after_more : {B : Type 0} (done : List B) (y : B) (rest : Result (List B) Wide)
    → after (done ++ y ∷ []) rest ≡ after done (rest >>= λ ys. Ok (y ∷ ys))
after_more done y (Ok ys) = ap Ok (append_assoc done (y ∷ []) ys)
after_more done y (Err w) = refl

-- an element whose run gives a result
pub each_more : {A B : Type 0} (run : A → Result B Wide) (xs : List A) (i : ℕ) (done next : List B) (d : A) (y : B)
    → i < length xs → EachSoFar run xs i done → run (get_or xs i d) ≡ Ok y → next ≡ done ++ y ∷ []
    → EachSoFar run xs (i + 1) next
each_more run xs i done next d y h s e is =
    let rest = each_run run (drop (i + 1) xs) in
    record {
      so_far = ap (λ zs. after zs rest) is ∙ after_more done y rest
          ∙ ap (λ r. after done (r >>= λ z. rest >>= λ zs. Ok (z ∷ zs))) (sym e)
          ∙ ap (after done) (sym (each_drop run xs i d h)) ∙ s.so_far;
    }

-- an element whose run fails
pub each_stops : {A B : Type 0} (run : A → Result B Wide) (xs : List A) (i : ℕ) (done : List B) (d : A)
    (w : Wide) → i < length xs
    → EachSoFar run xs i done → run (get_or xs i d) ≡ Err w → each_run run xs ≡ Err w
each_stops run xs i done d w h s e =
    sym s.so_far ∙ ap (after done) (each_drop run xs i d h)
    ∙ ap (λ r. after done (r >>= λ z. each_run run (drop (i + 1) xs) >>= λ zs. Ok (z ∷ zs))) e

-- before the first element
pub each_start : {A B : Type 0} (run : A → Result B Wide) (xs : List A) (done : List B) → done ≡ []
    → EachSoFar run xs 0 done
each_start run xs done is =
    record { so_far = ap (λ zs. after zs (each_run run xs)) is ∙ after-nil (each_run run xs) }

-- an element at which a call stops
pub each_fails : {A B : Type 0} (run : A → Result B Wide) (xs : List A) (i : ℕ) (done : List B) (d : A)
    (cause : FormStop) → i < length xs
    → EachSoFar run xs i done → Fails cause (run (get_or xs i d)) → Fails cause (each_run run xs)
each_fails run xs i done d (stop.Wide w) h s e = each_stops run xs i done d w h s e
each_fails run xs i done d stop.NoMemory h s e = tt

-- behind the last element
pub each_done : {A B : Type 0} (run : A → Result B Wide) (xs : List A) (i : ℕ) (done : List B) → length xs ≤ i
    → EachSoFar run xs i done → each_run run xs ≡ Ok done
each_done run xs i done h s =
    sym s.so_far ∙ ap (λ rest. after done (each_run run rest)) (drop_all i xs h) ∙ ap Ok (append-nil done)

-- a result in front of joined results
cons_then : {B : Type 0} (first : Result B Wide) (rest both more : Result (List B) Wide)
    → both ≡ (rest >>= λ us. after us more)
    → (first >>= λ y. both >>= λ ys. Ok (y ∷ ys)) ≡
    ((first >>= λ y. rest >>= λ ys. Ok (y ∷ ys)) >>= λ us. after us more)
cons_then (Err w) rest both more e = refl
cons_then (Ok y) (Err w) both more e = rw e refl
cons_then (Ok y) (Ok us) both (Err w) e = rw e refl
cons_then (Ok y) (Ok us) both (Ok vs) e = rw e refl

-- the results of two lists, one behind the other
pub each-append : {A B : Type 0} (run : A → Result B Wide) (xs ys : List A)
    → each_run run (xs ++ ys) ≡ (each_run run xs >>= λ us. after us (each_run run ys))
each-append run [] ys = sym (after-nil (each_run run ys))
each-append run (x ∷ xs) ys = cons_then (run x) (each_run run xs) (each_run run (xs ++ ys)) (each_run run ys)
    (each-append run xs ys)

-- what is equal of each element and of its result is equal of the two lists
pub each_run-map : {A B C : Type 0} (run : A → Result B Wide) (p : A → C) (q : B → C)
    → ((x : A) (y : B) → run x ≡ Ok y → q y ≡ p x)
    → (xs : List A) (ys : List B) → each_run run xs ≡ Ok ys → map q ys ≡ map p xs
each_run-map run p q same [] ys h = let e : ys ≡ [] = cc in rw e refl
each_run-map run p q same (x ∷ xs) ys h =
    let first = chain-ok (run x) (λ y. each_run run xs >>= λ zs. Ok (y ∷ zs)) ys h in
    let rest = chain-ok (each_run run xs) (λ zs. Ok (first.0 ∷ zs)) ys first.2 in
    let e : ys ≡ first.0 ∷ rest.0 = cc (rest.2) in
    let head = same x first.0 first.1 in
    let tail = each_run-map run p q same xs rest.0 rest.1 in
    rw (e, head, tail) refl

-- what holds of each result holds of all
pub each_run-all : {A B : Type 0} (run : A → Result B Wide) (P : A → Type 0) (Q : B → Type 0)
    → ((x : A) (y : B) → P x → run x ≡ Ok y → Q y)
    → (xs : List A) (ys : List B) → All P xs → each_run run xs ≡ Ok ys → All Q ys
each_run-all run P Q keeps [] ys all h = let e : ys ≡ [] = cc in rw e (All-nil Q)
each_run-all run P Q keeps (x ∷ xs) ys all h =
    let first = chain-ok (run x) (λ y. each_run run xs >>= λ zs. Ok (y ∷ zs)) ys h in
    let rest = chain-ok (each_run run xs) (λ zs. Ok (first.0 ∷ zs)) ys first.2 in
    let e : ys ≡ first.0 ∷ rest.0 = cc (rest.2) in
    let head = keeps x first.0 (All-head P x xs all) first.1 in
    let tail = each_run-all run P Q keeps xs rest.0 (All-tail P x xs all) rest.1 in
    rw e (All-cons Q first.0 rest.0 head tail)
