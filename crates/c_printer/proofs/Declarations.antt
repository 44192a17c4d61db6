-- Parameters and arrays in the order of their declarations, one by one.
use Rattle.scop_syntax.proofs.Common.{◌≡◌, ◌∙◌, ap, sym, refl, ℕ, zero, suc, ◌+◌, ◌<◌, ◌≤◌, Bool, false, List, [], ◌∷◌}
use Rattle.scop_syntax.proofs.Common.{◌++◌, length, map, drop, get_or, add-one, append-nil, arith, ◌≢◌, codes}
use Rattle.scop_syntax.proofs.Common.{if◌then◌else◌, eq-eqb, ne_eqb, length-map, drop_all, Declaration}
use Rattle.std.proofs.lemmas.List.{append_assoc}
use Rattle.scop_lexer.specs.Bytes.{Text}
use Rattle.c_printer.specs.Statements.{array_text, arrays_behind, comma, declared_from, listed}
use Rattle.c_printer.proofs.PutTexts.{behind, entry_here}

map_ahead : {A B : Type 0} (f : A → B) (xs : List A) (i : ℕ) (d : A) → i < length xs
    → drop i (map f xs) ≡ f (get_or xs i d) ∷ drop (suc i) (map f xs)
map_ahead f [] i d h = absurd (omega (arith, h))
map_ahead f (x ∷ xs) zero d h = refl
map_ahead f (x ∷ xs) (suc i) d h = map_ahead f xs i d (omega (arith, h))

-- a mapped list from the entry at a place on
pub map_here : {A B : Type 0} (f : A → B) (xs : List A) (i : ℕ) (x : A) → x ≡ get_or xs i x → i < length xs
    → drop i (map f xs) ≡ f x ∷ drop (i + 1) (map f xs)
map_here f xs i x found h =
    map_ahead f xs i x h
    ∙ (ap (λ y. f y ∷ drop (suc i) (map f xs)) (sym found) ∙ ap (λ k. f x ∷ drop k (map f xs)) (sym (add-one i)))

-- an array more that is declared there
pub array_more : (ps : List Text) (ds : List Declaration) (k i : ℕ) (d : Declaration) (first : Bool) (old new : Text)
    (whole : List Text → Text) → d ≡ get_or ds i d → i < length ds → d.parameters_before ≡ k
    → new ≡ old ++ (comma first ++ array_text ps d)
    → ((others : List Text) → old ++ listed first (arrays_behind ps k (drop i ds) ++ others) ≡ whole others)
    → (others : List Text) → new ++ listed false (arrays_behind ps k (drop (i + 1) ds) ++ others) ≡ whole others
array_more ps ds k i d first old new whole found within same put so_far others =
    let text = array_text ps d in
    let more = arrays_behind ps k (drop (i + 1) ds) in
    let rest = listed false (more ++ others) in
    let split : arrays_behind ps k (drop i ds) ≡ text ∷ more =
    ap (arrays_behind ps k) (entry_here ds i d found within)
    ∙ ap (λ b. if b then text ∷ more else more) (eq-eqb d.parameters_before k same) in
    behind old new (comma first ++ text) rest put
    ∙ (ap (λ (t : Text). old ++ t) (append_assoc (comma first) text rest)
    ∙ (ap (λ (ts : List Text). old ++ listed first (ts ++ others)) (sym split) ∙ so_far others))

-- an array that is declared elsewhere
pub array_past : (ps : List Text) (ds : List Declaration) (k i : ℕ) (d : Declaration) (first : Bool) (old : Text)
    (whole : List Text → Text) → d ≡ get_or ds i d → i < length ds → d.parameters_before ≢ k
    → ((others : List Text) → old ++ listed first (arrays_behind ps k (drop i ds) ++ others) ≡ whole others)
    → (others : List Text) → old ++ listed first (arrays_behind ps k (drop (i + 1) ds) ++ others) ≡ whole others
array_past ps ds k i d first old whole found within other so_far others =
    let more = arrays_behind ps k (drop (i + 1) ds) in
    let split : arrays_behind ps k (drop i ds) ≡ more =
    ap (arrays_behind ps k) (entry_here ds i d found within)
    ∙ ap (λ b. if b then array_text ps d ∷ more else more) (ne_eqb d.parameters_before k other) in
    ap (λ (ts : List Text). old ++ listed first (ts ++ others)) (sym split) ∙ so_far others

-- the arrays in front of a parameter, and the parameter
pub declared_more : (ps : List Text) (arrays : List Declaration) (i : ℕ) (out one two whole name : Text)
    (first here : Bool) → drop i ps ≡ name ∷ drop (i + 1) ps
    → ((others : List Text) → one ++ listed here others ≡ out ++ listed first (arrays_behind ps i arrays ++ others))
    → two ≡ one ++ (comma here ++ (codes "int64_t " ++ name))
    → out ++ listed first (declared_from ps arrays i (drop i ps)) ≡ whole
    → two ++ listed false (declared_from ps arrays (i + 1) (drop (i + 1) ps)) ≡ whole
declared_more ps arrays i out one two whole name first here ahead put pushed so_far =
    let rest = declared_from ps arrays (i + 1) (drop (i + 1) ps) in
    let text : Text = codes "int64_t " ++ name in
    let split : declared_from ps arrays i (drop i ps) ≡ arrays_behind ps i arrays ++ (text ∷ rest) =
    ap (declared_from ps arrays i) ahead
    ∙ ap (λ k. arrays_behind ps i arrays ++ (text ∷ declared_from ps arrays k (drop (i + 1) ps))) (sym (add-one i)) in
    behind one two (comma here ++ text) (listed false rest) pushed
    ∙ (ap (λ (t : Text). one ++ t) (append_assoc (comma here) text (listed false rest))
    ∙ (put (text ∷ rest) ∙ (ap (λ (ts : List Text). out ++ listed first ts) (sym split) ∙ so_far)))

-- behind the last parameter only arrays are left
pub declared_all : {A : Type 0} (f : A → Text) (xs : List A) (arrays : List Declaration) (i n : ℕ)
    (out one whole : Text) (first here : Bool) → length xs ≤ i → n ≡ i
    → ((others : List Text)
    → one ++ listed here others ≡ out ++ listed first (arrays_behind (map f xs) n arrays ++ others))
    → out ++ listed first (declared_from (map f xs) arrays i (drop i (map f xs))) ≡ whole → one ≡ whole
declared_all f xs arrays i n out one whole first here h same put so_far =
    let ps = map f xs in
    let l = length-map xs f in
    let none : drop i ps ≡ [] = drop_all i ps (omega (arith, h, l)) in
    sym (append-nil one)
    ∙ (put []
    ∙ (ap (λ (ts : List Text). out ++ listed first ts)
    (append-nil (arrays_behind ps n arrays)
    ∙ (ap (λ k. arrays_behind ps k arrays) same ∙ sym (ap (declared_from ps arrays i) none)))
    ∙ so_far))
