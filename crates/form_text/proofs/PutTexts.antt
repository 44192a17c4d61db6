-- Terms put behind one another.
use Rattle.whole_numbers.proofs.Common.{◌≡◌, ◌∙◌, ap, sym, refl, ℕ, zero, suc, ◌<◌, ◌≤◌, Bool, true, false, List, []}
use Rattle.whole_numbers.proofs.Common.{◌∷◌, ◌++◌, length, drop, arith, add-one, ap₂, drop-cons, get_or, map}
use Rattle.whole_numbers.proofs.Common.{◌+◌, ◌==◌, ◌≢◌, ◌&&◌, ℤ, if◌then◌else◌, eqb-true, eq-eqb}
use Rattle.std.proofs.lemmas.List.{append_assoc}
use Rattle.scop_lexer.specs.Bytes.{Text}
use Rattle.form_text.specs.Forms.{factor_text, constant_text, is_zero, term_text, terms_text}
use Rattle.form_text.specs.Numerals.{numeral}

pub alone : (m : ℕ) (name : Text) → length name ≡ 0 → factor_text m name ≡ numeral m
alone m [] e = refl
alone m (b ∷ bs) e = absurd (omega (arith, e))

many : (same : Bool) (m : ℕ) (name : Text) → (m == 1) ≡ same → m ≢ 1
    → (if same then name else numeral m ++ (42 ∷ name)) ≡ numeral m ++ (42 ∷ name)
many true m name e h = absurd (h (eqb-true m 1 e))
many false m name e h = refl

product : (m : ℕ) (name : Text) → 0 < length name → m ≢ 1 → factor_text m name ≡ numeral m ++ (42 ∷ name)
product m [] some h = absurd (omega (arith, some))
product m (b ∷ bs) some h = many (m == 1) m (b ∷ bs) refl h

-- a number, `*` and a name are put one behind the other
pub put_product : (out first second name : Text) (m : ℕ) → first ≡ out ++ numeral m → second ≡ first ++ (42 ∷ [])
    → 0 < length name → m ≢ 1 → second ++ name ≡ out ++ factor_text m name
put_product out first second name m e f some h =
    ap (λ (x : Text). x ++ name) (f ∙ ap (λ (x : Text). x ++ (42 ∷ [])) e)
    ∙ (append_assoc (out ++ numeral m) (42 ∷ []) name ∙ (append_assoc out (numeral m) (42 ∷ name)
    ∙ ap (λ (x : Text). out ++ x) (sym (product m name some h))))

pub single : (m : ℕ) (name : Text) → 0 < length name → m ≡ 1 → factor_text m name ≡ name
single m [] some h = absurd (omega (arith, some))
single m (b ∷ bs) some h = ap (λ (t : Bool). if t then b ∷ bs else numeral m ++ (42 ∷ b ∷ bs)) (eq-eqb m 1 h)

no_terms : (front : Bool) (names : List Text) (k : ℤ) → terms_text front names [] k ≡ constant_text front k
no_terms front [] k = refl
no_terms front (name ∷ names) k = refl

-- behind the last coefficient only the constant is left
pub behind_all : (front : Bool) (names : List Text) (cs : List ℤ) (k : ℤ) (at : ℕ) → length cs ≤ at
    → terms_text front names (drop at cs) k ≡ constant_text front k
behind_all front names [] k zero h = no_terms front names k
behind_all front names [] k (suc at) h = no_terms front names k
behind_all front names (c ∷ cs) k zero h = absurd (omega (arith, h))
behind_all front names (c ∷ cs) k (suc at) h = behind_all front names cs k at (omega (arith, h))

-- a list from the entry at a place on
ahead : {A : Type 0} (xs : List A) (i : ℕ) (x : A) → x ≡ get_or xs i x → i < length xs → drop i xs ≡ x ∷ drop (i + 1) xs
ahead xs i x found within =
    drop-cons xs i x within
    ∙ (ap (λ k. get_or xs i x ∷ drop k xs) (sym (add-one i)) ∙ ap (λ y. y ∷ drop (i + 1) xs) (sym found))

-- a term more
pub term_put : {A : Type 0} (f : A → Text) (xs : List A) (cs : List ℤ) (k : ℤ) (i : ℕ) (front next : Bool) (x : A)
    (c : ℤ) (old new whole : Text) → x ≡ get_or xs i x → c ≡ get_or cs i c → i < length xs → i < length cs
    → new ≡ old ++ term_text front c (f x) → next ≡ (is_zero c && front)
    → old ++ terms_text front (map f (drop i xs)) (drop i cs) k ≡ whole
    → new ++ terms_text next (map f (drop (i + 1) xs)) (drop (i + 1) cs) k ≡ whole
term_put {A} f xs cs k i front next x c old new whole at_x at_c hx hc put is so_far =
    let ys = map f (drop (i + 1) xs) in
    let ds = drop (i + 1) cs in
    let rest = terms_text (is_zero c && front) ys ds k in
    ap (λ b. new ++ terms_text b ys ds k) is
    ∙ (ap (λ (t : Text). t ++ rest) put
    ∙ (append_assoc old (term_text front c (f x)) rest
    ∙ (ap₂ (λ (us : List A) (zs : List ℤ). old ++ terms_text front (map f us) zs k)
    (sym (ahead xs i x at_x hx)) (sym (ahead cs i c at_c hc)) ∙ so_far)))

pub ruleset putting = (append_assoc, alone, single)
