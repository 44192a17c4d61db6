-- What the code's own words for fronts of slices say, and numbers that are read up to 2^128 - 1.
use Rattle.whole_numbers.proofs.Common.{◌≡◌, ◌∙◌, ap, sym, refl, ℕ, zero, suc, Bool, true, false, [], ◌∷◌, ◌++◌}
use Rattle.whole_numbers.proofs.Common.{take, drop, arith, ◌+◌, List, ◌-◌, ◌*◌, ◌^◌, ◌<◌, length, get_or, ◌≤◌, map}
use Rattle.whole_numbers.proofs.Common.{append-nil, min, drop-cons, add-one, ℤ, pos, negsuc, Option, Some, None}
use Rattle.whole_numbers.proofs.Common.{MatchOption, ◌≢◌, ◌==◌, if◌then◌else◌, bytes_eq, prefix_len, eqb-true, eq-eqb}
use Rattle.whole_numbers.proofs.Common.{drop_all, none-some, same_Some, Affine, form_of}
use Rattle.std.proofs.Common.{ne_eqb}
use Rattle.std.specs.Borrow.{Bor}
use Rattle.std.specs.Prelude.{option_map}
use Rattle.std.proofs.lemmas.List.{append_assoc}
use Rattle.scop_lexer.specs.Bytes.{Text, is_digit}
use Rattle.form_text.specs.Names.{is_name_byte}
use Rattle.form_text.specs.Reading.{strip, when, name_in_front, behind_name, Factor, factor_of, named_as, named}
use Rattle.form_text.specs.Reading.{number_in_front, numbered, negative, plus, minus, with_coefficient, Term, term_of}
use Rattle.form_text.specs.Reading.{Next, next_of, next_in, ended as ended_by, term_in_front, read_terms}
use Rattle.form_text.specs.View.{text_in, saturated, saturated_factor, nearest, nearest_term, nearest_next}
use Rattle.form_text.specs.View.{nearest_form}
use Rattle.form_text.proofs.Calls.{strip_front}

name_of_length : (one : Bool) (b : ℕ) (bs : Text) → is_name_byte b ≡ one
    → take (prefix_len is_name_byte bs) bs ≡ name_in_front bs
    → take (prefix_len is_name_byte (b ∷ bs)) (b ∷ bs) ≡ name_in_front (b ∷ bs)
name_of_length true b bs e h =
    let more : 1 + prefix_len is_name_byte bs ≡ suc (prefix_len is_name_byte bs) = omega arith in
    rw (e, more) (ap (λ (t : Text). b ∷ t) h)
name_of_length false b bs e h = rw e refl

pub name_taken : (bs : Text) → take (prefix_len is_name_byte bs) bs ≡ name_in_front bs
name_taken [] = refl
name_taken (b ∷ bs) = name_of_length (is_name_byte b) b bs refl (name_taken bs)

behind_length : (one : Bool) (b : ℕ) (bs : Text) → is_name_byte b ≡ one
    → drop (prefix_len is_name_byte bs) bs ≡ behind_name bs
    → drop (prefix_len is_name_byte (b ∷ bs)) (b ∷ bs) ≡ behind_name (b ∷ bs)
behind_length true b bs e h =
    let more : 1 + prefix_len is_name_byte bs ≡ suc (prefix_len is_name_byte bs) = omega arith in rw (e, more) h
behind_length false b bs e h = rw e refl

pub name_dropped : (bs : Text) → drop (prefix_len is_name_byte bs) bs ≡ behind_name bs
name_dropped [] = refl
name_dropped (b ∷ bs) = behind_length (is_name_byte b) b bs refl (name_dropped bs)

either_some : (t : Bool) (o : Option Text) (r : Text) → (if t then o else None) ≡ Some r → (t ≡ true) × (o ≡ Some r)
either_some true o r e = (refl, e)
either_some false o r e = absurd (none-some r e)

-- what is stripped stood in front
strip_some : (p s r : Text) → strip p s ≡ Some r → s ≡ p ++ r
strip_some [] s r e = same_Some s r e
strip_some (a ∷ p) [] r e = absurd (none-some r e)
strip_some (a ∷ p) (b ∷ s) r e =
    let both = either_some (a == b) (strip p s) r e in
    ap (λ x. x ∷ s) (sym (eqb-true a b both.0)) ∙ ap (λ (t : Text). a ∷ t) (strip_some p s r both.1)

not_stripped : (p s : Text) → ((r : Text) → s ≡ p ++ r → ⊥) → (o : Option Text) → strip p s ≡ o → None ≡ o
not_stripped p s h None e = refl
not_stripped p s h (Some r) e = absurd (h r (strip_some p s r e))

pub stripped : (s p : Text) (r : Option (Bor Text))
    → MatchOption r ((rest : Text) → s ≢ p ++ rest) (λ x. s ≡ p ++ x.now) → text_in r ≡ strip p s
stripped s p (Some x) h = sym (ap (strip p) h ∙ strip_front p x.now)
stripped s p None h = not_stripped p s h (strip p s) refl

-- a name that is there, with no bracket behind it
pub not_called : (m : ℕ) (name rest : Text) → 0 < length name → 0 < length rest → (get_or rest 0 0 ≡ 40 → ⊥)
    → named_as m name rest ≡ Some (factor_of m name rest)
not_called m [] rest some there h = absurd (omega (arith, some))
not_called m (b ∷ bs) [] some there h = refl
not_called m (b ∷ bs) (r ∷ rs) some there h = rw (ne_eqb r 40 h) refl

pub called : (m : ℕ) (name rest : Text) → 0 < length rest → get_or rest 0 0 ≡ 40 → named_as m name rest ≡ None
called m [] rest there h = refl
called m (b ∷ bs) [] there h = absurd (omega (arith, there))
called m (b ∷ bs) (r ∷ rs) there h = rw (eq-eqb r 40 h) refl

pub ended : (m : ℕ) (name rest : Text) → 0 < length name → length rest ≡ 0
    → named_as m name rest ≡ Some (factor_of m name rest)
ended m [] rest some h = absurd (omega (arith, some))
ended m (b ∷ bs) [] some h = refl
ended m (b ∷ bs) (r ∷ rs) some h = absurd (omega (arith, h))

pub nameless : (m : ℕ) (name rest : Text) → length name ≡ 0 → named_as m name rest ≡ None
nameless m [] rest h = refl
nameless m (b ∷ bs) rest h = absurd (omega (arith, h))

pub ruleset naming = (not_called, called, ended, nameless)

pub ruleset stripping = (name_taken, name_dropped)

-- numbers that are the same up to the greatest stay so with more digits behind them
pub saturated_same : (v w : ℕ) (bs : Text) → saturated v ≡ saturated w
    → saturated (number_in_front v bs) ≡ saturated (number_in_front w bs)
saturated_same v w [] e = e
saturated_same v w (b ∷ bs) e = by_digit (is_digit b) (b - 48)
    (saturated_same (v * 10 + (b - 48)) (w * 10 + (b - 48)) bs (omega (arith, e)))
  where
    by_digit : (t : Bool) (d : ℕ)
        → saturated (number_in_front (v * 10 + (b - 48)) bs) ≡ saturated (number_in_front (w * 10 + (b - 48)) bs)
        → saturated (if t then number_in_front (v * 10 + (b - 48)) bs else v)
        ≡ saturated (if t then number_in_front (w * 10 + (b - 48)) bs else w)
    by_digit true d h = h
    by_digit false d h = e

named_saturated : (m : ℕ) (name rest : Text)
    → saturated_factor (named_as m name rest) ≡ named_as (saturated m) name rest
named_saturated m [] rest = refl
named_saturated m (b ∷ bs) [] = refl
named_saturated m (b ∷ bs) (r ∷ rs) = either (r == 40)
  where
    either : (t : Bool) → saturated_factor (if t then None else Some (factor_of m (b ∷ bs) (r ∷ rs)))
        ≡ (if t then None else Some (factor_of (saturated m) (b ∷ bs) (r ∷ rs)))
    either true = refl
    either false = refl

-- a number that is read up to the greatest
pub numbered_saturated : (m : ℕ) (text : Text) → saturated_factor (numbered m text) ≡ numbered (saturated m) text
numbered_saturated m [] = refl
numbered_saturated m (b ∷ bs) = either (b == 42)
  where
    either : (t : Bool) → saturated_factor (if t then named m bs else Some (factor_of m [] (b ∷ bs)))
        ≡ (if t then named (saturated m) bs else Some (factor_of (saturated m) [] (b ∷ bs)))
    either true = named_saturated m (name_in_front bs) (behind_name bs)
    either false = refl

pub named_once : (text : Text) → saturated_factor (named 1 text) ≡ named 1 text
named_once text = named_saturated 1 (name_in_front text) (behind_name text)

-- a number that is read up to the greatest is one of 128 bits
pub plus_saturated : (o : Option Factor)
    → option_map nearest_term (option_map plus (saturated_factor o)) ≡ option_map nearest_term (option_map plus o)
plus_saturated None = refl
plus_saturated (Some f) =
    ap (λ n. Some (term_of (pos n) f.name f.rest)) (let e : min (saturated f.number) (2 ^ 127 - 1)
    ≡ min f.number (2 ^ 127 - 1) = omega arith in e)

negative_saturated : (n : ℕ) → nearest (negative (saturated n)) ≡ nearest (negative n)
negative_saturated zero = refl
negative_saturated (suc n) =
    let less : saturated (suc n) ≡ suc (min n (2 ^ 128 - 2)) = omega arith in
    ap (λ k. nearest (negative k)) less
    ∙ ap negsuc (let e : min (min n (2 ^ 128 - 2)) (2 ^ 127 - 1) ≡ min n (2 ^ 127 - 1) = omega arith in e)

pub minus_saturated : (o : Option Factor)
    → option_map nearest_term (option_map minus (saturated_factor o)) ≡ option_map nearest_term (option_map minus o)
minus_saturated None = refl
minus_saturated (Some f) = ap (λ z. Some (term_of z f.name f.rest)) (negative_saturated f.number)

pub ruleset saturating = (numbered_saturated, named_once, plus_saturated, minus_saturated)

-- what is read for a name, of a term that is read with the nearest coefficient
pub next_nearest : (front : Bool) (name text : Text) (o : Option Term)
    → next_in front name text (option_map nearest_term o) ≡ nearest_next (next_in front name text o)
next_nearest front name text None = refl
next_nearest front name text (Some t) = by_name (bytes_eq t.name name)
  where
    by_name : (same : Bool)
        → (if same then next_of (nearest t.coefficient) false t.rest else next_of (pos 0) front text)
        ≡ nearest_next (if same then next_of t.coefficient false t.rest else next_of (pos 0) front text)
    by_name true = refl
    by_name false = refl

pub ruleset nearing = (next_nearest)

coefficient_nearest : (c : ℤ) (r : Option (Affine × Text))
    → option_map nearest_form (with_coefficient c r) ≡ with_coefficient (nearest c) (option_map nearest_form r)
coefficient_nearest c None = refl
coefficient_nearest c (Some f) = refl

-- coefficients that were read, in front of those of what is still read
abbrev pub joined : List ℤ → Option (Affine × Text) → Option (Affine × Text)
joined cs r = when r (λ f. Some (form_of (cs ++ f.0.coefficients) f.0.constant, f.1))

pub joined_more : (cs : List ℤ) (c : ℤ) (r : Option (Affine × Text))
    → joined (cs ++ (c ∷ [])) r ≡ joined cs (with_coefficient c r)
joined_more cs c None = refl
joined_more cs c (Some f) =
    ap (λ (ds : List ℤ). Some (form_of ds f.0.constant, f.1)) (append_assoc cs (c ∷ []) f.0.coefficients)

-- a name more, with its coefficient in front of what is still read
pub terms_more : {A : Type 0} (name_of : A → Text) (xs : List A) (i : ℕ) (x : A) (name text : Text) (front : Bool)
    (next : Next) (cs more : List ℤ) (whole : Option (Affine × Text)) → x ≡ get_or xs i x → i < length xs
    → name ≡ name_of x → next ≡ nearest_next (next_in front name text (term_in_front front text))
    → more ≡ cs ++ next.coefficient ∷ []
    → joined cs (option_map nearest_form (read_terms front (map name_of (drop i xs)) text)) ≡ whole
    → joined more (option_map nearest_form (read_terms next.front (map name_of (drop (i + 1) xs)) next.rest)) ≡ whole
terms_more name_of xs i x name text front next cs more whole found within named read pushed so_far =
    let behind = map name_of (drop (i + 1) xs) in
    let here : map name_of (drop i xs) ≡ name ∷ behind =
    ap (map name_of) (drop-cons xs i x within)
    ∙ (ap (λ k. name_of (get_or xs i x) ∷ map name_of (drop k xs)) (sym (add-one i))
    ∙ (ap (λ y. name_of y ∷ behind) (sym found) ∙ ap (λ (t : Text). t ∷ behind) (sym named))) in
    let of_next = λ (n : Next). option_map nearest_form (read_terms n.front behind n.rest) in
    let exact = next_in front name text (term_in_front front text) in
    ap (λ (ds : List ℤ). joined ds (of_next next)) pushed
    ∙ (joined_more cs next.coefficient (of_next next)
    ∙ (ap (λ (n : Next). joined cs (with_coefficient n.coefficient (of_next n))) read
    ∙ (ap (joined cs) (sym (coefficient_nearest exact.coefficient (read_terms exact.front behind exact.rest)))
    ∙ (ap (λ (ts : List Text). joined cs (option_map nearest_form (read_terms front ts text))) (sym here) ∙ so_far))))

-- behind the last name, what is read for none tells the constant
pub terms_last : {A : Type 0} (name_of : A → Text) (xs : List A) (i : ℕ) (text : Text) (front : Bool) (next : Next)
    (cs : List ℤ) (whole : Option (Affine × Text)) (none : Bool) → length xs ≤ i
    → next ≡ nearest_next (next_in front [] text (term_in_front front text)) → next.front ≡ none
    → joined cs (option_map nearest_form (read_terms front (map name_of (drop i xs)) text)) ≡ whole
    → (if none then None else Some (form_of cs next.coefficient, next.rest)) ≡ whole
terms_last {A} name_of xs i text front next cs whole none past read is so_far =
    ap (λ (b : Bool). if b then None else Some (form_of cs next.coefficient, next.rest)) (sym is)
    ∙ (joined_last cs next.coefficient next.rest next.front
    ∙ (ap (λ (n : Next). joined cs (ended_by n)) read
    ∙ (ap (joined cs) (ended_nearest (next_in front [] text (term_in_front front text)))
    ∙ (ap (λ (ys : List A). joined cs (option_map nearest_form (read_terms front (map name_of ys) text)))
    (sym (drop_all i xs past)) ∙ so_far))))
  where
    joined_last : (cs : List ℤ) (c : ℤ) (rest : Text) (b : Bool)
        → (if b then None else Some (form_of cs c, rest)) ≡ joined cs (if b then None else Some (form_of [] c, rest))
    joined_last cs c rest true = refl
    joined_last cs c rest false = ap (λ (ds : List ℤ). Some (form_of ds c, rest)) (sym (append-nil cs))

    ended_nearest : (n : Next) → ended_by (nearest_next n) ≡ option_map nearest_form (ended_by n)
    ended_nearest n = by_front n.front
      where
        by_front : (b : Bool) → (if b then None else Some (form_of [] (nearest n.coefficient), n.rest))
            ≡ option_map nearest_form (if b then None else Some (form_of [] n.coefficient, n.rest))
        by_front true = refl
        by_front false = refl

-- no digit stands in front of nothing
pub stops_at_end : (v : ℕ) (text : Text) → length text ≡ 0 → number_in_front v text ≡ v
stops_at_end v [] e = refl
stops_at_end v (b ∷ bs) e = absurd (omega (arith, e))
