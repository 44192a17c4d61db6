-- The terms of a form are read back, name by name.
use Rattle.whole_numbers.proofs.Common.{◌≡◌, ◌∙◌, ap, sym, subst, refl, zero, suc, Bool, true, false, List, [], ◌∷◌}
use Rattle.whole_numbers.proofs.Common.{◌++◌, length, arith, ◌≢◌, ◌&&◌, ℤ, pos, negsuc, Some, None, Option, codes}
use Rattle.whole_numbers.proofs.Common.{if◌then◌else◌, bytes_eq, false≢true, false_from_ne_true, bytes_eq-Decides}
use Rattle.whole_numbers.proofs.Common.{Affine, form_of}
use Rattle.std.proofs.lemmas.List.{append_assoc}
use Rattle.scop_lexer.specs.Bytes.{Text}
use Rattle.form_text.specs.Forms.{signed_text, is_zero, terms_text, form_text}
use Rattle.form_text.specs.Names.{IsVariableName, IsFresh, AreNames, IsFormOver}
use Rattle.form_text.specs.Reading.{Term, term_of, term_in_front, Next, next_of, next_in, ended, with_coefficient}
use Rattle.form_text.specs.Reading.{read_terms, read_form, EndsForm}
use Rattle.form_text.proofs.Digits.{Clean, clean_of}
use Rattle.form_text.proofs.Terms.{name_or_none, term_back}

same_name : (name : Text) → bytes_eq name name ≡ true
same_name name = (bytes_eq-Decides name name).1 refl

other_name : (v w : Text) → v ≢ w → bytes_eq v w ≡ false
other_name v w apart = false_from_ne_true (bytes_eq v w) (λ is. apart ((bytes_eq-Decides v w).0 is))

zero_is : (c : ℤ) → is_zero c ≡ true → c ≡ pos 0
zero_is (pos zero) h = refl
zero_is (pos (suc m)) h = absurd (false≢true h)
zero_is (negsuc m) h = absurd (false≢true h)

-- a term of this name is taken
taken : (front : Bool) (name text : Text) (c : ℤ) (rest : Text) (o : Option Term) → o ≡ Some (term_of c name rest)
    → next_in front name text o ≡ next_of c false rest
taken front name text c rest o e = ap (next_in front name text) e
    ∙ ap (λ (t : Bool). if t then next_of c false rest else next_of (pos 0) front text) (same_name name)

-- nothing is taken for this name from the text
abbrev Passes : Bool → Text → Text → Type 0
Passes front name text = next_in front name text (term_in_front front text) ≡ next_of (pos 0) front text

-- nor is a term of another name
passed : (front : Bool) (name text v : Text) (c : ℤ) (rest : Text) → term_in_front front text ≡ Some (term_of c v rest)
    → v ≢ name → Passes front name text
passed front name text v c rest e apart = ap (next_in front name text) e
    ∙ ap (λ (t : Bool). if t then next_of c false rest else next_of (pos 0) front text) (other_name v name apart)

clean_term : (c : ℤ) (name rest : Text) → Clean (signed_text false c name ++ rest)
clean_term (pos m) name rest = (refl, refl, refl)
clean_term (negsuc m) name rest = (refl, refl, refl)

clean_first : (none : Bool) (x : ℤ) (name behind rest : Text) → Clean (behind ++ rest)
    → Clean (((if none then [] else signed_text false x name) ++ behind) ++ rest)
clean_first true x name behind rest c = c
clean_first false x name behind rest c =
    subst Clean (sym (append_assoc (signed_text false x name) behind rest)) (clean_term x name (behind ++ rest))

clean_constant : (none : Bool) (k : ℤ) (rest : Text) → Clean rest
    → Clean ((if none && false then codes "0" else (if none then [] else signed_text false k [])) ++ rest)
clean_constant true k rest c = c
clean_constant false k rest c = clean_term k [] rest

-- what goes on behind some terms begins with a sign, or is what stands behind all
pub clean_terms : (names : List Text) (cs : List ℤ) (k : ℤ) (rest : Text) → Clean rest
    → Clean (terms_text false names cs k ++ rest)
clean_terms [] cs k rest c = clean_constant (is_zero k) k rest c
clean_terms (name ∷ names) [] k rest c = clean_constant (is_zero k) k rest c
clean_terms (name ∷ names) (x ∷ cs) k rest c =
    clean_first (is_zero x) x name (terms_text (is_zero x && false) names cs k) rest
    (either (is_zero x) (clean_terms names cs k rest c))
  where
    either : (none : Bool) → Clean (terms_text false names cs k ++ rest)
        → Clean (terms_text (none && false) names cs k ++ rest)
    either true h = h
    either false h = h

zero_back : (rest : Text) → Clean rest → term_in_front true (codes "0" ++ rest) ≡ Some (term_of (pos 0) [] rest)
zero_back rest c = term_back true (pos 0) [] rest tt c

nameless : (name : Text) → IsVariableName name → [] ≢ name
nameless name w e = subst IsVariableName (sym e) w

-- the constant is no term with a name
constant_passes : (none front : Bool) (name : Text) (k : ℤ) (rest : Text) → IsVariableName name → EndsForm rest
    → Passes front name ((if none && front then codes "0" else (if none then [] else signed_text front k [])) ++ rest)
constant_passes true true name k rest w c =
    passed true name (codes "0" ++ rest) [] (pos 0) rest (zero_back rest (clean_of rest c.factor)) (nameless name w)
constant_passes true false name k rest w c = ap (next_in false name rest) c.term
constant_passes false front name k rest w c =
    passed front name (signed_text front k [] ++ rest) [] k rest
    (term_back front k [] rest tt (clean_of rest c.factor)) (nameless name w)

-- nor is a term of another name, and what begins with it
term_passes : (none front : Bool) (name v : Text) (x : ℤ) (names : List Text) (cs : List ℤ) (k : ℤ) (rest : Text)
    → v ≢ name → IsVariableName v → Clean (terms_text false names cs k ++ rest)
    → Passes front name (terms_text front names cs k ++ rest)
    → Passes front name
    (((if none then [] else signed_text front x v) ++ terms_text (none && front) names cs k) ++ rest)
term_passes true front name v x names cs k rest apart w c d = d
term_passes false front name v x names cs k rest apart w c d =
    let behind = terms_text false names cs k in
    passed front name ((signed_text front x v ++ behind) ++ rest) v x (behind ++ rest)
    (ap (term_in_front front) (append_assoc (signed_text front x v) behind rest)
    ∙ term_back front x v (behind ++ rest) (name_or_none v w) c) apart

terms_pass : (front : Bool) (name : Text) (names : List Text) (cs : List ℤ) (k : ℤ) (rest : Text) → IsVariableName name
    → IsFresh name names → AreNames names → EndsForm rest
    → Passes front name (terms_text front names cs k ++ rest)
terms_pass front name [] cs k rest w apart n c = constant_passes (is_zero k) front name k rest w c
terms_pass front name (v ∷ names) [] k rest w apart n c = constant_passes (is_zero k) front name k rest w c
terms_pass front name (v ∷ names) (x ∷ cs) k rest w apart n c =
    term_passes (is_zero x) front name v x names cs k rest (λ same. apart.0 (sym same)) n.0
    (clean_terms names cs k rest (clean_of rest c.factor))
    (terms_pass front name names cs k rest w apart.1 n.2 c)

constant_back : (none front : Bool) (k : ℤ) (rest : Text) → is_zero k ≡ none → EndsForm rest
    → read_terms front [] ((if none && front then codes "0" else (if none then [] else signed_text front k [])) ++ rest)
    ≡ Some (form_of [] k, rest)
constant_back true true k rest e c =
    ap ended (taken true [] (codes "0" ++ rest) (pos 0) rest (term_in_front true (codes "0" ++ rest))
    (zero_back rest (clean_of rest c.factor)))
    ∙ ap (λ z. Some (form_of [] z, rest)) (sym (zero_is k e))
constant_back true false k rest e c =
    ap (λ o. ended (next_in false [] rest o)) c.term ∙ ap (λ z. Some (form_of [] z, rest)) (sym (zero_is k e))
constant_back false front k rest e c =
    ap ended (taken front [] (signed_text front k [] ++ rest) k rest
    (term_in_front front (signed_text front k [] ++ rest)) (term_back front k [] rest tt (clean_of rest c.factor)))

-- what is read for a name, and then for the others
abbrev read_behind : List Text → Next → Option (Affine × Text)
read_behind names n = with_coefficient n.coefficient (read_terms n.front names n.rest)

-- one term more
step_back : (none front : Bool) (name : Text) (x : ℤ) (names : List Text) (cs : List ℤ) (k : ℤ) (rest : Text)
    → is_zero x ≡ none → AreNames (name ∷ names) → EndsForm rest
    → read_terms front names (terms_text front names cs k ++ rest) ≡ Some (form_of cs k, rest)
    → read_terms false names (terms_text false names cs k ++ rest) ≡ Some (form_of cs k, rest)
    → read_terms front (name ∷ names)
    (((if none then [] else signed_text front x name) ++ terms_text (none && front) names cs k) ++ rest)
    ≡ Some (form_of (x ∷ cs) k, rest)
step_back true front name x names cs k rest e n c same behind =
    ap (read_behind names) (terms_pass front name names cs k rest n.0 n.1 n.2 c)
    ∙ (ap (with_coefficient (pos 0)) same ∙ ap (λ z. Some (form_of (z ∷ cs) k, rest)) (sym (zero_is x e)))
step_back false front name x names cs k rest e n c same behind =
    let others = terms_text false names cs k in
    let text = (signed_text front x name ++ others) ++ rest in
    ap (read_behind names) (taken front name text x (others ++ rest) (term_in_front front text)
    (ap (term_in_front front) (append_assoc (signed_text front x name) others rest)
    ∙ term_back front x name (others ++ rest) (name_or_none name n.0)
    (clean_terms names cs k rest (clean_of rest c.factor))))
    ∙ ap (with_coefficient x) behind

-- the terms of a form are read back in front of what ends them
pub terms_back : (front : Bool) (names : List Text) (cs : List ℤ) (k : ℤ) (rest : Text) → AreNames names
    → length cs ≡ length names → EndsForm rest
    → read_terms front names (terms_text front names cs k ++ rest) ≡ Some (form_of cs k, rest)
terms_back front [] [] k rest n e c = constant_back (is_zero k) front k rest refl c
terms_back front [] (x ∷ cs) k rest n e c = absurd (omega (arith, e))
terms_back front (name ∷ names) [] k rest n e c = absurd (omega (arith, e))
terms_back front (name ∷ names) (x ∷ cs) k rest n e c =
    step_back (is_zero x) front name x names cs k rest refl n c
    (terms_back front names cs k rest n.2 (omega (arith, e)) c)
    (terms_back false names cs k rest n.2 (omega (arith, e)) c)

pub form_back : (names : List Text) (form : Affine) (rest : Text) → AreNames names → IsFormOver (length names) form
    → EndsForm rest → read_form names (form_text names form ++ rest) ≡ Some (form, rest)
unfolding form_text read_form
form_back names form rest n f c = terms_back true names form.coefficients form.constant rest n f c

-- what an option holds, or another value
abbrev held : {A : Type 0} → A → Option A → A
held other (Some a) = a
held other None = other

-- two forms with one text are one
pub one_form : (names : List Text) (f g : Affine) (r s : Text) → AreNames names → IsFormOver (length names) f
    → IsFormOver (length names) g → EndsForm r → EndsForm s → form_text names f ++ r ≡ form_text names g ++ s
    → (f ≡ g) × (r ≡ s)
one_form names f g r s n hf hg er es same =
    let both = sym (form_back names f r n hf er) ∙ (ap (read_form names) same ∙ form_back names g s n hg es) in (
      ap (λ (o : Option (Affine × Text)). (held {A = Affine × Text} (f, r) o).0) both,
      ap (λ (o : Option (Affine × Text)). (held {A = Affine × Text} (f, r) o).1) both,
    )
