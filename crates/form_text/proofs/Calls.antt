-- Given bytes in front of a text are taken off it; no call stands in front of a form.
use Rattle.whole_numbers.proofs.Common.{◌≡◌, ◌∙◌, ap, sym, subst, refl, ℕ, suc, Bool, true, false, List, [], ◌∷◌}
use Rattle.whole_numbers.proofs.Common.{◌++◌, ◌==◌, ◌&&◌, ℤ, pos, negsuc, Some, None, Option, codes, if◌then◌else◌}
use Rattle.whole_numbers.proofs.Common.{list_all, false≢true, eq-eqb, Affine}
use Rattle.std.proofs.Common.{ne_eqb}
use Rattle.std.proofs.lemmas.List.{append_assoc}
use Rattle.scop_lexer.specs.Bytes.{Text, is_digit}
use Rattle.form_text.specs.Forms.{factor_text, signed_text, is_zero, terms_text, form_text}
use Rattle.form_text.specs.Names.{begins_name, is_name_byte, AreNameBytes, IsVariableName, AreNames}
use Rattle.form_text.specs.Numerals.{numeral}
use Rattle.form_text.specs.Reading.{strip}
use Rattle.form_text.proofs.Digits.{Clean, numeral_digits}
use Rattle.form_text.proofs.Terms.{IsNameOrNone, name_or_none, begins_is_byte, begins_no_digit, left_true}
use Rattle.form_text.proofs.Terms.{right_true}
use Rattle.form_text.proofs.Forms.{clean_terms}

-- given bytes in front are taken off
pub strip_front : (p text : Text) → strip p (p ++ text) ≡ Some text
strip_front [] text = refl
strip_front (b ∷ p) text =
    ap (λ (t : Bool). if t then strip p (p ++ text) else None) (eq-eqb b b refl) ∙ strip_front p text

-- a byte of names and another byte
byte_differs : (b x : ℕ) → is_name_byte b ≡ true → is_name_byte x ≡ false → (b == x) ≡ false
byte_differs b x h g = ne_eqb b x (λ e. false≢true (sym g ∙ (ap is_name_byte (sym e) ∙ h)))

other_differs : (b x : ℕ) → is_name_byte b ≡ true → is_name_byte x ≡ false → (x == b) ≡ false
other_differs b x h g = ne_eqb x b (λ e. false≢true (sym g ∙ (ap is_name_byte e ∙ h)))

differs : (p b : ℕ) (ps bs : Text) → (p == b) ≡ false → strip (p ∷ ps) (b ∷ bs) ≡ None
differs p b ps bs e = ap (λ (t : Bool). if t then strip ps bs else None) e

either : (t : Bool) (o : Option Text) → o ≡ None → (if t then o else None) ≡ None
either true o h = h
either false o h = refl

-- a name with `(` behind it is none that has no such behind it
no_call : (w name rest : Text) → AreNameBytes w → AreNameBytes name → Clean rest
    → strip (w ++ (40 ∷ [])) (name ++ rest) ≡ None
no_call [] [] [] a n c = refl
no_call [] [] (x ∷ rest) a n c =
    differs 40 x [] rest (ne_eqb 40 x (λ e. false≢true (sym c.1 ∙ eq-eqb x 40 (sym e))))
no_call [] (b ∷ name) rest a n c = differs 40 b [] (name ++ rest) (other_differs b 40 n.0 refl)
no_call (v ∷ w) [] [] a n c = refl
no_call (v ∷ w) [] (x ∷ rest) a n c = differs v x (w ++ (40 ∷ [])) rest (byte_differs v x a.0 c.0)
no_call (v ∷ w) (b ∷ name) rest a n c =
    either (v == b) (strip (w ++ (40 ∷ [])) (name ++ rest)) (no_call w name rest a.1 n.1 c)

-- a call, by its name
pub record IsCall (call : Text) : Type 0 where
  pub name : Text
  pub word : IsVariableName name
  pub is : call ≡ name ++ (40 ∷ [])

-- what begins no name begins no call
letter_first : (w : Text) (b : ℕ) (bs : Text) → IsVariableName w → begins_name b ≡ false
    → strip (w ++ (40 ∷ [])) (b ∷ bs) ≡ None
letter_first [] b bs w e = absurd w
letter_first (v ∷ w) b bs h e =
    differs v b (w ++ (40 ∷ [])) bs (ne_eqb v b (λ same. false≢true (sym e ∙ (ap begins_name (sym same) ∙ h.0))))

digit_begins_none : (b : ℕ) → is_digit b ≡ true → begins_name b ≡ false
digit_begins_none b h = by_first (begins_name b) refl
  where
    by_first : (t : Bool) → begins_name b ≡ t → begins_name b ≡ false
    by_first true e = absurd (false≢true (sym (begins_no_digit b e) ∙ h))
    by_first false e = e

at_digits : (w ds rest : Text) → IsVariableName w → (b : ℕ) × (bs : Text) × (ds ≡ b ∷ bs) × (is_digit b ≡ true)
    → strip (w ++ (40 ∷ [])) (ds ++ rest) ≡ None
at_digits w ds rest h f = subst (λ (x : Text). strip (w ++ (40 ∷ [])) (x ++ rest) ≡ None) (sym f.2)
    (letter_first w f.0 (f.1 ++ rest) h (digit_begins_none f.0 f.3))

bytes_of : (w : Text) → IsVariableName w → AreNameBytes w
bytes_of [] h = absurd h
bytes_of (b ∷ bs) h = (begins_is_byte b h.0, h.1)

before_factor : (same : Bool) (w : Text) (m b : ℕ) (bs rest : Text) → IsVariableName w
    → IsVariableName (b ∷ bs) → Clean rest
    → strip (w ++ (40 ∷ [])) ((if same then b ∷ bs else numeral m ++ (42 ∷ b ∷ bs)) ++ rest) ≡ None
before_factor true w m b bs rest h n c =
    no_call w (b ∷ bs) rest (bytes_of w h) (bytes_of (b ∷ bs) n) c
before_factor false w m b bs rest h n c =
    ap (strip (w ++ (40 ∷ []))) (append_assoc (numeral m) (42 ∷ b ∷ bs) rest)
    ∙ at_digits w (numeral m) ((42 ∷ b ∷ bs) ++ rest) h (numeral_digits m).first

before_term : (w : Text) (c : ℤ) (name rest : Text) → IsVariableName w → IsNameOrNone name → Clean rest
    → strip (w ++ (40 ∷ [])) (signed_text true c name ++ rest) ≡ None
before_term w (negsuc m) name rest h n c = letter_first w 45 (factor_text (suc m) name ++ rest) h refl
before_term w (pos m) [] rest h n c = at_digits w (numeral m) rest h (numeral_digits m).first
before_term w (pos m) (b ∷ bs) rest h n c = before_factor (m == 1) w m b bs rest h n c

before_constant : (none : Bool) (w : Text) (k : ℤ) (rest : Text) → IsVariableName w → Clean rest
    → strip (w ++ (40 ∷ []))
    ((if none && true then codes "0" else (if none then [] else signed_text true k [])) ++ rest) ≡ None
before_constant true w k rest h c = letter_first w 48 rest h refl
before_constant false w k rest h c = before_term w k [] rest h tt c

before_first : (none : Bool) (w : Text) (x : ℤ) (name : Text) (names : List Text) (cs : List ℤ) (k : ℤ) (rest : Text)
    → IsVariableName w → IsVariableName name → Clean (terms_text false names cs k ++ rest)
    → strip (w ++ (40 ∷ [])) (terms_text true names cs k ++ rest) ≡ None
    → strip (w ++ (40 ∷ []))
    (((if none then [] else signed_text true x name) ++ terms_text (none && true) names cs k) ++ rest) ≡ None
before_first true w x name names cs k rest h n c d = d
before_first false w x name names cs k rest h n c d =
    ap (strip (w ++ (40 ∷ []))) (append_assoc (signed_text true x name) (terms_text false names cs k) rest)
    ∙ before_term w x name (terms_text false names cs k ++ rest) h (name_or_none name n) c

before_terms : (w : Text) (names : List Text) (cs : List ℤ) (k : ℤ) (rest : Text) → IsVariableName w → AreNames names
    → Clean rest → strip (w ++ (40 ∷ [])) (terms_text true names cs k ++ rest) ≡ None
before_terms w [] cs k rest h n c = before_constant (is_zero k) w k rest h c
before_terms w (name ∷ names) [] k rest h n c = before_constant (is_zero k) w k rest h c
before_terms w (name ∷ names) (x ∷ cs) k rest h n c =
    before_first (is_zero x) w x name names cs k rest h n.0 (clean_terms names cs k rest c)
    (before_terms w names cs k rest h n.2 c)

-- a form is no call
pub form_no_call : (call : Text) (names : List Text) (form : Affine) (rest : Text) → IsCall call → AreNames names
    → Clean rest → strip call (form_text names form ++ rest) ≡ None
unfolding form_text
form_no_call call names form rest i n c =
    subst (λ (x : Text). strip x (form_text names form ++ rest) ≡ None) (sym i.is)
    (before_terms i.name names form.coefficients form.constant rest i.word n c)

-- bytes of names, by computation
pub name_bytes_by : (w : Text) → list_all is_name_byte w ≡ true → AreNameBytes w
name_bytes_by [] h = tt
name_bytes_by (b ∷ w) h = (
  left_true (is_name_byte b) (list_all is_name_byte w) h,
  name_bytes_by w (right_true (is_name_byte b) (list_all is_name_byte w) h),
)
