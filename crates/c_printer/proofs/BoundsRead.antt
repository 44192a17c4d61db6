-- Bounds in front of what ends a form are read back; a text between two others (`between_front`).
use Rattle.scop_syntax.proofs.Common.{◌≡◌, ◌∙◌, ap, sym, refl, ℕ, zero, suc, ◌+◌, ◌^◌, ◌<◌, Bool, true, false, List}
use Rattle.scop_syntax.proofs.Common.{◌++◌, length, arith, ℤ, pos, negsuc, Some, None, codes, if◌then◌else◌}
use Rattle.scop_syntax.proofs.Common.{signed_decimal, false≢true, Affine, form_of}
use Rattle.std.proofs.Common.{lt-ltb, le-leb}
use Rattle.std.proofs.lemmas.List.{append_assoc}
use Rattle.scop_lexer.specs.Bytes.{Text}
use Rattle.loop_tree.specs.Tree.{Bound, Bounds, only, besides}
use Rattle.form_text.specs.Names.{AreNames}
use Rattle.form_text.specs.Reading.{strip, when, term_in_front, EndsForm}
use Rattle.form_text.proofs.Digits.{Clean, clean_of, EndsDigits, numeral_number, numeral_behind}
use Rattle.form_text.proofs.Calls.{IsCall, strip_front, form_no_call, name_bytes_by}
use Rattle.form_text.proofs.Ends.{ends_parenthesis}
use Rattle.form_text.proofs.Numerals.{decimal_is_numeral}
use Rattle.c_printer.specs.Forms.{turned, tree_form_text}
use Rattle.c_printer.specs.Statements.{between}
use Rattle.c_printer.specs.Nodes.{is_one, bound_text, bounds_text, divisor_text, lower_text, upper_text}
use Rattle.c_printer.specs.Reading.{bound, read_divisor, divided_bound, bound_at, read_bound}
use Rattle.c_printer.specs.Reading.{chosen_bounds, bounds_at, read_bounds, read_lower, read_upper}
use Rattle.c_printer.specs.Printable.{IsTreeForm, IsDivisor, IsBound, AreBounds}
use Rattle.c_printer.proofs.FormsRead.{tree_form_back}

-- a text between two others, and what stands behind all
pub between_front : (a b c rest : Text) → between a b c ++ rest ≡ a ++ (b ++ (c ++ rest))
unfolding between
between_front a b c rest = append_assoc a (b ++ c) rest ∙ ap (λ (t : Text). a ++ t) (append_assoc b c rest)

-- what ends a form, as bytes
pub comma_ends : (rest : Text) → EndsForm (codes ", " ++ rest)
unfolding term_in_front
comma_ends rest = record { factor = refl; term = refl }

pub small_divisor : (m : ℕ) → m < 2 ^ 63 → m < 10 ^ 64
small_divisor m h = omega (arith, h)

pub divisor_back : (d : ℤ) (rest : Text) → IsDivisor d → EndsDigits rest
    → read_divisor (signed_decimal d ++ rest) ≡ Some (d, rest)
unfolding read_divisor
divisor_back (pos m) rest h c =
    rw (
      decimal_is_numeral m (small_divisor m h.1),
      numeral_number m rest c,
      numeral_behind m rest c,
      le-leb 1 m h.0,
      lt-ltb m (2 ^ 63) h.1,
    ) refl
divisor_back (negsuc m) rest h c = absurd h

-- a form of the tree is no call
tree_form_no_call : (call : Text) (loops : ℕ) (names : List Text) (form : Affine) (rest : Text) → IsCall call
    → AreNames names → Clean rest → strip call (tree_form_text names loops form ++ rest) ≡ None
tree_form_no_call call loops names form rest i n c =
    form_no_call call names (form_of (turned loops form.coefficients) form.constant) rest i n c

-- what a bound's two calls are
pub record AreCalls (divided chosen : Text) : Type 0 where
  pub division : IsCall divided
  pub choice : IsCall chosen
  pub apart : (rest : Text) → strip chosen (divided ++ rest) ≡ None

lower_calls : AreCalls (codes "pp_ceild(") (codes "pp_max(")
lower_calls = record {
  division = record { name = codes "pp_ceild"; word = (refl, name_bytes_by (codes "p_ceild") refl); is = refl };
  choice = record { name = codes "pp_max"; word = (refl, name_bytes_by (codes "p_max") refl); is = refl };
  apart = λ rest. refl;
}

upper_calls : AreCalls (codes "pp_floord(") (codes "pp_min(")
upper_calls = record {
  division = record { name = codes "pp_floord"; word = (refl, name_bytes_by (codes "p_floord") refl); is = refl };
  choice = record { name = codes "pp_min"; word = (refl, name_bytes_by (codes "p_min") refl); is = refl };
  apart = λ rest. refl;
}

-- a bound with its divisor, and what stands behind it
divided_front : (divided form : Text) (d : ℤ) (rest : Text)
    → between divided form (divisor_text d) ++ rest
    ≡ divided ++ (form ++ (codes ", " ++ (signed_decimal d ++ (codes ")" ++ rest))))
divided_front divided form d rest =
    between_front divided form (divisor_text d) rest
    ∙ ap (λ (t : Text). divided ++ (form ++ t)) (between_front (codes ", ") (signed_decimal d) (codes ")") rest)

divided_back : (divided : Text) (parameters loops : ℕ) (names : List Text) (form : Affine) (d : ℤ) (rest : Text)
    → AreNames names → length names ≡ loops + parameters → IsTreeForm parameters loops form → IsDivisor d
    → read_bound divided parameters names (between divided (tree_form_text names loops form) (divisor_text d) ++ rest)
    ≡ Some (bound form d, rest)
unfolding read_bound
divided_back divided parameters loops names form d rest n count f h =
    let said = tree_form_text names loops form in
    let behind = codes ", " ++ (signed_decimal d ++ (codes ")" ++ rest)) in
    ap (read_bound divided parameters names) (divided_front divided said d rest)
    ∙ (ap (bound_at parameters names (divided ++ (said ++ behind))) (strip_front divided (said ++ behind))
    ∙ (ap (λ o. when o divided_bound) (tree_form_back parameters loops names form behind n count f
    (comma_ends (signed_decimal d ++ (codes ")" ++ rest))))
    ∙ ap (λ o. when o (λ (q : ℤ × Text). when (strip (codes ")") q.1) (λ u. Some (bound form q.0, u))))
    (divisor_back d (codes ")" ++ rest) h refl)))

one_is : (d : ℤ) → is_one d ≡ true → d ≡ pos 1
one_is (pos zero) e = absurd (false≢true e)
one_is (pos (suc zero)) e = refl
one_is (pos (suc (suc m))) e = absurd (false≢true e)
one_is (negsuc m) e = absurd (false≢true e)

bound_is : (one : Bool) (divided : Text) (parameters loops : ℕ) (names : List Text) (form : Affine) (d : ℤ)
    (rest : Text) → is_one d ≡ one → IsCall divided → AreNames names → length names ≡ loops + parameters
    → IsTreeForm parameters loops form → IsDivisor d → EndsForm rest
    → read_bound divided parameters names ((if one then tree_form_text names loops form
    else between divided (tree_form_text names loops form) (divisor_text d)) ++ rest) ≡ Some (bound form d, rest)
unfolding read_bound
bound_is true divided parameters loops names form d rest e i n count f h c =
    ap (bound_at parameters names (tree_form_text names loops form ++ rest))
    (tree_form_no_call divided loops names form rest i n (clean_of rest c.factor))
    ∙ (ap (λ o. when o (λ (r : Affine × Text). Some (bound r.0 (pos 1), r.1)))
    (tree_form_back parameters loops names form rest n count f c)
    ∙ ap (λ x. Some (bound form x, rest)) (sym (one_is d e)))
bound_is false divided parameters loops names form d rest e i n count f h c =
    divided_back divided parameters loops names form d rest n count f h

-- a bound
bound_back : (divided : Text) (parameters loops : ℕ) (names : List Text) (b : Bound) (rest : Text) → IsCall divided
    → AreNames names → length names ≡ loops + parameters → IsBound parameters loops b → EndsForm rest
    → read_bound divided parameters names (bound_text divided names loops b ++ rest) ≡ Some (b, rest)
bound_back divided parameters loops names b rest i n count h c =
    bound_is (is_one b.divisor) divided parameters loops names b.form b.divisor rest refl i n count h.0 h.1 c

bound_not_chosen : (one : Bool) (divided chosen : Text) (loops : ℕ) (names : List Text) (form : Affine) (d : ℤ)
    (rest : Text) → AreCalls divided chosen → AreNames names → Clean rest
    → strip chosen ((if one then tree_form_text names loops form
    else between divided (tree_form_text names loops form) (divisor_text d)) ++ rest) ≡ None
bound_not_chosen true divided chosen loops names form d rest i n c =
    tree_form_no_call chosen loops names form rest i.choice n c
bound_not_chosen false divided chosen loops names form d rest i n c =
    ap (strip chosen) (divided_front divided (tree_form_text names loops form) d rest)
    ∙ i.apart (tree_form_text names loops form ++ (codes ", " ++ (signed_decimal d ++ (codes ")" ++ rest))))

-- how deep choices go
abbrev pub depth : Bounds → ℕ
depth (only b) = 0
depth (besides b bs) = suc (depth bs)

-- the bounds of one side
bounds_back : (n : ℕ) (divided chosen : Text) (parameters loops : ℕ) (names : List Text) (bs : Bounds) (rest : Text)
    → AreCalls divided chosen → AreNames names → length names ≡ loops + parameters → AreBounds parameters loops bs
    → depth bs < n → EndsForm rest
    → read_bounds n divided chosen parameters names (bounds_text divided chosen names loops bs ++ rest)
    ≡ Some (bs, rest)
bounds_back zero divided chosen parameters loops names (only b) rest i n count h less c = absurd (omega (arith, less))
bounds_back zero divided chosen parameters loops names (besides b bs) rest i n count h less c =
    absurd (omega (arith, less))
bounds_back (suc k) divided chosen parameters loops names (only b) rest i n count h less c =
    ap (bounds_at (read_bounds k divided chosen parameters names) divided parameters names
    (bound_text divided names loops b ++ rest))
    (bound_not_chosen (is_one b.divisor) divided chosen loops names b.form b.divisor rest i n
    (clean_of rest c.factor))
    ∙ ap (λ o. when o (λ (r : Bound × Text). Some (only r.0, r.1)))
    (bound_back divided parameters loops names b rest i.division n count h c)
bounds_back (suc k) divided chosen parameters loops names (besides b bs) rest i n count h less c =
    let said = bounds_text divided chosen names loops bs in
    let inner = said ++ (codes ")" ++ rest) in
    let one = bound_text divided names loops b in
    let again = read_bounds k divided chosen parameters names in
    let text : (between chosen one (codes ", ") ++ (said ++ codes ")")) ++ rest
    ≡ chosen ++ (one ++ (codes ", " ++ inner)) =
    append_assoc (between chosen one (codes ", ")) (said ++ codes ")") rest
    ∙ (ap (λ (t : Text). between chosen one (codes ", ") ++ t) (append_assoc said (codes ")") rest)
    ∙ between_front chosen one (codes ", ") inner) in
    ap (read_bounds (suc k) divided chosen parameters names) text
    ∙ (ap (bounds_at again divided parameters names (chosen ++ (one ++ (codes ", " ++ inner))))
    (strip_front chosen (one ++ (codes ", " ++ inner)))
    ∙ (ap (chosen_bounds again)
    (bound_back divided parameters loops names b (codes ", " ++ inner) i.division n count h.0 (comma_ends inner))
    ∙ ap (λ o. when o (λ (q : Bounds × Text). when (strip (codes ")") q.1) (λ u. Some (besides b q.0, u))))
    (bounds_back k divided chosen parameters loops names bs (codes ")" ++ rest) i n count h.1 (omega (arith, less))
    (ends_parenthesis rest))))

pub lower_back : (n parameters loops : ℕ) (names : List Text) (bs : Bounds) (rest : Text) → AreNames names
    → length names ≡ loops + parameters → AreBounds parameters loops bs → depth bs < n → EndsForm rest
    → read_lower n parameters names (lower_text names loops bs ++ rest) ≡ Some (bs, rest)
unfolding read_lower lower_text
lower_back n parameters loops names bs rest told count h less c =
    bounds_back n (codes "pp_ceild(") (codes "pp_max(") parameters loops names bs rest lower_calls told count h less c

pub upper_back : (n parameters loops : ℕ) (names : List Text) (bs : Bounds) (rest : Text) → AreNames names
    → length names ≡ loops + parameters → AreBounds parameters loops bs → depth bs < n → EndsForm rest
    → read_upper n parameters names (upper_text names loops bs ++ rest) ≡ Some (bs, rest)
unfolding read_upper upper_text
upper_back n parameters loops names bs rest told count h less c =
    bounds_back n (codes "pp_floord(") (codes "pp_min(") parameters loops names bs rest upper_calls told count h less c
