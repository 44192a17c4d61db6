-- The tests of a guard are read back.
use Rattle.scop_syntax.proofs.Common.{◌≡◌, ◌∙◌, ap, refl, ℕ, zero, suc, ◌+◌, ◌<◌, List, [], ◌∷◌, ◌++◌, length, arith, ℤ}
use Rattle.scop_syntax.proofs.Common.{pos, negsuc, true, false, Some, None, codes, signed_decimal}
use Rattle.std.specs.Prelude.{option_map}
use Rattle.std.proofs.lemmas.List.{append_assoc}
use Rattle.scop_lexer.specs.Bytes.{Text}
use Rattle.loop_tree.specs.Tree.{Test, at_least, equal, multiple}
use Rattle.form_text.specs.Names.{AreNames}
use Rattle.form_text.specs.Reading.{strip, when, minus, factor_in_front, term_in_front, EndsForm}
use Rattle.form_text.proofs.Numerals.{decimal_is_numeral}
use Rattle.form_text.proofs.Terms.{number_back}
use Rattle.form_text.proofs.Ends.{ends_at_least, ends_equal}
use Rattle.c_printer.specs.Forms.{tree_form_text}
use Rattle.c_printer.specs.Statements.{between}
use Rattle.c_printer.specs.Nodes.{divisor_text, test_text, tests_text}
use Rattle.c_printer.specs.Reading.{multiple_end, multiple_at, test_behind, read_test, with_test}
use Rattle.c_printer.specs.Reading.{tests_at, read_more_tests, read_tests}
use Rattle.c_printer.specs.Printable.{IsDivisor, IsTest, AreTests}
use Rattle.c_printer.proofs.FormsRead.{tree_form_back}
use Rattle.c_printer.proofs.BoundsRead.{between_front, comma_ends, divisor_back, small_divisor}

-- ` - D*pp_floord(` does not go on with a form, since its name is called
multiple_ends : (d : ℤ) (rest : Text) → IsDivisor d
    → EndsForm (codes " - " ++ (signed_decimal d ++ (codes "*pp_floord(" ++ rest)))
unfolding term_in_front
multiple_ends (pos m) rest h = record {
  factor = refl;
  term = ap (λ (t : Text). option_map minus (factor_in_front (t ++ (codes "*pp_floord(" ++ rest))))
      (decimal_is_numeral m (small_divisor m h.1))
      ∙ ap (option_map minus) (number_back m (codes "*pp_floord(" ++ rest) refl);
}
multiple_ends (negsuc m) rest h = absurd h

-- a test that a form is a multiple, and what stands behind it
multiple_front : (form : Text) (d : ℤ) (rest : Text)
    → (form ++ (between (codes " - ") (signed_decimal d) (codes "*pp_floord(")
    ++ (form ++ (divisor_text d ++ codes " == 0")))) ++ rest
    ≡ form ++ (codes " - " ++ (signed_decimal d ++ (codes "*pp_floord("
    ++ (form ++ (codes ", " ++ (signed_decimal d ++ (codes ") == 0" ++ rest)))))))
multiple_front form d rest =
    let called = between (codes " - ") (signed_decimal d) (codes "*pp_floord(") in
    let zero = codes " == 0" in
    append_assoc form (called ++ (form ++ (divisor_text d ++ zero))) rest
    ∙ ap (λ (t : Text). form ++ t)
    (append_assoc called (form ++ (divisor_text d ++ zero)) rest
    ∙ (ap (λ (t : Text). called ++ t)
    (append_assoc form (divisor_text d ++ zero) rest
    ∙ ap (λ (t : Text). form ++ t)
    (append_assoc (divisor_text d) zero rest
    ∙ between_front (codes ", ") (signed_decimal d) (codes ")") (zero ++ rest)))
    ∙ between_front (codes " - ") (signed_decimal d) (codes "*pp_floord(")
    (form ++ (codes ", " ++ (signed_decimal d ++ (codes ") == 0" ++ rest))))))

-- a test
test_back : (parameters loops : ℕ) (names : List Text) (test : Test) (rest : Text) → AreNames names
    → length names ≡ loops + parameters → IsTest parameters loops test
    → read_test parameters names (test_text names loops test ++ rest) ≡ Some (test, rest)
unfolding read_test
test_back parameters loops names (at_least form) rest n count f =
    ap (read_test parameters names) (append_assoc (tree_form_text names loops form) (codes " >= 0") rest)
    ∙ ap (λ o. when o (test_behind parameters names))
    (tree_form_back parameters loops names form (codes " >= 0" ++ rest) n count f (ends_at_least rest))
test_back parameters loops names (equal form) rest n count f =
    ap (read_test parameters names) (append_assoc (tree_form_text names loops form) (codes " == 0") rest)
    ∙ ap (λ o. when o (test_behind parameters names))
    (tree_form_back parameters loops names form (codes " == 0" ++ rest) n count f (ends_equal rest))
test_back parameters loops names (multiple form d) rest n count f =
    let said = tree_form_text names loops form in
    let last = codes ", " ++ (signed_decimal d ++ (codes ") == 0" ++ rest)) in
    let called = codes "*pp_floord(" ++ (said ++ last) in
    ap (read_test parameters names) (multiple_front said d rest)
    ∙ (ap (λ o. when o (test_behind parameters names))
    (tree_form_back parameters loops names form (codes " - " ++ (signed_decimal d ++ called)) n count f.0
    (multiple_ends d (said ++ last) f.1))
    ∙ (ap (multiple_at parameters names form) (divisor_back d called f.1 refl)
    ∙ (ap (λ o. when o (multiple_end form d))
    (tree_form_back parameters loops names form last n count f.0
    (comma_ends (signed_decimal d ++ (codes ") == 0" ++ rest))))
    ∙ ap (λ o. when o (λ (e : ℤ × Text). when (strip (codes ") == 0") e.1) (λ u. Some (multiple form d, u))))
    (divisor_back d (codes ") == 0" ++ rest) f.1 refl))))

more_tests_back : (n parameters loops : ℕ) (names : List Text) (tests : List Test) (rest : Text) → AreNames names
    → length names ≡ loops + parameters → AreTests parameters loops tests → length tests < n
    → strip (codes " && ") rest ≡ None
    → read_more_tests n parameters names (tests_text false names loops tests ++ rest) ≡ Some (tests, rest)
more_tests_back zero parameters loops names [] rest told count h less e = absurd (omega (arith, less))
more_tests_back zero parameters loops names (test ∷ tests) rest told count h less e = absurd (omega (arith, less))
more_tests_back (suc n) parameters loops names [] rest told count h less e =
    ap (tests_at (read_more_tests n parameters names) parameters names rest) e
more_tests_back (suc n) parameters loops names (test ∷ tests) rest told count h less e =
    let behind = tests_text false names loops tests ++ rest in
    let text : (codes " && " ++ (test_text names loops test ++ tests_text false names loops tests)) ++ rest
    ≡ codes " && " ++ (test_text names loops test ++ behind) =
    ap (λ (t : Text). codes " && " ++ t)
    (append_assoc (test_text names loops test) (tests_text false names loops tests) rest) in
    ap (read_more_tests (suc n) parameters names) text
    ∙ (ap (with_test (read_more_tests n parameters names)) (test_back parameters loops names test behind told count h.0)
    ∙ ap (λ o. when o (λ (q : List Test × Text). Some (test ∷ q.0, q.1)))
    (more_tests_back n parameters loops names tests rest told count h.1 (omega (arith, less)) e))

-- all tests of a guard
pub tests_back : (n parameters loops : ℕ) (names : List Text) (test : Test) (tests : List Test) (rest : Text)
    → AreNames names → length names ≡ loops + parameters → AreTests parameters loops (test ∷ tests)
    → length tests < n → strip (codes " && ") rest ≡ None
    → read_tests n parameters names (tests_text true names loops (test ∷ tests) ++ rest) ≡ Some (test ∷ tests, rest)
unfolding read_tests
tests_back n parameters loops names test tests rest told count h less e =
    let behind = tests_text false names loops tests ++ rest in
    ap (read_tests n parameters names)
    (append_assoc (test_text names loops test) (tests_text false names loops tests) rest)
    ∙ (ap (with_test (read_more_tests n parameters names)) (test_back parameters loops names test behind told count h.0)
    ∙ ap (λ o. when o (λ (q : List Test × Text). Some (test ∷ q.0, q.1)))
    (more_tests_back n parameters loops names tests rest told count h.1 less e))
