-- The names that forms of sources speak of are told apart.
use Rattle.scop_syntax.proofs.Common.{◌≡◌, ◌∙◌, ap, sym, subst, refl, ℕ, zero, suc, ◌<◌, false, List, [], ◌∷◌}
use Rattle.scop_syntax.proofs.Common.{◌++◌, drop, get_or, map, arith, append-nil, append_assoc, inr, inl, ◌≢◌}
use Rattle.scop_syntax.proofs.Common.{All, false≢true, All-head, All-tail, all_front, In, Sorted}
use Rattle.scop_syntax.proofs.Common.{Declaration, Program, in_front}
use Rattle.scop_lexer.specs.Bytes.{Text, is_letter}
use Rattle.scop_lexer.specs.Words.{IsName}
use Rattle.scop_parser.specs.DistinctNames.{HasDistinctNames, header_names}
use Rattle.form_text.specs.Names.{IsFresh, AreNames}
use Rattle.form_text.specs.Numerals.{numeral}
use Rattle.form_text.proofs.Digits.{one_number}
use Rattle.form_text.proofs.Names.{fresh_append, numeral_bytes, variable_name}
use Rattle.quast_text.specs.Text.{bound_name}
use Rattle.quast_text.specs.Reading.{AreOuter}
use Rattle.quast_text.proofs.Names.{fresh_behind, names_behind}
use Rattle.report_text.specs.DepsText.{turn_name, turn_names}

-- ---- words

-- a name that no letter begins is none of the kernel's
marked_is_fresh : (b : ℕ) (bs : Text) (names : List Text) → is_letter b ≡ false → All IsName names
    → IsFresh (b ∷ bs) names
marked_is_fresh b bs [] h w = tt
marked_is_fresh b bs (name ∷ names) h w = (
  (λ e. false≢true (sym h ∙ (ap (λ (t : Text). is_letter (get_or t 0 0)) e ∙ (All-head IsName name names w).letter))),
  marked_is_fresh b bs names h (All-tail IsName name names w),
)

fresh_among : (name : Text) (names : List Text) → ((y : Text) → In y names → name ≢ y) → IsFresh name names
fresh_among name [] apart = tt
fresh_among name (x ∷ xs) apart = (apart x (inl refl), fresh_among name xs (λ y i. apart y (inr i)))

words_told : (names : List Text) → Sorted (λ (v w : Text). v ≢ w) names → All IsName names → AreNames names
words_told [] s w = tt
words_told (x ∷ xs) s w =
    (variable_name x (All-head IsName x xs w), fresh_among x xs s.0, words_told xs s.1 (All-tail IsName x xs w))

sorted_front : {A : Type 0} (R : A → A → Type 0) (xs ys : List A) → Sorted R (xs ++ ys) → Sorted R xs
sorted_front R [] ys s = tt
sorted_front R (x ∷ xs) ys s = ((λ y i. s.0 y (in_front y xs ys i)), sorted_front R xs ys s.1)

-- ---- numbered names

turn_apart : (i j : ℕ) → j < i → turn_name i ≢ turn_name j
turn_apart i j less e =
    let same = (one_number i j [] [] tt tt (ap (λ (t : Text). drop 1 t ++ []) e)).0 in omega (arith, same, less)

mark_apart : (i j : ℕ) → bound_name i ≢ turn_name j
mark_apart i j e = let same : 35 ≡ 36 = ap (λ (t : Text). get_or t 0 0) e in omega (arith, same)

turn_fresh : (i d : ℕ) → d < i → IsFresh (turn_name i) (turn_names d)
turn_fresh i zero less = tt
turn_fresh i (suc d) less =
    fresh_behind (turn_name i) (turn_name (suc d)) (turn_names d) (turn_fresh i d (omega (arith, less)))
    (turn_apart i (suc d) less)

no_turn : (j d : ℕ) → IsFresh (bound_name j) (turn_names d)
no_turn j zero = tt
no_turn j (suc d) = fresh_behind (bound_name j) (turn_name (suc d)) (turn_names d) (no_turn j d) (mark_apart j (suc d))

turns_told : (names : List Text) (d : ℕ) → AreNames names → All IsName names → AreNames (names ++ turn_names d)
turns_told names zero told w = subst AreNames (sym (append-nil names)) told
turns_told names (suc d) told w =
    subst AreNames (append_assoc names (turn_names d) (turn_name (suc d) ∷ []))
    (names_behind (names ++ turn_names d) (turn_name (suc d)) (turns_told names d told w) (refl, numeral_bytes (suc d))
    (fresh_append (turn_name (suc d)) names (turn_names d)
    (marked_is_fresh 36 (numeral (suc d)) names refl w) (turn_fresh (suc d) d (omega arith))))

-- a kernel's parameters and the turns of loops stand round quasts
pub outer_names : (program : Program) (d : ℕ) → HasDistinctNames program → All IsName (header_names program)
    → AreOuter (program.parameters ++ turn_names d)
outer_names program d distinct words =
    let arrays = map (λ (x : Declaration). x.name) program.arrays in
    let own = all_front IsName program.parameters arrays words in
    let told = words_told program.parameters
    (sorted_front (λ (v w : Text). v ≢ w) program.parameters arrays distinct.header) own in
    record {
      names = turns_told program.parameters d told own;
      fresh = λ j. fresh_append (bound_name j) program.parameters (turn_names d)
          (marked_is_fresh 35 (numeral j) program.parameters refl own) (no_turn j d);
    }
