-- The text of a quast is read in one way.
use Rattle.whole_numbers.proofs.Common.{◌≡◌, ◌∙◌, ap, ap₂, sym, subst, refl, ℕ, zero, suc, ◌+◌, true}
use Rattle.whole_numbers.proofs.Common.{List, [], ◌∷◌, ◌++◌, drop, get_or, length, arith, append_assoc, append-nil, ℤ}
use Rattle.whole_numbers.proofs.Common.{pos, negsuc, ◌≤ℤ◌, Option, Some, None, All, codes, slice_get}
use Rattle.whole_numbers.proofs.Common.{ints, append_cancel_left, All-head, All-tail, same_Some, Affine}
use Rattle.std.proofs.lemmas.List.{length-append}
use Rattle.scop_lexer.specs.Bytes.{Text}
use Rattle.quast_trees.specs.Source.{Source, source_of, Forms}
use Rattle.quast_trees.specs.Tree.{Tree, initial, leaf, branch, bind}
use Rattle.form_text.specs.Forms.{constant_text, form_text}
use Rattle.form_text.specs.Names.{AreNames, IsFormOver}
use Rattle.form_text.specs.Numerals.{numeral}
use Rattle.form_text.specs.Reading.{read_terms, read_form, term_in_front, with_coefficient, EndsForm}
use Rattle.quast_text.specs.Text.{names_within, bound_name, comma, forms_from, statement_name, leaf_text, quast_text}
use Rattle.quast_text.specs.Reading.{AreOuter, IsOneOf, IsTellable}
use Rattle.form_text.proofs.Digits.{EndsDigits, one_number}
use Rattle.quast_text.proofs.Names.{names_told}

-- the laws of forms' texts
pub record FormLaws : Type 0 where
  pub back : (names : List Text) (form : Affine) (rest : Text) → AreNames names → IsFormOver (length names) form
      → EndsForm rest → read_form names (form_text names form ++ rest) ≡ Some (form, rest)
  pub one : (names : List Text) (f g : Affine) (r s : Text) → AreNames names → IsFormOver (length names) f
      → IsFormOver (length names) g → EndsForm r → EndsForm s
      → form_text names f ++ r ≡ form_text names g ++ s → (f ≡ g) × (r ≡ s)
  pub at_least : (rest : Text) → EndsForm (codes " >= 0" ++ rest)
  pub comma : (rest : Text) → EndsForm (codes "," ++ rest)
  pub parenthesis : (rest : Text) → EndsForm (codes ")" ++ rest)
  pub divisor : (rest : Text) → EndsForm (codes " / " ++ rest)

-- the first byte of a text, 0 where there is none
abbrev pub first : Text → ℕ
first t = get_or t 0 0

-- ---- numbers

-- two divisors with one text in front of what no digit begins are one
pub one_divisor : (y z : ℤ) (r s : Text) → pos 1 ≤ℤ y → pos 1 ≤ℤ z → EndsDigits r → EndsDigits s
    → constant_text true y ++ r ≡ constant_text true z ++ s → (y ≡ z) × (r ≡ s)
one_divisor (pos zero) z r s a b c d e = absurd (omega (arith, ints, a))
one_divisor (pos (suc m)) (pos zero) r s a b c d e = absurd (omega (arith, ints, b))
one_divisor (pos (suc m)) (pos (suc n)) r s a b c d e =
    let t = one_number (suc m) (suc n) r s c d e in (ap pos t.0, t.1)
one_divisor (pos (suc m)) (negsuc n) r s a b c d e = absurd (omega (arith, ints, b))
one_divisor (negsuc m) z r s a b c d e = absurd (omega (arith, ints, a))

-- ---- lists of forms

-- no form stands in front of `)`
none_read : (names : List Text) (x : Text) → read_terms true names (41 ∷ x) ≡ None
unfolding term_in_front
none_read [] x = refl
none_read (name ∷ names) x = ap (with_coefficient (pos 0)) (none_read names x)

no_form : (laws : FormLaws) (names : List Text) (f : Affine) (r x : Text) → AreNames names
    → IsFormOver (length names) f → EndsForm r → form_text names f ++ r ≡ 41 ∷ x → ⊥
unfolding read_form
no_form laws names f r x n over ends e =
    let none : ◌≡◌ {A = Option (Affine × Text)} None (Some (f, r)) =
    sym (none_read names x) ∙ (ap (read_form names) (sym e) ∙ laws.back names f r n over ends) in
    cc

-- what stands behind the first form of a list ends it
forms_end : (laws : FormLaws) (names : List Text) (at : ℕ) (fs : List Affine) (x : Text)
    → EndsForm (forms_from names (suc at) fs ++ 41 ∷ x)
forms_end laws names at [] x = laws.parenthesis x
forms_end laws names at (f ∷ fs) x = laws.comma (drop 1 (forms_from names (suc at) (f ∷ fs) ++ 41 ∷ x))

-- the text of a form that stands at a place, and what stands behind it
parted : (p f fs x : Text) → ((p ++ f) ++ fs) ++ x ≡ p ++ (f ++ (fs ++ x))
parted p f fs x = simp append_assoc refl

one_list : (laws : FormLaws) (names : List Text) (at : ℕ) (fs gs : List Affine) (x y : Text) → AreNames names
    → All (IsFormOver (length names)) fs → All (IsFormOver (length names)) gs
    → forms_from names at fs ++ 41 ∷ x ≡ forms_from names at gs ++ 41 ∷ y → (fs ≡ gs) × (x ≡ y)
one_list laws names at [] [] x y n a b e = (refl, ap (drop 1) e)
one_list laws names zero [] (g ∷ gs) x y n a b e =
    absurd (no_form laws names g (forms_from names 1 gs ++ 41 ∷ y) x n (All-head (IsFormOver (length names)) g gs b)
    (forms_end laws names 0 gs y) (sym (parted [] (form_text names g) (forms_from names 1 gs) (41 ∷ y)) ∙ sym e))
one_list laws names (suc at) [] (g ∷ gs) x y n a b e =
    let same : 41 ≡ 44 = ap first e in absurd (omega (arith, same))
one_list laws names zero (f ∷ fs) [] x y n a b e =
    absurd (no_form laws names f (forms_from names 1 fs ++ 41 ∷ x) y n (All-head (IsFormOver (length names)) f fs a)
    (forms_end laws names 0 fs x) (sym (parted [] (form_text names f) (forms_from names 1 fs) (41 ∷ x)) ∙ e))
one_list laws names (suc at) (f ∷ fs) [] x y n a b e =
    let same : 44 ≡ 41 = ap first e in absurd (omega (arith, same))
one_list laws names at (f ∷ fs) (g ∷ gs) x y n a b e =
    let p = comma at in
    let t = laws.one names f g (forms_from names (suc at) fs ++ 41 ∷ x) (forms_from names (suc at) gs ++ 41 ∷ y) n
    (All-head (IsFormOver (length names)) f fs a) (All-head (IsFormOver (length names)) g gs b)
    (forms_end laws names at fs x) (forms_end laws names at gs y)
    (append_cancel_left p (form_text names f ++ (forms_from names (suc at) fs ++ 41 ∷ x))
    (form_text names g ++ (forms_from names (suc at) gs ++ 41 ∷ y))
    (sym (parted p (form_text names f) (forms_from names (suc at) fs) (41 ∷ x)) ∙ (e
    ∙ parted p (form_text names g) (forms_from names (suc at) gs) (41 ∷ y)))) in
    let u = one_list laws names (suc at) fs gs x y n (All-tail (IsFormOver (length names)) f fs a)
    (All-tail (IsFormOver (length names)) g gs b) t.1 in
    (ap₂ (λ (h : Affine) (hs : List Affine). h ∷ hs) t.0 u.0, u.1)

-- ---- leaves

-- a leaf's text begins with `S`
leaf_first : (loops : List (List ℕ)) (names : List Text) (l : Forms) (x : Text) → IsOneOf loops l.source
    → first (leaf_text names l ++ x) ≡ 83
leaf_first loops names l x is = by l.source is
  where
    by : (s : Option Source) → IsOneOf loops s
        → first ((statement_name s ++ (codes "(" ++ (forms_from names 0 l.forms ++ (codes ")" ++ [])))) ++ x) ≡ 83
    by None h = absurd h
    by (Some s) h = refl

-- loops of one number are one
one_source : (loops : List (List ℕ)) (s t : Source) → IsOneOf loops (Some s) → IsOneOf loops (Some t)
    → s.statement ≡ t.statement → s ≡ t
one_source loops s t a b same =
    ap₂ (λ (n : ℕ) (ls : List ℕ). source_of n ls) same
    (same_Some s.loops t.loops (sym a ∙ (ap (slice_get loops) same ∙ b)))

-- the parts of a leaf's text
leaf_parts : (d fs x : Text)
    → ((83 ∷ (d ++ (32 ∷ []))) ++ (40 ∷ (fs ++ (41 ∷ [])))) ++ x ≡ 83 ∷ (d ++ (32 ∷ 40 ∷ (fs ++ 41 ∷ x)))
leaf_parts d fs x = simp append_assoc refl

-- the parts of two leaves' texts
leaf_told : (laws : FormLaws) (loops : List (List ℕ)) (names : List Text) (s t : Option Source)
    (fs gs : List Affine) (x y : Text) → AreNames names → IsOneOf loops s
    → IsOneOf loops t → All (IsFormOver (length names)) fs → All (IsFormOver (length names)) gs
    → (statement_name s ++ (codes "(" ++ (forms_from names 0 fs ++ (codes ")" ++ [])))) ++ x
    ≡ (statement_name t ++ (codes "(" ++ (forms_from names 0 gs ++ (codes ")" ++ [])))) ++ y
    → (s ≡ t) × (fs ≡ gs) × (x ≡ y)
leaf_told laws loops names None t fs gs x y n a b over other e = absurd a
leaf_told laws loops names (Some s) None fs gs x y n a b over other e = absurd b
leaf_told laws loops names (Some s) (Some t) fs gs x y n a b over other e =
    let number = one_number (suc s.statement) (suc t.statement) (32 ∷ 40 ∷ (forms_from names 0 fs ++ 41 ∷ x))
    (32 ∷ 40 ∷ (forms_from names 0 gs ++ 41 ∷ y)) refl refl
    (ap (drop 1) (sym (leaf_parts (numeral (suc s.statement)) (forms_from names 0 fs) x) ∙ (e
    ∙ leaf_parts (numeral (suc t.statement)) (forms_from names 0 gs) y))) in
    let forms = one_list laws names 0 fs gs x y n over other (ap (drop 2) number.1) in (
      ap Some (one_source loops s t a b (let same = number.0 in omega (arith, same))),
      forms.0,
      forms.1,
    )

-- a leaf of these parts
leaf_of : Option Source → ℕ → List Affine → Forms
leaf_of source variables forms = record { source = source; variables = variables; forms = forms }

one_leaf : (laws : FormLaws) (loops : List (List ℕ)) (names : List Text) (l m : Forms) (x y : Text)
    → AreNames names → IsOneOf loops l.source → IsOneOf loops m.source
    → l.variables ≡ m.variables → All (IsFormOver (length names)) l.forms → All (IsFormOver (length names)) m.forms
    → leaf_text names l ++ x ≡ leaf_text names m ++ y → (l ≡ m) × (x ≡ y)
unfolding leaf_of
one_leaf laws loops names l m x y n a b v over other e =
    let t = leaf_told laws loops names l.source m.source l.forms m.forms x y n a b over other e in (
      ap (λ s. leaf_of s l.variables l.forms) t.0
          ∙ (ap (λ k. leaf_of m.source k l.forms) v ∙ ap (λ fs. leaf_of m.source m.variables fs) t.1),
      t.2,
    )

-- ---- quasts

branch_parts : (p f q a r b s x : Text)
    → ((p ++ (f ++ (q ++ []))) ++ (a ++ (r ++ (b ++ (s ++ []))))) ++ x
    ≡ p ++ (f ++ (q ++ (a ++ (r ++ (b ++ (s ++ x))))))
branch_parts p f q a r b s x = simp (append_assoc, append-nil) refl

bind_parts : (p m q f r d s a t x : Text)
    → ((p ++ (m ++ (q ++ (f ++ (r ++ (d ++ (s ++ []))))))) ++ (a ++ (t ++ []))) ++ x
    ≡ (p ++ (m ++ q)) ++ (f ++ (r ++ (d ++ (s ++ (a ++ (t ++ x))))))
bind_parts p m q f r d s a t x = simp (append_assoc, append-nil) refl

-- forms over the names within k `let`s
over_names : (n m : ℕ) (f : Affine) → n ≡ m → IsFormOver n f → IsFormOver m f
over_names n m f e over = subst (λ i. IsFormOver i f) e over

all_over_names : (n m : ℕ) (fs : List Affine) → n ≡ m → All (IsFormOver n) fs → All (IsFormOver m) fs
all_over_names n m fs e over = subst (λ i. All (IsFormOver i) fs) e over

-- two quasts with one text in front of others are one, and so are the others
pub one_quast : (laws : FormLaws) (loops : List (List ℕ)) (outer : List Text) (k n : ℕ) (t u : Tree) (x y : Text)
    → AreOuter outer → n ≡ length (names_within outer k) → IsTellable loops n t → IsTellable loops n u
    → quast_text outer k t ++ x ≡ quast_text outer k u ++ y → (t ≡ u) × (x ≡ y)
one_quast laws loops outer k n initial initial x y o count a b e = (refl, ap (drop 7) e)
one_quast laws loops outer k n initial (leaf m) x y o count a b e =
    let same : 105 ≡ 83 = ap first e ∙ leaf_first loops (names_within outer k) m y b.0 in
    absurd (omega (arith, same))
one_quast laws loops outer k n initial (branch g c d) x y o count a b e =
    let same : 110 ≡ 102 = ap (λ (s : Text). get_or s 1 0) e in absurd (omega (arith, same))
one_quast laws loops outer k n initial (bind g d c) x y o count a b e =
    let same : 105 ≡ 108 = ap first e in absurd (omega (arith, same))
one_quast laws loops outer k n (leaf l) initial x y o count a b e =
    let same : 83 ≡ 105 = sym (leaf_first loops (names_within outer k) l x a.0) ∙ ap first e in
    absurd (omega (arith, same))
one_quast laws loops outer k n (leaf l) (leaf m) x y o count a b e =
    let names = names_within outer k in
    let t = one_leaf laws loops names l m x y (names_told outer k o) a.0 b.0 (a.1 ∙ sym b.1)
    (all_over_names n (length names) l.forms count a.2) (all_over_names n (length names) m.forms count b.2) e in
    (ap leaf t.0, t.1)
one_quast laws loops outer k n (leaf l) (branch g c d) x y o count a b e =
    let same : 83 ≡ 105 = sym (leaf_first loops (names_within outer k) l x a.0) ∙ ap first e in
    absurd (omega (arith, same))
one_quast laws loops outer k n (leaf l) (bind g d c) x y o count a b e =
    let same : 83 ≡ 108 = sym (leaf_first loops (names_within outer k) l x a.0) ∙ ap first e in
    absurd (omega (arith, same))
one_quast laws loops outer k n (branch f c d) initial x y o count a b e =
    let same : 102 ≡ 110 = ap (λ (s : Text). get_or s 1 0) e in absurd (omega (arith, same))
one_quast laws loops outer k n (branch f c d) (leaf m) x y o count a b e =
    let same : 105 ≡ 83 = ap first e ∙ leaf_first loops (names_within outer k) m y b.0 in
    absurd (omega (arith, same))
one_quast laws loops outer k n (branch f c d) (branch g v w) x y o count a b e =
    let names = names_within outer k in
    let q = λ (s : Tree). quast_text outer k s in
    let behind = λ (s r : Tree) (z : Text). q s ++ (codes " } else { " ++ (q r ++ (codes " }" ++ z))) in
    let test = laws.one names f g (codes " >= 0 { " ++ behind c d x) (codes " >= 0 { " ++ behind v w y)
    (names_told outer k o) (over_names n (length names) f count a.0) (over_names n (length names) g count b.0)
    (laws.at_least (codes " { " ++ behind c d x)) (laws.at_least (codes " { " ++ behind v w y))
    (ap (drop 3) (sym (branch_parts (codes "if ") (form_text names f) (codes " >= 0 { ") (q c)
    (codes " } else { ") (q d)
    (codes " }") x) ∙ (e
    ∙ branch_parts (codes "if ") (form_text names g) (codes " >= 0 { ") (q v) (codes " } else { ") (q w) (codes " }")
    y))) in
    let one = one_quast laws loops outer k n c v (codes " } else { " ++ (q d ++ (codes " }" ++ x)))
    (codes " } else { " ++ (q w ++ (codes " }" ++ y))) o count a.1 b.1 (ap (drop 8) test.1) in
    let two = one_quast laws loops outer k n d w (codes " }" ++ x) (codes " }" ++ y) o count a.2 b.2
    (ap (drop 10) one.1) in (
      ap (λ h. branch h c d) test.0 ∙ (ap (λ s. branch g s d) one.0 ∙ ap (λ s. branch g v s) two.0),
      ap (drop 2) two.1,
    )
one_quast laws loops outer k n (branch f c d) (bind g z v) x y o count a b e =
    let same : 105 ≡ 108 = ap first e in absurd (omega (arith, same))
one_quast laws loops outer k n (bind f d c) initial x y o count a b e =
    let same : 108 ≡ 105 = ap first e in absurd (omega (arith, same))
one_quast laws loops outer k n (bind f d c) (leaf m) x y o count a b e =
    let same : 108 ≡ 83 = ap first e ∙ leaf_first loops (names_within outer k) m y b.0 in
    absurd (omega (arith, same))
one_quast laws loops outer k n (bind f d c) (branch g v w) x y o count a b e =
    let same : 108 ≡ 105 = ap first e in absurd (omega (arith, same))
one_quast laws loops outer k n (bind f d c) (bind g z v) x y o count a b e =
    let names = names_within outer k in
    let q = λ (s : Tree). quast_text outer (suc k) s in
    let head = codes "let " ++ (bound_name (suc k) ++ codes " = floor(") in
    let behind = λ (i : ℤ) (s : Tree) (r : Text).
    constant_text true i ++ (codes ") { " ++ (q s ++ (codes " }" ++ r))) in
    let parts = λ (h : Affine) (i : ℤ) (s : Tree) (r : Text). bind_parts (codes "let ") (bound_name (suc k))
    (codes " = floor(") (form_text names h) (codes " / ") (constant_text true i) (codes ") { ") (q s) (codes " }") r in
    let form = laws.one names f g (codes " / " ++ behind d c x) (codes " / " ++ behind z v y)
    (names_told outer k o) (over_names n (length names) f count a.0) (over_names n (length names) g count b.0)
    (laws.divisor (behind d c x)) (laws.divisor (behind z v y))
    (append_cancel_left head (form_text names f ++ (codes " / " ++ behind d c x))
    (form_text names g ++ (codes " / " ++ behind z v y)) (sym (parts f d c x) ∙ (e ∙ parts g z v y))) in
    let divisor = one_divisor d z (codes ") { " ++ (q c ++ (codes " }" ++ x))) (codes ") { " ++ (q v ++
    (codes " }" ++ y)))
    a.1 b.1 refl refl (ap (drop 3) form.1) in
    let more = length-append names (bound_name (suc k) ∷ []) in
    let body = one_quast laws loops outer (suc k) (n + 1) c v (codes " }" ++ x) (codes " }" ++ y) o
    (omega (arith, count, more)) a.2 b.2 (ap (drop 4) divisor.1) in (
      ap (λ h. bind h d c) form.0 ∙ (ap (λ i. bind g i c) divisor.0 ∙ ap (λ s. bind g z s) body.0),
      ap (drop 2) body.1,
    )

-- no quast's text begins with `u`
pub quast_first : (loops : List (List ℕ)) (outer : List Text) (k n : ℕ) (t : Tree) (x : Text)
    → IsTellable loops n t → first (quast_text outer k t ++ x) ≡ 117 → ⊥
quast_first loops outer k n initial x a e = let same : 105 ≡ 117 = e in omega (arith, same)
quast_first loops outer k n (leaf l) x a e =
    let same : 83 ≡ 117 = sym (leaf_first loops (names_within outer k) l x a.0) ∙ e in omega (arith, same)
quast_first loops outer k n (branch f c d) x a e = let same : 105 ≡ 117 = e in omega (arith, same)
quast_first loops outer k n (bind f d c) x a e = let same : 108 ≡ 117 = e in omega (arith, same)
