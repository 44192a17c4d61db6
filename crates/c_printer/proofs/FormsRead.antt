-- Forms of a tree, in the order of the text and back, and turns from forms of iterators are read back.
use Rattle.scop_syntax.proofs.Common.{◌≡◌, ◌∙◌, ap, ap₂, subst, refl, ℕ, zero, suc, ◌+◌, ◌≤◌, Bool, true, pos}
use Rattle.scop_syntax.proofs.Common.{List, [], ◌∷◌, ◌++◌, length, take, drop, arith, ℤ, negsuc, neg_ℤ, ◌+ℤ◌, ◌-ℤ◌}
use Rattle.scop_syntax.proofs.Common.{◌*ℤ◌, ◌<ℤ◌, Some, None, if◌then◌else◌, unsigned_abs, ints, length-drop}
use Rattle.scop_syntax.proofs.Common.{length-take-le, take-append-drop, take-append_seam, drop-append_seam, Affine}
use Rattle.scop_syntax.proofs.Common.{form_of, floor, sums, multiples, zeros, length-zeros, floor_is}
use Rattle.scop_syntax.proofs.Common.{floor_unique, mul_comm_int, mul_neg_left, Head}
use Rattle.std.proofs.lemmas.List.{length-append}
use Rattle.scop_lexer.specs.Bytes.{Text}
use Rattle.form_text.specs.Forms.{form_text}
use Rattle.form_text.specs.Names.{AreNames, IsFormOver}
use Rattle.form_text.specs.Reading.{EndsForm, when}
use Rattle.form_text.proofs.Forms.{form_back}
use Rattle.c_printer.specs.Forms.{turned, tree_form_text, spread, iterator_form, loop_names, loop_name}
use Rattle.c_printer.specs.Reading.{is_narrow_form, narrowed, turned_back, read_tree_form}
use Rattle.c_printer.specs.Reading.{quotient, quotients, turn_of, read_turn}
use Rattle.c_printer.specs.Printable.{IsTreeForm}

pub length_turned : (n : ℕ) (cs : List ℤ) → length (turned n cs) ≡ length cs
length_turned n cs =
    let a = length-append (drop n cs) (take n cs) in
    let b = length-append (take n cs) (drop n cs) in
    let c = ap length (take-append-drop n cs) in
    omega (arith, a, b, c)

seam : (n : ℕ) (xs ys : List ℤ) → length xs ≡ n → turned_back n (xs ++ ys) ≡ ys ++ xs
seam n xs ys e = subst (λ k. turned_back k (xs ++ ys) ≡ ys ++ xs) e
    (rw (drop-append_seam xs ys, take-append_seam xs ys) refl)

-- coefficients turned and turned back
turned_turns_back : (parameters loops : ℕ) (cs : List ℤ) → length cs ≡ loops + parameters
    → turned_back parameters (turned loops cs) ≡ cs
turned_turns_back parameters loops cs h =
    seam parameters (drop loops cs) (take loops cs) (let l = length-drop loops cs in omega (arith, h, l))
    ∙ take-append-drop loops cs

narrow_passes : (form : Affine) (rest : Text) → is_narrow_form form ≡ true → narrowed form rest ≡ Some (form, rest)
narrow_passes form rest h = ap (λ (t : Bool). if t then Some (form, rest) else None) h

turned_is_over : (parameters loops n : ℕ) (form : Affine) → n ≡ loops + parameters
    → IsTreeForm parameters loops form
    → IsFormOver n (form_of (turned loops form.coefficients) form.constant)
turned_is_over parameters loops n form count f =
    let l = length_turned loops form.coefficients in
    let e = f.entries in
    omega (arith, l, e, count)

-- a form of the tree is read back
pub tree_form_back : (parameters loops : ℕ) (names : List Text) (form : Affine) (rest : Text) → AreNames names
    → length names ≡ loops + parameters → IsTreeForm parameters loops form → EndsForm rest
    → read_tree_form parameters names (tree_form_text names loops form ++ rest) ≡ Some (form, rest)
unfolding read_tree_form
tree_form_back parameters loops names form rest n count f c =
    let k = form.constant in
    ap (λ o. when o
    (λ (r : Affine × Text). narrowed (form_of (turned_back parameters r.0.coefficients) r.0.constant) r.1))
    (form_back names (form_of (turned loops form.coefficients) k) rest n
    (turned_is_over parameters loops (length names) form count f) c)
    ∙ (ap (λ (cs : List ℤ). narrowed (form_of cs k) rest)
    (turned_turns_back parameters loops form.coefficients f.entries)
    ∙ narrow_passes form rest f.narrow)

-- a multiple of a divisor over it
exact_floor : (d t z : ℤ) → pos 0 <ℤ d → z ≡ d *ℤ t → floor z d ≡ t
exact_floor d t z some e =
    let c = mul_comm_int d t in
    floor_unique z d (floor z d) t some (floor_is z d some)
    (record { below = omega (arith, ints, c, e); above = omega (arith, ints, c, e, some) })

quotient_back : (s t x : ℤ) → 1 ≤ unsigned_abs s → quotient s ((x +ℤ (s *ℤ t)) -ℤ x) ≡ t
quotient_back (pos zero) t x h = absurd (omega (arith, h))
quotient_back (pos (suc d)) t x h =
    exact_floor (pos (suc d)) t ((x +ℤ (pos (suc d) *ℤ t)) -ℤ x) (omega (arith, ints)) (omega (arith, ints))
quotient_back (negsuc d) t x h =
    let m = mul_neg_left (pos (suc d)) t in
    exact_floor (pos (suc d)) t (neg_ℤ ((x +ℤ (negsuc d *ℤ t)) -ℤ x)) (omega (arith, ints)) (omega (arith, ints, m))

quotients_back : (s : ℤ) (xs ts : List ℤ) → 1 ≤ unsigned_abs s → length ts ≤ length xs
    → take (length ts) (quotients s xs (sums xs (multiples s ts))) ≡ ts
quotients_back s [] [] h l = refl
quotients_back s [] (t ∷ ts) h l = absurd (omega (arith, l))
quotients_back s (x ∷ xs) [] h l = refl
quotients_back s (x ∷ xs) (t ∷ ts) h l =
    ap₂ (λ (y : ℤ) (ys : List ℤ). y ∷ ys) (quotient_back s t x h) (quotients_back s xs ts h (omega (arith, l)))

pub length_spread : (parameters loops : ℕ) (cs : List ℤ) → parameters ≤ length cs
    → parameters + loops ≤ length (spread parameters loops cs)
length_spread parameters loops cs h =
    let a = length-append (take parameters cs) (zeros loops ++ drop parameters cs) in
    let b = length-append (zeros loops) (drop parameters cs) in
    let c = length-zeros loops in
    let d = length-take-le parameters cs h in
    omega (arith, a, b, c, d)

-- the turn of an iterator's form
turn_back : (parameters loops : ℕ) (head : Head) (turn : Affine) → length turn.coefficients ≡ loops + parameters
    → parameters ≤ length head.first.coefficients → 1 ≤ unsigned_abs head.stride
    → turn_of parameters loops head (iterator_form parameters loops head turn) ≡ turn
turn_back parameters loops head turn entries starts some =
    let ts = turned loops turn.coefficients in
    let xs = spread parameters loops head.first.coefficients in
    let l = length_turned loops turn.coefficients in
    let m = length_spread parameters loops head.first.coefficients starts in
    let count : length ts ≡ parameters + loops = omega (arith, l, entries) in
    ap₂ (λ (cs : List ℤ) (k : ℤ). form_of (turned_back parameters cs) k)
    (subst (λ n. take n (quotients head.stride xs (sums xs (multiples head.stride ts))) ≡ ts) count
    (quotients_back head.stride xs ts some (omega (arith, m, count))))
    (quotient_back head.stride turn.constant head.first.constant some)
    ∙ ap (λ (cs : List ℤ). form_of cs turn.constant) (turned_turns_back parameters loops turn.coefficients entries)

-- a turn is read back from its iterator's form
pub read_turn_back : (parameters loops : ℕ) (names : List Text) (head : Head) (turn : Affine) (rest : Text)
    → AreNames names → IsFormOver (length names) (iterator_form parameters loops head turn)
    → IsTreeForm parameters loops turn → parameters ≤ length head.first.coefficients
    → 1 ≤ unsigned_abs head.stride → EndsForm rest
    → read_turn parameters loops names head (form_text names (iterator_form parameters loops head turn) ++ rest)
    ≡ Some (turn, rest)
unfolding read_turn
read_turn_back parameters loops names head turn rest n over h starts some c =
    ap (λ o. when o (λ (r : Affine × Text). narrowed (turn_of parameters loops head r.0) r.1))
    (form_back names (iterator_form parameters loops head turn) rest n over c)
    ∙ (ap (λ (f : Affine). narrowed f rest) (turn_back parameters loops head turn h.entries starts some)
    ∙ narrow_passes turn rest h.narrow)

pub length_loop_names : (n : ℕ) → length (loop_names n) ≡ n
length_loop_names zero = refl
length_loop_names (suc n) =
    length-append (loop_names n) (loop_name n ∷ []) ∙ (let e = length_loop_names n in omega (arith, e))
