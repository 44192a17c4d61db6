-- What comes next is determined; heads and tails of equal lists.
use Rattle.scop_syntax.proofs.Common.{◌≡◌, ℕ, suc, Bool, true, false, ℤ, pos, List, [], ◌∷◌, ◌++◌, refl, sym, ◌∙◌, ap}
use Rattle.scop_syntax.proofs.Common.{ap₂, inl, inr, arith, length, ◌↔◌, reverse, slice_index_or, flat_map}
use Rattle.scop_syntax.proofs.Common.{length-reverse, reverse-reverse, false≢true}
use Rattle.std.proofs.lemmas.List.{length-append}
use Rattle.whole_numbers.proofs.Lexicographic.{lex_total}
use Rattle.farkas.specs.Unknowns.{Part, part_numbers}
use Rattle.schedule_rows.specs.Items.{Row, Marked, numbers_of}
use Rattle.iteration_domains.specs.Dependence.{Dependence}
use Rattle.schedule_rows.specs.Posed.{IsPosed, IsLeast}
use Rattle.schedule_rows.specs.Next.{restricted, Restricts, Uncuts}

pub same_head : {A : Type 0} (x y : A) (xs ys : List A) → x ∷ xs ≡ y ∷ ys → x ≡ y
same_head x y xs ys e = cc

pub same_tail : {A : Type 0} (x y : A) (xs ys : List A) → x ∷ xs ≡ y ∷ ys → xs ≡ ys
same_tail x y xs ys e = cc

-- lists that are joined from parts of one length
pub same_parts : {A : Type 0} (xs ys front back : List A) → length xs ≡ length ys → xs ++ front ≡ ys ++ back
    → (xs ≡ ys) × (front ≡ back)
same_parts [] [] front back h e = (refl, e)
same_parts [] (y ∷ ys) front back h e = absurd (omega (arith, h))
same_parts (x ∷ xs) [] front back h e = absurd (omega (arith, h))
same_parts (x ∷ xs) (y ∷ ys) front back h e =
    let t = same_parts xs ys front back (omega (arith, h)) (same_tail x y (xs ++ front) (ys ++ back) e) in
    (ap₂ (λ v vs. v ∷ vs) (same_head x y (xs ++ front) (ys ++ back) e) t.0, t.1)

same_part : (p q : Part) → p.coefficients ≡ q.coefficients → p.shift ≡ q.shift → p ≡ q
same_part p q a b = ap₂ (λ (c : List ℤ) (s : ℤ). record { coefficients = c; shift = s }) a b

row_from : (r q : Row) → r.u ≡ q.u → r.w ≡ q.w → r.parts ≡ q.parts → r ≡ q
row_from r q a b c =
    ap₂ (λ (u : List ℤ) (w : ℤ). record { u = u; w = w; parts = r.parts }) a b
    ∙ ap (λ (ps : List Part). record { u = q.u; w = q.w; parts = ps }) c

same_all_parts : (ps qs : List Part) → length ps ≡ length qs
    → ((s : ℕ) → length (slice_index_or ps s (record { coefficients = []; shift = pos 0 })).coefficients
    ≡ length (slice_index_or qs s (record { coefficients = []; shift = pos 0 })).coefficients)
    → flat_map part_numbers ps ≡ flat_map part_numbers qs → ps ≡ qs
same_all_parts [] [] h k e = refl
same_all_parts [] (q ∷ qs) h k e = absurd (omega (arith, h))
same_all_parts (p ∷ ps) [] h k e = absurd (omega (arith, h))
same_all_parts (p ∷ ps) (q ∷ qs) h k e =
    let a = length-append (reverse p.coefficients) (p.shift ∷ []) in
    let b = length-append (reverse q.coefficients) (q.shift ∷ []) in
    let c = length-reverse p.coefficients in
    let d = length-reverse q.coefficients in
    let z = k 0 in
    let one = same_parts (part_numbers p) (part_numbers q) (flat_map part_numbers ps)
    (flat_map part_numbers qs) (omega arith) e in
    let two = same_parts (reverse p.coefficients) (reverse q.coefficients) (p.shift ∷ []) (q.shift ∷ [])
    (omega arith) one.0 in
    ap₂ (λ (v : Part) (vs : List Part). v ∷ vs)
    (same_part p q (sym (reverse-reverse p.coefficients)
    ∙ (ap reverse two.0 ∙ reverse-reverse q.coefficients)) (same_head p.shift q.shift [] [] two.1))
    (same_all_parts ps qs (omega (arith, h)) (λ s. k (suc s)) one.1)

same_row : (m : ℕ) (loops : List ℕ) (deps : List Dependence) (before : List Row) (r q : Row)
    → IsPosed m loops deps before r → IsPosed m loops deps before q → numbers_of r ≡ numbers_of q → r ≡ q
same_row m loops deps before r q h k e =
    let a = same_parts r.u q.u (r.w ∷ flat_map part_numbers r.parts) (q.w ∷ flat_map part_numbers q.parts)
    (h.bounds ∙ sym k.bounds) e in
    let w = same_head r.w q.w (flat_map part_numbers r.parts) (flat_map part_numbers q.parts) a.1 in
    let ps = same_all_parts r.parts q.parts (h.statements ∙ sym k.statements)
    (λ s. h.sized s ∙ sym (k.sized s))
    (same_tail r.w q.w (flat_map part_numbers r.parts) (flat_map part_numbers q.parts) a.1) in
    row_from r q a.0 w ps

-- there is one least row
pub least_unique : (m : ℕ) (loops : List ℕ) (deps : List Dependence) (before : List Row) (r q : Row)
    → IsLeast m loops deps before r → IsLeast m loops deps before q → r ≡ q
least_unique m loops deps before r q h k = elim (lex_total (numbers_of r) (numbers_of q)) [
  | inl l ↦ absurd (k.least r h.posed l)
  | inr t ↦ elim t [
    | inl e ↦ same_row m loops deps before r q h.posed k.posed e
    | inr l ↦ absurd (h.least q k.posed l)
  ]
]

pub restricts_unique : (m : ℕ) (ms : List Marked) (ds ks ls : List Dependence) → Restricts m ms ds ks
    → Restricts m ms ds ls → ks ≡ ls
restricts_unique m ms [] ks ls h k = h ∙ sym k
restricts_unique m ms (d ∷ ds) ks ls (inl h) (inl k) = restricts_unique m ms ds ks ls h.1 k.1
restricts_unique m ms (d ∷ ds) ks ls (inl h) (inr k) = absurd (k.1 h.0)
restricts_unique m ms (d ∷ ds) ks ls (inr h) (inl k) = absurd (h.1 k.0)
restricts_unique m ms (d ∷ ds) ks ls (inr h) (inr k) =
    h.3 ∙ (ap (λ (l : List Dependence). restricted m ms d ∷ l) (restricts_unique m ms ds h.0 k.0 h.2 k.2)
    ∙ sym k.3)

pub uncuts_unique : (numbers : List ℕ) (ds ks ls : List Dependence) → Uncuts numbers ds ks
    → Uncuts numbers ds ls → ks ≡ ls
uncuts_unique numbers [] ks ls h k = h ∙ sym k
uncuts_unique numbers (d ∷ ds) ks ls (inl h) (inl k) = uncuts_unique numbers ds ks ls h.1 k.1
uncuts_unique numbers (d ∷ ds) ks ls (inl h) (inr k) = absurd (h.0 k.1)
uncuts_unique numbers (d ∷ ds) ks ls (inr h) (inl k) = absurd (k.0 h.1)
uncuts_unique numbers (d ∷ ds) ks ls (inr h) (inr k) =
    h.3 ∙ (ap (λ (l : List Dependence). d ∷ l) (uncuts_unique numbers ds h.0 k.0 h.2 k.2) ∙ sym k.3)

pub mark_unique : (P : Type 0) (a b : Bool) → (a ≡ true) ↔ P → (b ≡ true) ↔ P → a ≡ b
mark_unique P true true h k = refl
mark_unique P false false h k = refl
mark_unique P true false h k = absurd (false≢true (k.1 (h.0 refl)))
mark_unique P false true h k = absurd (false≢true (h.1 (k.0 refl)))
