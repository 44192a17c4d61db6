-- What waits behind what is written of a quast: each step writes its front and leaves the rest.
use Rattle.whole_numbers.proofs.Common.{◌≡◌, ◌∙◌, ap, sym, subst, refl, ℕ, zero, suc, ◌+◌, ◌-◌, ◌<◌, List, [], ◌∷◌}
use Rattle.whole_numbers.proofs.Common.{◌++◌, length, reverse, arith, append_assoc, append-nil, ℤ, Vec, Global, Result}
use Rattle.whole_numbers.proofs.Common.{true, Ok, Err, OnOk, codes, length-map, reverse-append, Affine}
use Rattle.std.proofs.lemmas.List.{length-append}
use Rattle.scop_lexer.specs.Bytes.{Text}
use Rattle.quast_trees.specs.Tree.{Tree, branch, bind, count}
use Rattle.quast_trees.specs.Place.{Spot, subtree}
use Rattle.form_text.specs.Forms.{constant_text, form_text}
use Rattle.quast_text.specs.Text.{bound_name, names_within, let_text, quast_text, texts_of}
use Rattle.quast_text.specs.steps.Waiting.{lets_in, waiting_text, weight, weights, GoesOn}
use Rattle.quast_text.specs.declared.writer.Rest.TheVariants as rest

-- the last part of a stack is the nearest
pub turned_last : (old more : List rest.the_data) (x : rest.the_data) → old ≡ more ++ x ∷ []
    → reverse old ≡ x ∷ reverse more
turned_last old more x e = ap reverse e ∙ reverse-append more (x ∷ [])

-- so are the last two
pub turned_two : (old more : List rest.the_data) (x y : rest.the_data) → old ≡ (more ++ x ∷ []) ++ y ∷ []
    → reverse old ≡ y ∷ x ∷ reverse more
turned_two old more x y e =
    turned_last old (more ++ x ∷ []) y e
    ∙ ap (λ (rs : List rest.the_data). y ∷ rs) (turned_last (more ++ x ∷ []) more x refl)

-- weights of parts put on a stack
pub weights_behind : (more : List rest.the_data) (x : rest.the_data)
    → weights (more ++ x ∷ []) ≡ weights more + weight x
weights_behind [] x = omega arith
weights_behind (r ∷ more) x = let h = weights_behind more x in omega (arith, h)

-- a part is taken off, and less is laid back
pub weights_fall : (old more new : List rest.the_data) (x : rest.the_data) → old ≡ more ++ x ∷ []
    → weights new < weights more + weight x → weights new < weights old
weights_fall old more new x popped less =
    let a = ap weights popped in
    let b = weights_behind more x in
    omega (arith, a, b, less)

-- the sides of a branch are less than it
pub branch_less : (place a b : Spot) (old new : List rest.the_data) (f : Affine)
    → subtree place ≡ branch f (subtree a) (subtree b)
    → new ≡ (old ++ rest.Second b ∷ []) ++ rest.Tree a ∷ []
    → weights new < weights old + weight (rest.Tree place)
branch_less place a b old new f is laid =
    let c = ap count is in
    let w = ap weights laid in
    let v = weights_behind (old ++ rest.Second b ∷ []) (rest.Tree a) in
    let u = weights_behind old (rest.Second b) in
    omega (arith, c, w, v, u)

-- so is the body of a bind
pub bind_less : (place body : Spot) (old new : List rest.the_data) (f : Affine) (d : ℤ)
    → subtree place ≡ bind f d (subtree body) → new ≡ (old ++ rest.EndOfLet ∷ []) ++ rest.Tree body ∷ []
    → weights new < weights old + weight (rest.Tree place)
bind_less place body old new f d is laid =
    let c = ap count is in
    let w = ap weights laid in
    let v = weights_behind (old ++ rest.EndOfLet ∷ []) (rest.Tree body) in
    let u = weights_behind old rest.EndOfLet in
    omega (arith, c, w, v, u)

-- and a second side, once what stands in front of it is written
pub second_less : (place : Spot) (old new : List rest.the_data) (part : rest.the_data) → part ≡ rest.Second place
    → new ≡ (old ++ rest.EndOfBranch ∷ []) ++ rest.Tree place ∷ [] → weights new < weights old + weight part
second_less place old new part is laid =
    let p = ap weight is in
    let w = ap weights laid in
    let v = weights_behind (old ++ rest.EndOfBranch ∷ []) (rest.Tree place) in
    let u = weights_behind old rest.EndOfBranch in
    omega (arith, p, w, v, u)

-- ---- a `let`

-- so many names stand within k `let`s
length_within : (outer : List Text) (k : ℕ) → length (names_within outer k) ≡ length outer + k
length_within outer zero = omega arith
length_within outer (suc k) =
    let a = length-append (names_within outer k) (bound_name (suc k) ∷ []) in
    let b = length_within outer k in
    omega (arith, a, b)

-- the code's count of them
lets_counted : (outer : List Text) (k count : ℕ) (names : List (Vec ℕ Global)) → count ≡ length outer
    → texts_of names ≡ names_within outer k → length names - count ≡ k
lets_counted outer k count names many is =
    let a = ap length is in
    let b = length_within outer k in
    let c = length-map names (λ n. n.items) in
    omega (arith, a, b, c, many)

let_front : (out p m q f r d s a t w : Text)
    → (out ++ (p ++ (m ++ (q ++ (f ++ (r ++ (d ++ (s ++ [])))))))) ++ (a ++ (t ++ w))
    ≡ out ++ (((p ++ (m ++ (q ++ (f ++ (r ++ (d ++ (s ++ []))))))) ++ (a ++ (t ++ []))) ++ w)
let_front out p m q f r d s a t w = simp (append_assoc, append-nil) refl

-- a `let`'s head is written, its body waits, and then its end
goes_let : (count : ℕ) (place body : Spot) (rs : List rest.the_data) (names names' : List (Vec ℕ Global))
    (out out' : Text) (f : Affine) (d : ℤ) → subtree place ≡ bind f d (subtree body)
    → out' ≡ out ++ let_text (texts_of names) (suc (length names - count)) f d
    → texts_of names' ≡ texts_of names ++ bound_name (suc (length names - count)) ∷ []
    → GoesOn count (rest.Tree place ∷ rs) names out (rest.Tree body ∷ rest.EndOfLet ∷ rs) names' out'
goes_let count place body rs names names' out out' f d is made named = λ outer many there.
    let k = lets_in rs in
    let tail = waiting_text outer rs in
    let inner = quast_text outer (suc k) (subtree body) in
    let within = names_within outer k in
    let counted = lets_counted outer k count names many there in (
      named ∙ (ap (λ (i : ℕ). texts_of names ++ bound_name (suc i) ∷ []) counted
          ∙ ap (λ (ns : List Text). ns ++ bound_name (suc k) ∷ []) there),
      ap (λ (o : Text). o ++ (inner ++ (codes " }" ++ tail)))
          (made ∙ (ap (λ (i : ℕ). out ++ let_text (texts_of names) (suc i) f d) counted
          ∙ ap (λ (ns : List Text). out ++ let_text ns (suc k) f d) there))
          ∙ (let_front out (codes "let ") (bound_name (suc k)) (codes " = floor(") (form_text within f) (codes " / ")
          (constant_text true d) (codes ") { ") inner (codes " }") tail
          ∙ sym (ap (λ (t : Tree). out ++ (quast_text outer k t ++ tail)) is)),
    )

-- the same on the stack
pub let_goes_on : (count : ℕ) (place body : Spot) (old new : List rest.the_data) (names names' : List (Vec ℕ Global))
    (out out' : Text) (f : Affine) (d : ℤ) → subtree place ≡ bind f d (subtree body)
    → out' ≡ out ++ let_text (texts_of names) (suc (length names - count)) f d
    → texts_of names' ≡ texts_of names ++ bound_name (suc (length names - count)) ∷ []
    → new ≡ (old ++ rest.EndOfLet ∷ []) ++ rest.Tree body ∷ []
    → GoesOn count (rest.Tree place ∷ reverse old) names out (reverse new) names' out'
let_goes_on count place body old new names names' out out' f d is made named laid =
    subst (λ (rs : List rest.the_data). GoesOn count (rest.Tree place ∷ reverse old) names out rs names' out')
    (sym (turned_two new old rest.EndOfLet (rest.Tree body) laid))
    (goes_let count place body (reverse old) names names' out out' f d is made named)

-- what three promises of a call that ends well give
pub on_three : {T E P Q R S : Type 0} (r : Result T E) → (P → Q → R → S) → OnOk r P → OnOk r Q → OnOk r R → OnOk r S
on_three (Ok x) f p q r = f p q r
on_three (Err e) f p q r = tt
