-- Names that are declared later change no value; a loop's condition; the constants of an instance.
use Rattle.scop_syntax.proofs.Common.{◌≡◌, ◌∙◌, ap, refl, ℕ, zero, suc, Bool, true, false, ◌&&◌, if◌then◌else◌, ℤ}
use Rattle.scop_syntax.proofs.Common.{neg_ℤ, ◌+ℤ◌, ◌-ℤ◌, ◌*ℤ◌, List, [], ◌∷◌, ◌++◌, length, arith, Option, Some, None}
use Rattle.scop_syntax.proofs.Common.{slice_get, Affine, le_z, Head, none-some}
use Rattle.std.proofs.lemmas.List.{append_assoc, length-append}
use Rattle.form_text.specs.Reading.{when}
use Rattle.loop_tree.specs.Tree.{Bounds}
use Rattle.loop_tree.specs.Walk.{upper}
use Rattle.loop_tree.specs.Marks.{AreBounds}
use Rattle.c_printer.specs.Forms.{iterator_form}
use Rattle.c_printer.specs.Iterators.{given_value, given_values}
use Rattle.c_meaning.proofs.FormWorths.{from_worth, all_from}
use Rattle.c_meaning.proofs.BoundWorths.{upper_worth}
use Rattle.c_meaning.specs.Syntax.{Expression, number, name, opposite, product, quotient, sum, difference, choice, call}
use Rattle.c_meaning.specs.Expressions.{kept, is_int, called, worth, divided, related, constants}
use Rattle.c_meaning.specs.Runs.{at_most_last}
use Rattle.c_meaning.specs.Programs.{from, upper_expression, given_expressions}
use Rattle.c_meaning.specs.Narrow.{BoundsFit, GivensFit}
use Rattle.c_meaning.specs.steps.Law.{BoundsAreOver}

get_grows : (p q : List ℤ) (k : ℕ) (v : ℤ) → slice_get p k ≡ Some v → slice_get (p ++ q) k ≡ Some v
get_grows [] q k v e = absurd (none-some v e)
get_grows (x ∷ p) q zero v e = e
get_grows (x ∷ p) q (suc k) v e = get_grows p q k v e

-- what comes of a part comes of it where more is known
when_grows : (o r : Option ℤ) (f g : ℤ → Option ℤ) (v : ℤ) → ((a : ℤ) → o ≡ Some a → r ≡ Some a)
    → ((a : ℤ) → f a ≡ Some v → g a ≡ Some v) → when o f ≡ Some v → when r g ≡ Some v
when_grows None r f g v h k e = absurd (none-some v e)
when_grows (Some a) r f g v h k e = ap (λ (t : Option ℤ). when t g) (h a refl) ∙ k a e

-- the branch that is taken
pick : (t : Bool) (a b u w : Option ℤ) (v : ℤ) → (a ≡ Some v → u ≡ Some v) → (b ≡ Some v → w ≡ Some v)
    → (if t then a else b) ≡ Some v → (if t then u else w) ≡ Some v
pick true a b u w v f g e = f e
pick false a b u w v f g e = g e

pub grows : (p q : List ℤ) (e : Expression) (v : ℤ) → worth p e ≡ Some v → worth (p ++ q) e ≡ Some v
grows p q (number n) v h = h
grows p q (name k) v h = get_grows p q k v h
grows p q (opposite e) v h =
    when_grows (worth p e) (worth (p ++ q) e) (λ a. kept (is_int e) (neg_ℤ a)) (λ a. kept (is_int e) (neg_ℤ a)) v
    (grows p q e) (λ a l. l) h
grows p q (product e f) v h =
    when_grows (worth p e) (worth (p ++ q) e)
    (λ a. when (worth p f) (λ b. kept (is_int e && is_int f) (a *ℤ b)))
    (λ a. when (worth (p ++ q) f) (λ b. kept (is_int e && is_int f) (a *ℤ b))) v (grows p q e)
    (λ a l. when_grows (worth p f) (worth (p ++ q) f) (λ b. kept (is_int e && is_int f) (a *ℤ b))
    (λ b. kept (is_int e && is_int f) (a *ℤ b)) v (grows p q f) (λ b m. m) l) h
grows p q (quotient e f) v h =
    when_grows (worth p e) (worth (p ++ q) e)
    (λ a. when (worth p f) (λ b. divided (is_int e && is_int f) a b))
    (λ a. when (worth (p ++ q) f) (λ b. divided (is_int e && is_int f) a b)) v (grows p q e)
    (λ a l. when_grows (worth p f) (worth (p ++ q) f) (λ b. divided (is_int e && is_int f) a b)
    (λ b. divided (is_int e && is_int f) a b) v (grows p q f) (λ b m. m) l) h
grows p q (sum e f) v h =
    when_grows (worth p e) (worth (p ++ q) e)
    (λ a. when (worth p f) (λ b. kept (is_int e && is_int f) (a +ℤ b)))
    (λ a. when (worth (p ++ q) f) (λ b. kept (is_int e && is_int f) (a +ℤ b))) v (grows p q e)
    (λ a l. when_grows (worth p f) (worth (p ++ q) f) (λ b. kept (is_int e && is_int f) (a +ℤ b))
    (λ b. kept (is_int e && is_int f) (a +ℤ b)) v (grows p q f) (λ b m. m) l) h
grows p q (difference e f) v h =
    when_grows (worth p e) (worth (p ++ q) e)
    (λ a. when (worth p f) (λ b. kept (is_int e && is_int f) (a -ℤ b)))
    (λ a. when (worth (p ++ q) f) (λ b. kept (is_int e && is_int f) (a -ℤ b))) v (grows p q e)
    (λ a l. when_grows (worth p f) (worth (p ++ q) f) (λ b. kept (is_int e && is_int f) (a -ℤ b))
    (λ b. kept (is_int e && is_int f) (a -ℤ b)) v (grows p q f) (λ b m. m) l) h
grows p q (choice r a b e f) v h =
    when_grows (worth p a) (worth (p ++ q) a)
    (λ x. when (worth p b) (λ y. if related r x y then worth p e else worth p f))
    (λ x. when (worth (p ++ q) b) (λ y. if related r x y then worth (p ++ q) e else worth (p ++ q) f)) v (grows p q a)
    (λ x l. when_grows (worth p b) (worth (p ++ q) b) (λ y. if related r x y then worth p e else worth p f)
    (λ y. if related r x y then worth (p ++ q) e else worth (p ++ q) f) v (grows p q b)
    (λ y m. pick (related r x y) (worth p e) (worth p f) (worth (p ++ q) e) (worth (p ++ q) f) v (grows p q e v)
    (grows p q f v) m) l) h
grows p q (call g e f) v h =
    when_grows (worth p e) (worth (p ++ q) e) (λ a. when (worth p f) (λ b. called g a b))
    (λ a. when (worth (p ++ q) f) (λ b. called g a b)) v (grows p q e)
    (λ a l. when_grows (worth p f) (worth (p ++ q) f) (λ b. called g a b) (λ b. called g a b) v (grows p q f)
    (λ b m. m) l) h

last_name : (p : List ℤ) (x : ℤ) → slice_get (p ++ x ∷ []) (length p) ≡ Some x
last_name [] x = refl
last_name (y ∷ p) x = last_name p x

-- `NAME <= LAST` at x
pub condition_worth : (params outer : List ℤ) (bs : Bounds) (x : ℤ) → AreBounds bs → BoundsAreOver params outer bs
    → BoundsFit bs params outer
    → at_most_last (params ++ outer) (upper_expression (length params) (length outer) bs) x
    ≡ Some (le_z x (upper bs (outer ++ params)))
condition_worth params outer bs x h o f =
    let p = params ++ outer in
    let q = p ++ x ∷ [] in
    let last = upper_expression (length params) (length outer) bs in
    let u = upper bs (outer ++ params) in
    ap (λ (t : Option ℤ). when t (λ a. when (worth q last) (λ b. Some (le_z a b)))) (last_name p x)
    ∙ ap (λ (t : Option ℤ). when t (λ b. Some (le_z x b))) (grows p (x ∷ []) last u (upper_worth params outer bs h o f))

-- what the constants of an instance hold
pub constants_worth : (params outer before : List ℤ) (n : ℕ) (heads : List Head) (turns : List Affine)
    → n ≡ length (params ++ (outer ++ before)) → GivensFit params outer before heads turns
    → constants (params ++ (outer ++ before)) (given_expressions (length params) (length outer) n heads turns)
    ≡ Some (given_values params outer before heads turns)
constants_worth params outer before n [] turns e f = refl
constants_worth params outer before n (head ∷ heads) [] e f = refl
constants_worth params outer before n (head ∷ heads) (turn ∷ turns) e f =
    let p = params ++ (outer ++ before) in
    let form = iterator_form (length params) (length outer) head turn in
    let z = given_value params outer before head turn in
    let next = before ++ z ∷ [] in
    let es = given_expressions (length params) (length outer) (suc n) heads turns in
    let moved : p ++ z ∷ [] ≡ params ++ (outer ++ next) =
    append_assoc params (outer ++ before) (z ∷ []) ∙ ap (λ (t : List ℤ). params ++ t) (append_assoc outer before (z ∷ [])) in
    let l = length-append p (z ∷ []) in
    let m = ap (λ (t : List ℤ). length t) moved in
    let first = ap (λ (k : ℕ). worth p (from 0 k form.coefficients form.constant)) e
    ∙ from_worth p 0 form.coefficients form.constant p (all_from p) f.0 in
    let rest = ap (λ (t : List ℤ). constants t es) moved
    ∙ constants_worth params outer next (suc n) heads turns (omega (arith, e, l, m)) f.1 in
    ap (λ (o : Option ℤ). when o (λ a. when (constants (p ++ a ∷ []) es) (λ vs. Some (a ∷ vs)))) first
    ∙ ap (λ (o : Option (List ℤ)). when o (λ vs. Some (z ∷ vs))) rest
