-- Rows over the variables of a pair: forms keep their values, equal subscripts, and the orders of two instances.
use Rattle.conflict_deps.proofs.Common.{◌≡◌, ℕ, zero, suc, ◌+◌, ◌<◌, Bool, true, false, ℤ, pos, negsuc, List, [], ◌∷◌}
use Rattle.conflict_deps.proofs.Common.{◌++◌, length, map, get_or, take, inl, inr, ap₂, subst, sym, ◌∙◌, refl, arith}
use Rattle.conflict_deps.proofs.Common.{◌≤◌, ◌≤ℤ◌, nat_lt, Affine, value_of, multiple_of_form, zeros, NotNegative}
use Rattle.conflict_deps.proofs.Common.{length-zeros, Test, at_least, equal, In, AllHold, values, in_if, in_if_from}
use Rattle.conflict_deps.proofs.Common.{variable, hold_append, hold_front, hold_back, GoesOn, difference_of_forms}
use Rattle.conflict_deps.proofs.Common.{spread, source_form, target_form, map_test, same_subscripts, equal_turns}
use Rattle.conflict_deps.proofs.Common.{one_form, later_turn, After, afters}
use Rattle.scop_syntax.proofs.Common.{◌-ℤ◌, ints, ltb-true, lt-ltb, LexLess, dot, dot-append, dot-zeros, value_of-sum}
use Rattle.scop_syntax.proofs.Common.{value_of-multiple}
use Rattle.scop_syntax.specs.Statements.{Holds}
use Rattle.iteration_domains.proofs.RowLaws.{value_of-variable}
use Rattle.conflict_deps.specs.Conflicts.{step, after}

value_of-difference : (f g : Affine) (x : List ℤ) → value_of (difference_of_forms f g) x ≡ value_of f x -ℤ value_of g x
value_of-difference f g x =
    let s = value_of-sum f (multiple_of_form (negsuc 0) g) x in
    let m = value_of-multiple (negsuc 0) g x in
    omega (arith, ints)

value_of-step : (n d k : ℕ) (x : List ℤ) → k < n → d + k < n
    → value_of (step n d k) x ≡ get_or x (d + k) (pos 0) -ℤ get_or x k (pos 0)
value_of-step n d k x h g =
    let e = value_of-difference (variable n (d + k)) (variable n k) x in
    let a = value_of-variable n (d + k) x g in
    let b = value_of-variable n k x h in
    omega (arith, ints)

value_of-later : (n : ℕ) (f : Affine) (x : List ℤ)
    → value_of (difference_of_forms f (one_form n)) x ≡ value_of f x -ℤ pos 1
value_of-later n f x =
    let e = value_of-difference f (one_form n) x in
    let z = dot-zeros n x in
    omega (arith, ints)

-- each order holds only where the turns of the loops before are equal
equal_before : (c n d k : ℕ) (b : Bool) (x : List ℤ) (r : After) → In r (afters n d k c b) → AllHold r.rows x
    → AllHold (equal_turns n d k) x
equal_before zero n d k b x r m rows =
    let q = in_if_from b r (after (k + 1) (equal_turns n d k) ∷ []) m in
    elim q.1 [
      | inl e ↦ subst (λ (z : After). AllHold z.rows x) e rows
      | inr h ↦ absurd h
    ]
equal_before (suc c) n d k b x r (inl e) rows =
    hold_front (equal_turns n d k) (later_turn n d k ∷ []) x (subst (λ (z : After). AllHold z.rows x) e rows)
equal_before (suc c) n d k b x r (inr m) rows =
    let next : suc k ≡ k + 1 = omega arith in
    let held = subst (λ j. AllHold (equal_turns n d j) x) (sym next) (equal_before c n d (k + 1) b x r m rows) in
    hold_front (equal_turns n d k) (equal (step n d k) ∷ []) x held

equal_here : (c n d k : ℕ) (b : Bool) (x : List ℤ) (r : After) → In r (afters n d (k + 1) c b) → AllHold r.rows x
    → value_of (step n d k) x ≡ pos 0
equal_here c n d k b x r m rows =
    let next : suc k ≡ k + 1 = omega arith in
    let held = subst (λ j. AllHold (equal_turns n d j) x) (sym next) (equal_before c n d (k + 1) b x r m rows) in
    (hold_back (equal_turns n d k) (equal (step n d k) ∷ []) x held).0

-- the rows of the orders say that the source's turns and number come first
pub after_to : (c n d k a b : ℕ) (x xs ys : List ℤ) (r : After) → n ≡ length x → GoesOn x k xs → GoesOn x (d + k) ys
    → c ≤ length xs → c ≤ length ys → In r (afters n d k c (nat_lt a b)) → AllHold r.rows x
    → LexLess (take c xs ++ pos a ∷ []) (take c ys ++ pos b ∷ [])
after_to zero n d k a b x xs ys r e g h l m i rows =
    let q = in_if_from (nat_lt a b) r (after (k + 1) (equal_turns n d k) ∷ []) i in
    let less : a < b = ltb-true a b q.0 in
    inl (omega (arith, ints))
after_to (suc c) n d k a b x [] ys r e g h l m i rows = absurd (omega arith)
after_to (suc c) n d k a b x (p ∷ ps) [] r e g h l m i rows = absurd (omega arith)
after_to (suc c) n d k a b x (p ∷ ps) (q ∷ qs) r e g h l m (inl i) rows =
    let k_in = g.0 in
    let d_in = h.0 in
    let held = subst (λ (z : After). AllHold z.rows x) i rows in
    let later = (hold_back (equal_turns n d k) (later_turn n d k ∷ []) x held).0 in
    let f = value_of-later n (step n d k) x in
    let v = value_of-step n d k x (omega arith) (omega arith) in
    let first = g.1 in
    let second = h.1 in
    inl (omega (arith, ints))
after_to (suc c) n d k a b x (p ∷ ps) (q ∷ qs) r e g h l m (inr i) rows =
    let k_in = g.0 in
    let d_in = h.0 in
    let same = equal_here c n d k (nat_lt a b) x r i rows in
    let v = value_of-step n d k x (omega arith) (omega arith) in
    let first = g.1 in
    let second = h.1 in
    let next : d + k + 1 ≡ d + (k + 1) = omega arith in
    inr (
      omega (arith, ints),
      after_to c n d (k + 1) a b x ps qs r e g.2 (subst (λ z. GoesOn x z qs) next h.2) (omega arith) (omega arith) i
          rows,
    )

pub after_of : (c n d k a b : ℕ) (x xs ys : List ℤ) → n ≡ length x → GoesOn x k xs → GoesOn x (d + k) ys
    → c ≤ length xs → c ≤ length ys → AllHold (equal_turns n d k) x
    → LexLess (take c xs ++ pos a ∷ []) (take c ys ++ pos b ∷ [])
    → (r : After) × In r (afters n d k c (nat_lt a b)) × AllHold r.rows x
after_of zero n d k a b x xs ys e g h l m equals (inl less) =
    let here : a < b = omega (arith, ints) in
    let r = after (k + 1) (equal_turns n d k) in
    (r, in_if (nat_lt a b) r (r ∷ []) (lt-ltb a b here) (inl refl), equals)
after_of zero n d k a b x xs ys e g h l m equals (inr same) = absurd same.1
after_of (suc c) n d k a b x [] ys e g h l m equals less = absurd (omega arith)
after_of (suc c) n d k a b x (p ∷ ps) [] e g h l m equals less = absurd (omega arith)
after_of (suc c) n d k a b x (p ∷ ps) (q ∷ qs) e g h l m equals (inl less) =
    let k_in = g.0 in
    let d_in = h.0 in
    let f = value_of-later n (step n d k) x in
    let v = value_of-step n d k x (omega arith) (omega arith) in
    let first = g.1 in
    let second = h.1 in
    let later : Holds (later_turn n d k) x = omega (arith, ints) in (
      after (k + 1) (equal_turns n d k ++ later_turn n d k ∷ []),
      inl refl,
      hold_append (equal_turns n d k) (later_turn n d k ∷ []) x equals (later, tt),
    )
after_of (suc c) n d k a b x (p ∷ ps) (q ∷ qs) e g h l m equals (inr less) =
    let k_in = g.0 in
    let d_in = h.0 in
    let v = value_of-step n d k x (omega arith) (omega arith) in
    let first = g.1 in
    let second = h.1 in
    let same = less.0 in
    let next : d + k + 1 ≡ d + (k + 1) = omega arith in
    let up : suc k ≡ k + 1 = omega arith in
    let here : Holds (equal (step n d k)) x = omega (arith, ints) in
    let held = hold_append (equal_turns n d k) (equal (step n d k) ∷ []) x equals (here, tt) in
    let r = after_of c n d (k + 1) a b x ps qs e g.2 (subst (λ z. GoesOn x z qs) next h.2) (omega arith) (omega arith)
    (subst (λ j. AllHold (equal_turns n d j) x) up held) less.1 in
    (r.0, inr r.1, r.2)

-- at most one of the orders holds
later_or_equal : (f : Affine) (n : ℕ) (x : List ℤ) → pos 0 ≤ℤ value_of (difference_of_forms f (one_form n)) x
    → value_of f x ≡ pos 0 → ⊥
later_or_equal f n x h e = let s = value_of-later n f x in omega (arith, ints)

later_here : (n d k : ℕ) (x : List ℤ) (r : After) → r ≡ after (k + 1) (equal_turns n d k ++ later_turn n d k ∷ [])
    → AllHold r.rows x → pos 0 ≤ℤ value_of (difference_of_forms (step n d k) (one_form n)) x
later_here n d k x r e rows =
    (hold_back (equal_turns n d k) (later_turn n d k ∷ []) x (subst (λ (z : After). AllHold z.rows x) e rows)).0

pub one_after : (c n d k : ℕ) (b : Bool) (x : List ℤ) (r q : After) → In r (afters n d k c b) → In q (afters n d k c b)
    → AllHold r.rows x → AllHold q.rows x → r ≡ q
one_after zero n d k true x r q (inl g) (inl h) rows others = g ∙ sym h
one_after zero n d k true x r q (inl g) (inr h) rows others = absurd h
one_after zero n d k true x r q (inr g) h rows others = absurd g
one_after zero n d k false x r q g h rows others = absurd g
one_after (suc c) n d k b x r q (inl g) (inl h) rows others = g ∙ sym h
one_after (suc c) n d k b x r q (inl g) (inr h) rows others =
    absurd (later_or_equal (step n d k) n x (later_here n d k x r g rows) (equal_here c n d k b x q h others))
one_after (suc c) n d k b x r q (inr g) (inl h) rows others =
    absurd (later_or_equal (step n d k) n x (later_here n d k x q h others) (equal_here c n d k b x r g rows))
one_after (suc c) n d k b x r q (inr g) (inr h) rows others = one_after c n d (k + 1) b x r q g h rows others

-- forms over the variables of a pair have the values that they had
dot-spread : (d e : ℕ) (cs xs ys zs : List ℤ) → length xs ≡ d → length ys ≡ e
    → dot (spread e d cs) (xs ++ (ys ++ zs)) ≡ dot cs (xs ++ zs)
dot-spread zero e cs [] ys zs l k =
    let a = dot-append (zeros e) cs ys zs (length-zeros e ∙ sym k) in
    let z = dot-zeros e ys in
    omega (arith, ints)
dot-spread zero e cs (x ∷ xs) ys zs l k = absurd (omega arith)
dot-spread (suc d) e cs [] ys zs l k = absurd (omega arith)
dot-spread (suc d) e [] (x ∷ xs) ys zs l k = refl
dot-spread (suc d) e (c ∷ cs) (x ∷ xs) ys zs l k =
    let r = dot-spread d e cs xs ys zs (omega arith) k in omega (arith, ints)

pub value_of-source : (d e : ℕ) (f : Affine) (xs ys zs : List ℤ) → length xs ≡ d → length ys ≡ e
    → value_of (source_form d e f) (xs ++ (ys ++ zs)) ≡ value_of f (xs ++ zs)
value_of-source d e f xs ys zs l k = let r = dot-spread d e f.coefficients xs ys zs l k in omega (arith, ints)

pub value_of-target : (d : ℕ) (f : Affine) (xs zs : List ℤ) → length xs ≡ d
    → value_of (target_form d f) (xs ++ zs) ≡ value_of f zs
value_of-target d f xs zs l =
    let a = dot-append (zeros d) f.coefficients xs zs (length-zeros d ∙ sym l) in
    let z = dot-zeros d xs in
    omega (arith, ints)

-- rows whose forms keep their values hold where they held
test_kept : (h : Affine → Affine) (test : Test) (x y : List ℤ) → ((f : Affine) → value_of (h f) x ≡ value_of f y)
    → Holds (map_test h test) x → Holds test y
test_kept h (at_least f) x y same g = subst (λ z. pos 0 ≤ℤ z) (same f) g
test_kept h (equal f) x y same g = subst (λ z. z ≡ pos 0) (same f) g

test_held : (h : Affine → Affine) (test : Test) (x y : List ℤ) → ((f : Affine) → value_of (h f) x ≡ value_of f y)
    → Holds test y → Holds (map_test h test) x
test_held h (at_least f) x y same g = subst (λ z. pos 0 ≤ℤ z) (sym (same f)) g
test_held h (equal f) x y same g = subst (λ z. z ≡ pos 0) (sym (same f)) g

pub rows_kept : (h : Affine → Affine) (rows : List Test) (x y : List ℤ)
    → ((f : Affine) → value_of (h f) x ≡ value_of f y) → AllHold (map (map_test h) rows) x → AllHold rows y
rows_kept h [] x y same g = tt
rows_kept h (row ∷ rows) x y same g = (test_kept h row x y same g.0, rows_kept h rows x y same g.1)

pub rows_held : (h : Affine → Affine) (rows : List Test) (x y : List ℤ)
    → ((f : Affine) → value_of (h f) x ≡ value_of f y) → AllHold rows y → AllHold (map (map_test h) rows) x
rows_held h [] x y same g = tt
rows_held h (row ∷ rows) x y same g = (test_held h row x y same g.0, rows_held h rows x y same g.1)

-- equal subscripts
pub same_to : (d e : ℕ) (fs gs : List Affine) (x y z : List ℤ)
    → ((f : Affine) → value_of (source_form d e f) x ≡ value_of f y)
    → ((f : Affine) → value_of (target_form d f) x ≡ value_of f z)
    → length fs ≡ length gs → AllHold (same_subscripts d e fs gs) x → values fs y ≡ values gs z
same_to d e [] [] x y z s t l h = refl
same_to d e [] (g ∷ gs) x y z s t l h = absurd (omega arith)
same_to d e (f ∷ fs) [] x y z s t l h = absurd (omega arith)
same_to d e (f ∷ fs) (g ∷ gs) x y z s t l h =
    let v = value_of-difference (source_form d e f) (target_form d g) x in
    let zero_here = h.0 in
    let a = s f in
    let b = t g in
    ap₂ (λ (p : ℤ) (ps : List ℤ). p ∷ ps) (omega (arith, ints)) (same_to d e fs gs x y z s t (omega arith) h.1)

pub same_of : (d e : ℕ) (fs gs : List Affine) (x y z : List ℤ)
    → ((f : Affine) → value_of (source_form d e f) x ≡ value_of f y)
    → ((f : Affine) → value_of (target_form d f) x ≡ value_of f z)
    → values fs y ≡ values gs z → AllHold (same_subscripts d e fs gs) x
same_of d e [] gs x y z s t h = tt
same_of d e (f ∷ fs) [] x y z s t h = tt
same_of d e (f ∷ fs) (g ∷ gs) x y z s t h =
    let v = value_of-difference (source_form d e f) (target_form d g) x in
    let a = s f in
    let b = t g in
    let here : value_of f y ≡ value_of g z = cc in
    (omega (arith, ints), same_of d e fs gs x y z s t cc)

pub up_of : (forms : List Affine) (x : List ℤ) → NotNegative (values forms x) → AllHold (map at_least forms) x
up_of [] x h = tt
up_of (form ∷ forms) x h = (h.0, up_of forms x h.1)
