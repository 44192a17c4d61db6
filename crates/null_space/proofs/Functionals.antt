-- A vector in lowest terms along a functional: its products are those values divided by a number. One step of narrowing
-- takes a pair of such vectors along to what their functionals leave, divided exactly.
use Rattle.whole_numbers.proofs.Common.{◌≡◌, ℕ, zero, suc, ◌*◌, ◌≤◌, ℤ, pos, negsuc, ◌+ℤ◌, ◌-ℤ◌, ◌*ℤ◌, neg_ℤ, List, []}
use Rattle.whole_numbers.proofs.Common.{◌∷◌, refl, sym, ◌∙◌, ap, ap₂, subst, arith, All, unsigned_abs, ◌<ℤ◌, ints}
use Rattle.whole_numbers.proofs.Common.{unsigned_abs-mul, All-cons, All-nil, dot, multiples, Divides, content, lowest}
use Rattle.whole_numbers.proofs.Common.{divides_sizes, multiples-one, dot-sums, dot-multiples, dot-nil, lowest_stays}
use Rattle.whole_numbers.proofs.Common.{cancel_eq, mul_comm_int, mul_sub_left, mul_assoc_int, left_comm, mul_one_left}
use Rattle.whole_numbers.proofs.Common.{mul_neg_left, mul_zero_right, mul_zero_left}
use Rattle.whole_numbers.proofs.Contents.{content_of_multiples, content_greatest}
use Rattle.whole_numbers.proofs.Divisors.{sizes_divide, divides_by_sizes}
use Rattle.whole_numbers.proofs.Lowest.{lowest_is, content_of_lowest}
use Rattle.null_space.specs.Narrowing.{made_flat, against}
use Rattle.null_space.specs.Sizes.{IsWithin, AreWithin}
use Rattle.null_space.proofs.Sizes.{within_factor}

pub cancel : (q a b : ℤ) → (q ≡ pos 0 → ⊥) → q *ℤ a ≡ q *ℤ b → a ≡ b
cancel (pos zero) a b some h = absurd (some refl)
cancel (pos (suc k)) a b some h =
    cancel_eq a b (pos (suc k)) (omega (arith, ints))
    (mul_comm_int a (pos (suc k)) ∙ (h ∙ mul_comm_int (pos (suc k)) b))
cancel (negsuc k) a b some h =
    let p = pos (suc k) in
    let e = mul_neg_left p a in
    let f = mul_neg_left p b in
    let g : p *ℤ a ≡ p *ℤ b = omega (arith, ints) in
    cancel_eq a b p (omega (arith, ints)) (mul_comm_int a p ∙ (g ∙ mul_comm_int p b))

pub product_some : (a b : ℤ) → (a ≡ pos 0 → ⊥) → (b ≡ pos 0 → ⊥) → a *ℤ b ≡ pos 0 → ⊥
product_some a b h k e = k (cancel a b (pos 0) h (e ∙ sym (mul_zero_right a)))

-- the unit lists, without zeros behind
unfoldable pub unit : ℕ → List ℤ
unit zero = pos 1 ∷ []
unit (suc i) = pos 0 ∷ unit i

-- a statement of all products is one of all entries
pub all_entries : (P : ℤ → Type 0) (xs : List ℤ) → ((i : ℕ) → P (dot xs (unit i))) → All P xs
unfolding unit
all_entries P [] h = All-nil P
all_entries P (x ∷ xs) h =
    let e : (x *ℤ pos 1) +ℤ dot xs [] ≡ x = let n = dot-nil xs in omega (arith, ints) in
    let f : (i : ℕ) → (x *ℤ pos 0) +ℤ dot xs (unit i) ≡ dot xs (unit i) = λ i. let z = mul_zero_right x in
    omega (arith, ints) in
    All-cons P x xs (subst P e (h 0)) (all_entries P xs (λ i. subst P (f i) (h (suc i))))

pub record Along (v : List ℤ) (f : List ℤ → ℤ) : Type 0 where
  pub low : content v ≤ 1
  pub factor : ℤ
  pub some : factor ≡ pos 0 → ⊥
  pub is : (w : List ℤ) → factor *ℤ dot v w ≡ f w

-- no entry is greater than the functional
pub along_within : (m : ℕ) (v : List ℤ) (f : List ℤ → ℤ) → Along v f → ((i : ℕ) → IsWithin m (f (unit i)))
    → AreWithin m v
along_within m v f a h =
    all_entries (IsWithin m) v
    (λ i. within_factor m a.factor (dot v (unit i)) a.some (subst (IsWithin m) (sym (a.is (unit i))) (h i)))

-- a vector in lowest terms whose products are values times q, divided by some number, is along the values
pub reduced : (v : List ℤ) (G : List ℤ → ℤ) (k q : ℤ) → content v ≤ 1 → (k ≡ pos 0 → ⊥) → (q ≡ pos 0 → ⊥)
    → ((w : List ℤ) → k *ℤ dot v w ≡ q *ℤ G w) → Along v G
reduced v G k q low some_k some_q h = parts (content v) refl low
  where
    sized : (w : List ℤ) → Divides q (pos (unsigned_abs k) *ℤ dot v w)
    sized w =
        divides_by_sizes q (pos (unsigned_abs k) *ℤ dot v w) (unsigned_abs (G w))
        (unsigned_abs-mul (pos (unsigned_abs k)) (dot v w)
        ∙ (sym (unsigned_abs-mul k (dot v w)) ∙ (ap unsigned_abs (h w) ∙ unsigned_abs-mul q (G w))))

    divisor : (s : ℕ) → unsigned_abs k ≡ s → content v ≡ 1 → Divides q (pos (unsigned_abs k))
    divisor zero e one = absurd (some_k (omega (arith, ints)))
    divisor (suc s) e one =
        let all = all_entries (Divides q) (multiples (pos (suc s)) v)
        (λ i. subst (Divides q)
        (ap (λ (n : ℕ). pos n *ℤ dot v (unit i)) e ∙ sym (dot-multiples (pos (suc s)) v (unit i)))
        (sized (unit i))) in
        let d = content_greatest q (multiples (pos (suc s)) v) all in
        let f : content (multiples (pos (suc s)) v) ≡ unsigned_abs k =
        content_of_multiples s v ∙ (ap (λ (n : ℕ). suc s * n) one ∙ omega (arith, e)) in
        subst (λ (n : ℕ). Divides q (pos n)) f d

    parts : (n : ℕ) → content v ≡ n → n ≤ 1 → Along v G
    parts zero e l =
        let none : (w : List ℤ) → dot v w ≡ pos 0 = λ w.
        ap (λ (x : List ℤ). dot x w) (lowest_is v) ∙ (dot-multiples (pos (content v)) (lowest v) w
        ∙ (ap (λ (n : ℕ). pos n *ℤ dot (lowest v) w) e ∙ mul_zero_left (dot (lowest v) w))) in
        record {
          low = low;
          factor = pos 1;
          some = λ z. omega (arith, ints);
          is = λ w. mul_one_left (dot v w) ∙ (none w ∙ cancel q (pos 0) (G w) some_q
              (mul_zero_right q ∙ (sym (mul_zero_right k) ∙ (ap (λ (z : ℤ). k *ℤ z) (sym (none w)) ∙ h w))));
        }
    parts (suc zero) e l =
        let d = divisor (unsigned_abs k) refl e in
        let b : Divides q k = sizes_divide q k (divides_sizes q (pos (unsigned_abs k)) d) in
        record {
          low = low;
          factor = b.quotient;
          some = λ z. some_k (b.product ∙ (ap (λ (y : ℤ). q *ℤ y) z ∙ mul_zero_right q));
          is = λ w. cancel q (b.quotient *ℤ dot v w) (G w) some_q
              (sym (mul_assoc_int q b.quotient (dot v w))
              ∙ (ap (λ (y : ℤ). y *ℤ dot v w) (sym b.product) ∙ h w));
        }
    parts (suc (suc n)) e l = absurd (omega arith)

-- lowest terms are in lowest terms, and a list is some multiple of them
pub low_lowest : (x : List ℤ) → content (lowest x) ≤ 1
low_lowest x = parts (content x) refl
  where
    parts : (n : ℕ) → content x ≡ n → content (lowest x) ≤ 1
    parts zero e = let f = ap content (lowest_stays x (omega (arith, e))) in omega (arith, e, f)
    parts (suc n) e = let f = content_of_lowest x (omega (arith, e)) in omega (arith, f)

pub lowest_factor : (x : List ℤ) → (g : ℤ) × (pos 0 <ℤ g) × (x ≡ multiples g (lowest x))
lowest_factor x = parts (content x) refl
  where
    parts : (n : ℕ) → content x ≡ n → (g : ℤ) × (pos 0 <ℤ g) × (x ≡ multiples g (lowest x))
    parts zero e = (
      pos 1,
      omega (arith, ints),
      sym (multiples-one x)
          ∙ ap (multiples (pos 1)) (sym (lowest_stays x (omega (arith, e)))),
    )
    parts (suc n) e = (
      pos (suc n),
      omega (arith, ints),
      lowest_is x
          ∙ ap (λ (k : ℕ). multiples (pos k) (lowest x)) e,
    )

-- 1 or -1
abbrev pub sign : ℤ → ℤ
sign (pos a) = pos 1
sign (negsuc a) = negsuc 0

pub flat_value : (p b : ℤ) (n v w : List ℤ)
    → sign p *ℤ dot (made_flat p b n v) w ≡ (p *ℤ dot v w) -ℤ (b *ℤ dot n w)
flat_value (pos a) b n v w =
    let s = dot-sums (multiples (pos a) v) (multiples (neg_ℤ b) n) w in
    let x = dot-multiples (pos a) v w in
    let y = dot-multiples (neg_ℤ b) n w in
    let z = mul_neg_left b (dot n w) in
    mul_one_left (dot (made_flat (pos a) b n v) w) ∙ omega (arith, ints)
flat_value (negsuc a) b n v w =
    let s = dot-sums (multiples (pos (suc a)) v) (multiples b n) w in
    let x = dot-multiples (pos (suc a)) v w in
    let y = dot-multiples b n w in
    let z = mul_neg_left (pos (suc a)) (dot v w) in
    let u = mul_neg_left (pos 1) (dot (made_flat (negsuc a) b n v) w) in
    let t = mul_one_left (dot (made_flat (negsuc a) b n v) w) in
    omega (arith, ints)

sign_some : (p : ℤ) → sign p ≡ pos 0 → ⊥
sign_some (pos a) h = omega (arith, ints)
sign_some (negsuc a) h = omega (arith, ints)

regrouped : (x y z w : ℤ) → (x *ℤ y) *ℤ (z *ℤ w) ≡ (x *ℤ z) *ℤ (y *ℤ w)
regrouped x y z w =
    mul_assoc_int x y (z *ℤ w) ∙ (ap (λ (k : ℤ). x *ℤ k) (left_comm y z w) ∙ sym (mul_assoc_int x z (y *ℤ w)))

-- narrowing by c: the vectors behind the one that goes
pub against_along : (c n v : List ℤ) (f g G : List ℤ → ℤ) (q : ℤ) → Along n f → Along v g → (q ≡ pos 0 → ⊥)
    → ((w : List ℤ) → (f c *ℤ g w) -ℤ (g c *ℤ f w) ≡ q *ℤ G w) → Along (against c n v) G
against_along c n v f g G q a b some h =
    let p = dot n c in
    let e = dot v c in
    let x = made_flat p e n v in
    let l = lowest_factor x in
    let s = a.factor in
    let t = b.factor in
    let k = (s *ℤ t) *ℤ (sign p *ℤ l.0) in
    reduced (lowest x) G k q (low_lowest x)
    (product_some (s *ℤ t) (sign p *ℤ l.0) (product_some s t a.some b.some)
    (product_some (sign p) l.0 (sign_some p) (λ z. let o = l.1 in omega (arith, ints)))) some
    (λ w.
    let d = dot (lowest x) w in
    let y : l.0 *ℤ d ≡ dot x w = sym (ap (λ (u : List ℤ). dot u w) l.2 ∙ dot-multiples l.0 (lowest x) w) in
    let z : (sign p *ℤ l.0) *ℤ d ≡ (p *ℤ dot v w) -ℤ (e *ℤ dot n w) =
    mul_assoc_int (sign p) l.0 d ∙ (ap (λ (u : ℤ). sign p *ℤ u) y ∙ flat_value p e n v w) in
    let m : (s *ℤ t) *ℤ (p *ℤ dot v w) ≡ f c *ℤ g w =
    regrouped s t p (dot v w) ∙ ap₂ (λ (i : ℤ) (j : ℤ). i *ℤ j) (a.is c) (b.is w) in
    let o : (s *ℤ t) *ℤ (e *ℤ dot n w) ≡ g c *ℤ f w =
    ap (λ (i : ℤ). i *ℤ (e *ℤ dot n w)) (mul_comm_int s t)
    ∙ (regrouped t s e (dot n w) ∙ ap₂ (λ (i : ℤ) (j : ℤ). i *ℤ j) (b.is c) (a.is w)) in
    mul_assoc_int (s *ℤ t) (sign p *ℤ l.0) d
    ∙ (ap (λ (u : ℤ). (s *ℤ t) *ℤ u) z
    ∙ (mul_sub_left (p *ℤ dot v w) (e *ℤ dot n w) (s *ℤ t) ∙ (ap₂ (λ (i : ℤ) (j : ℤ). i -ℤ j) m o ∙ h w))))

-- those in front of it stay
pub front_along : (c v : List ℤ) (f g G : List ℤ → ℤ) (q : ℤ) → (f c ≡ pos 0 → ⊥) → Along v g
    → (q ≡ pos 0 → ⊥)
    → dot v c ≡ pos 0 → ((w : List ℤ) → (f c *ℤ g w) -ℤ (g c *ℤ f w) ≡ q *ℤ G w) → Along v G
front_along c v f g G q f_some b some e h =
    let z : g c ≡ pos 0 = sym (b.is c) ∙ (ap (λ (k : ℤ). b.factor *ℤ k) e ∙ mul_zero_right b.factor) in
    reduced v G (f c *ℤ b.factor) q b.low (product_some (f c) b.factor f_some b.some) some
    (λ w.
    let y : (f c *ℤ b.factor) *ℤ dot v w ≡ f c *ℤ g w =
    mul_assoc_int (f c) b.factor (dot v w) ∙ ap (λ (k : ℤ). f c *ℤ k) (b.is w) in
    let x : g c *ℤ f w ≡ pos 0 = ap (λ (k : ℤ). k *ℤ f w) z ∙ mul_zero_left (f w) in
    let l = h w in
    omega (arith, ints))
