-- The kernel vectors are those of the reduced echelon form, and no others are.
use Rattle.whole_numbers.proofs.Common.{◌≡◌, ℕ, zero, suc, ◌<◌, ◌≤◌, ℤ, pos, negsuc, ◌-ℤ◌, ◌*ℤ◌, neg_ℤ, List, [], ◌∷◌}
use Rattle.whole_numbers.proofs.Common.{◌++◌, length, refl, sym, ◌∙◌, ap, ap₂, subst, ◌⊎◌, inl, inr, arith, All, ◌<ℤ◌}
use Rattle.whole_numbers.proofs.Common.{ints, All-cons, All-nil, All-head, All-tail, All-weaker, dot, sums, multiples}
use Rattle.whole_numbers.proofs.Common.{content, lowest, dot-sums, dot-multiples, length-sums, length-multiples}
use Rattle.whole_numbers.proofs.Common.{lowest_stays, mul_comm_int, mul_zero_right, mul_zero_left, mul_neg_left}
use Rattle.whole_numbers.proofs.Lists.{list_same}
use Rattle.whole_numbers.proofs.Lowest.{lowest_is, lowest_of_multiples}
use Rattle.null_space.specs.Narrowing.{kernel_vectors, narrowed_by}
use Rattle.null_space.specs.Echelon.{at}
use Rattle.null_space.specs.Echelon.{IsOrthogonal, IsFree, IsKernelVector, AreOf, IsRising, In}
use Rattle.null_space.specs.Echelon.{AreKernelVectors}
use Rattle.null_space.proofs.Functionals.{unit, product_some}
use Rattle.null_space.proofs.Spans.{kernel_spans}
use Rattle.null_space.proofs.Orthogonal.{vectors_orthogonal}
use Rattle.null_space.proofs.ListLoops.{kernel_more}
use Rattle.null_space.proofs.ReducedVectors.{entry, IsOwn, Reduced, kernel_reduced, order, complete}

-- each free column is one of those of the vectors
free_column : (n : ℕ) (rows : List (List ℤ)) (cols : List ℕ) → Reduced n cols (kernel_vectors n rows)
    → (j : ℕ) → IsFree n rows j → In j cols
free_column n rows cols h j f =
    let x = f.vector in
    let end = kernel_spans n rows x f.size f.orthogonal in
    complete n cols (kernel_vectors n rows) end.2 h j
    (λ z. product_some end.0 (at x j) (λ e. let p = end.1 in omega (arith, ints)) f.some
    (ap (λ (k : ℤ). end.0 *ℤ k) (sym (entry x j)) ∙ (end.3 (unit j) ∙ z)))
    (λ i l. sym (end.3 (unit i))
    ∙ (ap (λ (k : ℤ). end.0 *ℤ k) (entry x i ∙ f.behind i l) ∙ mul_zero_right end.0))

rising : (n : ℕ) (cols : List ℕ) (ns : List (List ℤ)) → Reduced n cols ns → IsRising cols
rising n [] [] h = tt
rising n [] (v ∷ vs) h = tt
rising n (j ∷ js) [] h = absurd h
rising n (j ∷ js) (v ∷ vs) h = (h.1, rising n js vs h.3)

member : (P : ℕ → Type 0) (js : List ℕ) (i : ℕ) → All P js → In i js → P i
member P [] i all m = absurd m
member P (j ∷ js) i all (inl e) = subst P (sym e) (All-head P j js all)
member P (j ∷ js) i all (inr m) = member P js i (All-tail P j js all) m

combined : (P Q : ℕ → List ℤ → Type 0) (R : List ℤ → Type 0) → ((j : ℕ) (v : List ℤ) → P j v → R v → Q j v)
    → (js : List ℕ) (vs : List (List ℤ)) → AreOf P js vs → All R vs → AreOf Q js vs
combined P Q R f [] [] h all = tt
combined P Q R f [] (v ∷ vs) h all = absurd h
combined P Q R f (j ∷ js) [] h all = absurd h
combined P Q R f (j ∷ js) (v ∷ vs) h all =
    (f j v h.0 (All-head R v vs all), combined P Q R f js vs h.1 (All-tail R v vs all))

abbrev Only : ℕ → List ℕ → ℕ → List ℤ → Type 0
Only n cols j v = IsOwn n j v × ((i : ℕ) → In i cols → (i ≡ j → ⊥) → dot v (unit i) ≡ pos 0)

only : (n : ℕ) (cols : List ℕ) (ns : List (List ℤ)) → Reduced n cols ns → AreOf (Only n cols) cols ns
only n [] [] h = tt
only n [] (v ∷ vs) h = absurd h
only n (j ∷ js) [] h = absurd h
only n (j ∷ js) (v ∷ vs) h = (
  (h.0, λ i m other. first i m other),
  combined (Only n js) (Only n (j ∷ js)) (λ u. dot u (unit j) ≡ pos 0)
      (λ k u o z. (o.0, λ i m other. next k u o z i m other)) js vs (only n js vs h.3) h.2,
)
  where
    first : (i : ℕ) → In i (j ∷ js) → (i ≡ j → ⊥) → dot v (unit i) ≡ pos 0
    first i (inl e) other = absurd (other e)
    first i (inr m) other = h.0.behind i (member (λ k. j < k) js i h.1 m)

    next : (k : ℕ) (u : List ℤ) → Only n js k u → dot u (unit j) ≡ pos 0 → (i : ℕ) → In i (j ∷ js)
        → (i ≡ k → ⊥) → dot u (unit i) ≡ pos 0
    next k u o z i (inl e) other = subst (λ (l : ℕ). dot u (unit l) ≡ pos 0) (sym e) z
    next k u o z i (inr m) other = o.1 i m other

transposed : (rows ns : List (List ℤ)) → All (λ c. All (λ v. dot v c ≡ pos 0) ns) rows
    → All (IsOrthogonal rows) ns
transposed rows [] all = All-nil (IsOrthogonal rows)
transposed rows (v ∷ ns) all =
    All-cons (IsOrthogonal rows) v ns
    (All-weaker (λ c. All (λ u. dot u c ≡ pos 0) (v ∷ ns)) (λ c. dot v c ≡ pos 0)
    (λ c h. All-head (λ u. dot u c ≡ pos 0) v ns h) rows all)
    (transposed rows ns
    (All-weaker (λ c. All (λ u. dot u c ≡ pos 0) (v ∷ ns)) (λ c. All (λ u. dot u c ≡ pos 0) ns)
    (λ c h. All-tail (λ u. dot u c ≡ pos 0) v ns h) rows all))

content_one : (v w : List ℤ) → content v ≤ 1 → pos 0 <ℤ dot v w → content v ≡ 1
content_one v w low h = parts (content v) refl low
  where
    parts : (k : ℕ) → content v ≡ k → k ≤ 1 → content v ≡ 1
    parts zero e l =
        let z : dot v w ≡ pos 0 =
        ap (λ (x : List ℤ). dot x w) (lowest_is v) ∙ (dot-multiples (pos (content v)) (lowest v) w
        ∙ (ap (λ (k : ℕ). pos k *ℤ dot (lowest v) w) e ∙ mul_zero_left (dot (lowest v) w))) in
        absurd (omega (arith, ints))
    parts (suc zero) e l = e
    parts (suc (suc k)) e l = absurd (omega arith)

pub kernel_vectors_are : (n : ℕ) (rows : List (List ℤ)) → AreKernelVectors n rows (kernel_vectors n rows)
kernel_vectors_are n rows =
    let h = kernel_reduced n rows in
    let free = free_column n rows h.0 h.1 in
    record {
      columns = h.0;
      rising = rising n h.0 (kernel_vectors n rows) h.1;
      free = free;
      each = combined (Only n h.0) (IsKernelVector n rows) (IsOrthogonal rows) (λ j v o t. record {
        size = o.0.size;
        orthogonal = t;
        positive = subst (λ (k : ℤ). pos 0 <ℤ k) (entry v j) o.0.positive;
        behind = λ i l. sym (entry v i) ∙ o.0.behind i l;
        others = λ i f other. sym (entry v i) ∙ o.1 i (free i f) other;
        lowest = content_one v (unit j) o.0.low o.0.positive;
      })
          h.0 (kernel_vectors n rows) (only n h.0 (kernel_vectors n rows) h.1)
          (transposed rows (kernel_vectors n rows) (vectors_orthogonal n rows));
    }

-- there are no others
last_some : (z : List ℤ)
    → ((i : ℕ) → at z i ≡ pos 0) ⊎ ((i : ℕ) × (at z i ≡ pos 0 → ⊥) × ((k : ℕ) → i < k → at z k ≡ pos 0))
last_some [] = inl (λ i. refl)
last_some (x ∷ z) = elim (last_some z) [
  | inr r ↦ inr (suc r.0, r.1, λ k l. later k r.0 l r.2)
  | inl none ↦ elim (zero_or x) [
    | inl e ↦ inl (λ i. all i e none)
    | inr some ↦ inr (0, some, λ k l. later_all k l none)
  ]
]
  where
    zero_or : (y : ℤ) → (y ≡ pos 0) ⊎ (y ≡ pos 0 → ⊥)
    zero_or (pos zero) = inl refl
    zero_or (pos (suc n)) = inr (λ e. omega (arith, ints))
    zero_or (negsuc n) = inr (λ e. omega (arith, ints))

    later : (k i : ℕ) → suc i < k → ((m : ℕ) → i < m → at z m ≡ pos 0) → at (x ∷ z) k ≡ pos 0
    later zero i l h = absurd (omega arith)
    later (suc k) i l h = h k (omega arith)

    later_all : (k : ℕ) → 0 < k → ((m : ℕ) → at z m ≡ pos 0) → at (x ∷ z) k ≡ pos 0
    later_all zero l h = absurd (omega arith)
    later_all (suc k) l h = h k

    all : (i : ℕ) → x ≡ pos 0 → ((m : ℕ) → at z m ≡ pos 0) → at (x ∷ z) i ≡ pos 0
    all zero e h = e
    all (suc i) e h = h i

same_lowest : (a b : ℤ) (u v : List ℤ) → pos 0 <ℤ a → pos 0 <ℤ b → content u ≡ 1 → content v ≡ 1
    → multiples a u ≡ multiples b v → u ≡ v
same_lowest (pos zero) b u v h k e f s = absurd (omega (arith, ints))
same_lowest (negsuc a) b u v h k e f s = absurd (omega (arith, ints))
same_lowest (pos (suc a)) (pos zero) u v h k e f s = absurd (omega (arith, ints))
same_lowest (pos (suc a)) (negsuc b) u v h k e f s = absurd (omega (arith, ints))
same_lowest (pos (suc a)) (pos (suc b)) u v h k e f s =
    sym (lowest_stays u (omega (arith, e)))
    ∙ (sym (lowest_of_multiples a u)
    ∙ (ap lowest s ∙ (lowest_of_multiples b v ∙ lowest_stays v (omega (arith, f)))))

pub kernel_vector_unique : (n : ℕ) (rows : List (List ℤ)) (j : ℕ) (u v : List ℤ) → IsKernelVector n rows j u
    → IsKernelVector n rows j v → u ≡ v
kernel_vector_unique n rows j u v p q =
    let a = at v j in
    let b = at u j in
    let z = sums (multiples a u) (multiples (neg_ℤ b) v) in
    let value : (w : List ℤ) → dot z w ≡ (a *ℤ dot u w) -ℤ (b *ℤ dot v w) = λ w.
    let s = dot-sums (multiples a u) (multiples (neg_ℤ b) v) w in
    let x = dot-multiples a u w in
    let y = dot-multiples (neg_ℤ b) v w in
    let t = mul_neg_left b (dot v w) in
    omega (arith, ints) in
    let at_value : (i : ℕ) → at z i ≡ (a *ℤ at u i) -ℤ (b *ℤ at v i) = λ i.
    sym (entry z i) ∙ (value (unit i)
    ∙ ap₂ (λ (x : ℤ) (y : ℤ). (a *ℤ x) -ℤ (b *ℤ y)) (entry u i) (entry v i)) in
    let gone : (x y : ℤ) → x ≡ pos 0 → y ≡ pos 0 → (a *ℤ x) -ℤ (b *ℤ y) ≡ pos 0 = λ x y e f.
    let c = ap (λ (k : ℤ). a *ℤ k) e ∙ mul_zero_right a in
    let d = ap (λ (k : ℤ). b *ℤ k) f ∙ mul_zero_right b in
    omega (arith, ints) in
    let own : at z j ≡ pos 0 = at_value j ∙ (let c = mul_comm_int a b in omega (arith, ints)) in
    let long : length z ≡ n =
    length-sums (multiples a u) (multiples (neg_ℤ b) v)
    (length-multiples a u ∙ (p.size ∙ sym (length-multiples (neg_ℤ b) v ∙ q.size)))
    ∙ (length-multiples a u ∙ p.size) in
    let flat : IsOrthogonal rows z =
    both rows z (λ c e f. value c ∙ gone (dot u c) (dot v c) e f) p.orthogonal q.orthogonal in
    elim (last_some z) [
      | inr r ↦
          let f : IsFree n rows r.0 =
          record { vector = z; size = long; orthogonal = flat; some = r.1; behind = r.2 } in
          let other : r.0 ≡ j → ⊥ = λ e. r.1 (ap (λ (k : ℕ). at z k) e ∙ own) in
          absurd (r.1 (at_value r.0
          ∙ gone (at u r.0) (at v r.0) (p.others r.0 f other) (q.others r.0 f other)))
      | inl none ↦
          same_lowest a b u v q.positive p.positive p.lowest q.lowest
          (list_same (multiples a u) (multiples b v)
          (length-multiples a u ∙ (p.size ∙ sym (length-multiples b v ∙ q.size))) (λ i inside.
          let x = sym (entry (multiples a u) i)
          ∙ (dot-multiples a u (unit i) ∙ ap (λ (k : ℤ). a *ℤ k) (entry u i)) in
          let y = sym (entry (multiples b v) i)
          ∙ (dot-multiples b v (unit i) ∙ ap (λ (k : ℤ). b *ℤ k) (entry v i)) in
          let t = sym (at_value i) ∙ none i in
          x ∙ (minus_zero (a *ℤ at u i) (b *ℤ at v i) t ∙ sym y)))
    ]
  where
    minus_zero : (x y : ℤ) → x -ℤ y ≡ pos 0 → x ≡ y
    minus_zero x y e = omega (arith, ints)

    both : (rows : List (List ℤ)) (z : List ℤ)
        → ((c : List ℤ) → dot u c ≡ pos 0 → dot v c ≡ pos 0 → dot z c ≡ pos 0)
        → IsOrthogonal rows u → IsOrthogonal rows v → IsOrthogonal rows z
    both [] z f g h = All-nil (λ c. dot z c ≡ pos 0)
    both (c ∷ cs) z f g h =
        All-cons (λ d. dot z d ≡ pos 0) c cs
        (f c (All-head (λ d. dot u d ≡ pos 0) c cs g) (All-head (λ d. dot v d ≡ pos 0) c cs h))
        (both cs z f (All-tail (λ d. dot u d ≡ pos 0) c cs g) (All-tail (λ d. dot v d ≡ pos 0) c cs h))

column_free : (n : ℕ) (rows : List (List ℤ)) (cols : List ℕ) (ns : List (List ℤ))
    → AreOf (IsKernelVector n rows) cols ns → (j : ℕ) → In j cols
    → IsFree n rows j
column_free n rows [] ns h j m = absurd m
column_free n rows (k ∷ ks) [] h j m = absurd h
column_free n rows (k ∷ ks) (v ∷ vs) h j (inl e) = subst (IsFree n rows) (sym e) (record {
  vector = v;
  size = h.0.size;
  orthogonal = h.0.orthogonal;
  some = λ z. let p = h.0.positive in omega (arith, ints);
  behind = h.0.behind;
})
column_free n rows (k ∷ ks) (v ∷ vs) h j (inr m) = column_free n rows ks vs h.1 j m

rising_same : (js ks : List ℕ) → IsRising js → IsRising ks → ((i : ℕ) → In i js → In i ks)
    → ((i : ℕ) → In i ks → In i js) → js ≡ ks
rising_same [] [] p q f g = refl
rising_same [] (k ∷ ks) p q f g = absurd (g k (inl refl))
rising_same (j ∷ js) [] p q f g = absurd (f j (inl refl))
rising_same (j ∷ js) (k ∷ ks) p q f g = elim (order j k) [
  | inl l ↦ absurd (below j k ks l q (f j (inl refl)))
  | inr (inl e) ↦ ap₂ (λ (x : ℕ) (xs : List ℕ). x ∷ xs) e (rising_same js ks p.1 q.1
      (λ i m. later i j k ks (member (λ m. j < m) js i p.0 m) e (f i (inr m)))
      (λ i m. later i k j js (member (λ m. k < m) ks i q.0 m) (sym e) (g i (inr m))))
  | inr (inr l) ↦ absurd (below k j js l p (g k (inl refl)))
]
  where
    below : (i m : ℕ) (ms : List ℕ) → i < m → IsRising (m ∷ ms) → In i (m ∷ ms) → ⊥
    below i m ms l r (inl e) = omega (arith, e, l)
    below i m ms l r (inr h) = let k = member (λ x. m < x) ms i r.0 h in omega (arith, k, l)

    later : (i a b : ℕ) (bs : List ℕ) → a < i → a ≡ b → In i (b ∷ bs) → In i bs
    later i a b bs l e (inl s) = absurd (omega (arith, l, e, s))
    later i a b bs l e (inr m) = m

each_same : (n : ℕ) (rows : List (List ℤ)) (cols : List ℕ) (ns ms : List (List ℤ))
    → AreOf (IsKernelVector n rows) cols ns
    → AreOf (IsKernelVector n rows) cols ms → ns ≡ ms
each_same n rows [] [] [] g h = refl
each_same n rows [] [] (u ∷ us) g h = absurd h
each_same n rows [] (v ∷ vs) ms g h = absurd g
each_same n rows (j ∷ js) [] ms g h = absurd g
each_same n rows (j ∷ js) (v ∷ vs) [] g h = absurd h
each_same n rows (j ∷ js) (v ∷ vs) (u ∷ us) g h =
    ap₂ (λ (x : List ℤ) (xs : List (List ℤ)). x ∷ xs) (kernel_vector_unique n rows j v u g.0 h.0)
    (each_same n rows js vs us g.1 h.1)

pub kernel_vectors_unique : (n : ℕ) (rows ns ms : List (List ℤ)) → AreKernelVectors n rows ns
    → AreKernelVectors n rows ms → ns ≡ ms
kernel_vectors_unique n rows ns ms g h =
    let e = rising_same g.columns h.columns g.rising h.rising
    (λ j m. h.free j (column_free n rows g.columns ns g.each j m))
    (λ j m. g.free j (column_free n rows h.columns ms h.each j m)) in
    each_same n rows h.columns ns ms
    (subst (λ (l : List ℕ). AreOf (IsKernelVector n rows) l ns) e g.each) h.each

-- narrowing takes the kernel vectors of rows to those of one row more
pub narrowed_are : (n : ℕ) (rows : List (List ℤ)) (row : List ℤ) (ns : List (List ℤ))
    → AreKernelVectors n rows ns
    → AreKernelVectors n (rows ++ row ∷ []) (narrowed_by row ns)
narrowed_are n rows row ns h =
    let e = kernel_vectors_unique n rows ns (kernel_vectors n rows) h (kernel_vectors_are n rows) in
    subst (AreKernelVectors n (rows ++ row ∷ [])) (kernel_more n rows row ∙ ap (narrowed_by row) (sym e))
    (kernel_vectors_are n (rows ++ row ∷ []))

pub are_from : (n : ℕ) (rows ns : List (List ℤ)) → ns ≡ kernel_vectors n rows → AreKernelVectors n rows ns
are_from n rows ns e = subst (AreKernelVectors n rows) (sym e) (kernel_vectors_are n rows)
