-- The minors of up to four rows by Laplace's expansion along the last, and the exact divisions among them (Sylvester's
-- identity).
use Rattle.whole_numbers.proofs.Common.{◌≡◌, ℕ, ℤ, ◌+ℤ◌, ◌-ℤ◌, ◌*ℤ◌, List, ◌∙◌, ap, arith, ints, mul_comm_int}
use Rattle.whole_numbers.proofs.Common.{mul_distrib_left, mul_distrib_right, mul_sub_left, mul_sub_right, mul_assoc_int}
use Rattle.whole_numbers.proofs.Common.{left_comm}
use Rattle.null_space.specs.Echelon.{at}

-- of the columns (p, x) and (q, y)
abbrev pub minor : ℤ → ℤ → ℤ → ℤ → ℤ
minor p x q y = (p *ℤ y) -ℤ (q *ℤ x)

-- of rows r, w and columns a, j
abbrev pub minor₂ : List ℤ → ℕ → ℕ → List ℤ → ℤ
minor₂ r a j w = minor (at r a) (at w a) (at r j) (at w j)

-- of three columns, where q, s, t are the minors of the rows above of the first two, of the first and the third, of the
-- last two, and x, y, z the last row
abbrev pub third : ℤ → ℤ → ℤ → ℤ → ℤ → ℤ → ℤ
third q s t x y z = ((q *ℤ z) -ℤ (s *ℤ y)) +ℤ (t *ℤ x)

-- of rows r, c, w and columns a, b, j
abbrev pub minor₃ : List ℤ → List ℤ → ℕ → ℕ → ℕ → List ℤ → ℤ
minor₃ r c a b j w = third (minor₂ r a b c) (minor₂ r a j c) (minor₂ r b j c) (at w a) (at w b) (at w j)

-- of rows r, c, d, w and columns a, b, e, j
abbrev pub minor₄ : List ℤ → List ℤ → List ℤ → ℕ → ℕ → ℕ → ℕ → List ℤ → ℤ
minor₄ r c d a b e j w =
    (((minor₃ r c a b e d *ℤ at w j) -ℤ (minor₃ r c a b j d *ℤ at w e)) +ℤ (minor₃ r c a e j d *ℤ at w b))
    -ℤ (minor₃ r c b e j d *ℤ at w a)

last_turned : (x y z : ℤ) → (x *ℤ y) *ℤ z ≡ x *ℤ (z *ℤ y)
last_turned x y z = mul_assoc_int x y z ∙ ap (λ (k : ℤ). x *ℤ k) (mul_comm_int y z)

all_turned : (x y z : ℤ) → (x *ℤ y) *ℤ z ≡ y *ℤ (z *ℤ x)
all_turned x y z = ap (λ (k : ℤ). k *ℤ z) (mul_comm_int x y) ∙ last_turned y x z

-- three columns of two rows: a minor of two of them times an entry of the third
above : (p q r x y z : ℤ) → minor p x r z *ℤ q ≡ (minor p x q y *ℤ r) +ℤ (p *ℤ minor q y r z)
above p q r x y z =
    let a = mul_sub_right (p *ℤ z) (r *ℤ x) q in
    let b = mul_sub_right (p *ℤ y) (q *ℤ x) r in
    let c = mul_sub_left (q *ℤ z) (r *ℤ y) p in
    let d = last_turned p z q in
    let e = all_turned r x q in
    let e' = last_turned q x r in
    let e'' = left_comm q r x in
    let g = left_comm x q r in
    let h = ap (λ (k : ℤ). x *ℤ k) (mul_comm_int q r) in
    let i = left_comm q x r in
    let f = last_turned p y r in
    omega (arith, ints)

below : (p q r x y z : ℤ) → minor p x r z *ℤ y ≡ (minor p x q y *ℤ z) +ℤ (x *ℤ minor q y r z)
below p q r x y z =
    let a = mul_sub_right (p *ℤ z) (r *ℤ x) y in
    let b = mul_sub_right (p *ℤ y) (q *ℤ x) z in
    let c = mul_sub_left (q *ℤ z) (r *ℤ y) x in
    let d = last_turned p z y in
    let f = mul_assoc_int p y z in
    let e = all_turned r x y in
    let e' = ap (λ (k : ℤ). x *ℤ k) (mul_comm_int y r) in
    let g = all_turned q x z in
    let g' = ap (λ (k : ℤ). x *ℤ k) (mul_comm_int z q) in
    omega (arith, ints)

-- four columns of two rows (Plücker's relation)
four : (p q r s x y z w : ℤ)
    → (minor q y s w *ℤ minor p x r z) -ℤ (minor q y r z *ℤ minor p x s w) ≡ minor p x q y *ℤ minor r z s w
four p q r s x y z w =
    let A = minor p x r z in
    let B = minor p x s w in
    let E = minor r z s w in
    let a = mul_sub_right (q *ℤ w) (s *ℤ y) A in
    let b = mul_sub_right (q *ℤ z) (r *ℤ y) B in
    let c = mul_sub_right (p *ℤ y) (q *ℤ x) E in
    let u = ap (λ (k : ℤ). y *ℤ k) (above p r s x z w) in
    let v = ap (λ (k : ℤ). q *ℤ k) (below p r s x z w) in
    let u' = mul_distrib_left (A *ℤ s) (p *ℤ E) y in
    let v' = mul_distrib_left (A *ℤ w) (x *ℤ E) q in
    let a1 = last_turned q w A in
    let a2 = all_turned s y A in
    let b1 = last_turned q z B in
    let b2 = all_turned r y B in
    let c1 = all_turned p y E in
    let c1' = ap (λ (k : ℤ). y *ℤ k) (mul_comm_int E p) in
    let c2 = mul_assoc_int q x E in
    omega (arith, ints)

-- the second division, of minors of two rows
divided : (p q r x y z Q S T : ℤ) → S *ℤ q ≡ (Q *ℤ r) +ℤ (p *ℤ T)
    → (Q *ℤ minor p x r z) -ℤ (S *ℤ minor p x q y) ≡ p *ℤ third Q S T x y z
divided p q r x y z Q S T h =
    let a = mul_sub_left (p *ℤ z) (r *ℤ x) Q in
    let b = mul_sub_left (p *ℤ y) (q *ℤ x) S in
    let c = mul_distrib_left ((Q *ℤ z) -ℤ (S *ℤ y)) (T *ℤ x) p in
    let d = mul_sub_left (Q *ℤ z) (S *ℤ y) p in
    let e = left_comm Q p z in
    let f = left_comm S p y in
    let g = ap (λ (k : ℤ). k *ℤ x) h in
    let i = mul_distrib_right (Q *ℤ r) (p *ℤ T) x in
    let j = mul_assoc_int S q x in
    let k = mul_assoc_int Q r x in
    let l = mul_assoc_int p T x in
    omega (arith, ints)

pub minor₂_divided : (r c : List ℤ) (a b j : ℕ) (w : List ℤ)
    → (minor₂ r a b c *ℤ minor₂ r a j w) -ℤ (minor₂ r a j c *ℤ minor₂ r a b w) ≡ at r a *ℤ minor₃ r c a b j w
minor₂_divided r c a b j w =
    divided (at r a) (at r b) (at r j) (at w a) (at w b) (at w j) (minor₂ r a b c) (minor₂ r a j c)
    (minor₂ r b j c)
    (above (at r a) (at r b) (at r j) (at c a) (at c b) (at c j))

-- the third, of minors of three rows
first_part : (Q S S' T T' Z D D' x y : ℤ) → (T *ℤ S') -ℤ (T' *ℤ S) ≡ Q *ℤ Z
    → (third Q S T x y D *ℤ S') -ℤ (third Q S' T' x y D' *ℤ S) ≡ Q *ℤ (((S' *ℤ D) -ℤ (S *ℤ D')) +ℤ (Z *ℤ x))
first_part Q S S' T T' Z D D' x y h =
    let a = mul_distrib_right ((Q *ℤ D) -ℤ (S *ℤ y)) (T *ℤ x) S' in
    let a' = mul_distrib_right ((Q *ℤ D') -ℤ (S' *ℤ y)) (T' *ℤ x) S in
    let b = mul_sub_right (Q *ℤ D) (S *ℤ y) S' in
    let b' = mul_sub_right (Q *ℤ D') (S' *ℤ y) S in
    let c = mul_distrib_left ((S' *ℤ D) -ℤ (S *ℤ D')) (Z *ℤ x) Q in
    let d = mul_sub_left (S' *ℤ D) (S *ℤ D') Q in
    let e = ap (λ (k : ℤ). k *ℤ x) h in
    let f = mul_sub_right (T *ℤ S') (T' *ℤ S) x in
    let g = mul_assoc_int Q Z x in
    let i = last_turned Q D S' in
    let i' = last_turned Q D' S in
    let j = last_turned S y S' in
    let j' = last_turned S' y S in
    let j'' = left_comm S S' y in
    let k = last_turned T x S' in
    let k' = last_turned T' x S in
    let l = mul_assoc_int T S' x in
    let l' = mul_assoc_int T' S x in
    omega (arith, ints)

last_part : (Q S S' T T' Z D D' x y : ℤ) → (T *ℤ S') -ℤ (T' *ℤ S) ≡ Q *ℤ Z
    → (third Q S T x y D *ℤ T') -ℤ (third Q S' T' x y D' *ℤ T) ≡ Q *ℤ (((T' *ℤ D) -ℤ (T *ℤ D')) +ℤ (Z *ℤ y))
last_part Q S S' T T' Z D D' x y h =
    let a = mul_distrib_right ((Q *ℤ D) -ℤ (S *ℤ y)) (T *ℤ x) T' in
    let a' = mul_distrib_right ((Q *ℤ D') -ℤ (S' *ℤ y)) (T' *ℤ x) T in
    let b = mul_sub_right (Q *ℤ D) (S *ℤ y) T' in
    let b' = mul_sub_right (Q *ℤ D') (S' *ℤ y) T in
    let c = mul_distrib_left ((T' *ℤ D) -ℤ (T *ℤ D')) (Z *ℤ y) Q in
    let d = mul_sub_left (T' *ℤ D) (T *ℤ D') Q in
    let e = ap (λ (k : ℤ). k *ℤ y) h in
    let f = mul_sub_right (T *ℤ S') (T' *ℤ S) y in
    let g = mul_assoc_int Q Z y in
    let i = last_turned Q D T' in
    let i' = last_turned Q D' T in
    let j = all_turned S y T' in
    let j1 = mul_comm_int y (T' *ℤ S) in
    let j' = all_turned S' y T in
    let j2 = mul_comm_int y (T *ℤ S') in
    let k = last_turned T x T' in
    let k' = last_turned T' x T in
    let k'' = left_comm T T' x in
    omega (arith, ints)

third_times : (k q s t x y z : ℤ)
    → k *ℤ third q s t x y z ≡ ((q *ℤ (k *ℤ z)) -ℤ ((k *ℤ s) *ℤ y)) +ℤ ((k *ℤ t) *ℤ x)
third_times k q s t x y z =
    let a = mul_distrib_left ((q *ℤ z) -ℤ (s *ℤ y)) (t *ℤ x) k in
    let b = mul_sub_left (q *ℤ z) (s *ℤ y) k in
    let c = left_comm k q z in
    let d = mul_assoc_int k s y in
    let e = mul_assoc_int k t x in
    omega (arith, ints)

fourth_times : (q k l m n x y z w : ℤ) → q *ℤ ((((k *ℤ x) -ℤ (l *ℤ y)) +ℤ (m *ℤ z)) -ℤ (n *ℤ w))
    ≡ (((q *ℤ (k *ℤ x)) -ℤ (q *ℤ (l *ℤ y))) +ℤ (q *ℤ (m *ℤ z))) -ℤ (q *ℤ (n *ℤ w))
fourth_times q k l m n x y z w =
    let a = mul_sub_left (((k *ℤ x) -ℤ (l *ℤ y)) +ℤ (m *ℤ z)) (n *ℤ w) q in
    let b = mul_distrib_left ((k *ℤ x) -ℤ (l *ℤ y)) (m *ℤ z) q in
    let c = mul_sub_left (k *ℤ x) (l *ℤ y) q in
    omega (arith, ints)

minors_divided : (Q S S' T T' Z D D' x y u u' v t : ℤ) → (T *ℤ S') -ℤ (T' *ℤ S) ≡ Q *ℤ Z
    → (third Q S' T' x y D' *ℤ third Q S T t v u) -ℤ (third Q S T x y D *ℤ third Q S' T' t v u')
    ≡ Q *ℤ ((((third Q S' T' x y D' *ℤ u) -ℤ (third Q S T x y D *ℤ u')) +ℤ ((((S' *ℤ D) -ℤ (S *ℤ D')) +ℤ (Z *ℤ x)) *ℤ v))
    -ℤ ((((T' *ℤ D) -ℤ (T *ℤ D')) +ℤ (Z *ℤ y)) *ℤ t))
minors_divided Q S S' T T' Z D D' x y u u' v t h =
    let X = third Q S T x y D in
    let X' = third Q S' T' x y D' in
    let Y = ((S' *ℤ D) -ℤ (S *ℤ D')) +ℤ (Z *ℤ x) in
    let W = ((T' *ℤ D) -ℤ (T *ℤ D')) +ℤ (Z *ℤ y) in
    parts X X' Y W (first_part Q S S' T T' Z D D' x y h) (last_part Q S S' T T' Z D D' x y h)
  where
    parts : (X X' Y W : ℤ) → (X *ℤ S') -ℤ (X' *ℤ S) ≡ Q *ℤ Y → (X *ℤ T') -ℤ (X' *ℤ T) ≡ Q *ℤ W
        → (X' *ℤ third Q S T t v u) -ℤ (X *ℤ third Q S' T' t v u') ≡ Q *ℤ ((((X' *ℤ u) -ℤ (X *ℤ u')) +ℤ (Y *ℤ v)) -ℤ (W *ℤ t))
    parts X X' Y W f l =
        let a = third_times X' Q S T t v u in
        let a' = third_times X Q S' T' t v u' in
        let b = fourth_times Q X' X Y W u u' v t in
        let i = ap (λ (k : ℤ). k *ℤ v) f ∙ mul_assoc_int Q Y v in
        let i' = mul_sub_right (X *ℤ S') (X' *ℤ S) v in
        let j = ap (λ (k : ℤ). k *ℤ t) l ∙ mul_assoc_int Q W t in
        let j' = mul_sub_right (X *ℤ T') (X' *ℤ T) t in
        omega (arith, ints)

pub minor₃_divided : (r c d : List ℤ) (a b e j : ℕ) (w : List ℤ)
    → (minor₃ r c a b e d *ℤ minor₃ r c a b j w) -ℤ (minor₃ r c a b j d *ℤ minor₃ r c a b e w)
    ≡ minor₂ r a b c *ℤ minor₄ r c d a b e j w
minor₃_divided r c d a b e j w =
    minors_divided (minor₂ r a b c) (minor₂ r a j c) (minor₂ r a e c) (minor₂ r b j c) (minor₂ r b e c)
    (minor₂ r e j c)
    (at d j) (at d e) (at d a) (at d b) (at w j) (at w e) (at w b) (at w a)
    (four (at r a) (at r b) (at r e) (at r j) (at c a) (at c b) (at c e) (at c j))
