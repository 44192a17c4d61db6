-- What holds along blocks, one behind another.
use Rattle.scop_syntax.proofs.Common.{◌≡◌, suc, ℤ, pos, List, [], ◌∷◌, ◌++◌, refl, ap, ap₂, subst, ◌⊎◌, inl, inr, arith}
use Rattle.scop_syntax.proofs.Common.{length, ◌≤ℤ◌, ◌<ℤ◌, ⊤, ints, le_or_lt, LexLess-rest, LexLess, Instance}
use Rattle.std.proofs.lemmas.List.{length-append}
use Rattle.schedule_rows.specs.Items.{Marked, Block, scalar, band, phi, values, band_values, closed_by}
use Rattle.schedule_rows.specs.Bands.{AreKept, AreEqual, Rises, Along}

-- what holds at the end may be weakened
pub along_to : (bs : List Block) (x y : Instance) (E F : Type 0) → (E → F) → Along bs x y E → Along bs x y F
along_to [] x y E F f h = f h
along_to (scalar numbers ∷ bs) x y E F f (inl h) = inl h
along_to (scalar numbers ∷ bs) x y E F f (inr h) = inr (h.0, along_to bs x y E F f h.1)
along_to (band ms ∷ bs) x y E F f (k, inl h) = (k, inl h)
along_to (band ms ∷ bs) x y E F f (k, inr h) = (k, inr (h.0, along_to bs x y E F f h.1))

-- more blocks: going along the first, then along the rest
pub along_append : (front bs : List Block) (x y : Instance) (E : Type 0) → Along front x y (Along bs x y E)
    → Along (front ++ bs) x y E
along_append [] bs x y E h = h
along_append (scalar numbers ∷ front) bs x y E (inl h) = inl h
along_append (scalar numbers ∷ front) bs x y E (inr h) = inr (h.0, along_append front bs x y E h.1)
along_append (band ms ∷ front) bs x y E (k, inl h) = (k, inl h)
along_append (band ms ∷ front) bs x y E (k, inr h) = (k, inr (h.0, along_append front bs x y E h.1))

pub le_apart : (a b : ℤ) → a ≤ℤ b → (a <ℤ b) ⊎ (a ≡ b)
le_apart a b h = elim (le_or_lt b a) [
  | inl k ↦ inr (omega (arith, ints))
  | inr k ↦ inl k
]

-- rows that are kept rise somewhere or are equal
pub rises_or_equal : (ms : List Marked) (x y : Instance) → AreKept ms x y → Rises ms x y ⊎ AreEqual ms x y
rises_or_equal [] x y h = inr tt
rises_or_equal (m ∷ ms) x y h = elim (rises_or_equal ms x y h.2) [
  | inl r ↦ inl (inr r)
  | inr e ↦ elim (le_apart (phi m.row x) (phi m.row y) h.0) [
    | inl l ↦ inl (inl l)
    | inr q ↦ inr (q, e)
  ]
]

-- a row more
pub kept_more : (ms : List Marked) (m : Marked) (x y : Instance) → AreKept ms x y → AreKept (m ∷ []) x y
    → AreKept (ms ++ m ∷ []) x y
kept_more [] m x y h k = k
kept_more (n ∷ ms) m x y h k = (h.0, h.1, kept_more ms m x y h.2 k)

-- an open band is closed
pub along_closed : (bs : List Block) (ms : List Marked) (x y : Instance) (E : Type 0)
    → Along bs x y (AreKept ms x y × (Rises ms x y ⊎ (AreEqual ms x y × E))) → Along (closed_by bs ms) x y E
along_closed bs [] x y E h = along_to bs x y (⊤ × (⊥ ⊎ (⊤ × E))) E last h where
  last : (⊤ × (⊥ ⊎ (⊤ × E))) → E
  last (k, inl n) = absurd n
  last (k, inr p) = p.1
along_closed bs (m ∷ ms) x y E h = along_append bs (band (m ∷ ms) ∷ []) x y E h

-- values in order
pub band_less : (ms : List Marked) (x y : Instance) (xs ys : List ℤ) → AreKept ms x y → Rises ms x y
    → LexLess (band_values ms x ++ xs) (band_values ms y ++ ys)
band_less [] x y xs ys k h = absurd h
band_less (m ∷ ms) x y xs ys k (inl l) = inl l
band_less (m ∷ ms) x y xs ys k (inr h) = elim (le_apart (phi m.row x) (phi m.row y) k.0) [
  | inl l ↦ inl l
  | inr e ↦ inr (e, band_less ms x y xs ys k.2 h)
]

pub band_same : (ms : List Marked) (x y : Instance) → AreEqual ms x y → band_values ms x ≡ band_values ms y
band_same [] x y h = refl
band_same (m ∷ ms) x y h = ap₂ (λ (v : ℤ) (vs : List ℤ). v ∷ vs) h.0 (band_same ms x y h.1)

pub less_behind : (xs ys front back : List ℤ) → xs ≡ ys → LexLess front back
    → LexLess (xs ++ front) (ys ++ back)
less_behind xs ys front back e h =
    subst (λ (zs : List ℤ). LexLess (xs ++ front) (zs ++ back)) e (LexLess-rest xs front back h)

-- the values come in order, or are one and E holds
pub along_values : (bs : List Block) (x y : Instance) (E : Type 0) → Along bs x y E
    → LexLess (values bs x) (values bs y) ⊎ ((values bs x ≡ values bs y) × E)
along_values [] x y E h = inr (refl, h)
along_values (scalar numbers ∷ bs) x y E (inl l) = inl (inl (omega (arith, ints)))
along_values (scalar numbers ∷ bs) x y E (inr h) = elim (along_values bs x y E h.1) [
  | inl l ↦ inl (inr (ap pos h.0, l))
  | inr e ↦ inr (ap₂ (λ (v : ℤ) (vs : List ℤ). v ∷ vs) (ap pos h.0) e.0, e.1)
]
along_values (band ms ∷ bs) x y E (k, inl h) = inl (band_less ms x y (values bs x) (values bs y) k h)
along_values (band ms ∷ bs) x y E (k, inr h) = elim (along_values bs x y E h.1) [
  | inl l ↦ inl (less_behind (band_values ms x) (band_values ms y) (values bs x) (values bs y)
      (band_same ms x y h.0) l)
  | inr e ↦ inr (ap₂ (λ (vs : List ℤ) (ws : List ℤ). vs ++ ws) (band_same ms x y h.0) e.0, e.1)
]

-- two instances have as many values
pub length-band_values : (ms : List Marked) (x : Instance) → length (band_values ms x) ≡ length ms
length-band_values [] x = refl
length-band_values (m ∷ ms) x = ap suc (length-band_values ms x)

pub length-values : (bs : List Block) (x y : Instance) → length (values bs x) ≡ length (values bs y)
length-values [] x y = refl
length-values (scalar numbers ∷ bs) x y = ap suc (length-values bs x y)
length-values (band ms ∷ bs) x y =
    let a = length-band_values ms x in
    let b = length-band_values ms y in
    let c = length-values bs x y in
    let d = length-append (band_values ms x) (values bs x) in
    let e = length-append (band_values ms y) (values bs y) in
    omega arith
