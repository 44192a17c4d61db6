-- Pairs that are joined by a third instance: what dependences that cover the others need.
use Rattle.scop_syntax.proofs.Common.{List, [], ◌∷◌, ◌∙◌, inl, inr, arith, ints, Instance}
use Rattle.schedule_rows.specs.Items.{Marked, Block, scalar, band}
use Rattle.schedule_rows.specs.Bands.{AreKept, AreEqual, Rises, Along}

kept_chain : (ms : List Marked) (x z y : Instance) → AreKept ms x z → AreKept ms z y → AreKept ms x y
kept_chain [] x z y h k = tt
kept_chain (m ∷ ms) x z y h k =
    let a = h.0 in
    let b = k.0 in
    (omega (arith, ints), (λ mark. h.1 mark ∙ k.1 mark), kept_chain ms x z y h.2 k.2)

rises_first : (ms : List Marked) (x z y : Instance) → Rises ms x z → AreKept ms z y → Rises ms x y
rises_first [] x z y h k = absurd h
rises_first (m ∷ ms) x z y (inl h) k = let b = k.0 in inl (omega (arith, ints))
rises_first (m ∷ ms) x z y (inr h) k = inr (rises_first ms x z y h k.2)

rises_last : (ms : List Marked) (x z y : Instance) → AreEqual ms x z → Rises ms z y → Rises ms x y
rises_last [] x z y h k = absurd k
rises_last (m ∷ ms) x z y h (inl k) = let b = h.0 in inl (omega (arith, ints))
rises_last (m ∷ ms) x z y h (inr k) = inr (rises_last ms x z y h.1 k)

equal_chain : (ms : List Marked) (x z y : Instance) → AreEqual ms x z → AreEqual ms z y → AreEqual ms x y
equal_chain [] x z y h k = tt
equal_chain (m ∷ ms) x z y h k = (h.0 ∙ k.0, equal_chain ms x z y h.1 k.1)

-- x before z and z before y: x before y
pub along_chain : (bs : List Block) (x z y : Instance) (E F G : Type 0) → (E → F → G) → Along bs x z E
    → Along bs z y F → Along bs x y G
along_chain [] x z y E F G both h k = both h k
along_chain (scalar numbers ∷ bs) x z y E F G both (inl h) (inl k) = inl (omega arith)
along_chain (scalar numbers ∷ bs) x z y E F G both (inl h) (inr k) = let e = k.0 in inl (omega arith)
along_chain (scalar numbers ∷ bs) x z y E F G both (inr h) (inl k) = let e = h.0 in inl (omega arith)
along_chain (scalar numbers ∷ bs) x z y E F G both (inr h) (inr k) =
    inr (h.0 ∙ k.0, along_chain bs x z y E F G both h.1 k.1)
along_chain (band ms ∷ bs) x z y E F G both (h, inl r) (k, s) =
    (kept_chain ms x z y h k, inl (rises_first ms x z y r k))
along_chain (band ms ∷ bs) x z y E F G both (h, inr e) (k, inl s) =
    (kept_chain ms x z y h k, inl (rises_last ms x z y e.0 s))
along_chain (band ms ∷ bs) x z y E F G both (h, inr e) (k, inr s) =
    (kept_chain ms x z y h k, inr (equal_chain ms x z y e.0 s.0, along_chain bs x z y E F G both e.1 s.1))
