-- Instances have one list of tiles.
use Rattle.scop_syntax.proofs.Common.{◌≡◌, ◌∙◌, ◌≤◌, List, [], ◌∷◌, ◌++◌, length, inl, inr, refl, ap₂, sym, subst}
use Rattle.scop_syntax.proofs.Common.{arith, In, Sorted, Instance, in_append}
use Rattle.loop_tree.specs.Tiling.{Tiling}
use Rattle.tile_list.specs.Tiles.{AreTiles, InOneTile, PartBefore, TileBefore, joined}
use Rattle.tile_list.proofs.Order.{before-irrefl}

-- behind an instance x stand those of its tile, and then those of later ones
record Behind (tiling : Tiling) (x : Instance) (part rest : List Instance) : Type 0 where
  pub one : (y : Instance) → In y part → InOneTile tiling x y
  pub later : (y : Instance) → In y rest → TileBefore tiling x y

shorter : (tiling : Tiling) (x y : Instance) (part rest : List Instance) → Behind tiling x (y ∷ part) rest
    → Behind tiling x part rest
shorter tiling x y part rest h = record { one = λ z i. h.one z (inr i); later = h.later }

one_split : (tiling : Tiling) (x : Instance) (p q us vs : List Instance) → Behind tiling x p us
    → Behind tiling x q vs → p ++ us ≡ q ++ vs → (p ≡ q) × (us ≡ vs)
one_split tiling x [] [] us vs h k e = (refl, e)
one_split tiling x [] (y ∷ q) [] vs h k e = absurd cc
one_split tiling x [] (y ∷ q) (u ∷ us) vs h k e =
    let same : u ≡ y = cc in
    absurd (before-irrefl tiling x u (subst (InOneTile tiling x) (sym same) (k.one y (inl refl)))
    (h.later u (inl refl)))
one_split tiling x (y ∷ p) [] us [] h k e = absurd cc
one_split tiling x (y ∷ p) [] us (v ∷ vs) h k e =
    let same : v ≡ y = cc in
    absurd (before-irrefl tiling x v (subst (InOneTile tiling x) (sym same) (h.one y (inl refl)))
    (k.later v (inl refl)))
one_split tiling x (y ∷ p) (z ∷ q) us vs h k e =
    let heads : y ≡ z = cc in
    let tails : p ++ us ≡ q ++ vs = cc in
    let r = one_split tiling x p q us vs (shorter tiling x y p us h) (shorter tiling x z q vs k) tails in
    (ap₂ (λ (w : Instance) (ws : List Instance). w ∷ ws) heads r.0, r.1)

-- parts that rise, each of one tile
record Parted (tiling : Tiling) (ps : List (List Instance)) : Type 0 where
  pub some : (p : List Instance) → In p ps → 1 ≤ length p
  pub one : (p : List Instance) → In p ps → (x y : Instance) → In x p → In y p → InOneTile tiling x y
  pub rise : Sorted (PartBefore tiling) ps

fewer : (tiling : Tiling) (p : List Instance) (ps : List (List Instance)) → Parted tiling (p ∷ ps)
    → Parted tiling ps
fewer tiling p ps h =
    record { some = λ q i. h.some q (inr i); one = λ q i. h.one q (inr i); rise = h.rise.1 }

in_parts : (x : Instance) (ps : List (List Instance)) → In x (joined ps) → (p : List Instance) × In p ps × In x p
in_parts x [] i = absurd i
in_parts x (p ∷ ps) i = elim (in_append x p (joined ps) i) [
  | inl j ↦ (p, inl refl, j)
  | inr j ↦ (let r = in_parts x ps j in (r.0, inr r.1, r.2))
]

behind_first : (tiling : Tiling) (x : Instance) (p : List Instance) (ps : List (List Instance))
    → Parted tiling ((x ∷ p) ∷ ps) → Behind tiling x p (joined ps)
behind_first tiling x p ps h =
    record {
      one = λ y i. h.one (x ∷ p) (inl refl) x y (inl refl) (inr i);
      later = λ y i.
          let r = in_parts y ps i in
          h.rise.0 r.0 r.1 x y (inl refl) r.2;
    }

one_parting : (tiling : Tiling) (ps qs : List (List Instance)) → Parted tiling ps → Parted tiling qs
    → joined ps ≡ joined qs → ps ≡ qs
one_parting tiling [] [] h k e = refl
one_parting tiling [] ([] ∷ qs) h k e = let f = k.some [] (inl refl) in absurd (omega (arith, f))
one_parting tiling [] ((y ∷ q) ∷ qs) h k e = absurd cc
one_parting tiling ([] ∷ ps) qs h k e = let f = h.some [] (inl refl) in absurd (omega (arith, f))
one_parting tiling ((x ∷ p) ∷ ps) [] h k e = absurd cc
one_parting tiling ((x ∷ p) ∷ ps) ([] ∷ qs) h k e = let f = k.some [] (inl refl) in absurd (omega (arith, f))
one_parting tiling ((x ∷ p) ∷ ps) ((y ∷ q) ∷ qs) h k e =
    let heads : x ≡ y = cc in
    let tails : p ++ joined ps ≡ q ++ joined qs = cc in
    let s = one_split tiling x p q (joined ps) (joined qs) (behind_first tiling x p ps h)
    (subst (λ z. Behind tiling z q (joined qs)) (sym heads) (behind_first tiling y q qs k)) tails in
    let r = one_parting tiling ps qs (fewer tiling (x ∷ p) ps h) (fewer tiling (y ∷ q) qs k) s.1 in
    ap₂ (λ (z : List Instance) (zs : List (List Instance)). z ∷ zs)
    (ap₂ (λ (w : Instance) (ws : List Instance). w ∷ ws) heads s.0) r

pub tiles_unique : (tiling : Tiling) (xs : List Instance) (ps qs : List (List Instance)) → AreTiles tiling xs ps
    → AreTiles tiling xs qs → ps ≡ qs
tiles_unique tiling xs ps qs h k =
    one_parting tiling ps qs (record { some = h.some; one = h.one; rise = h.rise })
    (record { some = k.some; one = k.one; rise = k.rise }) (h.all ∙ sym k.all)
