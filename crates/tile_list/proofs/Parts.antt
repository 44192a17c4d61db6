-- Instances that rise by tile are cut into parts, one instance after another.
use Rattle.scop_syntax.proofs.Common.{◌≡◌, ◌∙◌, suc, ◌≤◌, List, [], ◌∷◌, ◌++◌, length, inl, inr, refl, ap, subst, sym}
use Rattle.scop_syntax.proofs.Common.{arith, append-nil, ◌⊎◌, In, Sorted, Instance, in_append, in_back, sorted_append}
use Rattle.std.proofs.lemmas.List.{append_assoc}
use Rattle.loop_tree.specs.Tiling.{Tiling}
use Rattle.tile_list.specs.Tiles.{AreTiles, InOneTile, PartBefore, RiseByTile, TileBefore, joined}
use Rattle.tile_list.specs.steps.Cutting.{IsCut}
use Rattle.tile_list.proofs.Order.{before-trans, before_then_one, one-refl, one-sym, one-trans, one_then_before}
use Rattle.tile_list.proofs.Order.{sorted_behind}

pub joined-append : (ps qs : List (List Instance)) → joined (ps ++ qs) ≡ joined ps ++ joined qs
joined-append [] qs = refl
joined-append (p ∷ ps) qs =
    ap (λ (xs : List Instance). p ++ xs) (joined-append ps qs) ∙ sym (append_assoc p (joined ps) (joined qs))

-- one part more
pub joined_more : (ps : List (List Instance)) (p : List Instance) → joined (ps ++ p ∷ []) ≡ joined ps ++ p
joined_more ps p = joined-append ps (p ∷ []) ∙ ap (λ (xs : List Instance). joined ps ++ xs) (append-nil p)

-- the first instance
pub begun : (tiling : Tiling) (x : Instance) (rest : List Instance) → IsCut tiling (x ∷ rest) [] x [] rest
begun tiling x rest =
    record {
      all = refl;
      some = λ p i. absurd i;
      one = λ p i. absurd i;
      rise = tt;
      here = λ y i. absurd i;
      before = λ p i. absurd i;
    }

-- the next instance lies in a tile with the last, or in a later one
pub next_rises : (tiling : Tiling) (xs : List Instance) (closed : List (List Instance)) (x : Instance)
    (more : List Instance) (y : Instance) (rest : List Instance) → RiseByTile tiling xs
    → IsCut tiling xs closed x more (y ∷ rest) → InOneTile tiling x y ⊎ TileBefore tiling x y
next_rises tiling xs closed x more y rest rise cut =
    let R : Instance → Instance → Type 0 = λ u v. InOneTile tiling u v ⊎ TileBefore tiling u v in
    sorted_behind R (joined closed) x y (more ++ y ∷ rest)
    (subst (λ (zs : List Instance). Sorted R zs) (sym cut.all) rise) (in_back y more (y ∷ rest) (inl refl))

-- instances more in the tile
pub grown : (tiling : Tiling) (xs : List Instance) (closed : List (List Instance)) (x : Instance)
    (more ys rest : List Instance) → IsCut tiling xs closed x more (ys ++ rest)
    → ((y : Instance) → In y ys → InOneTile tiling x y) → IsCut tiling xs closed x (more ++ ys) rest
grown tiling xs closed x more ys rest cut one =
    record {
      all = ap (λ (zs : List Instance). joined closed ++ x ∷ zs) (append_assoc more ys rest) ∙ cut.all;
      some = cut.some;
      one = cut.one;
      rise = cut.rise;
      here = λ z i. elim (in_append z more ys i) [
        | inl j ↦ cut.here z j
        | inr j ↦ one z j
      ];
      before = cut.before;
    }

-- the instances of a part lie in one tile with its first
pub of_part : (tiling : Tiling) (x : Instance) (more : List Instance)
    → ((y : Instance) → In y more → InOneTile tiling x y) → (y : Instance) → In y (x ∷ more) → InOneTile tiling x y
of_part tiling x more here y (inl e) = subst (InOneTile tiling x) (sym e) (one-refl tiling x)
of_part tiling x more here y (inr i) = here y i

-- parts that are closed, the last one too, one behind another
closed_some : (tiling : Tiling) (xs : List Instance) (closed : List (List Instance)) (x : Instance)
    (more rest : List Instance) → IsCut tiling xs closed x more rest
    → (p : List Instance) → In p (closed ++ (x ∷ more) ∷ []) → 1 ≤ length p
closed_some tiling xs closed x more rest cut p i = elim (in_append p closed ((x ∷ more) ∷ []) i) [
  | inl j ↦ cut.some p j
  | inr j ↦ alone p j
]
  where
    alone : (p : List Instance) → In p ((x ∷ more) ∷ []) → 1 ≤ length p
    alone p (inl e) = let l : length p ≡ suc (length more) = ap (λ (q : List Instance). length q) e in omega (arith, l)
    alone p (inr j) = absurd j

closed_one : (tiling : Tiling) (xs : List Instance) (closed : List (List Instance)) (x : Instance)
    (more rest : List Instance) → IsCut tiling xs closed x more rest
    → (p : List Instance) → In p (closed ++ (x ∷ more) ∷ []) → (y z : Instance) → In y p → In z p
    → InOneTile tiling y z
closed_one tiling xs closed x more rest cut p i y z h k = elim (in_append p closed ((x ∷ more) ∷ []) i) [
  | inl j ↦ cut.one p j y z h k
  | inr j ↦ alone p j h k
]
  where
    alone : (p : List Instance) → In p ((x ∷ more) ∷ []) → In y p → In z p → InOneTile tiling y z
    alone p (inl e) h k =
        let a = of_part tiling x more cut.here y (subst (λ (q : List Instance). In y q) e h) in
        let b = of_part tiling x more cut.here z (subst (λ (q : List Instance). In z q) e k) in
        one-trans tiling y x z (one-sym tiling x y a) b
    alone p (inr j) h k = absurd j

closed_rise : (tiling : Tiling) (xs : List Instance) (closed : List (List Instance)) (x : Instance)
    (more rest : List Instance) → IsCut tiling xs closed x more rest
    → Sorted (PartBefore tiling) (closed ++ (x ∷ more) ∷ [])
closed_rise tiling xs closed x more rest cut =
    sorted_append (PartBefore tiling) closed ((x ∷ more) ∷ []) cut.rise ((λ q j. absurd j), tt) after
  where
    after : (p q : List Instance) → In p closed → In q ((x ∷ more) ∷ []) → (y z : Instance) → In y p → In z q
        → TileBefore tiling y z
    after p q i (inl e) y z h k =
        before_then_one tiling y x z (cut.before p i y h)
        (of_part tiling x more cut.here z (subst (λ (r : List Instance). In z r) e k))
    after p q i (inr j) y z h k = absurd j

-- a tile more
pub next_begun : (tiling : Tiling) (xs : List Instance) (closed : List (List Instance)) (x : Instance)
    (more : List Instance) (y : Instance) (rest : List Instance) → IsCut tiling xs closed x more (y ∷ rest)
    → TileBefore tiling x y → IsCut tiling xs (closed ++ (x ∷ more) ∷ []) y [] rest
next_begun tiling xs closed x more y rest cut less =
    record {
      all = ap (λ (zs : List Instance). zs ++ y ∷ rest) (joined_more closed (x ∷ more))
          ∙ (append_assoc (joined closed) (x ∷ more) (y ∷ rest) ∙ cut.all);
      some = closed_some tiling xs closed x more (y ∷ rest) cut;
      one = closed_one tiling xs closed x more (y ∷ rest) cut;
      rise = closed_rise tiling xs closed x more (y ∷ rest) cut;
      here = λ z i. absurd i;
      before = λ p i z h. elim (in_append p closed ((x ∷ more) ∷ []) i) [
        | inl j ↦ before-trans tiling z x y (cut.before p j z h) less
        | inr j ↦ alone p j z h
      ];
    }
  where
    alone : (p : List Instance) → In p ((x ∷ more) ∷ []) → (z : Instance) → In z p → TileBefore tiling z y
    alone p (inl e) z h =
        let a = of_part tiling x more cut.here z (subst (λ (q : List Instance). In z q) e h) in
        one_then_before tiling z x y (one-sym tiling x z a) less
    alone p (inr j) z h = absurd j

-- all parts
pub ended : (tiling : Tiling) (xs : List Instance) (closed : List (List Instance)) (x : Instance)
    (more : List Instance) → IsCut tiling xs closed x more [] → AreTiles tiling xs (closed ++ (x ∷ more) ∷ [])
ended tiling xs closed x more cut =
    record {
      all = joined_more closed (x ∷ more)
          ∙ (ap (λ (zs : List Instance). joined closed ++ x ∷ zs) (sym (append-nil more)) ∙ cut.all);
      some = closed_some tiling xs closed x more [] cut;
      one = closed_one tiling xs closed x more [] cut;
      rise = closed_rise tiling xs closed x more [] cut;
    }

-- none
pub none_cut : (tiling : Tiling) → AreTiles tiling [] []
none_cut tiling = record { all = refl; some = λ p i. absurd i; one = λ p i. absurd i; rise = tt }
