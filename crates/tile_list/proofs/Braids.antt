-- Lists that give their firsts in turn give all that they have where the first has at most one more than the last; so do
-- the strands of a braid of whole rounds.
use Rattle.scop_syntax.proofs.Common.{◌≡◌, ◌∙◌, ◌≤◌, ◌+◌, ◌*◌, ℕ, zero, suc, List, [], ◌∷◌, ◌++◌, length, map, take}
use Rattle.scop_syntax.proofs.Common.{drop, inl, inr, refl, ap, subst, sym, arith, append-nil, set, get_or, All}
use Rattle.scop_syntax.proofs.Common.{length-map, All-nil, In, Sorted, Instance, all_in, in_at, in_append, in_back}
use Rattle.scop_syntax.proofs.Common.{in_front, in_map, in_map_from, sorted_append}
use Rattle.loop_tree.specs.Braids.{IsBraid, left_of_braid, taking, together, woven}
use Rattle.loop_tree.specs.Conditions.{IsHeld}
use Rattle.loop_tree.specs.Stretches.{left_of}
use Rattle.loop_tree.specs.Tiling.{Tiling}
use Rattle.loop_tree.specs.declared.braid.Braid.{Braid}
use Rattle.loop_tree.specs.declared.stretch.Stretch.{Stretch}
use Rattle.loop_tree.proofs.Braids.{woven_next, woven_none}
use Rattle.tile_list.specs.steps.Keys.{IsKeyOf}
use Rattle.tile_list.specs.Stretches.{HasRounds}
use Rattle.tile_list.specs.steps.Stretching.{AllFit, AllHaveKey, AllRowsFit}
use Rattle.tile_list.specs.declared.keys.Key.{Key}
use Rattle.tile_list.proofs.Stretches.{length-left}

-- none has more than those before it, and the first has at most one more than each
record AreEven (ls : List (List Instance)) : Type 0 where
  fall : Sorted (λ k l. length l ≤ length k) ls
  near : (k l : List Instance) → In k ls → In l ls → length k ≤ suc (length l)

-- they give all that they have
record GiveAll (ls : List (List Instance)) : Type 0 where
  count : length (woven ls) ≡ together ls
  each : (l : List Instance) (y : Instance) → In l ls → In y l → In y (woven ls)

only : {A : Type 0} (x y : A) → In x (y ∷ []) → x ≡ y
only x y (inl e) = e
only x y (inr h) = absurd h

together_behind : (ls : List (List Instance)) (l : List Instance) → together (ls ++ l ∷ []) ≡ together ls + length l
together_behind [] l = omega arith
together_behind (k ∷ ls) l = let rest = together_behind ls l in omega (arith, rest)

together_none : (ls : List (List Instance)) → ((l : List Instance) → In l ls → length l ≤ 0) → together ls ≡ 0
together_none [] none = refl
together_none (l ∷ ls) none =
    let here = none l (inl refl) in
    let rest = together_none ls (λ k j. none k (inr j)) in
    omega (arith, here, rest)

nothing_in : (l : List Instance) (y : Instance) → length l ≤ 0 → In y l → ⊥
nothing_in [] y none h = h
nothing_in (i ∷ is) y none h = omega (arith, none)

-- the first has given one, and stands behind the others
turned : (i : Instance) (is : List Instance) (ls : List (List Instance)) → AreEven ((i ∷ is) ∷ ls)
    → AreEven (ls ++ is ∷ [])
turned i is ls even =
    record {
      fall = sorted_append (λ k l. length l ≤ length k) ls (is ∷ []) even.fall.1 ((λ l j. absurd j), tt)
          (λ k l at of. let e = ap (λ (js : List Instance). length js) (only l is of) in
          let near = even.near (i ∷ is) k (inl refl) (inr at) in
          omega (arith, e, near));
      near = λ k l at of. elim (in_append k ls (is ∷ []) at) [
        | inl g ↦ elim (in_append l ls (is ∷ []) of) [
          | inl h ↦ even.near k l (inr g) (inr h)
          | inr h ↦ (let e = ap (λ (js : List Instance). length js) (only l is h) in
              let most = even.fall.0 k g in
              omega (arith, e, most))
        ]
        | inr g ↦ (let e = ap (λ (js : List Instance). length js) (only k is g) in
            elim (in_append l ls (is ∷ []) of) [
              | inl h ↦ (let near = even.near (i ∷ is) l (inl refl) (inr h) in omega (arith, e, near))
              | inr h ↦ (let o = ap (λ (js : List Instance). length js) (only l is h) in omega (arith, e, o))
            ])
      ];
    }

all_given : (n : ℕ) (ls : List (List Instance)) → n ≡ together ls → AreEven ls → GiveAll ls
all_given n [] e even = record { count = refl; each = λ l y j. absurd j }
all_given n ([] ∷ ls) e even =
    let none = together_none ls even.fall.0 in
    record {
      count = ap (λ (is : List Instance). length is) (woven_none ls) ∙ omega (arith, none);
      each = λ l y at of. absurd (empty l y at of);
    }
  where
    empty : (l : List Instance) (y : Instance) → In l ([] ∷ ls) → In y l → ⊥
    empty l y (inl e) of = subst (λ (is : List Instance). In y is) e of
    empty l y (inr j) of = nothing_in l y (even.fall.0 l j) of
all_given zero ((i ∷ is) ∷ ls) e even = absurd (omega (arith, e))
all_given (suc n) ((i ∷ is) ∷ ls) e even =
    let behind = together_behind ls is in
    let rest = all_given n (ls ++ is ∷ []) (omega (arith, e, behind)) (turned i is ls even) in
    let count = rest.count in
    let next = woven_next i is ls in
    record {
      count = ap (λ (js : List Instance). length js) next ∙ omega (arith, count, behind);
      each = λ l y at of. subst (λ (js : List Instance). In y js) (sym next) (given rest.each l y at of);
    }
  where
    given : ((l : List Instance) (y : Instance) → In l (ls ++ is ∷ []) → In y l → In y (woven (ls ++ is ∷ [])))
        → (l : List Instance) (y : Instance) → In l ((i ∷ is) ∷ ls) → In y l → In y (i ∷ woven (ls ++ is ∷ []))
    given each l y (inl e) of = first each y (subst (λ (js : List Instance). In y js) e of)
      where
        first : ((l : List Instance) (y : Instance) → In l (ls ++ is ∷ []) → In y l → In y (woven (ls ++ is ∷ [])))
            → (y : Instance) → In y (i ∷ is) → In y (i ∷ woven (ls ++ is ∷ []))
        first each y (inl e) = inl e
        first each y (inr h) = inr (each is y (in_back is ls (is ∷ []) (inl refl)) h)
    given each l y (inr j) of = inr (each l y (in_front l ls (is ∷ []) j) of)

-- what is given stands in one of the lists
given_from : (n : ℕ) (ls : List (List Instance)) (y : Instance) → In y (taking n ls)
    → (l : List Instance) × In l ls × In y l
given_from zero ls y h = absurd h
given_from (suc n) [] y h = absurd h
given_from (suc n) ([] ∷ ls) y h = absurd h
given_from (suc n) ((i ∷ is) ∷ ls) y (inl e) = (i ∷ is, inl refl, inl e)
given_from (suc n) ((i ∷ is) ∷ ls) y (inr h) =
    let (l, at, of) = given_from n (ls ++ is ∷ []) y h in
    elim (in_append l ls (is ∷ []) at) [
      | inl j ↦ (l, inr j, of)
      | inr j ↦ (i ∷ is, inl refl, inr (subst (λ (js : List Instance). In y js) (only l is j) of))
    ]

-- lists of one length
falls_same : (m : ℕ) (ls : List (List Instance)) → ((l : List Instance) → In l ls → length l ≡ m)
    → Sorted (λ k l. length l ≤ length k) ls
falls_same m [] same = tt
falls_same m (l ∷ ls) same = (
  (λ k j. let a = same l (inl refl) in
      let b = same k (inr j) in
      omega (arith, a, b)),
  falls_same m ls (λ k j. same k (inr j)),
)

even_same : (m : ℕ) (ls : List (List Instance)) → ((l : List Instance) → In l ls → length l ≡ m) → AreEven ls
even_same m ls same =
    record {
      fall = falls_same m ls same;
      near = λ k l at of. let a = same k at in
          let b = same l of in
          omega (arith, a, b);
    }

together_same : (m : ℕ) (ls : List (List Instance)) → ((l : List Instance) → In l ls → length l ≡ m)
    → together ls ≡ length ls * m
together_same m [] same = omega arith
together_same m (l ∷ ls) same =
    let here = same l (inl refl) in
    let rest = together_same m ls (λ k j. same k (inr j)) in
    omega (arith, here, rest)

-- the strands of a braid of whole rounds
abbrev strands : Braid → List (List Instance)
strands b = map left_of (take b.count b.strands)

braid_woven : (b : Braid) (rounds : ℕ) → HasRounds b rounds → left_of_braid b ≡ woven (strands b)
braid_woven b rounds has =
    ap (λ (i : ℕ). woven (map left_of (drop i (take b.count b.strands) ++ take i b.strands))) has.turn
    ∙ ap (λ (ss : List Stretch). woven (map left_of ss)) (append-nil (take b.count b.strands))

strand_same : (b : Braid) (rounds : ℕ) → HasRounds b rounds → (l : List Instance) → In l (strands b)
    → length l ≡ rounds
strand_same b rounds has l h =
    let (s, at, is) = in_map_from left_of l (take b.count b.strands) h in
    ap (λ (js : List Instance). length js) is
    ∙ (length-left s ∙ all_in (λ t. t.left ≡ rounds) (take b.count b.strands) s has.lefts at)

rounds_given : (b : Braid) (rounds : ℕ) → HasRounds b rounds → GiveAll (strands b)
rounds_given b rounds has =
    all_given (together (strands b)) (strands b) refl
    (even_same rounds (strands b) (strand_same b rounds has))

-- how many instances are left
pub braid_count : (b : Braid) (rounds : ℕ) → HasRounds b rounds → length (take b.count b.strands) ≡ b.count
    → b.count * rounds ≡ length (left_of_braid b)
braid_count b rounds has all =
    sym (ap (λ (is : List Instance). length is) (braid_woven b rounds has)
    ∙ ((rounds_given b rounds has).count
    ∙ (together_same rounds (strands b) (strand_same b rounds has)
    ∙ ap (λ (n : ℕ). n * rounds) (length-map (take b.count b.strands) left_of ∙ all))))

-- what is left of a strand is left of the braid
strand_in_braid : (b : Braid) (rounds : ℕ) → HasRounds b rounds → (s : Stretch) → In s (take b.count b.strands)
    → (y : Instance) → In y (left_of s) → In y (left_of_braid b)
strand_in_braid b rounds has s at y h =
    subst (λ (is : List Instance). In y is) (sym (braid_woven b rounds has))
    ((rounds_given b rounds has).each (left_of s) y (in_map left_of s (take b.count b.strands) at) h)

-- so it can be held
pub strands_held : (b : Braid) (rounds : ℕ) → HasRounds b rounds → All IsHeld (left_of_braid b)
    → All (λ s. All IsHeld (left_of s)) (take b.count b.strands)
strands_held b rounds has held k d below j e within =
    let ss = take b.count b.strands in
    let s = get_or ss k d in
    let y = get_or (left_of s) j e in
    all_in IsHeld (left_of_braid b) y held
    (strand_in_braid b rounds has s (in_at ss k d below) y (in_at (left_of s) j e within))

-- and the rows fit there
pub strands_fit : (tiling : Tiling) (b : Braid) (rounds : ℕ) → HasRounds b rounds
    → AllFit tiling (left_of_braid b) → All (AllRowsFit tiling) (take b.count b.strands)
strands_fit tiling b rounds has fits k d below y h =
    let ss = take b.count b.strands in
    fits y (strand_in_braid b rounds has (get_or ss k d) (in_at ss k d below) y h)

-- what is left of a braid has a key where what is left of its strands has it
pub braid_has_key : (tiling : Tiling) (key : Key) (b : Braid) (rounds : ℕ) → HasRounds b rounds
    → All (AllHaveKey tiling key) (take b.count b.strands) → (y : Instance) → In y (left_of_braid b)
    → IsKeyOf tiling y key
braid_has_key tiling key b rounds has all y h =
    let ss = take b.count b.strands in
    let (l, at, of) = given_from (together (strands b)) (strands b) y
    (subst (λ (is : List Instance). In y is) (braid_woven b rounds has) h) in
    let (s, here, is) = in_map_from left_of l ss at in
    all_in (AllHaveKey tiling key) ss s all here y (subst (λ (js : List Instance). In y js) is of)

-- a braid of one strand, of which nothing is left
done : (xs : List Stretch) (s : Stretch) → 1 ≤ length xs → s.left ≡ 0
    → left_of_braid (record { strands = set xs 0 s; count = 1; at = 0 }) ≡ []
done [] s some none = absurd (omega (arith, some))
done (x ∷ xs) s some none = ap (λ (n : ℕ). woven (map left_of (record s { left = n } ∷ []))) none

pub braid_done : (xs : List Stretch) (s : Stretch) (i : ℕ) → 1 ≤ length xs → s.left ≡ 0 → i ≡ 0
    → left_of_braid (record { strands = set xs 0 s; count = 1; at = i }) ≡ []
braid_done xs s i some none turn =
    ap (λ (n : ℕ). left_of_braid (record { strands = set xs 0 s; count = 1; at = n })) turn ∙ done xs s some none

pub done_is_braid : (b : Braid) → left_of_braid b ≡ [] → b.count ≡ 1 → b.at ≡ 0 → IsBraid b
done_is_braid b none one turn =
    record {
      few = omega (arith, one);
      turn = omega (arith, one, turn);
      held = subst (λ (is : List Instance). All IsHeld is) (sym none) (All-nil IsHeld);
    }
