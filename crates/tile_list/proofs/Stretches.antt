-- Along a stretch forms go by constant steps: floors that are one at both ends are one between, and so are tiles; the
-- instance so many steps on.
use Rattle.scop_syntax.proofs.Common.{◌≡◌, ◌∙◌, ◌≤◌, ◌<◌, ◌+◌, ◌%◌, ◌^◌, ℕ, zero, suc, ℤ, pos, List, [], ◌∷◌, ◌++◌}
use Rattle.scop_syntax.proofs.Common.{length, map, take, inl, inr, refl, ap, ap₂, sym, subst, arith, to_z, of_z, ◌+ℤ◌}
use Rattle.scop_syntax.proofs.Common.{◌*ℤ◌, ◌≤ℤ◌, ◌<ℤ◌, All, FitsSigned, if◌then◌else◌, cast_signed, w64}
use Rattle.scop_syntax.proofs.Common.{int_wrap-add_right, int_wrap_fits, ints, to_z-of_z, append_cancel_left, Affine}
use Rattle.scop_syntax.proofs.Common.{value_of, floor, dot, multiples, sums, dot-multiples_right, dot-sums, dot_comm}
use Rattle.scop_syntax.proofs.Common.{floor_is, le_or_lt, mul_le, mul_le_turned, mul_not_negative, mul_comm_int}
use Rattle.scop_syntax.proofs.Common.{mul_distrib_right, mul_one_left, In, instance_of, Instance, all_in}
use Rattle.std.specs.Int.{int_wrap}
use Rattle.std.proofs.lemmas.Int.{int_wrap-mul_right}
use Rattle.whole_numbers.proofs.Floors.{floor_greatest}
use Rattle.whole_numbers.proofs.Order.{mul_opposite}
use Rattle.loop_tree.specs.Conditions.{IsHeld}
use Rattle.loop_tree.specs.Stretches.{following, left_of}
use Rattle.loop_tree.specs.Tiling.{TileRow, Tiling, kept, tiled, coordinates, items_at, wave_sum}
use Rattle.loop_tree.specs.TilingView.{tiling_of}
use Rattle.loop_tree.specs.declared.stretch.Stretch.{Stretch}
use Rattle.loop_tree.specs.declared.tiling.Tiling.TheVariants as code
use Rattle.tile_list.specs.Tiles.{HasSize, InOneTile}
use Rattle.tile_list.specs.steps.Keys.{IsKeyOf}
use Rattle.tile_list.specs.Stretches.{instance_at, steps_on}
use Rattle.tile_list.specs.steps.Stretching.{AllHaveKey}
use Rattle.tile_list.specs.declared.keys.Key.{Key}
use Rattle.tile_list.proofs.TellingKeys.{key_tells, tells_key}

-- once the steps are the steps
once : (steps : List ℤ) → multiples (pos 1) steps ≡ steps
once [] = refl
once (s ∷ steps) = ap₂ (λ (z : ℤ) (zs : List ℤ). z ∷ zs) (mul_one_left s) (once steps)

-- a multiple more of one step
one_step_more : (k : ℕ) (s : ℤ) → (pos k *ℤ s) +ℤ s ≡ pos (suc k) *ℤ s
one_step_more k s =
    let d = mul_distrib_right (pos k) (pos 1) s in
    let o = mul_one_left s in
    let e : pos (suc k) ≡ pos k +ℤ pos 1 = omega (arith, ints) in
    subst (λ (z : ℤ). (pos k *ℤ s) +ℤ s ≡ z *ℤ s) (sym e) (omega (arith, ints, d, o))

-- a step more
pub steps_more : (k : ℕ) (turns steps : List ℤ)
    → sums (sums turns (multiples (pos k) steps)) steps ≡ sums turns (multiples (pos (suc k)) steps)
steps_more k [] [] = refl
steps_more k [] (s ∷ steps) =
    ap₂ (λ (z : ℤ) (zs : List ℤ). z ∷ zs) (one_step_more k s) (steps_more k [] steps)
steps_more k (t ∷ turns) [] = refl
steps_more k (t ∷ turns) (s ∷ steps) =
    let e = one_step_more k s in
    let first : (t +ℤ (pos k *ℤ s)) +ℤ s ≡ t +ℤ (pos (suc k) *ℤ s) = omega (arith, ints, e) in
    ap₂ (λ (z : ℤ) (zs : List ℤ). z ∷ zs) first (steps_more k turns steps)

-- what is left of a stretch is what stands so many steps on
from_place : (n : ℕ) (turns steps : List ℤ) (j : ℕ) (here : List ℤ) (k : ℕ)
    → sums here steps ≡ sums turns (multiples (pos (suc j)) steps) → (y : Instance) → In y (following n here steps k)
    → (i : ℕ) × (j < i) × (i ≤ j + k) × (y ≡ steps_on n turns steps i)
from_place n turns steps j here zero e y h = absurd h
from_place n turns steps j here (suc k) e y (inl h) =
    (suc j, omega arith, omega arith, h ∙ ap (λ (ts : List ℤ). record { number = n; turns = ts }) e)
from_place n turns steps j here (suc k) e y (inr h) =
    let more = ap (λ (ts : List ℤ). sums ts steps) e ∙ steps_more (suc j) turns steps in
    let (i, low, high, is) = from_place n turns steps (suc j) (sums here steps) k more y h in
    (i, omega (arith, low), omega (arith, high), is)

-- and what stands so many steps on is left of it
at_place : (n : ℕ) (turns steps : List ℤ) (j : ℕ) (here : List ℤ) (k : ℕ)
    → sums here steps ≡ sums turns (multiples (pos (suc j)) steps) → (i : ℕ) → i ≤ k → 1 ≤ i
    → In (steps_on n turns steps (j + i)) (following n here steps k)
at_place n turns steps j here zero e i high low = absurd (omega (arith, high, low))
at_place n turns steps j here (suc k) e zero high low = absurd (omega (arith, low))
at_place n turns steps j here (suc k) e (suc zero) high low =
    let same : suc j ≡ j + 1 = omega arith in
    inl (ap (λ (m : ℕ). steps_on n turns steps m) (sym same)
    ∙ ap (λ (ts : List ℤ). record { number = n; turns = ts }) (sym e))
at_place n turns steps j here (suc k) e (suc (suc i)) high low =
    let more = ap (λ (ts : List ℤ). sums ts steps) e ∙ steps_more (suc j) turns steps in
    let same : suc j + suc i ≡ j + suc (suc i) = omega arith in
    inr (subst (λ (m : ℕ). In (steps_on n turns steps m) (following n (sums here steps) steps k)) same
    (at_place n turns steps (suc j) (sums here steps) k more (suc i) (omega (arith, high)) (omega arith)))

-- the first of a stretch
pub first_sums : (turns steps : List ℤ) → sums turns steps ≡ sums turns (multiples (pos 1) steps)
first_sums turns steps = ap (λ (ss : List ℤ). sums turns ss) (sym (once steps))

-- what stands some steps on is left
pub at_left : (s : Stretch) (i : ℕ) → 1 ≤ i → i ≤ s.left → In (instance_at s i) (left_of s)
at_left s i low high =
    let turns = (instance_of s.before).turns in
    let steps = take s.before.loops s.steps in
    let same : 0 + i ≡ i = omega arith in
    subst (λ (m : ℕ). In (instance_at s m) (left_of s)) same
    (at_place s.before.statement turns steps 0 turns s.left (first_sums turns steps) i high low)

-- it can be held
pub held_at : (s : Stretch) (i : ℕ) → 1 ≤ i → i ≤ s.left → All IsHeld (left_of s)
    → All (FitsSigned w64) (instance_at s i).turns
held_at s i low high held = (all_in IsHeld (left_of s) (instance_at s i) held (at_left s i low high)).turns

-- how many follow
pub length-following : (n : ℕ) (turns steps : List ℤ) (k : ℕ) → length (following n turns steps k) ≡ k
length-following n turns steps zero = refl
length-following n turns steps (suc k) = ap suc (length-following n (sums turns steps) steps k)

-- how many are left
pub length-left : (s : Stretch) → length (left_of s) ≡ s.left
length-left s =
    length-following s.before.statement (instance_of s.before).turns (take s.before.loops s.steps) s.left

-- a linear part's value some steps on
dot_on : (cs turns steps : List ℤ) (k : ℤ)
    → dot cs (sums turns (multiples k steps)) ≡ dot cs turns +ℤ (k *ℤ dot cs steps)
dot_on cs turns steps k =
    let a = dot_comm cs (sums turns (multiples k steps)) in
    let b = dot-sums turns (multiples k steps) cs in
    let c = dot_comm turns cs in
    let d = dot_comm (multiples k steps) cs in
    let e = dot-multiples_right k cs steps in
    omega (arith, ints, a, b, c, d, e)

-- a form's value some steps on
pub value_on : (f : Affine) (turns steps : List ℤ) (k : ℤ)
    → value_of f (sums turns (multiples k steps)) ≡ value_of f turns +ℤ (k *ℤ dot f.coefficients steps)
value_on f turns steps k = let e = dot_on f.coefficients turns steps k in omega (arith, ints, e)

-- the floor of a greater number is no less
pub floor_rises : (a b d : ℤ) → pos 0 <ℤ d → a ≤ℤ b → floor a d ≤ℤ floor b d
floor_rises a b d h l =
    let below = (floor_is a d h).below in
    floor_greatest b d (floor b d) (floor a d) h (floor_is b d h) (omega (arith, ints, below, l))

-- between two numbers with one floor all have it
pub floor_between : (a b c d : ℤ) → pos 0 <ℤ d → a ≤ℤ b → b ≤ℤ c → floor a d ≡ floor c d → floor b d ≡ floor a d
floor_between a b c d h l m e =
    let low = floor_rises a b d h l in
    let high = floor_rises b c d h m in
    omega (arith, ints, low, high, e)

-- so have all where they fall
floor_turned : (a b c d : ℤ) → pos 0 <ℤ d → b ≤ℤ a → c ≤ℤ b → floor a d ≡ floor c d → floor b d ≡ floor a d
floor_turned a b c d h l m e = floor_between c b a d h m l (sym e) ∙ sym e

-- a number that goes by constant steps has one floor where it has it at both ends
floor_along : (v s d : ℤ) (i k : ℕ) → pos 0 <ℤ d → i ≤ k → floor v d ≡ floor (v +ℤ (pos k *ℤ s)) d
    → floor (v +ℤ (pos i *ℤ s)) d ≡ floor v d
floor_along v s d i k h within e =
    let none : pos 0 ≤ℤ pos i = omega (arith, ints) in
    let to : pos i ≤ℤ pos k = omega (arith, ints, within) in
    let here = v +ℤ (pos i *ℤ s) in
    let last = v +ℤ (pos k *ℤ s) in
    elim (le_or_lt (pos 0) s) [
      | inl up ↦ (let l = mul_not_negative (pos i) s none up in
          let m = mul_le (pos i) (pos k) s to up in
          floor_between v here last d h (omega (arith, ints, l)) (omega (arith, ints, m)) e)
      | inr down ↦ (let falls : s ≤ℤ pos 0 = omega (arith, ints, down) in
          let l = mul_opposite (pos i) s none falls in
          let m = mul_le_turned (pos i) (pos k) s to falls in
          floor_turned v here last d h (omega (arith, ints, l)) (omega (arith, ints, m)) e)
    ]

-- so has a form along a stretch
pub value_along : (f : Affine) (turns steps : List ℤ) (d : ℤ) (i k : ℕ) → pos 0 <ℤ d → i ≤ k
    → floor (value_of f turns) d ≡ floor (value_of f (sums turns (multiples (pos k) steps))) d
    → floor (value_of f turns) d ≡ floor (value_of f (sums turns (multiples (pos i) steps))) d
value_along f turns steps d i k h within e =
    let at : ℕ → ℤ = λ m. floor (value_of f turns +ℤ (pos m *ℤ dot f.coefficients steps)) d in
    let is : (m : ℕ) → floor (value_of f (sums turns (multiples (pos m) steps))) d ≡ at m =
    λ m. ap (λ (z : ℤ). floor z d) (value_on f turns steps (pos m)) in
    sym (is i ∙ floor_along (value_of f turns) (dot f.coefficients steps) d i k h within (e ∙ is k))

-- lists that are one have one head
same_head : {A : Type 0} (x y : A) (xs ys : List A) → x ∷ xs ≡ y ∷ ys → x ≡ y
same_head x y xs ys e = cc

-- and one tail
same_tail : {A : Type 0} (x y : A) (xs ys : List A) → x ∷ xs ≡ y ∷ ys → xs ≡ ys
same_tail x y xs ys e = cc

-- coordinates that are one at both ends are one between
pub coordinates_along : (rows : List TileRow) (turns steps : List ℤ) (d : ℤ) (i k : ℕ) → pos 0 <ℤ d → i ≤ k
    → coordinates d rows turns ≡ coordinates d rows (sums turns (multiples (pos k) steps))
    → coordinates d rows turns ≡ coordinates d rows (sums turns (multiples (pos i) steps))
coordinates_along [] turns steps d i k h within e = refl
coordinates_along (r ∷ rows) turns steps d i k h within e =
    let last = sums turns (multiples (pos k) steps) in
    let a = floor (value_of r.form turns) d in
    let b = floor (value_of r.form last) d in
    let head = same_head a b (coordinates d rows turns) (coordinates d rows last) e in
    let tail = same_tail a b (coordinates d rows turns) (coordinates d rows last) e in
    ap₂ (λ (z : ℤ) (zs : List ℤ). z ∷ zs) (value_along r.form turns steps d i k h within head)
    (coordinates_along rows turns steps d i k h within tail)

-- turns with the same coordinates have the same sum
pub sum_by_coordinates : (d : ℤ) (rows : List TileRow) (turns others : List ℤ)
    → coordinates d rows turns ≡ coordinates d rows others → wave_sum d rows turns ≡ wave_sum d rows others
sum_by_coordinates d [] turns others e = refl
sum_by_coordinates d (r ∷ rows) turns others e =
    let a = floor (value_of r.form turns) d in
    let b = floor (value_of r.form others) d in
    let head = same_head a b (coordinates d rows turns) (coordinates d rows others) e in
    let tail = same_tail a b (coordinates d rows turns) (coordinates d rows others) e in
    ap₂ (λ (z w : ℤ). (if r.carries then z else pos 0) +ℤ w) head (sum_by_coordinates d rows turns others tail)

-- tiles of the code have a size
pub sized : (tiling : code.the_data) → HasSize (tiling_of tiling)
sized code.Kept = tt
sized (code.Tiled size statements) = size.ok

-- a tile that has both ends has all between
pub tile_along : (tiling : Tiling) (n : ℕ) (turns steps : List ℤ) (i k : ℕ) → HasSize tiling → i ≤ k
    → InOneTile tiling (record { number = n; turns = turns }) (steps_on n turns steps k)
    → InOneTile tiling (record { number = n; turns = turns }) (steps_on n turns steps i)
tile_along kept n turns steps i k some within one = record { wave = refl; tile = refl }
tile_along (tiled size statements) n turns steps i k some within one =
    let d = pos size in
    let items = items_at statements n in
    let at : ℕ → List ℤ = λ m. sums turns (multiples (pos m) steps) in
    let up : pos 0 <ℤ d = omega (arith, ints, some) in
    let front = map pos items.leading in
    let same = append_cancel_left front (coordinates d items.band turns) (coordinates d items.band (at k)) one.tile in
    let here = coordinates_along items.band turns steps d i k up within same in
    record {
      wave = ap (λ (z : ℤ). front ++ z ∷ []) (sum_by_coordinates d items.band turns (at i) here);
      tile = ap (λ (zs : List ℤ). front ++ zs) here;
    }

-- what follows an instance has its key where the last has it
following_has_key : (tiling : Tiling) (n : ℕ) (turns steps : List ℤ) (k : ℕ) (key : Key) → HasSize tiling
    → IsKeyOf tiling (record { number = n; turns = turns }) key → IsKeyOf tiling (steps_on n turns steps k) key
    → (y : Instance) → In y (following n turns steps k) → IsKeyOf tiling y key
following_has_key tiling n turns steps k key some front last y h =
    let before : Instance = record { number = n; turns = turns } in
    let (i, low, within, is) = from_place n turns steps 0 turns k (first_sums turns steps) y h in
    let ends = key_tells tiling before (steps_on n turns steps k) key front last in
    let here = tile_along tiling n turns steps i k some (omega (arith, within)) ends in
    subst (λ z. IsKeyOf tiling z key) (sym is) (tells_key tiling before (steps_on n turns steps i) key here front)

-- so has what is left of a stretch
pub stretch_has_key : (tiling : Tiling) (s : Stretch) (key : Key) → HasSize tiling
    → IsKeyOf tiling (instance_of s.before) key → IsKeyOf tiling (instance_at s s.left) key
    → AllHaveKey tiling key s
stretch_has_key tiling s key =
    following_has_key tiling s.before.statement (instance_of s.before).turns (take s.before.loops s.steps) s.left key

-- the first is one step on, and the others are steps behind it
first_on : (k : ℕ) (turns steps : List ℤ)
    → sums turns (multiples (pos (suc k)) steps) ≡ sums (sums turns steps) (multiples (pos k) steps)
first_on k [] [] = refl
first_on k [] (s ∷ steps) =
    let e = one_step_more k s in
    let first : pos (suc k) *ℤ s ≡ s +ℤ (pos k *ℤ s) = omega (arith, ints, e) in
    ap₂ (λ (z : ℤ) (zs : List ℤ). z ∷ zs) first (first_on k [] steps)
first_on k (t ∷ turns) [] = refl
first_on k (t ∷ turns) (s ∷ steps) =
    let e = one_step_more k s in
    let first : t +ℤ (pos (suc k) *ℤ s) ≡ (t +ℤ s) +ℤ (pos k *ℤ s) = omega (arith, ints, e) in
    ap₂ (λ (z : ℤ) (zs : List ℤ). z ∷ zs) first (first_on k turns steps)

-- what follows has a key where its first and its last have it
ends_have_key : (tiling : Tiling) (n : ℕ) (turns steps : List ℤ) (k : ℕ) (key : Key) → HasSize tiling
    → IsKeyOf tiling (steps_on n turns steps 1) key → IsKeyOf tiling (steps_on n turns steps k) key
    → (y : Instance) → In y (following n turns steps k) → IsKeyOf tiling y key
ends_have_key tiling n turns steps zero key some first last y h = absurd h
ends_have_key tiling n turns steps (suc k) key some first last y h =
    let at : List ℤ → Type 0 = λ ts. IsKeyOf tiling (record { number = n; turns = ts }) key in
    let front : at (sums turns steps) = subst at (sym (first_sums turns steps)) first in
    elim h [
      | inl e ↦ subst (λ z. IsKeyOf tiling z key) (sym e) front
      | inr j ↦ following_has_key tiling n (sums turns steps) steps k key some front
          (subst at (first_on k turns steps) last) y j
    ]

-- so has what is left of a stretch
pub strand_has_key : (tiling : Tiling) (s : Stretch) (key : Key) → HasSize tiling
    → IsKeyOf tiling (instance_at s 1) key → IsKeyOf tiling (instance_at s s.left) key → AllHaveKey tiling key s
strand_has_key tiling s key =
    ends_have_key tiling s.before.statement (instance_of s.before).turns (take s.before.loops s.steps) s.left key

-- a number of 64 bits as a signed one
signed_is : (n : ℕ) → n < 2 ^ 64 → cast_signed w64 n ≡ int_wrap w64 (pos n)
unfolding int_wrap
signed_is n h =
    let small : n % 2 ^ 64 ≡ n = omega (arith, h) in
    ap (cast_signed w64) (sym small)

-- a turn some steps on, modulo 2^64, is the turn where that has 64 bits
turn_exact : (t s : ℤ) (n : ℕ) → n < 2 ^ 64 → FitsSigned w64 (t +ℤ (pos n *ℤ s))
    → int_wrap w64 (t +ℤ (s *ℤ cast_signed w64 n)) ≡ t +ℤ (pos n *ℤ s)
turn_exact t s n h fits =
    ap (λ (z : ℤ). int_wrap w64 (t +ℤ (s *ℤ z))) (signed_is n h)
    ∙ (sym (int_wrap-add_right w64 t (s *ℤ int_wrap w64 (pos n)))
    ∙ (ap (λ (z : ℤ). int_wrap w64 (t +ℤ z)) (int_wrap-mul_right w64 s (pos n))
    ∙ (int_wrap-add_right w64 t (s *ℤ pos n)
    ∙ (ap (λ (z : ℤ). int_wrap w64 (t +ℤ z)) (mul_comm_int s (pos n)) ∙ int_wrap_fits w64 (t +ℤ (pos n *ℤ s)) fits))))

-- what the code makes of turn, step and number is the turn so many steps on
pub turn_on : (t s m r : ℤ) (n : ℕ) → n < 2 ^ 64 → FitsSigned w64 t → FitsSigned w64 s → FitsSigned w64 m
    → m ≡ cast_signed w64 n
    → r ≡ int_wrap w64 (to_z w64 (of_z w64 t) +ℤ (to_z w64 (of_z w64 s) *ℤ to_z w64 (of_z w64 m)))
    → FitsSigned w64 (t +ℤ (pos n *ℤ s)) → r ≡ t +ℤ (pos n *ℤ s)
turn_on t s m r n h ft fs fm e is fits =
    let step = ap₂ (λ (x y : ℤ). x *ℤ y) (to_z-of_z w64 s fs) (to_z-of_z w64 m fm ∙ e) in
    is ∙ (ap₂ (λ (x y : ℤ). int_wrap w64 (x +ℤ y)) (to_z-of_z w64 t ft) step ∙ turn_exact t s n h fits)

-- multiples of the first steps
pub take-multiples : (n : ℕ) (k : ℤ) (xs : List ℤ) → take n (multiples k xs) ≡ multiples k (take n xs)
take-multiples zero k xs = refl
take-multiples (suc n) k [] = refl
take-multiples (suc n) k (x ∷ xs) = ap (λ (zs : List ℤ). (k *ℤ x) ∷ zs) (take-multiples n k xs)
