-- Instances of a leaf at the values of the loop round it: each has the same steps more in its turns than the one before
-- it. What a loop that was begun has left.
use Rattle.scop_syntax.proofs.Common.{◌≡◌, ℕ, zero, suc, ◌<◌, ◌≤◌, true, false, ℤ, pos, negsuc, List, [], ◌∷◌, ◌++◌}
use Rattle.scop_syntax.proofs.Common.{length, map, take, get_or, ap, ap₂, sym, ◌∙◌, refl, arith, append-nil, ◌+ℤ◌, ◌-ℤ◌}
use Rattle.scop_syntax.proofs.Common.{◌≤ℤ◌, All, FitsSigned, w64, le_z, ints, All-head, All-tail, Affine, value_of}
use Rattle.scop_syntax.proofs.Common.{values_of, dot, sums, mul_distrib_left, mul_one_right, Instance, most_turns}
use Rattle.scop_syntax.proofs.Common.{instance_of, length-map, length-take}
use Rattle.loop_tree.specs.Tree.{Trees, instance, more, none}
use Rattle.loop_tree.specs.Walk.{along, given, walk_all}
use Rattle.loop_tree.specs.Conditions.{CanWalk, IsHeld}
use Rattle.loop_tree.specs.Spot.{Mark, mark, rest_of, shown_from}
use Rattle.loop_tree.specs.Stretches.{following, left_of}
use Rattle.loop_tree.specs.declared.stretch.Stretch.{Stretch}
use Rattle.loop_tree.specs.steps.Going.{HasGone, rest_from}
use Rattle.loop_tree.specs.steps.Passing.{IsAlone, IsOf, shown_along}
use Rattle.loop_tree.specs.steps.Stepping.{steps_of}
use Rattle.loop_tree.proofs.WalkSteps.{leaf_held, shown_none}

-- a form's value at the next value of a loop
dot_next : (cs outer params : List ℤ) (x : ℤ)
    → dot cs ((outer ++ (x +ℤ pos 1) ∷ []) ++ params)
    ≡ dot cs ((outer ++ x ∷ []) ++ params) +ℤ get_or cs (length outer) (pos 0)
dot_next [] outer params x = refl
dot_next (c ∷ cs) [] params x =
    let d = mul_distrib_left x (pos 1) c in
    let o = mul_one_right c in
    omega (arith, ints, d, o)
dot_next (c ∷ cs) (o ∷ outer) params x = let rest = dot_next cs outer params x in omega (arith, ints)

pub value_next : (f : Affine) (outer params : List ℤ) (x : ℤ)
    → value_of f ((outer ++ (x +ℤ pos 1) ∷ []) ++ params)
    ≡ value_of f ((outer ++ x ∷ []) ++ params) +ℤ get_or f.coefficients (length outer) (pos 0)
value_next f outer params x = let e = dot_next f.coefficients outer params x in omega (arith, ints)

pub values_next : (forms : List Affine) (outer params : List ℤ) (x : ℤ)
    → sums (values_of forms ((outer ++ x ∷ []) ++ params)) (steps_of forms (length outer))
    ≡ values_of forms ((outer ++ (x +ℤ pos 1) ∷ []) ++ params)
values_next [] outer params x = refl
values_next (f ∷ fs) outer params x =
    ap₂ (λ (z : ℤ) (zs : List ℤ). z ∷ zs) (sym (value_next f outer params x)) (values_next fs outer params x)

-- what follows an instance of a leaf is what the leaf shows at the values behind
abbrev pub leaf_at : ℕ → List Affine → List ℤ → List ℤ → ℤ → Instance
leaf_at n forms params outer x = record { number = n; turns = values_of forms ((outer ++ x ∷ []) ++ params) }

pub following_shown : (n : ℕ) (forms : List Affine) (params outer : List ℤ) (x : ℤ) (k : ℕ)
    → following n (values_of forms ((outer ++ x ∷ []) ++ params)) (steps_of forms (length outer)) k
    ≡ map given (along (λ y. walk_all (more (instance n forms) none) params (outer ++ y ∷ [])) (x +ℤ pos 1) k)
following_shown n forms params outer x zero = refl
following_shown n forms params outer x (suc k) =
    let steps = steps_of forms (length outer) in
    ap (λ (ts : List ℤ). record { number = n; turns = ts } ∷ following n ts steps k) (values_next forms outer params x)
    ∙ ap (λ (is : List Instance). leaf_at n forms params outer (x +ℤ pos 1) ∷ is)
    (following_shown n forms params outer (x +ℤ pos 1) k)

-- the first of a stretch, and those behind it
pub first_held : (n : ℕ) (turns steps : List ℤ) (k : ℕ) → 0 < k → All IsHeld (following n turns steps k)
    → All (FitsSigned w64) (sums turns steps)
first_held n turns steps zero some held = absurd (omega arith)
first_held n turns steps (suc k) some held =
    (All-head IsHeld (record { number = n; turns = sums turns steps }) (following n (sums turns steps) steps k)
    held).turns

-- so many values stand behind one
most_turns_are : (z : ℤ) (k : ℕ) → pos k ≡ z +ℤ pos 1 → most_turns z ≡ k
most_turns_are (pos n) k e = omega (arith, ints)
most_turns_are (negsuc n) k e = omega (arith, ints)

-- a loop's instances behind a value, where so many lead to the last
pub shown_up : (body : Trees) (params outer : List ℤ) (x last : ℤ) (k : ℕ) (is : List Instance)
    → pos k ≡ last -ℤ x
    → is ≡ map given (along (λ y. walk_all body params (outer ++ y ∷ [])) (x +ℤ pos 1) k)
    → shown_from body params outer (x +ℤ pos 1) last ≡ is ++ shown_from body params outer (last +ℤ pos 1) last
shown_up body params outer x last k is way shown =
    let count = most_turns_are (last -ℤ (x +ℤ pos 1)) k (omega (arith, ints, way)) in
    ap (λ (n : ℕ). map given (along (λ y. walk_all body params (outer ++ y ∷ [])) (x +ℤ pos 1) n)) count
    ∙ (sym shown
    ∙ (sym (append-nil is)
    ∙ ap (λ (js : List Instance). is ++ js)
    (sym (shown_none body params outer (last +ℤ pos 1) last (omega (arith, ints))))))

-- what is to come of a loop where nothing is left at its value
pub rest_done : (body : Trees) (ms : List Mark) (x last : ℤ) (params outer : List ℤ) → x ≤ℤ last
    → rest_of body ms params (outer ++ x ∷ []) ≡ []
    → rest_from body ms x last params outer ≡ shown_from body params outer (x +ℤ pos 1) last
rest_done body ms x last params outer here done =
    let h : le_z x last ≡ true = grind (arith, ints) in
    rw (h, done) refl

-- sums one by one, of which the first are those of two lists
pub sums_front : (n : ℕ) (rs xs ys : List ℤ) → length rs ≡ length xs → length ys ≡ length xs
    → ((i : ℕ) → i < length xs → FitsSigned w64 (get_or xs i (pos 0) +ℤ get_or ys i (pos 0))
    → get_or rs i (pos 0) ≡ get_or xs i (pos 0) +ℤ get_or ys i (pos 0))
    → All (FitsSigned w64) (sums (take n xs) (take n ys)) → take n rs ≡ sums (take n xs) (take n ys)
sums_front zero rs xs ys a b each fits = refl
sums_front (suc n) [] [] [] a b each fits = refl
sums_front (suc n) (r ∷ rs) (x ∷ xs) (y ∷ ys) a b each fits =
    let others = sums (take n xs) (take n ys) in
    ap₂ (λ (z : ℤ) (zs : List ℤ). z ∷ zs)
    (each 0 (omega arith) (All-head (FitsSigned w64) (x +ℤ y) others fits))
    (sums_front n rs xs ys (omega arith) (omega arith) (λ i h. each (suc i) (omega (arith, h)))
    (All-tail (FitsSigned w64) (x +ℤ y) others fits))
sums_front (suc n) [] (x ∷ xs) ys a b each fits = absurd (omega arith)
sums_front (suc n) [] [] (y ∷ ys) a b each fits = absurd (omega arith)
sums_front (suc n) (r ∷ rs) [] ys a b each fits = absurd (omega arith)
sums_front (suc n) (r ∷ rs) (x ∷ xs) [] a b each fits = absurd (omega arith)

-- what holds at each of five places
pub each_of_five : (P : ℕ → Type 0) → P 0 → P 1 → P 2 → P 3 → P 4 → (i : ℕ) → i < 5 → P i
each_of_five P a b c d e zero h = a
each_of_five P a b c d e (suc zero) h = b
each_of_five P a b c d e (suc (suc zero)) h = c
each_of_five P a b c d e (suc (suc (suc zero))) h = d
each_of_five P a b c d e (suc (suc (suc (suc zero)))) h = e
each_of_five P a b c d e (suc (suc (suc (suc (suc i))))) h = absurd (omega arith)

-- where nothing is left of it
pub nothing_left : (s : Stretch) → s.left ≡ 0 → left_of s ≡ []
nothing_left s empty =
    ap (λ (k : ℕ). following s.before.statement (instance_of s.before).turns (take s.before.loops s.steps) k) empty

-- a leaf that is walked has few turns
pub leaf_few : (n : ℕ) (forms : List Affine) (params outer : List ℤ)
    → CanWalk (more (instance n forms) none) params outer → length forms ≤ 5
leaf_few n forms params outer can =
    let values = length-map forms (λ f. value_of f (outer ++ params)) in
    let few = (leaf_held n forms params outer can).few in omega (arith, values, few)

-- a stretch behind a leaf at a value
pub stretch_is : (s : Stretch) (n : ℕ) (forms told : List Affine) (params outer : List ℤ) (x : ℤ)
    → length s.before.turns ≡ 5 → told ≡ forms
    → instance_of s.before ≡ record { number = n; turns = values_of forms ((outer ++ x ∷ []) ++ params) }
    → take (length told) s.steps ≡ steps_of told (length outer)
    → left_of s ≡ shown_along (more (instance n forms) none) params outer (x +ℤ pos 1) s.left
stretch_is s n forms told params outer x whole same before steps =
    let few = s.before.few in
    let taken = length-take s.before.loops s.before.turns in
    let turns = ap (λ (i : Instance). length i.turns) before in
    let values = length-map forms (λ f. value_of f ((outer ++ x ∷ []) ++ params)) in
    let all = ap (λ (fs : List Affine). length fs) same in
    let loops : s.before.loops ≡ length told = omega (arith, few, taken, turns, values, whole, all) in
    ap₂ (λ (i : Instance) (ds : List ℤ). following i.number i.turns ds s.left) before
    (ap (λ (k : ℕ). take k s.steps) loops ∙ steps)
    ∙ (ap (λ (fs : List Affine). following n (values_of forms ((outer ++ x ∷ []) ++ params))
    (steps_of fs (length outer)) s.left) same
    ∙ following_shown n forms params outer x s.left)

-- what was found of one leaf alone is its instance
first_of_leaf : (n : ℕ) (forms : List Affine) (ms : List Mark) (i : Instance) (is : List Instance)
    (params outer : List ℤ) → rest_of (more (instance n forms) none) ms params outer ≡ i ∷ is
    → IsOf n forms i params outer
first_of_leaf n forms [] i is params outer e =
    let l = ap (λ (js : List Instance). length js) e in absurd (omega (arith, l))
first_of_leaf n forms (mark zero false x z ∷ ms) i is params outer e =
    sym (ap (λ (js : List Instance). get_or js 0 i) e)
first_of_leaf n forms (mark zero true x z ∷ ms) i is params outer e =
    let l = ap (λ (js : List Instance). length js) e in absurd (omega (arith, l))
first_of_leaf n forms (mark (suc k) begun x z ∷ ms) i is params outer e =
    let l = ap (λ (js : List Instance). length js) e in absurd (omega (arith, l))

pub found_alone : (ts : Trees) (ms new : List Mark) (i : Instance) (is : List Instance) (params outer : List ℤ)
    → HasGone ts ms new (i ∷ is) params outer → IsAlone ts i params outer
found_alone ts ms new i is params outer gone = λ n forms alone.
    first_of_leaf n forms ms i (is ++ rest_of ts new params outer) params outer
    (ap (λ (us : Trees). rest_of us ms params outer) (sym alone) ∙ gone.rest)
