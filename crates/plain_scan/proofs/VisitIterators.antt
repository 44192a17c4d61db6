-- Visits give the iterators of their points: leaves do, and so does a loop round what does.
use Rattle.scop_syntax.proofs.Common.{◌≡◌, ℕ, zero, suc, ◌+◌, ◌<◌, Bool, ℤ, pos, List, [], ◌∷◌, ◌++◌, length, get_or}
use Rattle.scop_syntax.proofs.Common.{inl, inr, map, take, drop, refl, sym, ◌∙◌, ap, ap₂, subst, All, arith}
use Rattle.scop_syntax.proofs.Common.{length-append, ◌≤◌, ◌+ℤ◌, ◌*ℤ◌, ints, All-head, All-tail, value_of, values_of}
use Rattle.scop_syntax.proofs.Common.{mul_one_left, In, in_append, in_map_from, in_if_from}
use Rattle.std.proofs.lemmas.List.{append-nil}
use Rattle.integer_sets.specs.Constraints.{variables_in}
use Rattle.integer_sets.specs.Scanned.{Scanned, iterators_at}
use Rattle.fm_projection.specs.Alone.{place_form}
use Rattle.fm_projection.proofs.Ranges.{place_value}
use Rattle.fm_projection.proofs.WholePoints.{one_more}
use Rattle.loop_tree.specs.Tree.{Bounds, Test, Tree, Trees, instance, loop, more, none}
use Rattle.loop_tree.specs.Walk.{Visit, all_hold, lower, through, upper, walk, walk_all}
use Rattle.loop_tree.proofs.Lists.{in_between_from}
use Rattle.plain_scan.specs.Sets.{leaves, place_forms, tests_of, turn_forms, under, HasIterators}
use Rattle.plain_scan.specs.Hulls.{own_leaf}
use Rattle.plain_scan.specs.steps.Giving.{Gives, TurnsOn}

-- forms of places give the entries there
front_entry : (outer params : List ℤ) (i : ℕ) → i < length outer
    → get_or (outer ++ params) i (pos 0) ≡ get_or outer i (pos 0)
front_entry [] params i inside = absurd (omega (arith, inside))
front_entry (x ∷ outer) params zero inside = refl
front_entry (x ∷ outer) params (suc i) inside = front_entry outer params i (omega (arith, inside))

next_entry : (m : ℕ) (xs : List ℤ) (i : ℕ) → i < length xs
    → get_or xs i (pos 0) ∷ take m (drop (suc i) xs) ≡ take (suc m) (drop i xs)
next_entry m [] i inside = absurd (omega (arith, inside))
next_entry m (x ∷ xs) zero inside = refl
next_entry m (x ∷ xs) (suc i) inside = next_entry m xs i (omega (arith, inside))

places_value : (n i m : ℕ) (outer params : List ℤ) → i + m ≤ length outer → length outer ≤ n
    → values_of (place_forms n i m) (outer ++ params) ≡ take m (drop i outer)
places_value n i zero outer params few all = refl
places_value n i (suc m) outer params few all =
    let v = place_value n i (pos 1) (pos 0) (outer ++ params) (omega (arith, few, all)) in
    let e = front_entry outer params i (omega (arith, few)) in
    let o = mul_one_left (get_or outer i (pos 0)) in
    let first : value_of (place_form n i (pos 1) (pos 0)) (outer ++ params) ≡ get_or outer i (pos 0) =
    v ∙ ap (λ z. (pos 1 *ℤ z) +ℤ pos 0) e
    ∙ (let q : (pos 1 *ℤ get_or outer i (pos 0)) +ℤ pos 0 ≡ get_or outer i (pos 0) = omega (arith, ints, o) in q) in
    ap₂ (λ (z : ℤ) (zs : List ℤ). z ∷ zs) first (places_value n (suc i) m outer params (omega (arith, few)) all)
    ∙ next_entry m outer i (omega (arith, few))

-- a visit under tests is one without them
in_under : (tests : List Test) (t : Tree) (params outer : List ℤ) (v : Visit) → In v (walk (under tests t) params outer)
    → In v (walk t params outer)
in_under [] t params outer v h = h
in_under (test ∷ tests) t params outer v h =
    let e = in_if_from (all_hold (test ∷ tests) (outer ++ params)) v (walk t params outer ++ []) h in
    elim (in_append v (walk t params outer) [] e.1) [
      | inl k ↦ k
      | inr k ↦ absurd k
    ]

-- leaves
leaf_gives : (m : ℕ) (s : Scanned) (all : List Scanned) (params outer : List ℤ) → HasIterators m s → length outer ≡ m
    → In s all → (v : Visit) → In v (walk (instance s.statement (turn_forms s)) params outer) → Gives all outer v
leaf_gives m s all params outer has size inside v (inr h) = absurd h
leaf_gives m s all params outer has size inside v (inl e) =
    let few = has.0 in
    let wide = has.1 in
    let value = places_value (variables_in s.system) s.first s.iterators outer params (omega (arith, few, size))
    (omega (arith, wide, size)) in
    let turns : v.turns ≡ iterators_at s (outer ++ v.values) =
    subst (λ (w : Visit). w.turns ≡ iterators_at s (outer ++ w.values)) (sym e)
    (value ∙ ap (λ (zs : List ℤ). take s.iterators (drop s.first zs)) (sym (append-nil outer))) in
    (s, inside, ap (λ (w : Visit). w.number) (sym e), turns)

in_leaves : (sets all : List Scanned) (m : ℕ) (params outer : List ℤ) → All (HasIterators m) sets → length outer ≡ m
    → ((s : Scanned) → In s sets → In s all) → (v : Visit) → In v (walk_all (leaves (map own_leaf sets)) params outer)
    → Gives all outer v
in_leaves [] all m params outer has size inside v h = absurd h
in_leaves (s ∷ sets) all m params outer has size inside v h =
    let t = instance s.statement (turn_forms s) in
    let rest = walk_all (leaves (map own_leaf sets)) params outer in
    elim (in_append v (walk (under (tests_of s) t) params outer) rest h) [
      | inl k ↦
          leaf_gives m s all params outer (All-head (HasIterators m) s sets has) size (inside s (inl refl)) v
          (in_under (tests_of s) t params outer v k)
      | inr k ↦
          in_leaves sets all m params outer (All-tail (HasIterators m) s sets has) size (λ q i. inside q (inr i)) v k
    ]

pub leaves_give : (sets : List Scanned) (m : ℕ) → All (HasIterators m) sets
    → TurnsOn m sets (leaves (map own_leaf sets))
leaves_give sets m has params outer size v h = in_leaves sets sets m params outer has size (λ s i. i) v h

-- a loop round what gives them
pub loop_gives : (m : ℕ) (sets : List Scanned) (flag : Bool) (lo up : Bounds) (body : Trees) → TurnsOn (suc m) sets body
    → TurnsOn m sets (more (loop flag lo up body) none)
loop_gives m sets flag lo up body turns params outer size v h =
    elim (in_append v (walk (loop flag lo up body) params outer) [] h) [
      | inl k ↦ in_loop k
      | inr k ↦ absurd k
    ]
  where
    in_loop : In v (walk (loop flag lo up body) params outer) → Gives sets outer v
    in_loop k =
        let r = in_between_from (λ x. map (through flag x) (walk_all body params (outer ++ x ∷ []))) v
        (lower lo (outer ++ params)) (upper up (outer ++ params)) k in
        let w = in_map_from (through flag r.0) v (walk_all body params (outer ++ r.0 ∷ [])) r.3 in
        let longer : length (outer ++ r.0 ∷ []) ≡ suc m = omega (arith, length-append outer (r.0 ∷ []), size) in
        let g = turns params (outer ++ r.0 ∷ []) longer w.0 w.1 in
        subst (Gives sets outer) (sym w.2)
        (g.0, g.1, g.2, g.3 ∙ ap (iterators_at g.0) (one_more outer r.0 w.0.values))
