-- What stays true along the items of a row and along the turns of a loop, as they are checked.
use Rattle.scop_syntax.proofs.Common.{◌≡◌, ℕ, suc, ◌+◌, ◌-◌, ◌<◌, Bool, true, false, List, [], ◌∷◌, ◌++◌, length, drop}
use Rattle.scop_syntax.proofs.Common.{map, get_or, Some, None, ap, ap₂, subst, sym, ◌∙◌, refl, arith, add-one}
use Rattle.scop_syntax.proofs.Common.{drop-cons, ℤ, pos, slice_get, if◌then◌else◌, flat_map, range_with_len}
use Rattle.scop_syntax.proofs.Common.{map-append, Access, Head, Tree, loop, Trees, none, more, items_of, condition_at}
use Rattle.scop_syntax.proofs.Common.{turn_point, RunsFor, Visit, statements_in, accesses, values, Failure, IsHead}
use Rattle.scop_syntax.proofs.Common.{condition_falls, get_or_from_slice_get, loop_turns, slice_get_within}
use Rattle.std.proofs.lemmas.Grind.{flat_map-append}
use Rattle.scop_syntax.specs.declared.tree.Item.{Item}
use Rattle.scop_syntax.specs.Walk.{within, walk, walk_all}
use Rattle.scop_syntax.specs.Failures.{is_within, outside_dimensions, outside_accesses, failures}
use Rattle.scop_meaning.specs.declared.index.Outside.{Outside}
use Rattle.scop_meaning.specs.steps.Conditions.{CanCheck, first_of}
use Rattle.scop_meaning.specs.Outside.{outside_of}
use Rattle.scop_meaning.proofs.WalkSteps.{walk_first, walk_rest, walk_turn}

-- the first of two lists one behind the other
pub first_here : (xs ys : List Failure) (o : Outside) → Some o ≡ first_of xs → Some o ≡ first_of (xs ++ ys)
first_here [] ys o h = absurd cc
first_here (x ∷ xs) ys o h = h

pub first_behind : (xs ys : List Failure) → None ≡ first_of xs → first_of (xs ++ ys) ≡ first_of ys
first_behind [] ys h = refl
first_behind (x ∷ xs) ys h = absurd cc

-- a dimension that passes, and one that fails
dimension_step : (v : Visit) (a i : ℕ) (ss : List ℤ) (es : List ℕ) → i < length ss → i < length es
    → outside_dimensions v a i (drop i ss) (drop i es)
    ≡ (if is_within (get_or ss i (pos 0)) (get_or es i 0)
    then outside_dimensions v a (i + 1) (drop (i + 1) ss) (drop (i + 1) es)
    else record { visit = v; access = a; dimension = i; value = get_or ss i (pos 0); extent = get_or es i 0 }
    ∷ outside_dimensions v a (i + 1) (drop (i + 1) ss) (drop (i + 1) es))
dimension_step v a i ss es h k = rw (drop-cons ss i (pos 0), drop-cons es i 0, add-one) refl

pub dimension_passes : (v : Visit) (a i : ℕ) (ss : List ℤ) (es : List ℕ) → i < length ss → i < length es
    → is_within (get_or ss i (pos 0)) (get_or es i 0) ≡ true
    → outside_dimensions v a i (drop i ss) (drop i es)
    ≡ outside_dimensions v a (i + 1) (drop (i + 1) ss) (drop (i + 1) es)
dimension_passes v a i ss es h k inside = dimension_step v a i ss es h k ∙ rw inside refl

pub dimension_fails : (v : Visit) (a i : ℕ) (ss : List ℤ) (es : List ℕ) → i < length ss → i < length es
    → is_within (get_or ss i (pos 0)) (get_or es i 0) ≡ false
    → first_of (outside_dimensions v a i (drop i ss) (drop i es))
    ≡ Some (record {
      stmt = v.number + 1;
      access = a;
      dim = i + 1;
      value = get_or ss i (pos 0);
      extent = get_or es
          i 0;
    })
dimension_fails v a i ss es h k outside = ap first_of (dimension_step v a i ss es h k) ∙ rw outside refl

-- the accesses from one on are that one and those behind it
pub accesses_from : (es : List (List ℕ)) (v : Visit) (a : ℕ) (fs : List Access) (f : Access) → slice_get fs a ≡ Some f
    → outside_accesses es v a (drop a fs)
    ≡ outside_dimensions v a 0 (values f.subscripts v.point) (get_or es f.array [])
    ++ outside_accesses es v (a + 1) (drop (a + 1) fs)
accesses_from es v a fs f at =
    rw (drop-cons fs a f (slice_get_within fs a f at), get_or_from_slice_get fs a f f at, add-one a) refl

same_if : (b : Bool) (xs ys : List Failure) (f g : Failure) → map outside_of xs ≡ map outside_of ys → outside_of f
    ≡ outside_of g
    → map outside_of (if b then xs else f ∷ xs) ≡ map outside_of (if b then ys else g ∷ ys)
same_if true xs ys f g p q = p
same_if false xs ys f g p q = ap₂ (λ (o : Outside) (os : List Outside). o ∷ os) q p

-- only the statement's number of a visit stands in the answer
same_dimensions : (v w : Visit) (a d : ℕ) (ss : List ℤ) (es : List ℕ) → v.number ≡ w.number
    → map outside_of (outside_dimensions v a d ss es) ≡ map outside_of (outside_dimensions w a d ss es)
same_dimensions v w a d [] es n = refl
same_dimensions v w a d (s ∷ ss) [] n = refl
same_dimensions v w a d (s ∷ ss) (e ∷ es) n =
    let told : ℕ → Outside = λ k. record { stmt = k + 1; access = a; dim = d + 1; value = s; extent = e } in
    same_if (is_within s e) (outside_dimensions v a (d + 1) ss es) (outside_dimensions w a (d + 1) ss es)
    (record { visit = v; access = a; dimension = d; value = s; extent = e })
    (record { visit = w; access = a; dimension = d; value = s; extent = e })
    (same_dimensions v w a (d + 1) ss es n) (ap told n)

same_accesses : (es : List (List ℕ)) (n : ℕ) (x : ℤ) (v : Visit) (a : ℕ) (fs : List Access)
    → map outside_of (outside_accesses es (within n x v) a fs) ≡ map outside_of (outside_accesses es v a fs)
same_accesses es n x v a [] = refl
same_accesses es n x v a (f ∷ fs) =
    let ss = values f.subscripts v.point in
    let sizes = get_or es f.array [] in
    let w = within n x v in
    map-append outside_of (outside_dimensions w a 0 ss sizes) (outside_accesses es w (a + 1) fs)
    ∙ (ap₂ (λ (p q : List Outside). p ++ q) (same_dimensions w v a 0 ss sizes refl) (same_accesses es n x v (a + 1) fs)
    ∙ sym (map-append outside_of (outside_dimensions v a 0 ss sizes) (outside_accesses es v (a + 1) fs)))

same_failures : (es : List (List ℕ)) (n : ℕ) (x : ℤ) (vs : List Visit)
    → map outside_of (failures es (map (within n x) vs)) ≡ map outside_of (failures es vs)
same_failures es n x [] = refl
same_failures es n x (v ∷ vs) =
    let w = within n x v in
    map-append outside_of (outside_accesses es w 0 (accesses v.body)) (failures es (map (within n x) vs))
    ∙ (ap₂ (λ (p q : List Outside). p ++ q) (same_accesses es n x v 0 (accesses v.body)) (same_failures es n x vs)
    ∙ sym (map-append outside_of (outside_accesses es v 0 (accesses v.body)) (failures es vs)))

first_is : (xs : List Failure) → first_of xs ≡ slice_get (map outside_of xs) 0
first_is [] = refl
first_is (x ∷ xs) = refl

-- so a turn's first failure is that of its body
pub first_within : (es : List (List ℕ)) (n : ℕ) (x : ℤ) (vs : List Visit)
    → first_of (failures es (map (within n x) vs)) ≡ first_of (failures es vs)
first_within es n x vs =
    first_is (failures es (map (within n x) vs))
    ∙ (ap (λ os. slice_get os 0) (same_failures es n x vs) ∙ sym (first_is (failures es vs)))

pub failures-append : (es : List (List ℕ)) (xs ys : List Visit)
    → failures es (xs ++ ys) ≡ failures es xs ++ failures es ys
failures-append es xs ys = flat_map-append (λ (v : Visit). outside_accesses es v 0 (accesses v.body)) xs ys

pub check_first : (room : ℕ) (es : List (List ℕ)) (t : Tree) (ts : Trees) (n : ℕ) (point : List ℤ)
    → CanCheck room es (more t ts) n point
    → CanCheck room es (more t none) n point
check_first room es t ts n point c = let f = c.few in record
    { walks = walk_first room (map length es) t ts point c.walks; few = omega arith }

check_rest : (room : ℕ) (es : List (List ℕ)) (t : Tree) (ts : Trees) (n : ℕ) (point : List ℤ)
    → CanCheck room es (more t ts) n point
    → CanCheck room es ts (n + statements_in t) point
check_rest room es t ts n point c = let f = c.few in record
    { walks = walk_rest room (map length es) t ts point c.walks; few = omega arith }

-- items before i have no failure
pub record ItemsChecked (room : ℕ) (es : List (List ℕ)) (items : List Item) (i start number : ℕ)
    (at point : List ℤ) : Type 0 where
  pub same : point ≡ at
  pub can : CanCheck room es (items_of (drop i items)) number point
  pub rest :
      first_of (failures es (walk_all (items_of (drop i items)) number point))
      ≡ first_of (failures es (walk_all (items_of items) start at))

pub item_found : (room : ℕ) (es : List (List ℕ)) (items : List Item) (i start number : ℕ) (at point : List ℤ)
    (t : Tree) (o : Outside)
    → ItemsChecked room es items i start number at point → items_of (drop i items)
    ≡ more t (items_of (drop (i + 1) items))
    → Some o ≡ first_of (failures es (walk t number point)) → Some o
    ≡ first_of (failures es (walk_all (items_of items) start at))
item_found room es items i start number at point t o c here found =
    let rest = items_of (drop (i + 1) items) in
    let xs = walk t number point in
    let ys = walk_all rest (number + statements_in t) point in
    first_here (failures es xs) (failures es ys) o found
    ∙ (ap first_of (sym (failures-append es xs ys))
    ∙ (ap (λ (ts : Trees). first_of (failures es (walk_all ts number point))) (sym here) ∙ c.rest))

pub item_passes : (room : ℕ) (es : List (List ℕ)) (items : List Item) (i start number : ℕ)
    (at point after : List ℤ) (t : Tree)
    → ItemsChecked room es items i start number at point → items_of (drop i items)
    ≡ more t (items_of (drop (i + 1) items))
    → None ≡ first_of (failures es (walk t number point)) → after ≡ point
    → ItemsChecked room es items (i + 1) start (number + statements_in t) at after
item_passes room es items i start number at point after t c here found stays =
    let rest = items_of (drop (i + 1) items) in
    let xs = walk t number point in
    let ys = walk_all rest (number + statements_in t) point in
    let can : CanCheck room es (more t rest) number point = subst
    (λ (ts : Trees). CanCheck room es ts number point) here c.can in
    subst (λ (x : List ℤ). ItemsChecked room es items (i + 1) start (number + statements_in t) at x) (sym stays)
    (record {
      same = c.same;
      can = check_rest room es t rest number point can;
      rest = sym (first_behind (failures es xs) (failures es ys) found)
          ∙ (ap first_of (sym (failures-append es xs ys))
          ∙ (ap (λ (ts : Trees). first_of (failures es (walk_all ts number point))) (sym here) ∙ c.rest));
    })

-- the visits of n turns of a loop from turn k on
abbrev pub turn_visits : Head → Trees → ℕ → List ℤ → ℕ → ℕ → List Visit
turn_visits head body number point k n =
    flat_map (λ j. map (within number (pos j)) (walk_all body number (turn_point head point (pos j))))
    (range_with_len k n)

-- turns before k have no failure
pub record TurnsChecked (es : List (List ℕ)) (head : Head) (body : Trees) (m k number : ℕ) (at point : List ℤ) :
    Type 0 where
  pub same : point ≡ at
  pub rest : first_of (failures es (turn_visits head body number at k (m - k)))
      ≡ first_of (failures es (walk (loop head body) number at))

pub turns_first : (room : ℕ) (es : List (List ℕ)) (head : Head) (body : Trees) (m number : ℕ) (at point : List ℤ)
    → CanCheck room es (more (loop head body) none) number at → RunsFor (λ j. condition_at head at (pos j)) m
    → point ≡ at
    → TurnsChecked es head body m 0 number at point
turns_first room es head body m number at point c runs same =
    let is : IsHead (length at) head = c.walks.formed.0.1 in
    let bodies : ℕ → List Visit = λ j. map (within number (pos j))
    (walk_all body number (turn_point head at (pos j))) in
    let all = loop_turns (λ k. condition_at head at (pos k)) bodies m (condition_falls head at is) runs in
    let z : m - 0 ≡ m = omega arith in
    record {
      same = same;
      rest = ap (λ n. first_of (failures es (turn_visits head body number at 0 n))) z
          ∙ ap (λ (vs : List Visit). first_of (failures es vs)) (sym all);
    }

split_turns : (es : List (List ℕ)) (head : Head) (body : Trees) (m k number : ℕ) (at : List ℤ) → k < m
    → failures es (turn_visits head body number at k (m - k))
    ≡ failures es (map (within number (pos k)) (walk_all body number (turn_point head at (pos k))))
    ++ failures es (turn_visits head body number at (k + 1) (m - (k + 1)))
split_turns es head body m k number at h =
    let e : m - k ≡ suc (m - (k + 1)) = omega arith in
    ap (λ n. failures es (turn_visits head body number at k n)) e
    ∙ failures-append es (map (within number (pos k)) (walk_all body number (turn_point head at (pos k))))
    (turn_visits head body number at (k + 1) (m - (k + 1)))

pub turn_found : (es : List (List ℕ)) (head : Head) (body : Trees) (m k number : ℕ) (at point : List ℤ)
    (o : Outside) → k < m
    → TurnsChecked es head body m k number at point
    → Some o ≡ first_of (failures es (walk_all body number (turn_point head point (pos k))))
    → Some o ≡ first_of (failures es (walk (loop head body) number at))
turn_found es head body m k number at point o h c found =
    let here = walk_all body number (turn_point head at (pos k)) in
    let f = found ∙ ap (λ (x : List ℤ). first_of (failures es (walk_all body number (turn_point head x (pos k)))))
    c.same in
    let g = f ∙ sym (first_within es number (pos k) here) in
    first_here (failures es (map (within number (pos k)) here))
    (failures es (turn_visits head body number at (k + 1) (m - (k + 1)))) o g
    ∙ (ap first_of (sym (split_turns es head body m k number at h)) ∙ c.rest)

pub turn_passes : (es : List (List ℕ)) (head : Head) (body : Trees) (m k number : ℕ) (at point after : List ℤ) → k < m
    → TurnsChecked es head body m k number at point
    → None ≡ first_of (failures es (walk_all body number (turn_point head point (pos k)))) → after ≡ point
    → TurnsChecked es head body m (k + 1) number at after
turn_passes es head body m k number at point after h c found stays =
    let here = walk_all body number (turn_point head at (pos k)) in
    let f = found ∙ ap (λ (x : List ℤ). first_of (failures es (walk_all body number (turn_point head x (pos k)))))
    c.same in
    let g = f ∙ sym (first_within es number (pos k) here) in
    record {
      same = stays ∙ c.same;
      rest = sym (first_behind (failures es (map (within number (pos k)) here))
          (failures es (turn_visits head body number at (k + 1) (m - (k + 1)))) g)
          ∙ (ap first_of (sym (split_turns es head body m k number at h)) ∙ c.rest);
    }

-- the body of a turn can be checked
pub check_turn : (room : ℕ) (es : List (List ℕ)) (head : Head) (body : Trees) (m k number : ℕ) (at point : List ℤ)
    → CanCheck room es (more (loop head body) none) number at → RunsFor (λ j. condition_at head at (pos j)) m
    → k < m → point ≡ at
    → CanCheck room es body number (turn_point head point (pos k))
check_turn room es head body m k number at point c runs h same =
    let f = c.few in
    subst (λ (x : List ℤ). CanCheck room es body number (turn_point head x (pos k))) (sym same)
    (record { walks = walk_turn room (map length es) head body at m k c.walks runs h; few = omega arith })
