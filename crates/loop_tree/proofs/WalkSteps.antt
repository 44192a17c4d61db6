-- What stays true along nodes and along a loop's values, as they are walked.
use Rattle.scop_syntax.proofs.Common.{◌≡◌, ℕ, zero, suc, ◌+◌, ◌<◌, Bool, true, ℤ, pos, negsuc, List, [], ◌∷◌, ◌++◌}
use Rattle.scop_syntax.proofs.Common.{length, drop, get_or, map, ap, ap₂, subst, sym, ◌∙◌, refl, arith, append-nil, inl}
use Rattle.scop_syntax.proofs.Common.{◌+ℤ◌, ◌-ℤ◌, ◌≤ℤ◌, ◌<ℤ◌, All, FitsSigned, w64, All-head, All-tail, ints}
use Rattle.scop_syntax.proofs.Common.{map-append, Affine, value_of, values_of, In, Instance, most_turns, in_front}
use Rattle.scop_syntax.proofs.Common.{in_back, in_map, in_if}
use Rattle.std.proofs.lemmas.List.{append_assoc}
use Rattle.loop_tree.specs.Tree.{Bounds, Test, Tree, loop, guard, instance, Trees, none, more}
use Rattle.loop_tree.specs.Walk.{lower, upper, all_hold, Visit, through, along, between, walk, walk_all, given}
use Rattle.loop_tree.specs.Fits.{FormFits, FormsFit}
use Rattle.loop_tree.specs.Conditions.{IsHeld, CanWalk}
use Rattle.loop_tree.specs.View.{tree_of, nodes_of}
use Rattle.loop_tree.specs.declared.tree.Node.{Node}
use Rattle.loop_tree.proofs.Lists.{in_between, between_none}
use Rattle.loop_tree.proofs.Sources.{given_through}
use Rattle.loop_tree.proofs.Weights.{node_here}

-- what trees need, their parts need
pub walk_first : (t : Tree) (ts : Trees) (params outer : List ℤ) → CanWalk (more t ts) params outer
    → CanWalk (more t none) params outer
walk_first t ts params outer c =
    record {
      flat = (c.flat.0, tt);
      fits = (c.fits.0, tt);
      held = λ v h. c.held v (in_front v (walk t params outer) (walk_all ts params outer)
          (subst (In v) (append-nil (walk t params outer)) h));
    }

pub walk_rest : (t : Tree) (ts : Trees) (params outer : List ℤ) → CanWalk (more t ts) params outer
    → CanWalk ts params outer
walk_rest t ts params outer c =
    record {
      flat = c.flat.1;
      fits = c.fits.1;
      held = λ v h. c.held v (in_back v (walk t params outer) (walk_all ts params outer) h);
    }

alone : (t : Tree) (params outer : List ℤ) (v : Visit) → In v (walk t params outer)
    → In v (walk_all (more t none) params outer)
alone t params outer v h = in_front v (walk t params outer) [] h

pub walk_turn : (flag : Bool) (lo up : Bounds) (body : Trees) (params outer : List ℤ) (x : ℤ)
    → CanWalk (more (loop flag lo up body) none) params outer → lower lo (outer ++ params) ≤ℤ x
    → x ≤ℤ upper up (outer ++ params) → CanWalk body params (outer ++ x ∷ [])
walk_turn flag lo up body params outer x c low high =
    let ws : ℤ → List Visit = λ y. map (through flag y) (walk_all body params (outer ++ y ∷ [])) in
    record {
      flat = c.flat.0.2;
      fits = (c.fits.0.2 x (low, high)).1;
      held = λ v h. c.held (through flag x v) (alone (loop flag lo up body) params outer (through flag x v)
          (in_between ws (through flag x v) (lower lo (outer ++ params)) (upper up (outer ++ params)) x low high
          (in_map (through flag x) v (walk_all body params (outer ++ x ∷ [])) h)));
    }

pub walk_guarded : (tests : List Test) (body : Trees) (params outer : List ℤ)
    → CanWalk (more (guard tests body) none) params outer → all_hold tests (outer ++ params) ≡ true
    → CanWalk body params outer
walk_guarded [] body params outer c holds = absurd c.flat.0
walk_guarded (test ∷ tests) body params outer c holds =
    record {
      flat = c.flat.0.1;
      fits = c.fits.0.1 holds;
      held = λ v h. c.held v (alone (guard (test ∷ tests) body) params outer v
          (in_if (all_hold (test ∷ tests) (outer ++ params)) v (walk_all body params outer) holds h));
    }

pub leaf_held : (n : ℕ) (forms : List Affine) (params outer : List ℤ)
    → CanWalk (more (instance n forms) none) params outer
    → IsHeld (record { number = n; turns = values_of forms (outer ++ params) })
leaf_held n forms params outer c =
    c.held (record { values = []; parallel = []; number = n; turns = values_of forms (outer ++ params) }) (inl refl)

-- a visitor that stood for k stands for what is done; with the rest that is the whole behind k
abbrev pub SoFar : (List Instance → Type 0) → (List Instance → Type 0) → List Instance → List Instance → Type 0
SoFar S T rest whole = (k : List Instance) → S k → (done : List Instance) × (done ++ rest ≡ k ++ whole) × T done

pub so_far_step : (S T U : List Instance → Type 0) (all first rest whole : List Instance) → SoFar S T all whole
    → all ≡ first ++ rest → ((l : List Instance) → T l → U (l ++ first)) → SoFar S U rest whole
so_far_step S T U all first rest whole h is step = λ k s.
    let r = h k s in
    (r.0 ++ first, append_assoc r.0 first rest ∙ (ap (λ (xs : List Instance). r.0 ++ xs) (sym is) ∙ r.1), step r.0 r.2)

pub so_far_ends : (S T : List Instance → Type 0) (rest whole : List Instance) → SoFar S T rest whole → rest ≡ []
    → (k : List Instance) → S k → T (k ++ whole)
so_far_ends S T rest whole h is k s =
    let r = h k s in
    subst T (sym (append-nil r.0) ∙ (ap (λ (xs : List Instance). r.0 ++ xs) (sym is) ∙ r.1)) r.2

-- the instances of nodes
abbrev pub shown_by : List Node → List ℤ → List ℤ → List Instance
shown_by nodes params outer = map given (walk_all (nodes_of nodes) params outer)

pub shown_here : (nodes : List Node) (i : ℕ) (node : Node) (params outer : List ℤ) → node ≡ get_or nodes i node
    → i < length nodes
    → shown_by (drop i nodes) params outer
    ≡ map given (walk (tree_of node) params outer) ++ shown_by (drop (i + 1) nodes) params outer
shown_here nodes i node params outer found h =
    ap (λ (ts : Trees). map given (walk_all ts params outer)) (node_here nodes i node found h)
    ∙ map-append given (walk (tree_of node) params outer) (walk_all (nodes_of (drop (i + 1) nodes)) params outer)

-- the instances of a body within a loop's values from x on
abbrev pub turns_shown : Trees → List ℤ → List ℤ → ℤ → ℤ → List Instance
turns_shown body params outer x last =
    map given (between (λ y. walk_all body params (outer ++ y ∷ [])) x last)

along_through : (flag : Bool) (body : Trees) (params outer : List ℤ) (n : ℕ) (x : ℤ)
    → map given (along (λ y. map (through flag y) (walk_all body params (outer ++ y ∷ []))) x n)
    ≡ map given (along (λ y. walk_all body params (outer ++ y ∷ [])) x n)
along_through flag body params outer zero x = refl
along_through flag body params outer (suc n) x =
    let vs = walk_all body params (outer ++ x ∷ []) in
    let ws : ℤ → List Visit = λ y. map (through flag y) (walk_all body params (outer ++ y ∷ [])) in
    let us : ℤ → List Visit = λ y. walk_all body params (outer ++ y ∷ []) in
    map-append given (ws x) (along ws (x +ℤ pos 1) n)
    ∙ (ap₂ (λ (is js : List Instance). is ++ js) (given_through flag x vs)
    (along_through flag body params outer n (x +ℤ pos 1))
    ∙ sym (map-append given (us x) (along us (x +ℤ pos 1) n)))

-- a loop's instances are those
pub loop_shown : (flag : Bool) (lo up : Bounds) (body : Trees) (params outer : List ℤ)
    → map given (walk (loop flag lo up body) params outer)
    ≡ turns_shown body params outer (lower lo (outer ++ params)) (upper up (outer ++ params))
loop_shown flag lo up body params outer =
    along_through flag body params outer
    (most_turns (upper up (outer ++ params) -ℤ lower lo (outer ++ params))) (lower lo (outer ++ params))

between_more : {A : Type 0} (ws : ℤ → List A) (x last : ℤ) → x ≤ℤ last
    → between ws x last ≡ ws x ++ between ws (x +ℤ pos 1) last
between_more ws x last h = by_count (last -ℤ x) (last -ℤ (x +ℤ pos 1)) (omega (arith, ints)) (omega (arith, ints))
  where
    by_count : (z w : ℤ) → z ≡ w +ℤ pos 1 → pos 0 ≤ℤ z
        → along ws x (most_turns z)
        ≡ ws x ++ along ws (x +ℤ pos 1) (most_turns w)
    by_count (negsuc n) w e up = absurd (omega (arith, ints))
    by_count (pos zero) (pos m) e up = absurd (omega (arith, ints))
    by_count (pos zero) (negsuc m) e up = refl
    by_count (pos (suc n)) (negsuc m) e up = absurd (omega (arith, ints))
    by_count (pos (suc n)) (pos m) e up =
        let same : suc n ≡ suc m = omega (arith, ints) in
        ap (λ (k : ℕ). ws x ++ along ws (x +ℤ pos 1) k) same

pub shown_turn : (body : Trees) (params outer : List ℤ) (x last : ℤ) → x ≤ℤ last
    → turns_shown body params outer x last
    ≡ map given (walk_all body params (outer ++ x ∷ [])) ++ turns_shown body params outer (x +ℤ pos 1) last
shown_turn body params outer x last h =
    let ws : ℤ → List Visit = λ y. walk_all body params (outer ++ y ∷ []) in
    ap (map given) (between_more ws x last h) ∙ map-append given (ws x) (between ws (x +ℤ pos 1) last)

pub shown_none : (body : Trees) (params outer : List ℤ) (x last : ℤ) → last <ℤ x
    → turns_shown body params outer x last ≡ []
shown_none body params outer x last h =
    ap (map given) (between_none (λ y. walk_all body params (outer ++ y ∷ [])) x last h)

-- a leaf's forms, one by one
pub form_fits_at : (forms : List Affine) (i : ℕ) (d : Affine) (point : List ℤ) → i < length forms
    → FormsFit forms point → FormFits (get_or forms i d) point
form_fits_at [] i d point h fits = absurd (omega arith)
form_fits_at (f ∷ fs) zero d point h fits = fits.0
form_fits_at (f ∷ fs) (suc i) d point h fits = form_fits_at fs i d point (omega arith) fits.1

pub turn_held_at : (forms : List Affine) (i : ℕ) (d : Affine) (point : List ℤ) → i < length forms
    → All (FitsSigned w64) (values_of forms point) → FitsSigned w64 (value_of (get_or forms i d) point)
turn_held_at [] i d point h all = absurd (omega arith)
turn_held_at (f ∷ fs) zero d point h all = All-head (FitsSigned w64) (value_of f point) (values_of fs point) all
turn_held_at (f ∷ fs) (suc i) d point h all =
    turn_held_at fs i d point (omega arith) (All-tail (FitsSigned w64) (value_of f point) (values_of fs point) all)
