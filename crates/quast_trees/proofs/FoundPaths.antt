-- The paths that are found from a tree's last node to its first are those that a point may go.
use Rattle.whole_numbers.proofs.Common.{◌≡◌, Bool, true, false, List, [], ◌∷◌, ◌++◌, map, Option, Some, None, ap, sym}
use Rattle.whole_numbers.proofs.Common.{◌∙◌, refl, subst, ap₂, ◌&&◌, ◌||◌, not, ⊤, if◌then◌else◌, filter, map-append}
use Rattle.whole_numbers.proofs.Common.{Affine}
use Rattle.std.proofs.lemmas.List.{append_assoc, append-nil}
use Rattle.std.proofs.lemmas.List.Elements.{filter-append}
use Rattle.quast_trees.specs.Source.{Forms}
use Rattle.quast_trees.specs.Tree.{Tree, initial, leaf, branch, bind, count}
use Rattle.quast_trees.specs.Postfix.{written}
use Rattle.quast_trees.specs.declared.node.Node.{Node}
use Rattle.quast_trees.specs.declared.node.Node.TheVariants as node
use Rattle.quast_trees.specs.Paths.{Turn, up, down, bound, LeafPath, path_to, behind, leaf_paths, has_no_point, live_paths}
use Rattle.quast_trees.specs.Paths.{are_opposite, fails, is_blocked, is_crossed}
use Rattle.quast_trees.specs.steps.Ways.{Ways, met, met_by, ways_from_last, ways_of, way_step, with_turn}

-- whether no bind is passed
abbrev unbound : List Turn → Bool
unbound [] = true
unbound (up f ∷ ts) = unbound ts
unbound (down f ∷ ts) = unbound ts
unbound (bound f d ∷ ts) = false

or_false : (a : Bool) → (a || false) ≡ a
or_false true = refl
or_false false = refl

and_or : (n b o m : Bool) → ((n && (b || o)) || m) ≡ ((n && b) || ((n && o) || m))
and_or true true o m = refl
and_or true false o m = refl
and_or false b o m = refl

or_assoc : (a b c : Bool) → (a || (b || c)) ≡ ((a || b) || c)
or_assoc true b c = refl
or_assoc false b c = refl

or_sorted : (a b c d e g : Bool) → (a || ((b || c) || (d || (e || g)))) ≡ ((a || (b || d)) || (e || (c || g)))
or_sorted true b c d e g = refl
or_sorted false true c d e g = refl
or_sorted false false true true e g = refl
or_sorted false false true false true g = refl
or_sorted false false true false false g = refl
or_sorted false false false d e g = refl

-- a turn more at the end of what is passed
crossed_one : (u t : Turn) → is_crossed u (t ∷ []) ≡ are_opposite u t
crossed_one u (up f) = or_false (are_opposite u (up f))
crossed_one u (down f) = or_false (are_opposite u (down f))
crossed_one (up g) (bound f d) = refl
crossed_one (down g) (bound f d) = refl
crossed_one (bound g e) (bound f d) = refl

crossed_more : (u t : Turn) (ts : List Turn)
    → is_crossed u (ts ++ t ∷ []) ≡ (is_crossed u ts || (unbound ts && are_opposite u t))
crossed_more u t [] = crossed_one u t
crossed_more u t (up f ∷ ts) =
    ap (λ b. are_opposite u (up f) || b) (crossed_more u t ts)
    ∙ or_assoc (are_opposite u (up f)) (is_crossed u ts) (unbound ts && are_opposite u t)
crossed_more u t (down f ∷ ts) =
    ap (λ b. are_opposite u (down f) || b) (crossed_more u t ts)
    ∙ or_assoc (are_opposite u (down f)) (is_crossed u ts) (unbound ts && are_opposite u t)
crossed_more u t (bound f d ∷ ts) = refl

met_before : (t : Turn) (b : Bool) (ts : List Turn) → met t b ts ≡ ((unbound ts && b) || met t false ts)
met_before t b [] = sym (or_false b)
met_before t b (up f ∷ ts) =
    met_before t (b || are_opposite (up f) t) ts
    ∙ (and_or (unbound ts) b (are_opposite (up f) t) (met t false ts)
    ∙ ap (λ m. (unbound ts && b) || m) (sym (met_before t (are_opposite (up f) t) ts)))
met_before t b (down f ∷ ts) =
    met_before t (b || are_opposite (down f) t) ts
    ∙ (and_or (unbound ts) b (are_opposite (down f) t) (met t false ts)
    ∙ ap (λ m. (unbound ts && b) || m) (sym (met_before t (are_opposite (down f) t) ts)))
met_before t b (bound f d ∷ ts) = refl

met_one : (t u : Turn) → met_by t false u ≡ are_opposite u t
met_one t (up f) = refl
met_one t (down f) = refl
met_one t (bound f d) = refl

blocked_more : (ts : List Turn) (t : Turn)
    → is_blocked (ts ++ t ∷ []) ≡ (is_blocked ts || (fails t || met t false ts))
blocked_more [] t = refl
blocked_more (u ∷ ts) t =
    let o = are_opposite u t in
    let m = met t false ts in
    ap₂ (λ c b. fails u || (c || b)) (crossed_more u t ts) (blocked_more ts t)
    ∙ (or_sorted (fails u) (is_crossed u ts) (unbound ts && o) (is_blocked ts) (fails t) m
    ∙ ap (λ k. (fails u || (is_crossed u ts || is_blocked ts)) || (fails t || k))
    (sym (ap (λ b. met t b ts) (met_one t u) ∙ met_before t o ts)))

-- what is blocked stays so
blocked_behind : (ts us : List Turn) → is_blocked ts ≡ true → is_blocked (ts ++ us) ≡ true
blocked_behind ts [] h = subst (λ (vs : List Turn). is_blocked vs ≡ true) (sym (append-nil ts)) h
blocked_behind ts (u ∷ us) h =
    subst (λ (vs : List Turn). is_blocked vs ≡ true) (append_assoc ts (u ∷ []) us)
    (blocked_behind (ts ++ u ∷ []) us
    (blocked_more ts u ∙ ap (λ b. b || (fails u || met u false ts)) h))

-- the paths with what is passed before, that a point may go
abbrev pub may_go : LeafPath → Bool
may_go p = not (has_no_point p)

abbrev pub from : List Turn → LeafPath → LeafPath
from ts p = path_to (ts ++ p.turns) p.leaf

abbrev pub after : List Turn → List LeafPath → List LeafPath
after ts ps = filter may_go (map (from ts) ps)

none_after : (ts : List Turn) (ps : List LeafPath) → is_blocked ts ≡ true → after ts ps ≡ []
none_after ts [] h = refl
none_after ts (p ∷ ps) h = rw (blocked_behind ts p.turns h) (none_after ts ps h)

from_more : (ts : List Turn) (t : Turn) (ps : List LeafPath) → map (from ts) (behind t ps) ≡ map (from (ts ++ t ∷ [])) ps
from_more ts t [] = refl
from_more ts t (p ∷ ps) =
    ap₂ (λ (us : List Turn) (qs : List LeafPath). path_to us p.leaf ∷ qs) (sym (append_assoc ts (t ∷ []) p.turns))
    (from_more ts t ps)

after_more : (ts : List Turn) (t : Turn) (ps : List LeafPath) → after ts (behind t ps) ≡ after (ts ++ t ∷ []) ps
after_more ts t ps = ap (filter may_go) (from_more ts t ps)

after_both : (ts : List Turn) (ps qs : List LeafPath) → after ts (ps ++ qs) ≡ after ts ps ++ after ts qs
after_both ts ps qs =
    ap (filter may_go) (map-append (from ts) ps qs) ∙ filter-append may_go (map (from ts) ps) (map (from ts) qs)

-- the paths behind a way, and a way that is not blocked
abbrev pub paths_of : Option (List Turn) → Tree → List LeafPath
paths_of None t = []
paths_of (Some ts) t = after ts (leaf_paths t)

abbrev pub IsFree : Option (List Turn) → Type 0
IsFree None = ⊤
IsFree (Some ts) = is_blocked ts ≡ false

free_more : (ts : List Turn) (t : Turn) (b : Bool) → (fails t || met t false ts) ≡ b → is_blocked ts ≡ false
    → is_blocked (ts ++ t ∷ []) ≡ b
free_more ts t b e free = blocked_more ts t ∙ (ap (λ a. a || (fails t || met t false ts)) free ∙ e)

turn_cases : (ts : List Turn) (t : Turn) (x : Tree) (b : Bool) → is_blocked (ts ++ t ∷ []) ≡ b
    → IsFree (if b then None else Some (ts ++ t ∷ []))
    × (paths_of (if b then None else Some (ts ++ t ∷ [])) x ≡ after ts (behind t (leaf_paths x)))
turn_cases ts t x true e =
    (tt, sym (after_more ts t (leaf_paths x) ∙ none_after (ts ++ t ∷ []) (leaf_paths x) e))
turn_cases ts t x false e = (e, sym (after_more ts t (leaf_paths x)))

turned : (ts : List Turn) (t : Turn) (x : Tree) → is_blocked ts ≡ false
    → IsFree (with_turn ts t) × (paths_of (with_turn ts t) x ≡ after ts (behind t (leaf_paths x)))
turned ts t x free =
    turn_cases ts t x (fails t || met t false ts) (free_more ts t (fails t || met t false ts) refl free)

-- a leaf's own path
leaf_after : (ts : List Turn) (l : Forms) → is_blocked ts ≡ false → after ts (path_to [] l ∷ []) ≡ path_to ts l ∷ []
leaf_after ts l free =
    ap (λ (us : List Turn). filter may_go (path_to us l ∷ [])) (append-nil ts) ∙ rw free refl

from_last-append : (xs ys : List Node) (s : Ways)
    → ways_from_last (xs ++ ys) s ≡ ways_from_last xs (ways_from_last ys s)
from_last-append [] ys s = refl
from_last-append (x ∷ xs) ys s = ap (way_step x) (from_last-append xs ys s)

-- the sides of a branch one after the other
both_sides : (f : Affine) (x y : Tree) (s : Ways)
    → ways_from_last (written (branch f x y)) s
    ≡ ways_from_last (written x) (ways_from_last (written y) (way_step (node.Branch f (count y)) s))
both_sides f x y s =
    from_last-append (written x ++ written y) (node.Branch f (count y) ∷ []) s
    ∙ from_last-append (written x) (written y) (way_step (node.Branch f (count y)) s)

-- the nodes of a tree take the way to it off, and give the paths behind it
pub found_behind : (t : Tree) (w : Option (List Turn)) (ws : List (Option (List Turn))) (found : List LeafPath)
    → IsFree w → ways_from_last (written t) (ways_of (w ∷ ws) found) ≡ ways_of ws (paths_of w t ++ found)
found_behind initial None ws found free = refl
found_behind initial (Some ts) ws found free = refl
found_behind (leaf l) None ws found free = refl
found_behind (leaf l) (Some ts) ws found free = ap (λ ps. ways_of ws (ps ++ found)) (sym (leaf_after ts l free))
found_behind (branch f x y) None ws found free =
    both_sides f x y (ways_of (None ∷ ws) found)
    ∙ (ap (ways_from_last (written x)) (found_behind y None (None ∷ ws) found tt) ∙ found_behind x None ws found tt)
found_behind (branch f x y) (Some ts) ws found free =
    let first = turned ts (up f) x free in
    let second = turned ts (down f) y free in
    let sides = after_both ts (behind (up f) (leaf_paths x)) (behind (down f) (leaf_paths y)) in
    let low = paths_of (with_turn ts (down f)) y in
    both_sides f x y (ways_of (Some ts ∷ ws) found)
    ∙ (ap (ways_from_last (written x))
    (found_behind y (with_turn ts (down f)) (with_turn ts (up f) ∷ ws) found second.0)
    ∙ (found_behind x (with_turn ts (up f)) ws (low ++ found) first.0
    ∙ ap (ways_of ws) (sym (append_assoc (paths_of (with_turn ts (up f)) x) low found)
    ∙ ap (λ ps. ps ++ found) (ap₂ (λ ps qs. ps ++ qs) first.1 second.1 ∙ sym sides))))
found_behind (bind f d x) None ws found free =
    from_last-append (written x) (node.Bind f d ∷ []) (ways_of (None ∷ ws) found) ∙ found_behind x None ws found tt
found_behind (bind f d x) (Some ts) ws found free =
    let body = turned ts (bound f d) x free in
    from_last-append (written x) (node.Bind f d ∷ []) (ways_of (Some ts ∷ ws) found)
    ∙ (found_behind x (with_turn ts (bound f d)) ws found body.0
    ∙ ap (λ ps. ways_of ws (ps ++ found)) body.1)

from_none : (ps : List LeafPath) → map (from []) ps ≡ ps
from_none [] = refl
from_none (p ∷ ps) = ap (λ qs. p ∷ qs) (from_none ps)

-- from the root: the live paths
pub found_from_root : (t : Tree)
    → ways_from_last (written t) (ways_of (Some [] ∷ []) []) ≡ ways_of [] (live_paths t)
found_from_root t =
    found_behind t (Some []) [] [] refl
    ∙ ap (ways_of []) (append-nil (paths_of (Some []) t) ∙ ap (filter may_go) (from_none (leaf_paths t)))
