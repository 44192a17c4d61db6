-- Marks that leave the nodes they stand in: what was to come there is passed by, and all of it was to come before.
use Rattle.scop_syntax.proofs.Common.{◌≡◌, ◌∙◌, ◌++◌, ◌∷◌, ℕ, ℤ, [], List, length, take, drop, ap, sym, subst, refl}
use Rattle.scop_syntax.proofs.Common.{arith, append-nil, false, slice_set, drop-map, length-map, map-append, take-map}
use Rattle.scop_syntax.proofs.Common.{In, Instance, in_front}
use Rattle.loop_tree.specs.steps.Going.{CanGo, HasGone, Leads}
use Rattle.loop_tree.specs.Spot.{IsAt, Mark, rest_of}
use Rattle.loop_tree.specs.SpotView.{mark_of, marks_of}
use Rattle.loop_tree.specs.Tree.{Trees}
use Rattle.loop_tree.specs.View.{nodes_of}
use Rattle.loop_tree.specs.declared.spot.Mark.{Mark as CodeMark}
use Rattle.loop_tree.specs.declared.tree.Node.{Node}
use Rattle.loop_tree.proofs.VisitPlaces.{at_next, rest_end}

-- a mark behind the last node
abbrev pub behind : List Node → CodeMark → CodeMark
behind nodes m = record { place = length nodes; begun = false; value = m.value; last = m.last }

pub rest_behind : (nodes : List Node) (ms : List CodeMark) (m : CodeMark) (params outer : List ℤ)
    → rest_of (nodes_of nodes) (marks_of (slice_set ms 0 (behind nodes m))) params outer ≡ []
rest_behind nodes [] m params outer = refl
rest_behind nodes (n ∷ ms) m params outer =
    rest_end nodes (length nodes) false m.value m.last (marks_of ms) params outer (omega arith)

pub at_behind : (nodes : List Node) (ms : List CodeMark) (m : CodeMark) (params outer : List ℤ)
    → IsAt (nodes_of nodes) (marks_of (slice_set ms 0 (behind nodes m))) params outer
at_behind nodes [] m params outer = tt
at_behind nodes (n ∷ ms) m params outer =
    at_next nodes (length nodes) m.value m.last (marks_of ms) params outer

-- a place in nodes that marks lead to can go on, and what goes on there goes on in all
pub can_within : (us : Trees) (ms back : List CodeMark) (params row values : List ℤ) (k : ℕ) → back ≡ drop k ms
    → values ≡ row → CanGo us (drop k (marks_of ms)) params row → CanGo us (marks_of back) params values
can_within us ms back params row values k back_is values_are can =
    subst (λ (os : List ℤ). CanGo us (marks_of back) params os) (sym values_are)
    (subst (λ (ns : List Mark). CanGo us ns params row)
    (drop-map mark_of k ms ∙ ap (λ (ns : List CodeMark). marks_of ns) (sym back_is)) can)

pub gone_within : (ts us : Trees) (ms front back new : List CodeMark) (found : List Instance)
    (params row values : List ℤ) (k : ℕ)
    → Leads ts (marks_of ms) params us k (take k row) → front ≡ take k ms → back ≡ drop k ms → values ≡ take k row
    → HasGone us (marks_of back) (marks_of new) found params values
    → HasGone ts (marks_of ms) (marks_of (front ++ new)) found params []
gone_within ts us ms front back new found params row values k leads front_is back_is values_are gone =
    let inner_is : drop k (marks_of ms) ≡ marks_of back =
    drop-map mark_of k ms ∙ ap (λ (ns : List CodeMark). marks_of ns) (sym back_is) in
    let marks_are : take k (marks_of ms) ++ marks_of new ≡ marks_of (front ++ new) =
    ap (λ (ns : List Mark). ns ++ marks_of new)
    (take-map mark_of k ms ∙ ap (λ (ns : List CodeMark). marks_of ns) (sym front_is))
    ∙ sym (map-append mark_of front new) in
    subst (λ (ns : List Mark). HasGone ts (marks_of ms) ns found params []) marks_are
    (leads.lifts (marks_of new) found
    (subst (λ (ns : List Mark). HasGone us ns (marks_of new) found params (take k row)) (sym inner_is)
    (subst (λ (os : List ℤ). HasGone us (marks_of back) (marks_of new) found params os) values_are gone)))

-- where the marks further in stand behind all, the place goes on by all that was to come there
pub gone_by_all : (ts us : Trees) (ms front back new : List CodeMark) (params row values : List ℤ) (k : ℕ)
    → Leads ts (marks_of ms) params us k (take k row) → front ≡ take k ms → back ≡ drop k ms → values ≡ take k row
    → length new ≡ length back → ((ps os : List ℤ) → rest_of us (marks_of new) ps os ≡ [])
    → ((ps os : List ℤ) → IsAt us (marks_of new) ps os)
    → HasGone ts (marks_of ms) (marks_of (front ++ new)) (rest_of us (marks_of back) params values) params []
gone_by_all ts us ms front back new params row values k leads front_is back_is values_are room none at =
    let all = rest_of us (marks_of back) params values in
    let a = length-map new mark_of in
    let b = length-map back mark_of in
    gone_within ts us ms front back new all params row values k leads front_is back_is values_are record {
      rest = sym (ap (λ (is : List Instance). all ++ is) (none params values) ∙ append-nil all);
      room = omega (arith, a, b, room);
      stands = at params values;
    }

-- what was to come there was to come
pub waits_there : (ts : Trees) (nodes : List Node) (ms back : List CodeMark) (params row values : List ℤ) (k : ℕ)
    → Leads ts (marks_of ms) params (nodes_of nodes) k (take k row) → back ≡ drop k ms → values ≡ take k row
    → (x : Instance) → In x (rest_of (nodes_of nodes) (marks_of back) params values)
    → In x (rest_of ts (marks_of ms) params [])
waits_there ts nodes ms [] params row values k leads back_is values_are x h = absurd h
waits_there ts nodes ms (m ∷ back) params row values k leads back_is values_are x h =
    let us = nodes_of nodes in
    let found = rest_of us (marks_of (m ∷ back)) params values in
    let new = behind nodes m ∷ back in
    let gone = gone_by_all ts us ms (take k ms) (m ∷ back) new params row values k leads refl back_is values_are refl
    (λ ps os. rest_behind nodes (m ∷ back) m ps os) (λ ps os. at_behind nodes (m ∷ back) m ps os) in
    subst (λ (is : List Instance). In x is) (sym gone.rest)
    (in_front x found (rest_of ts (marks_of (take k ms ++ new)) params []) h)
