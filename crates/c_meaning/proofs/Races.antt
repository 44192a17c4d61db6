-- Acts of two iterations of a parallel loop do not conflict, where the instances of a plan's trees do not.
use Rattle.scop_syntax.proofs.Common.{◌≡◌, ◌≢◌, ◌∙◌, ap, sym, subst, refl, ℕ, zero, suc, ◌+◌, ◌<◌, Bool, ℤ, negsuc, pos}
use Rattle.scop_syntax.proofs.Common.{◌+ℤ◌, ◌-ℤ◌, ◌≤ℤ◌, ◌<ℤ◌, List, [], ◌∷◌, ◌++◌, length, map, arith, ints, Option}
use Rattle.scop_syntax.proofs.Common.{Some, inl, inr, slice_get, same_Some, In, Sorted, in_append, in_front, in_back}
use Rattle.scop_syntax.proofs.Common.{in_map, in_map_from, in_if, in_from_place, place_of, nat_cases, Program, Placed}
use Rattle.scop_syntax.proofs.Common.{Access, Expression, Right, Statement, IsKernel, IsAccess, IsExpression, IsRight}
use Rattle.scop_syntax.proofs.Common.{IsStatement, ranks_of, statements_of, visit_of, walk_of, Instance, instance, Cell}
use Rattle.scop_syntax.proofs.Common.{cell_of, accesses, reads_of, reads_with, loops_in, heads_in, most_turns}
use Rattle.scop_syntax.proofs.Common.{if◌then◌else◌}
use Rattle.scop_syntax.specs.Cells.{Conflict, OneWrites}
use Rattle.scop_syntax.specs.ConflictOrders.{IsOrderOf}
use Rattle.scop_syntax.specs.Tree as scop
use Rattle.scop_syntax.specs.Walk.{Visit as Walked}
use Rattle.scop_syntax.proofs.Kernels.{kernel_placed}
use Rattle.scop_syntax.proofs.SortedLists.{sorted_across, sorted_back, sorted_front, sorted_unmapped}
use Rattle.std.proofs.lemmas.List.{append_assoc}
use Rattle.loop_tree.specs.Plans as plans
use Rattle.loop_tree.specs.Plans.{IsFree, AreFree, walked}
use Rattle.loop_tree.specs.Tree.{Tree, loop, guard, instance as leaf, Trees, none, more}
use Rattle.loop_tree.specs.Walk.{Visit, lower, upper, all_hold, along, given, through, walk, walk_all}
use Rattle.loop_tree.proofs.Lists.{in_between, in_along, turns_within}
use Rattle.c_printer.specs.Printable.{IsNamed, IsNode, AreNodes}
use Rattle.c_meaning.specs.Visits.{IsRaceless, AreRaceless, acted, act_in, constants_at}
use Rattle.c_meaning.specs.Assignments.{named, places_in, places_behind}
use Rattle.c_meaning.specs.Narrow.{IsNarrow, AreNarrow, SubscriptsFit, ValueFits, RightFits}
use Rattle.c_meaning.specs.Programs.{place_in, value_in, right_in, signed_in}
use Rattle.c_meaning.specs.Runs.{Act, Assigns, Clash, touched}
use Rattle.c_meaning.specs.Syntax.{Place, Value}
use Rattle.c_meaning.specs.steps.Law.{IsReached}
use Rattle.c_meaning.proofs.FormedTrees.{within_count}
use Rattle.c_meaning.proofs.Arrays.{walked_of, spot_of, count_names}
use Rattle.c_meaning.proofs.Reached.{reached}
use Rattle.c_meaning.proofs.ValueWorths.{IsSpot, named_is}

-- an access of a statement as a place of the program
record IsPlaceOf (parameters loops n : ℕ) (xs : List Access) (q : Place) : Type 0 where
  access : Access
  among : In access xs
  same : q ≡ place_in parameters loops n access

among_more : (m k n : ℕ) (xs ys : List Access) (q : Place) → ((access : Access) → In access xs → In access ys)
    → IsPlaceOf m k n xs q → IsPlaceOf m k n ys q
among_more m k n xs ys q wider is =
    record { access = is.access; among = wider is.access is.among; same = is.same }

signed_places : (m k n : ℕ) (e : Expression) (v : Value) (q : Place) → In q (places_in (signed_in m k n e v))
    → In q (places_in v)
signed_places m k n (scop.constant c) v q h = absurd h
signed_places m k n (scop.affine form) v q h = absurd h
signed_places m k n _ v q h = h

value_places : (m k n : ℕ) (e : Expression) (q : Place) → In q (places_in (value_in m k n e))
    → IsPlaceOf m k n (reads_of e) q
value_places m k n (scop.read access) q (inl e) = record { access = access; among = inl refl; same = e }
value_places m k n (scop.read access) q (inr h) = absurd h
value_places m k n (scop.constant c) q h = absurd h
value_places m k n (scop.affine form) q h = absurd h
value_places m k n (scop.negated e) q h = value_places m k n e q h
value_places m k n (scop.complemented e) q h = value_places m k n e q h
value_places m k n (scop.cast e) q h = value_places m k n e q h
value_places m k n (scop.binary op e f) q h =
    elim (in_append q (places_in (value_in m k n e)) (places_in (value_in m k n f)) h) [
      | inl g ↦ among_more m k n (reads_of e) (reads_of e ++ reads_of f) q
          (λ a i. in_front a (reads_of e) (reads_of f) i) (value_places m k n e q g)
      | inr g ↦ among_more m k n (reads_of f) (reads_of e ++ reads_of f) q
          (λ a i. in_back a (reads_of e) (reads_of f) i) (value_places m k n f q g)
    ]
value_places m k n (scop.shifted_left e c) q h = value_places m k n e q h
value_places m k n (scop.shifted_right e c) q h = value_places m k n e q h
value_places m k n (scop.narrowed scop.explicit e) q h = value_places m k n e q h
value_places m k n (scop.narrowed scop.implied e) q h = value_places m k n e q h
value_places m k n (scop.narrowed scop.converted e) q h =
    value_places m k n e q (signed_places m k n e (value_in m k n e) q h)

right_places : (m k n : ℕ) (place : Access) (right : Right) (q : Place)
    → In q (places_behind (right_in m k n right)) → IsPlaceOf m k n (place ∷ reads_with place right) q
right_places m k n place (scop.assigned e) q h =
    among_more m k n (reads_of e) (place ∷ reads_of e) q (λ a i. inr i) (value_places m k n e q h)
right_places m k n place (scop.combined op e) q h =
    among_more m k n (reads_of e) (place ∷ place ∷ reads_of e) q (λ a i. inr (inr i)) (value_places m k n e q h)
right_places m k n place (scop.combined_narrow op e) q h =
    among_more m k n (reads_of e) (place ∷ place ∷ reads_of e) q (λ a i. inr (inr i)) (value_places m k n e q h)
right_places m k n place (scop.moved_left c) q h = absurd h
right_places m k n place (scop.moved_right c) q h = absurd h
right_places m k n place (scop.moved_left_narrow c) q h = absurd h

-- of each access of a statement the numbers fit
reads_fit : (params outer gs : List ℤ) (e : Expression) (access : Access) → ValueFits params outer gs e
    → In access (reads_of e) → SubscriptsFit params outer gs access.subscripts
reads_fit params outer gs (scop.read x) access fit (inl e) =
    subst (λ (a : Access). SubscriptsFit params outer gs a.subscripts) (sym e) fit
reads_fit params outer gs (scop.read x) access fit (inr h) = absurd h
reads_fit params outer gs (scop.constant c) access fit h = absurd h
reads_fit params outer gs (scop.affine form) access fit h = absurd h
reads_fit params outer gs (scop.negated e) access fit h = reads_fit params outer gs e access fit h
reads_fit params outer gs (scop.complemented e) access fit h = reads_fit params outer gs e access fit h
reads_fit params outer gs (scop.cast e) access fit h = reads_fit params outer gs e access fit h
reads_fit params outer gs (scop.binary op e f) access fit h = elim (in_append access (reads_of e) (reads_of f) h) [
  | inl g ↦ reads_fit params outer gs e access fit.0 g
  | inr g ↦ reads_fit params outer gs f access fit.1 g
]
reads_fit params outer gs (scop.shifted_left e c) access fit h = reads_fit params outer gs e access fit h
reads_fit params outer gs (scop.shifted_right e c) access fit h = reads_fit params outer gs e access fit h
reads_fit params outer gs (scop.narrowed w e) access fit h = reads_fit params outer gs e access fit h

-- and each is one
reads_are : (ranks : List ℕ) (m : ℕ) (e : Expression) (access : Access) → IsExpression ranks m e
    → In access (reads_of e) → IsAccess ranks m access
reads_are ranks m (scop.read x) access is (inl e) = subst (IsAccess ranks m) (sym e) is
reads_are ranks m (scop.read x) access is (inr h) = absurd h
reads_are ranks m (scop.constant c) access is h = absurd h
reads_are ranks m (scop.affine form) access is h = absurd h
reads_are ranks m (scop.negated e) access is h = reads_are ranks m e access is h
reads_are ranks m (scop.complemented e) access is h = reads_are ranks m e access is h
reads_are ranks m (scop.cast e) access is h = reads_are ranks m e access is h
reads_are ranks m (scop.binary op e f) access is h = elim (in_append access (reads_of e) (reads_of f) h) [
  | inl g ↦ reads_are ranks m e access is.0 g
  | inr g ↦ reads_are ranks m f access is.1 g
]
reads_are ranks m (scop.shifted_left e c) access is h = reads_are ranks m e access is.1 h
reads_are ranks m (scop.shifted_right e c) access is h = reads_are ranks m e access is.1 h
reads_are ranks m (scop.narrowed w e) access is h = reads_are ranks m e access is.1 h

-- an access of a statement, and that its numbers fit
record IsFit (params outer gs : List ℤ) (ranks : List ℕ) (m : ℕ) (access : Access) : Type 0 where
  is : IsAccess ranks m access
  fits : SubscriptsFit params outer gs access.subscripts

right_fit : (params outer gs : List ℤ) (ranks : List ℕ) (m : ℕ) (place : Access) (right : Right) (access : Access)
    → IsAccess ranks m place → SubscriptsFit params outer gs place.subscripts → IsRight ranks m right
    → RightFits params outer gs right → In access (reads_with place right) → IsFit params outer gs ranks m access
right_fit params outer gs ranks m place (scop.assigned e) access at fit is fits h =
    record { is = reads_are ranks m e access is h; fits = reads_fit params outer gs e access fits h }
right_fit params outer gs ranks m place (scop.combined op e) access at fit is fits (inl same) =
    subst (IsFit params outer gs ranks m) (sym same) (record { is = at; fits = fit })
right_fit params outer gs ranks m place (scop.combined op e) access at fit is fits (inr h) =
    record { is = reads_are ranks m e access is h; fits = reads_fit params outer gs e access fits h }
right_fit params outer gs ranks m place (scop.combined_narrow op e) access at fit is fits (inl same) =
    subst (IsFit params outer gs ranks m) (sym same) (record { is = at; fits = fit })
right_fit params outer gs ranks m place (scop.combined_narrow op e) access at fit is fits (inr h) =
    record { is = reads_are ranks m e access is h; fits = reads_fit params outer gs e access fits h }
right_fit params outer gs ranks m place (scop.moved_left c) access at fit is fits (inl same) =
    subst (IsFit params outer gs ranks m) (sym same) (record { is = at; fits = fit })
right_fit params outer gs ranks m place (scop.moved_left c) access at fit is fits (inr h) = absurd h
right_fit params outer gs ranks m place (scop.moved_right c) access at fit is fits (inl same) =
    subst (IsFit params outer gs ranks m) (sym same) (record { is = at; fits = fit })
right_fit params outer gs ranks m place (scop.moved_right c) access at fit is fits (inr h) = absurd h
right_fit params outer gs ranks m place (scop.moved_left_narrow c) access at fit is fits (inl same) =
    subst (IsFit params outer gs ranks m) (sym same) (record { is = at; fits = fit })
right_fit params outer gs ranks m place (scop.moved_left_narrow c) access at fit is fits (inr h) = absurd h

-- the source's visit that a visit of the tree stands for
record StandsFor (program : Program) (params outer : List ℤ) (v : Visit) : Type 0 where
  reached : IsReached program params outer v
  place : ℕ
  visit : Walked
  there : slice_get (walk_of program params) place ≡ Some visit
  same : given v ≡ instance visit

-- what is seen of it: its statement, and the point of its forms
record IsSeen (program : Program) (params outer : List ℤ) (v : Visit) (w : Walked) (placed : Placed) : Type 0 where
  stands : slice_get (statements_of program) v.number ≡ Some placed
  is : In placed (statements_of program)
  visit : w ≡ visit_of placed params v.turns

seen : (program : Program) (params outer : List ℤ) (v : Visit) (s : StandsFor program params outer v)
    → IsSeen program params outer v s.visit s.reached.placed
seen program params outer v s =
    let r = s.reached in
    let number : s.visit.number ≡ v.number = sym (ap (λ (x : Instance). x.number) s.same) in
    let turns : s.visit.turns ≡ v.turns = sym (ap (λ (x : Instance). x.turns) s.same) in
    let walks = walked_of program params r.placed s.visit
    (in_from_place (walk_of program params) s.place s.visit s.there)
    (ap (λ (n : ℕ). slice_get (statements_of program) n) number ∙ r.stands) in
    record {
      stands = r.stands;
      is = walks.is;
      visit = walks.same ∙ ap (λ (xs : List ℤ). visit_of r.placed params xs) turns;
    }

-- a cell that an act touches is one that the source's visit touches
record IsTouched (w : Walked) (c : Cell) : Type 0 where
  access : Access
  among : In access (accesses w.body)
  same : c ≡ cell_of access w.point

-- the act of a visit, by its statement
act_seen : (program : Program) (params outer : List ℤ) (v : Visit) (p : Placed)
    → slice_get (statements_of program) v.number ≡ Some p
    → act_in program params outer v ≡ acted program params (outer ++ v.values) v.turns (Some p)
act_seen program params outer v p e =
    ap (λ (q : Option Placed). acted program params (outer ++ v.values) v.turns q) e

-- the cell of an access of a visit's statement
access_cell : (program : Program) (params outer : List ℤ) (v : Visit) (s : StandsFor program params outer v)
    (access : Access) (c : Cell) → IsKernel program → length program.parameters ≡ length params
    → IsFit params (outer ++ v.values) (constants_at s.reached.placed params v.turns) (ranks_of program)
    (length program.parameters + loops_in s.reached.placed.scopes) access
    → named ((params ++ (outer ++ v.values)) ++ constants_at s.reached.placed params v.turns)
    (place_in (length program.parameters) (length (outer ++ v.values))
    (length program.parameters + length (outer ++ v.values) + length (heads_in s.reached.placed.scopes)) access)
    ≡ Some c
    → c ≡ cell_of access s.visit.point
access_cell program params outer v s access c kernel count fit is =
    let p = s.reached.placed in
    let values = outer ++ v.values in
    let constants = constants_at p params v.turns in
    let spot = spot_of program params values constants p [] in
    let m = length program.parameters + loops_in p.scopes in
    let n = length program.parameters + length values + length (heads_in p.scopes) in
    let names = count_names params values constants (length program.parameters) (length (heads_in p.scopes)) count
    s.reached.heads in
    let at : IsSpot spot m = record { count = names; long = omega (arith, count) } in
    let cell = named_is spot (ranks_of program) m access at fit.is fit.fits in
    let moved : named ((params ++ values) ++ constants) (place_in (length program.parameters) (length values) n access)
    ≡ named (params ++ (values ++ constants)) (place_in (length params) (length values) n access) =
    ap (λ (q : List ℤ). named q (place_in (length program.parameters) (length values) n access))
    (append_assoc params values constants)
    ∙ ap (λ (k : ℕ). named (params ++ (values ++ constants)) (place_in k (length values) n access)) count in
    let point : params ++ constants ≡ s.visit.point =
    s.reached.point ∙ ap (λ (w : Walked). w.point) (sym (seen program params outer v s).visit) in
    same_Some c (cell_of access s.visit.point)
    (sym is ∙ (moved ∙ (cell ∙ ap (λ (q : List ℤ). Some (cell_of access q)) point)))

-- the statement of a visit
statement_fit : (program : Program) (params outer : List ℤ) (v : Visit) (s : StandsFor program params outer v)
    (access : Access) → IsKernel program → In access (accesses s.reached.placed.body)
    → IsFit params (outer ++ v.values) (constants_at s.reached.placed params v.turns) (ranks_of program)
    (length program.parameters + loops_in s.reached.placed.scopes) access
statement_fit program params outer v s access kernel h =
    let p = s.reached.placed in
    let body = (kernel_placed program p kernel (seen program params outer v s).is).body in
    by_place body h
  where
    by_place : IsStatement (ranks_of program)
        (length program.parameters + loops_in s.reached.placed.scopes) s.reached.placed.body
        → In access (accesses s.reached.placed.body)
        → IsFit params (outer ++ v.values) (constants_at s.reached.placed params v.turns) (ranks_of program)
        (length program.parameters + loops_in s.reached.placed.scopes) access
    by_place is (inl same) =
        subst (IsFit params (outer ++ v.values) (constants_at s.reached.placed params v.turns) (ranks_of program)
        (length program.parameters + loops_in s.reached.placed.scopes)) (sym same)
        (record { is = is.place; fits = s.reached.fits.place })
    by_place is (inr i) =
        right_fit params (outer ++ v.values) (constants_at s.reached.placed params v.turns) (ranks_of program)
        (length program.parameters + loops_in s.reached.placed.scopes) s.reached.placed.body.place
        s.reached.placed.body.right access is.place s.reached.fits.place is.right s.reached.fits.right i

touched_is : (program : Program) (params outer : List ℤ) (v : Visit) (s : StandsFor program params outer v) (c : Cell)
    → IsKernel program → length program.parameters ≡ length params
    → In (Some c) (touched (act_in program params outer v)) → IsTouched s.visit c
touched_is program params outer v s c kernel count h =
    let p = s.reached.placed in
    let values = outer ++ v.values in
    let n = length program.parameters + length values + length (heads_in p.scopes) in
    let act = acted program params values v.turns (Some p) in
    let at : In (Some c) (touched act) =
    subst (λ (a : Act). In (Some c) (touched a)) (act_seen program params outer v p s.reached.stands) h in
    let q = in_map_from (named act.point) (Some c) (act.assignment.place ∷ places_behind act.assignment.right) at in
    let place = by_place q.0 q.1 in
    let fit = statement_fit program params outer v s place.access kernel (once place.access place.among) in
    let cell = access_cell program params outer v s place.access c kernel count fit
    (ap (λ (r : Place). named act.point r) (sym place.same) ∙ sym q.2) in
    let body = ap (λ (w : Walked). w.body) (seen program params outer v s).visit in
    record {
      access = place.access;
      among = subst (λ (t : Statement). In place.access (accesses t)) (sym body) (once place.access place.among);
      same = cell;
    }
  where
    by_place : (q : Place)
        → In q (place_in (length program.parameters) (length (outer ++ v.values))
        (length program.parameters + length (outer ++ v.values) + length (heads_in s.reached.placed.scopes))
        s.reached.placed.body.place
        ∷ places_behind (right_in (length program.parameters) (length (outer ++ v.values))
        (length program.parameters + length (outer ++ v.values) + length (heads_in s.reached.placed.scopes))
        s.reached.placed.body.right))
        → IsPlaceOf (length program.parameters) (length (outer ++ v.values))
        (length program.parameters + length (outer ++ v.values) + length (heads_in s.reached.placed.scopes))
        (s.reached.placed.body.place ∷ reads_with s.reached.placed.body.place s.reached.placed.body.right) q
    by_place q (inl e) = record { access = s.reached.placed.body.place; among = inl refl; same = e }
    by_place q (inr i) =
        right_places (length program.parameters) (length (outer ++ v.values))
        (length program.parameters + length (outer ++ v.values) + length (heads_in s.reached.placed.scopes))
        s.reached.placed.body.place s.reached.placed.body.right q i

    once : (access : Access)
        → In access (s.reached.placed.body.place ∷ reads_with s.reached.placed.body.place s.reached.placed.body.right)
        → In access (accesses s.reached.placed.body)
    once access i = i

assigned_is : (program : Program) (params outer : List ℤ) (v : Visit) (s : StandsFor program params outer v)
    (c : Cell) → IsKernel program → length program.parameters ≡ length params
    → Assigns (act_in program params outer v) c → c ≡ cell_of s.visit.body.place s.visit.point
assigned_is program params outer v s c kernel count h =
    let p = s.reached.placed in
    let act = acted program params (outer ++ v.values) v.turns (Some p) in
    let at : Assigns act c =
    subst (λ (a : Act). Assigns a c) (act_seen program params outer v p s.reached.stands) h in
    let body = ap (λ (w : Walked). w.body) (seen program params outer v s).visit in
    access_cell program params outer v s p.body.place c kernel count
    (statement_fit program params outer v s p.body.place kernel (inl refl)) at
    ∙ ap (λ (t : Statement). cell_of t.place s.visit.point) (sym body)

-- two visits of the source conflict where their acts do
clash_conflicts : (program : Program) (params outer : List ℤ) (v w : Visit) (s : StandsFor program params outer v)
    (t : StandsFor program params outer w) → IsKernel program → length program.parameters ≡ length params
    → Clash (act_in program params outer v) (act_in program params outer w)
    → (a : ℕ) × (b : ℕ) × Conflict s.visit a t.visit b
clash_conflicts program params outer v w s t kernel count clash =
    let first = touched_is program params outer v s clash.cell kernel count clash.first in
    let second = touched_is program params outer w t clash.cell kernel count clash.second in
    elim clash.assigned [
      | inl e ↦
          let one = assigned_is program params outer v s clash.cell kernel count e in
          let b = place_of (accesses t.visit.body) second.access second.among in (
            0,
            b.0,
            record {
              first = s.visit.body.place;
              second = second.access;
              is_first = refl;
              is_second = b.1;
              writes = inl refl;
              cell = sym one ∙ second.same;
            },
          )
      | inr e ↦
          let two = assigned_is program params outer w t clash.cell kernel count e in
          let a = place_of (accesses s.visit.body) first.access first.among in (
            a.0,
            0,
            record {
              first = first.access;
              second = t.visit.body.place;
              is_first = a.1;
              is_second = refl;
              writes = inr refl;
              cell = sym first.same ∙ two;
            },
          )
    ]

turned_writes : (a b : ℕ) → OneWrites a b → OneWrites b a
turned_writes a b (inl e) = inr e
turned_writes a b (inr e) = inl e

turned_conflict : (v w : Walked) (a b : ℕ) → Conflict v a w b → Conflict w b v a
turned_conflict v w a b c =
    record {
      first = c.second;
      second = c.first;
      is_first = c.is_second;
      is_second = c.is_first;
      writes = turned_writes a b c.writes;
      cell = sym c.cell;
    }

-- so their instances conflict as those of places of the walk
instances_conflict : (program : Program) (params outer : List ℤ) (v w : Visit) (s : StandsFor program params outer v)
    (t : StandsFor program params outer w) → IsKernel program → length program.parameters ≡ length params
    → given v ≢ given w → Clash (act_in program params outer v) (act_in program params outer w)
    → plans.Conflict program params (given v) (given w)
instances_conflict program params outer v w s t kernel count apart clash =
    let c = clash_conflicts program params outer v w s t kernel count clash in
    nat_cases s.place t.place
    (λ less. record {
      earlier = s.place;
      later = t.place;
      places = record {
        earlier = s.visit;
        later = t.visit;
        first = c.0;
        second = c.1;
        order = less;
        is_earlier = s.there;
        is_later = t.there;
        conflict = c.2;
      };
      are = inl (sym s.same, sym t.same);
    })
    (λ e. absurd (apart (s.same ∙ (ap (λ (x : Walked). instance x) (one_visit e) ∙ sym t.same))))
    (λ less. record {
      earlier = t.place;
      later = s.place;
      places = record {
        earlier = t.visit;
        later = s.visit;
        first = c.1;
        second = c.0;
        order = less;
        is_earlier = t.there;
        is_later = s.there;
        conflict = turned_conflict s.visit t.visit c.0 c.1 c.2;
      };
      are = inr (sym t.same, sym s.same);
    })
  where
    one_visit : s.place ≡ t.place → s.visit ≡ t.visit
    one_visit e =
        same_Some s.visit t.visit
        (sym s.there ∙ (ap (λ (k : ℕ). slice_get (walk_of program params) k) e ∙ t.there))

in_later : (body : ℤ → List Visit) (v : Visit) (n : ℕ) (first y : ℤ) → first ≤ℤ y → y <ℤ (first +ℤ pos n)
    → In v (body y) → In v (along body first n)
in_later body v n first y low high i = by_far (y -ℤ first) refl
  where
    by_far : (z : ℤ) → z ≡ y -ℤ first → In v (along body first n)
    by_far (pos d) e =
        let same : y ≡ first +ℤ pos d = omega (arith, ints, e) in
        in_along body v n d first (omega (arith, ints, e, high)) (subst (λ (u : ℤ). In v (body u)) same i)
    by_far (negsuc d) e = absurd (omega (arith, ints, e, low))

-- what a sorted loop's visits are to one another
along_across : (R : Visit → Visit → Type 0) (body : ℤ → List Visit) (n : ℕ) (first x y : ℤ)
    → Sorted R (along body first n) → first ≤ℤ x → x <ℤ y → y <ℤ (first +ℤ pos n) → (v w : Visit) → In v (body x)
    → In w (body y) → R v w
along_across R body zero first x y s low less high v w i j = absurd (omega (arith, ints, low, less, high))
along_across R body (suc n) first x y s low less high v w i j =
    by_first
    (λ l. along_across R body n (first +ℤ pos 1) x y
    (sorted_back R (body first) (along body (first +ℤ pos 1) n) s) l less (omega (arith, ints, high)) v w i j)
    (x -ℤ first) refl
  where
    by_first : ((first +ℤ pos 1) ≤ℤ x → R v w) → (z : ℤ) → z ≡ x -ℤ first → R v w
    by_first again (pos zero) e =
        let same : x ≡ first = omega (arith, ints, e) in
        sorted_across R (body first) (along body (first +ℤ pos 1) n) s v w (subst (λ (u : ℤ). In v (body u)) same i)
        (in_later body w n (first +ℤ pos 1) y (omega (arith, ints, low, less)) (omega (arith, ints, high)) j)
    by_first again (pos (suc k)) e = again (omega (arith, ints, e))
    by_first again (negsuc k) e = absurd (omega (arith, ints, e, low))

-- and within one iteration
along_each : (R : Visit → Visit → Type 0) (body : ℤ → List Visit) (n : ℕ) (first x : ℤ) → Sorted R (along body first n)
    → first ≤ℤ x → x <ℤ (first +ℤ pos n) → Sorted R (body x)
along_each R body zero first x s low high = absurd (omega (arith, ints, low, high))
along_each R body (suc n) first x s low high =
    by_first
    (λ l. along_each R body n (first +ℤ pos 1) x (sorted_back R (body first) (along body (first +ℤ pos 1) n) s) l
    (omega (arith, ints, high))) (x -ℤ first) refl
  where
    by_first : ((first +ℤ pos 1) ≤ℤ x → Sorted R (body x)) → (z : ℤ) → z ≡ x -ℤ first → Sorted R (body x)
    by_first again (pos zero) e =
        let same : x ≡ first = omega (arith, ints, e) in
        subst (λ (u : ℤ). Sorted R (body u)) (sym same)
        (sorted_front R (body first) (along body (first +ℤ pos 1) n) s)
    by_first again (pos (suc k)) e = again (omega (arith, ints, e))
    by_first again (negsuc k) e = absurd (omega (arith, ints, e, low))

-- two visits give different instances
abbrev Differ : Visit → Visit → Type 0
Differ v w = given v ≢ given w

-- what is known of a tree's visits within loops of these values: they are those of the walk, each once
record AreWalked (program : Program) (vs : List Visit) (params : List ℤ) : Type 0 where
  all : (v : Visit) → In v vs → In (given v) (walked program params)
  once : Sorted Differ vs

-- a program at its parameters
record IsAt (program : Program) (params : List ℤ) : Type 0 where
  kernel : IsKernel program
  names : IsNamed program
  count : length program.parameters ≡ length params

stands_for : (program : Program) (params outer : List ℤ) (v : Visit) → IsReached program params outer v
    → In (given v) (walked program params) → StandsFor program params outer v
stands_for program params outer v reached h =
    let u = in_map_from instance (given v) (walk_of program params) h in
    let at = place_of (walk_of program params) u.0 u.1 in
    record { reached = reached; place = at.0; visit = u.0; there = at.1; same = u.2 }

mutual
  raceless : (program : Program) (params outer : List ℤ) (k : ℕ) (told : Visit → Act) (t : Tree)
      → IsAt program params → k ≡ length outer → IsNode program k t → IsNarrow program t params outer
      → ((v : Visit) → told v ≡ act_in program params outer v)
      → IsFree (plans.Conflict program params) t params outer → AreWalked program (walk t params outer) params
      → IsRaceless told t params outer
  raceless program params outer k told (loop flag lo up body) at d is narrow same free walks =
      let first = lower lo (outer ++ params) in
      let last = upper up (outer ++ params) in
      let n = most_turns (last -ℤ first) in
      let Body : ℤ → List Visit = λ x. map (through flag x) (walk_all body params (outer ++ x ∷ [])) in (
        λ f x y wx wy less v w i j clash.
            let a = in_map (through flag x) v (walk_all body params (outer ++ x ∷ [])) i in
            let b = in_map (through flag y) w (walk_all body params (outer ++ y ∷ [])) j in
            let here = in_between Body (through flag x v) first last x wx.0 wx.1 a in
            let there = in_between Body (through flag y w) first last y wy.0 wy.1 b in
            let s = stands_for program params outer (through flag x v)
            (reached program (loop flag lo up body) params outer k at.names at.count d is narrow (through flag x v) here)
            (walks.all (through flag x v) here) in
            let t = stands_for program params outer (through flag y w)
            (reached program (loop flag lo up body) params outer k at.names at.count d is narrow (through flag y w) there)
            (walks.all (through flag y w) there) in
            let apart = along_across Differ Body n first x y walks.once wx.0 less
            (turns_within (last -ℤ first) y first last refl wy.0 wy.1) (through flag x v) (through flag y w) a b in
            free.0 f x y wx wy less v w i j
            (instances_conflict program params outer (through flag x v) (through flag y w) s t at.kernel at.count apart
            (subst (λ (q : Act). Clash (act_in program params outer (through flag x v)) q) (same (through flag y w))
            (subst (λ (q : Act). Clash q (told (through flag y w))) (same (through flag x v)) clash))),
        λ x wx. raceless_all program params (outer ++ x ∷ []) (suc k) (λ v. told (through flag x v)) body at
            (within_count k outer x d) is.3 (narrow.3 x wx).1
            (λ v. same (through flag x v)
            ∙ ap (λ (ls : List ℤ). acted program params ls v.turns (slice_get (statements_of program) v.number))
            (sym (append_assoc outer (x ∷ []) v.values)))
            (free.1 x wx)
            (record {
              all = λ v i. walks.all (through flag x v)
                  (in_between Body (through flag x v) first last x wx.0 wx.1
                  (in_map (through flag x) v (walk_all body params (outer ++ x ∷ [])) i));
              once = sorted_unmapped Differ (through flag x) (walk_all body params (outer ++ x ∷ []))
                  (along_each Differ Body n first x walks.once wx.0
                  (turns_within (last -ℤ first) x first last refl wx.0 wx.1));
            }),
      )
  raceless program params outer k told (guard [] body) at d is narrow same free walks = absurd is
  raceless program params outer k told (guard (test ∷ tests) body) at d is narrow same free walks = λ on.
      let vs = walk_all body params outer in
      raceless_all program params outer k told body at d is.1 (narrow.1 on) same (free on)
      (record {
        all = λ v i. walks.all v (in_if (all_hold (test ∷ tests) (outer ++ params)) v vs on i);
        once = subst (λ (b : Bool). Sorted Differ (if b then vs else [])) on walks.once;
      })
  raceless program params outer k told (leaf n turns) at d is narrow same free walks = tt

  raceless_all : (program : Program) (params outer : List ℤ) (k : ℕ) (told : Visit → Act) (ts : Trees)
      → IsAt program params → k ≡ length outer → AreNodes program k ts → AreNarrow program ts params outer
      → ((v : Visit) → told v ≡ act_in program params outer v)
      → AreFree (plans.Conflict program params) ts params outer
      → AreWalked program (walk_all ts params outer) params → AreRaceless told ts params outer
  raceless_all program params outer k told none at d is narrow same free walks = tt
  raceless_all program params outer k told (more t ts) at d is narrow same free walks =
      let us = walk t params outer in
      let ws = walk_all ts params outer in (
        raceless program params outer k told t at d is.0 narrow.0 same free.0
            (record {
              all = λ v i. walks.all v (in_front v us ws i);
              once = sorted_front Differ us ws walks.once;
            }),
        raceless_all program params outer k told ts at d is.1 narrow.1 same free.1
            (record {
              all = λ v i. walks.all v (in_back v us ws i);
              once = sorted_back Differ us ws walks.once;
            }),
      )

-- so it is in a whole program
pub raceless_program : (program : Program) (params : List ℤ) (ts : Trees) (told : Visit → Act) → IsKernel program
    → IsNamed program → length program.parameters ≡ length params → AreNodes program 0 ts
    → AreNarrow program ts params [] → ((v : Visit) → told v ≡ act_in program params [] v)
    → AreFree (plans.Conflict program params) ts params []
    → IsOrderOf (map given (walk_all ts params [])) (walked program params) → AreRaceless told ts params []
raceless_program program params ts told kernel names count is narrow same free order =
    raceless_all program params [] 0 told ts (record { kernel = kernel; names = names; count = count }) refl is narrow
    same free
    (record {
      all = λ v i. (order.same (given v)).0 (in_map given v (walk_all ts params []) i);
      once = sorted_unmapped (λ (x y : Instance). x ≢ y) given (walk_all ts params []) order.once;
    })
