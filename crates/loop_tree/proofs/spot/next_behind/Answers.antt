use Rattle.scop_syntax.proofs.Common.{◌≡◌, ◌∙◌, ◌++◌, Bool, List, [], ℤ, ap, arith, subst, sym, Instance}
use Rattle.loop_tree.specs.steps.Going.{CanGo, HasGone}
use Rattle.loop_tree.specs.steps.Passing.{shown_in}
use Rattle.loop_tree.specs.Spot.{Mark, rest_of}
use Rattle.loop_tree.specs.SpotView.{marks_of}
use Rattle.loop_tree.specs.Tree.{Trees}
use Rattle.loop_tree.specs.View.{nodes_of}
use Rattle.loop_tree.proofs.spot.next_behind.Goals as goal

pub next_of-requires-clause-go : goal.next_of-requires-clause-go
next_of-requires-clause-go c =
    let ts = nodes_of c.args.nodes.now in
    let now = marks_of c.next_near.new.marks in
    let params = c.args.params.now in
    let gone = c.next_near.ensures.gone in
    let kept = gone.room in
    let room = c.requires.go.room in
    let can : CanGo ts now params [] =
    record { walk = c.requires.go.walk; room = omega (arith, kept, room); stands = gone.stands } in
    subst (λ (os : List ℤ). CanGo ts now params os) (sym c.requires.outer) can

-- nothing was found at first
not_near : (ts : Trees) (old now : List Mark) (first : List Instance) (params : List ℤ) → first ≡ []
    → HasGone ts old now first params [] → rest_of ts old params [] ≡ rest_of ts now params []
not_near ts old now first params none gone =
    gone.rest ∙ ap (λ (is : List Instance). is ++ rest_of ts now params []) none

pub returns-then-next_near-clause-gone : goal.returns-then-next_near-clause-gone
returns-then-next_near-clause-gone c =
    let new = c.next_near.new in
    subst (λ (b : Bool). HasGone (nodes_of c.args.nodes.now) (marks_of c.args.marks.now) (marks_of new.marks)
    (shown_in b new.stretch new.braid) c.args.params.now []) c.if-next_near.true c.next_near.ensures.gone

pub returns-clause-gone : goal.returns-clause-gone
returns-clause-gone c =
    let ts = nodes_of c.args.nodes.now in
    let old = marks_of c.args.marks.now in
    let near = c.next_near.new in
    let new = c.next_of.new in
    let params = c.args.params.now in
    let found = shown_in c.next_of.result new.stretch new.braid in
    let first = shown_in c.next_near.result near.stretch near.braid in
    let none = ap (λ (b : Bool). shown_in b near.stretch near.braid) c.if-next_near.false in
    let gone : HasGone ts (marks_of near.marks) (marks_of new.marks) found params [] =
    subst (λ (os : List ℤ). HasGone ts (marks_of near.marks) (marks_of new.marks) found params os) c.requires.outer
    c.next_of.ensures.gone in
    record {
      rest = not_near ts old (marks_of near.marks) first params none c.next_near.ensures.gone ∙ gone.rest;
      room = gone.room ∙ c.next_near.ensures.gone.room;
      stands = gone.stands;
    }

pub returns-clause-none : goal.returns-clause-none
returns-clause-none c = λ e.
    let ts = nodes_of c.args.nodes.now in
    let near = c.next_near.new in
    let params = c.args.params.now in
    let first = shown_in c.next_near.result near.stretch near.braid in
    let none = ap (λ (b : Bool). shown_in b near.stretch near.braid) c.if-next_near.false in
    not_near ts (marks_of c.args.marks.now) (marks_of near.marks) first params none c.next_near.ensures.gone
    ∙ subst (λ (os : List ℤ). rest_of ts (marks_of near.marks) params os ≡ []) c.requires.outer
    (c.next_of.ensures.none e)
