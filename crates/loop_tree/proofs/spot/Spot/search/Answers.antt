use Rattle.scop_syntax.proofs.Common.{◌≡◌, ◌∙◌, ◌++◌, ◌∷◌, Bool, List, [], ℤ, All, All-nil, ap, ap₂, append_assoc}
use Rattle.scop_syntax.proofs.Common.{arith, length, length-map, subst, sym, with_items, with_items_is, Instance}
use Rattle.scop_syntax.proofs.Common.{instance_of}
use Rattle.loop_tree.specs.steps.Going.{CanGo, HasGone}
use Rattle.loop_tree.specs.steps.Passing.{shown_in}
use Rattle.loop_tree.specs.Braids.{left_of_braid}
use Rattle.loop_tree.specs.Conditions.{IsHeld}
use Rattle.loop_tree.specs.Spot.{IsAt, rest_of}
use Rattle.loop_tree.specs.SpotView.{mark_of, marks_of}
use Rattle.loop_tree.specs.Stretches.{left_of}
use Rattle.loop_tree.specs.Tree.{Trees}
use Rattle.loop_tree.specs.View.{nodes_of}
use Rattle.loop_tree.specs.declared.spot.Mark.{Mark}
use Rattle.loop_tree.proofs.Stretches.{nothing_left}
use Rattle.loop_tree.proofs.spot.Spot.search.Goals as goal
use Rattle.loop_tree.proofs.spot.Spot.search.Goals.{After-next_behind}

pub next_behind-requires-clause-go : goal.next_behind-requires-clause-go
next_behind-requires-clause-go c =
    let ts = nodes_of c.args.nodes.now in
    let params = c.args.params.now in
    let marks = c.args.self.now.marks.items in
    let each = length-map marks mark_of in
    let room = c.requires.spot.room in
    let can : CanGo ts (marks_of marks) params [] =
    record { walk = c.requires.walk; room = omega (arith, each, room); stands = c.requires.spot.stands } in
    subst (λ (ms : List Mark). CanGo ts (marks_of ms) params []) (sym c.as_mut_slice.ensures.value) can

-- the marks as the spot holds them
laid : (c : After-next_behind)
    → (with_items c.args.self.now.marks c.next_behind.new.marks).items ≡ c.next_behind.new.marks
laid c =
    let a = length-map c.as_mut_slice.result.now mark_of in
    let b = length-map c.next_behind.new.marks mark_of in
    let kept = c.next_behind.ensures.gone.room in
    let full = c.as_mut_slice.ensures.len in
    with_items_is c.args.self.now.marks c.next_behind.new.marks (omega (arith, a, b, kept, full))

-- with nothing in front of them, what was to come is what was found and what is to come behind them
came : (ts : Trees) (params : List ℤ) (was first now laid : List Mark) (front behind found : List Instance)
    → first ≡ was → laid ≡ now → front ≡ [] → behind ≡ []
    → rest_of ts (marks_of first) params [] ≡ found ++ rest_of ts (marks_of now) params []
    → front ++ (behind ++ rest_of ts (marks_of was) params []) ≡ found ++ rest_of ts (marks_of laid) params []
came ts params was first now laid front behind found first_is laid_is none nothing rest =
    ap₂ (λ (is js : List Instance). is ++ (js ++ rest_of ts (marks_of was) params [])) none nothing
    ∙ (sym (ap (λ (ms : List Mark). rest_of ts (marks_of ms) params []) first_is)
    ∙ (rest ∙ ap (λ (ms : List Mark). found ++ rest_of ts (marks_of ms) params []) (sym laid_is)))

-- so it is here, by what was shown
rest_here : (c : After-next_behind) (b : Bool) → c.next_behind.result ≡ b
    → left_of c.args.self.now.stretch
    ++ (left_of_braid c.args.self.now.braid
    ++ rest_of (nodes_of c.args.nodes.now) (marks_of c.args.self.now.marks.items) c.args.params.now [])
    ≡ shown_in b c.next_behind.new.stretch c.next_behind.new.braid
    ++ rest_of (nodes_of c.args.nodes.now)
    (marks_of (with_items c.args.self.now.marks c.next_behind.new.marks).items) c.args.params.now []
rest_here c b is =
    let spot = c.args.self.now in
    let new = c.next_behind.new in
    let gone = subst (λ (b : Bool). HasGone (nodes_of c.args.nodes.now) (marks_of c.as_mut_slice.result.now)
    (marks_of new.marks) (shown_in b new.stretch new.braid) c.args.params.now []) is c.next_behind.ensures.gone in
    came (nodes_of c.args.nodes.now) c.args.params.now spot.marks.items c.as_mut_slice.result.now new.marks
    (with_items spot.marks new.marks).items (left_of spot.stretch) (left_of_braid spot.braid)
    (shown_in b new.stretch new.braid) c.as_mut_slice.ensures.value (laid c)
    (nothing_left spot.stretch c.requires.stretch) c.requires.braid gone.rest

-- as many marks as before, which stand
room_here : (c : After-next_behind) → length (with_items c.args.self.now.marks c.next_behind.new.marks).items
    ≡ length c.args.self.now.marks.items
room_here c =
    let a = length-map c.as_mut_slice.result.now mark_of in
    let b = length-map c.next_behind.new.marks mark_of in
    let kept = c.next_behind.ensures.gone.room in
    let was = ap (λ (ms : List Mark). length ms) c.as_mut_slice.ensures.value in
    let is = ap (λ (ms : List Mark). length ms) (laid c) in
    omega (arith, a, b, kept, was, is)

stands_here : (c : After-next_behind) → IsAt (nodes_of c.args.nodes.now)
    (marks_of (with_items c.args.self.now.marks c.next_behind.new.marks).items) c.args.params.now []
stands_here c =
    subst (λ (ms : List Mark). IsAt (nodes_of c.args.nodes.now) (marks_of ms) c.args.params.now []) (sym (laid c))
    c.next_behind.ensures.gone.stands

pub returns-then-next_behind-clause-rest : goal.returns-then-next_behind-clause-rest
returns-then-next_behind-clause-rest c =
    let new = c.next_behind.new in
    rest_here (goal.at.returns-then-next_behind-clause-rest c).After-next_behind _ c.if-next_behind.true
    ∙ ap (λ (is : List Instance). instance_of new.stretch.before ∷ is)
    (append_assoc (left_of new.stretch) (left_of_braid new.braid) (rest_of (nodes_of c.args.nodes.now)
    (marks_of (with_items c.args.self.now.marks new.marks).items) c.args.params.now []))

pub returns-then-next_behind-clause-spot : goal.returns-then-next_behind-clause-spot
returns-then-next_behind-clause-spot c =
    let pass = c.next_behind.ensures.held c.if-next_behind.true in
    let at = (goal.at.returns-then-next_behind-clause-spot c).After-next_behind in
    record {
      room = room_here at ∙ c.requires.spot.room;
      stands = stands_here at;
      held = pass.held;
      braid = pass.braid;
    }

pub returns-clause-rest : goal.returns-clause-rest
returns-clause-rest c =
    let new = c.next_behind.new in
    let spent = c.next_behind.ensures.ready c.if-next_behind.false in
    rest_here (goal.at.returns-clause-rest c).After-next_behind _ c.if-next_behind.false
    ∙ sym (ap₂ (λ (is js : List Instance). is ++ (js ++ rest_of (nodes_of c.args.nodes.now)
    (marks_of (with_items c.args.self.now.marks new.marks).items) c.args.params.now []))
    (nothing_left new.stretch spent.stretch) spent.nothing)

pub returns-clause-none : goal.returns-clause-none
returns-clause-none c = λ e.
    ap₂ (λ (is js : List Instance). is ++ (js ++ rest_of (nodes_of c.args.nodes.now)
    (marks_of c.args.self.now.marks.items) c.args.params.now []))
    (nothing_left c.args.self.now.stretch c.requires.stretch) c.requires.braid
    ∙ (sym (ap (λ (ms : List Mark). rest_of (nodes_of c.args.nodes.now) (marks_of ms) c.args.params.now [])
    c.as_mut_slice.ensures.value) ∙ c.next_behind.ensures.none c.if-next_behind.false)

pub returns-clause-spot : goal.returns-clause-spot
returns-clause-spot c =
    let new = c.next_behind.new in
    let spent = c.next_behind.ensures.ready c.if-next_behind.false in
    let at = (goal.at.returns-clause-spot c).After-next_behind in
    record {
      room = room_here at ∙ c.requires.spot.room;
      stands = stands_here at;
      held = subst (λ (is : List Instance). All IsHeld is) (sym (nothing_left new.stretch spent.stretch))
          (All-nil IsHeld);
      braid = spent.braid;
    }
