-- A step of a node under frames.
use Rattle.whole_numbers.proofs.Common.{◌≡◌, ℕ, suc, ◌+◌, ◌<◌, List, ◌∷◌, ◌++◌, length, drop, reverse, refl, subst, ap}
use Rattle.whole_numbers.proofs.Common.{sym, ◌∙◌, arith, Ok, Err}
use Rattle.std.proofs.lemmas.List.{append-nil}
use Rattle.quast_trees.specs.Tree.{Tree, initial}
use Rattle.quast_trees.specs.Postfix.{top}
use Rattle.tableau_rows.specs.Run as run
use Rattle.checked_tableau.specs.Nodes.{Node, Next, Counted, resumed, whole, step}
use Rattle.checked_tableau.specs.Nodes as node
use Rattle.checked_tableau.proofs.KeptSolutions.{step_nodes}
use Rattle.checked_tableau.proofs.Steps.{Costs, costs_step, resumed_step, resumed_stops}
use Rattle.pip_solver.specs.declared.node.Tableau.{Tableau}
use Rattle.pip_solver.specs.declared.node.Move.TheVariants as move
use Rattle.pip_solver.specs.Node.{node_of, next_of, AreGoing}
use Rattle.pip_solver.specs.declared.frames.Frame.TheVariants as frame
use Rattle.pip_solver.specs.declared.question.QuestionStop.{QuestionStop}
use Rattle.pip_solver.specs.declared.question.QuestionStop.TheVariants as stop
use Rattle.pip_solver.specs.declared.run.Progress.TheVariants as progress
use Rattle.pip_solver.specs.steps.Promises.{Tells}
use Rattle.pip_solver.specs.steps.Frames.{framing, under, joins, seconds, frames_for, IsReady, AreReady, Proceeds}
use Rattle.pip_solver.proofs.FrameStack.{turned_last}

-- a step that stops
pub stops_under : (n left k : ℕ) (old : List frame.the_data) (trees : List Tree) (m : Node) (s : QuestionStop)
    → Tells {A = Next} (Err s) k (step n left m)
    → Tells {A = Tree} (Err s) k (under n old trees (whole n left m))
stops_under n left k old trees m stop.Wide told =
    (told.0, resumed_stops n left m (framing (reverse old) trees) (run.wide told.0 k) told.1)
stops_under n left k old trees m stop.Spent told =
    (resumed_stops n left m (framing (reverse old) trees) run.spent told.0, told.1)
stops_under n left k old trees m stop.NoMemory told = tt

-- a step that ends the node
pub ends_under : (n left k : ℕ) (old : List frame.the_data) (trees : List Tree) (m : Node) (tree : Tree)
    → step n left m ≡ Ok (node.ends tree, k)
    → under n old trees (whole n left m) ≡ under n old trees (Ok (tree, k))
ends_under n left k old trees m tree h =
    resumed_step n left m (framing (reverse old) trees) (Ok (node.ends tree, k)) h

pub initial_ends : (n left k : ℕ) (old : List frame.the_data) (trees news : List Tree) (m : Node) (next : Tableau)
    → AreReady n (reverse old) → length trees ≡ joins (reverse old)
    → step n left m ≡ Ok (node.ends initial, k) → news ≡ initial ∷ trees
    → Proceeds n (under n old trees (whole n left m)) left old old news k next (Ok progress.Ended)
initial_ends n left k old trees news m next sides stands h made = (
  ends_under n left k old trees m initial h ∙ sym
      (ap (λ (us : List Tree). under n old (drop 1 us) (Ok (top us, k))) made),
  ap (λ (us : List Tree). length us) made ∙ ap suc stands,
  refl,
  sides,
)

-- a step that goes on
pub goes_under : (n left k : ℕ) (old new : List frame.the_data) (trees : List Tree) (m next : Tableau)
    (x : move.the_data) → IsReady n m → AreReady n (reverse old)
    → length trees ≡ joins (reverse old) → step n left (node_of m) ≡ Ok (next_of x next, k) → AreGoing n x next
    → new ≡ old ++ frames_for x
    → Proceeds n (under n old trees (whole n left (node_of m))) left old new trees k next (Ok progress.Goes)
goes_under n left k old new trees m next move.Goes ready sides stands h going is =
    let e : new ≡ old = is ∙ append-nil old in
    let costs = subst (λ (r : Counted Next). Costs left r) h (costs_step n left (node_of m)) in
    let leads = step_nodes n left (node_of m) (node.goes (node_of next)) k ready.0 h in
    let less : k + k + seconds (reverse old) < left + left + seconds (reverse old) = omega arith in
    subst (λ (fs : List frame.the_data). Proceeds n (under n old trees (whole n left (node_of m))) left old fs trees k
    next (Ok progress.Goes)) (sym e) (
      resumed_step n left (node_of m) (framing (reverse old) trees) (Ok (node.goes (node_of next), k)) h,
      stands,
      less,
      sides,
      (leads.0, going),
    )
goes_under n left k old new trees m next (move.Binds form divisor) ready sides stands h going is =
    let e = turned_last new old (frame.Binding form divisor) is in
    let costs = subst (λ (r : Counted Next). Costs left r) h (costs_step n left (node_of m)) in
    let leads = step_nodes n left (node_of m) (node.binds form divisor (node_of next)) k ready.0 h in
    let s = ap (λ (fs : List frame.the_data). seconds fs) e in
    let less : k + k + seconds (reverse new) < left + left + seconds (reverse old) = omega arith in (
      resumed_step n left (node_of m) (framing (reverse old) trees)
          (Ok (node.binds form divisor (node_of next), k)) h
          ∙ sym (ap (λ (fs : List frame.the_data). resumed n (framing fs trees) (whole n k (node_of next))) e),
      stands ∙ sym (ap (λ (fs : List frame.the_data). joins fs) e),
      less,
      subst (λ (fs : List frame.the_data). AreReady n fs) (sym e) sides,
      (leads.0, going),
    )
goes_under n left k old new trees m next (move.Splits test second) ready sides stands h going is =
    let e = turned_last new old (frame.Second test second) is in
    let costs = subst (λ (r : Counted Next). Costs left r) h (costs_step n left (node_of m)) in
    let leads = step_nodes n left (node_of m) (node.splits test (node_of next) (node_of second)) k ready.0 h in
    let s = ap (λ (fs : List frame.the_data). seconds fs) e in
    let less : k + k + seconds (reverse new) < left + left + seconds (reverse old) = omega arith in (
      resumed_step n left (node_of m) (framing (reverse old) trees)
          (Ok (node.splits test (node_of next) (node_of second), k)) h
          ∙ sym (ap (λ (fs : List frame.the_data). resumed n (framing fs trees) (whole n k (node_of next))) e),
      stands ∙ sym (ap (λ (fs : List frame.the_data). joins fs) e),
      less,
      subst (λ (fs : List frame.the_data). AreReady n fs) (sym e) ((leads.1, going.1), sides),
      (leads.0, going.0),
    )
