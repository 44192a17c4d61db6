-- A step of a node, from the calls that it makes.
use Rattle.whole_numbers.proofs.Common.{◌≡◌, ℕ, true, false, refl, subst, sym, Result, Ok, if◌then◌else◌}
use Rattle.quast_trees.specs.Tree.{initial}
use Rattle.checked_tableau.specs.Nodes.{Node, Next, Counted, ends, chained, context_holds, looked, step}
use Rattle.pip_solver.specs.declared.node.Tableau.{Tableau}
use Rattle.pip_solver.specs.declared.question.QuestionStop.{QuestionStop}
use Rattle.pip_solver.specs.declared.step.Next.TheVariants as next
use Rattle.pip_solver.specs.steps.Steps.{Steps}

-- a call that answers is followed by what is chained to its answer
pub steps_on : {A : Type 0} (result : Result next.the_data QuestionStop) (n left k : ℕ) (new : Tableau) (q : Counted A)
    (f : A → ℕ → Counted Next) (x : A) → q ≡ Ok (x, k)
    → Steps result n left new (f x k) → Steps result n left new (chained q f)
steps_on {A = A} result n left k new q f x is steps = subst (λ (q : Counted A). Steps result n left new (chained q f))
    (sym is) steps

-- a step, where the node begins and where it goes on
pub step-on : (n left : ℕ) (node : Node) → node.begins ≡ false → step n left node ≡ looked n left node
unfolding step
step-on n left node goes_on = rw goes_on refl

pub step-begins : (n left : ℕ) (node : Node) → node.begins ≡ true
    → step n left node ≡ chained (context_holds left node.parameters node.context)
    (λ holds rest. if holds then looked n rest node else Ok (ends initial, rest))
unfolding step
step-begins n left node begins = rw begins refl
