-- What is printed is held in memory; trees of a plan can be printed.
use Rattle.scop_syntax.proofs.Common.{◌≡◌, sym, subst, ℕ, ◌^◌, ◌<◌, [], length, Result, Ok, Err, IfOk, arith, Program}
use Rattle.io_ports.specs.Writes.{SinkShows}
use Rattle.loop_tree.specs.Marks.{FlatAll}
use Rattle.loop_tree.specs.Shape.{NestAllTo, TreesAreOf, TreesAreOver, TreesAreUpTo}
use Rattle.loop_tree.specs.Tiling.{Tiling}
use Rattle.loop_tree.specs.Tree.{Trees}
use Rattle.plan_search.specs.Trees.{AreTreesOf}
use Rattle.c_printer.specs.Printable.{AreNodes}
use Rattle.polypar.specs.declared.told.Told as code
use Rattle.polypar.specs.Told.{Told, IsHeld, told_of}
use Rattle.polypar.specs.steps.Promises.{AnswersMade, AnswersTold}
use Rattle.plan_search.specs.Status.{Status}
use Rattle.plan_search.specs.Status.TheVariants.{Done, Usage, Refused, BadData, Outside, ReadFault}
use Rattle.plan_search.specs.Status.TheVariants.{WriteFault, NoMemory, Rejected}

-- the code's lines and text lie in memory
pub held : (t : code.Told) → IsHeld (told_of t)
held t = record {
  lines = omega (arith, t.lines.ok.0, t.lines.ok.1, t.lines.small);
  text = omega (arith, t.text.ok.0, t.text.ok.1, t.text.small);
}

-- what was told of something made is what is asked, where what was made is
told_answers : (IsAsked : Told → Type 0) (t : code.Told) (status : Status) (out out_after err err_after : SinkShows)
    → IsAsked (told_of t) → AnswersTold (λ u. (u ≡ told_of t) × IsHeld u) status out out_after err err_after
    → AnswersTold (λ u. IsAsked u × IsHeld u) status out out_after err err_after
told_answers IsAsked t Done out out_after err err_after asked (u, (same, kept), told) =
    (u, (subst IsAsked (sym same) asked, kept), told)
told_answers IsAsked t Usage out out_after err err_after asked answer = answer
told_answers IsAsked t (Refused refusal) out out_after err err_after asked answer = answer
told_answers IsAsked t (BadData refusal) out out_after err err_after asked answer = answer
told_answers IsAsked t (Outside f) out out_after err err_after asked answer = answer
told_answers IsAsked t (Rejected kind line) out out_after err err_after asked answer = answer
told_answers IsAsked t ReadFault out out_after err err_after asked answer = answer
told_answers IsAsked t WriteFault out out_after err err_after asked (u, (same, kept), cut) =
    (u, (subst IsAsked (sym same) asked, kept), cut)
told_answers IsAsked t NoMemory out out_after err err_after asked answer = answer

-- what was made answers what is asked, where it is that
pub made_answers : {E : Type 0} (IsAsked : Told → Type 0) (made : Result code.Told E) (status : Status)
    (out out_after err err_after : SinkShows) → IfOk made (λ t. IsAsked (told_of t))
    → AnswersMade made status out out_after err err_after
    → AnswersTold (λ u. IsAsked u × IsHeld u) status out out_after err err_after
made_answers IsAsked (Ok t) status out out_after err err_after asked answer =
    told_answers IsAsked t status out out_after err err_after asked answer
made_answers IsAsked (Err e) status out out_after err err_after asked (spent, same) =
    subst (λ s. AnswersTold (λ u. IsAsked u × IsHeld u) s out out_after err err_after) (sym spent) same

-- the law of flat trees
abbrev pub FlatArePrinted : Type 0
FlatArePrinted = (program : Program) (n : ℕ) (ts : Trees) → FlatAll ts → TreesAreOf program ts
    → TreesAreOver (length program.parameters) ts → TreesAreUpTo (2 ^ 45) ts → NestAllTo n ts → n < 2 ^ 32
    → AreNodes program 0 ts

-- trees of a plan can be printed
pub trees_printed : FlatArePrinted → (program : Program) (plan : Tiling) (ts : Trees) → AreTreesOf program [] plan ts
    → AreNodes program 0 ts
trees_printed law program plan ts is =
    law program is.nested.0 ts is.flat is.statements is.over is.small is.nested.2 is.nested.1
