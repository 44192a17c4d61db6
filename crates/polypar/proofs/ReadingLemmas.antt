-- The text of loops is read back as their trees.
use Rattle.scop_syntax.proofs.Common.{◌≡◌, ◌∙◌, ap, inl, inr, ℕ, Bool, false, List, [], Some, IsKernel, Program}
use Rattle.scop_parser.specs.Spelling.{SpellsProgram}
use Rattle.scop_parser.specs.Names.{HasFreeNames}
use Rattle.loop_tree.specs.Tiling.{Tiling}
use Rattle.loop_tree.specs.Tree.{Trees}
use Rattle.plan_search.specs.Trees.{AreTreesOf}
use Rattle.plan_search.specs.Planned.{ArePlanned}
use Rattle.c_printer.specs.Naming.{HasWords}
use Rattle.c_printer.specs.Nodes.{text_of}
use Rattle.c_printer.specs.Printable.{AreNodes, IsNamed}
use Rattle.c_printer.specs.Reading.{read_text}
use Rattle.polypar.specs.Told.{Told}
use Rattle.polypar.specs.Emitting.{IsLoopsText, ReadsAsLoops}
use Rattle.polypar.proofs.NamesLemmas.{has_words}
use Rattle.polypar.proofs.PrintLemmas.{FlatArePrinted, trees_printed}

-- the laws of texts and of trees on which this stands
pub record Laws : Type 0 where
  pub kernel : (text : List ℕ) (program : Program) → SpellsProgram text program → IsKernel program
  pub free : (text : List ℕ) (program : Program) → SpellsProgram text program → HasFreeNames program
  pub named : (program : Program) → IsKernel program → HasWords program → IsNamed program
  pub nodes : FlatArePrinted
  pub read : (program : Program) (ts : Trees) → IsNamed program → AreNodes program 0 ts
      → read_text program (text_of program ts) ≡ Some ts

-- planned trees carry out their plan
pub planned_carried : (tile budget : ℕ) (report : Bool) (program : Program) (plan : Tiling) (lines : List ℕ)
    (ts : Trees) → ArePlanned tile budget report [] program plan lines ts → AreTreesOf program [] plan ts
planned_carried tile budget report program plan lines ts (inl tiled) = tiled.carried
planned_carried tile budget report program plan lines ts (inr own) = own.carried

-- the text of loops of a program that a text spells
pub loops_are_read : Laws → (tile budget : ℕ) (text : List ℕ) (program : Program) (told : Told)
    → SpellsProgram text program → IsLoopsText tile budget program told → ReadsAsLoops tile budget program told
loops_are_read laws tile budget text program told spelled is =
    let named = laws.named program (laws.kernel text program spelled)
    (has_words program (laws.free text program spelled)) in
    let carried = planned_carried tile budget false program is.plan told.lines is.trees is.planned in
    let nodes = trees_printed laws.nodes program is.plan is.trees carried in
    record {
      plan = is.plan;
      trees = is.trees;
      planned = is.planned;
      read = ap (read_text program) is.text ∙ laws.read program is.trees named nodes;
    }
