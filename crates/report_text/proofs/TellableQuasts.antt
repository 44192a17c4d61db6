-- A quast of a kernel's read is one that its text tells.
use Rattle.scop_syntax.proofs.Common.{◌∙◌, ap, sym, ℕ, ◌+◌, List, map, Option, Some, None, get_map}
use Rattle.iteration_domains.specs.Model.{Modelled, KernelModel}
use Rattle.quast_trees.specs.Source.{Source}
use Rattle.quast_trees.specs.Tree.{Tree, initial, leaf, branch, bind, Speaks}
use Rattle.quast_text.specs.Reading.{IsOneOf, IsTellable}
use Rattle.dataflow.specs.Told.{IsInstance, NamesInstances}

-- the loops round each statement, by its number
abbrev pub loops_of : KernelModel → List (List ℕ)
loops_of model = map (λ s. s.loops) model.statements

one_of : (model : KernelModel) (o : Option Source) → IsInstance model o → IsOneOf (loops_of model) o
one_of model None h = absurd h
one_of model (Some s) h =
    get_map (λ (t : Modelled). t.loops) model.statements s.statement h.0 h.1
    ∙ ap (λ (ls : List ℕ). Some ls) (sym h.2)

-- a tree over n variables whose leaves are instances
pub tellable : (model : KernelModel) (n : ℕ) (t : Tree) → Speaks n t → NamesInstances model t
    → IsTellable (loops_of model) n t
tellable model n initial s i = tt
tellable model n (leaf l) s i = (one_of model l.source i, s.0, s.1)
tellable model n (branch test x y) s i = (s.0, tellable model n x s.1 i.0, tellable model n y s.2 i.1)
tellable model n (bind f d x) s i = (s.0, s.1, tellable model (n + 1) x s.2 i)
