-- What the text of sources tells: each quast, and of each unresolved read why it is so.
use Rattle.std.specs.Prelude.{◌≡◌, List, [], ◌∷◌, ⊤}
use Rattle.quast_trees.specs.Postfix.{tree_of}
use Rattle.dataflow.specs.Stop.TheVariants as solver
use Rattle.dataflow.specs.declared.source.ReadSource.{ReadSource}
use Rattle.dataflow.specs.declared.source.ReadSource.TheVariants as source
use Rattle.dataflow.specs.declared.source.SourceStop.{SourceStop}
use Rattle.dataflow.specs.declared.source.SourceStop.TheVariants as stop

-- two problems stop in one way; which problem it is is not told
abbrev pub StopAlike : solver.the_data → solver.the_data → Type 0
StopAlike (solver.Wide a i) (solver.Wide b j) = ⊤
StopAlike (solver.Spent a i) (solver.Spent b j) = i ≡ j
StopAlike _ _ = ⊥

-- two reads are unresolved for one cause
abbrev pub HaltAlike : SourceStop → SourceStop → Type 0
HaltAlike (stop.Solver a) (stop.Solver b) = StopAlike a b
HaltAlike (stop.Join i) (stop.Join j) = i ≡ j
HaltAlike _ _ = ⊥

-- two sources say the same
abbrev pub SaySame : ReadSource → ReadSource → Type 0
SaySame (source.Resolved a) (source.Resolved b) = tree_of a ≡ tree_of b
SaySame (source.Unresolved a) (source.Unresolved b) = HaltAlike a b
SaySame _ _ = ⊥

-- each of these says the same as that at its place
abbrev pub AllSaySame : List ReadSource → List ReadSource → Type 0
AllSaySame [] [] = ⊤
AllSaySame (a ∷ more) (b ∷ rest) = SaySame a b × AllSaySame more rest
AllSaySame _ _ = ⊥
