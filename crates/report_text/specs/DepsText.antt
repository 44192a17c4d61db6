-- The text of the sources of reads: a line for each read, by statement and read, both numbered from 1. Forms speak of
-- the kernel's parameters by name, of the turns of the loops round the reader as `$1`, `$2` and so on, the outermost
-- first, and of what a `let` binds as `#1`, `#2` and so on (sources as quasts: Feautrier, Dataflow analysis of array
-- and
-- scalar references, 1991).
use Rattle.std.specs.Prelude.{ℕ, zero, suc, List, [], ◌∷◌, ◌++◌, length, codes, decimal, Option, Some, None, slice_get}
use Rattle.std.specs.List.{concat}
use Rattle.scop_lexer.specs.Bytes.{Text}
use Rattle.form_text.specs.Numerals.{numeral}
use Rattle.scop_syntax.specs.Tree.{Access, Program}
use Rattle.iteration_domains.specs.Model.{Modelled, model_of}
use Rattle.quast_trees.specs.Postfix.{tree_of}
use Rattle.dataflow.specs.Stop.TheVariants as solver
use Rattle.dataflow.specs.ReadSources.{reads_of}
use Rattle.dataflow.specs.declared.source.ReadSource.{ReadSource}
use Rattle.dataflow.specs.declared.source.ReadSource.TheVariants as source
use Rattle.dataflow.specs.declared.source.SourceStop.{SourceStop}
use Rattle.dataflow.specs.declared.source.SourceStop.TheVariants as stop
use Rattle.quast_text.specs.Text.{quast_text}
use Rattle.report_text.specs.StatusText.{array_name}

-- the turn of the j-th loop from the outside
abbrev pub turn_name : ℕ → Text
turn_name j = codes "$" ++ numeral j

-- those of d loops, the outermost first
abbrev pub turn_names : ℕ → List Text
turn_names zero = []
turn_names (suc d) = turn_names d ++ turn_name (suc d) ∷ []

-- why a candidate's problem leaves a read unresolved; no read is so for want of memory, which has no text
abbrev pub solver_text : solver.the_data → Text
solver_text (solver.Wide told moves) = codes "unresolved wide"
solver_text (solver.Spent told moves) = codes "unresolved spent " ++ decimal moves
solver_text solver.NoMemory = []

-- why a read is unresolved
abbrev pub stop_text : SourceStop → Text
stop_text (stop.Solver told) = solver_text told
stop_text (stop.Join nodes) = codes "unresolved nodes " ++ decimal nodes

-- the source of a read
abbrev pub source_text : List Text → ReadSource → Text
source_text names (source.Resolved quast) = quast_text names 0 (tree_of quast)
source_text names (source.Unresolved told) = stop_text told

-- the array that an access touches
abbrev pub array_of : Program → Option Access → Text
array_of program None = []
array_of program (Some access) = array_name (Some program) access.array

-- what the forms of a statement's reads speak of: the parameters, then the turns of the loops round it
abbrev pub names_at : Program → Modelled → List Text
names_at program s = program.parameters ++ turn_names (length s.loops)

-- `SN read R ARRAY: ` and the source
abbrev pub read_text : Program → Modelled → ℕ → ReadSource → Text
read_text program s k from =
    concat (codes "S" ∷ decimal (suc s.number) ∷ codes " read " ∷ decimal k ∷ codes " "
    ∷ array_of program (slice_get s.accesses k) ∷ codes ": " ∷ source_text (names_at program s) from ∷ codes "\n" ∷ [])

-- the line of a read of the statement, where it is one of the model
abbrev pub line_of : Program → Option Modelled → ℕ → ReadSource → Text
line_of program None k from = []
line_of program (Some s) k from = read_text program s k from

-- the lines of reads, each by its statement's number and its own, with their sources
abbrev pub lines_of : Program → List (ℕ × ℕ) → List ReadSource → Text
lines_of program [] sources = []
lines_of program (r ∷ rs) [] = []
lines_of program (r ∷ rs) (s ∷ ss) =
    line_of program (slice_get (model_of program).statements r.0) r.1 s ++ lines_of program rs ss

-- the text of the sources of a kernel's reads
abbrev pub deps_text : Program → List ReadSource → Text
deps_text program sources = lines_of program (reads_of (model_of program)) sources
