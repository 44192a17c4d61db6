-- The line that tells a status on the error stream, and the exit status of the process.
use Rattle.std.specs.Prelude.{ℕ, ℤ, List, [], ◌++◌, map, slice_index_or, codes, decimal, Option, Some, None}
use Rattle.std.specs.Fmt.{signed_decimal}
use Rattle.scop_syntax.specs.Tree.{Program}
use Rattle.scop_meaning.specs.declared.index.Outside.{Outside as Subscript}
use Rattle.plan_check.specs.declared.kinds.FaultKind.{FaultKind}
use Rattle.plan_check.specs.declared.kinds.FaultKind.TheVariants as fault
use Rattle.data_text.specs.DataRefusal.{DataRefusal}
use Rattle.data_text.specs.DataRefusal.TheVariants as rule
use Rattle.report_text.specs.declared.status.Status.{Status}
use Rattle.report_text.specs.declared.status.Status.TheVariants.{Done, Usage, Refused, BadData, Outside, ReadFault}
use Rattle.report_text.specs.declared.status.Status.TheVariants.{WriteFault, NoMemory, Rejected}
use Rattle.scop_parser.specs.RefusalKind.{Kind as RefusalKind}
use Rattle.scop_parser.specs.RefusalKind.TheVariants.{Character, Directive, LiteralRange}
use Rattle.scop_parser.specs.RefusalKind.TheVariants.{UnendedComment}
use Rattle.scop_parser.specs.RefusalKind.TheVariants.{Token, Unended}
use Rattle.scop_parser.specs.RefusalKind.TheVariants.{UnknownName, Redeclared, NotAffine, Coefficient}
use Rattle.scop_parser.specs.RefusalKind.TheVariants.{LoopForm, Condition}
use Rattle.scop_parser.specs.RefusalKind.TheVariants.{SignedValue, ShiftCount, Division, Call, Rank}
use Rattle.scop_parser.specs.RefusalKind.TheVariants.{IteratorOutside}
use Rattle.scop_parser.specs.RefusalKind.TheVariants.{Depth, Statements, Arrays, Parameters, Reads}
use Rattle.scop_parser.specs.RefusalKind.TheVariants.{TooLong, Width}
use Rattle.scop_parser.specs.declared.refusal.Refusal.{Refusal}

-- a number between two texts
unfoldable pub numbered : List ℕ → ℕ → List ℕ → List ℕ
numbered front number end = front ++ (decimal number ++ end)

-- a name between two texts
unfoldable pub named : List ℕ → List ℕ → List ℕ → List ℕ
named front name end = front ++ (name ++ end)

-- `refused: KIND`
abbrev pub kind_text : RefusalKind → List ℕ
kind_text Character = codes "refused: Character"
kind_text Directive = codes "refused: Directive"
kind_text LiteralRange = codes "refused: LiteralRange"
kind_text UnendedComment = codes "refused: UnendedComment"
kind_text Token = codes "refused: Token"
kind_text Unended = codes "refused: Unended"
kind_text UnknownName = codes "refused: UnknownName"
kind_text Redeclared = codes "refused: Redeclared"
kind_text NotAffine = codes "refused: NotAffine"
kind_text Coefficient = codes "refused: Coefficient"
kind_text LoopForm = codes "refused: LoopForm"
kind_text Condition = codes "refused: Condition"
kind_text SignedValue = codes "refused: SignedValue"
kind_text ShiftCount = codes "refused: ShiftCount"
kind_text Division = codes "refused: Division"
kind_text Call = codes "refused: Call"
kind_text Rank = codes "refused: Rank"
kind_text IteratorOutside = codes "refused: IteratorOutside"
kind_text Depth = codes "refused: Depth"
kind_text Statements = codes "refused: Statements"
kind_text Arrays = codes "refused: Arrays"
kind_text Parameters = codes "refused: Parameters"
kind_text Reads = codes "refused: Reads"
kind_text TooLong = codes "refused: TooLong"
kind_text Width = codes "refused: Width"

-- ` LINE:COLUMN` and a line feed
abbrev pub place_text : ℕ → ℕ → List ℕ
place_text line column = numbered (codes " ") line (codes ":") ++ numbered [] column (codes "\n")

-- `refused: KIND LINE:COLUMN` and a line feed
abbrev pub refusal_text : Refusal → List ℕ
refusal_text refusal = kind_text refusal.kind ++ place_text refusal.line refusal.column

-- the name of a kernel's parameter; none where no kernel was read
abbrev pub parameter_name : Option Program → ℕ → List ℕ
parameter_name (Some program) i = slice_index_or program.parameters i []
parameter_name None i = []

-- the name of a kernel's array; none where no kernel was read
abbrev pub array_name : Option Program → ℕ → List ℕ
array_name (Some program) j = slice_index_or (map (λ d. d.name) program.arrays) j []
array_name None j = []

-- `V` and a line feed
abbrev pub value_line : ℤ → List ℕ
value_line value = signed_decimal value ++ codes "\n"

-- a name behind a text, and `DIM value ` behind a space
abbrev pub dimension_text : List ℕ → List ℕ → ℕ → List ℕ
dimension_text front name dimension = named front name [] ++ numbered (codes " ") dimension (codes " value ")

-- `data: Extent NAME DIM value V` and a line feed
abbrev pub extent_text : List ℕ → ℕ → ℤ → List ℕ
extent_text name dimension value = dimension_text (codes "data: Extent ") name dimension ++ value_line value

-- `data: Count line L expected E found F` and a line feed
abbrev pub count_text : ℕ → ℕ → ℕ → List ℕ
count_text line expected found =
    (numbered (codes "data: Count line ") line [] ++ numbered (codes " expected ") expected [])
    ++ numbered (codes " found ") found (codes "\n")

-- why data was refused
abbrev pub data_text : Option Program → DataRefusal → List ℕ
data_text program (rule.Line line) = numbered (codes "data: Line line ") line (codes "\n")
data_text program (rule.UnknownName line) = numbered (codes "data: UnknownName line ") line (codes "\n")
data_text program (rule.Repeated line) = numbered (codes "data: Repeated line ") line (codes "\n")
data_text program (rule.Number line) = numbered (codes "data: Number line ") line (codes "\n")
data_text program (rule.ParameterRange line) = numbered (codes "data: ParameterRange line ") line (codes "\n")
data_text program (rule.Missing i) = named (codes "data: Missing ") (parameter_name program i) (codes "\n")
data_text program (rule.Extent j dimension value) = extent_text (array_name program j) dimension value
data_text program (rule.Cells total) = numbered (codes "data: Cells ") total (codes "\n")
data_text program (rule.Count line expected found) = count_text line expected found

-- `V extent E` and a line feed
abbrev pub bounds_text : ℤ → ℕ → List ℕ
bounds_text value extent = signed_decimal value ++ numbered (codes " extent ") extent (codes "\n")

-- `outside: SN access A dimension D value V extent E` and a line feed
abbrev pub outside_text : Subscript → List ℕ
outside_text f = (numbered (codes "outside: S") f.stmt [] ++ numbered (codes " access ") f.access [])
    ++ (numbered (codes " dimension ") f.dim (codes " value ") ++ bounds_text f.value f.extent)

-- `rejected: KIND line `
abbrev pub fault_text : FaultKind → List ℕ
fault_text fault.Form = codes "rejected: Form line "
fault_text fault.Row = codes "rejected: Row line "
fault_text fault.Division = codes "rejected: Division line "
fault_text fault.Goal = codes "rejected: Goal line "
fault_text fault.Wide = codes "rejected: Wide line "

-- `rejected: KIND line LINE` and a line feed
abbrev pub rejection_text : FaultKind → ℕ → List ℕ
rejection_text kind line = numbered (fault_text kind) line (codes "\n")

-- the commands and options, as the usage line gives them
abbrev pub usage_text : List ℕ
usage_text =
    codes "usage: polypar run|schedule|deps|emit|gen|certify|check [--workers 1..64] [--tile 1..1024] [--budget 1..20000] [--report] [--expand] [--sync waves|tiles] [--reduce]\n"

-- what the error stream gains as the last act of a call; nothing where it is Done
abbrev pub status_text : Option Program → Status → List ℕ
status_text program Done = []
status_text program Usage = usage_text
status_text program (Refused refusal) = refusal_text refusal
status_text program (BadData refusal) = data_text program refusal
status_text program (Outside f) = outside_text f
status_text program (Rejected kind line) = rejection_text kind line
status_text program ReadFault = codes "read fault\n"
status_text program WriteFault = codes "write fault\n"
status_text program NoMemory = codes "no memory\n"

-- the exit status of the process
abbrev pub exit_code_of : Status → ℕ
exit_code_of Done = 0
exit_code_of Usage = 1
exit_code_of (Refused _) = 2
exit_code_of (BadData _) = 3
exit_code_of (Outside _) = 4
exit_code_of ReadFault = 5
exit_code_of WriteFault = 6
exit_code_of NoMemory = 7
exit_code_of (Rejected _ _) = 8
