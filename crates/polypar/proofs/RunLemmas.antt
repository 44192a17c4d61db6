-- From what a status says of a kernel's data to what it says of the whole input.
use Rattle.scop_syntax.proofs.Common.{◌≡◌, subst, refl, inl, inr, ℕ, ◌^◌, ◌<◌, ℤ, List, length, Program}
use Rattle.io_ports.specs.Writes.{SinkShows}
use Rattle.scop_parser.specs.Spelling.{SpellsProgram, IsRefusedAs}
use Rattle.scop_parser.specs.declared.refusal.Refusal.{Refusal}
use Rattle.data_text.specs.Cases.{Says}
use Rattle.plan_search.specs.Status.{Status}
use Rattle.plan_search.specs.Status.TheVariants.{Done, Usage, Refused, BadData, Outside, ReadFault}
use Rattle.plan_search.specs.Status.TheVariants.{WriteFault, NoMemory, Rejected}
use Rattle.command_line.specs.declared.command.Command.{Command}
use Rattle.command_line.specs.declared.command.Command.TheVariants.{Run, OfKernel, Check, Gen}
use Rattle.command_line.specs.declared.command.KernelCommand.{KernelCommand}
use Rattle.command_line.specs.declared.command.GeneratedKernel.{GeneratedKernel}
use Rattle.command_line.specs.declared.command.RunOptions.{RunOptions}
use Rattle.polypar.specs.Cut.{kernel_part, data_part}
use Rattle.polypar.specs.Case.{IsShort}
use Rattle.polypar.specs.Told.{Told, IsHeld}
use Rattle.polypar.specs.Runs.{IsSummaryText}
use Rattle.polypar.specs.Deserves.{too_long, AsksFor}
use Rattle.polypar.specs.steps.Promises.{AnswersCase, AnswersCertificate, AnswersData, AnswersProgram, AnswersTold}
use Rattle.polypar.specs.steps.Promises.{AnswersKernel, AnswersFor}
use Rattle.polypar.specs.steps.Promises.{AreUntouched, AsksData, ReadsKernel}

-- the answer to a case that the data says is the answer to the data
pub data_answers : (options : RunOptions) (status : Status) (program : Program) (text : List ℕ)
    (params : List ℤ) (contents : List (List ℕ)) (out out_after err err_after : SinkShows)
    → Says text program params contents
    → AnswersCase options status program params contents out out_after err err_after
    → AnswersData options status program text out out_after err err_after
data_answers options Done program text params contents out out_after err err_after said answer =
    (answer.0, (params, contents, said, answer.1), answer.2)
data_answers options Usage program text params contents out out_after err err_after said answer = absurd answer
data_answers options (Refused refusal) program text params contents out out_after err err_after said answer =
    absurd answer
data_answers options (BadData refusal) program text params contents out out_after err err_after said answer =
    absurd answer
data_answers options (Outside f) program text params contents out out_after err err_after said answer =
    (inl (params, contents, said, answer.0), answer.1)
data_answers options (Rejected kind line) program text params contents out out_after err err_after said answer =
    absurd answer
data_answers options ReadFault program text params contents out out_after err err_after said answer =
    absurd answer
data_answers options WriteFault program text params contents out out_after err err_after said answer =
    (answer.0, (params, contents, said, answer.1), answer.2)
data_answers options NoMemory program text params contents out out_after err err_after said answer = answer.1

-- nothing was written
pub untouched : (out err : SinkShows) → AreUntouched out out err err
untouched out err = record { out_is = refl; err_is = refl }

-- what is to be told of the data of a program is what `run` asks of an input that spells the program
run_asked : (options : RunOptions) (input : List ℕ) (program : Program) (told : Told) → IsShort input
    → SpellsProgram (kernel_part input) program → AsksData options program (data_part input) told
    → AsksFor (Run options) input told
run_asked options input program told short spelled asked = (
  record {
    short = short;
    program = program;
    spelled = spelled;
    params = asked.0;
    contents = asked.1;
    said = asked.2;
    inside = asked.3.0;
  },
  asked.3.1,
  asked.3.2,
)

-- so the answer to the data is the answer of `run` to the input
input_answers_of : (options : RunOptions) (status : Status) (input : List ℕ) (program : Program)
    (out out_after err err_after : SinkShows)
    → IsShort input → SpellsProgram (kernel_part input) program
    → AnswersData options status program (data_part input) out out_after err err_after
    → AnswersFor (Run options) status input out out_after err err_after
input_answers_of options Done input program out out_after err err_after short spelled answer =
    (answer.0, run_asked options input program answer.0 short spelled answer.1, answer.2)
input_answers_of options Usage input program out out_after err err_after short spelled answer = absurd answer
input_answers_of options (Refused refusal) input program out out_after err err_after short spelled answer =
    absurd answer
input_answers_of options (BadData refusal) input program out out_after err err_after short spelled answer =
    (inl (short, inl (program, spelled, answer.0)), answer.1)
input_answers_of options (Outside f) input program out out_after err err_after short spelled answer =
    (inl (short, inl (program, spelled, answer.0)), answer.1)
input_answers_of options (Rejected kind line) input program out out_after err err_after short spelled answer =
    absurd answer
input_answers_of options ReadFault input program out out_after err err_after short spelled answer =
    absurd answer
input_answers_of options WriteFault input program out out_after err err_after short spelled answer =
    (answer.0, run_asked options input program answer.0 short spelled answer.1, answer.2)
input_answers_of options NoMemory input program out out_after err err_after short spelled answer = answer

-- the answer to a program is the answer to an input that spells it
spelled_answers_of : (asked : KernelCommand) (status : Status) (input : List ℕ) (program : Program)
    (out out_after err err_after : SinkShows)
    → IsShort input → SpellsProgram (kernel_part input) program
    → AnswersProgram asked status program out out_after err err_after
    → AnswersFor (OfKernel asked) status input out out_after err err_after
spelled_answers_of asked Done input program out out_after err err_after short spelled answer =
    (answer.0, (record { short = short; program = program; spelled = spelled }, answer.1.0, answer.1.1), answer.2)
spelled_answers_of asked Usage input program out out_after err err_after short spelled answer = absurd answer
spelled_answers_of asked (Refused refusal) input program out out_after err err_after short spelled answer =
    absurd answer
spelled_answers_of asked (BadData refusal) input program out out_after err err_after short spelled answer =
    absurd answer
spelled_answers_of asked (Outside f) input program out out_after err err_after short spelled answer = absurd answer
spelled_answers_of asked (Rejected kind line) input program out out_after err err_after short spelled answer =
    absurd answer
spelled_answers_of asked ReadFault input program out out_after err err_after short spelled answer = absurd answer
spelled_answers_of asked WriteFault input program out out_after err err_after short spelled answer =
    (answer.0, (record { short = short; program = program; spelled = spelled }, answer.1.0, answer.1.1), answer.2)
spelled_answers_of asked NoMemory input program out out_after err err_after short spelled answer = answer

-- the answer to the certificate behind a program is the answer of `check` to an input that spells the program
checked_answers_of : (status : Status) (input : List ℕ) (program : Program) (out out_after err err_after : SinkShows)
    → IsShort input → SpellsProgram (kernel_part input) program
    → AnswersCertificate status program (data_part input) out out_after err err_after
    → AnswersFor Check status input out out_after err err_after
checked_answers_of Done input program out out_after err err_after short spelled answer =
    (answer.0, (record { short = short; program = program; spelled = spelled }, answer.1), answer.2)
checked_answers_of Usage input program out out_after err err_after short spelled answer = absurd answer
checked_answers_of (Refused refusal) input program out out_after err err_after short spelled answer = absurd answer
checked_answers_of (BadData refusal) input program out out_after err err_after short spelled answer = absurd answer
checked_answers_of (Outside f) input program out out_after err err_after short spelled answer = absurd answer
checked_answers_of (Rejected kind line) input program out out_after err err_after short spelled answer =
    (inl (short, inl (program, spelled, answer.0)), answer.1)
checked_answers_of ReadFault input program out out_after err err_after short spelled answer = absurd answer
checked_answers_of WriteFault input program out out_after err err_after short spelled answer =
    (answer.0, (record { short = short; program = program; spelled = spelled }, answer.1), answer.2)
checked_answers_of NoMemory input program out out_after err err_after short spelled answer = answer

-- of a command
command_answers_of : (command : Command) (status : Status) (input : List ℕ) (program : Program)
    (out out_after err err_after : SinkShows)
    → IsShort input → SpellsProgram (kernel_part input) program
    → AnswersKernel command status program (data_part input) out out_after err err_after
    → AnswersFor command status input out out_after err err_after
command_answers_of (Run options) status input program out out_after err err_after short spelled answer =
    input_answers_of options status input program out out_after err err_after short spelled answer
command_answers_of (OfKernel asked) status input program out out_after err err_after short spelled answer =
    spelled_answers_of asked status input program out out_after err err_after short spelled answer
command_answers_of Check status input program out out_after err err_after short spelled answer =
    checked_answers_of status input program out out_after err err_after short spelled answer
command_answers_of (Gen generated options) status input program out out_after err err_after short spelled answer =
    absurd answer

-- the summary of a generated kernel is what `gen` asks for, whatever the input
pub summary_answers : (kernel : GeneratedKernel) (options : RunOptions) (status : Status) (input : List ℕ)
    (out out_after err err_after : SinkShows)
    → AnswersTold (λ told. IsSummaryText kernel options told × IsHeld told) status out out_after err err_after
    → AnswersFor (Gen kernel options) status input out out_after err err_after
summary_answers kernel options Done input out out_after err err_after answer = answer
summary_answers kernel options Usage input out out_after err err_after answer = absurd answer
summary_answers kernel options (Refused refusal) input out out_after err err_after answer = absurd answer
summary_answers kernel options (BadData refusal) input out out_after err err_after answer = absurd answer
summary_answers kernel options (Outside f) input out out_after err err_after answer = absurd answer
summary_answers kernel options (Rejected kind line) input out out_after err err_after answer = absurd answer
summary_answers kernel options ReadFault input out out_after err err_after answer = absurd answer
summary_answers kernel options WriteFault input out out_after err err_after answer = answer
summary_answers kernel options NoMemory input out out_after err err_after answer = answer

-- the same of the parts that were cut off the input
pub command_answers : (command : Command) (status : Status) (input kernel text : List ℕ) (program : Program)
    (out out_after err err_after : SinkShows)
    → IsShort input → kernel ≡ kernel_part input → text ≡ data_part input
    → SpellsProgram kernel program → AnswersKernel command status program text out out_after err err_after
    → AnswersFor command status input out out_after err err_after
command_answers command status input kernel text program out out_after err err_after short front back spelled answer =
    command_answers_of command status input program out out_after err err_after short
    (subst (λ t. SpellsProgram t program) front spelled)
    (subst (λ t. AnswersKernel command status program t out out_after err err_after) back answer)

-- an input that is too long is refused
pub long_answers : (command : Command) (input : List ℕ) (out err : SinkShows) → 2 ^ 27 < length input
    → ReadsKernel command → AnswersFor command too_long input out out err err
long_answers (Run options) input out err long reads = (inr (long, refl), untouched out err)
long_answers (OfKernel asked) input out err long reads = (inr (long, refl), untouched out err)
long_answers Check input out err long reads = (inr (long, refl), untouched out err)
long_answers (Gen generated options) input out err long reads = absurd reads

-- a text that is refused
pub refused_answers : (command : Command) (input kernel : List ℕ) (refusal : Refusal) (out err : SinkShows)
    → IsShort input → kernel ≡ kernel_part input → IsRefusedAs kernel refusal → ReadsKernel command
    → AnswersFor command (Refused refusal) input out out err err
refused_answers (Run options) input kernel refusal out err short front refused reads =
    (inl (short, inr (refusal, subst (λ t. IsRefusedAs t refusal) front refused, refl)), untouched out err)
refused_answers (OfKernel asked) input kernel refusal out err short front refused reads =
    (inl (short, inr (refusal, subst (λ t. IsRefusedAs t refusal) front refused, refl)), untouched out err)
refused_answers Check input kernel refusal out err short front refused reads =
    (inl (short, inr (refusal, subst (λ t. IsRefusedAs t refusal) front refused, refl)), untouched out err)
refused_answers (Gen generated options) input kernel refusal out err short front refused reads = absurd reads
