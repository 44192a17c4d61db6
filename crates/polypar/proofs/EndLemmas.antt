-- How a command ended: of an input that was read or not, of a source that failed, of a summary, and of words.
use Rattle.scop_syntax.proofs.Common.{◌≡◌, ◌≢◌, ◌⊎◌, sym, subst, refl, inl, inr, ℕ, List, Option, None, Some, arith}
use Rattle.scop_syntax.proofs.Common.{program_of, Program}
use Rattle.std.specs.Prelude.{option_map}
use Rattle.std.specs.Io.KnownBytes.{IsAtEnd}
use Rattle.io_ports.specs.Bytes.{IsAllOf}
use Rattle.io_ports.specs.Reads.{SourceShows, IsReadFault}
use Rattle.io_ports.specs.Writes.{SinkShows}
use Rattle.scop_parser.specs.Spelling.{SpellsProgram}
use Rattle.plan_search.specs.Status.{Status}
use Rattle.plan_search.specs.Status.TheVariants.{Done, Usage, Refused, BadData, Outside, ReadFault}
use Rattle.plan_search.specs.Status.TheVariants.{WriteFault, NoMemory, Rejected}
use Rattle.command_line.specs.declared.command.Command.{Command}
use Rattle.command_line.specs.declared.command.Command.TheVariants.{Run, OfKernel, Check, Gen}
use Rattle.command_line.specs.declared.command.GeneratedKernel.{GeneratedKernel}
use Rattle.command_line.specs.declared.command.RunOptions.{RunOptions}
use Rattle.command_line.specs.Command.{IsTaken, command_of}
use Rattle.polypar.specs.Cut.{kernel_part}
use Rattle.polypar.specs.Told.{Told, IsHeld}
use Rattle.polypar.specs.Runs.{IsSummaryText}
use Rattle.polypar.specs.Deserves.{IsReadBy}
use Rattle.polypar.specs.steps.Promises.{AnswersCommand, AnswersFor, AnswersTold, AnswersWords, Ends, IsReadOn}
use Rattle.polypar.specs.steps.Promises.{ReadsKernel}
use Rattle.polypar.specs.Answered.{NamesOf}
use Rattle.polypar.specs.declared.input.Ending.{Ending}
use Rattle.polypar.proofs.AnswerLemmas.{some_input}
use Rattle.polypar.proofs.RunLemmas.{summary_answers, untouched}

-- a write fault has no more names than another end
pub fault_named : (left : Option (List ℕ)) (status : Status) (named : Option Program) → NamesOf left status named
    → NamesOf left WriteFault named
fault_named left status None names = tt
fault_named left status (Some program) names = names

-- the names of an input that is all that a source tells
names_read : (left : Option (List ℕ)) (input : List ℕ) (status : Status) (named : Option Program) → IsAllOf left input
    → NamesOf (Some input) status named → NamesOf left status named
names_read left input status (Some program) whole (own, same, spelled) =
    (input, whole, subst (λ i. SpellsProgram (kernel_part i) program) (sym same) spelled)
names_read left input Done None whole names = tt
names_read left input Usage None whole names = tt
names_read left input (Refused refusal) None whole names = tt
names_read left input (BadData refusal) None whole names = absurd names
names_read left input (Outside f) None whole names = tt
names_read left input (Rejected kind line) None whole names = tt
names_read left input ReadFault None whole names = tt
names_read left input WriteFault None whole names = tt
names_read left input NoMemory None whole names = tt

-- a source at its end was read as a command reads it that reads an input
read_by : (command : Command) (source source_after : SourceShows) → ReadsKernel command → IsAtEnd source_after.left
    → IsReadBy command source source_after
read_by (Run options) source source_after reads end = end
read_by (OfKernel asked) source source_after reads end = end
read_by Check source source_after reads end = end
read_by (Gen generated options) source source_after reads end = absurd reads

-- an input was read to its end, and answered
pub input_ends : (command : Command) (status : Status) (named : Option Program) (input : List ℕ)
    (source source_after : SourceShows) (out out_after err err_after : SinkShows) → ReadsKernel command
    → IsAllOf source.left input → IsAtEnd source_after.left → IsReadOn source source_after
    → AnswersFor command status input out out_after err err_after → NamesOf (Some input) status named
    → Ends (AnswersCommand command status source source_after out out_after err err_after) status named source
    source_after
input_ends command status named input source source_after out out_after err err_after reads whole end on answer names =
    record {
      answer = inl (record {
        input = input;
        whole = whole;
        answer = answer;
        read = λ is. read_by command source source_after reads end;
      });
      names = names_read source.left input status named whole names;
      read_on = on;
    }

-- what holds at an end that read no kernel
at_end : (P : Status → Option Program → Type 0) (status : Status) (ending : Ending)
    → ending ≡ record { status = status; kernel = None } → P status None
    → P ending.status (option_map program_of ending.kernel)
at_end P status ending is holds = subst (λ e. P e.status (option_map program_of e.kernel)) (sym is) holds

-- the source was not read to its end, and nothing was written
pub unread_ends : (command : Command) (status : Status) (ending : Ending) (source source_after : SourceShows)
    (out err : SinkShows) → ending ≡ record { status = status; kernel = None } → status ≢ Done
    → IsReadOn source source_after → NamesOf source.left status None
    → ((input : List ℕ) × IsAllOf source.left input × AnswersFor command status input out out err err)
    → Ends (AnswersCommand command ending.status source source_after out out err err) ending.status
    (option_map program_of ending.kernel) source source_after
unread_ends command status ending source source_after out err is begun on names (input, whole, answer) =
    at_end
    (λ s named. Ends (AnswersCommand command s source source_after out out err err) s named source source_after)
    status ending is (record {
      answer = inl (record { input = input; whole = whole; answer = answer; read = λ done. absurd (begun done) });
      names = names;
      read_on = on;
    })

-- the source failed
pub broken_ends : (command : Command) (ending : Ending) (source source_after : SourceShows) (out err : SinkShows)
    → ending ≡ record { status = ReadFault; kernel = None } → IsReadOn source source_after
    → IsReadFault source source_after
    → Ends (AnswersCommand command ending.status source source_after out out err err) ending.status
    (option_map program_of ending.kernel) source source_after
broken_ends command ending source source_after out err is on cause =
    at_end
    (λ s named. Ends (AnswersCommand command s source source_after out out err err) s named source source_after)
    ReadFault ending is (record {
      answer = inr (record { fault = refl; cause = cause; untouched = untouched out err });
      names = tt;
      read_on = on;
    })

-- no data is refused where something is told
told_named : (IsAsked : Told → Type 0) (status : Status) (left : Option (List ℕ)) (out out_after err err_after : SinkShows)
    → AnswersTold IsAsked status out out_after err err_after → NamesOf left status None
told_named IsAsked Done left out out_after err err_after answer = tt
told_named IsAsked Usage left out out_after err err_after answer = tt
told_named IsAsked (Refused refusal) left out out_after err err_after answer = tt
told_named IsAsked (BadData refusal) left out out_after err err_after answer = absurd answer
told_named IsAsked (Outside f) left out out_after err err_after answer = tt
told_named IsAsked (Rejected kind line) left out out_after err err_after answer = tt
told_named IsAsked ReadFault left out out_after err err_after answer = tt
told_named IsAsked WriteFault left out out_after err err_after answer = tt
told_named IsAsked NoMemory left out out_after err err_after answer = tt

-- `gen` reads nothing, and answers whatever the source tells
pub summary_ends : (command : Command) (kernel : GeneratedKernel) (options : RunOptions) (status : Status)
    (ending : Ending) (source : SourceShows) (out out_after err err_after : SinkShows)
    → ending ≡ record { status = status; kernel = None } → command ≡ Gen kernel options
    → AnswersTold (λ told. IsSummaryText kernel options told × IsHeld told) status out out_after err err_after
    → Ends (AnswersCommand command ending.status source source out out_after err err_after) ending.status
    (option_map program_of ending.kernel) source source
summary_ends command kernel options status ending source out out_after err err_after is gen answer =
    let input = some_input source.left in
    at_end
    (λ s named. Ends (AnswersCommand command s source source out out_after err err_after) s named source source)
    status ending is
    (subst
    (λ c. Ends (AnswersCommand c status source source out out_after err err_after) status None source source)
    (sym gen) (record {
      answer = inl (record {
        input = input.0;
        whole = input.1;
        answer = summary_answers kernel options status input.0 out out_after err err_after answer;
        read = λ done. refl;
      });
      names = told_named (λ told. IsSummaryText kernel options told × IsHeld told) status source.left out out_after
          err err_after answer;
      read_on = record { later = omega arith; steady = λ steady. refl };
    }))

-- words that are a command, and how it ended
pub command_ends : (words : List (List ℕ)) (command : Command) (status : Status) (named : Option Program)
    (source source_after : SourceShows) (out out_after err err_after : SinkShows) → IsTaken words
    → command ≡ command_of words
    → Ends (AnswersCommand command status source source_after out out_after err err_after) status named source
    source_after
    → Ends (AnswersWords words status source source_after out out_after err err_after) status named source source_after
command_ends words command status named source source_after out out_after err err_after taken is ends = record {
  answer = inr (
    taken,
    subst (λ c. AnswersCommand c status source source_after out out_after err err_after) is
        ends.answer,
  );
  names = ends.names;
  read_on = ends.read_on;
}

-- words that are none, or for which there was no memory
pub none_ends : (words : List (List ℕ)) (status : Status) (ending : Ending) (source : SourceShows) (out err : SinkShows)
    → ending ≡ record { status = status; kernel = None } → NamesOf source.left status None
    → ((status ≡ Usage) × (IsTaken words → ⊥)) ⊎ (status ≡ NoMemory)
    → Ends (AnswersWords words ending.status source source out out err err) ending.status
    (option_map program_of ending.kernel) source source
none_ends words status ending source out err is names why =
    at_end (λ s named. Ends (AnswersWords words s source source out out err err) s named source source) status ending is
    (record {
      answer = inl (record { usage = why; unread = refl; untouched = untouched out err });
      names = names;
      read_on = record { later = omega arith; steady = λ steady. refl };
    })
