-- From what the parts of a call answer to what the call promises.
use Rattle.scop_syntax.proofs.Common.{◌≡◌, ◌≢◌, ◌⊎◌, ◌∙◌, sym, subst, ap, refl, inl, inr, ℕ, ◌+◌, ◌≤◌, ◌<◌, List, []}
use Rattle.scop_syntax.proofs.Common.{◌∷◌, ◌++◌, length, Option, None, Some, append-nil, arith, replicate, Bor}
use Rattle.scop_syntax.proofs.Common.{option_copied, length-replicate, Appends, program_of, Program}
use Rattle.std.specs.Prelude.{option_map}
use Rattle.std.proofs.KnownBytes.{Appends-nil, Appends-trans}
use Rattle.io_ports.specs.Faults.{Rose}
use Rattle.io_ports.specs.Bytes.{IsAllOf, IsLonger, GainsFront}
use Rattle.io_ports.specs.Reads.{SourceShows}
use Rattle.io_ports.specs.Writes.{SinkShows, HasRoom, Takes, FailsToTake}
use Rattle.io_ports.proofs.PutTexts.{take_then, whole_is_front, kept_is_nothing, room_next}
use Rattle.scop_syntax.specs.declared.tree.Kernel.{Kernel}
use Rattle.plan_search.specs.Status.{Status}
use Rattle.plan_search.specs.Status.TheVariants.{Done, Usage, Refused, BadData, Outside, ReadFault}
use Rattle.plan_search.specs.Status.TheVariants.{WriteFault, NoMemory, Rejected}
use Rattle.command_line.specs.declared.command.Command.{Command}
use Rattle.command_line.specs.declared.command.Command.TheVariants.{Run, OfKernel, Check, Gen}
use Rattle.command_line.specs.declared.command.KernelCommand.{KernelCommand}
use Rattle.command_line.specs.declared.command.KernelCommand.TheVariants.{Schedule, Deps, Emit, Certify}
use Rattle.command_line.specs.declared.command.GeneratedKernel.{GeneratedKernel}
use Rattle.command_line.specs.declared.command.RunOptions.{RunOptions}
use Rattle.command_line.specs.Command.{IsTaken, command_of}
use Rattle.polypar.specs.Case.{Accepted}
use Rattle.plan_search.specs.Certifying.{IsCertificateText}
use Rattle.plan_search.specs.Planning.{IsPlanText}
use Rattle.polypar.specs.Sources.{IsSourcesText}
use Rattle.polypar.specs.Told.{Told, IsTextAlone}
use Rattle.polypar.specs.Deserves.{DeservesInput, DeservesFor, Deserves, AsksFor, Asks, IsReadBy}
use Rattle.plan_search.specs.StatusText.{status_text}
use Rattle.polypar.specs.KernelText.{IsTextFor}
use Rattle.polypar.specs.steps.Promises.{WritesTold, CutsTold, AreUntouched, AnswersFor, AnswersCommand, AnswersWords}
use Rattle.polypar.specs.steps.Promises.{IsReadOn, TellsStatus}
use Rattle.polypar.specs.Answered.{ChecksPlan, PrintsArrays, PrintsSummary, PrintsText, PrintsTold, PrintsFront}
use Rattle.polypar.specs.Answered.{IsDeserved, NamesOf, IsFrontOf}
use Rattle.polypar.specs.Answered.{HasLines, GainsTo, GainsLine, NoneRose, HasRoomForText, Answered}

-- an accepted input deserves Done
accepted_is_done : (input : List ℕ) → Accepted input → DeservesInput input Done
accepted_is_done input a = inl (
  a.short,
  inl (
    a.program,
    a.spelled,
    inl
        (a.params, a.contents, a.said, inl (a.inside, refl)),
  ),
)

-- so does one that asks a command for something
asks_is_done : (command : Command) (input : List ℕ) (told : Told) → AsksFor command input told
    → DeservesFor command input Done
asks_is_done (Run options) input told asks = accepted_is_done input asks.0
asks_is_done (OfKernel asked) input told asks = inl (asks.0.short, inl (asks.0.program, asks.0.spelled, refl))
asks_is_done Check input told asks =
    inl (asks.0.short, inl (asks.0.program, asks.0.spelled, inl (asks.1.accepted, refl)))
asks_is_done (Gen generated options) input told asks = refl

-- words and an input deserve one status
abbrev pub OneVerdict : Type 0
OneVerdict = (words : List (List ℕ)) (input : List ℕ) (a b : Status) → Deserves words input a → Deserves words input b
    → a ≡ b

-- ---- what the parts of a call answer

-- some input is all that a source tells
pub some_input : (left : Option (List ℕ)) → (input : List ℕ) × IsAllOf left input
some_input None = ([], tt)
some_input (Some left) = (left, refl)

-- some input is all that a source tells of which more than so many bytes are left
pub long_input : (left : Option (List ℕ)) (limit : ℕ) → IsLonger left limit
    → (input : List ℕ) × IsAllOf left input × (limit < length input)
long_input None limit long = (replicate (limit + 1) 0, tt, omega (arith, length-replicate {A = ℕ} (limit + 1) 0))
long_input (Some left) limit long = (left, refl, long)

-- an answer that is neither a fault nor want of memory is deserved
answer_deserves : (command : Command) (status : Status) (input : List ℕ) (out out_after err err_after : SinkShows)
    → AnswersFor command status input out out_after err err_after → status ≢ WriteFault → status ≢ NoMemory
    → DeservesFor command input status
answer_deserves command Done input out out_after err err_after answer write memory =
    asks_is_done command input answer.0 answer.1
answer_deserves command Usage input out out_after err err_after answer write memory = absurd answer
answer_deserves command (Refused refusal) input out out_after err err_after answer write memory = answer.0
answer_deserves command (BadData refusal) input out out_after err err_after answer write memory = answer.0
answer_deserves command (Outside f) input out out_after err err_after answer write memory = answer.0
answer_deserves command (Rejected kind line) input out out_after err err_after answer write memory = answer.0
answer_deserves command ReadFault input out out_after err err_after answer write memory = absurd answer
answer_deserves command WriteFault input out out_after err err_after answer write memory = absurd (write refl)
answer_deserves command NoMemory input out out_after err err_after answer write memory = absurd (memory refl)

-- an answer but Done and a write fault leaves the sinks untouched
answer_leaves : (command : Command) (status : Status) (input : List ℕ) (out out_after err err_after : SinkShows)
    → AnswersFor command status input out out_after err err_after → status ≢ Done → status ≢ WriteFault
    → AreUntouched out out_after err err_after
answer_leaves command Done input out out_after err err_after answer not_done write = absurd (not_done refl)
answer_leaves command Usage input out out_after err err_after answer not_done write = absurd answer
answer_leaves command (Refused refusal) input out out_after err err_after answer not_done write = answer.1
answer_leaves command (BadData refusal) input out out_after err err_after answer not_done write = answer.1
answer_leaves command (Outside f) input out out_after err err_after answer not_done write = answer.1
answer_leaves command (Rejected kind line) input out out_after err err_after answer not_done write = answer.1
answer_leaves command ReadFault input out out_after err err_after answer not_done write = absurd answer
answer_leaves command WriteFault input out out_after err err_after answer not_done write = absurd (write refl)
answer_leaves command NoMemory input out out_after err err_after answer not_done write = answer

-- what was told and then flushed was told
told_flushed : (told : Told) (out out_after err mid after : SinkShows) → WritesTold told out out_after err mid
    → Takes mid after [] → WritesTold told out out_after err after
told_flushed told out out_after err mid after writes flushed = record {
  text = writes.text;
  lines = subst (λ t. Takes err after t) (append-nil told.lines)
      (take_then err mid after told.lines [] writes.lines flushed);
}

-- where that flush fails, all was told
told_unflushed : (told : Told) (out out_after err mid after : SinkShows) → WritesTold told out out_after err mid
    → FailsToTake mid after [] → CutsTold told out out_after err after
told_unflushed told out out_after err mid after writes failed = record {
  gained = inr (
    subst (λ t. Appends err.taken after.taken t) (append-nil told.lines)
        (Appends-trans err.taken mid.taken after.taken told.lines [] writes.lines.gained
        (kept_is_nothing mid.taken after.taken failed.kept)),
    whole_is_front out.taken out_after.taken told.text writes.text.gained,
  );
  later = omega (arith, writes.lines.later, failed.later);
  rose = inr (omega (arith, writes.lines.later, failed.cause.rose));
  full = λ room line.
      failed.cause.full
      (room_next err mid told.lines [] writes.lines
      (subst (λ t. HasRoom err t) (sym (append-nil told.lines)) line)).1;
}

-- a command that is done, and then flushes `err`
pub done_flushed : (command : Command) (status : Status) (source source_after : SourceShows)
    (out out_after err mid after : SinkShows) → status ≡ Done
    → AnswersCommand command status source source_after out out_after err mid → Takes mid after []
    → AnswersCommand command status source source_after out out_after err after
done_flushed command status source source_after out out_after err mid after is (inl read) flushed =
    let answer = subst (λ s. AnswersFor command s read.input out out_after err mid) is read.answer in
    inl (record {
      input = read.input;
      whole = read.whole;
      answer = subst (λ s. AnswersFor command s read.input out out_after err after) (sym is)
          (answer.0, answer.1, told_flushed answer.0 out out_after err mid after answer.2 flushed);
      read = read.read;
    })
done_flushed command status source source_after out out_after err mid after is (inr broken) flushed =
    absurd (let both = sym is ∙ broken.fault in cc)

-- or fails to
pub done_unflushed : (command : Command) (status : Status) (source source_after : SourceShows)
    (out out_after err mid after : SinkShows) → status ≡ Done
    → AnswersCommand command status source source_after out out_after err mid → FailsToTake mid after []
    → AnswersCommand command WriteFault source source_after out out_after err after
done_unflushed command status source source_after out out_after err mid after is (inl read) failed =
    let answer = subst (λ s. AnswersFor command s read.input out out_after err mid) is read.answer in
    inl (record {
      input = read.input;
      whole = read.whole;
      answer = (answer.0, answer.1, told_unflushed answer.0 out out_after err mid after answer.2 failed);
      read = λ e. cc;
    })
done_unflushed command status source source_after out out_after err mid after is (inr broken) failed =
    absurd (let both = sym is ∙ broken.fault in cc)

-- ---- what was printed

-- an input was read, and exactly what it asks the command for was written
abbrev PrintsFor : Command → Option (List ℕ) → SinkShows → SinkShows → SinkShows → SinkShows → Type 0
PrintsFor command left out out_after err err_after =
    (input : List ℕ) × (told : Told) × IsAllOf left input × AsksFor command input told
    × Appends out.taken out_after.taken told.text × Appends err.taken err_after.taken told.lines

prints_arrays : (options : RunOptions) (command : Command) (left : Option (List ℕ))
    (out out_after err err_after : SinkShows) → command ≡ Run options
    → PrintsFor command left out out_after err err_after
    → PrintsArrays options left out out_after err err_after
prints_arrays options command left out out_after err err_after is printed =
    let run = subst (λ c. PrintsFor c left out out_after err err_after) is printed in (
      run.0,
      run.3.0,
      run.1.lines,
      run.2,
      run.3.1.lines,
      subst (λ text. Appends out.taken out_after.taken text) run.3.1.text run.4,
      run.5,
    )

prints_summary : (kernel : GeneratedKernel) (options : RunOptions) (command : Command) (left : Option (List ℕ))
    (out out_after err err_after : SinkShows) → command ≡ Gen kernel options
    → PrintsFor command left out out_after err err_after → PrintsSummary kernel options out out_after err err_after
prints_summary kernel options command left out out_after err err_after is printed =
    let all = subst (λ c. PrintsFor c left out out_after err err_after) is printed in
    (all.1, all.3.0, all.4, all.5)

checks_plan : (command : Command) (left : Option (List ℕ)) (out out_after err err_after : SinkShows) → command ≡ Check
    → PrintsFor command left out out_after err err_after → ChecksPlan left out.taken out_after.taken
checks_plan command left out out_after err err_after is printed =
    let all = subst (λ c. PrintsFor c left out out_after err err_after) is printed in
    let accepted = all.3.1 in (
      all.0,
      all.3.0,
      accepted.plan,
      all.2,
      accepted.said,
      accepted.good,
      subst (λ (told : Told). Appends out.taken out_after.taken told.text) accepted.yes all.4,
    )

prints_told : (asked : KernelCommand) (command : Command) (left : Option (List ℕ))
    (out out_after err err_after : SinkShows) → command ≡ OfKernel asked
    → PrintsFor command left out out_after err err_after
    → PrintsTold (IsTextFor asked) left out out_after err err_after
prints_told asked command left out out_after err err_after is printed =
    let all = subst (λ c. PrintsFor c left out out_after err err_after) is printed in
    (all.0, all.3.0, all.1, all.2, all.3.1, all.4, all.5)

-- where it is a text alone
prints_text : (IsTextOf : Program → List ℕ → Type 0) (left : Option (List ℕ)) (out out_after err err_after : SinkShows)
    → PrintsTold (λ program told. IsTextAlone (IsTextOf program) told) left out out_after err err_after
    → PrintsText IsTextOf left out.taken out_after.taken
prints_text IsTextOf left out out_after err err_after all = (all.0, all.1, all.2.text, all.3, all.4.0, all.5)

-- the program of a kernel that is lent is the kernel's
pub lent_program : (lent : Option (Bor Kernel)) (kernel : Option Kernel) → option_copied lent ≡ kernel
    → option_map (λ k. program_of k.now) lent ≡ option_map program_of kernel
lent_program None kernel is = ap (option_map program_of) is
lent_program (Some k) kernel is = ap (option_map program_of) is

-- ---- what a call answers

-- a status is a fault, want of memory, or neither
fault_or_not : (status : Status) → (status ≡ NoMemory)
    ⊎ ((status ≡ ReadFault) ⊎ ((status ≡ WriteFault)
    ⊎ ((status ≢ ReadFault) × (status ≢ WriteFault) × (status ≢ NoMemory))))
fault_or_not Done = inr (inr (inr (λ e. cc, λ e. cc, λ e. cc)))
fault_or_not Usage = inr (inr (inr (λ e. cc, λ e. cc, λ e. cc)))
fault_or_not (Refused refusal) = inr (inr (inr (λ e. cc, λ e. cc, λ e. cc)))
fault_or_not (BadData refusal) = inr (inr (inr (λ e. cc, λ e. cc, λ e. cc)))
fault_or_not (Outside f) = inr (inr (inr (λ e. cc, λ e. cc, λ e. cc)))
fault_or_not (Rejected kind line) = inr (inr (inr (λ e. cc, λ e. cc, λ e. cc)))
fault_or_not ReadFault = inr (inl refl)
fault_or_not WriteFault = inr (inr (inl refl))
fault_or_not NoMemory = inl refl

-- no status is two
one_status : {P : Type 0} (status a b : Status) → status ≡ a → status ≡ b → (a ≡ b → ⊥) → P
one_status status a b is_a is_b apart = absurd (apart (sym is_a ∙ is_b))

-- where nothing was begun, the status is Usage or want of memory
not_begun : {P Q : Type 0} (status known : Status) → ((status ≡ Usage) × Q) ⊎ (status ≡ NoMemory) → status ≡ known
    → (Usage ≡ known → ⊥) → (NoMemory ≡ known → ⊥) → P
not_begun status known (inl usage) is not_usage not_memory = one_status status Usage known usage.0 is not_usage
not_begun status known (inr memory) is not_usage not_memory = one_status status NoMemory known memory is not_memory

-- what a sink gained of a text is some front of it
front_gained : (old new : Option (List ℕ)) (text : List ℕ) → GainsFront old new text
    → (front : List ℕ) × IsFrontOf front text × Appends old new front
front_gained None new text gained = ([], (text, refl), tt)
front_gained (Some old) None text gained = absurd gained
front_gained (Some old) (Some new) text gained = (gained.0, (gained.1, gained.2), gained.3)

-- nothing is a front of each text
front_of_none : (old : Option (List ℕ)) (text : List ℕ) → GainsFront old old text
front_of_none None text = tt
front_of_none (Some old) text = ([], text, refl, sym (append-nil old))

-- of nothing it is nothing
front_of_nothing : (old new : Option (List ℕ)) → GainsFront old new [] → Appends old new []
front_of_nothing None new gained = tt
front_of_nothing (Some old) None gained = gained
front_of_nothing (Some old) (Some new) (front, rest, both, is) = go front rest both is
  where
    go : (front rest : List ℕ) → [] ≡ front ++ rest → new ≡ old ++ front → new ≡ old ++ []
    go [] rest both is = is
    go (x ∷ xs) rest both is = cc

module _ (words : List (List ℕ)) (named : Option Program) (source source_after : SourceShows)
    (out out_after err mid after : SinkShows) where
  abbrev Ends : Status → Type 0
  Ends status = AnswersWords words status source source_after out out_after err mid

  -- something that the words and the input ask for was written like this
  abbrev WritesAsked : (Told → Type 0) → Type 0
  WritesAsked How = (input : List ℕ) × (told : Told) × IsAllOf source.left input × Asks words input told × How told

  -- the answer to an input, for a status that is known
  answer_at : (status known : Status) (input : List ℕ) → status ≡ known
      → AnswersFor (command_of words) status input out out_after err mid
      → AnswersFor (command_of words) known input out out_after err mid
  answer_at status known input is answer =
      subst (λ s. AnswersFor (command_of words) s input out out_after err mid) is answer

  done : (status : Status) → Ends status → status ≡ Done
      → WritesAsked (λ told. WritesTold told out out_after err mid)
      × IsReadBy (command_of words) source source_after
  done status (inl none) is = not_begun status Done none.usage is (λ e. cc) (λ e. cc)
  done status (inr (taken, inl read)) is =
      let answer = answer_at status Done read.input is read.answer in
      ((read.input, answer.0, read.whole, (taken, answer.1), answer.2), read.read is)
  done status (inr (taken, inr broken)) is = one_status status ReadFault Done broken.fault is (λ e. cc)

  cut : (status : Status) → Ends status → status ≡ WriteFault
      → WritesAsked (λ told. CutsTold told out out_after err mid)
  cut status (inl none) is = not_begun status WriteFault none.usage is (λ e. cc) (λ e. cc)
  cut status (inr (taken, inl read)) is =
      let answer = answer_at status WriteFault read.input is read.answer in
      (read.input, answer.0, read.whole, (taken, answer.1), answer.2)
  cut status (inr (taken, inr broken)) is = one_status status ReadFault WriteFault broken.fault is (λ e. cc)

  untouched : (status : Status) → Ends status → status ≢ Done → status ≢ WriteFault
      → AreUntouched out out_after err mid
  untouched status (inl none) not_done write = none.untouched
  untouched status (inr (taken, inl read)) not_done write =
      answer_leaves (command_of words) status read.input out out_after err mid read.answer not_done write
  untouched status (inr (taken, inr broken)) not_done write = broken.untouched

  usage : (status : Status) → Ends status → status ≡ Usage → (IsTaken words → ⊥) × (source_after ≡ source)
  usage status (inl none) is = (
    elim none.usage [
      | inl told ↦ told.1
      | inr memory ↦ one_status status NoMemory Usage memory is (λ e. cc)
    ],
    none.unread,
  )
  usage status (inr (taken, inl read)) is = absurd (answer_at status Usage read.input is read.answer)
  usage status (inr (taken, inr broken)) is = one_status status ReadFault Usage broken.fault is (λ e. cc)

  stranger : (status : Status) → Ends status → (IsTaken words → ⊥) → (status ≡ Usage) ⊎ (status ≡ NoMemory)
  stranger status (inl none) apart = elim none.usage [ inl told ↦ inl told.0 | inr memory ↦ inr memory ]
  stranger status (inr answer) apart = absurd (apart answer.0)

  deserved : (status : Status) → Ends status → status ≢ ReadFault → status ≢ WriteFault → status ≢ NoMemory
      → IsDeserved words source.left status
  deserved status (inl none) read write memory =
      let input = some_input source.left in
      elim none.usage [
        | inl told ↦ (input.0, input.1, inr (told.1, told.0))
        | inr no_memory ↦ absurd (memory no_memory)
      ]
  deserved status (inr (taken, inl read_input)) read write memory = (
    read_input.input,
    read_input.whole,
    inl (
      taken,
      answer_deserves (command_of words) status read_input.input out out_after err mid read_input.answer write memory,
    ),
  )
  deserved status (inr (taken, inr broken)) read write memory = absurd (read broken.fault)

  read_fault : (status : Status) → Ends status → status ≡ ReadFault → Rose source.faults source_after.faults
  read_fault status (inl none) is = not_begun status ReadFault none.usage is (λ e. cc) (λ e. cc)
  read_fault status (inr (taken, inl read)) is = absurd (answer_at status ReadFault read.input is read.answer)
  read_fault status (inr (taken, inr broken)) is = broken.cause.rose

  -- what `err` has before the status line: nothing where the sinks are untouched
  abbrev Lines : Status → Type 0
  Lines status = (lines : List ℕ) × HasLines words source.left status out out_after lines × GainsTo err mid lines

  no_lines : (status : Status) → HasLines words source.left status out out_after []
      → AreUntouched out out_after err mid → Lines status
  no_lines status none same = (
    [],
    none,
    subst (λ sink. GainsTo err sink []) (sym same.err_is)
        (record { gained = Appends-nil err.taken; later = omega arith }),
  )

  lines : (status : Status) → Ends status → Lines status
  lines Done ends =
      let all = (done Done ends refl).0 in (
        all.1.lines,
        (all.0, all.1, all.2, all.3, all.4.text.gained, refl),
        record { gained = all.4.lines.gained; later = all.4.lines.later },
      )
  lines WriteFault ends =
      let part = cut WriteFault ends refl in
      elim part.4.gained [
        | inl stopped ↦
            let front = front_gained err.taken mid.taken part.1.lines stopped.0 in (
              front.0,
              (part.0, part.1, part.2, part.3, inr (front.1, stopped.1)),
              record { gained = front.2; later = part.4.later },
            )
        | inr behind ↦ (
          part.1.lines,
          (part.0, part.1, part.2, part.3, inl (refl, behind.1)),
          record { gained = behind.0; later = part.4.later },
        )
      ]
  lines Usage ends = no_lines Usage refl (untouched Usage ends (λ e. cc) (λ e. cc))
  lines (Refused refusal) ends = no_lines (Refused refusal) refl (untouched (Refused refusal) ends (λ e. cc) (λ e. cc))
  lines (BadData refusal) ends = no_lines (BadData refusal) refl (untouched (BadData refusal) ends (λ e. cc) (λ e. cc))
  lines (Outside f) ends = no_lines (Outside f) refl (untouched (Outside f) ends (λ e. cc) (λ e. cc))
  lines (Rejected kind line) ends =
      no_lines (Rejected kind line) refl (untouched (Rejected kind line) ends (λ e. cc) (λ e. cc))
  lines ReadFault ends = no_lines ReadFault refl (untouched ReadFault ends (λ e. cc) (λ e. cc))
  lines NoMemory ends = no_lines NoMemory refl (untouched NoMemory ends (λ e. cc) (λ e. cc))

  -- a write fault wrote a front of the text
  written : (status : Status) → Ends status → status ≡ WriteFault
      → PrintsFront words source.left out.taken out_after.taken
  written status ends is =
      let part = cut status ends is in
      let nothing : (same : out_after ≡ out) → GainsFront out.taken out_after.taken part.1.text = λ same.
      subst (λ sink. GainsFront out.taken sink.taken part.1.text) (sym same) (front_of_none out.taken part.1.text) in (
        part.0,
        part.1,
        part.2,
        part.3,
        elim part.4.gained [ inl stopped ↦ nothing stopped.1 | inr behind ↦ behind.1 ],
      )

  line_later : (status : Status) → TellsStatus named status mid after → mid.faults ≤ after.faults
  line_later status (inl told) = told.later
  line_later status (inr cut) = cut.later

  line : (status : Status) → (status ≡ WriteFault → Rose out.faults out_after.faults ⊎ Rose err.faults mid.faults)
      → TellsStatus named status mid after → GainsLine named status out out_after err mid after
  line status fault (inl told) = inl told.gained
  line status fault (inr cut) = inr (cut.gained, (cut.cause.rose, fault))

  -- at Done no line tells the status
  quiet : (status : Status) → status ≡ Done → TellsStatus named status mid after → Appends mid.taken after.taken []
  quiet status is (inl told) =
      subst (λ s. Appends mid.taken after.taken (status_text named s)) is told.gained
  quiet status is (inr cut) =
      front_of_nothing mid.taken after.taken
      (subst (λ s. GainsFront mid.taken after.taken (status_text named s)) is cut.gained)

  -- what was printed at Done
  printed : (status : Status) → Ends status → TellsStatus named status mid after → status ≡ Done
      → PrintsFor (command_of words) source.left out out_after err after
  printed status ends told is =
      let all = (done status ends is).0 in (
        all.0,
        all.1,
        all.2,
        all.3.1,
        all.4.text.gained,
        subst (λ t. Appends err.taken after.taken t) (append-nil all.1.lines)
            (Appends-trans err.taken mid.taken after.taken all.1.lines [] all.4.lines.gained (quiet status is told)),
      )

  -- where there is room, `out` counted no fault, and `err` none before the status line, for which it has room
  record IsReady (status : Status) : Type 0 where
    of_out : out_after.faults ≡ out.faults
    of_err : mid.faults ≡ err.faults
    room : HasRoom mid (status_text named status)

  untouched_ready : (status : Status) → AreUntouched out out_after err mid → HasRoom err (status_text named status)
      → IsReady status
  untouched_ready status same room = record {
    of_out = ap (λ sink. sink.faults) same.out_is;
    of_err = ap (λ sink. sink.faults) same.err_is;
    room = subst (λ sink. HasRoom sink (status_text named status)) (sym same.err_is) room;
  }

  ready : (status : Status) → Ends status → HasRoomForText words source.left out err
      → HasRoom err (status_text named status) → IsReady status
  ready Done ends room line =
      let all = (done Done ends refl).0 in
      let rooms = room all.0 all.1 all.2 all.3 in
      let next = room_next err mid all.1.lines [] all.4.lines
      (subst (λ t. HasRoom err t) (sym (append-nil all.1.lines)) rooms.1) in
      record { of_out = (all.4.text.calm rooms.0).faults; of_err = next.0.faults; room = next.1 }
  ready WriteFault ends room line =
      let part = cut WriteFault ends refl in
      let rooms = room part.0 part.1 part.2 part.3 in
      absurd (part.4.full rooms.0 rooms.1)
  ready Usage ends room line = untouched_ready Usage (untouched Usage ends (λ e. cc) (λ e. cc)) line
  ready (Refused refusal) ends room line =
      untouched_ready (Refused refusal) (untouched (Refused refusal) ends (λ e. cc) (λ e. cc)) line
  ready (BadData refusal) ends room line =
      untouched_ready (BadData refusal) (untouched (BadData refusal) ends (λ e. cc) (λ e. cc)) line
  ready (Outside f) ends room line = untouched_ready (Outside f) (untouched (Outside f) ends (λ e. cc) (λ e. cc)) line
  ready (Rejected kind number) ends room line =
      untouched_ready (Rejected kind number) (untouched (Rejected kind number) ends (λ e. cc) (λ e. cc)) line
  ready ReadFault ends room line = untouched_ready ReadFault (untouched ReadFault ends (λ e. cc) (λ e. cc)) line
  ready NoMemory ends room line = untouched_ready NoMemory (untouched NoMemory ends (λ e. cc) (λ e. cc)) line

  err_calm : (status : Status) → IsReady status → TellsStatus named status mid after → after.faults ≡ err.faults
  err_calm status is (inl told) = (told.calm is.room).faults ∙ is.of_err
  err_calm status is (inr cut) = absurd (cut.cause.full is.room)

  decided_by : OneVerdict → (status : Status) → Ends status → TellsStatus named status mid after
      → (input : List ℕ) (verdict : Status) → source.left ≡ Some input → Deserves words input verdict
      → NoneRose source source_after out out_after err after
      → (status ≡ NoMemory) ⊎ ((status ≡ ReadFault)
      ⊎ ((status ≡ WriteFault) ⊎ ((status ≢ ReadFault) × (status ≢ WriteFault) × (status ≢ NoMemory))))
      → (status ≡ verdict) ⊎ (status ≡ NoMemory)
  decided_by law status ends told input verdict whole deserves none (inl memory) = inr memory
  decided_by law status ends told input verdict whole deserves none (inr (inl read)) =
      absurd (none.of_source (read_fault status ends read))
  decided_by law status ends told input verdict whole deserves none (inr (inr (inl write))) =
      let later = line_later status told in
      elim (cut status ends write).4.rose [
        | inl rose ↦ absurd (none.of_out rose)
        | inr rose ↦ absurd
            (none.of_err (omega (arith, rose, later)))
      ]
  decided_by law status ends told input verdict whole deserves none (inr (inr (inr (read, write, memory)))) =
      let own = deserved status ends read write memory in
      let same : input ≡ own.0 = subst (λ left. IsAllOf left own.0) whole own.1 in
      inl (law words input status verdict (subst (λ i. Deserves words i status) (sym same) own.2) deserves)

-- what a call promises
pub answered : OneVerdict → (words : List (List ℕ)) (status : Status) (named : Option Program)
    (source source_after : SourceShows) (out out_after err mid after : SinkShows)
    → AnswersWords words status source source_after out out_after err mid → NamesOf source.left status named
    → IsReadOn source source_after → TellsStatus named status mid after
    → Answered words status source source_after out out_after err after
answered law words status named source source_after out out_after err mid after ends names read_on told =
    let part = cut words named source source_after out out_after err mid after status ends in
    let later = line_later words named source source_after out out_after err mid after status told in
    let own = lines words named source source_after out out_after err mid after status ends in
    let all = printed words named source source_after out out_after err mid after status ends told in
    let asked = λ (k : KernelCommand) (is : command_of words ≡ OfKernel k) (finished : status ≡ Done).
    prints_told k (command_of words) source.left out out_after err after is (all finished) in
    record {
      done = λ options run is.
          prints_arrays options (command_of words) source.left out out_after err after run.1 (all is);
      scheduled = λ budget plan is. prints_text (IsPlanText budget) source.left out out_after err after
          (asked (Schedule budget) plan.1 is);
      sourced = λ budget deps is. prints_text (IsSourcesText budget) source.left out out_after err after
          (asked (Deps budget) deps.1 is);
      emitted = λ tile budget emit is. asked (Emit tile budget) emit.1 is;
      generated = λ kernel options gen is.
          prints_summary kernel options (command_of words) source.left out out_after err after gen.1 (all is);
      checked = λ check is. checks_plan (command_of words) source.left out out_after err after check.1 (all is);
      certified = λ budget certify is. prints_text (IsCertificateText budget) source.left out out_after err after
          (asked (Certify budget) certify.1 is);
      read_whole = λ is. (done words named source source_after out out_after err mid after status ends is).1;
      usage = λ is. (usage words named source source_after out out_after err mid after status ends is).0;
      stranger = stranger words named source source_after out out_after err mid after status ends;
      unread = λ is. (usage words named source source_after out out_after err mid after status ends is).1;
      deserved = deserved words named source source_after out out_after err mid after status ends;
      read_fault = read_fault words named source source_after out out_after err mid after status ends;
      write_fault = λ is. elim (part is).4.rose [ inl rose ↦ inl rose | inr rose ↦ inr (omega (arith, rose, later)) ];
      written = written words named source source_after out out_after err mid after status ends;
      nothing = λ not_done write.
          (untouched words named source source_after out out_after err mid after status ends not_done write).out_is;
      error_line = (
        named,
        names,
        own.0,
        mid,
        own.1,
        own.2,
        line words named source source_after out out_after err mid after status (λ is. (part is).4.rose) told,
      );
      decided = λ input verdict whole deserves none.
          decided_by words named source source_after out out_after err mid after law status ends told input verdict
          whole deserves none (fault_or_not status);
      calm = λ steady room line_room.
          let is = ready words named source source_after out out_after err mid after status ends room
          (line_room named names) in
          record {
            of_source = read_on.steady steady;
            of_out = is.of_out;
            of_err = err_calm words named source source_after out out_after err mid after status is told;
          };
    }
