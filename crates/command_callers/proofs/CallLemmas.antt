-- What the fields of a call's promise say, written out.
use Rattle.scop_syntax.proofs.Common.{◌≡◌, ◌∙◌, inl, inr, refl, ap, subst, ℕ, List, [], ◌++◌, Option, None, Some, Bool}
use Rattle.scop_syntax.proofs.Common.{true, false, sym, Result, Ok, Err, length, ◌==◌, ℤ, if◌then◌else◌, Appends}
use Rattle.scop_syntax.proofs.Common.{Program}
use Rattle.io_ports.specs.Bytes.{GainsFront, IsAllOf}
use Rattle.io_ports.specs.Reads.{SourceShows}
use Rattle.io_ports.specs.Writes.{SinkShows}
use Rattle.scop_parser.specs.Spelling.{SpellsProgram}
use Rattle.data_lines.specs.declared.refusal.DataRefusal.{DataRefusal}
use Rattle.loop_tree.specs.Tiling.{Tiling}
use Rattle.loop_tree.specs.Tree.{Trees}
use Rattle.report_text.specs.StatusText.{status_text}
use Rattle.report_text.specs.TilesText.{tiles_text}
use Rattle.report_text.specs.declared.status.Status.{Status}
use Rattle.report_text.specs.declared.unexpanded_line.UnexpandedLine.{UnexpandedLine}
use Rattle.report_text.specs.declared.status.Status.TheVariants.{BadData, Rejected, WriteFault}
use Rattle.plan_check.specs.Judged.{judged, rejected_at}
use Rattle.plan_check.specs.declared.kinds.FaultKind.{FaultKind}
use Rattle.command_line.specs.declared.command.Command.{Command}
use Rattle.command_line.specs.declared.command.Command.TheVariants.{Check, Gen, OfKernel, Run}
use Rattle.command_line.specs.Command.{command_of}
use Rattle.command_line.specs.declared.command.RunOptions.{RunOptions}
use Rattle.polypar.specs.Certifying.{IsGivenText}
use Rattle.polypar.specs.Planned.{AreExpanded, ArePlanned}
use Rattle.polypar.specs.Answered.{Answered, GainsLine, GainsTo, HasLines, IsDeserved, NamesOf, PrintsArrays}
use Rattle.polypar.specs.Answered.{PrintsCertificate}
use Rattle.polypar.specs.Cut.{data_part, kernel_part}
use Rattle.polypar.specs.Deserves.{DeservesFor}
use Rattle.polypar.specs.Expanding.{GoesBy, GoesIf, IsSetAside, marks_by}
use Rattle.polypar.specs.Runs.{edges_line, release_line, unexpanded_line}
use Rattle.command_callers.specs.Shown.{GainsCertificate, GainsFault, GainsReport, HasNone, IsGiven, IsRunBy, TellsData}

-- how a run is planned
run_by : (options : RunOptions) (program : Program) (params : List ℤ) (told : Option UnexpandedLine) (expanded : Bool)
    (plan : Tiling) (front : List ℕ) (trees : Trees) → options.report ≡ true
    → GoesBy options program params told expanded plan front trees
    → IsRunBy options program params (marks_by options program) told expanded plan front trees
run_by options program params told expanded plan front trees asked = go options.expand told refl
  where
    as_is : ArePlanned options.tile options.budget options.report (marks_by options program) program plan front trees
        → ArePlanned options.tile options.budget true (marks_by options program) program plan front trees
    as_is = subst
        (λ (report : Bool). ArePlanned options.tile options.budget report (marks_by options program) program plan front
        trees) asked

    aside : (why : UnexpandedLine) → IsSetAside options program params why
        → HasNone options program params (marks_by options program) why
    aside why (inl marked) = inl marked
    aside why (inr (none, inl stops)) = inr (none, inl (stops.sources, stops.why, stops.run, stops.first, stops.line))
    aside why (inr (none, inr (all, many, is))) =
        inr (none, inr ((all.0, all.1.run, all.1.resolved), many, is))

    go : (b : Bool) (line : Option UnexpandedLine) → options.expand ≡ b
        → GoesIf b options program params line expanded plan front trees
        → IsRunBy options program params (marks_by options program) line expanded plan front trees
    go false line is (none, (not, planned)) = inl (inl (is, none), not, as_is planned)
    go true (Some why) is (set, (not, planned)) = inl (inr (is, why, refl, aside why set), not, as_is planned)
    go true None is (can, by, planned) =
        inr (
          is,
          refl,
          can.unmarked,
          (can.told.0, can.told.1.run, can.told.1.resolved),
          can.few,
          by,
          subst (λ (report : Bool). AreExpanded options.tile options.budget report program plan front trees) asked
              planned,
        )

-- the lines of a run whose report is asked for
pub reported : (options : RunOptions) (left : Option (List ℕ)) (out out_after err err_after : SinkShows)
    → options.report ≡ true → PrintsArrays options left out out_after err err_after
    → GainsReport options left err err_after
reported options left out out_after err err_after asked prints =
    let plan = prints.4.2 in
    let marked = marks_by options prints.1.program in
    let numbers = tiles_text prints.4.0 prints.4.1 options.workers ++ edges_line plan.edges in
    let is : (if options.report then numbers else []) ≡ numbers = rw asked refl in (
      prints.0,
      prints.1,
      marked,
      plan.plan,
      plan.trees,
      plan.front,
      plan.unexpanded,
      plan.expanded,
      prints.4.0,
      prints.4.1,
      prints.3,
      refl,
      run_by options prints.1.program prints.1.params plan.unexpanded plan.expanded plan.plan plan.front plan.trees
          asked plan.goes,
      plan.has_tiles,
      plan.has_waves,
      plan.edges,
      plan.has_edges,
      subst (λ lines. Appends err.taken err_after.taken lines)
          (plan.told
          ∙ ap (λ more. unexpanded_line plan.unexpanded ++ (release_line options.sync (length marked == 0) plan.edges
          ++ (plan.front ++ more))) is)
          prints.6,
    )

-- data is refused with the names of a program, and its line is written or cut off
named_line : (left : Option (List ℕ)) (refusal : DataRefusal) (out out_after err mid err_after : SinkShows)
    (named : Option Program) → NamesOf left (BadData refusal) named → GainsTo err mid []
    → GainsLine named (BadData refusal) out out_after err mid err_after → TellsData left refusal err err_after
named_line left refusal out out_after err mid err_after (Some program) names none (inl whole) =
    (names.0, program, mid, names.1, names.2, none.gained, none.later, inl whole)
named_line left refusal out out_after err mid err_after (Some program) names none (inr part) =
    (names.0, program, mid, names.1, names.2, none.gained, none.later, inr (part.0, part.1.0))
named_line left refusal out out_after err mid err_after None names none gains = absurd names

-- the line of data that is refused
pub data_line : (words : List (List ℕ)) (status : Status) (source source_after : SourceShows)
    (out out_after err err_after : SinkShows) (refusal : DataRefusal)
    → status ≡ BadData refusal → Answered words status source source_after out out_after err err_after
    → TellsData source.left refusal err err_after
data_line words status source source_after out out_after err err_after refusal is answered =
    let line = answered.error_line in
    let none : line.2 ≡ [] = subst (λ s. HasLines words source.left s out out_after line.2) is line.4 in
    named_line source.left refusal out out_after err line.3 err_after line.0
    (subst (λ s. NamesOf source.left s line.0) is line.1)
    (subst (λ lines. GainsTo err line.3 lines) none line.5)
    (subst (λ s. GainsLine line.0 s out out_after err line.3 err_after) is line.6)

-- the status line of a command that is cut off
pub faulted : (named : Option Program) (status : Status) (out out_after err mid err_after : SinkShows)
    → status ≡ WriteFault → GainsLine named status out out_after err mid err_after
    → GainsFault named out out_after err mid err_after
faulted named status out out_after err mid err_after is (inl whole) =
    inl (subst (λ s. Appends mid.taken err_after.taken (status_text named s)) is whole)
faulted named status out out_after err mid err_after is (inr part) =
    inr (subst (λ s. GainsFront mid.taken err_after.taken (status_text named s)) is part.0, part.1.1 is)

-- a certificate that is given
is_given : (program : Program) (given : Result (List ℕ) ℕ) (text : List ℕ) → IsGivenText program given text
    → IsGiven program given text
is_given program (Ok certificate) text is = inl (ap Ok (sym is.0), is.1)
is_given program (Err goal) text is = inr (goal, refl, is)

-- what `certify` prints
pub certificate_line : (budget : ℕ) (left old new : Option (List ℕ)) → PrintsCertificate budget left old new
    → GainsCertificate budget left old new
certificate_line budget left old new (input, kernel, text, whole, inl (blocks, searched, given), gained) =
    (input, kernel, text, whole, inl (blocks, searched, is_given kernel.program _ text given), gained)
certificate_line budget left old new (input, kernel, text, whole, inr kept, gained) =
    (input, kernel, text, whole, inr kept, gained)

-- what stands behind the kernel has this first fault
abbrev pub IsRejected : List ℕ → FaultKind → ℕ → Type 0
IsRejected input kind line =
    (program : Program) × SpellsProgram (kernel_part input) program
    × (judged program (data_part input) ≡ Err (rejected_at kind line))

-- `check` alone rejects
rejected_for : (command : Command) (input : List ℕ) (kind : FaultKind) (line : ℕ)
    → DeservesFor command input (Rejected kind line) → IsRejected input kind line
rejected_for (Run options) input kind line (inl (short, inl (program, spelled, inl (p, a, said, inl case)))) =
    absurd (let is = case.1 in cc)
rejected_for (Run options) input kind line (inl (short, inl (program, spelled, inl (p, a, said, inr case)))) =
    absurd (let is = case.2 in cc)
rejected_for (Run options) input kind line (inl (short, inl (program, spelled, inr broken))) =
    absurd (let is = broken.2 in cc)
rejected_for (Run options) input kind line (inl (short, inr refused)) = absurd (let is = refused.2 in cc)
rejected_for (Run options) input kind line (inr long) = absurd (let is = long.1 in cc)
rejected_for (OfKernel asked) input kind line (inl (short, inl spelled)) = absurd (let is = spelled.2 in cc)
rejected_for (OfKernel asked) input kind line (inl (short, inr refused)) = absurd (let is = refused.2 in cc)
rejected_for (OfKernel asked) input kind line (inr long) = absurd (let is = long.1 in cc)
rejected_for Check input kind line (inl (short, inl (program, spelled, inl accepted))) =
    absurd (let is = accepted.1 in cc)
rejected_for Check input kind line (inl (short, inl (program, spelled, inr (fault, told, is)))) =
    let kinds : fault.kind ≡ kind = cc in
    let lines : fault.line ≡ line = cc in (
      program,
      spelled,
      told ∙ (ap (λ k. Err (rejected_at k fault.line)) kinds ∙ ap (λ l. Err (rejected_at kind l)) lines),
    )
rejected_for Check input kind line (inl (short, inr refused)) = absurd (let is = refused.2 in cc)
rejected_for Check input kind line (inr long) = absurd (let is = long.1 in cc)
rejected_for (Gen generated options) input kind line is = absurd cc

-- why a certificate is rejected
pub rejected_by : (words : List (List ℕ)) (left : Option (List ℕ)) (kind : FaultKind) (line : ℕ)
    → IsDeserved words left (Rejected kind line)
    → (input : List ℕ) × (program : Program) × IsAllOf left input × SpellsProgram (kernel_part input) program
    × (judged program (data_part input) ≡ Err (rejected_at kind line))
rejected_by words left kind line (input, whole, inl (taken, deserved)) =
    let why = rejected_for (command_of words) input kind line deserved in (input, why.0, whole, why.1, why.2)
rejected_by words left kind line (input, whole, inr (none, is)) = absurd cc
