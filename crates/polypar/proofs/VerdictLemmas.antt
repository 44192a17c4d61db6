-- Each check in the order of work has an outcome, so words and an input deserve a status.
use Rattle.scop_syntax.proofs.Common.{◌≡◌, ◌⊎◌, ◌∙◌, sym, refl, inl, inr, ℕ, ◌^◌, ltb, Bool, true, false, ℤ, List, []}
use Rattle.scop_syntax.proofs.Common.{◌∷◌, length, Option, None, Some, Err, is_some, take, Program, Visit, walk_of}
use Rattle.scop_syntax.proofs.Common.{IsKernel, AreInside, layout, Failure, first_outside}
use Rattle.std.proofs.Common.{ltb-true, ltb-false}
use Rattle.scop_lexer.specs.Lines.{line_behind, column_behind}
use Rattle.scop_syntax.specs.Failures.{VisitsAreRanked}
use Rattle.scop_meaning.specs.Outside.{outside_of}
use Rattle.scop_parser.specs.Spelling.{SpellsProgram, IsFirstFault, IsRefusedAs}
use Rattle.scop_parser.specs.declared.refusal.Refusal.{Refusal}
use Rattle.scop_parser.specs.RefusalKind.{Kind as RefusalKind}
use Rattle.data_lines.specs.declared.refusal.DataRefusal.{DataRefusal}
use Rattle.data_lines.specs.Naming.{line_of}
use Rattle.data_text.specs.Cases.{Said, Says, data_said}
use Rattle.data_text.specs.Described.{Describes}
use Rattle.plan_check.specs.Judged.{judged}
use Rattle.plan_search.specs.Status.{Status}
use Rattle.plan_search.specs.Status.TheVariants.{Done, Usage, Outside, Refused, BadData, Rejected}
use Rattle.clap.specs.Words.{fault_of, subcommand_of}
use Rattle.clap.specs.Kinds.{Kinds}
use Rattle.command_line.specs.declared.command.Command.{Command}
use Rattle.command_line.specs.declared.command.Command.TheVariants.{Run, OfKernel, Check, Gen}
use Rattle.command_line.specs.Command.{IsTaken, command_met, command_of}
use Rattle.command_line.specs.Stated.{tool}
use Rattle.polypar.specs.Cut.{kernel_part, data_part}
use Rattle.polypar.specs.Deserves.{DeservesCase, DeservesData, DeservesText, DeservesInput, DeservesKernel}
use Rattle.polypar.specs.Deserves.{DeservesSpelled, DeservesCertificate, DeservesJudged, DeservesChecked, DeservesFor}
use Rattle.polypar.specs.Deserves.{Deserves, IsVerdict, too_long}
use Rattle.polypar.proofs.CheckLemmas.{IsJudged, is_judged}

-- the laws of texts, of data and of failures on which this stands
pub record Laws : Type 0 where
  pub text : (text : List ℕ) → ((p : Program) × SpellsProgram text p)
      ⊎ ((kind : RefusalKind) × (at : ℕ) × IsFirstFault text kind at)
  pub kernel : (text : List ℕ) (p : Program) → SpellsProgram text p → IsKernel p
  pub said : (text : List ℕ) (program : Program) → ((said : Said) × Says text program said.params said.contents)
      ⊎ ((refusal : DataRefusal) × (data_said program text ≡ Err refusal))
  pub described : (text : List ℕ) (program : Program) (params : List ℤ) (contents : List (List ℕ))
      → Says text program params contents → Describes program (line_of text) params contents
  pub ranked : (program : Program) (params : List ℤ) → IsKernel program
      → length params ≡ length program.parameters → VisitsAreRanked (layout program params) (walk_of program params)
  pub inside : (extents : List (List ℕ)) (visits : List Visit) → VisitsAreRanked extents visits
      → first_outside extents visits ≡ None → AreInside extents visits

-- some verdict is deserved
abbrev HasVerdict : (Status → Type 0) → Type 0
HasVerdict Earns = (status : Status) × IsVerdict status × Earns status

case_deserves : Laws → (program : Program) (params : List ℤ) → IsKernel program
    → length params ≡ length program.parameters → (found : Option Failure)
    → first_outside (layout program params) (walk_of program params) ≡ found → HasVerdict (DeservesCase program params)
case_deserves laws program params kernel count None is =
    (Done, tt, inl (laws.inside _ _ (laws.ranked program params kernel count) is, refl))
case_deserves laws program params kernel count (Some f) is = (Outside (outside_of f), tt, inr (f, is, refl))

data_deserves : Laws → (program : Program) (text : List ℕ) → IsKernel program
    → ((said : Said) × Says text program said.params said.contents)
    ⊎ ((refusal : DataRefusal) × (data_said program text ≡ Err refusal)) → HasVerdict (DeservesData program text)
data_deserves laws program text kernel (inl said) =
    let params = said.0.params in
    let count = (laws.described text program params said.0.contents said.1).params_are.count in
    let rest = case_deserves laws program params kernel count _ refl in
    (rest.0, rest.1, inl (params, said.0.contents, said.1, rest.2))
data_deserves laws program text kernel (inr broken) = (BadData broken.0, tt, inr (broken.0, broken.1, refl))

-- a first fault as it is told
refusal_of : (kernel : List ℕ) (kind : RefusalKind) (at : ℕ) → IsFirstFault kernel kind at
    → (refusal : Refusal) × IsRefusedAs kernel refusal
refusal_of kernel kind at fault = (
  record { kind = kind; line = line_behind (take at kernel); column = column_behind (take at kernel) },
  record { at = at; fault = fault; line = refl; column = refl },
)

text_deserves : Laws → (kernel text : List ℕ) → ((p : Program) × SpellsProgram kernel p)
    ⊎ ((kind : RefusalKind) × (at : ℕ) × IsFirstFault kernel kind at) → HasVerdict (DeservesText kernel text)
text_deserves laws kernel text (inl spelled) =
    let rest = data_deserves laws spelled.0 text (laws.kernel kernel spelled.0 spelled.1) (laws.said text spelled.0) in
    (rest.0, rest.1, inl (spelled.0, spelled.1, rest.2))
text_deserves laws kernel text (inr fault) =
    let refused = refusal_of kernel fault.0 fault.1 fault.2 in
    (Refused refused.0, tt, inr (refused.0, refused.1, refl))

input_deserves : Laws → (input : List ℕ) (long : Bool) → ltb (2 ^ 27) (length input) ≡ long
    → HasVerdict (DeservesInput input)
input_deserves laws input true is = (too_long, tt, inr (ltb-true (2 ^ 27) (length input) is, refl))
input_deserves laws input false is =
    let rest = text_deserves laws (kernel_part input) (data_part input) (laws.text (kernel_part input)) in
    (rest.0, rest.1, inl (ltb-false (2 ^ 27) (length input) is, rest.2))

kernel_deserves : (kernel : List ℕ) → ((p : Program) × SpellsProgram kernel p)
    ⊎ ((kind : RefusalKind) × (at : ℕ) × IsFirstFault kernel kind at) → HasVerdict (DeservesKernel kernel)
kernel_deserves kernel (inl spelled) = (Done, tt, inl (spelled.0, spelled.1, refl))
kernel_deserves kernel (inr fault) =
    let refused = refusal_of kernel fault.0 fault.1 fault.2 in
    (Refused refused.0, tt, inr (refused.0, refused.1, refl))

spelled_deserves : Laws → (input : List ℕ) (long : Bool) → ltb (2 ^ 27) (length input) ≡ long
    → HasVerdict (DeservesSpelled input)
spelled_deserves laws input true is = (too_long, tt, inr (ltb-true (2 ^ 27) (length input) is, refl))
spelled_deserves laws input false is =
    let rest = kernel_deserves (kernel_part input) (laws.text (kernel_part input)) in
    (rest.0, rest.1, inl (ltb-false (2 ^ 27) (length input) is, rest.2))

certificate_deserves : (program : Program) (text : List ℕ) → IsJudged (judged program text)
    → HasVerdict (DeservesCertificate program text)
certificate_deserves program text (inl accepted) = (Done, tt, inl (accepted, refl))
certificate_deserves program text (inr (fault, is)) = (Rejected fault.kind fault.line, tt, inr (fault, is, refl))

judged_deserves : (kernel text : List ℕ) → ((p : Program) × SpellsProgram kernel p)
    ⊎ ((kind : RefusalKind) × (at : ℕ) × IsFirstFault kernel kind at) → HasVerdict (DeservesJudged kernel text)
judged_deserves kernel text (inl spelled) =
    let rest = certificate_deserves spelled.0 text (is_judged spelled.0 text) in
    (rest.0, rest.1, inl (spelled.0, spelled.1, rest.2))
judged_deserves kernel text (inr fault) =
    let refused = refusal_of kernel fault.0 fault.1 fault.2 in
    (Refused refused.0, tt, inr (refused.0, refused.1, refl))

checked_deserves : Laws → (input : List ℕ) (long : Bool) → ltb (2 ^ 27) (length input) ≡ long
    → HasVerdict (DeservesChecked input)
checked_deserves laws input true is = (too_long, tt, inr (ltb-true (2 ^ 27) (length input) is, refl))
checked_deserves laws input false is =
    let rest = judged_deserves (kernel_part input) (data_part input) (laws.text (kernel_part input)) in
    (rest.0, rest.1, inl (ltb-false (2 ^ 27) (length input) is, rest.2))

command_deserves : Laws → (command : Command) (input : List ℕ) → HasVerdict (DeservesFor command input)
command_deserves laws (Run options) input = input_deserves laws input _ refl
command_deserves laws (OfKernel asked) input = spelled_deserves laws input _ refl
command_deserves laws Check input = checked_deserves laws input _ refl
command_deserves laws (Gen generated options) input = (Done, tt, refl)

-- words are taken, or not
taken_or_not : (words : List (List ℕ)) (faults : Kinds) (named : Bool) → fault_of tool words ≡ faults
    → is_some (command_met (subcommand_of tool words)) ≡ named → IsTaken words ⊎ (IsTaken words → ⊥)
taken_or_not words [] true is some = inl (is, some)
taken_or_not words [] false is none = inr (λ taken. let both = sym none ∙ taken.1 in cc)
taken_or_not words (k ∷ ks) named is some = inr (λ taken. let both = sym is ∙ taken.0 in cc)

words_by : Laws → (words : List (List ℕ)) (input : List ℕ) → IsTaken words ⊎ (IsTaken words → ⊥)
    → HasVerdict (Deserves words input)
words_by laws words input (inl taken) =
    let rest = command_deserves laws (command_of words) input in (rest.0, rest.1, inl (taken, rest.2))
words_by laws words input (inr none) = (Usage, tt, inr (none, refl))

-- words and an input deserve a status that is no fault and no want of memory
pub words_deserve : Laws → (words : List (List ℕ)) (input : List ℕ)
    → (status : Status) × IsVerdict status × Deserves words input status
words_deserve laws words input = words_by laws words input (taken_or_not words _ _ refl refl)
