-- Each check in the order of work has one outcome, so words and an input deserve one status.
use Rattle.scop_syntax.proofs.Common.{◌≡◌, ◌∙◌, sym, subst, ap, inl, inr, ℕ, ◌≤◌, ◌^◌, ℤ, List, length, Option, None}
use Rattle.scop_syntax.proofs.Common.{Some, arith, same_Some, Err, Ok, true, Program, Visit, AreInside, first_outside}
use Rattle.scop_meaning.specs.Outside.{outside_of}
use Rattle.scop_parser.specs.Spelling.{SpellsProgram, IsFirstFault, IsRefusedAs}
use Rattle.scop_parser.specs.declared.refusal.Refusal.{Refusal}
use Rattle.scop_parser.specs.RefusalKind.{Kind as RefusalKind}
use Rattle.data_lines.specs.declared.refusal.DataRefusal.{DataRefusal}
use Rattle.data_text.specs.Cases.{Says, data_said}
use Rattle.plan_check.specs.Judged.{judged}
use Rattle.plan_check.specs.Judged.{Rejected as Fault}
use Rattle.plan_search.specs.Status.{Status}
use Rattle.plan_search.specs.Status.TheVariants.{Outside, Refused, BadData, Rejected}
use Rattle.polypar.specs.Cut.{kernel_part, data_part}
use Rattle.command_line.specs.declared.command.Command.{Command}
use Rattle.command_line.specs.declared.command.Command.TheVariants.{Run, OfKernel, Check, Gen}
use Rattle.command_line.specs.Command.{command_of}
use Rattle.polypar.specs.Deserves.{DeservesCase, DeservesData, DeservesText, DeservesInput, DeservesKernel}
use Rattle.polypar.specs.Deserves.{DeservesSpelled, DeservesCertificate, DeservesJudged, DeservesChecked, DeservesFor}
use Rattle.polypar.specs.Deserves.{Deserves}

-- the laws of failures, of texts and of data on which this stands
pub record Laws : Type 0 where
  pub inside : (extents : List (List ℕ)) (visits : List Visit) → AreInside extents visits
      → first_outside extents visits ≡ None
  pub program : (text : List ℕ) (p q : Program) → SpellsProgram text p → SpellsProgram text q → p ≡ q
  pub fault : (text : List ℕ) (kind : RefusalKind) (at : ℕ) (p : Program) → IsFirstFault text kind at
      → SpellsProgram text p → ⊥
  pub refusal : (text : List ℕ) (r s : Refusal) → IsRefusedAs text r → IsRefusedAs text s → r ≡ s
  pub case : (text : List ℕ) (program : Program) (p q : List ℤ) (a b : List (List ℕ)) → Says text program p a
      → Says text program q b → (p ≡ q) × (a ≡ b)
  pub no_case : (text : List ℕ) (program : Program) (p : List ℤ) (a : List (List ℕ)) (refusal : DataRefusal)
      → Says text program p a → data_said program text ≡ Err refusal → ⊥

-- a value that there is is not none
not_none : {A : Type 0} {P : Type 0} (x : Option A) (y : A) → x ≡ None → x ≡ Some y → P
not_none x y none some = absurd (let both = sym none ∙ some in cc)

-- one rule is broken first
rule_same : (program : Program) (text : List ℕ) (r s : DataRefusal) → data_said program text ≡ Err r
    → data_said program text ≡ Err s → r ≡ s
rule_same program text r s x y = let both = sym x ∙ y in cc

case_once : Laws → (program : Program) (params : List ℤ) (a b : Status) → DeservesCase program params a
    → DeservesCase program params b → a ≡ b
case_once laws program params a b (inl x) (inl y) = x.1 ∙ sym y.1
case_once laws program params a b (inl x) (inr y) = not_none _ y.0 (laws.inside _ _ x.0) y.1
case_once laws program params a b (inr x) (inl y) = not_none _ x.0 (laws.inside _ _ y.0) x.1
case_once laws program params a b (inr x) (inr y) =
    x.2 ∙ (ap Outside (ap outside_of (same_Some x.0 y.0 (sym x.1 ∙ y.1))) ∙ sym y.2)

data_once : Laws → (program : Program) (text : List ℕ) (a b : Status) → DeservesData program text a
    → DeservesData program text b → a ≡ b
data_once laws program text a b (inl x) (inl y) =
    let same = laws.case text program x.0 y.0 x.1 y.1 x.2 y.2 in
    case_once laws program y.0 a b (subst (λ params. DeservesCase program params a) same.0 x.3) y.3
data_once laws program text a b (inl x) (inr y) = absurd (laws.no_case text program x.0 x.1 y.0 x.2 y.1)
data_once laws program text a b (inr x) (inl y) = absurd (laws.no_case text program y.0 y.1 x.0 y.2 x.1)
data_once laws program text a b (inr x) (inr y) = x.2 ∙ (ap BadData (rule_same program text x.0 y.0 x.1 y.1) ∙ sym y.2)

text_once : Laws → (kernel text : List ℕ) (a b : Status) → DeservesText kernel text a → DeservesText kernel text b
    → a ≡ b
text_once laws kernel text a b (inl x) (inl y) =
    data_once laws y.0 text a b (subst (λ program. DeservesData program text a) (laws.program kernel x.0 y.0 x.1 y.1)
    x.2) y.2
text_once laws kernel text a b (inl x) (inr y) = absurd (laws.fault kernel y.0.kind y.1.at x.0 y.1.fault x.1)
text_once laws kernel text a b (inr x) (inl y) = absurd (laws.fault kernel x.0.kind x.1.at y.0 x.1.fault y.1)
text_once laws kernel text a b (inr x) (inr y) = x.2 ∙ (ap Refused (laws.refusal kernel x.0 y.0 x.1 y.1) ∙ sym y.2)

input_once : Laws → (input : List ℕ) (a b : Status) → DeservesInput input a → DeservesInput input b → a ≡ b
input_once laws input a b (inl x) (inl y) = text_once laws (kernel_part input) (data_part input) a b x.1 y.1
input_once laws input a b (inl x) (inr y) = let short : length input ≤ 2 ^ 27 = x.0 in absurd (omega (arith, y.0))
input_once laws input a b (inr x) (inl y) = let short : length input ≤ 2 ^ 27 = y.0 in absurd (omega (arith, x.0))
input_once laws input a b (inr x) (inr y) = x.1 ∙ sym y.1

kernel_once : Laws → (kernel : List ℕ) (a b : Status) → DeservesKernel kernel a → DeservesKernel kernel b → a ≡ b
kernel_once laws kernel a b (inl x) (inl y) = x.2 ∙ sym y.2
kernel_once laws kernel a b (inl x) (inr y) = absurd (laws.fault kernel y.0.kind y.1.at x.0 y.1.fault x.1)
kernel_once laws kernel a b (inr x) (inl y) = absurd (laws.fault kernel x.0.kind x.1.at y.0 x.1.fault y.1)
kernel_once laws kernel a b (inr x) (inr y) = x.2 ∙ (ap Refused (laws.refusal kernel x.0 y.0 x.1 y.1) ∙ sym y.2)

spelled_once : Laws → (input : List ℕ) (a b : Status) → DeservesSpelled input a → DeservesSpelled input b → a ≡ b
spelled_once laws input a b (inl x) (inl y) = kernel_once laws (kernel_part input) a b x.1 y.1
spelled_once laws input a b (inl x) (inr y) = let short : length input ≤ 2 ^ 27 = x.0 in absurd (omega (arith, y.0))
spelled_once laws input a b (inr x) (inl y) = let short : length input ≤ 2 ^ 27 = y.0 in absurd (omega (arith, x.0))
spelled_once laws input a b (inr x) (inr y) = x.1 ∙ sym y.1

-- a certificate has one first fault
fault_same : (program : Program) (text : List ℕ) (f g : Fault) → judged program text ≡ Err f
    → judged program text ≡ Err g → f ≡ g
fault_same program text f g x y = let both = sym x ∙ y in cc

-- or none
no_fault : {P : Type 0} (program : Program) (text : List ℕ) (f : Fault) → judged program text ≡ Ok true
    → judged program text ≡ Err f → P
no_fault program text f x y = absurd (let both = sym x ∙ y in cc)

certificate_once : (program : Program) (text : List ℕ) (a b : Status) → DeservesCertificate program text a
    → DeservesCertificate program text b → a ≡ b
certificate_once program text a b (inl x) (inl y) = x.1 ∙ sym y.1
certificate_once program text a b (inl x) (inr y) = no_fault program text y.0 x.0 y.1
certificate_once program text a b (inr x) (inl y) = no_fault program text x.0 y.0 x.1
certificate_once program text a b (inr x) (inr y) =
    x.2 ∙ (ap (λ (f : Fault). Rejected f.kind f.line) (fault_same program text x.0 y.0 x.1 y.1) ∙ sym y.2)

judged_once : Laws → (kernel text : List ℕ) (a b : Status) → DeservesJudged kernel text a → DeservesJudged kernel text b
    → a ≡ b
judged_once laws kernel text a b (inl x) (inl y) =
    certificate_once y.0 text a b
    (subst (λ program. DeservesCertificate program text a) (laws.program kernel x.0 y.0 x.1 y.1) x.2) y.2
judged_once laws kernel text a b (inl x) (inr y) = absurd (laws.fault kernel y.0.kind y.1.at x.0 y.1.fault x.1)
judged_once laws kernel text a b (inr x) (inl y) = absurd (laws.fault kernel x.0.kind x.1.at y.0 x.1.fault y.1)
judged_once laws kernel text a b (inr x) (inr y) = x.2 ∙ (ap Refused (laws.refusal kernel x.0 y.0 x.1 y.1) ∙ sym y.2)

checked_once : Laws → (input : List ℕ) (a b : Status) → DeservesChecked input a → DeservesChecked input b → a ≡ b
checked_once laws input a b (inl x) (inl y) = judged_once laws (kernel_part input) (data_part input) a b x.1 y.1
checked_once laws input a b (inl x) (inr y) = let short : length input ≤ 2 ^ 27 = x.0 in absurd (omega (arith, y.0))
checked_once laws input a b (inr x) (inl y) = let short : length input ≤ 2 ^ 27 = y.0 in absurd (omega (arith, x.0))
checked_once laws input a b (inr x) (inr y) = x.1 ∙ sym y.1

command_once : Laws → (command : Command) (input : List ℕ) (a b : Status) → DeservesFor command input a
    → DeservesFor command input b → a ≡ b
command_once laws (Run options) input a b x y = input_once laws input a b x y
command_once laws (OfKernel asked) input a b x y = spelled_once laws input a b x y
command_once laws Check input a b x y = checked_once laws input a b x y
command_once laws (Gen generated options) input a b x y = x ∙ sym y

-- words and an input deserve one status
pub words_once : Laws → (words : List (List ℕ)) (input : List ℕ) (a b : Status) → Deserves words input a
    → Deserves words input b → a ≡ b
words_once laws words input a b (inl x) (inl y) = command_once laws (command_of words) input a b x.1 y.1
words_once laws words input a b (inl x) (inr y) = absurd (y.0 x.0)
words_once laws words input a b (inr x) (inl y) = absurd (x.0 y.0)
words_once laws words input a b (inr x) (inr y) = x.1 ∙ sym y.1
