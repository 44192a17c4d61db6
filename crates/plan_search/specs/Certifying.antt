-- What `certify` prints of a kernel: the certificate of its schedule, the number of the first goal without a
-- derivation, or why its order is kept.
use Rattle.std.specs.Prelude.{◌≡◌, ◌⊎◌, ℕ, true, List, [], Result, Ok, Err}
use Rattle.scop_syntax.specs.Tree.{Program}
use Rattle.iteration_domains.specs.Model.{model_of}
use Rattle.pluto_search.specs.Items.{Block}
use Rattle.plan_certificate.specs.KeptLine.{KeptLine}
use Rattle.plan_certificate.specs.KeptText.{kept_text}
use Rattle.plan_certificate.specs.UncertifiedText.{uncertified_text}
use Rattle.plan_certificate.specs.Judged.{judged}
use Rattle.plan_certificate.specs.Certificates.{certificate_of}
use Rattle.plan_search.specs.Planning.{IsSearched, IsCauseOf, covers_in}

-- the text is the certificate that is given, which the checker accepts; or it tells the number of the goal that has none
abbrev pub IsGivenText : Program → Result (List ℕ) ℕ → List ℕ → Type 0
IsGivenText program (Ok certificate) text = (text ≡ certificate) × (judged program text ≡ Ok true)
IsGivenText program (Err goal) text = text ≡ uncertified_text goal

-- the text is what certifying the schedule gives that is found, or the kept line of a cause that holds
abbrev pub IsCertificateText : ℕ → Program → List ℕ → Type 0
IsCertificateText budget program text =
    ((blocks : List Block) × IsSearched budget (covers_in budget [] program) (model_of program) blocks
    × IsGivenText program (certificate_of (model_of program) blocks) text)
    ⊎ ((told : KeptLine) × IsCauseOf budget (covers_in budget [] program) (model_of program) told
    × (text ≡ kept_text told))
