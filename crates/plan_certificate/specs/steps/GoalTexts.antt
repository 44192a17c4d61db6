-- The text of one goal.
use Rattle.std.specs.Prelude.{ℕ, List, Option, Some, None, Result, Ok, Err}
use Rattle.scop_lexer.specs.Bytes.{Text}
use Rattle.plan_check.specs.Derivations.{Step}
use Rattle.plan_certificate.specs.Certificates.{proof_text}

-- the text of the goal of a number, or that number where it has no derivation
abbrev pub text_of : ℕ → Option (List Step) → Result Text ℕ
text_of g None = Err g
text_of g (Some steps) = Ok (proof_text g steps)
