-- What the code's stops stand for.
use Rattle.std.specs.Prelude.{ℕ, Option, Some, None}
use Rattle.plan_certificate.specs.declared.stop.CertifyStop.{CertifyStop}
use Rattle.plan_certificate.specs.declared.stop.CertifyStop.TheVariants as stop

-- the goal without a derivation; want of memory is none
abbrev pub uncertified_in : CertifyStop → Option ℕ
uncertified_in (stop.Uncertified goal) = Some goal
uncertified_in stop.NoMemory = None
