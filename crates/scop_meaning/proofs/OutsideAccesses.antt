-- What an answer without a failure tells.
use Rattle.scop_syntax.proofs.Common.{◌≡◌, Option, Some, None, refl, option_map, Failure}
use Rattle.scop_meaning.specs.Outside.{outside_of}

-- no failure is found where none is told
pub none_found : (found : Option Failure) → None ≡ option_map outside_of found → found ≡ None
none_found None told = refl
none_found (Some f) told = absurd cc
