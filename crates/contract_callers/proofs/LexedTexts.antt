-- The tokens of `x;`, and the fault of `@`.
use Rattle.scop_syntax.proofs.Common.{[], ◌∷◌, refl, List, codes}
use Rattle.scop_lexer.specs.Stands.{stands_at}
use Rattle.scop_lexer.specs.Tokens.{HasFault, HasTokens}
use Rattle.scop_lexer.specs.declared.token.Fault.{Fault}
use Rattle.scop_lexer.specs.declared.token.FaultKind.TheVariants.{Character}
use Rattle.scop_expressions.specs.Outside.TheVariants.{Semicolon}
use Rattle.scop_expressions.specs.Token.TheVariants.{Name, Outside}
use Rattle.scop_lexer.specs.declared.token.Token.{Token}

-- a name and a sign
abbrev pub name_and_sign : List Token
name_and_sign =
    record { kind = Name; value = 0; start = 0; end = 1 }
    ∷ record { kind = Outside Semicolon; value = 0; start = 1; end = 2 } ∷ []

-- they are the tokens of `x;`
pub lexed : HasTokens (codes "x;") name_and_sign
unfolding stands_at
lexed = (([], refl), (1, refl, refl), (([], refl), (1, refl, refl), ([], refl)))

-- a character that begins no token, at the first byte
abbrev pub at_front : Fault
at_front = record { kind = Character; place = 0 }

-- it is the fault of `@`
pub refused : HasFault (codes "@") at_front
unfolding stands_at
refused = ([], 0, ([], refl), (0, refl, refl))
