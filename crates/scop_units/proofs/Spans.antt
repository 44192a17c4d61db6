-- Tokens stand within the text.
use Rattle.scop_syntax.proofs.Common.{◌≡◌, ℕ, zero, suc, ◌≤◌, List, [], ◌∷◌, subst, arith, slice_get, Some}
use Rattle.scop_lexer.specs.Tokens.{AreBetween}
use Rattle.scop_lexer.specs.declared.token.Token.{Token}

pub end_between : (from to : ℕ) (ts : List Token) → AreBetween from ts to → from ≤ to
end_between from to [] h = h
end_between from to (t ∷ ts) h = let e = end_between t.end to ts h.2 in omega (arith, e, h.0, h.1)

pub start_within : (from to : ℕ) (ts : List Token) (at : ℕ) (t : Token) → AreBetween from ts to
    → slice_get ts at ≡ Some t → t.start ≤ to
start_within from to [] at t h e = absurd cc
start_within from to (u ∷ ts) zero t h e =
    let last = end_between u.end to ts h.2 in
    let same : u ≡ t = cc in
    subst (λ (x : Token). x.start ≤ to) same (omega (arith, last, h.1))
start_within from to (u ∷ ts) (suc at) t h e = start_within u.end to ts at t h.2 e
