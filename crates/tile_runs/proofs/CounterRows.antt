-- A row with zeros behind the cells of all arrays, for copies and counters.
use Rattle.scop_syntax.proofs.Common.{◌≡◌, ◌∙◌, ◌+◌, ◌≤◌, ℕ, zero, suc, List, [], ◌∷◌, ◌++◌, ap, arith, get_or, length}
use Rattle.scop_syntax.proofs.Common.{append_assoc, length-append, refl, replicate, sym, length-replicate}
use Rattle.scop_syntax.proofs.Common.{get_or-append, nat_cases}
use Rattle.std.proofs.lemmas.List.{replicate-append-replicate}
use Rattle.tile_core.specs.Plans.{HasRest, HoldsContents, plain_shape}
use Rattle.tile_core.specs.declared.plan.Plan.{Plan}
use Rattle.tile_events.specs.Flat.{flat}

-- zeros behind zeros
pub zeros_then : (old row new : List ℕ) (n k : ℕ) → row ≡ old ++ replicate n 0 → new ≡ row ++ replicate k 0
    → new ≡ old ++ replicate (n + k) 0
zeros_then old row new n k is more =
    more ∙ (ap (λ xs. xs ++ replicate k 0) is ∙ (append_assoc old (replicate n 0) (replicate k 0)
    ∙ ap (λ xs. old ++ xs) (replicate-append-replicate n k 0)))

-- behind a row's end there is 0, and so in zeros
zeros_behind : (xs : List ℕ) (n c : ℕ) → length xs ≤ c → get_or (xs ++ replicate n 0) c 0 ≡ 0
zeros_behind [] zero c l = refl
zeros_behind [] (suc n) zero l = refl
zeros_behind [] (suc n) (suc c) l = zeros_behind [] n c (omega arith)
zeros_behind (x ∷ xs) n zero l = absurd (omega (arith, l))
zeros_behind (x ∷ xs) n (suc c) l = zeros_behind xs n c (omega (arith, l))

nothing_behind : (xs : List ℕ) (c : ℕ) → length xs ≤ c → get_or xs c 0 ≡ 0
nothing_behind [] c l = refl
nothing_behind (x ∷ xs) zero l = absurd (omega (arith, l))
nothing_behind (x ∷ xs) (suc c) l = nothing_behind xs c (omega (arith, l))

module _ (old row : List ℕ) (n : ℕ) (is : row ≡ old ++ replicate n 0) where
  pub more_cells : length row ≡ length old + n
  more_cells = ap length is ∙ (length-append old (replicate n 0) ∙ ap (λ m. length old + m) (length-replicate n 0))

  pub has_rest : (plan : Plan) → length old ≡ (plain_shape plan).cells → HasRest plan row
  has_rest plan long = λ c less. ap (λ xs. get_or xs c 0) is ∙ zeros_behind old n c (omega (arith, less, long))

  pub holds_contents : (contents : List (List ℕ)) → old ≡ flat contents → HoldsContents contents row
  holds_contents contents same = λ c.
      nat_cases c (length old) (λ l. in_front c l) (λ e. behind c (omega (arith, e))) (λ l. behind c (omega (arith, l)))
    where
      in_front : (c : ℕ) → suc c ≤ length old → get_or row c 0 ≡ get_or (flat contents) c 0
      in_front c l =
          ap (λ xs. get_or xs c 0) is
          ∙ (get_or-append old (replicate n 0) 0 c l ∙ ap (λ xs. get_or xs c 0) same)

      behind : (c : ℕ) → length old ≤ c → get_or row c 0 ≡ get_or (flat contents) c 0
      behind c l =
          ap (λ xs. get_or xs c 0) is
          ∙ (zeros_behind old n c l ∙ (sym (nothing_behind old c l) ∙ ap (λ xs. get_or xs c 0) same))
