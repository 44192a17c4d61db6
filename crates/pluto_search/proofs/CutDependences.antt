-- Dependence by dependence: those that join two components are dropped.
use Rattle.scop_syntax.proofs.Common.{◌≡◌, ℕ, List, [], ◌∷◌, ◌++◌, refl, sym, subst, inl, inr, append_assoc}
use Rattle.std.proofs.lemmas.List.{append-nil}
use Rattle.iteration_domains.specs.Dependence.{Dependence}
use Rattle.stmt_graph.specs.Graph.{number_in}
use Rattle.schedule_rows.specs.Next.{Uncuts}

-- what stays of the rest goes behind what is kept
abbrev pub Passes : List ℕ → List Dependence → List Dependence → List Dependence → Type 0
Passes numbers rest kept deps = (more : List Dependence) → Uncuts numbers rest more → Uncuts numbers deps (kept ++ more)

pub cut_off : (numbers : List ℕ) (d : Dependence) (rest kept deps : List Dependence)
    → ((number_in numbers d.source.statement ≡ number_in numbers d.target.statement) → ⊥)
    → Passes numbers (d ∷ rest) kept deps → Passes numbers rest kept deps
cut_off numbers d rest kept deps apart h more u = h more (inl (apart, u))

pub passed_on : (numbers : List ℕ) (d : Dependence) (rest kept deps : List Dependence)
    → number_in numbers d.source.statement ≡ number_in numbers d.target.statement
    → Passes numbers (d ∷ rest) kept deps → Passes numbers rest (kept ++ d ∷ []) deps
passed_on numbers d rest kept deps same h more u =
    subst (λ (z : List Dependence). Uncuts numbers deps z) (sym (append_assoc kept (d ∷ []) more))
    (h (d ∷ more) (inr (more, same, u, refl)))

pub passes_last : (numbers : List ℕ) (kept deps : List Dependence) → Passes numbers [] kept deps
    → Uncuts numbers deps kept
passes_last numbers kept deps h =
    subst (λ (z : List Dependence). Uncuts numbers deps z) (append-nil kept) (h [] refl)
