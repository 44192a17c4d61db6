-- The text that tells what a generated case left.
use Rattle.std.specs.Prelude.{ℕ, List, [], ◌∷◌, codes, decimal}
use Rattle.std.specs.List.{concat}
use Rattle.kernel_gen.specs.declared.kind.Kind.{Kind}
use Rattle.kernel_gen.specs.declared.kind.Kind.TheVariants.{Product, Sweep, Chain}

-- the name of a kind
abbrev pub name_of : Kind → List ℕ
name_of Product = codes "product"
name_of Sweep = codes "sweep"
name_of Chain = codes "chain"

-- gen KIND seed SEED size SIZE
-- tiles T waves W
-- cells C sum X
abbrev pub summary_text : Kind → ℕ → ℕ → ℕ → ℕ → ℕ → ℕ → List ℕ
summary_text kind seed size tiles waves cells sum =
    concat (codes "gen " ∷ name_of kind ∷ codes " seed " ∷ decimal seed ∷ codes " size " ∷ decimal size
    ∷ codes "\ntiles " ∷ decimal tiles ∷ codes " waves " ∷ decimal waves
    ∷ codes "\ncells " ∷ decimal cells ∷ codes " sum " ∷ decimal sum ∷ codes "\n" ∷ [])
