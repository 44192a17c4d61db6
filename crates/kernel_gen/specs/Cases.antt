-- The generated cases: of each kind its program, the values of its parameters and what is given of its arrays.
use Rattle.std.specs.Prelude.{ℕ, ◌+◌, ◌%◌, ◌^◌, ℤ, pos, List, [], ◌∷◌}
use Rattle.scop_syntax.specs.Tree.{Program}
use Rattle.scop_syntax.specs.Execution.{layout}
use Rattle.scop_syntax.specs.Kernel.{narrow_arrays}
use Rattle.data_text.specs.Sheets.{Given, nothing, seeded}
use Rattle.data_text.specs.Cases.{contents_said}
use Rattle.kernel_gen.specs.declared.kind.Kind.{Kind}
use Rattle.kernel_gen.specs.declared.kind.Kind.TheVariants.{Product, Sweep, Chain}
use Rattle.kernel_gen.specs.Programs.{product, sweep, chain}

-- the kernel of a kind
abbrev pub program : Kind → ℕ → Program
program Product seed = product
program Sweep seed = sweep
program Chain seed = chain seed

-- the values of its parameters
abbrev pub params : Kind → ℕ → List ℤ
params Product size = pos size ∷ []
params Sweep size = pos size ∷ pos (size + 2) ∷ []
params Chain size = pos size ∷ []

-- what is given of each array
abbrev pub given : Kind → ℕ → List Given
given Product seed = seeded seed ∷ seeded ((seed + 1) % 2 ^ 64) ∷ nothing ∷ []
given Sweep seed = seeded seed ∷ []
given Chain seed = seeded seed ∷ seeded seed ∷ seeded seed ∷ seeded seed ∷ []

-- the extents of its arrays
abbrev pub extents : Kind → ℕ → ℕ → List (List ℕ)
extents kind seed size = layout (program kind seed) (params kind size)

-- what its arrays hold
abbrev pub contents : Kind → ℕ → ℕ → List (List ℕ)
contents kind seed size =
    contents_said (narrow_arrays (program kind seed)) (extents kind seed size) (given kind seed)
