-- Each generated case is within the limits, and every index lies inside; something is given of each array, and no list.
use Rattle.scop_syntax.proofs.Common.{◌≡◌, ◌≤◌, ℕ, ℤ, List, IsInside, None, Program, WithinLimits, layout, length, refl}
use Rattle.scop_syntax.proofs.Common.{narrow_arrays}
use Rattle.data_text.specs.Cases.{contents_said, first_miscount}
use Rattle.data_text.specs.Sheets.{Given}
use Rattle.kernel_gen.specs.declared.kind.Kind.{Kind}
use Rattle.kernel_gen.specs.declared.kind.Kind.TheVariants.{Product, Sweep, Chain}
use Rattle.kernel_gen.specs.Cases.{contents, extents, given, params, program}
use Rattle.kernel_gen.proofs.Products.{product_inside, product_within}
use Rattle.kernel_gen.proofs.Sweeps.{sweep_inside, sweep_within}
use Rattle.kernel_gen.proofs.Chains.{chain_inside, chain_within}

pub inside : (kind : Kind) (seed size : ℕ) → IsInside (program kind seed) (params kind size)
inside Product seed size = product_inside size
inside Sweep seed size = sweep_inside size
inside Chain seed size = chain_inside seed size

pub within : (kind : Kind) (seed size : ℕ) → 1 ≤ size → size ≤ 512
    → WithinLimits (program kind seed) (params kind size)
within Product seed size low high = product_within size low high
within Sweep seed size low high = sweep_within size high
within Chain seed size low high = chain_within seed size high

pub as_many : (kind : Kind) (seed : ℕ) → length (given kind seed) ≡ length (program kind seed).arrays
as_many Product seed = refl
as_many Sweep seed = refl
as_many Chain seed = refl

no_lists : (kind : Kind) (seed size : ℕ) → first_miscount None (extents kind seed size) (given kind seed) ≡ None
no_lists Product seed size = refl
no_lists Sweep seed size = refl
no_lists Chain seed size = refl

module _ (kind : Kind) (seed size : ℕ) (p : Program) (ps : List ℤ) (gs : List Given) (of_kind : p ≡ program kind seed)
    (of_size : ps ≡ params kind size) (of_given : gs ≡ given kind seed) where
  pub lists_none : first_miscount None (layout p ps) gs ≡ None
  lists_none = rw (of_kind, of_size, of_given) (no_lists kind seed size)

  pub contents_are : contents_said (narrow_arrays p) (layout p ps) gs ≡ contents kind seed size
  contents_are = rw (of_kind, of_size, of_given) refl
