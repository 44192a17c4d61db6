-- Arrays that have as many cells as their extents say have as many in all.
use Rattle.scop_syntax.proofs.Common.{◌≡◌, ◌∙◌, ℕ, ◌+◌, List, [], ◌∷◌, length, map, refl, ap₂, IsShaped, cell_count}
use Rattle.scop_syntax.proofs.Common.{total_cells}
use Rattle.std.proofs.lemmas.List.Sums.{sum_by-cons}
use Rattle.kernel_gen.specs.Totals.{cells_in}

pub cells_of_shape : (extents contents : List (List ℕ)) → IsShaped extents contents
    → cells_in contents ≡ total_cells extents
cells_of_shape [] [] shape = refl
cells_of_shape [] (cells ∷ contents) shape = cc
cells_of_shape (sizes ∷ extents) [] shape = cc
cells_of_shape (sizes ∷ extents) (cells ∷ contents) shape =
    let here : length cells ≡ cell_count sizes = cc in
    let rest : map length contents ≡ map cell_count extents = cc in
    sum_by-cons length cells contents ∙ ap₂ (λ (n m : ℕ). n + m) here (cells_of_shape extents contents rest)
