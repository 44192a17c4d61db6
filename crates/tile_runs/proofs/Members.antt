-- From the visits of a plan's trees to the walked instances.
use Rattle.scop_syntax.proofs.Common.{ℕ, ℤ, List, refl, subst, sym, In, Program, Instance}
use Rattle.loop_tree.specs.Plans.{AreInOrder, walked}
use Rattle.loop_tree.specs.Tiling.{Tiling, kept, tiled}
use Rattle.tile_list.specs.Counting.{HasValues}
use Rattle.tile_list.proofs.Counts.{same_values}

-- instances in a plan's order are the walked ones
pub in_walk : (program : Program) (params : List ℤ) (plan : Tiling) (xs : List Instance)
    → AreInOrder program params plan xs → (x : Instance)
    → (In x xs → In x (walked program params)) × (In x (walked program params) → In x xs)
in_walk program params kept xs order x =
    (subst (λ (ys : List Instance). In x ys) order, subst (λ (ys : List Instance). In x ys) (sym order))
in_walk program params (tiled size statements) xs order x = let both = order.1 x in (both.0, both.1)

-- so a function has as many values on these as on those
pub walked_values : {K : Type 0} (f : Instance → K) (program : Program) (params : List ℤ) (plan : Tiling)
    (xs : List Instance) (n : ℕ) → AreInOrder program params plan xs → HasValues f xs n
    → HasValues f (walked program params) n
walked_values f program params plan xs n order h = same_values f xs (walked program params) n h
    (λ y i. (y, (in_walk program params plan xs order y).1 i, refl))
    (λ x i. (x, (in_walk program params plan xs order x).0 i, refl))
