-- The values that a chain of loops stands for.
use Rattle.std.specs.Prelude.{ℤ, List, [], ◌∷◌, ◌++◌}
use Rattle.loop_tree.specs.declared.outer.Outer.{Outer}
use Rattle.loop_tree.specs.declared.outer.Outer.TheFolds.{fold-Outer}
use Rattle.loop_tree.specs.declared.outer.Outer.TheOpen.{Outer-F}
use Rattle.loop_tree.specs.declared.outer.Point.{Point}

-- one loop of the chain, over the values of those round it
abbrev pub chain_step : Outer-F (List ℤ) → List ℤ
chain_step (Outer-F.Row values) = values.now
chain_step (Outer-F.Within inner value) = inner.now ++ value ∷ []

-- the values of the chain's loops, outermost first
abbrev pub values_in : Outer → List ℤ
values_in = fold-Outer (List ℤ) chain_step

-- those of a chain, and of the loops within in a row
abbrev pub values_at : Point → List ℤ
values_at p = values_in p.chain.now ++ p.row.now
