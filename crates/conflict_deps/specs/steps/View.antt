-- What the code's values stand for, and what its calls ask of them; only for the code's own steps.
use Rattle.std.specs.Prelude.{◌≡◌, ℕ, ◌+◌, ◌≤◌, Bool, List, [], ◌∷◌, ◌++◌, length, if◌then◌else◌, All}
use Rattle.integer_sets.specs.Constraints.{IsSized}
use Rattle.scop_syntax.specs.Tree.{Test}
use Rattle.iteration_domains.specs.Constraints.{equalities_in, rows_in}
use Rattle.iteration_domains.specs.Sizes.{IsNarrow}
use Rattle.conflict_deps.specs.Conflicts.{Side, side, loops_of, After, after, equal_turns, later_turn}
use Rattle.conflict_deps.specs.declared.deps.AccessOf.{AccessOf}
use Rattle.conflict_deps.specs.declared.deps.PairRows.{PairRows}

-- the access that a value of the code stands for
abbrev pub side_of : AccessOf → Side
side_of a = side a.statement.now a.number a.access.now

-- the order by which k turns are equal, and the next one is later or the text decides
abbrev pub order_at : ℕ → ℕ → ℕ → Bool → After
order_at n d k later =
    after (k + 1) (if later then equal_turns n d k ++ later_turn n d k ∷ [] else equal_turns n d k)

-- an access of a model with m parameters
pub record CanPair (m : ℕ) (s : Side) : Type 0 where
  pub parameters : s.statement.domain.parameters ≡ m
  pub loops : length s.statement.loops ≡ loops_of s
  pub few_loops : loops_of s ≤ 5
  pub narrow : All (IsNarrow (loops_of s + m)) s.access.subscripts

-- the rows are those of these comparisons, and are over n variables
pub record ShowsTests (n : ℕ) (rows : PairRows) (tests : List Test) : Type 0 where
  pub equalities : rows.equalities.items ≡ equalities_in tests
  pub rows_are : rows.rows.items ≡ rows_in tests
  pub sized : IsSized n rows.equalities.items rows.rows.items

-- rows gain these comparisons behind
abbrev pub GainsTests : ℕ → PairRows → PairRows → List Test → Type 0
GainsTests n old new gained = (tests : List Test) → ShowsTests n old tests → ShowsTests n new (tests ++ gained)
