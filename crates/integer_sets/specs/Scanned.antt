-- A set that a loop nest scans, as plain data, and the iterators at its points.
use Rattle.std.specs.Prelude.{ℕ, ℤ, List, take, drop, Option}
use Rattle.integer_sets.specs.Constraints.{Constraints}

-- the points at which a statement's instances stand: the statement's number, the dimension whose loop may run in
-- parallel, if there is one, the dimension of the statement's first iterator, how many iterators it has, and the points
pub record Scanned : Type 0 where
  pub statement : ℕ
  pub parallel : Option ℕ
  pub first : ℕ
  pub iterators : ℕ
  pub system : Constraints

-- the set of these parts
abbrev pub scanned : ℕ → Option ℕ → ℕ → ℕ → Constraints → Scanned
scanned statement parallel first iterators system =
    record {
      statement = statement;
      parallel = parallel;
      first = first;
      iterators = iterators;
      system = system;
    }

-- the iterators of the instance that stands at a point
abbrev pub iterators_at : Scanned → List ℤ → List ℤ
iterators_at s point = take s.iterators (drop s.first point)
