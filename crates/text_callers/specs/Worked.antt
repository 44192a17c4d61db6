-- A worked loop, `for (int64_t i = 0; i < 7; i++) A[2 * i + 1] += i * A[i];`, outside all others: the formulas of its
-- parts, where i is the one entry of a point and A is array 0, of one dimension and 64 bits.
use Rattle.std.specs.Prelude.{true, false, codes}
use Rattle.scop_expressions.specs.Assign.TheVariants as assign
use Rattle.scop_expressions.specs.Base.TheVariants as base
use Rattle.scop_expressions.specs.Count.TheVariants as count
use Rattle.scop_expressions.specs.Op.TheVariants as op
use Rattle.scop_expressions.specs.Suffix.{Suffix}
use Rattle.scop_expressions.specs.Suffix.TheVariants as suffix
use Rattle.scop_roles.specs.declared.formula.Meaning.TheVariants as meaning
use Rattle.scop_roles.specs.Formula.{Formula, binary, constant, index, name}
use Rattle.scop_units.specs.Loops.{LoopHead, counted}
use Rattle.scop_units.specs.Units.{Stored}

-- a decimal without suffix
abbrev pub decimal : Suffix
decimal = suffix.Absent base.Decimal

-- i
abbrev pub i : Formula
i = name (meaning.Variable 0) 0

-- i < 7
abbrev pub below_seven : Formula
below_seven = binary op.Less i (constant decimal 7 2) 1

-- 2 * i + 1
abbrev pub odd : Formula
odd = binary op.Plus (binary op.Times (constant decimal 2 0) i 1) (constant decimal 1 4) 3

-- A[2 * i + 1]
abbrev pub odd_cell : Formula
odd_cell = index (name (meaning.Array 0 1 false) 0) odd

-- i * A[i]
abbrev pub product : Formula
product = binary op.Times i (index (name (meaning.Array 0 1 false) 2) i) 1

-- A[2 * i + 1] += i * A[i]
abbrev pub sum : Stored
sum = record { cell = odd_cell; assign = assign.Plus; assign_at = 8; value = product }

-- for (int64_t i = 0; i < 7; i++)
abbrev pub head : LoopHead
head =
    record {
      place = 0;
      new = true;
      name_at = 3;
      iterator = codes "i";
      first = constant decimal 0 5;
      second = below_seven;
      changed = i;
      change = counted count.Up;
    }
