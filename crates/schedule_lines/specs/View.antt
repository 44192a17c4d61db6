-- The plain data that the reader's answers stand for.
use Rattle.std.specs.Prelude.{ℕ, List, map, Bool, Option, Some, None}
use Rattle.scop_lexer.specs.Bytes.{Text}
use Rattle.schedule_lines.specs.Lines.{Part, Row, Scalar}
use Rattle.schedule_lines.specs.Reading.{part_of, row_of, scalar_of}
use Rattle.schedule_lines.specs.declared.numerals.Read.{Read}
use Rattle.schedule_lines.specs.declared.parts.PartLine.{PartLine}
use Rattle.schedule_lines.specs.declared.rows.Place.{Place}
use Rattle.schedule_lines.specs.declared.rows.Bound.{Bound}
use Rattle.schedule_lines.specs.declared.rows.RowLine.{RowLine}
use Rattle.schedule_lines.specs.declared.scalars.ScalarLine.{ScalarLine}

-- what was read, if anything, and what stands behind it
abbrev pub read_in : {A B : Type 0} → (A → B) → Option (Read A) → Option (B × Text)
read_in view (Some r) = Some (view r.found, r.rest.now)
read_in view None = None

abbrev pub number_read : Option (Read ℕ) → Option (ℕ × Text)
number_read r = read_in (λ n. n) r

-- a part
abbrev pub part_view : PartLine → Part
part_view p = part_of p.coefficients.items p.shift

abbrev pub place_view : Place → ℕ × ℕ
place_view p = (p.number, p.band)

abbrev pub bound_view : Bound → Bool × List ℕ × ℕ
bound_view b = (b.parallel, b.u.items, b.w)

-- a row, and a scalar item
abbrev pub row_view : RowLine → Row
row_view r = row_of r.number r.band r.parallel r.u.items r.w (map part_view r.parts.items)

abbrev pub scalar_view : ScalarLine → Scalar
scalar_view s = scalar_of s.number s.values.items
