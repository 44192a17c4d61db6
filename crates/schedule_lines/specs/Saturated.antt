-- Items as they are read: each number at most 2^128 - 1.
use Rattle.std.specs.Prelude.{map}
use Rattle.form_text.specs.View.{saturated}
use Rattle.schedule_lines.specs.Lines.{Part, Row, Scalar}
use Rattle.schedule_lines.specs.Reading.{part_of, row_of, scalar_of}

abbrev pub saturated_part : Part → Part
saturated_part p = part_of (map saturated p.coefficients) (saturated p.shift)

abbrev pub saturated_row : Row → Row
saturated_row r =
    row_of (saturated r.number) (saturated r.band) r.parallel (map saturated r.u) (saturated r.w)
    (map saturated_part r.parts)

abbrev pub saturated_scalar : Scalar → Scalar
saturated_scalar s = scalar_of (saturated s.number) (map saturated s.values)
