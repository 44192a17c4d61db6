-- The number so far with the digits to come is that of all.
use Rattle.whole_numbers.proofs.Common.{◌≡◌, ◌^◌, ◌<◌, length}
use Rattle.form_text.specs.Reading.{number_in_front, behind_digits}
use Rattle.form_text.specs.View.{saturated}
use Rattle.form_text.proofs.form_reader.read_number.Given as goal

abbrev pub invariant-loop-first : goal.invariant-loop-first
invariant-loop-first l = record {
  number : saturated (number_in_front l.number l.rest) ≡ saturated (number_in_front 0 l.text);
  low : l.number < 2 ^ 128;
  behind : behind_digits l.rest ≡ behind_digits l.text;
}

abbrev pub decreases-loop-first : goal.decreases-loop-first
decreases-loop-first l = length l.rest
