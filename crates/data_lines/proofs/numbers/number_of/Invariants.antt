-- The bytes so far are digits, and the number so far with the digits to come is that of all.
use Rattle.scop_syntax.proofs.Common.{◌≡◌, ◌^◌, ◌<◌, drop, list_all}
use Rattle.scop_lexer.specs.Bytes.{is_digit}
use Rattle.scop_lexer.specs.Constants.{number_behind}
use Rattle.data_lines.specs.Numbers.{decimal_value}
use Rattle.data_lines.proofs.numbers.number_of.Given as goal

abbrev pub invariant-loop-byte : goal.invariant-loop-byte
invariant-loop-byte l = record {
  digits : list_all is_digit (drop l.byte-index l.word) ≡ list_all is_digit l.word;
  value : number_behind 10 l.value (drop l.byte-index l.word) ≡ decimal_value l.word;
  small : l.value < 2 ^ 64;
}
