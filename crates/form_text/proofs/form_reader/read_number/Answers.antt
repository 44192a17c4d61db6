use Rattle.whole_numbers.proofs.Common.{rules, ◌≡◌, ◌∙◌, ◌+◌, ◌-◌, ◌*◌, ◌^◌, ◌<◌, length, ap, sym, arith}
use Rattle.form_text.specs.Reading.{number_in_front, behind_digits}
use Rattle.form_text.specs.View.{saturated}
use Rattle.form_text.proofs.StrippedFronts.{saturated_same, stops_at_end}
use Rattle.form_text.proofs.form_reader.read_number.Goals as goal

pub returns-then-not-is_ascii_digit-clause-number : goal.returns-then-not-is_ascii_digit-clause-number
returns-then-not-is_ascii_digit-clause-number c =
    let l = c.loop-first in
    let low = l.invariant.low in
    let stops : number_in_front l.number l.rest.now ≡ l.number = search rules in
    let small : saturated l.number ≡ l.number = omega (arith, low) in
    sym small ∙ (ap saturated (sym stops) ∙ l.invariant.number)

pub loop-first-preserved : goal.loop-first-preserved
loop-first-preserved c =
    let l = c.loop-first in
    let b = c.in-Some.first.now in
    let others = c.in-Some.others.now in
    let n = c.saturating_add-number.result in
    let next : number_in_front l.number l.rest.now ≡ number_in_front (l.number * 10 + (b - 48)) others = search rules in
    let behind : behind_digits l.rest.now ≡ behind_digits others = search rules in
    let low : n < 2 ^ 128 = search rules in
    let near : saturated n ≡ saturated (l.number * 10 + (b - 48)) =
    omega (arith, c.saturating_add-number.ensures, c.saturating_mul.ensures, c.from.ensures) in
    record {
      number = saturated_same n (l.number * 10 + (b - 48)) others near ∙ (ap saturated (sym next) ∙ l.invariant.number);
      low = low;
      behind = sym behind ∙ l.invariant.behind;
    }

pub returns-clause-number : goal.returns-clause-number
returns-clause-number c =
    let l = c.loop-first in
    let low = l.invariant.low in
    let none : length l.rest.now ≡ 0 = search rules in
    let stops = stops_at_end l.number l.rest.now none in
    let small : saturated l.number ≡ l.number = omega (arith, low) in
    sym small ∙ (ap saturated (sym stops) ∙ l.invariant.number)
