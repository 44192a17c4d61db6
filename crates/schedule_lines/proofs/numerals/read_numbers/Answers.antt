use Rattle.std.proofs.Common.{rules, ◌≡◌, ◌++◌, ◌∷◌, [], ◌<◌, length, Some, None, codes}
use Rattle.form_text.specs.Reading.{strip}
use Rattle.schedule_lines.specs.Reading.{entry_in, numbers_in}
use Rattle.schedule_lines.proofs.ReadLists.{numbers_end, numbers_more, numbers_stop}
use Rattle.schedule_lines.proofs.numerals.read_numbers.Goals as goal

pub returns-in-Some : goal.returns-in-Some
returns-in-Some c =
    let l = c.loop-at in
    let n = length c.args.text.now in
    let h : l.at < n = search rules in
    let some : Some c.in-Some.behind.now ≡ strip (codes ")") l.rest.now = search rules in
    numbers_end n l.at l.rest.now c.in-Some.behind.now l.found.items (numbers_in n 0 c.args.text.now) h some l.invariant

pub returns-in-None : goal.returns-in-None
returns-in-None c =
    let l = c.loop-at in
    let n = length c.args.text.now in
    let h : l.at < n = search rules in
    let none : None ≡ strip (codes ")") l.rest.now = search rules in
    let stop : None ≡ entry_in l.at l.rest.now = search rules in
    numbers_stop n l.at l.rest.now l.found.items (numbers_in n 0 c.args.text.now) h none stop l.invariant

pub loop-at-preserved : goal.loop-at-preserved
loop-at-preserved c =
    let l = c.loop-at in
    let n = length c.args.text.now in
    let e = c.in-Some-read_entry.entry in
    let h : l.at < n = search rules in
    let none : None ≡ strip (codes ")") l.rest.now = search rules in
    let read : Some (e.found, e.rest.now) ≡ entry_in l.at l.rest.now = search rules in
    let pushed : c.push_number.new.numbers.items ≡ l.found.items ++ e.found ∷ [] = search rules in
    numbers_more n l.at e.found l.rest.now e.rest.now l.found.items c.push_number.new.numbers.items
    (numbers_in n 0 c.args.text.now) h none read pushed l.invariant
