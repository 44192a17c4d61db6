use Rattle.scop_syntax.proofs.Common.{rules, ◌≡◌, ◌<◌, ◌≤◌, ◌++◌, ◌∷◌, [], pos, length, get_or, FitsSigned, w64, Some}
use Rattle.scop_syntax.proofs.Common.{None, to_z-of_z, drop_all}
use Rattle.c_printer.specs.steps.Reading.{narrow}
use Rattle.c_printer.proofs.NarrowNumbers.{narrow_more, narrow_stops, narrow_ends, number_ahead}
use Rattle.c_printer.proofs.read_forms.narrow_list.Goals as goal

pub returns-in_default : goal.returns-in_default
returns-in_default c =
    let l = c.loop-at in
    let zs = c.args.numbers.now in
    let h : l.at < length zs = search rules in
    let is : None ≡ narrow (get_or zs l.at (pos 0)) = search rules in
    narrow_stops l.all.items _ _ _ _ (number_ahead zs l.at h) is l.invariant

pub returns : goal.returns
returns c =
    let l = c.loop-at in
    let zs = c.args.numbers.now in
    let past : length zs ≤ l.at = search rules in
    narrow_ends l.all.items _ _ (drop_all l.at zs past) l.invariant

pub loop-at-preserved : goal.loop-at-preserved
loop-at-preserved c =
    let l = c.loop-at in
    let zs = c.args.numbers.now in
    let n = c.in-Some.same in
    let fits : FitsSigned w64 n = search rules in
    let h : l.at < length zs = search rules in
    let is : Some n ≡ narrow (get_or zs l.at (pos 0)) = search rules in
    let pushed : c.push.new.self.items ≡ l.all.items ++ n ∷ [] = simp to_z-of_z at c.in-Ok.ensures.items in
    narrow_more l.all.items c.push.new.self.items _ _ _ n _ (number_ahead zs l.at h) pushed is l.invariant
