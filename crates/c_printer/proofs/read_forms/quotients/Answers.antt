use Rattle.scop_syntax.proofs.Common.{rules, ◌≡◌, ◌∙◌, ◌-◌, ◌<◌, ◌≤◌, ◌++◌, ◌∷◌, [], pos, arith, length, get_or}
use Rattle.scop_syntax.proofs.Common.{FitsSigned, w64, w128, Some, None, to_z-of_z}
use Rattle.c_printer.proofs.NarrowNumbers.{narrow_more, narrow_stops, narrow_ends, quotient_ahead, quotients_past}
use Rattle.c_printer.proofs.NarrowNumbers.{quotients_behind, nearest_at, nearest_length}
use Rattle.c_printer.proofs.read_forms.quotients.Goals as goal

pub returns-then-at-starts : goal.returns-then-at-starts
returns-then-at-starts c = λ zs is.
    let l = c.loop-at in
    let s = c.args.stride in
    let xs = c.args.starts.now in
    let fit : FitsSigned w64 s = c.ranges.stride in
    let past : length xs ≤ l.at = search rules in
    let so_far = simp to_z-of_z at (l.invariant zs is) in
    narrow_ends l.all.items _ _ (quotients_past s xs zs (c.args.count - l.at) l.at past) so_far

pub returns-then-at-numbers : goal.returns-then-at-numbers
returns-then-at-numbers c = λ zs is.
    let l = c.loop-at in
    let s = c.args.stride in
    let xs = c.args.starts.now in
    let fit : FitsSigned w64 s = c.ranges.stride in
    let past : length c.args.numbers.now ≤ l.at = search rules in
    let count = nearest_length c.args.numbers.now zs is in
    let so_far = simp to_z-of_z at (l.invariant zs is) in
    let behind : length zs ≤ l.at = omega (arith, past, count) in
    narrow_ends l.all.items _ _ (quotients_behind s xs zs (c.args.count - l.at) l.at behind) so_far

pub returns-in_default : goal.returns-in_default
returns-in_default c = λ zs is.
    let l = c.loop-at in
    let s = c.args.stride in
    let xs = c.args.starts.now in
    let us = c.args.numbers.now in
    let z = get_or zs l.at (pos 0) in
    let fit : FitsSigned w64 s = c.ranges.stride in
    let h : l.at < c.args.count = search rules in
    let hx : l.at < length xs = search rules in
    let hu : l.at < length us = search rules in
    let count = nearest_length us zs is in
    let hz : l.at < length zs = omega (arith, hu, count) in
    let number : FitsSigned w128 (get_or us l.at (pos 0)) = search rules in
    let start : FitsSigned w64 (get_or xs l.at (pos 0)) = search rules in
    let each = simp to_z-of_z at c.quotient.ensures in
    let so_far = simp to_z-of_z at (l.invariant zs is) in
    let none : None ≡ c.quotient.result = search rules in
    narrow_stops l.all.items _ _ _ _ (quotient_ahead s xs zs c.args.count l.at h hx hz)
    (none ∙ each z (nearest_at us zs l.at is hz)) so_far

pub loop-at-preserved : goal.loop-at-preserved
loop-at-preserved c = λ zs is.
    let l = c.loop-at in
    let s = c.args.stride in
    let xs = c.args.starts.now in
    let us = c.args.numbers.now in
    let z = get_or zs l.at (pos 0) in
    let n = c.in-Some.turns in
    let fit : FitsSigned w64 s = c.ranges.stride in
    let fits : FitsSigned w64 n = search rules in
    let h : l.at < c.args.count = search rules in
    let hx : l.at < length xs = search rules in
    let hu : l.at < length us = search rules in
    let count = nearest_length us zs is in
    let hz : l.at < length zs = omega (arith, hu, count) in
    let number : FitsSigned w128 (get_or us l.at (pos 0)) = search rules in
    let start : FitsSigned w64 (get_or xs l.at (pos 0)) = search rules in
    let each = simp to_z-of_z at c.quotient.ensures in
    let so_far = simp to_z-of_z at (l.invariant zs is) in
    let pushed : c.push.new.self.items ≡ l.all.items ++ n ∷ [] = simp to_z-of_z at c.in-Ok.ensures.items in
    let some : Some n ≡ c.quotient.result = search rules in
    simp to_z-of_z (narrow_more l.all.items c.push.new.self.items _ _ _ n _
    (quotient_ahead s xs zs c.args.count l.at h hx hz) pushed (some ∙ each z (nearest_at us zs l.at is hz)) so_far)
