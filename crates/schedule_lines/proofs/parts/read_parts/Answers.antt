use Rattle.std.proofs.Common.{rules, refl, ap, ◌≡◌, ◌∙◌, ◌++◌, ◌∷◌, [], ◌<◌, length, map, get_or, Some}
use Rattle.std.proofs.lemmas.List.{map_push}
use Rattle.schedule_lines.specs.Reading.{part_in, parts_in}
use Rattle.schedule_lines.specs.View.{part_view}
use Rattle.schedule_lines.proofs.ReadLists.{parts_more}
use Rattle.schedule_lines.proofs.parts.read_parts.Goals as goal

pub loop-at-preserved : goal.loop-at-preserved
loop-at-preserved c =
    let l = c.loop-at in
    let loops = c.args.loops.now in
    let n = get_or loops l.at 0 in
    let p = c.in-Ok-Some.part in
    let h : l.at < length loops = search rules in
    let read : Some (part_view p.found, p.rest.now) ≡ part_in l.at n l.rest.now = search rules in
    let raw : c.push_part.new.parts.items ≡ l.found.items ++ p.found ∷ [] = search rules in
    let pushed = ap (map part_view) raw ∙ map_push part_view l.found.items p.found in
    parts_more loops l.at n 0 (part_view p.found) l.rest.now p.rest.now (map part_view l.found.items)
    (map part_view c.push_part.new.parts.items) (parts_in 0 loops c.args.text.now) refl h read pushed l.invariant
