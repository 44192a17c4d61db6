use Rattle.scop_syntax.proofs.Common.{◌≡◌, ◌∙◌, ◌++◌, List, [], ap, ap₂, map, sym, Instance}
use Rattle.std.proofs.lemmas.Simd.{map-map}
use Rattle.loop_tree.specs.Bookmarks.{kept_in, without_last}
use Rattle.loop_tree.specs.Spot.{rest_of}
use Rattle.loop_tree.specs.SpotView.{mark_of, marks_in}
use Rattle.loop_tree.specs.declared.spot.Mark.{Mark as CodeMark}
use Rattle.loop_tree.proofs.Bookmarks.{rest_without_last}
use Rattle.loop_tree.proofs.Stretches.{nothing_left}
use Rattle.loop_tree.proofs.spot.Spot.keep.Goals as goal

pub returns-clause-kept : goal.returns-clause-kept
returns-clause-kept c kept ts params is =
    let spot = c.args.self.now in
    let new = c.keep_marks.new.steps in
    let full = c.keep_marks.ensures.room in
    let room = c.requires.room in
    let spent = c.has_left.ensures c.if-has_left.false in
    let one : map without_last (marks_in spot) ≡ map (λ m. without_last (mark_of m)) spot.marks.items =
    map-map without_last mark_of spot.marks.items in
    let other : map without_last (map kept_in new) ≡ map kept_in new = map-map without_last kept_in new in
    let alike : map without_last (marks_in spot) ≡ map without_last (map kept_in new) =
    one
    ∙ (ap (λ (ms : List CodeMark). map (λ m. without_last (mark_of m)) ms) (sym c.as_slice.ensures.value)
    ∙ (sym (c.keep_marks.ensures.kept kept) ∙ sym other)) in (
      record {
        room = full ∙ (room ∙ is.room);
        stands = record { marks = marks_in spot; alike = alike; stands = is.stands };
      },
      sym (ap₂ (λ (is js : List Instance). is ++ (js ++ rest_of ts (marks_in spot) params []))
          (nothing_left spot.stretch spent.stretch) spent.nothing
          ∙ rest_without_last ts (marks_in spot) (map kept_in new) params [] alike),
    )
