use Rattle.scop_syntax.proofs.Common.{◌≡◌, ◌++◌, drop, length, map, take}
use Rattle.loop_tree.specs.Bookmarks.{kept_in, without_last}
use Rattle.loop_tree.specs.SpotView.{mark_of}
use Rattle.loop_tree.proofs.bookmark.keep_marks.Given as goal

abbrev pub invariant-loop-at : goal.invariant-loop-at
invariant-loop-at l =
    (length l.steps ≡ length l.fn.steps)
    × (map kept_in (take l.at l.steps) ++ map (λ m. without_last (mark_of m)) (drop l.at l.marks)
    ≡ map (λ m. without_last (mark_of m)) l.marks)
