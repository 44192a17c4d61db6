use Rattle.scop_syntax.proofs.Common.{◌≡◌, ◌++◌, drop, length, map, take}
use Rattle.loop_tree.specs.Bookmarks.{kept_in}
use Rattle.loop_tree.specs.SpotView.{marks_of}
use Rattle.loop_tree.proofs.bookmark.put_marks.Given as goal

abbrev pub invariant-loop-at : goal.invariant-loop-at
invariant-loop-at l =
    (length l.marks ≡ length l.fn.marks)
    × (marks_of (take l.at l.marks) ++ map kept_in (drop l.at l.steps) ≡ map kept_in l.steps)
