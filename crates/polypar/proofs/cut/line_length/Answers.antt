-- The first line ends at its line feed, or at the text's end.
use Rattle.scop_syntax.proofs.Common.{◌≡◌, ◌-◌, inl, inr, length, take, drop, ◌∷◌, ◌+◌, subst, arith}
use Rattle.polypar.specs.Cut.{whole_lines}
use Rattle.polypar.proofs.CutLemmas.{first_line}
use Rattle.polypar.proofs.cut.line_length.Goals as goal

pub returns-then-byte-eq10-clause-first : goal.returns-then-byte-eq10-clause-first
returns-then-byte-eq10-clause-first c =
    first_line c.args.text.now c.loop-at.at (omega arith) (λ k h. c.loop-at.invariant k h) (inl c.if-byte-eq10.true)

pub returns-clause-first : goal.returns-clause-first
returns-clause-first c =
    let text = c.args.text.now in
    let whole : length text - 1 + 1 ≡ length text = omega (arith, c.requires) in
    subst (λ n. whole_lines text ≡ take n text ∷ whole_lines (drop n text)) whole
    (first_line text (length text - 1) (omega (arith, c.requires)) (λ k h. c.loop-at.invariant k (omega arith))
    (inr whole))
