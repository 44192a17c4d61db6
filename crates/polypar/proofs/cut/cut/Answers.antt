-- The line at the place cuts, or the place goes on behind it.
use Rattle.scop_syntax.proofs.Common.{◌≡◌, ◌∙◌, ◌-◌, sym, ap, subst, length, take, drop, ◌∷◌, false, true, arith}
use Rattle.std.proofs.Common.{length-drop}
use Rattle.std.proofs.Common.{take_all}
use Rattle.polypar.specs.Cut.{whole_lines, is_cut}
use Rattle.polypar.proofs.CutLemmas.{cut_behind_line, case_behind}
use Rattle.polypar.proofs.cut.cut.Goals as goal

pub returns-then-is_cut-clause-case : goal.returns-then-is_cut-clause-case
returns-then-is_cut-clause-case c =
    let input = c.args.input.now in
    let at = c.loop-at.at in
    let n = c.line_length-length.result in
    let rest = take (length input - at) (drop at input) in
    let same : rest ≡ drop at input = take_all (length input - at) (drop at input)
    (omega (arith, length-drop at input)) in
    let first =
    subst (λ t. whole_lines t ≡ take n t ∷ whole_lines (drop n t)) same c.line_length-length.ensures.first in
    let cuts : is_cut (take n (drop at input)) ≡ true =
    ap (λ t. is_cut (take n t)) (sym same) ∙ (sym c.is_cut.ensures ∙ c.if-is_cut.true) in
    let behind : take (length rest - n) (drop n rest) ≡ drop n rest =
    take_all (length rest - n) (drop n rest) (omega (arith, length-drop n rest)) in
    behind ∙ (ap (drop n) same ∙ case_behind input at n c.loop-at.invariant.behind first cuts)

pub loop-at-preserved : goal.loop-at-preserved
loop-at-preserved c =
    let input = c.args.input.now in
    let at = c.loop-at.at in
    let n = c.line_length-length.result in
    let rest = take (length input - at) (drop at input) in
    let same : rest ≡ drop at input = take_all (length input - at) (drop at input)
    (omega (arith, length-drop at input)) in
    let first =
    subst (λ t. whole_lines t ≡ take n t ∷ whole_lines (drop n t)) same c.line_length-length.ensures.first in
    let stays : is_cut (take n (drop at input)) ≡ false =
    ap (λ t. is_cut (take n t)) (sym same) ∙ (sym c.is_cut.ensures ∙ c.if-is_cut.false) in
    record {
      within = omega (arith, length-drop at input, ap length same, c.line_length-length.ensures.within);
      behind = cut_behind_line input at n c.loop-at.invariant.behind first stays;
    }
