-- The pass over the pieces of an item finds the item's faults and its trees of the program.
use Rattle.scop_syntax.proofs.Common.{◌≡◌, ℕ, ◌+◌, true, false, List, [], ◌∷◌, ◌++◌, length, refl, sym, ap, ◌∙◌}
use Rattle.scop_syntax.proofs.Common.{length-append}
use Rattle.scop_expressions.specs.Token.TheVariants as token
use Rattle.scop_expressions.specs.Tree.{Tree, size, tokens_of, written, IsPlace}
use Rattle.scop_expressions.specs.Tree as tree
use Rattle.scop_grammar.specs.Kernel.{Element, plain, expression, Piece, nodes_from, pieces, Step, counted, counts}
use Rattle.scop_grammar.specs.Kernel.{assigned, Head, branch, loop, head_elements, step_elements, place_elements}
use Rattle.scop_roles.specs.Formula.{Formula, index, formula}
use Rattle.scop_units.specs.Words.{Words}
use Rattle.scop_units.specs.Scopes.{look}
use Rattle.scop_units.specs.Loops.{LoopHead}
use Rattle.scop_units.specs.Loops as loops
use Rattle.scop_units.specs.Judging.{width, formula_in, second_at, step_at, changed, change, loop_head, loop_in}
use Rattle.scop_units.specs.Judging.{condition}
use Rattle.scop_pass.specs.declared.pending.Begun.{Begun}
use Rattle.scop_pass.specs.declared.pending.StepRead.TheVariants as read
use Rattle.scop_pass.specs.Machine.{idle, loop_step, placed, State, expects, guard_opened, loop_opened, step, run}
use Rattle.scop_roles.specs.Resolving.{formula_of_nodes}
use Rattle.scop_pass.specs.Machine.{look_inside}
use Rattle.scop_pass.specs.Machine as machine
use Rattle.scop_roles.proofs.FormulaStack.{formula-of-written}
use Rattle.scop_pass.proofs.Pieces.{pieces-append, width-append}

-- pieces one after another
pub run-append : (words : Words) (s : State) (ps qs : List Piece)
    → run words s (ps ++ qs) ≡ run words (run words s ps) qs
run-append words s [] qs = refl
run-append words s (p ∷ ps) qs = run-append words (step words s p) ps qs

-- elements one after another
pub run-elements : (words : Words) (s : State) (at : ℕ) (es fs : List Element)
    → run words s (pieces at (es ++ fs)) ≡ run words (run words s (pieces at es)) (pieces (at + width es) fs)
run-elements words s at es fs =
    ap (run words s) (pieces-append at es fs) ∙ run-append words s (pieces at es) (pieces (at + width es) fs)

-- a place is spelled by its tokens
pub place-width : (p : Tree) → IsPlace p → tree.WellBracketed p → width (place_elements p) ≡ size p
place-width tree.name i g = refl
place-width (tree.index p x) i g =
    let ts = token.OpenIndex ∷ (tokens_of x ++ token.CloseIndex ∷ []) in
    width-append (place_elements p) (plain token.OpenIndex ∷ expression x token.CloseIndex ∷ [])
    ∙ (ap (λ (n : ℕ). n + length ts) (place-width p g.0 g.2) ∙ sym (length-append (tokens_of p) ts))
place-width (tree.constant k) i g = absurd i
place-width (tree.group t) i g = absurd i
place-width tree.bare_call i g = absurd i
place-width (tree.call t) i g = absurd i
place-width (tree.unary k t) i g = absurd i
place-width (tree.cast w t) i g = absurd i
place-width (tree.binary o l r) i g = absurd i

-- a place, with all its subscripts
pub place-run : (words : Words) (s : State) (at : ℕ) (p : Tree) → IsPlace p → tree.WellBracketed p
    → run words (expects s idle) (pieces at (place_elements p)) ≡ expects s (placed (formula_in words s.scope at p))
place-run words s at tree.name i g = refl
place-run words s at (tree.index p x) i g =
    let q = at + size p + 1 in
    let es = plain token.OpenIndex ∷ expression x token.CloseIndex ∷ [] in
    let f = formula_in words s.scope at p in
    run-elements words (expects s idle) at (place_elements p) es
    ∙ (ap (λ (t : State). run words t (pieces (at + width (place_elements p)) es)) (place-run words s at p g.0 g.2)
    ∙ (ap (λ (n : ℕ). run words (expects s (placed f)) (pieces (at + n) es)) (place-width p g.0 g.2)
    ∙ ap (λ (h : Formula). expects s (placed (index f h))) (formula-of-written (look words s.scope) q x)))
place-run words s at (tree.constant k) i g = absurd i
place-run words s at (tree.group t) i g = absurd i
place-run words s at tree.bare_call i g = absurd i
place-run words s at (tree.call t) i g = absurd i
place-run words s at (tree.unary k t) i g = absurd i
place-run words s at (tree.cast w t) i g = absurd i
place-run words s at (tree.binary o l r) i g = absurd i

-- a loop's head with its step
abbrev pub with_step : Words → State → Begun → Formula → Formula → ℕ → Step → LoopHead
with_step words s h f g at st =
    record {
      place = h.place;
      new = h.new;
      name_at = h.name_at;
      iterator = words.spelling h.name_at;
      first = f;
      second = g;
      changed = changed (look_inside words s h) at st;
      change = change (look_inside words s h) at st;
    }

pub step-run : (words : Words) (s : State) (h : Begun) (f g : Formula) (at : ℕ) (st : Step)
    → run words (expects s (loop_step h f g read.Nothing)) (pieces at (step_elements st))
    ≡ loop_opened s (with_step words s h f g at st)
step-run words s h f g at (counted c) = refl
step-run words s h f g at (counts c) = refl
step-run words s h f g at (assigned a x) =
    ap (λ (k : Formula). loop_opened s (machine.whole_head words s h f g at (loops.assigned a k)))
    (formula-of-written (look_inside words s h) (at + 1 + 1) x)

-- a head opens
abbrev pub opened : Words → State → ℕ → Head → State
opened words s at (branch c) = guard_opened s (condition words s.scope at c)
opened words s at (loop new a c st) = loop_opened s (loop_in words s.scope at new a c st)

pub loop-run : (words : Words) (s : State) (h : Begun) (a c : Tree) (st : Step)
    → run words (expects s (machine.loop_named h))
    (nodes_from (h.name_at + 1 + 1) (written 0 a) ∷ nodes_from (second_at h.name_at a) (written 0 c)
    ∷ pieces (step_at h.name_at a c) (step_elements st))
    ≡ loop_opened s (loop_head words s.scope h.place h.new h.name_at a c st)
loop-run words s h a c st =
    let f = formula_in words s.scope (h.name_at + 1 + 1) a in
    let g = formula (look_inside words s h) (second_at h.name_at a) c in
    let ps = pieces (step_at h.name_at a c) (step_elements st) in
    let k = formula_of_nodes (look_inside words s h) (second_at h.name_at a) (written 0 c) in
    ap (λ (x : Formula). run words (expects s (loop_step h x k read.Nothing)) ps)
    (formula-of-written (look words s.scope) (h.name_at + 1 + 1) a)
    ∙ (ap (λ (x : Formula). run words (expects s (loop_step h f x read.Nothing)) ps)
    (formula-of-written (look_inside words s h) (second_at h.name_at a) c)
    ∙ step-run words s h f g (step_at h.name_at a c) st)

pub head-run : (words : Words) (s : State) (at : ℕ) (h : Head)
    → run words (expects s idle) (pieces at (head_elements h)) ≡ opened words s at h
head-run words s at (branch c) = ap (guard_opened s) (formula-of-written (look words s.scope) (at + 1 + 1) c)
head-run words s at (loop true a c st) =
    loop-run words s (record { place = at; new = true; name_at = at + 1 + 1 + 1 }) a c st
head-run words s at (loop false a c st) =
    loop-run words s (record { place = at; new = false; name_at = at + 1 + 1 }) a c st
