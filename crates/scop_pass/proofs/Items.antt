-- The pass over the pieces of an item finds the item's faults and its trees of the program.
use Rattle.scop_syntax.proofs.Common.{◌≡◌, ℕ, ◌+◌, ◌-◌, List, [], ◌∷◌, ◌++◌, length, refl, ap, ◌∙◌, append_assoc}
use Rattle.scop_syntax.proofs.Common.{length-append, arith, take-append_seam, Tree}
use Rattle.std.proofs.lemmas.List.{append-nil}
use Rattle.scop_expressions.specs.Tree.{size}
use Rattle.scop_grammar.specs.Kernel.{expression, pieces, Head, branch, loop, Item, block, empty, assign, headed}
use Rattle.scop_grammar.specs.Kernel.{Items, none, more, head_elements, place_elements, item_elements, all_elements}
use Rattle.scop_grammar.specs.Kernel.{assign_sign, ends, semicolon, ItemFits, ItemsFit}
use Rattle.scop_units.specs.Bytes.{Text}
use Rattle.scop_syntax.specs.Tree as scop
use Rattle.scop_roles.specs.declared.kinds.Fault.{Fault}
use Rattle.scop_roles.specs.Formula.{Formula}
use Rattle.scop_roles.specs.Values.{tests}
use Rattle.scop_units.specs.Words.{Words}
use Rattle.scop_units.specs.Scopes.{Scope, with_loop, entries, look}
use Rattle.scop_units.specs.Loops.{loop_of}
use Rattle.scop_units.specs.Judging.{width, formula_in, loop_in, condition, head_faults, behind_head, compared}
use Rattle.scop_units.specs.Judging.{statements_in, statements_in_all, item_faults, items_faults}
use Rattle.scop_units.specs.Programs.{headed_by, wrapped, item_trees, all_trees}
use Rattle.scop_pass.specs.Machine.{Frame, idle, placed, State, completed, complete}
use Rattle.scop_pass.specs.Machine.{expects, run, without_loop, whole_statement, stated}
use Rattle.scop_pass.specs.Machine as machine
use Rattle.scop_roles.proofs.FormulaStack.{formula-of-written}
use Rattle.scop_pass.proofs.PieceRuns.{run-elements, place-width, place-run, head-run, opened}

-- more faults, statements and trees
abbrev pub adding : State → List Fault → ℕ → List Tree → State
adding s fs n ts = record s { faults = s.faults ++ fs; before = s.before + n; trees = s.trees ++ ts }

pub adding-nothing : (s : State) → s ≡ adding s [] 0 []
adding-nothing s =
    let none : s.before + 0 ≡ s.before = omega arith in
    rw (append-nil s.faults, append-nil s.trees, none) refl

pub adding-more : (s : State) (fs gs : List Fault) (n m : ℕ) (ts us : List Tree)
    → adding (adding s fs n ts) gs m us ≡ adding s (fs ++ gs) (n + m) (ts ++ us)
adding-more s fs gs n m ts us =
    let count : s.before + n + m ≡ s.before + (n + m) = omega arith in
    rw (append_assoc s.faults fs gs, append_assoc s.trees ts us, count) refl

-- what an item adds
abbrev pub with_item : Words → State → ℕ → Item → State
with_item words s at i =
    adding s (item_faults words s.scope s.comparisons s.before at i) (statements_in i) (item_trees words s.scope at i)

abbrev pub with_items : Words → State → ℕ → Items → State
with_items words s at is =
    adding s (items_faults words s.scope s.comparisons s.before at is) (statements_in_all is)
    (all_trees words s.scope at is)

-- within a block
abbrev pub under : State → List Frame → State
under s fs = record s { frames = machine.block ∷ fs; pending = idle }

-- behind a loop its iterator is closed
pub without-with : (s : Scope) (w : Text) → without_loop (with_loop s w) ≡ s
without-with s w =
    let long : length (s.open_loops ++ w ∷ []) - 1 ≡ length s.open_loops =
    let e = length-append s.open_loops (w ∷ []) in omega (arith, e) in
    rw (long, take-append_seam s.open_loops (w ∷ [])) refl

-- behind a condition its comparisons count no more
pub less-counted : (n m : ℕ) → n + m - m ≡ n
less-counted n m = omega arith

-- a head that its item completes
abbrev pub guard_left : State → ℕ → ℕ → List Fault → List Tree → State
guard_left s b c fs ts = record s { faults = fs; before = b; comparisons = c; trees = ts }

abbrev pub loop_left : State → ℕ → Scope → List Fault → List Tree → State
loop_left s b z fs ts = record s { faults = fs; before = b; scope = z; trees = ts }

pub head-completed : (words : Words) (s : State) (at : ℕ) (h : Head) (fs : List Fault) (n : ℕ) (ts : List Tree)
    → complete (adding (opened words s at h) fs n ts)
    ≡ complete (adding s (head_faults words s.scope at h ++ fs) n (wrapped (headed_by words s.scope at h) ts))
head-completed words s at (branch c) fs n ts =
    let f = condition words s.scope at c in
    let xs = tests (entries s.scope) f in
    let hs = head_faults words s.scope at (branch c) in
    let us = s.trees ++ wrapped (scop.guard xs) ts in
    ap (λ (k : ℕ). completed s.frames (guard_left s (s.before + n) k (s.faults ++ hs ++ fs) us))
    (less-counted s.comparisons (length xs))
    ∙ ap (λ (gs : List Fault). completed s.frames (guard_left s (s.before + n) s.comparisons gs us))
    (append_assoc s.faults hs fs)
head-completed words s at (loop new a c st) fs n ts =
    let h = loop_in words s.scope at new a c st in
    let hs = head_faults words s.scope at (loop new a c st) in
    let us = s.trees ++ wrapped (scop.loop (loop_of s.scope h)) ts in
    ap (λ (z : Scope). completed s.frames (loop_left s (s.before + n) z ((s.faults ++ hs) ++ fs) us))
    (without-with s.scope h.iterator)
    ∙ ap (λ (gs : List Fault). completed s.frames (loop_left s (s.before + n) s.scope gs us))
    (append_assoc s.faults hs fs)

-- a head is read whole
pub opened-idle : (words : Words) (s : State) (at : ℕ) (h : Head)
    → opened words s at h ≡ expects (opened words s at h) idle
opened-idle words s at (branch c) = refl
opened-idle words s at (loop new a c st) = refl

-- an item behind a head
pub opened-item : (words : Words) (s : State) (at : ℕ) (h : Head) (place : ℕ) (i : Item)
    → with_item words (opened words s at h) place i
    ≡ adding (opened words s at h)
    (item_faults words (behind_head words s.scope at h) (s.comparisons + compared words s.scope at h) s.before place i)
    (statements_in i) (item_trees words (behind_head words s.scope at h) place i)
opened-item words s at (branch c) place i = refl
opened-item words s at (loop new a c st) place i =
    let o = opened words s at (loop new a c st) in
    let none : s.comparisons ≡ s.comparisons + 0 = omega arith in
    ap (λ (k : ℕ). adding o (item_faults words o.scope k s.before place i) (statements_in i)
    (item_trees words o.scope place i)) none

-- items by their pieces
mutual
  pub item-run : (d n : ℕ) (words : Words) (s : State) (at : ℕ) (i : Item) → ItemFits d n i
      → run words (expects s idle) (pieces at (item_elements i)) ≡ complete (with_item words s at i)
  item-run d n words s at (block is) fit =
      let t = under s s.frames in
      run-elements words t (at + 1) (all_elements is) (ends ∷ [])
      ∙ ap (λ (x : State). run words x (pieces (at + 1 + width (all_elements is)) (ends ∷ [])))
      (items-run d n words s s.frames (at + 1) is fit)
  item-run d n words s at empty fit = ap (λ (x : State). complete x) (adding-nothing s)
  item-run d n words s at (assign a p x) fit =
      let f = formula_in words s.scope at p in
      let es = assign_sign a ∷ expression x semicolon ∷ [] in
      let brackets = fit.1.expression.brackets in
      run-elements words (expects s idle) at (place_elements p) es
      ∙ (ap (λ (t : State). run words t (pieces (at + width (place_elements p)) es))
      (place-run words s at p fit.0 brackets)
      ∙ (ap (λ (k : ℕ). run words (expects s (placed f)) (pieces (at + k) es)) (place-width p fit.0 brackets)
      ∙ ap (λ (h : Formula). complete (stated s (whole_statement f a (at + size p) h)))
      (formula-of-written (look words s.scope) (at + size p + 1) x)))
  item-run d n words s at (headed h i) fit =
      let o = opened words s at h in
      let place = at + width (head_elements h) in
      let rest = pieces place (item_elements i) in
      let fs = item_faults words (behind_head words s.scope at h) (s.comparisons + compared words s.scope at h)
      s.before place i in
      run-elements words (expects s idle) at (head_elements h) (item_elements i)
      ∙ (ap (λ (x : State). run words x rest) (head-run words s at h ∙ opened-idle words s at h)
      ∙ (item-run d n words o place i fit.1
      ∙ (ap (λ (x : State). complete x) (opened-item words s at h place i)
      ∙ head-completed words s at h fs (statements_in i) (item_trees words (behind_head words s.scope at h) place i))))

  pub items-run : (d n : ℕ) (words : Words) (s : State) (frames : List Frame) (at : ℕ) (is : Items) → ItemsFit d n is
      → run words (under s frames) (pieces at (all_elements is)) ≡ under (with_items words s at is) frames
  items-run d n words s frames at none fit = ap (λ (x : State). under x frames) (adding-nothing s)
  items-run d n words s frames at (more i is) fit =
      let t = with_item words s at i in
      let place = at + width (item_elements i) in
      run-elements words (under s frames) at (item_elements i) (all_elements is)
      ∙ (ap (λ (x : State). run words x (pieces place (all_elements is)))
      (item-run d n words (under s frames) at i fit.0)
      ∙ (items-run d n words t frames place is fit.1
      ∙ ap (λ (x : State). under x frames)
      (adding-more s (item_faults words s.scope s.comparisons s.before at i)
      (items_faults words s.scope s.comparisons (s.before + statements_in i) place is) (statements_in i)
      (statements_in_all is) (item_trees words s.scope at i) (all_trees words s.scope place is))))
