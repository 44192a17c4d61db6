-- Faults follow the text: what a step of the pass adds stands from the first token of the unit in hand on, and units
-- stand one behind another. So the first fault of a front of the pieces stays the first.
use Rattle.scop_syntax.proofs.Common.{◌≡◌, ℕ, ◌+◌, ◌<◌, ◌≤◌, ◌==◌, ◌||◌, ◌&&◌, Bool, true, false, nat_lt, List, [], ◌∷◌}
use Rattle.scop_syntax.proofs.Common.{◌++◌, Option, Some, None, refl, sym, ap, subst, ◌∙◌, append_assoc, length-append}
use Rattle.scop_syntax.proofs.Common.{arith, ⊤, if◌then◌else◌}
use Rattle.std.proofs.lemmas.List.{append-nil}
use Rattle.scop_expressions.specs.Assign.{Assign}
use Rattle.scop_expressions.specs.Count.{Count}
use Rattle.scop_expressions.specs.Tree.{Tree, tokens_of, size, written}
use Rattle.scop_expressions.specs.Width.{Width}
use Rattle.scop_grammar.specs.declared.part.Mark.{Mark}
use Rattle.scop_grammar.specs.declared.part.Mark.TheVariants as kept
use Rattle.scop_grammar.specs.Kernel.{Element, sign, expression, Piece, mark_at, nodes_from, pieces, spelled}
use Rattle.scop_roles.specs.declared.kinds.Fault.{Fault}
use Rattle.scop_roles.specs.declared.kinds.Kind.TheVariants as kind
use Rattle.scop_roles.specs.declared.formula.Role.TheVariants as role
use Rattle.scop_roles.specs.Faults.{faults, first, first_of, precedes, number, only_where}
use Rattle.scop_roles.specs.Formula.{Formula, name, index, place}
use Rattle.scop_units.specs.Words.{Words}
use Rattle.scop_units.specs.Scopes.{entries, look, redeclared, is_reserved}
use Rattle.scop_units.specs.Loops.{LoopHead, Change, counted, assigned, loop_faults}
use Rattle.scop_units.specs.Units.{kernel_name_faults, name_faults, number_faults, array_faults, statement_faults}
use Rattle.scop_pass.specs.declared.pending.Begun.{Begun}
use Rattle.scop_pass.specs.declared.pending.StepRead.{StepRead}
use Rattle.scop_pass.specs.declared.pending.StepRead.TheVariants as read
use Rattle.scop_pass.specs.Machine.{Frame, block, guarded, looped, Pending, idle, extents, condition, loop_begun}
use Rattle.scop_pass.specs.Machine.{loop_named, loop_first, loop_step, placed, valued, State, complete, closed, expects}
use Rattle.scop_pass.specs.Machine.{guard_opened, loop_opened, whole_head, stated, whole_statement, ranked, idle_step}
use Rattle.scop_pass.specs.Machine.{begun_step, change_step, change_whole, first_sign, counted_sign, named_sign}
use Rattle.scop_pass.specs.Machine.{placed_step, sign_step, formula_step, look_in, step_in, step, settled_in, settled}
use Rattle.scop_roles.specs.Resolving.{formula_of_nodes}
use Rattle.scop_pass.specs.Machine.{run, first_state, look_inside}
use Rattle.scop_units.specs.Judging.{width}
use Rattle.scop_pass.proofs.CompletedHeads.{unwound_faults, unwound_pending}
use Rattle.scop_pass.proofs.Pieces.{pieces-at, pieces-append}
use Rattle.scop_pass.proofs.PieceRuns.{run-append}
use Rattle.scop_pass.proofs.UnitPlaces.{In, in-append, in-wider, in-told, lies-wider, RoleLaws, lies-nodes, lies-name}
use Rattle.scop_pass.proofs.UnitPlaces.{lies-index, AllLie, all-wider, all-behind, in-number, in-array, ChangeLies}
use Rattle.scop_pass.proofs.UnitPlaces.{in-loop, in-statement, Lies, HeadLies}

-- steps

-- where the unit in hand begins; without one the next token's place
abbrev begins : ℕ → Pending → ℕ
begins at idle = at
begins at (extents w p fs) = p
begins at condition = at
begins at (loop_begun p) = p
begins at (loop_named h) = h.place
begins at (loop_first h f) = h.place
begins at (loop_step h f g r) = h.place
begins at (placed f) = place f
begins at (valued f a p) = place f

abbrev IsBegun : ℕ → Begun → Type 0
IsBegun at h = (h.place ≤ h.name_at) × (h.name_at < at)

-- the name in a loop's step
abbrev ReadFits : ℕ → ℕ → StepRead → Type 0
ReadFits b at (read.Name v) = (b ≤ v) × (v < at)
ReadFits b at (read.Assignment v a) = (b ≤ v) × (v < at)
ReadFits b at _ = ⊤

-- what is in hand stands between the unit's beginning and the next token
abbrev Fits : ℕ → Pending → Type 0
Fits at idle = ⊤
Fits at (extents w p fs) = (p < at) × AllLie p at fs
Fits at condition = ⊤
Fits at (loop_begun p) = p < at
Fits at (loop_named h) = IsBegun at h
Fits at (loop_first h f) = IsBegun at h × Lies h.place at f
Fits at (loop_step h f g r) = IsBegun at h × ((Lies h.place at f × Lies h.place at g) × ReadFits h.place at r)
Fits at (placed f) = Lies (place f) at f
Fits at (valued f a p) = Lies (place f) at f × ((place f ≤ p) × (p < at))

-- from a unit that begins at b the pass comes to a state before the token at `to`: what it adds stands in front of the
-- unit that is then in hand
record Goes (b to : ℕ) (s t : State) : Type 0 where
  added : List Fault
  is : t.faults ≡ s.faults ++ added
  within : In b (begins to t.pending) added
  rises : b ≤ begins to t.pending
  fits : Fits to t.pending

-- nothing is added
goes-on : (b to : ℕ) (s t : State) → t.faults ≡ s.faults → b ≤ begins to t.pending → Fits to t.pending → Goes b to s t
goes-on b to s t same rises fits = record {
  added = [];
  is = same ∙ sym (append-nil s.faults);
  within = tt;
  rises = rises;
  fits = fits;
}

-- a unit is complete
goes-whole : (b to : ℕ) (s t : State) (fs : List Fault) → t.faults ≡ s.faults ++ fs → t.pending ≡ idle → In b to fs
    → b ≤ to → Goes b to s t
goes-whole b to s t fs same none within rises = record {
  added = fs;
  is = same;
  within = subst (λ (p : Pending). In b (begins to p) fs) (sym none) within;
  rises = subst (λ (p : Pending). b ≤ begins to p) (sym none) rises;
  fits = subst (λ (p : Pending). Fits to p) (sym none) tt;
}

goes-then : (b at to : ℕ) (s t u : State) → Goes b at s t → Goes (begins at t.pending) to t u → Goes b to s u
goes-then b at to s t u g h =
    let m = begins at t.pending in
    let e = begins to u.pending in
    let x = g.rises in
    let y = h.rises in
    record {
      added = g.added ++ h.added;
      is = h.is ∙ (ap (λ (fs : List Fault). fs ++ h.added) g.is ∙ append_assoc s.faults g.added h.added);
      within = in-append b e g.added h.added (in-wider b m b e g.added (omega arith) y g.within)
          (in-wider m e b e h.added x (omega arith) h.within);
      rises = omega (arith, x, y);
      fits = h.fits;
    }

later-begun : (at to : ℕ) (h : Begun) → at ≤ to → IsBegun at h → IsBegun to h
later-begun at to h le k = let l = k.1 in (k.0, omega (arith, l, le))

later-two : (b at to : ℕ) (f g : Formula) → at ≤ to → Lies b at f × Lies b at g → Lies b to f × Lies b to g
later-two b at to f g le k =
    (lies-wider b at b to f (omega arith) le k.0, lies-wider b at b to g (omega arith) le k.1)

later-read : (b at to : ℕ) (r : StepRead) → at ≤ to → ReadFits b at r → ReadFits b to r
later-read b at to read.Nothing le k = tt
later-read b at to (read.Count c) le k = tt
later-read b at to (read.Name v) le k = let l = k.1 in (k.0, omega (arith, l, le))
later-read b at to (read.Assignment v a) le k = let l = k.1 in (k.0, omega (arith, l, le))

-- the next token is further on
fits-later : (at to : ℕ) (p : Pending) → at ≤ to → Fits at p → Fits to p
fits-later at to idle le h = tt
fits-later at to (extents w p fs) le h =
    let l = h.0 in
    (omega (arith, l, le), all-wider p at p to fs (omega arith) le h.1)
fits-later at to condition le h = tt
fits-later at to (loop_begun p) le h = omega (arith, h, le)
fits-later at to (loop_named h) le k = later-begun at to h le k
fits-later at to (loop_first h f) le k =
    (later-begun at to h le k.0, lies-wider h.place at h.place to f (omega arith) le k.1)
fits-later at to (loop_step h f g r) le k =
    (later-begun at to h le k.0, (later-two h.place at to f g le k.1.0, later-read h.place at to r le k.1.1))
fits-later at to (placed f) le k = lies-wider (place f) at (place f) to f (omega arith) le k
fits-later at to (valued f a p) le k =
    let l = k.1.1 in
    (lies-wider (place f) at (place f) to f (omega arith) le k.0, (k.1.0, omega (arith, l, le)))

begins-later : (at to : ℕ) (p : Pending) → at ≤ to → begins at p ≤ begins to p
begins-later at to idle le = le
begins-later at to _ le = omega arith

-- a piece that does not fit, or a sign without one
stays : (at to : ℕ) (q : Pending) (s : State) → s.pending ≡ q → at ≤ to → Fits at q → Goes (begins at q) to s s
stays at to q s same le fits =
    goes-on (begins at q) to s s refl
    (subst (λ (p : Pending). begins at q ≤ begins to p) (sym same) (begins-later at to q le))
    (subst (λ (p : Pending). Fits to p) (sym same) (fits-later at to q le fits))

-- a block ends
closed-faults : (frames : List Frame) (s : State) → (closed frames s).faults ≡ s.faults
closed-faults [] s = refl
closed-faults (block ∷ fs) s = unwound_faults fs _
closed-faults (guarded ts outer ∷ fs) s = refl
closed-faults (looped h outer ∷ fs) s = refl

closed-idle : (frames : List Frame) (s : State) → s.pending ≡ idle → (closed frames s).pending ≡ idle
closed-idle [] s none = none
closed-idle (block ∷ fs) s none = unwound_pending fs _
closed-idle (guarded ts outer ∷ fs) s none = none
closed-idle (looped h outer ∷ fs) s none = none

-- a sign where nothing is in hand
step-idle : (words : Words) (s : State) (at : ℕ) (m : Mark) → s.pending ≡ idle
    → Goes at (at + 1) s (idle_step words s m at)
step-idle words s at kept.Kernel none =
    goes-whole at (at + 1) s (idle_step words s kept.Kernel at) (kernel_name_faults words at) refl none
    (in-told at (at + 1) at (only_where (is_reserved (words.spelling at)) kind.Redeclared) (omega arith) (omega arith))
    (omega arith)
step-idle words s at kept.Number none =
    goes-whole at (at + 1) s (idle_step words s kept.Number at) (number_faults words s.scope at) refl none
    (in-number words s.scope at (at + 1) at (omega arith) (omega arith)) (omega arith)
step-idle words s at kept.Declared none =
    goes-whole at (at + 1) s (idle_step words s kept.Declared at) (name_faults words s.scope at) refl none
    (in-told at (at + 1) at (redeclared s.scope (words.spelling at)) (omega arith) (omega arith)) (omega arith)
step-idle words s at (kept.Array w) none =
    goes-on at (at + 1) s (expects s (extents w at [])) refl (omega arith) (omega arith, tt)
step-idle words s at kept.Begin none =
    goes-whole at (at + 1) s (idle_step words s kept.Begin at) [] (sym (append-nil s.faults)) none tt
    (omega arith)
step-idle words s at kept.End none =
    goes-whole at (at + 1) s (closed s.frames s) [] (closed-faults s.frames s ∙ sym (append-nil s.faults))
    (closed-idle s.frames s none) tt (omega arith)
step-idle words s at kept.Empty none =
    goes-whole at (at + 1) s (complete s) [] (unwound_faults s.frames _ ∙ sym (append-nil s.faults))
    (unwound_pending s.frames _) tt (omega arith)
step-idle words s at kept.If none = goes-on at (at + 1) s (expects s condition) refl (omega arith) tt
step-idle words s at kept.For none = goes-on at (at + 1) s (expects s (loop_begun at)) refl (omega arith) (omega arith)
step-idle words s at kept.Place none =
    goes-on at (at + 1) s (expects s (placed (name ((look words s.scope).meaning at) at))) refl (omega arith)
    (lies-name ((look words s.scope).meaning at) at (at + 1) at (omega arith) (omega arith))
step-idle words s at _ none = stays at (at + 1) idle s none (omega arith) tt

-- an array's extents are complete
ranked-goes : (words : Words) (s : State) (w : Width) (at p : ℕ) (fs : List Formula) → Fits at (extents w p fs)
    → Goes p at s (ranked words s w p fs)
ranked-goes words s w at p fs h =
    let l = h.0 in
    goes-whole p at s (ranked words s w p fs) (array_faults words s.scope p fs) refl refl
    (in-array words s.scope p at p fs (omega arith) l h.1) (omega (arith, l))

step-extents : (words : Words) (s : State) (w : Width) (at p : ℕ) (fs : List Formula) (m : Mark)
    → Fits at (extents w p fs) → Goes p (at + 1) s (idle_step words (ranked words s w p fs) m at)
step-extents words s w at p fs m h =
    let t = ranked words s w p fs in
    goes-then p at (at + 1) s t (idle_step words t m at) (ranked-goes words s w at p fs h) (step-idle words t at m refl)

-- a loop's head is complete
opened-goes : (words : Words) (s : State) (b to : ℕ) (h : LoopHead) → HeadLies b to h → Goes b to s (loop_opened s h)
opened-goes words s b to h l =
    let x = l.from in
    let y = l.order in
    let z = l.below in
    goes-whole b to s (loop_opened s h) (loop_faults s.scope h) refl refl (in-loop b to s.scope h l)
    (omega (arith, x, y, z))

-- by its parts, of which the last ends before `to`
whole-lies : (words : Words) (s : State) (h : Begun) (f g : Formula) (v : ℕ) (ch : Change) (at to : ℕ) → at ≤ to
    → IsBegun at h → Lies h.place at f × Lies h.place at g → h.place ≤ v → v < to → ChangeLies h.place to ch
    → HeadLies h.place to (whole_head words s h f g v ch)
whole-lies words s h f g v ch at to le b two low high c =
    let l = b.1 in
    let both = later-two h.place at to f g le two in
    record {
      from = omega arith;
      order = b.0;
      below = omega (arith, l, le);
      first_lies = both.0;
      second_lies = both.1;
      changed_lies = lies-name ((look_inside words s h).meaning v) h.place to v low high;
      change_lies = c;
    }

step-begun : (s : State) (at p : ℕ) (m : Mark) → s.pending ≡ loop_begun p → p < at
    → Goes p (at + 1) s (begun_step s p m at)
step-begun s at p kept.Iterator same h =
    goes-on p (at + 1) s (begun_step s p kept.Iterator at) refl (omega arith) (omega (arith, h), omega arith)
step-begun s at p kept.NewIterator same h =
    goes-on p (at + 1) s (begun_step s p kept.NewIterator at) refl (omega arith) (omega (arith, h), omega arith)
step-begun s at p _ same h = stays at (at + 1) (loop_begun p) s same (omega arith) h

-- what stands in front of a token stands behind the unit's beginning
begun-before : (at : ℕ) (h : Begun) → IsBegun at h → h.place ≤ at
begun-before at h k = let a = k.0 in let b = k.1 in omega (arith, a, b)

before : (at : ℕ) (q : Pending) → Fits at q → begins at q ≤ at
before at idle k = omega arith
before at (extents w p fs) k = let l = k.0 in omega (arith, l)
before at condition k = omega arith
before at (loop_begun p) k = omega (arith, k)
before at (loop_named h) k = begun-before at h k
before at (loop_first h f) k = begun-before at h k.0
before at (loop_step h f g r) k = begun-before at h k.0
before at (placed f) k = let l = k.below in omega (arith, l)
before at (valued f a p) k = let l = k.0.below in omega (arith, l)

-- a sign of a loop's step
step-first : (s : State) (at : ℕ) (h : Begun) (f g : Formula) (m : Mark) → s.pending ≡ loop_step h f g read.Nothing
    → Fits at (loop_step h f g read.Nothing) → Goes h.place (at + 1) s (first_sign s h f g m at)
step-first s at h f g kept.StepName same k =
    let q = loop_step h f g (read.Name at) in
    goes-on h.place (at + 1) s (expects s q) refl (omega arith) (
      later-begun at (at + 1) h (omega arith) k.0,
      (later-two h.place at (at + 1) f g (omega arith) k.1.0, (begun-before at h k.0, omega arith)),
    )
step-first s at h f g (kept.Count c) same k =
    goes-on h.place (at + 1) s (expects s (loop_step h f g (read.Count c))) refl (omega arith)
    (fits-later at (at + 1) (loop_step h f g (read.Count c)) (omega arith) k)
step-first s at h f g _ same k = stays at (at + 1) (loop_step h f g read.Nothing) s same (omega arith) k

step-counted : (words : Words) (s : State) (at : ℕ) (h : Begun) (f g : Formula) (c : Count) (m : Mark)
    → s.pending ≡ loop_step h f g (read.Count c) → Fits at (loop_step h f g (read.Count c))
    → Goes h.place (at + 1) s (counted_sign words s h f g c m at)
step-counted words s at h f g c kept.StepName same k =
    opened-goes words s h.place (at + 1) (whole_head words s h f g at (counted c))
    (whole-lies words s h f g at (counted c) at (at + 1) (omega arith) k.0 k.1.0 (begun-before at h k.0) (omega arith)
    tt)
step-counted words s at h f g c _ same k = stays at (at + 1) (loop_step h f g (read.Count c)) s same (omega arith) k

step-named : (words : Words) (s : State) (at : ℕ) (h : Begun) (f g : Formula) (v : ℕ) (m : Mark)
    → s.pending ≡ loop_step h f g (read.Name v) → Fits at (loop_step h f g (read.Name v))
    → Goes h.place (at + 1) s (named_sign words s h f g v m at)
step-named words s at h f g v (kept.Count c) same k =
    let l = k.1.1.1 in
    opened-goes words s h.place (at + 1) (whole_head words s h f g v (counted c))
    (whole-lies words s h f g v (counted c) at (at + 1) (omega arith) k.0 k.1.0 k.1.1.0 (omega (arith, l)) tt)
step-named words s at h f g v (kept.Assign a) same k =
    goes-on h.place (at + 1) s (expects s (loop_step h f g (read.Assignment v a))) refl (omega arith)
    (fits-later at (at + 1) (loop_step h f g (read.Assignment v a)) (omega arith) k)
step-named words s at h f g v _ same k = stays at (at + 1) (loop_step h f g (read.Name v)) s same (omega arith) k

step-change : (words : Words) (s : State) (at : ℕ) (h : Begun) (f g : Formula) (r : StepRead) (m : Mark)
    → s.pending ≡ loop_step h f g r → Fits at (loop_step h f g r)
    → Goes h.place (at + 1) s (change_step words s h f g r m at)
step-change words s at h f g read.Nothing m same k = step-first s at h f g m same k
step-change words s at h f g (read.Count c) m same k = step-counted words s at h f g c m same k
step-change words s at h f g (read.Name v) m same k = step-named words s at h f g v m same k
step-change words s at h f g (read.Assignment v a) m same k =
    stays at (at + 1) (loop_step h f g (read.Assignment v a)) s same (omega arith) k

step-placed : (s : State) (at : ℕ) (f : Formula) (m : Mark) → s.pending ≡ placed f → Lies (place f) at f
    → Goes (place f) (at + 1) s (placed_step s f m at)
step-placed s at f (kept.Assign a) same k =
    let l = k.below in
    goes-on (place f) (at + 1) s (expects s (valued f a at)) refl (omega arith)
    (lies-wider (place f) at (place f) (at + 1) f (omega arith) (omega arith) k, (omega (arith, l), omega arith))
step-placed s at f _ same k = stays at (at + 1) (placed f) s same (omega arith) k

-- a sign
step-sign : (words : Words) (s : State) (at : ℕ) (q : Pending) (m : Mark) → s.pending ≡ q → Fits at q
    → Goes (begins at q) (at + 1) s (sign_step q words s m at)
step-sign words s at idle m same k = step-idle words s at m same
step-sign words s at (extents w p fs) m same k = step-extents words s w at p fs m k
step-sign words s at (loop_begun p) m same k = step-begun s at p m same k
step-sign words s at (loop_step h f g r) m same k = step-change words s at h f g r m same k
step-sign words s at (placed f) m same k = step-placed s at f m same k
step-sign words s at q m same k = stays at (at + 1) q s same (omega arith) k

-- the right side of a loop's step
step-whole : (words : Words) (s : State) (at to : ℕ) (h : Begun) (f g : Formula) (r : StepRead) (e : Formula)
    → s.pending ≡ loop_step h f g r → Fits at (loop_step h f g r) → at ≤ to → Lies h.place to e
    → Goes h.place to s (change_whole words s h f g r e)
step-whole words s at to h f g (read.Assignment v a) e same k le l =
    let u = k.1.1.1 in
    opened-goes words s h.place to (whole_head words s h f g v (assigned a e))
    (whole-lies words s h f g v (assigned a e) at to le k.0 k.1.0 k.1.1.0 (omega (arith, u, le)) l)
step-whole words s at to h f g r e same k le l = stays at to (loop_step h f g r) s same le k

-- a statement
step-value : (s : State) (at to : ℕ) (f : Formula) (a : Assign) (p : ℕ) (e : Formula) → Fits at (valued f a p)
    → at ≤ to → Lies (place f) to e → Goes (place f) to s (complete (stated s (whole_statement f a p e)))
step-value s at to f a p e k le l =
    let x = whole_statement f a p e in
    let t = stated s x in
    let b = k.0.below in
    let u = k.1.1 in
    goes-whole (place f) to s (complete t) (statement_faults (entries s.scope) s.comparisons s.before x)
    (unwound_faults t.frames _) (unwound_pending t.frames _)
    (in-statement (entries s.scope) s.comparisons s.before (place f) to x
    (lies-wider (place f) at (place f) to f (omega arith) le k.0) l k.1.0 (omega (arith, u, le)))
    (omega (arith, b, le))

-- an expression's formula, which ends before the next token
step-formula : (words : Words) (s : State) (at to : ℕ) (q : Pending) (f : Formula) → s.pending ≡ q → Fits at q → at ≤ to
    → Lies (begins at q) to f → Goes (begins at q) to s (formula_step q words s f)
step-formula words s at to (extents w p fs) f same k le l =
    let b = k.0 in
    goes-on p to s (expects s (extents w p (fs ++ f ∷ []))) refl (omega arith)
    (omega (arith, b, le), all-behind p to fs f (all-wider p at p to fs (omega arith) le k.1) l)
step-formula words s at to condition f same k le l =
    goes-whole at to s (guard_opened s f) (faults (entries s.scope) role.Condition f) refl refl
    (l.told_faults (entries s.scope) role.Condition) le
step-formula words s at to (loop_named h) f same k le l =
    goes-on h.place to s (expects s (loop_first h f)) refl (omega arith) (later-begun at to h le k, l)
step-formula words s at to (loop_first h f) g same k le l =
    goes-on h.place to s (expects s (loop_step h f g read.Nothing)) refl (omega arith)
    (later-begun at to h le k.0, ((lies-wider h.place at h.place to f (omega arith) le k.1, l), tt))
step-formula words s at to (loop_step h f g r) e same k le l = step-whole words s at to h f g r e same k le l
step-formula words s at to (placed p) f same k le l =
    goes-on (place p) to s (expects s (placed (index p f))) refl (omega arith)
    (lies-index (place p) to p f (lies-wider (place p) at (place p) to p (omega arith) le k) l)
step-formula words s at to (valued p a v) f same k le l = step-value s at to p a v f k le l
step-formula words s at to q f same k le l = stays at to q s same le k

-- an expression
step-nodes : RoleLaws → (words : Words) (s : State) (at : ℕ) (q : Pending) (x : Tree) → s.pending ≡ q → Fits at q
    → Goes (begins at q) (at + size x + 1) s (step_in q words s (nodes_from at (written 0 x)))
step-nodes laws words s at q x same k =
    let see = look_in q words s in
    let f = formula_of_nodes see at (written 0 x) in
    step-formula words s at (at + size x + 1) q f same k (omega arith)
    (lies-wider at (at + size x) (begins at q) (at + size x + 1) f (before at q k) (omega arith)
    (lies-nodes laws see at x))

-- elements one after another
goes-run : RoleLaws → (words : Words) (s : State) (at : ℕ) (es : List Element) → Fits at s.pending
    → Goes (begins at s.pending) (at + width es) s (run words s (pieces at es))
goes-run laws words s at [] fits = stays at (at + 0) s.pending s refl (omega arith) fits
goes-run laws words s at (sign t None ∷ es) fits =
    let to = at + 1 + width es in
    let place : to ≡ at + width (sign t None ∷ es) = omega arith in
    let b = begins at s.pending in
    let u = run words s (pieces (at + 1) es) in
    subst (λ (n : ℕ). Goes b n s u) place
    (goes-then b (at + 1) to s s u (stays at (at + 1) s.pending s refl (omega arith) fits)
    (goes-run laws words s (at + 1) es (fits-later at (at + 1) s.pending (omega arith) fits)))
goes-run laws words s at (sign t (Some m) ∷ es) fits =
    let to = at + 1 + width es in
    let place : to ≡ at + width (sign t (Some m) ∷ es) = omega arith in
    let b = begins at s.pending in
    let v = step words s (mark_at m at) in
    let u = run words v (pieces (at + 1) es) in
    let g = step-sign words s at s.pending m refl fits in
    subst (λ (n : ℕ). Goes b n s u) place
    (goes-then b (at + 1) to s v u g (goes-run laws words v (at + 1) es g.fits))
goes-run laws words s at (expression x t ∷ es) fits =
    let next = at + size x + 1 in
    let to = next + width es in
    let long = length-append (tokens_of x) (t ∷ spelled es) in
    let place : to ≡ at + width (expression x t ∷ es) = omega (arith, long) in
    let b = begins at s.pending in
    let v = step words s (nodes_from at (written 0 x)) in
    let u = run words v (pieces next es) in
    let g = step-nodes laws words s at s.pending x refl fits in
    subst (λ (n : ℕ). Goes b n s u) place
    (goes-then b next to s v u g (goes-run laws words v next es g.fits))

-- a front of pieces is that of elements
record Front (at : ℕ) (es : List Element) (ps qs : List Piece) : Type 0 where
  front : List Element
  back : List Element
  split : es ≡ front ++ back
  front_is : ps ≡ pieces at front
  back_is : qs ≡ pieces (at + width front) back

front-of : (at : ℕ) (es : List Element) (ps qs : List Piece) → pieces at es ≡ ps ++ qs → Front at es ps qs
front-of at es [] qs same = record {
  front = [];
  back = es;
  split = refl;
  front_is = refl;
  back_is = sym same ∙ pieces-at at (at + 0) es (omega arith);
}
front-of at [] (p ∷ ps) qs same = absurd cc
front-of at (sign t None ∷ es) (p ∷ ps) qs same =
    let f = front-of (at + 1) es (p ∷ ps) qs same in
    record {
      front = sign t None ∷ f.front;
      back = f.back;
      split = ap (λ (xs : List Element). sign t None ∷ xs) f.split;
      front_is = f.front_is;
      back_is = f.back_is ∙ pieces-at (at + 1 + width f.front) (at + width (sign t None ∷ f.front)) f.back
          (omega arith);
    }
front-of at (sign t (Some m) ∷ es) (p ∷ ps) qs same =
    let here : p ≡ mark_at m at = cc in
    let rest : pieces (at + 1) es ≡ ps ++ qs = cc in
    let f = front-of (at + 1) es ps qs rest in
    record {
      front = sign t (Some m) ∷ f.front;
      back = f.back;
      split = ap (λ (xs : List Element). sign t (Some m) ∷ xs) f.split;
      front_is = ap (λ (x : Piece). x ∷ ps) here ∙ ap (λ (xs : List Piece). mark_at m at ∷ xs) f.front_is;
      back_is =
          f.back_is ∙ pieces-at (at + 1 + width f.front) (at + width (sign t (Some m) ∷ f.front)) f.back (omega arith);
    }
front-of at (expression x t ∷ es) (p ∷ ps) qs same =
    let n = nodes_from at (written 0 x) in
    let next = at + size x + 1 in
    let here : p ≡ n = cc in
    let rest : pieces next es ≡ ps ++ qs = cc in
    let f = front-of next es ps qs rest in
    let long = length-append (tokens_of x) (t ∷ spelled f.front) in
    record {
      front = expression x t ∷ f.front;
      back = f.back;
      split = ap (λ (xs : List Element). expression x t ∷ xs) f.split;
      front_is = ap (λ (y : Piece). y ∷ ps) here ∙ ap (λ (xs : List Piece). n ∷ xs) f.front_is;
      back_is =
          f.back_is
          ∙ pieces-at (next + width f.front) (at + width (expression x t ∷ f.front)) f.back (omega (arith, long));
    }

-- the first of faults

-- the first of two is one of them
one-of : (P : Fault → Type 0) (c : Bool) (g h f : Fault) → P g → P h → (if c then Some h else Some g) ≡ Some f → P f
one-of P true g h f p q same = let e : h ≡ f = cc in subst P e q
one-of P false g h f p q same = let e : g ≡ f = cc in subst P e p

first-among : (P : Fault → Type 0) (g : Fault) (o : Option Fault) (f : Fault) → P g
    → ((h : Fault) → o ≡ Some h → P h) → first_of (Some g) o ≡ Some f → P f
first-among P g None f p q same = let e : g ≡ f = cc in subst P e p
first-among P g (Some h) f p q same = one-of P (precedes h g) g h f p (q h refl) same

first-in : (b e : ℕ) (fs : List Fault) (f : Fault) → In b e fs → first fs ≡ Some f → (b ≤ f.place) × (f.place < e)
first-in b e [] f h same = absurd cc
first-in b e (g ∷ gs) f h same =
    first-among (λ (x : Fault). (b ≤ x.place) × (x.place < e)) g (first gs) f h.0
    (λ x is. first-in b e gs x h.1 is) same

not-before : (a b k l : ℕ) → a < b → (nat_lt b a || (b == a && nat_lt k l)) ≡ false
not-before a b k l h = grind (arith, h)

stays-first : (f : Fault) (o : Option Fault) → ((g : Fault) → o ≡ Some g → f.place < g.place)
    → first_of (Some f) o ≡ Some f
stays-first f None h = refl
stays-first f (Some g) h = rw (not-before f.place g.place (number g.kind) (number f.kind) (h g refl)) refl

-- what is found before a place stays the first behind it
stays-behind : RoleLaws → (words : Words) (at : ℕ) (es : List Element) (s : State) (f : Fault)
    → Goes 0 at first_state s → first s.faults ≡ Some f → first (run words s (pieces at es)).faults ≡ Some f
stays-behind laws words at es s f g mine =
    let m = begins at s.pending in
    let t = run words s (pieces at es) in
    let h = goes-run laws words s at es g.fits in
    let low = first-in 0 m g.added f g.within (ap first (sym g.is) ∙ mine) in
    let below = low.1 in
    ap first h.is
    ∙ (laws.append s.faults h.added
    ∙ (ap (λ (o : Option Fault). first_of o (first h.added)) mine
    ∙ stays-first f (first h.added)
    (λ x there. let high = (first-in m (begins (at + width es) t.pending) h.added x h.within there).0 in
    omega (arith, below, high))))

-- the pieces behind a front go on where the front ends
run-front : (words : Words) (es : List Element) (ps qs : List Piece) (c : Front 0 es ps qs)
    → run words first_state (pieces 0 es)
    ≡ run words (run words first_state (pieces 0 c.front)) (pieces (0 + width c.front) c.back)
run-front words es ps qs c =
    ap (λ (xs : List Element). run words first_state (pieces 0 xs)) c.split
    ∙ (ap (run words first_state) (pieces-append 0 c.front c.back)
    ∙ run-append words first_state (pieces 0 c.front) (pieces (0 + width c.front) c.back))

-- the first fault of a front of a kernel's pieces is that of them all
pub first-stays : RoleLaws → (words : Words) (es : List Element) (ps qs : List Piece) (f : Fault)
    → pieces 0 es ≡ ps ++ qs → first (run words first_state ps).faults ≡ Some f
    → first (run words first_state (pieces 0 es)).faults ≡ Some f
first-stays laws words es ps qs f same is =
    let c = front-of 0 es ps qs same in
    let s = run words first_state (pieces 0 c.front) in
    ap (λ (x : State). first x.faults) (run-front words es ps qs c)
    ∙ stays-behind laws words (0 + width c.front) c.back s f (goes-run laws words first_state 0 c.front tt)
    (ap (λ (xs : List Piece). first (run words first_state xs).faults) (sym c.front_is) ∙ is)

settled-goes : (words : Words) (s : State) (at : ℕ) (q : Pending) → s.pending ≡ q → Fits at q
    → Goes (begins at q) at s (settled_in q words s)
settled-goes words s at (extents w p fs) same h = ranked-goes words s w at p fs h
settled-goes words s at q same h =
    goes-on (begins at q) at s s refl (subst (λ (x : Pending). begins at q ≤ begins at x) (sym same) (omega arith))
    (subst (λ (x : Pending). Fits at x) (sym same) h)

settled-run : (words : Words) (s : State) (q : Pending) (m : Mark) (p : ℕ) (qs : List Piece) → s.pending ≡ q
    → run words s (mark_at m p ∷ qs) ≡ run words (settled_in q words s) (mark_at m p ∷ qs)
settled-run words s (extents w at fs) m p qs same =
    ap (λ (x : Pending). run words (sign_step x words s m p) qs) same
settled-run words s q m p qs same = refl

-- the same of an array that the next sign completes
pub array-stays : RoleLaws → (words : Words) (es : List Element) (ps : List Piece) (m : Mark) (p : ℕ) (qs : List Piece)
    (f : Fault) → pieces 0 es ≡ ps ++ mark_at m p ∷ qs
    → first (settled words (run words first_state ps)).faults ≡ Some f
    → first (run words first_state (pieces 0 es)).faults ≡ Some f
array-stays laws words es ps m p qs f same is =
    let c = front-of 0 es ps (mark_at m p ∷ qs) same in
    let at = 0 + width c.front in
    let s = run words first_state (pieces 0 c.front) in
    let u = settled words s in
    let g = goes-run laws words first_state 0 c.front tt in
    let k = settled-goes words s at s.pending refl g.fits in
    let flush =
    ap (run words s) (sym c.back_is)
    ∙ (settled-run words s s.pending m p qs refl ∙ ap (run words u) c.back_is) in
    let mine : first u.faults ≡ Some f =
    ap (λ (xs : List Piece). first (settled words (run words first_state xs)).faults) (sym c.front_is) ∙ is in
    ap (λ (x : State). first x.faults) (run-front words es ps (mark_at m p ∷ qs) c ∙ flush)
    ∙ stays-behind laws words at c.back u f (goes-then 0 at at first_state s u g k) mine
