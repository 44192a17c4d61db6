-- Where the faults of a unit stand: from its first token on, in front of the token behind it.
use Rattle.scop_syntax.proofs.Common.{◌≡◌, ℕ, zero, suc, ◌+◌, ◌<◌, ◌≤◌, nat_lt, nat_le, List, [], ◌∷◌, ◌++◌, length}
use Rattle.scop_syntax.proofs.Common.{Option, Some, None, refl, sym, subst, length-append, arith, rules, All, ⊤}
use Rattle.scop_syntax.proofs.Common.{slice_get, not, All-head, All-tail}
use Rattle.scop_expressions.specs.Assign.{Assign}
use Rattle.scop_expressions.specs.Assign.TheVariants as assigns
use Rattle.scop_expressions.specs.Token.TheVariants as token
use Rattle.scop_expressions.specs.Tree.{Tree, tokens_of, size, written}
use Rattle.scop_expressions.specs.Tree as tree
use Rattle.scop_roles.specs.declared.kinds.Fault.{Fault}
use Rattle.scop_roles.specs.declared.kinds.Kind.{Kind}
use Rattle.scop_roles.specs.declared.kinds.Kind.TheVariants as kind
use Rattle.scop_roles.specs.declared.formula.Meaning.{Meaning}
use Rattle.scop_roles.specs.declared.formula.Role.{Role}
use Rattle.scop_roles.specs.declared.formula.Role.TheVariants as role
use Rattle.scop_roles.specs.Faults.{faults, place_faults, told, judged, named, own, own_rank, first, first_of}
use Rattle.scop_roles.specs.Faults.{only_where}
use Rattle.scop_roles.specs.Formula.{Formula, Lookup, name, index, formula, place}
use Rattle.scop_roles.specs.Scope.{LiesWithin}
use Rattle.scop_roles.specs.Values.{read_places}
use Rattle.scop_units.specs.Words.{Words}
use Rattle.scop_units.specs.Scopes.{Scope, entries, redeclared, iterator_fault}
use Rattle.scop_units.specs.Loops.{LoopHead, Change, counted, assigned, change_faults, part_faults, loop_faults}
use Rattle.scop_units.specs.Loops.{is_form}
use Rattle.scop_units.specs.Units.{Stored, name_faults, number_faults, array_faults, extent_faults, statement_faults}
use Rattle.scop_units.specs.Units.{stored_faults, cell_faults, own_cell, is_narrow_cell, own_assign, own_read, reads_of}
use Rattle.scop_units.specs.Units.{read_limit}
use Rattle.scop_roles.specs.Resolving.{formula_of_nodes}
use Rattle.scop_roles.proofs.FormulaStack.{formula-of-written}

-- places between

-- each fault stands at a place from b on, below e
abbrev pub In : ℕ → ℕ → List Fault → Type 0
In b e [] = ⊤
In b e (f ∷ fs) = ((b ≤ f.place) × (f.place < e)) × In b e fs

pub in-append : (b e : ℕ) (fs gs : List Fault) → In b e fs → In b e gs → In b e (fs ++ gs)
in-append b e [] gs h k = k
in-append b e (f ∷ fs) gs h k = (h.0, in-append b e fs gs h.1 k)

pub in-wider : (b e c g : ℕ) (fs : List Fault) → c ≤ b → e ≤ g → In b e fs → In c g fs
in-wider b e c g [] low high h = tt
in-wider b e c g (f ∷ fs) low high h =
    let l = h.0.0 in
    let u = h.0.1 in
    ((omega (arith, low, l), omega (arith, high, u)), in-wider b e c g fs low high h.1)

pub in-judged : (b e : ℕ) (fs gs : List Fault) → In b e fs → In b e gs → In b e (judged fs gs)
in-judged b e [] gs h k = k
in-judged b e (f ∷ fs) gs h k = h

pub in-told : (b e at : ℕ) (k : Option Kind) → b ≤ at → at < e → In b e (told at k)
in-told b e at None low high = tt
in-told b e at (Some k) low high = ((low, high), tt)

pub in-all : (at n : ℕ) (fs : List Fault) → All (LiesWithin at n) fs → In at (at + n) fs
in-all at n [] h = tt
in-all at n (f ∷ fs) h =
    let w = All-head (LiesWithin at n) f fs h in
    ((w.from, w.below), in-all at n fs (All-tail (LiesWithin at n) f fs h))

-- the same of places
abbrev pub Places : ℕ → ℕ → List ℕ → Type 0
Places b e [] = ⊤
Places b e (p ∷ ps) = ((b ≤ p) × (p < e)) × Places b e ps

pub places-append : (b e : ℕ) (ps qs : List ℕ) → Places b e ps → Places b e qs → Places b e (ps ++ qs)
places-append b e [] qs h k = k
places-append b e (p ∷ ps) qs h k = (h.0, places-append b e ps qs h.1 k)

pub places-wider : (b e c g : ℕ) (ps : List ℕ) → c ≤ b → e ≤ g → Places b e ps → Places c g ps
places-wider b e c g [] low high h = tt
places-wider b e c g (p ∷ ps) low high h =
    let l = h.0.0 in
    let u = h.0.1 in
    ((omega (arith, low, l), omega (arith, high, u)), places-wider b e c g ps low high h.1)

pub places-get : (b e : ℕ) (ps : List ℕ) (i p : ℕ) → Places b e ps → slice_get ps i ≡ Some p → (b ≤ p) × (p < e)
places-get b e [] i p h same = absurd (grind (arith, same))
places-get b e (q ∷ ps) zero p h same =
    let equal : q ≡ p = cc in
    subst (λ (x : ℕ). (b ≤ x) × (x < e)) equal h.0
places-get b e (q ∷ ps) (suc i) p h same = places-get b e ps i p h.1 (search (rules, same))

pub in-limit : (b e : ℕ) (o : Option ℕ) → ((p : ℕ) → o ≡ Some p → (b ≤ p) × (p < e)) → In b e (read_limit o)
in-limit b e None h = tt
in-limit b e (Some p) h = (h p refl, tt)

pub in-limit-of : (b e : ℕ) (ps : List ℕ) (i : ℕ) → Places b e ps → In b e (read_limit (slice_get ps i))
in-limit-of b e ps i h = in-limit b e (slice_get ps i) (λ p same. places-get b e ps i p h same)

-- formulas between

-- what a formula tells stands from b on, below e
pub record Lies (b e : ℕ) (f : Formula) : Type 0 where
  pub told_faults : (n : ℕ) (r : Role) → In b e (faults n r f)
  pub told_places : (n : ℕ) → In b e (place_faults n f)
  pub from : b ≤ place f
  pub below : place f < e
  pub read : Places b e (read_places f)

pub lies-wider : (b e c g : ℕ) (f : Formula) → c ≤ b → e ≤ g → Lies b e f → Lies c g f
lies-wider b e c g f low high l =
    let p = l.from in
    let q = l.below in
    record {
      told_faults = λ n r. in-wider b e c g (faults n r f) low high (l.told_faults n r);
      told_places = λ n. in-wider b e c g (place_faults n f) low high (l.told_places n);
      from = omega (arith, low, p);
      below = omega (arith, high, q);
      read = places-wider b e c g (read_places f) low high l.read;
    }

-- the laws of formulas that this rests on
pub record RoleLaws : Type 0 where
  pub append : (fs gs : List Fault) → first (fs ++ gs) ≡ first_of (first fs) (first gs)
  pub told_faults : (see : Lookup) (at : ℕ) (t : Tree) (n : ℕ) (r : Role)
      → All (LiesWithin at (size t)) (faults n r (formula see at t))
  pub told_places : (see : Lookup) (at : ℕ) (t : Tree) (n : ℕ)
      → All (LiesWithin at (size t)) (place_faults n (formula see at t))
  pub place : (see : Lookup) (at : ℕ) (t : Tree)
      → (at ≤ place (formula see at t)) × (place (formula see at t) < at + size t)

pub reads-tree : RoleLaws → (see : Lookup) (at : ℕ) (t : Tree)
    → Places at (at + size t) (read_places (formula see at t))
reads-tree laws see at (tree.constant s) = tt
reads-tree laws see at tree.name = tt
reads-tree laws see at (tree.group t) =
    let long = length-append (tokens_of t) (token.Close ∷ []) in
    places-wider (at + 1) (at + 1 + size t) at (at + size (tree.group t)) (read_places (formula see (at + 1) t))
    (omega arith) (omega (arith, long)) (reads-tree laws see (at + 1) t)
reads-tree laws see at (tree.index t i) =
    let p = laws.place see at t in
    let l = p.0 in
    let u = p.1 in
    let long = length-append (tokens_of t) (token.OpenIndex ∷ (tokens_of i ++ token.CloseIndex ∷ [])) in
    ((l, omega (arith, u, long)), tt)
reads-tree laws see at tree.bare_call = tt
reads-tree laws see at (tree.call t) = tt
reads-tree laws see at (tree.unary s t) =
    places-wider (at + 1) (at + 1 + size t) at (at + size (tree.unary s t)) (read_places (formula see (at + 1) t))
    (omega arith) (omega arith) (reads-tree laws see (at + 1) t)
reads-tree laws see at (tree.cast w t) =
    places-wider (at + 1 + 1 + 1) (at + 1 + 1 + 1 + size t) at (at + size (tree.cast w t))
    (read_places (formula see (at + 1 + 1 + 1) t)) (omega arith) (omega arith) (reads-tree laws see (at + 1 + 1 + 1) t)
reads-tree laws see at (tree.binary o a b) =
    let q = at + size a + 1 in
    let long = length-append (tokens_of a) (token.Binary o ∷ tokens_of b) in
    let e = at + size (tree.binary o a b) in
    places-append at e (read_places (formula see at a)) (read_places (formula see q b))
    (places-wider at (at + size a) at e (read_places (formula see at a)) (omega arith) (omega (arith, long))
    (reads-tree laws see at a))
    (places-wider q (q + size b) at e (read_places (formula see q b)) (omega arith) (omega (arith, long))
    (reads-tree laws see q b))

-- an expression's formula
pub lies-tree : RoleLaws → (see : Lookup) (at : ℕ) (t : Tree) → Lies at (at + size t) (formula see at t)
lies-tree laws see at t = record {
  told_faults = λ n r. in-all at (size t) (faults n r (formula see at t)) (laws.told_faults see at t n r);
  told_places = λ n. in-all at (size t) (place_faults n (formula see at t)) (laws.told_places see at t n);
  from = (laws.place see at t).0;
  below = (laws.place see at t).1;
  read = reads-tree laws see at t;
}

pub lies-nodes : RoleLaws → (see : Lookup) (at : ℕ) (t : Tree)
    → Lies at (at + size t) (formula_of_nodes see at (written 0 t))
lies-nodes laws see at t =
    subst (λ (f : Formula). Lies at (at + size t) f) (sym (formula-of-written see at t)) (lies-tree laws see at t)

pub lies-name : (m : Meaning) (b e at : ℕ) → b ≤ at → at < e → Lies b e (name m at)
lies-name m b e at low high = record {
  told_faults = λ n r. in-judged b e (told at (named m)) (told at (own n r (name m at)))
      (in-told b e at (named m) low high) (in-told b e at (own n r (name m at)) low high);
  told_places = λ n. in-told b e at (named m) low high;
  from = low;
  below = high;
  read = tt;
}

pub lies-index : (b e : ℕ) (p i : Formula) → Lies b e p → Lies b e i → Lies b e (index p i)
lies-index b e p i h k =
    let parts = λ (n : ℕ). in-append b e (place_faults n p) (faults n role.Affine i) (h.told_places n)
    (k.told_faults n role.Affine) in
    record {
      told_faults = λ n r. in-judged b e (place_faults n p ++ faults n role.Affine i)
          (told (place p) (own n r (index p i))) (parts n)
          (in-told b e (place p) (own n r (index p i)) h.from h.below);
      told_places = parts;
      from = h.from;
      below = h.below;
      read = ((h.from, h.below), tt);
    }

abbrev pub AllLie : ℕ → ℕ → List Formula → Type 0
AllLie b e [] = ⊤
AllLie b e (f ∷ fs) = Lies b e f × AllLie b e fs

pub all-wider : (b e c g : ℕ) (fs : List Formula) → c ≤ b → e ≤ g → AllLie b e fs → AllLie c g fs
all-wider b e c g [] low high h = tt
all-wider b e c g (f ∷ fs) low high h = (lies-wider b e c g f low high h.0, all-wider b e c g fs low high h.1)

pub all-behind : (b e : ℕ) (fs : List Formula) (f : Formula) → AllLie b e fs → Lies b e f → AllLie b e (fs ++ f ∷ [])
all-behind b e [] f h l = (l, tt)
all-behind b e (g ∷ fs) f h l = (h.0, all-behind b e fs f h.1 l)

-- units between

pub in-extents : (n b e : ℕ) (fs : List Formula) → AllLie b e fs → In b e (extent_faults n fs)
in-extents n b e [] h = tt
in-extents n b e (f ∷ fs) h =
    in-append b e (faults n role.Affine f) (extent_faults n fs) (h.0.told_faults n role.Affine)
    (in-extents n b e fs h.1)

pub in-number : (words : Words) (s : Scope) (b e at : ℕ) → b ≤ at → at < e → In b e (number_faults words s at)
in-number words s b e at low high =
    in-append b e (name_faults words s at) (told at (only_where (nat_le 4 (length s.parameters)) kind.Parameters))
    (in-told b e at (redeclared s (words.spelling at)) low high)
    (in-told b e at (only_where (nat_le 4 (length s.parameters)) kind.Parameters) low high)

pub in-array : (words : Words) (s : Scope) (b e at : ℕ) (fs : List Formula) → b ≤ at → at < e → AllLie b e fs
    → In b e (array_faults words s at fs)
in-array words s b e at fs low high h =
    let many = told at (only_where (nat_le 16 (length s.arrays)) kind.Arrays) in
    let rank = told at (only_where (nat_lt 4 (length fs)) kind.Rank) in
    let last = extent_faults (entries s) fs in
    in-append b e (name_faults words s at) (rank ++ (many ++ last))
    (in-told b e at (redeclared s (words.spelling at)) low high)
    (in-append b e rank (many ++ last) (in-told b e at (only_where (nat_lt 4 (length fs)) kind.Rank) low high)
    (in-append b e many last (in-told b e at (only_where (nat_le 16 (length s.arrays)) kind.Arrays) low high)
    (in-extents (entries s) b e fs h)))

abbrev pub ChangeLies : ℕ → ℕ → Change → Type 0
ChangeLies b e (counted c) = ⊤
ChangeLies b e (assigned a f) = Lies b e f

pub in-change : (n b e : ℕ) (c : Change) → ChangeLies b e c → In b e (change_faults n c)
in-change n b e (counted c) h = tt
in-change n b e (assigned a f) h = h.told_faults n role.Free

pub record HeadLies (b e : ℕ) (h : LoopHead) : Type 0 where
  pub from : b ≤ h.place
  pub order : h.place ≤ h.name_at
  pub below : h.name_at < e
  pub first_lies : Lies b e h.first
  pub second_lies : Lies b e h.second
  pub changed_lies : Lies b e h.changed
  pub change_lies : ChangeLies b e h.change

pub in-loop : (b e : ℕ) (s : Scope) (h : LoopHead) → HeadLies b e h → In b e (loop_faults s h)
in-loop b e s h l =
    let n = entries s in
    let x = l.from in
    let y = l.order in
    let z = l.below in
    let named = told h.name_at (iterator_fault h.new s h.iterator) in
    let a = faults n role.Affine h.first in
    let c = faults (n + 1) role.Loose h.second in
    let d = faults (n + 1) role.Free h.changed in
    let g = change_faults (n + 1) h.change in
    let parts : In b e (part_faults s h) =
    in-append b e named (a ++ (c ++ (d ++ g)))
    (in-told b e h.name_at (iterator_fault h.new s h.iterator) (omega (arith, x, y)) z)
    (in-append b e a (c ++ (d ++ g)) (l.first_lies.told_faults n role.Affine)
    (in-append b e c (d ++ g) (l.second_lies.told_faults (n + 1) role.Loose)
    (in-append b e d g (l.changed_lies.told_faults (n + 1) role.Free) (in-change (n + 1) b e h.change l.change_lies))))
    in
    let form = only_where (not (is_form n h)) kind.LoopForm in
    let deep = only_where (nat_le 5 (length s.open_loops)) kind.Depth in
    let high : h.place < e = omega (arith, y, z) in
    in-append b e (judged (part_faults s h) (told h.place form)) (told h.place deep)
    (in-judged b e (part_faults s h) (told h.place form) parts (in-told b e h.place form x high))
    (in-told b e h.place deep x high)

pub own-reads : (b e : ℕ) (a : Assign) (p : ℕ) → b ≤ p → p < e → Places b e (own_read a p)
own-reads b e assigns.Set p low high = tt
own-reads b e _ p low high = ((low, high), tt)

pub in-statement : (n comparisons before b e : ℕ) (x : Stored) → Lies b e x.cell → Lies b e x.value → b ≤ x.assign_at
    → x.assign_at < e → In b e (statement_faults n comparisons before x)
in-statement n comparisons before b e x h k low high =
    let p = place x.cell in
    let rank = told p (own_rank x.cell) in
    let cell : In b e (cell_faults n x.cell) =
    in-append b e (told p (own_cell x.cell)) (judged (place_faults n x.cell) rank)
    (in-told b e p (own_cell x.cell) h.from h.below)
    (in-judged b e (place_faults n x.cell) rank (h.told_places n) (in-told b e p (own_rank x.cell) h.from h.below)) in
    let both = cell_faults n x.cell ++ faults n role.Value x.value in
    let own = own_assign (is_narrow_cell x.cell) x.assign x.value in
    let last = told x.assign_at own in
    let one : In b e (stored_faults n x) =
    in-judged b e both last
    (in-append b e (cell_faults n x.cell) (faults n role.Value x.value) cell (k.told_faults n role.Value))
    (in-told b e x.assign_at own low high) in
    let limit = read_limit (slice_get (reads_of x) 16) in
    let deep = only_where (nat_lt 16 comparisons) kind.Depth in
    let many = only_where (nat_le 32 before) kind.Statements in
    in-append b e (stored_faults n x) (limit ++ (told p deep ++ told p many)) one
    (in-append b e limit (told p deep ++ told p many)
    (in-limit-of b e (reads_of x) 16
    (places-append b e (own_read x.assign p) (read_places x.value) (own-reads b e x.assign p h.from h.below) k.read))
    (in-append b e (told p deep) (told p many) (in-told b e p deep h.from h.below) (in-told b e p many h.from h.below)))
