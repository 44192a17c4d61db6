-- Items without faults leave trees within the limits; the arrays of a scope are known.
use Rattle.scop_syntax.proofs.Common.{◌≡◌, ℕ, suc, ◌+◌, ◌-◌, ◌<◌, ◌≤◌, Bool, true, false, if◌then◌else◌, List, [], ◌∷◌}
use Rattle.scop_syntax.proofs.Common.{◌++◌, length, map, refl, ap, subst, ◌∙◌, arith, length-append, All, Option, Some}
use Rattle.scop_syntax.proofs.Common.{None, ⊤, slice_index_or, IsComparison, test_form, IsHead, IsTree, AreTrees}
use Rattle.scop_syntax.proofs.Common.{KeepWidths, Tree, trees_of}
use Rattle.std.proofs.Common.{bytes_eq}
use Rattle.scop_expressions.specs.Assign.{Assign}
use Rattle.scop_expressions.specs.Tree.{size}
use Rattle.scop_expressions.specs.Tree as expression
use Rattle.scop_grammar.specs.Kernel.{Step, Head, branch, loop, Item, block, empty, assign, headed, Items, none, more}
use Rattle.scop_grammar.specs.Kernel.{item_elements, head_elements}
use Rattle.scop_lexer.specs.Bytes.{Text}
use Rattle.scop_syntax.specs.Kernel.{KeepsWidths}
use Rattle.scop_syntax.specs.Walk as walk
use Rattle.scop_roles.specs.declared.formula.Meaning.{Meaning}
use Rattle.scop_roles.specs.declared.formula.Meaning.TheVariants as meaning
use Rattle.scop_roles.specs.Faults.{first}
use Rattle.scop_roles.specs.Scope.{IsKnown, KnowsArrays, KnowsWidth}
use Rattle.scop_roles.specs.Values.{tests}
use Rattle.scop_units.specs.Words.{Words, HasWorth}
use Rattle.scop_units.specs.Scopes.{Scope, Ranked, entries, look, number_of, variable_or, array_in}
use Rattle.scop_units.specs.Scopes.{outer_meaning, meaning_in}
use Rattle.scop_units.specs.Loops.{loop_of}
use Rattle.scop_units.specs.Judging.{width, inside, iterator_at, loop_in, condition, head_faults, behind_head, compared}
use Rattle.scop_units.specs.Judging.{stored, statements_in, statements_in_all, item_faults, items_faults}
use Rattle.scop_units.specs.Programs.{headed_by, wrapped, item_trees, all_trees}
use Rattle.scop_units.proofs.FaultlessUnits.{RoleLaws, parts_none, Stands, statement_stands}
use Rattle.scop_units.proofs.LoopHeads.{head_stands}
use Rattle.scop_roles.proofs.Types.{place_width}

-- how many extents arrays have, and which have cells of 32 bits
abbrev pub ranks_among : List Ranked → List ℕ
ranks_among xs = map (λ (a : Ranked). a.rank) xs

abbrev pub widths_among : List Ranked → List Bool
widths_among xs = map (λ (a : Ranked). a.narrow) xs

-- the ranks of the arrays in scope
abbrev pub ranks_in : Scope → List ℕ
ranks_in s = ranks_among s.arrays

-- an array that is numbered from k on
abbrev Known : ℕ → List Ranked → Meaning → Type 0
Known k xs (meaning.Array j r b) =
    (i : ℕ) × (j ≡ k + i) × (i < length (ranks_among xs)) × (slice_index_or (ranks_among xs) i 0 ≡ r)
    × (slice_index_or (widths_among xs) i false ≡ b)
Known k xs m = ⊤

known_more : (k : ℕ) (a : Ranked) (xs : List Ranked) (m : Meaning) → Known (k + 1) xs m → Known k (a ∷ xs) m
known_more k a xs (meaning.Array j r b) h =
    let at = h.1 in let lt = h.2 in (suc h.0, omega (arith, at), omega (arith, lt), h.3, h.4)
known_more k a xs meaning.Unknown h = tt
known_more k a xs meaning.Closed h = tt
known_more k a xs (meaning.Variable j) h = tt

known_if : (b : Bool) (k : ℕ) (xs : List Ranked) (m p : Meaning) → Known k xs m → Known k xs p
    → Known k xs (if b then m else p)
known_if true k xs m p h i = h
known_if false k xs m p h i = i

arrays_known : (k : ℕ) (w : Text) (xs : List Ranked) → Known k xs (array_in k w xs)
arrays_known k w [] = tt
arrays_known k w (a ∷ xs) =
    known_if (bytes_eq a.name w) k (a ∷ xs) (meaning.Array k a.rank a.narrow) (array_in (k + 1) w xs)
    (0, omega arith, omega arith, refl, refl)
    (known_more k a xs (array_in (k + 1) w xs) (arrays_known (k + 1) w xs))

-- an array is one of these
abbrev IsAmong : List Ranked → Meaning → Type 0
IsAmong xs m = IsKnown (ranks_among xs) m × KnowsWidth (widths_among xs) m

known_is : (xs : List Ranked) (m : Meaning) → Known 0 xs m → IsAmong xs m
known_is xs (meaning.Array j r b) h =
    let at = h.1 in
    let lt = h.2 in
    let e : j ≡ h.0 = omega (arith, at) in (
      (omega (arith, at, lt), ap (λ (i : ℕ). slice_index_or (ranks_among xs) i 0) e ∙ h.3),
      ap (λ (i : ℕ). slice_index_or (widths_among xs) i false) e ∙ h.4,
    )
known_is xs meaning.Unknown h = (tt, tt)
known_is xs meaning.Closed h = (tt, tt)
known_is xs (meaning.Variable j) h = (tt, tt)

closed_known : (xs : List Ranked) (b : Bool) (m : Meaning) → IsAmong xs m
    → IsAmong xs (if b then meaning.Closed else m)
closed_known xs true m h = (tt, tt)
closed_known xs false m h = h

variable_known : (xs : List Ranked) (n : ℕ) (o : Option ℕ) (m : Meaning) → IsAmong xs m
    → IsAmong xs (variable_or n o m)
variable_known xs n (Some k) m h = (tt, tt)
variable_known xs n None m h = h

meaning_known : (s : Scope) (w : Text) → IsAmong s.arrays (meaning_in s w)
meaning_known s w =
    let array = known_is s.arrays (array_in 0 w s.arrays) (arrays_known 0 w s.arrays) in
    let parameter = variable_known s.arrays 0 (number_of w s.parameters) (array_in 0 w s.arrays) array in
    variable_known s.arrays (length s.parameters) (number_of w s.open_loops) (outer_meaning s w)
    (closed_known s.arrays (s.declared w)
    (variable_or 0 (number_of w s.parameters) (array_in 0 w s.arrays)) parameter)

pub knows : (words : Words) (s : Scope) → HasWorth words → KnowsArrays (ranks_in s) (look words s)
knows words s worth = record { meaning = λ at. (meaning_known s (words.spelling at)).0; worth = worth }

-- an assignment without faults
assign_stands : (laws : RoleLaws) (words : Words) → HasWorth words → (s : Scope) (comparisons before at : ℕ)
    (a : Assign) (p x : expression.Tree) → item_faults words s comparisons before at (assign a p x) ≡ []
    → Stands (ranks_in s) (widths_among s.arrays) (entries s) comparisons before (stored words s at a p x)
assign_stands laws words worth s comparisons before at a p x e =
    let known = knows words s worth in
    let widths = widths_among s.arrays in
    let wide : (i : ℕ) → KnowsWidth widths ((look words s).meaning i) = λ i. (meaning_known s (words.spelling i)).1 in
    statement_stands laws (ranks_in s) widths (entries s) comparisons before (stored words s at a p x)
    (laws.in_scope (ranks_in s) (look words s) at p known)
    (laws.in_scope (ranks_in s) (look words s) (at + size p + 1) x known)
    (place_width widths (look words s) wide at p) (laws.widths widths (look words s) (at + size p + 1) x wide) e

-- trees within so many loops and comparisons, each with a statement
abbrev pub Stand : List Ranked → ℕ → ℕ → ℕ → List Tree → Type 0
Stand xs n loops comparisons [] = ⊤
Stand xs n loops comparisons (t ∷ ts) = (comparisons ≤ 16) × (0 < walk.statements_in t)
    × IsTree (ranks_among xs) n (5 - loops) (16 - comparisons) t × KeepsWidths (widths_among xs) t
    × Stand xs n loops comparisons ts

stand_append : (xs : List Ranked) (n l c : ℕ) (ts us : List Tree) → Stand xs n l c ts → Stand xs n l c us
    → Stand xs n l c (ts ++ us)
stand_append xs n l c [] us h k = k
stand_append xs n l c (t ∷ ts) us h k = (h.0, h.1, h.2, h.3, stand_append xs n l c ts us h.4 k)

pub stand_trees : (xs : List Ranked) (n l c : ℕ) (ts : List Tree) → Stand xs n l c ts
    → AreTrees (ranks_among xs) n (5 - l) (16 - c) (trees_of ts)
stand_trees xs n l c [] h = tt
stand_trees xs n l c (t ∷ ts) h = (h.2, stand_trees xs n l c ts h.4)

pub stand_widths : (xs : List Ranked) (n l c : ℕ) (ts : List Tree) → Stand xs n l c ts
    → KeepWidths (widths_among xs) (trees_of ts)
stand_widths xs n l c [] h = tt
stand_widths xs n l c (t ∷ ts) h = (h.3, stand_widths xs n l c ts h.4)

stand_same : (xs : List Ranked) (n m l k c d : ℕ) (ts : List Tree) → n ≡ m → l ≡ k → c ≡ d → Stand xs n l c ts
    → Stand xs m k d ts
stand_same xs n m l k c d ts e f g h =
    subst (λ (x : ℕ). Stand xs x k d ts) e
    (subst (λ (x : ℕ). Stand xs n x d ts) f (subst (λ (x : ℕ). Stand xs n l x ts) g h))

-- a guard round trees
branch_stands : (xs : List Ranked) (words : Words) (s : Scope) (at : ℕ) (x : expression.Tree) (n l c : ℕ)
    (ts : List Tree) → 0 < length (tests (entries s) (condition words s at x))
    → All (λ test. IsComparison n (test_form test)) (tests (entries s) (condition words s at x))
    → Stand xs n l (c + compared words s at (branch x)) ts
    → Stand xs n l c (wrapped (headed_by words s at (branch x)) ts)
branch_stands xs words s at x n l c [] some each h = tt
branch_stands xs words s at x n l c (t ∷ ts) some each h =
    let k = length (tests (entries s) (condition words s at x)) in
    let few = h.0 in
    let statement = h.1 in
    let left : 16 - (c + k) ≡ 16 - c - k = omega arith in
    let body = subst (λ (m : ℕ). AreTrees (ranks_among xs) n (5 - l) m (trees_of (t ∷ ts))) left
    (stand_trees xs n l (c + k) (t ∷ ts) h) in (
      omega (arith, few),
      omega (arith, statement),
      (some, omega (arith, few), each, omega (arith, statement), body),
      stand_widths xs n l (c + k) (t ∷ ts) h,
      tt,
    )

-- a loop round trees
loop_stands : (xs : List Ranked) (words : Words) (s : Scope) (at : ℕ) (new : Bool) (a x : expression.Tree) (st : Step)
    (n l c : ℕ) (ts : List Tree) → IsHead n (loop_of s (loop_in words s at new a x st)) → l < 5
    → Stand xs (n + 1) (l + 1) c ts → Stand xs n l c (wrapped (headed_by words s at (loop new a x st)) ts)
loop_stands xs words s at new a x st n l c [] head deep h = tt
loop_stands xs words s at new a x st n l c (t ∷ ts) head deep h =
    let few = h.0 in
    let statement = h.1 in
    let left : 5 - (l + 1) ≡ 5 - l - 1 = omega arith in
    let body = subst (λ (m : ℕ). AreTrees (ranks_among xs) (n + 1) m (16 - c) (trees_of (t ∷ ts))) left
    (stand_trees xs (n + 1) (l + 1) c (t ∷ ts) h) in (
      few,
      omega (arith, statement),
      (omega (arith, deep), head, omega (arith, statement), body),
      stand_widths xs (n + 1) (l + 1) c (t ∷ ts) h,
      tt,
    )

-- one loop more is open within a loop
one_deeper : (words : Words) (s : Scope) (new : Bool) (at : ℕ)
    → length (inside words s new at).open_loops ≡ length s.open_loops + 1
one_deeper words s new at = length-append s.open_loops (words.spelling (iterator_at new at) ∷ [])

mutual
  pub item_stands : (laws : RoleLaws) (words : Words) (worth : HasWorth words) (s : Scope) (comparisons before at : ℕ)
      (i : Item) → item_faults words s comparisons before at i ≡ []
      → Stand s.arrays (entries s) (length s.open_loops) comparisons (item_trees words s at i)
  item_stands laws words worth s comparisons before at (block is) e =
      items_stand laws words worth s comparisons before (at + 1) is e
  item_stands laws words worth s comparisons before at empty e = tt
  item_stands laws words worth s comparisons before at (assign a p x) e =
      let st = assign_stands laws words worth s comparisons before at a p x e in
      (st.few_comparisons, omega arith, st.statement, st.width, tt)
  item_stands laws words worth s comparisons before at (headed (branch x) i) e =
      let both = parts_none (head_faults words s at (branch x)) _ e in
      let tested = laws.condition (entries s) (condition words s at x) (ap first both.0) in
      branch_stands s.arrays words s at x (entries s) (length s.open_loops) comparisons
      (item_trees words s (at + width (head_elements (branch x))) i) tested.0 tested.1
      (item_stands laws words worth s (comparisons + compared words s at (branch x)) before
      (at + width (head_elements (branch x))) i both.1)
  item_stands laws words worth s comparisons before at (headed (loop new a x st) i) e =
      let both = parts_none (head_faults words s at (loop new a x st)) _ e in
      let head = head_stands laws s (loop_in words s at new a x st) both.0 in
      let deeper = one_deeper words s new at in
      let place = at + width (head_elements (loop new a x st)) in
      let ts = item_trees words (inside words s new at) place i in
      loop_stands s.arrays words s at new a x st (entries s) (length s.open_loops) comparisons ts head.0 head.1
      (stand_same s.arrays (entries (inside words s new at)) (entries s + 1)
      (length (inside words s new at).open_loops) (length s.open_loops + 1) (comparisons + 0) comparisons ts
      (omega (arith, deeper)) deeper (omega arith)
      (item_stands laws words worth (inside words s new at) (comparisons + 0) before place i both.1))

  pub items_stand : (laws : RoleLaws) (words : Words) (worth : HasWorth words) (s : Scope) (comparisons before at : ℕ)
      (is : Items) → items_faults words s comparisons before at is ≡ []
      → Stand s.arrays (entries s) (length s.open_loops) comparisons (all_trees words s at is)
  items_stand laws words worth s comparisons before at none e = tt
  items_stand laws words worth s comparisons before at (more i is) e =
      let both = parts_none (item_faults words s comparisons before at i) _ e in
      let place = at + width (item_elements i) in
      stand_append s.arrays (entries s) (length s.open_loops) comparisons (item_trees words s at i)
      (all_trees words s place is)
      (item_stands laws words worth s comparisons before at i both.0)
      (items_stand laws words worth s comparisons (before + statements_in i) place is both.1)

-- there are at most 32 statements
mutual
  pub item_few : (laws : RoleLaws) (words : Words) (worth : HasWorth words) (s : Scope) (comparisons before at : ℕ)
      (i : Item) → item_faults words s comparisons before at i ≡ [] → before ≤ 32 → before + statements_in i ≤ 32
  item_few laws words worth s comparisons before at (block is) e h =
      items_few laws words worth s comparisons before (at + 1) is e h
  item_few laws words worth s comparisons before at empty e h = omega (arith, h)
  item_few laws words worth s comparisons before at (assign a p x) e h =
      let few = (assign_stands laws words worth s comparisons before at a p x e).few_before in
      omega (arith, few)
  item_few laws words worth s comparisons before at (headed x i) e h =
      let both = parts_none (head_faults words s at x) _ e in
      item_few laws words worth (behind_head words s at x) (comparisons + compared words s at x) before
      (at + width (head_elements x)) i both.1 h

  pub items_few : (laws : RoleLaws) (words : Words) (worth : HasWorth words) (s : Scope) (comparisons before at : ℕ)
      (is : Items) → items_faults words s comparisons before at is ≡ [] → before ≤ 32
      → before + statements_in_all is ≤ 32
  items_few laws words worth s comparisons before at none e h = omega (arith, h)
  items_few laws words worth s comparisons before at (more i is) e h =
      let both = parts_none (item_faults words s comparisons before at i) _ e in
      let a = item_few laws words worth s comparisons before at i both.0 h in
      let place = at + width (item_elements i) in
      let b = items_few laws words worth s comparisons (before + statements_in i) place is both.1 a in
      omega (arith, b)

-- the trees have the statements of the items

count_append : (ts us : List Tree) → walk.statements_in_all (trees_of (ts ++ us))
    ≡ walk.statements_in_all (trees_of ts) + walk.statements_in_all (trees_of us)
count_append [] us = omega arith
count_append (t ∷ ts) us = let m = count_append ts us in omega (arith, m)

count_wrapped : (words : Words) (s : Scope) (at : ℕ) (h : Head) (ts : List Tree)
    → walk.statements_in_all (trees_of (wrapped (headed_by words s at h) ts)) ≡ walk.statements_in_all (trees_of ts)
count_wrapped words s at h [] = refl
count_wrapped words s at (branch x) (t ∷ ts) = omega arith
count_wrapped words s at (loop new a x st) (t ∷ ts) = omega arith

mutual
  pub item_count : (words : Words) (s : Scope) (at : ℕ) (i : Item)
      → walk.statements_in_all (trees_of (item_trees words s at i)) ≡ statements_in i
  item_count words s at (block is) = items_count words s (at + 1) is
  item_count words s at empty = refl
  item_count words s at (assign a p x) = refl
  item_count words s at (headed h i) =
      count_wrapped words s at h (item_trees words (behind_head words s at h) (at + width (head_elements h)) i)
      ∙ item_count words (behind_head words s at h) (at + width (head_elements h)) i

  pub items_count : (words : Words) (s : Scope) (at : ℕ) (is : Items)
      → walk.statements_in_all (trees_of (all_trees words s at is)) ≡ statements_in_all is
  items_count words s at none = refl
  items_count words s at (more i is) =
      let a = count_append (item_trees words s at i) (all_trees words s (at + width (item_elements i)) is) in
      let b = item_count words s at i in
      let c = items_count words s (at + width (item_elements i)) is in
      omega (arith, a, b, c)
