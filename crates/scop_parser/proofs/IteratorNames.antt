-- The iterators of a kernel without faults are free names that its tokens spell.
use Rattle.scop_syntax.proofs.Common.{◌≡◌, ◌∙◌, ap, subst, refl, ℕ, zero, suc, ◌+◌, Bool, true, false, List, [], ◌∷◌}
use Rattle.scop_syntax.proofs.Common.{◌++◌, length, map, slice_get, inl, inr, arith, All, Some, All-nil, All-cons}
use Rattle.scop_syntax.proofs.Common.{All-head, All-map, All-tail, In, Declaration, trees_of, in_append, in_back}
use Rattle.scop_syntax.proofs.Common.{in_front}
use Rattle.scop_expressions.specs.Tree as expression
use Rattle.scop_expressions.specs.Token.{Token}
use Rattle.scop_expressions.specs.Token.TheVariants as token
use Rattle.scop_grammar.specs.Kernel.{Element, spelled, Step, branch, loop, Item, block, empty, assign, headed, Items}
use Rattle.scop_grammar.specs.Kernel.{none, more, Kernel, begins, ends, item_elements, all_elements, head_elements}
use Rattle.scop_grammar.specs.Kernel.{parameter_elements, other_parameters, declarations, kernel_elements}
use Rattle.scop_grammar.proofs.Parses.{spelled_append}
use Rattle.scop_lexer.specs.Bytes.{Text}
use Rattle.scop_lexer.specs.Words.{IsName}
use Rattle.scop_roles.specs.Faults.{told, judged}
use Rattle.scop_syntax.specs.Tree as scop
use Rattle.scop_units.specs.Words.{Words}
use Rattle.scop_units.specs.Scopes.{Scope, iterator_fault}
use Rattle.scop_units.specs.Loops.{part_faults}
use Rattle.scop_units.specs.Judging.{width, iterator_at, inside, loop_in, head_faults, compared, statements_in}
use Rattle.scop_units.specs.Judging.{item_faults, items_faults}
use Rattle.scop_units.specs.Judging.{others_at, declared_at, items_at, body_scope, faults_of}
use Rattle.scop_units.specs.Programs.{arrays_of, headed_by, wrapped, item_trees, all_trees, program_spelled}
use Rattle.scop_units.specs.Units.{declared_over}
use Rattle.scop_units.specs.Names.{AreDistinct, SpellNames, TakesFresh, TakeFresh, header_names, HasDistinctNames}
use Rattle.scop_units.proofs.FaultlessUnits.{parts_none, judged_none, told_none}
use Rattle.scop_parser.specs.Names.{IsFreeName, IsUnreserved, TakesFree, TakeFree, HasFreeNames}
use Rattle.scop_parser.specs.steps.Iterators.{AllAre, EachIs, IsUnreservedScope, SpellFrom}
use Rattle.scop_parser.proofs.UnreservedNames.{iterator_none, kernel_names, kernel_parts}

-- what stands in a list stands in it where others are put behind it or in front
get_front : (xs ys : List Token) (i : ℕ) (x : Token) → slice_get xs i ≡ Some x → slice_get (xs ++ ys) i ≡ Some x
get_front [] ys i x e = absurd (cc)
get_front (y ∷ xs) ys zero x e = e
get_front (y ∷ xs) ys (suc i) x e = get_front xs ys i x e

get_behind : (xs ys : List Token) (i : ℕ) → slice_get (xs ++ ys) (length xs + i) ≡ slice_get ys i
get_behind [] ys i = ap (slice_get ys) (let e : 0 + i ≡ i = omega arith in e)
get_behind (x ∷ xs) ys i =
    let e : suc (length xs) + i ≡ suc (length xs + i) = omega arith in
    ap (slice_get (x ∷ (xs ++ ys))) e ∙ get_behind xs ys i

-- the names that elements spell, in parts
spell_front : (words : Words) (at : ℕ) (es fs : List Element) → SpellFrom words at (es ++ fs) → SpellFrom words at es
spell_front words at es fs h i is =
    h i (ap (λ ts. slice_get ts i) (spelled_append es fs) ∙ get_front (spelled es) (spelled fs) i token.Name is)

spell_behind : (words : Words) (at : ℕ) (es fs : List Element) → SpellFrom words at (es ++ fs)
    → SpellFrom words (at + width es) fs
spell_behind words at es fs h i is =
    let n = width es in
    let same : at + (n + i) ≡ (at + n) + i = omega arith in
    subst (λ k. IsName (words.spelling k)) same
    (h (n + i) (ap (λ ts. slice_get ts (n + i)) (spelled_append es fs) ∙ (get_behind (spelled es) (spelled fs) i ∙ is)))

-- the iterator of a loop
loop_spelled : (words : Words) (at : ℕ) (new : Bool) (a c : expression.Tree) (st : Step)
    → SpellFrom words at (head_elements (loop new a c st)) → IsName (words.spelling (iterator_at new at))
loop_spelled words at true a c st h =
    let same : at + 3 ≡ at + 1 + 1 + 1 = omega arith in subst (λ k. IsName (words.spelling k)) same (h 3 refl)
loop_spelled words at false a c st h =
    let same : at + 2 ≡ at + 1 + 1 = omega arith in subst (λ k. IsName (words.spelling k)) same (h 2 refl)

-- trees
abbrev AreFree : List scop.Tree → Type 0
AreFree ts = AllAre IsFreeName (trees_of ts)

trees_append : (ts us : List scop.Tree) → AreFree ts → AreFree us → AreFree (ts ++ us)
trees_append [] us h k = k
trees_append (t ∷ ts) us h k = (h.0, trees_append ts us h.1 k)

branch_free : (words : Words) (s : Scope) (at : ℕ) (x : expression.Tree) (ts : List scop.Tree) → AreFree ts
    → AreFree (wrapped (headed_by words s at (branch x)) ts)
branch_free words s at x [] h = tt
branch_free words s at x (t ∷ ts) h = (h, tt)

loop_free : (words : Words) (s : Scope) (at : ℕ) (new : Bool) (a x : expression.Tree) (st : Step)
    (ts : List scop.Tree) → IsFreeName (words.spelling (iterator_at new at)) → AreFree ts
    → AreFree (wrapped (headed_by words s at (loop new a x st)) ts)
loop_free words s at new a x st [] one h = tt
loop_free words s at new a x st (t ∷ ts) one h = ((one, h), tt)

head_free : (words : Words) (s : Scope) (at : ℕ) (new : Bool) (a x : expression.Tree) (st : Step)
    → IsUnreservedScope s → head_faults words s at (loop new a x st) ≡ []
    → SpellFrom words at (head_elements (loop new a x st)) → IsFreeName (words.spelling (iterator_at new at))
head_free words s at new a x st in_scope e h =
    let w = words.spelling (iterator_at new at) in
    let parts = loop_in words s at new a x st in
    let judged_parts = parts_none (judged (part_faults s parts) _) _ e in
    let faultless = judged_none (part_faults s parts) _ judged_parts.0 in
    let named = parts_none (told parts.name_at (iterator_fault new s w)) _ faultless.0 in (
      loop_spelled words at new a x st h,
      iterator_none new s w in_scope (told_none parts.name_at (iterator_fault new s w) named.0),
    )

mutual
  item_free : (words : Words) (s : Scope) (comparisons before at : ℕ) (i : Item) → IsUnreservedScope s
      → item_faults words s comparisons before at i ≡ [] → SpellFrom words at (item_elements i)
      → AreFree (item_trees words s at i)
  item_free words s comparisons before at (block is) in_scope e h =
      let inner = spell_behind words at (begins ∷ []) (all_elements is ++ ends ∷ []) h in
      items_free words s comparisons before (at + 1) is in_scope e
      (spell_front words (at + 1) (all_elements is) (ends ∷ []) inner)
  item_free words s comparisons before at empty in_scope e h = tt
  item_free words s comparisons before at (assign a p x) in_scope e h = (tt, tt)
  item_free words s comparisons before at (headed (branch x) i) in_scope e h =
      let both = parts_none (head_faults words s at (branch x)) _ e in
      let head = head_elements (branch x) in
      branch_free words s at x (item_trees words s (at + width head) i)
      (item_free words s (comparisons + compared words s at (branch x)) before (at + width head) i in_scope both.1
      (spell_behind words at head (item_elements i) h))
  item_free words s comparisons before at (headed (loop new a x st) i) in_scope e h =
      let both = parts_none (head_faults words s at (loop new a x st)) _ e in
      let head = head_elements (loop new a x st) in
      let t = inside words s new at in
      loop_free words s at new a x st (item_trees words t (at + width head) i)
      (head_free words s at new a x st in_scope both.0 (spell_front words at head (item_elements i) h))
      (item_free words t (comparisons + 0) before (at + width head) i
      (record { parameters = in_scope.parameters; declared = in_scope.declared }) both.1
      (spell_behind words at head (item_elements i) h))

  items_free : (words : Words) (s : Scope) (comparisons before at : ℕ) (is : Items) → IsUnreservedScope s
      → items_faults words s comparisons before at is ≡ [] → SpellFrom words at (all_elements is)
      → AreFree (all_trees words s at is)
  items_free words s comparisons before at none in_scope e h = tt
  items_free words s comparisons before at (more i is) in_scope e h =
      let both = parts_none (item_faults words s comparisons before at i) _ e in
      let place = at + width (item_elements i) in
      trees_append (item_trees words s at i) (all_trees words s place is)
      (item_free words s comparisons before at i in_scope both.0
      (spell_front words at (item_elements i) (all_elements is) h))
      (items_free words s comparisons (before + statements_in i) place is in_scope both.1
      (spell_behind words at (item_elements i) (all_elements is) h))

items_spelled : (words : Words) (k : Kernel) → SpellNames words (spelled (kernel_elements k))
    → SpellFrom words (items_at k) (all_elements k.items)
items_spelled words k spell =
    let first = parameter_elements k.first in
    let others = other_parameters k.others in
    let items = all_elements k.items ++ ends ∷ [] in
    let body = begins ∷ (declarations k.declared ++ items) in
    let header : SpellFrom words 3 (first ++ (others ++ body)) = λ i is.
    let same : suc (suc (suc i)) ≡ 3 + i = omega arith in
    subst (λ n. IsName (words.spelling n)) same (spell (suc (suc (suc i))) is) in
    let one = spell_behind words 3 first (others ++ body) header in
    let two = spell_behind words (others_at k) others body one in
    let inner = spell_behind words (others_at k + width others) (begins ∷ []) (declarations k.declared ++ items) two in
    let last = spell_behind words (declared_at k) (declarations k.declared) items inner in
    spell_front words (items_at k) (all_elements k.items) (ends ∷ []) last

-- each loop's iterator is fresh and free
wider : (names all : List Text) (w : Text) → ((v : Text) → In v names → In v all) → (v : Text)
    → In v (names ++ w ∷ []) → In v (all ++ w ∷ [])
wider names all w among v i = elim (in_append v names (w ∷ []) i) [
  | inl a ↦ in_front v all (w ∷ []) (among v a)
  | inr b ↦ in_back v all (w ∷ []) b
]

mutual
  takes_free : (names all : List Text) (t : scop.Tree) → ((v : Text) → In v names → In v all) → TakesFresh all t
      → EachIs IsFreeName t → TakesFree names t
  takes_free names all (scop.loop head body) among h free =
      let w = head.iterator in (
        free.0,
        (λ i. h.0 (among w i)),
        take_free (names ++ w ∷ []) (all ++ w ∷ []) body (wider names all w among) h.1 free.1,
      )
  takes_free names all (scop.guard tests body) among h free = take_free names all body among h free
  takes_free names all (scop.statement s) among h free = tt

  take_free : (names all : List Text) (ts : scop.Trees) → ((v : Text) → In v names → In v all) → TakeFresh all ts
      → AllAre IsFreeName ts → TakeFree names ts
  take_free names all scop.none among h free = tt
  take_free names all (scop.more t ts) among h free =
      (takes_free names all t among h.0 free.0, take_free names all ts among h.1 free.1)

-- the names of parameters stand in front of those of arrays
all_front : (P : Text → Type 0) (xs ys : List Text) → All P (xs ++ ys) → All P xs
all_front P [] ys all = All-nil P
all_front P (x ∷ xs) ys all =
    All-cons P x xs (All-head P x (xs ++ ys) all) (all_front P xs ys (All-tail P x (xs ++ ys) all))

distinct_front : (xs ys : List Text) → AreDistinct (xs ++ ys) → AreDistinct xs
distinct_front [] ys h = tt
distinct_front (x ∷ xs) ys h = ((λ y i. h.0 y (in_front y xs ys i)), distinct_front xs ys h.1)

-- the program of a kernel without faults has free names
pub has_free_names : (words : Words) (k : Kernel) → faults_of words k ≡ []
    → SpellNames words (spelled (kernel_elements k)) → HasDistinctNames (program_spelled words k)
    → All IsName (header_names (program_spelled words k)) → HasFreeNames (program_spelled words k)
has_free_names words k e spell distinct named =
    let parts = kernel_parts words k e in
    let unreserved = kernel_names words k e in
    let p = program_spelled words k in
    let arrays = map (λ (d : Declaration). d.name) p.arrays in
    let names = all_front IsName p.parameters arrays named in
    let free = items_free words (body_scope words k) 0 0 (items_at k) k.items parts.1 parts.2
    (items_spelled words k spell) in
    let Unreserved : Declaration → Type 0 = λ d. IsUnreserved d.name in
    record {
      name = unreserved.0;
      arrays = All-map Unreserved (declared_over (length p.parameters)) (arrays_of words k) unreserved.1;
      parameters = λ i d inside. (names i d inside, parts.0.parameters i d inside);
      distinct = distinct_front p.parameters arrays distinct.header;
      loops = take_free p.parameters (header_names p) p.body (λ v i. in_front v p.parameters arrays i) distinct.loops
          free;
    }
