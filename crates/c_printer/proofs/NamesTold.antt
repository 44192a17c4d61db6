-- Distinct words that do not begin with `pp_` are told apart from the iterators of emitted loops.
use Rattle.scop_syntax.proofs.Common.{◌≡◌, ◌∙◌, ap, sym, subst, refl, ℕ, zero, suc, ◌+◌, ◌^◌, ◌<◌, ◌≤◌, List, []}
use Rattle.scop_syntax.proofs.Common.{◌∷◌, ◌++◌, pos, decimal, length, inl, inr, append-nil, arith, ℤ, negsuc, ◌≢◌, ◌⊎◌}
use Rattle.scop_syntax.proofs.Common.{◌≤ℤ◌, ⊤, codes, slice_get, unsigned_abs, Option, Some, None}
use Rattle.scop_syntax.proofs.Common.{decimal_injective, ints, length-map, none-some, IsKernel}
use Rattle.scop_syntax.proofs.Common.{IsHead, IsTree, AreTrees, own, ranks_of, Placed, placed_all, in_guard_of, Head}
use Rattle.scop_syntax.proofs.Common.{Tree, loop, guard, statement, Trees, none, more, Program, length-placed, Standing}
use Rattle.scop_syntax.proofs.Common.{standing, heads_in, standings_of}
use Rattle.std.proofs.lemmas.List.{append_assoc, length-append}
use Rattle.scop_lexer.specs.Bytes.{Text}
use Rattle.form_text.specs.Names.{AreNameBytes, IsVariableName, IsFresh, AreNames}
use Rattle.form_text.specs.Reading.{strip}
use Rattle.form_text.proofs.Names.{fresh_append, numeral_bytes}
use Rattle.form_text.proofs.Numerals.{decimal_is_numeral}
use Rattle.c_printer.specs.Forms.{loop_name, loop_names}
use Rattle.scop_syntax.specs.steps.Gathered.{gathered, gathered_all}
use Rattle.c_printer.specs.Naming.{iterators_of, IsFree, AreFree, TakesWords, TakeWords, HasWords}
use Rattle.c_printer.specs.Printable.{IsStart, AreHeads, IsNamed}
use Rattle.c_printer.proofs.FormsOver.{at_most_is_narrow, at_most_are_narrow}
use Rattle.scop_syntax.proofs.GatheredStatements.{program_gathered}
use Rattle.c_printer.proofs.InstancesRead.{names_front}

-- names of emitted loops
decimal_bytes : (n : ℕ) → n < 10 ^ 64 → AreNameBytes (decimal n)
decimal_bytes n h = subst AreNameBytes (sym (decimal_is_numeral n h)) (numeral_bytes n)

loop_is_name : (d : ℕ) → d < 2 ^ 63 → IsVariableName (loop_name d)
loop_is_name d h = (refl, (refl, (refl, decimal_bytes (suc d) (omega (arith, h)))))

-- bytes behind `pp_`
abbrev behind_front : Text → Text
behind_front [] = []
behind_front (a ∷ []) = []
behind_front (a ∷ b ∷ []) = []
behind_front (a ∷ b ∷ c ∷ rest) = rest

loops_differ : (k d : ℕ) → k < d → d < 2 ^ 63 → loop_name k ≢ loop_name d
loops_differ k d less low e =
    let same : suc k ≡ suc d = decimal_injective (suc k) (suc d) (omega (arith, low, less)) (omega (arith, low))
    (ap behind_front e) in
    omega (arith, same, less)

free_differs : (name : Text) (d : ℕ) → IsFree name → name ≢ loop_name d
free_differs name d f e = none-some (decimal (suc d)) (sym f ∙ ap (strip (codes "pp_")) e)

-- names apart from others
abbrev Apart : List Text → List Text → Type 0
Apart [] ys = ⊤
Apart (x ∷ xs) ys = IsFresh x ys × Apart xs ys

fresh_back : (x : Text) (xs ys : List Text) → IsFresh x (xs ++ ys) → IsFresh x ys
fresh_back x [] ys h = h
fresh_back x (y ∷ xs) ys h = fresh_back x xs ys h.1

apart_append : (xs ys zs : List Text) → Apart xs zs → Apart ys zs → Apart (xs ++ ys) zs
apart_append [] ys zs h g = g
apart_append (x ∷ xs) ys zs h g = (h.0, apart_append xs ys zs h.1 g)

join : (xs ys : List Text) → AreNames xs → AreNames ys → Apart xs ys → AreNames (xs ++ ys)
join [] ys h g a = g
join (x ∷ xs) ys h g a = (h.0, fresh_append x xs ys h.1 a.0, join xs ys h.2 g a.1)

names_back : (xs ys : List Text) → AreNames (xs ++ ys) → AreNames ys
names_back [] ys h = h
names_back (x ∷ xs) ys h = names_back xs ys h.2

names_apart : (xs ys : List Text) → AreNames (xs ++ ys) → Apart xs ys
names_apart [] ys h = tt
names_apart (x ∷ xs) ys h = (fresh_back x xs ys h.1, names_apart xs ys h.2)

free_is_fresh : (name : Text) (d : ℕ) → IsFree name → IsFresh name (loop_names d)
free_is_fresh name zero f = tt
free_is_fresh name (suc d) f =
    fresh_append name (loop_names d) (loop_name d ∷ []) (free_is_fresh name d f) (free_differs name d f, tt)

free_apart : (names : List Text) (d : ℕ) → AreFree names → Apart names (loop_names d)
free_apart [] d f = tt
free_apart (name ∷ names) d f = (free_is_fresh name d f.0, free_apart names d f.1)

loop_is_fresh : (d : ℕ) (names : List Text) → AreFree names → IsFresh (loop_name d) names
loop_is_fresh d [] f = tt
loop_is_fresh d (name ∷ names) f = ((λ e. free_differs name d f.0 (sym e)), loop_is_fresh d names f.1)

loops_apart : (d : ℕ) (names : List Text) → AreFree names → Apart (loop_names d) names
loops_apart zero names f = tt
loops_apart (suc d) names f =
    apart_append (loop_names d) (loop_name d ∷ []) names (loops_apart d names f) (loop_is_fresh d names f, tt)

outer_apart : (n d : ℕ) → n ≤ d → d < 2 ^ 63 → Apart (loop_names n) (loop_name d ∷ [])
outer_apart zero d l h = tt
outer_apart (suc n) d l h =
    apart_append (loop_names n) (loop_name n ∷ []) (loop_name d ∷ []) (outer_apart n d (omega (arith, l)) h)
    ((loops_differ n d (omega (arith, l)) h, tt), tt)

loops_are_names : (d : ℕ) → d ≤ 2 ^ 63 → AreNames (loop_names d)
loops_are_names zero h = tt
loops_are_names (suc d) h =
    join (loop_names d) (loop_name d ∷ []) (loops_are_names d (omega (arith, h)))
    (loop_is_name d (omega (arith, h)), tt, tt) (outer_apart d d (omega arith) (omega (arith, h)))

-- a property of each element
abbrev Each : {A : Type 0} → (A → Type 0) → List A → Type 0
Each P [] = ⊤
Each P (x ∷ xs) = P x × Each P xs

each_append : {A : Type 0} (P : A → Type 0) (xs ys : List A) → Each P xs → Each P ys → Each P (xs ++ ys)
each_append P [] ys h g = g
each_append P (x ∷ xs) ys h g = (h.0, each_append P xs ys h.1 g)

each_at : (P : Standing → Type 0) (xs : List Standing) (n : ℕ) (s : Standing) → Each P xs → slice_get xs n ≡ Some s
    → P s
each_at P [] n s h e = absurd (let p : ◌≡◌ {A = Option Standing} None (Some s) = e in cc)
each_at P (x ∷ xs) zero s h e = let same : x ≡ s = cc in subst P same h.0
each_at P (x ∷ xs) (suc n) s h e = each_at P xs n s h.1 e

-- what is known of the loops round a statement
record Round (parameters : List Text) (heads : List Head) : Type 0 where
  names : AreNames (parameters ++ iterators_of heads)
  free : AreFree (iterators_of heads)
  are : AreHeads (length parameters) heads

free_append : (xs ys : List Text) → AreFree xs → AreFree ys → AreFree (xs ++ ys)
free_append [] ys h g = g
free_append (x ∷ xs) ys h g = (h.0, free_append xs ys h.1 g)

iterators_append : (hs gs : List Head) → iterators_of (hs ++ gs) ≡ iterators_of hs ++ iterators_of gs
iterators_append [] gs = refl
iterators_append (h ∷ hs) gs = ap (λ (ts : List Text). h.iterator ∷ ts) (iterators_append hs gs)

heads_append : (n : ℕ) (hs : List Head) (head : Head) → AreHeads n hs → IsStart (n + length hs) head
    → AreHeads n (hs ++ (head ∷ []))
heads_append n [] head h s = (subst (λ k. IsStart k head) (omega arith) s, tt)
heads_append n (x ∷ hs) head h s =
    (h.0, heads_append (suc n) hs head h.1 (subst (λ k. IsStart k head) (omega arith) s))

not_zero : (s : ℤ) (n : ℕ) (head : Head)
    → ((own n head ≡ negsuc 0) × (pos 1 ≤ℤ s)) ⊎ ((own n head ≡ pos 1) × (s ≤ℤ negsuc 0))
    → 1 ≤ unsigned_abs s
not_zero (pos zero) n head (inl h) = let l = h.1 in absurd (omega (arith, ints, l))
not_zero (pos zero) n head (inr h) = let l = h.1 in absurd (omega (arith, ints, l))
not_zero (pos (suc d)) n head h = omega arith
not_zero (negsuc d) n head h = omega arith

fresh_is_apart : (xs : List Text) (x : Text) → IsFresh x xs → Apart xs (x ∷ [])
fresh_is_apart [] x h = tt
fresh_is_apart (y ∷ xs) x h = (((λ e. h.0 (sym e)), tt), fresh_is_apart xs x h.1)

-- a loop of a kernel
start_of : (n : ℕ) (head : Head) → IsHead n head → IsStart n head
start_of n head is =
    let constant = at_most_is_narrow head.first.constant (2 ^ 20) is.first.constant (omega arith) in
    let all = at_most_are_narrow head.first.coefficients 16 is.first.coefficients (omega arith) in
    record {
      entries = is.first.entries;
      narrow = rw constant all;
      stride = at_most_is_narrow head.stride 16 is.stride (omega arith);
      some = not_zero head.stride n head is.direction;
    }

-- within one loop more
round_more : (parameters : List Text) (heads : List Head) (head : Head) → Round parameters heads
    → IsHead (length parameters + length heads) head → IsVariableName head.iterator → IsFree head.iterator
    → IsFresh head.iterator (parameters ++ iterators_of heads) → Round parameters (heads ++ (head ∷ []))
round_more parameters heads head r is w f fresh =
    let more = iterators_append heads (head ∷ []) in
    let before = parameters ++ iterators_of heads in
    record {
      names = subst (λ (ts : List Text). AreNames (parameters ++ ts)) (sym more)
          (subst AreNames (append_assoc parameters (iterators_of heads) (head.iterator ∷ []))
          (join before (head.iterator ∷ []) r.names (w, tt, tt) (fresh_is_apart before head.iterator fresh)));
      free = subst AreFree (sym more) (free_append (iterators_of heads) (head.iterator ∷ []) r.free (f, tt));
      are = heads_append (length parameters) heads head r.are (start_of (length parameters + length heads) head is);
    }

-- what is known of each statement
abbrev Told : List Text → Standing → Type 0
Told parameters s = Round parameters s.heads

mutual
  told : (parameters : List Text) (ranks : List ℕ) (heads : List Head) (n loops comparisons : ℕ) (t : Tree)
      → n ≡ length parameters + length heads → Round parameters heads
      → TakesWords (parameters ++ iterators_of heads) t → IsTree ranks n loops comparisons t
      → Each (Told parameters) (gathered heads t)
  told parameters ranks heads n loops comparisons (loop head body) e r w is =
      let inner = heads ++ (head ∷ []) in
      let l = length-append heads (head ∷ []) in
      let names : (parameters ++ iterators_of heads) ++ (head.iterator ∷ []) ≡ parameters ++ iterators_of inner =
      append_assoc parameters (iterators_of heads) (head.iterator ∷ [])
      ∙ ap (λ (ts : List Text). parameters ++ ts) (sym (iterators_append heads (head ∷ []))) in
      told_all parameters ranks inner (n + 1) _ comparisons body (omega (arith, e, l))
      (round_more parameters heads head r (subst (λ k. IsHead k head) e is.1) w.0 w.1 w.2)
      (subst (λ (ts : List Text). TakeWords ts body) names w.3) is.3
  told parameters ranks heads n loops comparisons (guard tests body) e r w is =
      told_all parameters ranks heads n loops _ body e r w is.4
  told parameters ranks heads n loops comparisons (statement s) e r w is = (r, tt)

  told_all : (parameters : List Text) (ranks : List ℕ) (heads : List Head) (n loops comparisons : ℕ) (ts : Trees)
      → n ≡ length parameters + length heads → Round parameters heads
      → TakeWords (parameters ++ iterators_of heads) ts → AreTrees ranks n loops comparisons ts
      → Each (Told parameters) (gathered_all heads ts)
  told_all parameters ranks heads n loops comparisons none e r w is = tt
  told_all parameters ranks heads n loops comparisons (more t ts) e r w is =
      each_append (Told parameters) (gathered heads t) (gathered_all heads ts)
      (told parameters ranks heads n loops comparisons t e r w.0 is.0)
      (told_all parameters ranks heads n loops comparisons ts e r w.1 is.1)

-- the loops' names between the parameters and the source iterators
between_names : (ps qs : List Text) (d : ℕ) → d ≤ 2 ^ 63 → AreNames (ps ++ qs) → AreFree ps → AreFree qs
    → AreNames ((ps ++ loop_names d) ++ qs)
between_names ps qs d h n f g =
    join (ps ++ loop_names d) qs
    (join ps (loop_names d) (names_front ps qs n) (loops_are_names d h) (free_apart ps d f)) (names_back ps qs n)
    (apart_append ps (loop_names d) qs (names_apart ps qs n) (loops_apart d qs g))

-- distinct words that do not begin with `pp_` are told apart
pub names_told : (program : Program) → IsKernel program → HasWords program → IsNamed program
names_told program is w =
    let p = program.parameters in
    let e : p ++ [] ≡ p = append-nil p in
    let zero_more : length p ≡ length p + 0 = omega arith in
    let all = told_all p (ranks_of program) [] (length p) 5 16 program.body zero_more
    (record { names = subst AreNames (sym e) w.names; free = tt; are = tt })
    (subst (λ (ts : List Text). TakeWords ts program.body) (sym e) w.loops) is.body in
    let every : Each (Told p) (standings_of program) = subst (Each (Told p)) (program_gathered program) all in
    let count = length-placed (guard [] program.body) 0 in
    let first = length-map (placed_all program.body 0) (in_guard_of []) in
    let second = length-map (placed_all program.body 0) (λ (q : Placed). standing (heads_in q.scopes) q.body) in
    record {
      few = (let f = is.few_statements in omega (arith, count, first, second, f));
      loops = λ d h. join p (loop_names d) w.names (loops_are_names d h) (free_apart p d w.free);
      statements = λ d n s h at. let r = each_at (Told p) (standings_of program) n s every at in
          between_names p (iterators_of s.heads) d h r.names w.free r.free;
      heads = λ n s at. (each_at (Told p) (standings_of program) n s every at).are;
    }
