-- The marks of a program are the arrays that its statements only add to.
use Rattle.whole_numbers.proofs.Common.{◌≡◌, ◌≢◌, ℕ, zero, suc, ◌+◌, ◌<◌, Bool, true, false, ℤ, List, [], ◌∷◌, drop}
use Rattle.whole_numbers.proofs.Common.{Some, inl, inr, ◌⊎◌, sym, ap, subst, ◌∙◌, refl, arith, ◌↔◌, slice_get, nat_eq}
use Rattle.whole_numbers.proofs.Common.{if◌then◌else◌, eq-eqb, eqb-true, ne_eqb}
use Rattle.scop_syntax.specs.Tree.{Access, Right, assigned, combined, plus, minus, times, bits_and, bits_or, bits_xor}
use Rattle.scop_syntax.specs.Tree.{moved_left, moved_right, combined_narrow, moved_left_narrow, Statement}
use Rattle.scop_syntax.specs.Tree.{Declaration, Program}
use Rattle.scop_syntax.specs.Cells.{reads, reads_with}
use Rattle.scop_syntax.specs.Members.{In, Sorted}
use Rattle.scop_syntax.specs.Reductions.{AreMarked, IsReduced, IsSum, OnlyAdds, all_add, bodies, is_marked, is_reduced}
use Rattle.scop_syntax.specs.Reductions.{is_sum, is_written, loads, marks, marks_from, names, only_adds, reads_beside}
use Rattle.scop_syntax.specs.Statements.{Placed, Runs, statements_of, visit_of}
use Rattle.scop_syntax.specs.Walk.{Visit, walk_of}
use Rattle.scop_syntax.proofs.Members.{both, in_append, in_back, in_front, in_if, in_if_from, in_map}
use Rattle.scop_syntax.proofs.Members.{in_map_from, sorted_append}

-- ---- truths

neither : (a b : Bool) → (if a then false else b) ≡ true → (a ≡ false) × (b ≡ true)
neither true b h = absurd cc
neither false b h = (refl, h)

passed : (a b : Bool) → a ≡ false → b ≡ true → (if a then false else b) ≡ true
passed true b g h = absurd cc
passed false b g h = h

alike : (a b : Bool) → a ≡ true → b ≡ true → (if a then b else false) ≡ true
alike true b g h = h
alike false b g h = absurd cc

none_of : (a b : Bool) → (if a then true else b) ≡ false → (a ≡ false) × (b ≡ false)
none_of true b h = absurd cc
none_of false b h = (refl, h)

none_holds : (a b : Bool) → a ≡ false → b ≡ false → (if a then true else b) ≡ false
none_holds true b g h = absurd cc
none_holds false b g h = h

one_of : (a b : Bool) → (if a then true else b) ≡ true → (a ≡ true) ⊎ (b ≡ true)
one_of true b h = inl refl
one_of false b h = inr h

first_holds : (a b : Bool) → a ≡ true → (if a then true else b) ≡ true
first_holds true b h = refl
first_holds false b h = absurd cc

second_holds : (a b : Bool) → b ≡ true → (if a then true else b) ≡ true
second_holds true b h = refl
second_holds false b h = h

-- ---- one statement

unnamed : (a : ℕ) (gs : List Access) → names a gs ≡ false → (g : Access) → In g gs → g.array ≢ a
unnamed a [] h g there same = there
unnamed a (f ∷ gs) h g (inl is) same =
    let no = (none_of (nat_eq f.array a) (names a gs) h).0 in
    let yes = eq-eqb f.array a (sym (ap (λ (k : Access). k.array) is) ∙ same) in
    absurd cc
unnamed a (f ∷ gs) h g (inr there) same = unnamed a gs (none_of (nat_eq f.array a) (names a gs) h).1 g there same

none_named : (a : ℕ) (gs : List Access) → ((g : Access) → In g gs → g.array ≢ a) → names a gs ≡ false
none_named a [] h = refl
none_named a (f ∷ gs) h =
    none_holds (nat_eq f.array a) (names a gs) (ne_eqb f.array a (h f (inl refl)))
    (none_named a gs (λ g there. h g (inr there)))

sum_of : (right : Right) → is_sum right ≡ true → IsSum right
sum_of (assigned e) h = absurd cc
sum_of (combined plus e) h = tt
sum_of (combined minus e) h = tt
sum_of (combined times e) h = absurd cc
sum_of (combined bits_and e) h = absurd cc
sum_of (combined bits_or e) h = absurd cc
sum_of (combined bits_xor e) h = absurd cc
sum_of (moved_left k) h = absurd cc
sum_of (moved_right k) h = absurd cc
sum_of (combined_narrow op e) h = absurd cc
sum_of (moved_left_narrow k) h = absurd cc

is_sum_of : (right : Right) → IsSum right → is_sum right ≡ true
is_sum_of (assigned e) h = absurd h
is_sum_of (combined plus e) h = refl
is_sum_of (combined minus e) h = refl
is_sum_of (combined times e) h = absurd h
is_sum_of (combined bits_and e) h = absurd h
is_sum_of (combined bits_or e) h = absurd h
is_sum_of (combined bits_xor e) h = absurd h
is_sum_of (moved_left k) h = absurd h
is_sum_of (moved_right k) h = absurd h
is_sum_of (combined_narrow op e) h = absurd h
is_sum_of (moved_left_narrow k) h = absurd h

-- where the place is the array's the truth is that of the sum
sum_there : (b c : Bool) → b ≡ true → (if b then c else true) ≡ true → c ≡ true
sum_there true c e h = h
sum_there false c e h = absurd cc

sum_if : (a : ℕ) (s : Statement) → (s.place.array ≡ a → IsSum s.right) → (b : Bool) → nat_eq s.place.array a ≡ b
    → (if b then is_sum s.right else true) ≡ true
sum_if a s h true e = is_sum_of s.right (h (eqb-true s.place.array a e))
sum_if a s h false e = refl

adds_only : (a : ℕ) (s : Statement) → only_adds a s ≡ true → OnlyAdds a s
adds_only a s h =
    let parts = neither (names a (reads_beside s.right)) (if nat_eq s.place.array a then is_sum s.right else true) h in
    record {
      sum = λ same. sum_of s.right (sum_there (nat_eq s.place.array a) (is_sum s.right) (eq-eqb s.place.array a same) parts.1);
      beside = unnamed a (reads_beside s.right) parts.0;
    }

only_added : (a : ℕ) (s : Statement) → OnlyAdds a s → only_adds a s ≡ true
only_added a s h =
    passed (names a (reads_beside s.right)) (if nat_eq s.place.array a then is_sum s.right else true)
    (none_named a (reads_beside s.right) h.beside) (sum_if a s h.sum (nat_eq s.place.array a) refl)

-- ---- all statements

writer_in : (a : ℕ) (ss : List Statement) → is_written a ss ≡ true → (s : Statement) × In s ss × (s.place.array ≡ a)
writer_in a [] h = absurd cc
writer_in a (s ∷ ss) h = elim (one_of (nat_eq s.place.array a) (is_written a ss) h) [
  | inl here ↦ (s, inl refl, eqb-true s.place.array a here)
  | inr behind ↦ let w = writer_in a ss behind in (w.0, inr w.1, w.2)
]

written_in : (a : ℕ) (ss : List Statement) (s : Statement) → In s ss → s.place.array ≡ a → is_written a ss ≡ true
written_in a [] s there same = absurd there
written_in a (t ∷ ss) s (inl is) same =
    first_holds (nat_eq t.place.array a) (is_written a ss)
    (eq-eqb t.place.array a (sym (ap (λ (u : Statement). u.place.array) is) ∙ same))
written_in a (t ∷ ss) s (inr there) same =
    second_holds (nat_eq t.place.array a) (is_written a ss) (written_in a ss s there same)

each_adds : (a : ℕ) (ss : List Statement) → all_add a ss ≡ true → (s : Statement) → In s ss → OnlyAdds a s
each_adds a [] h s there = absurd there
each_adds a (t ∷ ss) h s (inl is) = subst (OnlyAdds a) (sym is) (adds_only a t (both (only_adds a t) (all_add a ss) h).0)
each_adds a (t ∷ ss) h s (inr there) = each_adds a ss (both (only_adds a t) (all_add a ss) h).1 s there

all_do : (a : ℕ) (ss : List Statement) → ((s : Statement) → In s ss → OnlyAdds a s) → all_add a ss ≡ true
all_do a [] h = refl
all_do a (t ∷ ss) h =
    alike (only_adds a t) (all_add a ss) (only_added a t (h t (inl refl))) (all_do a ss (λ s there. h s (inr there)))

-- ---- the list

-- the array of number a is one of these declarations, numbered from k on, and is reduced
record IsMark (ss : List Statement) (k : ℕ) (ds : List Declaration) (a : ℕ) : Type 0 where
  at : ℕ
  declaration : Declaration
  declared : slice_get ds at ≡ Some declaration
  number : a ≡ k + at
  reduced : is_reduced ss a declaration ≡ true

mark_from : (ss : List Statement) (k : ℕ) (ds : List Declaration) (a : ℕ) → In a (marks_from ss k ds) → IsMark ss k ds a
mark_from ss k [] a h = absurd h
mark_from ss k (d ∷ ds) a h =
    elim (in_append a (if is_reduced ss k d then k ∷ [] else []) (marks_from ss (k + 1) ds) h) [
      | inl here ↦
          let parts = in_if_from (is_reduced ss k d) a (k ∷ []) here in
          elim (parts.1) [
            | inl same ↦ record {
              at = 0;
              declaration = d;
              declared = refl;
              number = omega (arith, same);
              reduced = subst (λ (i : ℕ). is_reduced ss i d ≡ true) (sym same) parts.0;
            }
            | inr none ↦ absurd none
          ]
      | inr behind ↦
          let m = mark_from ss (k + 1) ds a behind in
          let is = m.number in
          record {
            at = suc m.at;
            declaration = m.declaration;
            declared = m.declared;
            number = omega (arith, is);
            reduced = m.reduced;
          }
    ]

mark_in : (ss : List Statement) (k : ℕ) (ds : List Declaration) (i : ℕ) (d : Declaration) → slice_get ds i ≡ Some d
    → is_reduced ss (k + i) d ≡ true → In (k + i) (marks_from ss k ds)
mark_in ss k [] i d h reduced = absurd cc
mark_in ss k (e ∷ ds) zero d h reduced =
    let same : k + 0 ≡ k = omega arith in
    let is : e ≡ d = cc in
    let here : is_reduced ss k e ≡ true = subst (λ (f : Declaration). is_reduced ss k f ≡ true) (sym is)
    (subst (λ (j : ℕ). is_reduced ss j d ≡ true) same reduced) in
    in_front (k + 0) (if is_reduced ss k e then k ∷ [] else []) (marks_from ss (k + 1) ds)
    (in_if (is_reduced ss k e) (k + 0) (k ∷ []) here (inl same))
mark_in ss k (e ∷ ds) (suc i) d h reduced =
    let same : k + 1 + i ≡ k + suc i = omega arith in
    in_back (k + suc i) (if is_reduced ss k e then k ∷ [] else []) (marks_from ss (k + 1) ds)
    (subst (λ (j : ℕ). In j (marks_from ss (k + 1) ds)) same
    (mark_in ss (k + 1) ds i d h (subst (λ (j : ℕ). is_reduced ss j d ≡ true) (sym same) reduced)))

first_sorted : (b : Bool) (k : ℕ) → Sorted (λ (a c : ℕ). a < c) (if b then k ∷ [] else [])
first_sorted true k = (λ y h. absurd h, tt)
first_sorted false k = tt

marks_rise : (ss : List Statement) (k : ℕ) (ds : List Declaration) → Sorted (λ (a b : ℕ). a < b) (marks_from ss k ds)
marks_rise ss k [] = tt
marks_rise ss k (d ∷ ds) =
    sorted_append (λ (a b : ℕ). a < b) (if is_reduced ss k d then k ∷ [] else []) (marks_from ss (k + 1) ds)
    (first_sorted (is_reduced ss k d) k) (marks_rise ss (k + 1) ds)
    (λ x y hx hy.
    let here = in_if_from (is_reduced ss k d) x (k ∷ []) hx in
    let m = mark_from ss (k + 1) ds y hy in
    let is = m.number in
    elim (here.1) [
      | inl same ↦ omega (arith, is, same)
      | inr none ↦ absurd none
    ])

-- ---- the law

pub mark_reduced : (program : Program) (a : ℕ) → In a (marks program) → IsReduced program a
mark_reduced program a h =
    let ss = bodies program in
    let m = mark_from ss 0 program.arrays a h in
    let full = neither m.declaration.narrow (if is_written a ss then all_add a ss else false) m.reduced in
    let parts = both (is_written a ss) (all_add a ss) full.1 in
    let w = writer_in a ss parts.0 in
    let p = in_map_from (λ (q : Placed). q.body) w.0 (statements_of program) w.1 in
    record {
      declaration = m.declaration;
      declared = let is = m.number in
          subst (λ (i : ℕ). slice_get program.arrays i ≡ Some m.declaration) (omega (arith, is)) m.declared;
      full = full.0;
      writer = p.0;
      among = p.1;
      writes = ap (λ (s : Statement). s.place.array) (sym p.2) ∙ w.2;
      adds = λ q there. each_adds a ss parts.1 q.body (in_map (λ (z : Placed). z.body) q (statements_of program) there);
    }

reduced_mark : (program : Program) (a : ℕ) → IsReduced program a → In a (marks program)
reduced_mark program a r =
    let ss = bodies program in
    let same : 0 + a ≡ a = omega arith in
    subst (λ (i : ℕ). In i (marks program)) same (mark_in ss 0 program.arrays a r.declaration r.declared
    (subst (λ (i : ℕ). is_reduced ss i r.declaration ≡ true) (sym same)
    (passed r.declaration.narrow (if is_written a ss then all_add a ss else false) r.full
    (alike (is_written a ss) (all_add a ss)
    (written_in a ss r.writer.body (in_map (λ (z : Placed). z.body) r.writer (statements_of program) r.among) r.writes)
    (all_do a ss (λ s there.
    let p = in_map_from (λ (q : Placed). q.body) s (statements_of program) there in
    subst (OnlyAdds a) (sym p.2) (r.adds p.0 p.1)))))))

pub marks_are_reduced : (program : Program) (a : ℕ) → In a (marks program) ↔ IsReduced program a
marks_are_reduced program a = (mark_reduced program a, reduced_mark program a)

pub marks_in_order : (program : Program) → Sorted (λ (a b : ℕ). a < b) (marks program)
marks_in_order program = marks_rise (bodies program) 0 program.arrays

-- a marked array is one of the list
marked_in : (ms : List ℕ) (a : ℕ) → is_marked ms a ≡ true → In a ms
marked_in [] a h = absurd cc
marked_in (m ∷ ms) a h = elim (one_of (nat_eq m a) (is_marked ms a) h) [
  | inl here ↦ inl (sym (eqb-true m a here))
  | inr behind ↦ inr (marked_in ms a behind)
]

-- what is read is the place, or stands beside it
reads_split : (place : Access) (right : Right) (g : Access) → In g (reads_with place right)
    → (g ≡ place) ⊎ In g (reads_beside right)
reads_split place (assigned e) g h = inr h
reads_split place (combined op e) g (inl same) = inl same
reads_split place (combined op e) g (inr h) = inr h
reads_split place (moved_left k) g (inl same) = inl same
reads_split place (moved_left k) g (inr none) = absurd none
reads_split place (moved_right k) g (inl same) = inl same
reads_split place (moved_right k) g (inr none) = absurd none
reads_split place (combined_narrow op e) g (inl same) = inl same
reads_split place (combined_narrow op e) g (inr h) = inr h
reads_split place (moved_left_narrow k) g (inl same) = inl same
reads_split place (moved_left_narrow k) g (inr none) = absurd none

-- a sum reads its place first
read_beside : (place : Access) (right : Right) (g : Access) → IsSum right → In g (drop 1 (reads_with place right))
    → In g (reads_beside right)
read_beside place (assigned e) g sum h = absurd sum
read_beside place (combined op e) g sum h = h
read_beside place (moved_left k) g sum h = absurd sum
read_beside place (moved_right k) g sum h = absurd sum
read_beside place (combined_narrow op e) g sum h = absurd sum
read_beside place (moved_left_narrow k) g sum h = absurd sum

-- nothing is loaded from an array to which a statement only adds
not_loaded : (ms : List ℕ) (s : Statement) (g : Access) → ((a : ℕ) → is_marked ms a ≡ true → OnlyAdds a s)
    → (b : Bool) → is_marked ms s.place.array ≡ b → In g (if b then drop 1 (reads s) else reads s)
    → is_marked ms g.array ≡ true → ⊥
not_loaded ms s g adds true own h marked =
    (adds g.array marked).beside g (read_beside s.place s.right g ((adds s.place.array own).sum refl) h) refl
not_loaded ms s g adds false own h marked = elim (reads_split s.place s.right g h) [
  | inl same ↦ let yes = subst (λ (k : Access). is_marked ms k.array ≡ true) same marked in absurd cc
  | inr beside ↦ (adds g.array marked).beside g beside refl
]

unmarked_load : (ms : List ℕ) (s : Statement) (g : Access) → ((a : ℕ) → is_marked ms a ≡ true → OnlyAdds a s)
    → In g (loads ms s) → (b : Bool) → is_marked ms g.array ≡ b → b ≡ false
unmarked_load ms s g adds h true e = absurd (not_loaded ms s g adds (is_marked ms s.place.array) refl h e)
unmarked_load ms s g adds h false e = refl

pub marks_hold : (program : Program) (params : List ℤ)
    → ((v : Visit) → In v (walk_of program params) → (p : Placed) × (xs : List ℤ) × In p (statements_of program)
    × Runs p.scopes params xs × (v ≡ visit_of p params xs)) → AreMarked (marks program) (walk_of program params)
marks_hold program params found =
    let adds : (v : Visit) → In v (walk_of program params) → (a : ℕ) → is_marked (marks program) a ≡ true
    → OnlyAdds a v.body =
    λ v there a h.
    let p = found v there in
    subst (λ (w : Visit). OnlyAdds a w.body) (sym p.4)
    ((mark_reduced program a (marked_in (marks program) a h)).adds p.0 p.2) in
    record {
      sums = λ v there h. (adds v there v.body.place.array h).sum refl;
      others = λ v g there loaded. unmarked_load (marks program) v.body g (adds v there) loaded
          (is_marked (marks program) g.array) refl;
    }

-- no array need be marked
pub none_marked : (visits : List Visit) → AreMarked [] visits
none_marked visits = record { sums = λ v i e. absurd cc; others = λ v a i h. refl }
