-- A candidate's answer names the wanted one of its places.
use Rattle.dataflow.proofs.Common.{◌≡◌, ℕ, ◌≤◌, ℤ, List, [], ◌∷◌, length, Option, Some, None, inl, inr, ◌⊎◌, ap, ap₂}
use Rattle.dataflow.proofs.Common.{subst, sym, ◌∙◌, refl, arith, slice_get, LexLess, LexLe, In, Visit, Cell}
use Rattle.dataflow.proofs.Common.{last_writer, next_writer, last_is, next_is, nat_cases, Tree, Speaks, source_of, Leaf}
use Rattle.dataflow.proofs.Common.{found, value, AtMost, IsBest, better, answer, Names, IsOrdered, join, TurnsAtMost}
use Rattle.dataflow.proofs.Common.{IsAmong, IsWanted, Writes, Finds, joined, join-speaks}
use Rattle.scop_syntax.proofs.Common.{LexLess-irrefl, none_writes}
use Rattle.whole_numbers.proofs.Lexicographic.{LexLess-from_le}
use Rattle.quast_trees.specs.Leaf.{initial}
use Rattle.scop_syntax.proofs.Writers.{none_behind}
use Rattle.quast_joins.specs.declared.way.Way.{Way}
use Rattle.quast_joins.specs.declared.way.Way.TheVariants.{Later, Earlier}
use Rattle.scop_syntax.proofs.Order.{own_order}
use Rattle.dataflow.proofs.Choices.{chosen_names, best_of_two}
use Rattle.quast_joins.proofs.Values.{join-value}

not_both : (xs ys : List ℤ) → LexLess xs ys → LexLe ys xs → ⊥
not_both xs ys h k = LexLess-irrefl xs (LexLess-from_le xs ys xs h k)

place_at_most : (way : Way) (visits : List Visit) → IsOrdered visits → (i k : ℕ) (v w : Visit)
    → slice_get visits i ≡ Some v → slice_get visits k ≡ Some w
    → v.number ≡ w.number → v.loops ≡ w.loops → TurnsAtMost way v.turns w.turns → AtMost way i k
place_at_most Later visits o i k v w a b number loops h =
    nat_cases i k
    (λ less. omega arith)
    (λ same. omega arith)
    (λ large. absurd (not_both w.turns v.turns (own_order w v (o.loops k w b) (o.loops i v a) (sym number) (sym loops)
    (o.order k i w v b a large)) h))
place_at_most Earlier visits o i k v w a b number loops h =
    nat_cases i k
    (λ less. absurd (not_both v.turns w.turns (own_order v w (o.loops i v a) (o.loops k w b) number loops
    (o.order i k v w a b less)) h))
    (λ same. omega arith)
    (λ large. omega arith)

-- a candidate: the greatest or least turns of one statement are those of its last or first place
pub candidate_finds : (way : Way) (visits : List Visit) (number : ℕ) (loops : List ℕ) (Q : List ℤ → Type 0) (l : Leaf)
    → IsOrdered visits
    → ((k : ℕ) (v : Visit) → slice_get visits k ≡ Some v → v.number ≡ number → v.loops ≡ loops)
    → ((xs : List ℤ) → Q xs → (k : ℕ) × (v : Visit) × (slice_get visits k ≡ Some v) × (v.number ≡ number) ×
    (v.turns ≡ xs))
    → IsWanted way number loops Q l → Finds way visits (IsAmong visits number Q) l
candidate_finds way visits number loops Q initial order own stands wanted = (None, refl, λ k h. wanted h.0.turns h.3)
candidate_finds way visits number loops Q (found o xs) order own stands wanted =
    let r = stands xs wanted.1 in
    let k = r.0 in
    let v = r.1 in
    let got : slice_get visits k ≡ Some v = r.2 in
    let number_is : v.number ≡ number = r.3 in
    let turns : v.turns ≡ xs = r.4 in
    let its : v.loops ≡ loops = own k v got number_is in
    let named : found o xs ≡ answer v =
    ap₂ (λ p us. found p us) (wanted.0 ∙ ap₂ (λ (n : ℕ) (ls : List ℕ). Some (source_of n ls)) (sym number_is)
    (sym its)) (sym turns) in (
      Some k,
      (v, got, named),
      (
        (v, got, number_is, subst Q (sym turns) wanted.1),
        λ i h. place_at_most way visits order i k h.0 v h.1 got (h.2 ∙ sym number_is) (own i h.0 h.1 h.2 ∙ sym its)
            (subst (TurnsAtMost way h.0.turns) (sym turns) (wanted.2 h.0.turns h.3)),
      ),
    )

-- joined candidates find the wanted place of all
pub join_finds : (way : Way) (visits : List Visit) (n : ℕ) (point : List ℤ) (P Q : ℕ → Type 0) (a b : Tree)
    → IsOrdered visits → length point ≡ n → Speaks n a
    → Finds way visits P (value a point) → Finds way visits Q (value b point)
    → Finds way visits (λ k. P k ⊎ Q k) (value (join way n a b) point)
join_finds way visits n point P Q a b order h s f g = (
  better way f.0 g.0,
  subst (λ l. Names visits l (better way f.0 g.0)) (sym (join-value way n a b point h s))
      (chosen_names way visits (value a point) (value b point) f.0 g.0 order f.1 g.1),
  best_of_two way P Q f.0 g.0 f.2 g.2,
)

same_best : (way : Way) (P Q : ℕ → Type 0) (o : Option ℕ) → ((k : ℕ) → P k → Q k) → ((k : ℕ) → Q k → P k)
    → IsBest way P o → IsBest way Q o
same_best way P Q None to of b = λ k q. b k (of k q)
same_best way P Q (Some i) to of b = (to i b.0, λ k q. b.1 k (of k q))

pub same_finds : (way : Way) (visits : List Visit) (P Q : ℕ → Type 0) (l : Leaf) → ((k : ℕ) → P k → Q k)
    → ((k : ℕ) → Q k → P k) → Finds way visits P l → Finds way visits Q l
same_finds way visits P Q l to of f = (f.0, f.1, same_best way P Q f.0 to of f.2)

pub joined_finds : (way : Way) (visits : List Visit) (n : ℕ) (point : List ℤ) (C : Type 0) (tree_of : C → Tree)
    (P : C → ℕ → Type 0) (cs : List C) (P0 : ℕ → Type 0) (acc : Tree)
    → IsOrdered visits → length point ≡ n → Speaks n acc → Finds way visits P0 (value acc point)
    → ((c : C) → In c cs → Speaks n (tree_of c) × Finds way visits (P c) (value (tree_of c) point))
    → Finds way visits (λ k. P0 k ⊎ ((c : C) × In c cs × P c k)) (value (joined way n tree_of acc cs) point)
joined_finds way visits n point C tree_of P [] P0 acc order h s f each =
    same_finds way visits P0 (λ k. P0 k ⊎ ((c : C) × In c [] × P c k)) (value acc point) (λ k p. inl p)
    (λ k q. elim q [ inl p ↦ p | inr r ↦ absurd r.1 ]) f
joined_finds way visits n point C tree_of P (c ∷ cs) P0 acc order h s f each =
    let own = each c (inl refl) in
    let now = join_finds way visits n point P0 (P c) acc (tree_of c) order h s f own.1 in
    let rest = joined_finds way visits n point C tree_of P cs (λ k. P0 k ⊎ P c k) (join way n acc (tree_of c)) order h
    (join-speaks way n acc (tree_of c) s own.0) now (λ d i. each d (inr i)) in
    same_finds way visits (λ k. (P0 k ⊎ P c k) ⊎ ((d : C) × In d cs × P d k))
    (λ k. P0 k ⊎ ((d : C) × In d (c ∷ cs) × P d k)) (value (joined way n tree_of acc (c ∷ cs)) point)
    (λ k q. elim q [
      | inl p ↦ elim p [ inl a ↦ inl a | inr b ↦ inr (c, inl refl, b) ]
      | inr r ↦ inr (r.0, inr r.1, r.2)
    ])
    (λ k q. elim q [
      | inl a ↦ inl (inl a)
      | inr r ↦ elim (r.1) [ inl e ↦ inl (inr (subst (λ d. P d k) e r.2)) | inr i ↦ inr (r.0, i, r.2) ]
    ]) rest

-- the wanted one of all Earlier writers is the last writer, of all Later ones the next
last_best : (visits : List Visit) (j : ℕ) (c : Cell) (o u : Option ℕ) → last_writer visits j c ≡ u
    → IsBest Later (Writes Later visits j c) o → o ≡ u
last_best visits j c None None e b = refl
last_best visits j c None (Some m) e b = let l = last_is visits j c m e in absurd (b m (l.before, l.wrote))
last_best visits j c (Some i) None e b = let f = none_writes visits j c e i b.0.0 in let g = b.0.1 in absurd cc
last_best visits j c (Some i) (Some m) e b =
    let l = last_is visits j c m e in
    let up : m ≤ i = b.1 m (l.before, l.wrote) in
    nat_cases i m
    (λ less. absurd (omega arith))
    (λ same. ap Some same)
    (λ large. let f = l.latest i large b.0.0 in let g = b.0.1 in absurd cc)

next_best : (visits : List Visit) (j : ℕ) (c : Cell) (o u : Option ℕ) → next_writer visits j c ≡ u
    → IsBest Earlier (Writes Earlier visits j c) o → o ≡ u
next_best visits j c None None e b = refl
next_best visits j c None (Some m) e b = let l = next_is visits j c m e in absurd (b m (l.behind, l.wrote))
next_best visits j c (Some i) None e b = let f = none_behind visits j c e i b.0.0 in let g = b.0.1 in absurd cc
next_best visits j c (Some i) (Some m) e b =
    let l = next_is visits j c m e in
    let up : i ≤ m = b.1 m (l.behind, l.wrote) in
    nat_cases i m
    (λ less. let f = l.soonest i b.0.0 less in let g = b.0.1 in absurd cc)
    (λ same. ap Some same)
    (λ large. absurd (omega arith))

pub finds_last : (visits : List Visit) (j : ℕ) (c : Cell) (l : Leaf) → Finds Later visits (Writes Later visits j c) l
    → Names visits l (last_writer visits j c)
finds_last visits j c l f = subst (Names visits l) (last_best visits j c f.0 (last_writer visits j c) refl f.2) f.1

pub finds_next : (visits : List Visit) (j : ℕ) (c : Cell) (l : Leaf)
    → Finds Earlier visits (Writes Earlier visits j c) l → Names visits l (next_writer visits j c)
finds_next visits j c l f = subst (Names visits l) (next_best visits j c f.0 (next_writer visits j c) refl f.2) f.1
