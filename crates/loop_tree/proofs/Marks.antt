-- Turns and parallel loops of visits.
use Rattle.scop_syntax.proofs.Common.{◌≡◌, Bool, true, false, ℤ, List, [], ◌∷◌, ◌++◌, map, inl, inr, ap, subst, sym}
use Rattle.scop_syntax.proofs.Common.{refl, In, in_append, in_map_from, in_if_from}
use Rattle.loop_tree.specs.Tree.{Tree, loop, guard, instance, Trees, none, more}
use Rattle.loop_tree.specs.Walk.{lower, upper, all_hold, Visit, through, walk, walk_all}
use Rattle.loop_tree.specs.Scans.{key}
use Rattle.loop_tree.specs.Marks.{Shows, ShowsAll, Marks, MarksAll, marked}
use Rattle.loop_tree.proofs.Lists.{in_between_from}

mutual
  pub shows : (g : List ℤ → List ℤ) (t : Tree) (params outer : List ℤ) → Shows g t params outer
      → (v : Visit) → In v (walk t params outer) → v.turns ≡ g (key v)
  shows g (loop flag lo up body) params outer s v h =
      let r =
      in_between_from (λ x. map (through flag x) (walk_all body params (outer ++ x ∷ []))) v
      (lower lo (outer ++ params)) (upper up (outer ++ params)) h in
      let m = in_map_from (through flag r.0) v (walk_all body params (outer ++ r.0 ∷ [])) r.3 in
      subst (λ w. w.turns ≡ g (key w)) (sym m.2)
      (shows_all (λ q. g (r.0 ∷ q)) body params (outer ++ r.0 ∷ []) (s r.0 (r.1, r.2)) m.0 m.1)
  shows g (guard tests body) params outer s v h =
      let e = in_if_from (all_hold tests (outer ++ params)) v (walk_all body params outer) h in
      shows_all g body params outer (s e.0) v e.1
  shows g (instance n forms) params outer s v (inl e) = subst (λ w. w.turns ≡ g (key w)) (sym e) s
  shows g (instance n forms) params outer s v (inr h) = absurd h

  pub shows_all : (g : List ℤ → List ℤ) (ts : Trees) (params outer : List ℤ) → ShowsAll g ts params outer
      → (v : Visit) → In v (walk_all ts params outer) → v.turns ≡ g (key v)
  shows_all g none params outer s v h = absurd h
  shows_all g (more t ts) params outer s v h =
      elim (in_append v (walk t params outer) (walk_all ts params outer) h) [
        | inl k ↦ shows g t params outer s.0 v k
        | inr k ↦ shows_all g ts params outer s.1 v k
      ]

through_marked : (flag b : Bool) (bs : List Bool) (x : ℤ) (v : Visit) → flag ≡ b
    → v.parallel ≡ marked bs v.values
    → (through flag x v).parallel ≡ marked (b ∷ bs) (through flag x v).values
through_marked true true bs x v e h = ap (λ q. x ∷ q) h
through_marked false false bs x v e h = h
through_marked true false bs x v e h = absurd cc
through_marked false true bs x v e h = absurd cc

mutual
  pub marks : (bs : List Bool) (t : Tree) (params outer : List ℤ) → Marks bs t
      → (v : Visit) → In v (walk t params outer) → v.parallel ≡ marked bs v.values
  marks [] (loop flag lo up body) params outer s v h = absurd s
  marks (b ∷ bs) (loop flag lo up body) params outer s v h =
      let r =
      in_between_from (λ x. map (through flag x) (walk_all body params (outer ++ x ∷ []))) v
      (lower lo (outer ++ params)) (upper up (outer ++ params)) h in
      let m = in_map_from (through flag r.0) v (walk_all body params (outer ++ r.0 ∷ [])) r.3 in
      subst (λ w. w.parallel ≡ marked (b ∷ bs) w.values) (sym m.2)
      (through_marked flag b bs r.0 m.0 s.0 (marks_all bs body params (outer ++ r.0 ∷ []) s.1 m.0 m.1))
  marks bs (guard tests body) params outer s v h =
      let e = in_if_from (all_hold tests (outer ++ params)) v (walk_all body params outer) h in
      marks_all bs body params outer s v e.1
  marks [] (instance n forms) params outer s v (inl e) = subst (λ w. w.parallel ≡ marked [] w.values) (sym e) refl
  marks [] (instance n forms) params outer s v (inr h) = absurd h
  marks (b ∷ bs) (instance n forms) params outer s v h = absurd s

  pub marks_all : (bs : List Bool) (ts : Trees) (params outer : List ℤ) → MarksAll bs ts
      → (v : Visit) → In v (walk_all ts params outer) → v.parallel ≡ marked bs v.values
  marks_all bs none params outer s v h = absurd h
  marks_all bs (more t ts) params outer s v h =
      elim (in_append v (walk t params outer) (walk_all ts params outer) h) [
        | inl k ↦ marks bs t params outer s.0 v k
        | inr k ↦ marks_all bs ts params outer s.1 v k
      ]
