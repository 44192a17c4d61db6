-- Parallel loops of a tree are free of conflicts where no visits conflict whose values part at a marked loop.
use Rattle.scop_syntax.proofs.Common.{Bool, ℤ, List, [], ◌∷◌, ◌++◌, map, inl, inr, sym, ◌∙◌, refl, Instance, in_map}
use Rattle.scop_syntax.proofs.Common.{in_if, in_front, in_back}
use Rattle.loop_tree.specs.Tree.{Tree, loop, guard, instance, Trees, none, more}
use Rattle.loop_tree.specs.Walk.{Visit, lower, upper, all_hold, through, walk, walk_all}
use Rattle.loop_tree.specs.Marks.{Marks, MarksAll}
use Rattle.loop_tree.specs.Plans.{IsFree, AreFree}
use Rattle.loop_tree.specs.Shape.{IsSerial, AreSerial}
use Rattle.loop_tree.proofs.Lists.{in_between}
use Rattle.plan_tree.specs.steps.Parting.{NoneConflict}

mutual
  free : (C : Instance → Instance → Type 0) (bs : List Bool) (t : Tree) (params outer : List ℤ) → Marks bs t
      → NoneConflict C bs (walk t params outer) → IsFree C t params outer
  free C [] (loop flag lo up body) params outer m h = absurd m
  free C (b ∷ bs) (loop flag lo up body) params outer m h =
      let point = outer ++ params in
      let Body : ℤ → List Visit = λ x. walk_all body params (outer ++ x ∷ []) in
      let Through : ℤ → List Visit = λ x. map (through flag x) (Body x) in (
        λ on x y ix iy less v w iv iw. h (through flag x v) (through flag y w)
            (in_between Through (through flag x v) (lower lo point) (upper up point) x ix.0 ix.1
            (in_map (through flag x) v (Body x) iv))
            (in_between Through (through flag y w) (lower lo point) (upper up point) y iy.0 iy.1
            (in_map (through flag y) w (Body y) iw))
            (inl (sym m.0 ∙ on, less)),
        λ x ix. free_all C bs body params (outer ++ x ∷ []) m.1 (λ v w iv iw r. h (through flag x v) (through flag x w)
            (in_between Through (through flag x v) (lower lo point) (upper up point) x ix.0 ix.1
            (in_map (through flag x) v (Body x) iv))
            (in_between Through (through flag x w) (lower lo point) (upper up point) x ix.0 ix.1
            (in_map (through flag x) w (Body x) iw))
            (inr (refl, r))),
      )
  free C bs (guard tests body) params outer m h = λ on. free_all C bs body params outer m (λ v w iv iw.
      h v w (in_if (all_hold tests (outer ++ params)) v (walk_all body params outer) on iv)
      (in_if (all_hold tests (outer ++ params)) w (walk_all body params outer) on iw))
  free C bs (instance n forms) params outer m h = tt

  pub free_all : (C : Instance → Instance → Type 0) (bs : List Bool) (ts : Trees) (params outer : List ℤ)
      → MarksAll bs ts → NoneConflict C bs (walk_all ts params outer) → AreFree C ts params outer
  free_all C bs none params outer m h = tt
  free_all C bs (more t ts) params outer m h = (
    free C bs t params outer m.0 (λ v w iv iw.
        h v w (in_front v (walk t params outer) (walk_all ts params outer) iv)
        (in_front w (walk t params outer) (walk_all ts params outer) iw)),
    free_all C bs ts params outer m.1 (λ v w iv iw.
        h v w (in_back v (walk t params outer) (walk_all ts params outer) iv)
        (in_back w (walk t params outer) (walk_all ts params outer) iw)),
  )

mutual
  free_serial : (C : Instance → Instance → Type 0) (t : Tree) (params outer : List ℤ) → IsSerial t
      → IsFree C t params outer
  free_serial C (loop flag lo up body) params outer s = (
    λ on. absurd cc,
    λ x ix. serial_is_free C body params (outer ++ x ∷ []) s.1,
  )
  free_serial C (guard tests body) params outer s = λ on. serial_is_free C body params outer s
  free_serial C (instance n forms) params outer s = tt

  -- so are those of a tree that has none
  pub serial_is_free : (C : Instance → Instance → Type 0) (ts : Trees) (params outer : List ℤ) → AreSerial ts
      → AreFree C ts params outer
  serial_is_free C none params outer s = tt
  serial_is_free C (more t ts) params outer s =
      (free_serial C t params outer s.0, serial_is_free C ts params outer s.1)
