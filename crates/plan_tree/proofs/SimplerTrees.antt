-- Trees of a plan with less in them are trees of the plan.
use Rattle.scop_syntax.proofs.Common.{◌≡◌, ◌∙◌, ℕ, ℤ, List, [], ◌∷◌, length, map, refl, sym, ap, subst, In, Program}
use Rattle.scop_syntax.proofs.Common.{in_map, in_map_from}
use Rattle.loop_tree.specs.Plans.{AreInOrder, AreMarked, first_coordinate}
use Rattle.loop_tree.specs.Tiling.{Tiling, kept, tiled, items_at}
use Rattle.loop_tree.specs.Tree.{Trees}
use Rattle.loop_tree.specs.Walk.{Visit, given, visits, walk_all}
use Rattle.tree_simplification.specs.Simplified.{Simplifies, shown, shows}
use Rattle.planned_trees.specs.Trees.{AreTreesOf}

-- what a visit shows gives its instance
given_shown : (vs : List Visit) → map given (map shown vs) ≡ map given vs
given_shown [] = refl
given_shown (v ∷ vs) = ap (λ is. given v ∷ is) (given_shown vs)

-- trees that show the same visit the same instances
same_visits : (params : List ℤ) (ts us : Trees) → shows us params ≡ shows ts params
    → visits us params ≡ visits ts params
same_visits params ts us same =
    sym (given_shown (walk_all us params [])) ∙ (ap (map given) same ∙ given_shown (walk_all ts params []))

-- and stand in the same parallel loops
same_marks : (p : ℕ) (params : List ℤ) (plan : Tiling) (ts us : Trees) → shows us params ≡ shows ts params
    → Simplifies p ts us → AreMarked plan ts params → AreMarked plan us params
same_marks p params kept ts us same h m = h.serial m
same_marks p params (tiled size statements) ts us same h m = (
  (λ rows v i.
      let k = in_map_from shown (shown v) (walk_all ts params [])
      (subst (In (shown v)) same (in_map shown v (walk_all us params []) i)) in
      let is = k.2 in
      ap (λ (w : Visit). w.parallel) is ∙ (m.0 rows k.0 k.1
      ∙ sym (ap (λ (w : Visit). first_coordinate size (items_at statements w.number).band w.turns) is))),
  (λ none. h.serial (m.1 none)),
)

pub simpler : (program : Program) (marked : List ℕ) (plan : Tiling) (ts us : Trees)
    → AreTreesOf program marked plan ts → Simplifies (length program.parameters) ts us
    → AreTreesOf program marked plan us
simpler program marked plan ts us a h =
    record {
      flat = h.flat a.flat;
      statements = h.statements program a.statements;
      over = h.over;
      small = h.small;
      nested = (a.nested.0, a.nested.1, h.nested a.nested.0 a.nested.2);
      even = a.even;
      fits = λ params has. h.fits params has.count has.parameters;
      carry_out = λ params has.
          let c = a.carry_out params has in
          let same = h.shown params has.count has.parameters in
          record {
            good = c.good;
            exact = subst (AreInOrder program params plan) (sym (same_visits params ts us same)) c.exact;
            free = λ none. h.free program params has.count has.parameters (c.free none);
            marked = same_marks (length program.parameters) params plan ts us same h c.marked;
          };
    }
