use Rattle.scop_syntax.proofs.Common.{◌≡◌, ◌∙◌, ◌++◌, ◌∷◌, List, [], ap, inl, refl, rules, subst, sym, In, instance_of}
use Rattle.scop_syntax.proofs.Common.{program_of, Instance, in_back}
use Rattle.std.proofs.lemmas.List.{append-nil, append_assoc}
use Rattle.loop_tree.specs.Plans.{walked}
use Rattle.loop_tree.specs.SpotView.{to_come}
use Rattle.loop_tree.specs.View.{trees_in}
use Rattle.expansions.specs.Expansions.{ArePlacesIn}
use Rattle.expansions.proofs.ListedEntries.{PlaceLaws, found_place, listed_same, none_placed, placed_more}
use Rattle.expansions.proofs.placing.place_rest.Goals as goal

pub loop-instance-init : goal.loop-instance-init
loop-instance-init c = record {
  spot = c.requires.spot;
  lists = c.requires.lists;
  placed = (
    [],
    c.requires.rest,
    none_placed (walked (program_of c.args.kernel.now) c.args.params.now) c.args.places.now.items c.requires.none,
  );
}

pub loop-instance-preserved : goal.loop-instance-preserved
loop-instance-preserved c =
    let program = program_of c.args.kernel.now in
    let params = c.args.params.now in
    let walk = walked program params in
    let x = instance_of c.in-Some.instance in
    let rest = to_come (trees_in c.args.tree.now) params c.next.new.self in
    let placed = c.loop-instance.invariant.placed in
    let laws : PlaceLaws = record {
      found = c.instances_are_those_of_statements.ensures.found;
      turns = c.instances_are_those_of_statements.ensures.turns;
      same = c.statements_are_numbered.ensures.same;
    } in
    let whole = ap (λ (xs : List Instance). placed.0 ++ xs) (sym c.in-Some.ensures.rest) ∙ placed.1 in
    let walks = c.requires.walked x (subst (λ xs. In x xs) whole (in_back x placed.0 (x ∷ rest) (inl refl))) in
    let put = c.in_ok-put_place.ensures.put in
    let at = found_place laws program params x c.loop-instance.lists.items put.place c.loop-instance.invariant.lists
    walks put.found in
    record {
      spot = c.in-Some.ensures.spot;
      lists = listed_same walk c.loop-instance.lists.items c.put_place.new.lists.items c.in_ok-put_place.ensures.same
          c.loop-instance.invariant.lists;
      placed = (
        placed.0 ++ x ∷ [],
        append_assoc placed.0 (x ∷ []) rest ∙ whole,
        subst (λ ps. ArePlacesIn walk (placed.0 ++ x ∷ []) ps) (sym put.put)
            (placed_more walk placed.0 c.loop-instance.places.items x put.place at placed.2),
      );
    }

pub returns : goal.returns
returns c =
    let all = to_come (trees_in c.args.tree.now) c.args.params.now c.loop-instance.spot in
    let none : all ≡ [] = search rules in
    let placed = c.loop-instance.invariant.placed in
    subst (λ xs. ArePlacesIn (walked (program_of c.args.kernel.now) c.args.params.now) xs c.loop-instance.places.items)
    (sym (append-nil placed.0) ∙ (ap (λ (xs : List Instance). placed.0 ++ xs) (sym none) ∙ placed.1)) placed.2
