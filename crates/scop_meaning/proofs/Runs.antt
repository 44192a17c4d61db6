-- What stays true along the items of a row and along the turns of a loop, as they run.
use Rattle.scop_syntax.proofs.Common.{◌≡◌, ℕ, suc, ◌+◌, ◌-◌, ◌<◌, List, [], ◌++◌, length, drop, ap, subst, sym, ◌∙◌}
use Rattle.scop_syntax.proofs.Common.{refl, arith, append-nil, ℤ, pos, flat_map, range_with_len, Statement, Head, Tree}
use Rattle.scop_syntax.proofs.Common.{loop, statement, Trees, none, more, items_of, condition_at, turn_point, RunsFor}
use Rattle.scop_syntax.proofs.Common.{Act, acts_all, accesses, IsHead, in_front, in_back, condition_falls, loop_turns}
use Rattle.scop_syntax.proofs.Common.{inl}
use Rattle.std.proofs.lemmas.List.Sums.{fold-append}
use Rattle.scop_syntax.specs.declared.tree.Item.{Item}
use Rattle.scop_syntax.specs.Acts.{acts}
use Rattle.scop_syntax.specs.Execution.{performed_by}
use Rattle.scop_meaning.specs.steps.Conditions.{ActsAreInside, AreCells, CanRun, IsReady, ran}
use Rattle.scop_meaning.proofs.WalkSteps.{walk_first, walk_rest, walk_turn}

inside_front : (es : List (List ℕ)) (xs ys : List Act) → ActsAreInside es (xs ++ ys) → ActsAreInside es xs
inside_front es xs ys c = λ a h. c a (in_front a xs ys h)

inside_back : (es : List (List ℕ)) (xs ys : List Act) → ActsAreInside es (xs ++ ys) → ActsAreInside es ys
inside_back es xs ys c = λ a h. c a (in_back a xs ys h)

ran-append : (es now : List (List ℕ)) (xs ys : List Act) → ran es now (xs ++ ys) ≡ ran es (ran es now xs) ys
ran-append es now xs ys = fold-append (λ (c : List (List ℕ)) (a : Act). performed_by es c a.body a.point) now xs ys

-- what a row of trees needs its first needs
pub can_first : (room : ℕ) (es : List (List ℕ)) (t : Tree) (ts : Trees) (point : List ℤ) (now : List (List ℕ))
    → CanRun room es (more t ts) point now → CanRun room es (more t none) point now
can_first room es t ts point now c = record {
  ranks = c.ranks;
  walks = walk_first room c.ranks t ts point c.walks;
  inside = rw append-nil (inside_front es (acts t point) (acts_all ts point) c.inside);
  ready = c.ready;
}

-- and the others need the rest
can_rest : (room : ℕ) (es : List (List ℕ)) (t : Tree) (ts : Trees) (point : List ℤ) (now next : List (List ℕ))
    → CanRun room es (more t ts) point now → IsReady es next → CanRun room es ts point next
can_rest room es t ts point now next c ready = record {
  ranks = c.ranks;
  walks = walk_rest room c.ranks t ts point c.walks;
  inside = inside_back es (acts t point) (acts_all ts point) c.inside;
  ready = ready;
}

pub can_act : (room : ℕ) (es : List (List ℕ)) (s : Statement) (point : List ℤ) (now : List (List ℕ))
    → CanRun room es (more (statement s) none) point now → AreCells es point (accesses s)
can_act room es s point now c = c.inside (record { body = s; point = point }) (inl refl)

-- items before i have run
pub record ItemsSoFar (room : ℕ) (es : List (List ℕ)) (items : List Item) (i : ℕ) (start point : List ℤ)
    (old now : List (List ℕ)) : Type 0 where
  pub same : point ≡ start
  pub can : CanRun room es (items_of (drop i items)) point now
  pub rest : ran es now (acts_all (items_of (drop i items)) point) ≡ ran es old (acts_all (items_of items) start)

-- one more item has run
pub item_step : (room : ℕ) (es : List (List ℕ)) (items : List Item) (i : ℕ) (start point after : List ℤ)
    (old now next : List (List ℕ)) (t : Tree) → ItemsSoFar room es items i start point old now
    → items_of (drop i items) ≡ more t (items_of (drop (i + 1) items)) → after ≡ point
    → next ≡ ran es now (acts t point) → IsReady es next → ItemsSoFar room es items (i + 1) start after old next
item_step room es items i start point after old now next t c here stays did ready =
    let rest = items_of (drop (i + 1) items) in
    let can : CanRun room es (more t rest) point now = subst (λ (ts : Trees). CanRun room es ts point now) here c.can in
    let whole : ran es now (acts t point ++ acts_all rest point) ≡ ran es old (acts_all (items_of items) start) =
    ap (λ (ts : Trees). ran es now (acts_all ts point)) (sym here) ∙ c.rest in
    let joined : ran es next (acts_all rest point) ≡ ran es old (acts_all (items_of items) start) =
    ap (λ (a : List (List ℕ)). ran es a (acts_all rest point)) did
    ∙ (sym (ran-append es now (acts t point) (acts_all rest point)) ∙ whole) in
    subst (λ (x : List ℤ). ItemsSoFar room es items (i + 1) start x old next) (sym stays)
    (record { same = c.same; can = can_rest room es t rest point now next can ready; rest = joined })

-- the acts of n turns of a loop from turn k on
abbrev pub turn_acts : Head → Trees → List ℤ → ℕ → ℕ → List Act
turn_acts head body point k n = flat_map (λ j. acts_all body (turn_point head point (pos j))) (range_with_len k n)

more_turns : (head : Head) (body : Trees) (point : List ℤ) (k m : ℕ) → k < m
    → turn_acts head body point k (m - k)
    ≡ acts_all body (turn_point head point (pos k)) ++ turn_acts head body point (k + 1) (m - (k + 1))
more_turns head body point k m h = let e : m - k ≡ suc (m - (k + 1)) = omega arith in rw e refl

whole_turns : (head : Head) (body : Trees) (point : List ℤ) (m : ℕ) {xs : List Act} → xs ≡ turn_acts head body point 0 m
    → xs ≡ turn_acts head body point 0 (m - 0)
whole_turns head body point m e = let z : m ≡ m - 0 = omega arith in e ∙ ap (turn_acts head body point 0) z

-- turns before k have run
pub record TurnsSoFar (es : List (List ℕ)) (head : Head) (body : Trees) (m k : ℕ) (start point : List ℤ)
    (old now : List (List ℕ)) : Type 0 where
  pub same : point ≡ start
  pub inside : ActsAreInside es (turn_acts head body start k (m - k))
  pub ready : IsReady es now
  pub rest : ran es now (turn_acts head body start k (m - k)) ≡ ran es old (acts (loop head body) start)

pub turns_begin : (room : ℕ) (es : List (List ℕ)) (head : Head) (body : Trees) (m : ℕ) (start point : List ℤ)
    (old : List (List ℕ))
    → CanRun room es (more (loop head body) none) start old → RunsFor (λ j. condition_at head start (pos j)) m
    → point ≡ start
    → TurnsSoFar es head body m 0 start point old old
turns_begin room es head body m start point old c runs same =
    let is : IsHead (length start) head = c.walks.formed.0.1 in
    let all : acts (loop head body) start ≡ turn_acts head body start 0 (m - 0) =
    whole_turns head body start m
    (loop_turns (λ k. condition_at head start (pos k)) (λ k. acts_all body (turn_point head start (pos k))) m
    (condition_falls head start is) runs) in
    record {
      same = same;
      inside = subst (ActsAreInside es) all (inside_front es (acts (loop head body) start) [] c.inside);
      ready = c.ready;
      rest = ap (ran es old) (sym all);
    }

-- the body of a turn can run
pub can_body : (room : ℕ) (es : List (List ℕ)) (head : Head) (body : Trees) (m k : ℕ) (start point : List ℤ)
    (old now : List (List ℕ))
    → CanRun room es (more (loop head body) none) start old → RunsFor (λ j. condition_at head start (pos j)) m → k < m
    → TurnsSoFar es head body m k start point old now → CanRun room es body (turn_point head point (pos k)) now
can_body room es head body m k start point old now c runs h far =
    let at : List ℤ = turn_point head start (pos k) in
    let front : ActsAreInside es (acts_all body at) =
    inside_front es (acts_all body at) (turn_acts head body start (k + 1) (m - (k + 1)))
    (subst (ActsAreInside es) (more_turns head body start k m h) far.inside) in
    subst (λ (x : List ℤ). CanRun room es body (turn_point head x (pos k)) now) (sym far.same)
    (record {
      ranks = c.ranks;
      walks = walk_turn room c.ranks head body start m k c.walks runs h;
      inside = front;
      ready = far.ready;
    })

-- one more turn has run
pub turn_step : (es : List (List ℕ)) (head : Head) (body : Trees) (m k : ℕ) (start point after : List ℤ)
    (old now next : List (List ℕ))
    → k < m → TurnsSoFar es head body m k start point old now → after ≡ point
    → next ≡ ran es now (acts_all body (turn_point head point (pos k))) → IsReady es next
    → TurnsSoFar es head body m (k + 1) start after old next
turn_step es head body m k start point after old now next h far stays did ready =
    let at : List ℤ = turn_point head start (pos k) in
    let rest = turn_acts head body start (k + 1) (m - (k + 1)) in
    let split = more_turns head body start k m h in
    let here : next ≡ ran es now (acts_all body at) = did
    ∙ ap (λ (x : List ℤ). ran es now (acts_all body (turn_point head x (pos k)))) far.same in
    record {
      same = stays ∙ far.same;
      inside = inside_back es (acts_all body at) rest (subst (ActsAreInside es) split far.inside);
      ready = ready;
      rest = ap (λ (a : List (List ℕ)). ran es a rest) here
          ∙ (sym (ran-append es now (acts_all body at) rest) ∙ (ap (ran es now) (sym split) ∙ far.rest));
    }
