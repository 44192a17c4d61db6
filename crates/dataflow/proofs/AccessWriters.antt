-- The join over all candidates of an access names its last or next writer.
use Rattle.dataflow.proofs.Common.{◌≡◌, ℕ, true, ℤ, List, length, Option, Some, None, inl, inr, ◌⊎◌, ap, ap₂, subst}
use Rattle.dataflow.proofs.Common.{sym, ◌∙◌, refl, slice_get, NotNegative, get_map, Program, In, Placed, statements_of}
use Rattle.dataflow.proofs.Common.{Visit, walk_of, Cell, in_from_place, place_of, All, Before, HasParameters, IsKernel}
use Rattle.dataflow.proofs.Common.{IsPlaced, Runs, pos, ranks_of, visit_of, ◌<◌, ◌<ℤ◌, ◌≤ℤ◌, ◌^◌, ◌↔◌, Tree, Leaf}
use Rattle.dataflow.proofs.Common.{value, model_of, modelled, Dependence, conflicts_of, IsEnd, TouchesAt, Names}
use Rattle.dataflow.proofs.Common.{IsOrdered, IsAmong, Finds, Writes, joined, writer_end, reader_end, wanted_writer}
use Rattle.dataflow.proofs.Common.{IsWritePoint, IsCandidate, IsSolved}
use Rattle.scop_syntax.proofs.Common.{written, writes, cell_same, same_cells, Scope, loops_in as loops_of_scopes}
use Rattle.quast_joins.specs.declared.way.Way.{Way}
use Rattle.quast_joins.specs.declared.way.Way.TheVariants.{Later, Earlier}
use Rattle.conflict_deps.proofs.Pairs.{PlaceLaws, KernelLaws}
use Rattle.conflict_deps.proofs.Sources.{writers_are_points, points_are_writers, writers_behind_are_points}
use Rattle.conflict_deps.proofs.Sources.{points_are_writers_behind}
use Rattle.dataflow.specs.Sources.{loops_in, loops_round}
use Rattle.dataflow.proofs.Candidates.{candidate_finds, joined_finds, same_finds, finds_last, finds_next}
use Rattle.quast_trees.specs.Tree as tree

-- what the laws of the walk say of a program at its parameters
pub record Laws (program : Program) (params : List ℤ) : Type 0 where
  pub places : PlaceLaws program params
  pub kernel : KernelLaws program params
  pub once : (i k : ℕ) (u v : Visit) → slice_get (walk_of program params) i ≡ Some u
      → slice_get (walk_of program params) k ≡ Some v → u.number ≡ v.number → u.turns ≡ v.turns → i ≡ k
  pub number : (k : ℕ) (p : Placed) → slice_get (statements_of program) k ≡ Some p → p.number ≡ k

-- the same, from what laws say of all programs
pub laws_of : (program : Program) (params : List ℤ) → IsKernel program → length params ≡ length program.parameters
    → ((q : Program) (ps : List ℤ) (v : Visit) → In v (walk_of q ps)
    → (p : Placed) × (xs : List ℤ) × In p (statements_of q) × Runs p.scopes ps xs × (v ≡ visit_of p ps xs))
    → ((q : Program) (ps : List ℤ) (p : Placed) (xs : List ℤ) → IsKernel q → length ps ≡ length q.parameters
    → In p (statements_of q) → Runs p.scopes ps xs → In (visit_of p ps xs) (walk_of q ps))
    → ((scopes : List Scope) (ps xs : List ℤ) → Runs scopes ps xs → length xs ≡ loops_of_scopes scopes)
    → ((q : Program) (k : ℕ) (p : Placed) → slice_get (statements_of q) k ≡ Some p → p.number ≡ k)
    → ((q : Program) (p r : Placed) → In p (statements_of q) → In r (statements_of q) → p.number ≡ r.number → p ≡ r)
    → ((q : Program) (p : Placed) → In p (statements_of q) → length p.loops ≡ loops_of_scopes p.scopes)
    → ((q : Program) (p : Placed) → IsKernel q → In p (statements_of q)
    → IsPlaced (ranks_of q) (length q.parameters) p)
    → ((q : Program) (ps : List ℤ) (i k : ℕ) (v w : Visit) → slice_get (walk_of q ps) i ≡ Some v
    → slice_get (walk_of q ps) k ≡ Some w → (i < k) ↔ Before v w)
    → ((q : Program) (ps : List ℤ) (i k : ℕ) (v w : Visit) → slice_get (walk_of q ps) i ≡ Some v
    → slice_get (walk_of q ps) k ≡ Some w → v.number ≡ w.number → v.turns ≡ w.turns → i ≡ k)
    → Laws program params
laws_of program params is count found stands turns number same loops placed order once =
    record {
      places = record {
        walk = record { found = found program params; turns = turns; same = same program };
        order = order program params;
        loops = loops program;
      };
      kernel = record {
        stands = λ p xs h runs. stands program params p xs is count h runs;
        placed = λ p h. placed program p is h;
      };
      once = once program params;
      number = number program;
    }

-- a visit's turns are small
pub small_turns : (program : Program) (params : List ℤ) → HasParameters program params → Laws program params
    → ((q : Program) (ps xs : List ℤ) (p : Placed) → HasParameters q ps → In p (statements_of q) → Runs p.scopes ps xs
    → All (λ x. (pos 0 ≤ℤ x) × (x <ℤ pos (2 ^ 46))) xs)
    → (v : Visit) → In v (walk_of program params) → All (λ x. (pos 0 ≤ℤ x) × (x <ℤ pos (2 ^ 46))) v.turns
small_turns program params has laws small v walked =
    let f = laws.places.walk.found v walked in
    subst (λ (z : Visit). All (λ x. (pos 0 ≤ℤ x) × (x <ℤ pos (2 ^ 46))) z.turns) (sym f.4)
    (small program params f.1 f.0 has f.2 f.3)

-- a walk is in order
pub walk_ordered : (program : Program) (params : List ℤ) → PlaceLaws program params → IsOrdered (walk_of program params)
walk_ordered program params laws =
    record {
      order = λ i j v w a b less. (laws.order i j v w a b).0 less;
      loops = λ i v a.
          let f = laws.walk.found v (in_from_place (walk_of program params) i v a) in
          let named = laws.loops f.0 f.2 in
          let long = laws.walk.turns f.0.scopes params f.1 f.3 in
          subst (λ u. length u.loops ≡ length u.turns) (sym f.4) (named ∙ sym long);
    }

-- a write is one of a visit
written_by : (program : Program) (params : List ℤ) (k : ℕ) (c : Cell) (o : Option Visit)
    → slice_get (walk_of program params) k ≡ o → writes o c ≡ true
    → (u : Visit) × (slice_get (walk_of program params) k ≡ Some u) × (written u ≡ c)
written_by program params k c None e h = absurd cc
written_by program params k c (Some u) e h =
    let s = cell_same (written u) c h in
    (u, e, ap₂ (λ (a : ℕ) (xs : List ℤ). record { array = a; subscripts = xs }) s.0 s.1)

writes_so : (visits : List Visit) (k : ℕ) (u : Visit) (c : Cell) → slice_get visits k ≡ Some u → written u ≡ c
    → writes (slice_get visits k) c ≡ true
writes_so visits k u c got e = ap (λ o. writes o c) got
    ∙ same_cells (written u) c (ap (λ (d : Cell). d.array) e) (ap (λ (d : Cell). d.subscripts) e)

-- each writer before the access, or behind it, is a point of a candidate
pub writer_is_point : (way : Way) (program : Program) (params : List ℤ) (j k : ℕ) (w : Visit) (b : ℕ) (c : Cell)
    → PlaceLaws program params → length params ≡ length program.parameters → NotNegative params
    → TouchesAt program params j w b c → Writes way (walk_of program params) j c k
    → (dep : Dependence) × (u : Visit) × (slice_get (walk_of program params) k ≡ Some u)
    × IsWritePoint way program params dep u.turns w.turns × IsEnd (writer_end way dep) u 0 × IsEnd
    (reader_end way dep) w b
writer_is_point Later program params j k w b c places count up reads h =
    let u = written_by program params k c (slice_get (walk_of program params) k) refl h.1 in
    let r = writers_are_points program params k j u.0 w b c places count up reads
    (record { earlier = h.0; place = u.1; writes = u.2 }) in
    (r.0, u.0, u.1, r.1, r.2, r.3)
writer_is_point Earlier program params j k w b c places count up reads h =
    let u = written_by program params k c (slice_get (walk_of program params) k) refl h.1 in
    let r = writers_behind_are_points program params k j u.0 w b c places count up reads
    (record { later = h.0; place = u.1; writes = u.2 }) in
    (r.0, u.0, u.1, r.1, r.3, r.2)

-- and each point of a candidate is such a writer
pub point_is_writer : (way : Way) (program : Program) (params : List ℤ) (j : ℕ) (w : Visit) (b : ℕ) (c : Cell)
    (dep : Dependence) (xs : List ℤ) → Laws program params → length params ≡ length program.parameters
    → TouchesAt program params j w b c → IsWritePoint way program params dep xs w.turns
    → (writer_end way dep).access ≡ 0 → IsEnd (reader_end way dep) w b
    → (k : ℕ) × (u : Visit) × (slice_get (walk_of program params) k ≡ Some u) × Writes way
    (walk_of program params) j c k × (u.number ≡ (writer_end way dep).statement) × (u.turns ≡ xs)
point_is_writer Later program params j w b c dep xs laws count reads point write its =
    let r = points_are_writers program params j w b c dep xs laws.places laws.kernel laws.once count reads point write
    its in (
      r.0,
      r.1,
      r.2.place,
      (r.2.earlier, writes_so (walk_of program params) r.0 r.1 c r.2.place r.2.writes),
      sym r.3.statement,
      r.4,
    )
point_is_writer Earlier program params j w b c dep xs laws count reads point write its =
    let r = points_are_writers_behind program params j w b c dep xs laws.places laws.kernel laws.once count reads point
    its write in (
      r.0,
      r.1,
      r.2.place,
      (r.2.later, writes_so (walk_of program params) r.0 r.1 c r.2.place r.2.writes),
      sym r.3.statement,
      r.4,
    )

-- the loops round a statement of the text are those of its number in the model
pub placed_loops : (program : Program) (p : Placed) → ((k : ℕ) (q : Placed)
    → slice_get (statements_of program) k ≡ Some q → q.number ≡ k) → In p (statements_of program)
    → loops_round (model_of program) p.number ≡ p.loops
placed_loops program p number is =
    let f = place_of (statements_of program) p is in
    let here : slice_get (statements_of program) p.number ≡ Some p = subst
    (λ (k : ℕ). slice_get (statements_of program) k ≡ Some p) (sym (number f.0 p f.1)) f.1 in
    ap loops_in (get_map (modelled (length program.parameters)) (statements_of program) p.number p here)

-- a visit has the loops of its number
pub visit_loops : (program : Program) (params : List ℤ) → Laws program params → (k : ℕ) (v : Visit)
    → slice_get (walk_of program params) k ≡ Some v → v.loops ≡ loops_round (model_of program) v.number
visit_loops program params laws k v got =
    let f = laws.places.walk.found v (in_from_place (walk_of program params) k v got) in
    let l = placed_loops program f.0 laws.number f.2 in
    subst (λ (u : Visit). u.loops ≡ loops_round (model_of program) u.number) (sym f.4) (sym l)

-- a dependence's writing side is a statement of the tree
side_loops : (way : Way) (program : Program) (params : List ℤ) (dep : Dependence) → Laws program params
    → (k : ℕ) (v : Visit) → slice_get (walk_of program params) k ≡ Some v → v.number ≡ (writer_end way dep).statement
    → v.loops ≡ loops_round (model_of program) (writer_end way dep).statement
side_loops way program params dep laws k v got number = visit_loops program params laws k v got
    ∙ ap (loops_round (model_of program)) number

among_of : (way : Way) (program : Program) (params : List ℤ) (dep : Dependence) (xs ys : List ℤ)
    → IsWritePoint way program params dep xs ys → In dep (conflicts_of (model_of program))
among_of Later program params dep xs ys p = p.among
among_of Earlier program params dep xs ys p = p.among

abbrev Mine : (way : Way) (program : Program) (params : List ℤ) (w : Visit) (dep : Dependence) → ℕ → Type 0
Mine way program params w dep = IsAmong (walk_of program params) (writer_end way dep).statement
    (λ xs. IsWritePoint way program params dep xs w.turns)

-- the join over all candidates finds the wanted writer
all_found : (way : Way) (program : Program) (params : List ℤ) (j : ℕ) (w : Visit) (b : ℕ) (c : Cell) (n : ℕ)
    (point : List ℤ) (tree_of : Dependence → Tree) (deps : List Dependence)
    → Laws program params → length params ≡ length program.parameters → NotNegative params
    → TouchesAt program params j w b c → length point ≡ n
    → ((dep : Dependence) → IsCandidate way program w b dep → In dep deps)
    → ((dep : Dependence) → In dep deps → IsCandidate way program w b dep)
    → ((dep : Dependence) → In dep deps → IsSolved way program params w n point dep (tree_of dep))
    → Finds way (walk_of program params) (Writes way (walk_of program params) j c)
    (value (joined way n tree_of tree.initial deps) point)
all_found way program params j w b c n point tree_of deps laws count up reads long whole only solved =
    let visits = walk_of program params in
    let ordered = walk_ordered program params laws.places in
    let nothing : Finds way visits (λ k. ⊥) (value tree.initial point) = (None, refl, λ k h. h) in
    let found = joined_finds way visits n point Dependence tree_of (Mine way program params w) deps
    (λ k. ⊥) tree.initial ordered long tt nothing
    (λ dep h.
    let i = only dep h in
    let s = solved dep h in
    let end = writer_end way dep in (
      s.speaks,
      candidate_finds way visits end.statement (loops_round (model_of program) end.statement)
          (λ xs. IsWritePoint way program params dep xs w.turns) (value (tree_of dep) point) ordered
          (side_loops way program params dep laws)
          (λ xs q. let r = point_is_writer way program params j w b c dep xs laws count reads q i.writes i.access in
          (r.0, r.1, r.2, r.4, r.5))
          s.wanted,
    )) in
    same_finds way visits (λ k. ⊥ ⊎ ((d : Dependence) × In d deps × Mine way program params w d k))
    (Writes way visits j c) (value (joined way n tree_of tree.initial deps) point)
    (λ k p. elim p [
      | inl h ↦ absurd h
      | inr q ↦
          let i = only q.0 q.1 in
          let v = q.2.0 in
          let r = point_is_writer way program params j w b c q.0 v.turns laws count reads q.2.3 i.writes i.access in
          let same : r.0 ≡ k = laws.once r.0 k r.1 v r.2 q.2.1 (r.4 ∙ sym q.2.2) r.5 in
          subst (Writes way visits j c) same r.3
    ])
    (λ k h.
    let r = writer_is_point way program params j k w b c laws.places count up reads h in
    let candidate : IsCandidate way program w b r.0 =
    record { among = among_of way program params r.0 r.1.turns w.turns r.3; writes = r.4.access; access = r.5 } in
    inr (r.0, whole r.0 candidate, (r.1, r.2, sym r.4.statement, r.3)))
    found

-- so it names it
finds_wanted : (way : Way) (visits : List Visit) (j : ℕ) (c : Cell) (l : Leaf)
    → Finds way visits (Writes way visits j c) l → Names visits l (wanted_writer way visits j c)
finds_wanted Later visits j c l f = finds_last visits j c l f
finds_wanted Earlier visits j c l f = finds_next visits j c l f

pub wanted_is_found : (way : Way) (program : Program) (params : List ℤ) (j : ℕ) (w : Visit) (b : ℕ) (c : Cell) (n : ℕ)
    (point : List ℤ) (tree_of : Dependence → Tree) (deps : List Dependence)
    → Laws program params → length params ≡ length program.parameters → NotNegative params
    → TouchesAt program params j w b c → length point ≡ n
    → ((dep : Dependence) → IsCandidate way program w b dep → In dep deps)
    → ((dep : Dependence) → In dep deps → IsCandidate way program w b dep)
    → ((dep : Dependence) → In dep deps → IsSolved way program params w n point dep (tree_of dep))
    → Names (walk_of program params) (value (joined way n tree_of tree.initial deps) point)
    (wanted_writer way (walk_of program params) j c)
wanted_is_found way program params j w b c n point tree_of deps laws count up reads long whole only solved =
    finds_wanted way (walk_of program params) j c (value (joined way n tree_of tree.initial deps) point)
    (all_found way program params j w b c n point tree_of deps laws count up reads long whole only solved)
