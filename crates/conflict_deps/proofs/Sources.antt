-- The earlier writers of the cell that an access touches are the points of the systems from writes to that access, the
-- later ones those from that access to writes.
use Rattle.conflict_deps.proofs.Common.{◌≡◌, ℕ, ◌<◌, ◌≤◌, true, false, ℤ, List, [], length, Some, inl, inr, ap, ap₂}
use Rattle.conflict_deps.proofs.Common.{subst, sym, ◌∙◌, refl, arith, slice_get, NotNegative, Access, Program, Visit}
use Rattle.conflict_deps.proofs.Common.{walk_of, accesses, Cell, Dependence, IsPoint, IsEnd}
use Rattle.scop_syntax.proofs.Common.{Option, cell_of, written, writes, same_cells, writer_of, nat_cases}
use Rattle.scop_syntax.specs.Writers.{IsLast}
use Rattle.conflict_deps.specs.Pairs.{TouchesAt, WritesBefore, WritesBehind}
use Rattle.conflict_deps.proofs.Pairs.{PlaceLaws, KernelLaws, points_conflict, conflicts_are_points}

pub writers_are_points : (program : Program) (params : List ℤ) (k j : ℕ) (u w : Visit) (b : ℕ) (c : Cell)
    → PlaceLaws program params → length params ≡ length program.parameters → NotNegative params
    → TouchesAt program params j w b c → WritesBefore program params k j u c
    → (dep : Dependence) × IsPoint program params dep u.turns w.turns × IsEnd dep.source u 0 × IsEnd dep.target w b
writers_are_points program params k j u w b c places count up reads writer =
    let r = conflicts_are_points program params [] k j
    (record {
      earlier = u;
      later = w;
      first = 0;
      second = b;
      order = writer.earlier;
      is_earlier = writer.place;
      is_later = reads.place;
      conflict = record {
        first = u.body.place;
        second = reads.access;
        is_first = refl;
        is_second = reads.is_access;
        writes = inl refl;
        cell = writer.writes ∙ sym reads.cell;
      };
    })
    places refl count up in
    (r.0, r.1, r.2, r.3)

-- of a conflict's ends one is an access: then the other writes the cell that the access touches, with its access 0
same_end : (program : Program) (params : List ℤ) (i j : ℕ) (v w u : Visit) (a b n : ℕ) (f g : Access) (c : Cell)
    → ((i k : ℕ) (u v : Visit) → slice_get (walk_of program params) i ≡ Some u
    → slice_get (walk_of program params) k ≡ Some v → u.number ≡ v.number → u.turns ≡ v.turns → i ≡ k)
    → TouchesAt program params j w b c → slice_get (walk_of program params) i ≡ Some v
    → v.number ≡ w.number → v.turns ≡ w.turns → n ≡ 0 → a ≡ b
    → slice_get (accesses u.body) n ≡ Some f → slice_get (accesses v.body) a ≡ Some g
    → cell_of f u.point ≡ cell_of g v.point → (i ≡ j) × (written u ≡ c)
same_end program params i j v w u a b n f g c once reads there number turns zeroth bth is_first is_second cell =
    let same : i ≡ j = once i j v w there reads.place number turns in
    let at_j : slice_get (walk_of program params) j ≡ Some v =
    subst (λ (k : ℕ). slice_get (walk_of program params) k ≡ Some v) same there in
    let here = reads.place in
    let visit : v ≡ w = cc in
    let first0 : slice_get (accesses u.body) 0 ≡ Some f =
    ap (λ (k : ℕ). slice_get (accesses u.body) k) (sym zeroth) ∙ is_first in
    let first : u.body.place ≡ f = cc in
    let second0 : slice_get (accesses w.body) b ≡ Some g =
    ap₂ (λ (z : Visit) (k : ℕ). slice_get (accesses z.body) k) (sym visit) (sym bth) ∙ is_second in
    let is_b = reads.is_access in
    let second : g ≡ reads.access = cc in (
      same,
      ap (λ (h : Access). cell_of h u.point) first
          ∙ (cell ∙ (ap₂ (λ (h : Access) (z : Visit). cell_of h z.point) second visit ∙ reads.cell)),
    )

pub points_are_writers : (program : Program) (params : List ℤ) (j : ℕ) (w : Visit) (b : ℕ) (c : Cell) (dep : Dependence)
    (xs : List ℤ) → PlaceLaws program params → KernelLaws program params
    → ((i k : ℕ) (u v : Visit) → slice_get (walk_of program params) i ≡ Some u
    → slice_get (walk_of program params) k ≡ Some v → u.number ≡ v.number → u.turns ≡ v.turns → i ≡ k)
    → length params ≡ length program.parameters
    → TouchesAt program params j w b c → IsPoint program params dep xs w.turns → dep.source.access ≡ 0
    → IsEnd dep.target w b
    → (k : ℕ) × (u : Visit) × WritesBefore program params k j u c × IsEnd dep.source u 0 × (u.turns ≡ xs)
points_are_writers program params j w b c dep xs places kernel once count reads point write target =
    let r = points_conflict program params [] dep xs w.turns places kernel count point.among point in
    let pair = r.2 in
    let both = pair.conflict in
    let touch = both.conflict in
    let end = same_end program params r.1 j both.later w both.earlier both.second b both.first touch.first touch.second c
    once reads both.is_later (sym pair.target.statement ∙ target.statement) pair.target_turns
    (sym pair.source.access ∙ write) (sym pair.target.access ∙ target.access) touch.is_first touch.is_second
    touch.cell in (
      r.0,
      both.earlier,
      record {
        earlier = subst (λ (n : ℕ). r.0 < n) end.0 both.order;
        place = both.is_earlier;
        writes = end.1;
      },
      record { statement = pair.source.statement; access = write },
      pair.source_turns,
    )

pub writers_behind_are_points : (program : Program) (params : List ℤ) (k j : ℕ) (u w : Visit) (b : ℕ) (c : Cell)
    → PlaceLaws program params → length params ≡ length program.parameters → NotNegative params
    → TouchesAt program params j w b c → WritesBehind program params k j u c
    → (dep : Dependence) × IsPoint program params dep w.turns u.turns × IsEnd dep.source w b × IsEnd dep.target u 0
writers_behind_are_points program params k j u w b c places count up reads writer =
    let r = conflicts_are_points program params [] j k
    (record {
      earlier = w;
      later = u;
      first = b;
      second = 0;
      order = writer.later;
      is_earlier = reads.place;
      is_later = writer.place;
      conflict = record {
        first = reads.access;
        second = u.body.place;
        is_first = reads.is_access;
        is_second = refl;
        writes = inr refl;
        cell = reads.cell ∙ sym writer.writes;
      };
    })
    places refl count up in
    (r.0, r.1, r.2, r.3)

pub points_are_writers_behind : (program : Program) (params : List ℤ) (j : ℕ) (w : Visit) (b : ℕ) (c : Cell)
    (dep : Dependence) (xs : List ℤ) → PlaceLaws program params → KernelLaws program params
    → ((i k : ℕ) (u v : Visit) → slice_get (walk_of program params) i ≡ Some u
    → slice_get (walk_of program params) k ≡ Some v → u.number ≡ v.number → u.turns ≡ v.turns → i ≡ k)
    → length params ≡ length program.parameters
    → TouchesAt program params j w b c → IsPoint program params dep w.turns xs → IsEnd dep.source w b
    → dep.target.access ≡ 0
    → (k : ℕ) × (u : Visit) × WritesBehind program params k j u c × IsEnd dep.target u 0 × (u.turns ≡ xs)
points_are_writers_behind program params j w b c dep xs places kernel once count reads point source write =
    let r = points_conflict program params [] dep w.turns xs places kernel count point.among point in
    let pair = r.2 in
    let both = pair.conflict in
    let touch = both.conflict in
    let end = same_end program params r.0 j both.earlier w both.later both.first b both.second touch.second touch.first c
    once reads both.is_earlier (sym pair.source.statement ∙ source.statement) pair.source_turns
    (sym pair.target.access ∙ write) (sym pair.source.access ∙ source.access) touch.is_second touch.is_first
    (sym touch.cell) in (
      r.1,
      both.later,
      record {
        later = subst (λ (n : ℕ). n < r.1) end.0 both.order;
        place = both.is_later;
        writes = end.1;
      },
      record { statement = pair.target.statement; access = write },
      pair.target_turns,
    )

wrote_at : (o : Option Visit) (u : Visit) (c : Cell) → o ≡ Some u → written u ≡ c → writes o c ≡ true
wrote_at o u c there is =
    ap (λ (p : Option Visit). writes p c) there
    ∙ same_cells (written u) c (ap (λ (d : Cell). d.array) is) (ap (λ (d : Cell). d.subscripts) is)

-- the last writer writes the cell before the place
pub last_writes : (program : Program) (params : List ℤ) (i j : ℕ) (c : Cell)
    → IsLast (walk_of program params) j c i → (u : Visit) × WritesBefore program params i j u c
last_writes program params i j c last =
    let w = writer_of (slice_get (walk_of program params) i) c last.wrote in
    (w.0, record { earlier = last.before; place = w.1; writes = w.2 })

-- and no writer before the place is later
pub no_later : (program : Program) (params : List ℤ) (i j k : ℕ) (u : Visit) (c : Cell)
    → IsLast (walk_of program params) j c i → WritesBefore program params k j u c → k ≤ i
no_later program params i j k u c last w =
    let wrote = wrote_at (slice_get (walk_of program params) k) u c w.place w.writes in
    nat_cases k i (λ less. omega (arith, less)) (λ same. omega (arith, same))
    (λ past. let not = last.latest k past w.earlier in absurd cc)

pub none_before : (program : Program) (params : List ℤ) (j k : ℕ) (u : Visit) (c : Cell)
    → ((i : ℕ) → i < j → writes (slice_get (walk_of program params) i) c ≡ false)
    → WritesBefore program params k j u c → ⊥
none_before program params j k u c none w =
    let wrote = wrote_at (slice_get (walk_of program params) k) u c w.place w.writes in
    let not = none k w.earlier in
    absurd cc
