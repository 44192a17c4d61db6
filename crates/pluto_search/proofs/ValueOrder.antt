-- Along a schedule of dependences that hold the covers of a walk the values of conflicting places rise.
use Rattle.scop_syntax.proofs.Common.{◌≡◌, ℕ, ◌<◌, ℤ, List, [], ◌∷◌, sym, ◌∙◌, ap, subst, inl, inr, length, Some, false}
use Rattle.scop_syntax.proofs.Common.{slice_get, LexLess, Cell, In, is_marked, Program, Instance, Visit, walk_of}
use Rattle.scop_syntax.proofs.Common.{instance}
use Rattle.scop_syntax.specs.Covers.{Chain, CoverBy, Follows}
use Rattle.scop_syntax.proofs.Covers.{cover_by, cover_conflicts}
use Rattle.iteration_domains.specs.Dependence.{Dependence}
use Rattle.iteration_domains.specs.Held.{HoldCovers}
use Rattle.iteration_domains.specs.Related.{Relates}
use Rattle.schedule_rows.specs.Bands.{Along}
use Rattle.schedule_rows.specs.Items.{Block, rows_in, values}
use Rattle.schedule_rows.specs.Next.{IsSizedDep}
use Rattle.schedule_rows.specs.Posed.{IsFull, loops_of}
use Rattle.schedule_rows.proofs.BlockOrder.{along_values}
use Rattle.schedule_rows.proofs.Times.{LeavesOnly0, turns_same}

-- an instance of a statement, with as many turns as that has loops
abbrev pub IsTurned : List ℕ → Instance → Type 0
IsTurned loops x = (x.number < length loops) × (length x.turns ≡ loops_of loops x.number)

-- both instances of a pair are
source_turned : (loops : List ℕ) (d : Dependence) (params : List ℤ) (x y : Instance) → IsSizedDep loops d
    → Relates params d x y → IsTurned loops x
source_turned loops d params x y s r = (
  subst (λ (k : ℕ). k < length loops) (sym r.source) s.source,
  r.source_size ∙ (s.source_turns ∙ ap (loops_of loops) (sym r.source)),
)

target_turned : (loops : List ℕ) (d : Dependence) (params : List ℤ) (x y : Instance) → IsSizedDep loops d
    → Relates params d x y → IsTurned loops y
target_turned loops d params x y s r = (
  subst (λ (k : ℕ). k < length loops) (sym r.target) s.target,
  r.target_size ∙ (s.target_turns ∙ ap (loops_of loops) (sym r.target)),
)

-- with which cover a chain begins and with which it ends
first_cover : (visits : List Visit) (c : Cell) (i : ℕ) (ks : List ℕ) (j : ℕ) → Follows visits c i ks j
    → (k : ℕ) × CoverBy visits c i k
first_cover visits c i [] j h = (j, h)
first_cover visits c i (k ∷ ks) j h = (k, h.0)

last_cover : (visits : List Visit) (c : Cell) (i : ℕ) (ks : List ℕ) (j : ℕ) → Follows visits c i ks j
    → (k : ℕ) × CoverBy visits c k j
last_cover visits c i [] j h = (i, h)
last_cover visits c i (k ∷ ks) j h = last_cover visits c k ks j h.1

-- so both places of a conflict are
pub places_turned : (program : Program) (params : List ℤ) (marked : List ℕ) (loops : List ℕ) (deps : List Dependence)
    (c : Cell) → ((d : Dependence) → In d deps → IsSizedDep loops d) → HoldCovers program params marked deps
    → is_marked marked c.array ≡ false → (i j : ℕ) → Chain (walk_of program params) c i j → (v w : Visit)
    → slice_get (walk_of program params) i ≡ Some v → slice_get (walk_of program params) j ≡ Some w
    → IsTurned loops (instance v) × IsTurned loops (instance w)
places_turned program params marked loops deps c sized holds free i j chain v w at there =
    let visits = walk_of program params in
    let first = first_cover visits c i chain.0 j chain.1 in
    let z = cover_conflicts visits i first.0 (cover_by visits c i first.0 first.1) in
    let d = holds i first.0 c v z.later at z.is_later first.1 free in
    let last = last_cover visits c i chain.0 j chain.1 in
    let y = cover_conflicts visits last.0 j (cover_by visits c last.0 j last.1) in
    let e = holds last.0 j c y.earlier w y.is_earlier there last.1 free in (
      source_turned loops d.0 params (instance v) (instance z.later) (sized d.0 d.1) d.2,
      target_turned loops e.0 params (instance y.earlier) (instance w) (sized e.0 e.1) e.2,
    )

-- what goes along a schedule of full rank rises, if it is two instances
pub values_rise : LeavesOnly0 → (loops : List ℕ) (blocks : List Block) (x y : Instance)
    → IsFull loops (rows_in blocks) → IsTurned loops x → IsTurned loops y → Along blocks x y (x.number ≡ y.number)
    → (x.number ≡ y.number → x.turns ≡ y.turns → ⊥) → LexLess (values blocks x) (values blocks y)
values_rise full_rank loops blocks x y full first second along apart =
    elim (along_values blocks x y (x.number ≡ y.number) along) [
      | inl less ↦ less
      | inr e ↦
          let many = second.1 ∙ ap (loops_of loops) (sym e.1) in
          absurd (apart e.1 (turns_same full_rank loops blocks x y full e.1 first.0 first.1 many e.0))
    ]
