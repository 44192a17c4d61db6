-- The next instance of a tile in the plan with its releases: its reads (`read_next`), and its last act (`last_next`).
use Rattle.scop_syntax.proofs.Common.{◌≡◌, ◌∙◌, ℕ, zero, suc, ◌-◌, ◌<◌, Bool, List, [], ◌∷◌, length, get_or, map, ap}
use Rattle.scop_syntax.proofs.Common.{sym, arith}
use Rattle.tile_events.specs.Plan as plain
use Rattle.tile_events.specs.Plan.{IsDealt}
use Rattle.tile_core.specs.Plans.{plan_of, walk_plan, walk_shape}
use Rattle.tile_core.specs.Ranks.{start_at}
use Rattle.tile_core.specs.declared.plan.Plan.{Plan}
use Rattle.tile_core.specs.declared.worker.Stage.{Stage}
use Rattle.tile_core.specs.declared.worker.Stage.TheVariants.{Idle, Ended, Holding, Working}
use Rattle.tile_core.proofs.Gates.{shape_extends}
use Rattle.array_words.specs.Loads.{IsNextRead}
use Rattle.array_words.specs.Stores.{IsNextLast}

-- a list of sizes has one where a tile has an instance
some_in : {A : Type 0} (size : A → ℕ) (xs : List A) (t k : ℕ)
    → k < start_at (map size xs) (suc t) - start_at (map size xs) t → t < length xs
some_in size [] zero k l = absurd (omega (arith, l))
some_in size [] (suc t) k l = absurd (omega (arith, l))
some_in size (x ∷ xs) zero k l = omega arith
some_in size (x ∷ xs) (suc t) k l = let i = some_in size xs t k (omega (arith, l)) in omega (arith, i)

-- a tile with an instance is one of the plan's
pub tile_in : (plan : Plan) (t k : ℕ) → k < (walk_shape plan).size t → t < (walk_shape plan).tiles
tile_in plan t k l = some_in _ plan.list.now.tiles.items t k l

module _ (plan : Plan) (cells : List ℕ) (dealt : IsDealt (walk_plan plan cells)) where
  abbrev p : plain.Plan
  p = walk_plan plan cells

  abbrev q : plain.Plan
  q = plan_of plan cells

  within : (t k : ℕ) → k < p.size t → p.place t k < p.places
  within t k less = dealt.place t k (tile_in plan t k less) less

  size_in : (t k : ℕ) → k < p.size t → k < q.size t
  size_in t k less = let more = (shape_extends plan).size t in omega (arith, less, more)

  same_reads : (t k : ℕ) → k < p.size t → q.read (q.place t k) ≡ p.read (p.place t k)
  same_reads t k less =
      ap q.read ((shape_extends plan).place t k less) ∙ (shape_extends plan).read (p.place t k) (within t k less)

  same_cell : (t k : ℕ) → k < p.size t → q.written (q.place t k) ≡ p.written (p.place t k)
  same_cell t k less =
      ap q.written ((shape_extends plan).place t k less)
      ∙ (shape_extends plan).written (p.place t k) (within t k less)

  same_value : (t k : ℕ) (xs : List ℕ) → k < p.size t → q.value (q.place t k) xs ≡ p.value (p.place t k) xs
  same_value t k xs less =
      ap (λ j. q.value j xs) ((shape_extends plan).place t k less)
      ∙ ap (λ (f : List ℕ → ℕ). f xs) ((shape_extends plan).value (p.place t k) (within t k less))

  pub read_next : (s : Stage) (xs : List ℕ) (c : ℕ) → IsNextRead p s xs c → IsNextRead q s xs c
  read_next Idle xs c next = absurd next
  read_next Ended xs c next = absurd next
  read_next (Holding t) xs c next = absurd next
  read_next (Working t k) xs c (less, more, at) =
      let same = same_reads t k less in
      let n = ap (λ (rs : List ℕ). length rs) same in (
        size_in t k less,
        omega (arith, more, n),
        at ∙ sym (ap (λ (rs : List ℕ). get_or rs (length xs) 0) same),
      )

  pub last_next : (adds : Bool) (s : Stage) (xs : List ℕ) (c x : ℕ) → IsNextLast adds p s xs c x
      → IsNextLast adds q s xs c x
  last_next adds Idle xs c x next = absurd next
  last_next adds Ended xs c x next = absurd next
  last_next adds (Holding t) xs c x next = absurd next
  last_next adds (Working t k) xs c x (less, all, kind, at, value) =
      let n = ap (λ (rs : List ℕ). length rs) (same_reads t k less) in (
        size_in t k less,
        omega (arith, all, n),
        ap q.adds (same_cell t k less)
            ∙ ((shape_extends plan).adds (p.written (p.place t k)) (dealt.written (p.place t k) (within t k less)) ∙ kind),
        at ∙ sym (same_cell t k less),
        value ∙ sym (same_value t k xs less),
      )
