-- What instances of a tile leave in the cells, one after another.
use Rattle.std.specs.Prelude.{ℕ, zero, suc, ◌+◌, List, get_or, map, set}
use Rattle.tile_events.specs.Core.{State, Worker}
use Rattle.tile_events.specs.Plan.{Plan, updated}

-- the values of some of the cells
abbrev pub values_at : List ℕ → List ℕ → List ℕ
values_at cells cs = map (λ c. get_or cells c 0) cs

-- the cells after place j
abbrev pub after_place : Plan → ℕ → List ℕ → List ℕ
after_place p j cells = set cells (p.written j)
    (updated (p.adds (p.written j)) (get_or cells (p.written j) 0) (p.value j (values_at cells (p.read j))))

-- after instance k of tile t
abbrev pub after_instance : Plan → ℕ → ℕ → List ℕ → List ℕ
after_instance p t k cells = after_place p (p.place t k) cells

-- after n instances, of which the first has number k
abbrev pub after_instances : Plan → ℕ → ℕ → ℕ → List ℕ → List ℕ
after_instances p t k zero cells = cells
after_instances p t k (suc n) cells = after_instance p t (k + n) (after_instances p t k n cells)

-- the state with these cells, and with worker id elsewhere
abbrev pub with_cells : State → ℕ → List ℕ → Worker → State
with_cells s id cells w =
    record { claims = s.claims; finished = s.finished; cells = cells; workers = set s.workers id w }
