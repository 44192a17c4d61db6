-- Each conflict is a chain of covers, and what goes on from place to place and holds of covers holds along chains.
use Rattle.whole_numbers.proofs.Common.{◌≡◌, ℕ, zero, suc, ◌<◌, ◌≤◌, true, List, [], ◌∷◌, ◌++◌, Option, Some, None, inl}
use Rattle.whole_numbers.proofs.Common.{inr, ap, subst, sym, ◌∙◌, refl, arith, slice_get, option_and_then, option_map}
use Rattle.scop_syntax.specs.Tree.{Access}
use Rattle.scop_syntax.specs.Walk.{Visit}
use Rattle.scop_syntax.specs.Cells.{Cell, OneWrites, PlacesConflict, accesses, cell_at, cell_of, written}
use Rattle.scop_syntax.specs.Cells.{conflict_cell}
use Rattle.scop_syntax.specs.Covers.{Chain, Cover, CoverBy, Follows}
use Rattle.scop_syntax.specs.Writers.{last_writer, next_writer, writes}
use Rattle.scop_syntax.proofs.Conflicts.{last_conflicts, next_conflicts}
use Rattle.scop_syntax.proofs.Members.{nat_cases}
use Rattle.scop_syntax.proofs.Writers.{last_is, next_is, none_behind, none_writes, same_cells, writer_of}

-- a cover is a conflict
pub cover_conflicts : (visits : List Visit) (i j : ℕ) → Cover visits i j → PlacesConflict visits i j
cover_conflicts visits i j (inl h) = last_conflicts visits j h.0 i h.1
cover_conflicts visits i j (inr h) = next_conflicts visits i (suc h.0) j h.1

-- a cover by a cell is one
pub cover_by : (visits : List Visit) (c : Cell) (i j : ℕ) → CoverBy visits c i j → Cover visits i j
cover_by visits c i j (inl (a, touches, last)) = inl (a, ap (option_and_then (last_writer visits j)) touches ∙ last)
cover_by visits c i j (inr (r, touches, next)) = inr (r, ap (option_and_then (next_writer visits i)) touches ∙ next)

-- what goes on over a visit of the walk and holds of the covers by a cell holds along chains of these
pub along_covers : (visits : List Visit) (c : Cell) (R : ℕ → ℕ → Type 0)
    → ((i k j : ℕ) (v : Visit) → slice_get visits k ≡ Some v → R i k → R k j → R i j)
    → ((i j : ℕ) → CoverBy visits c i j → R i j) → (i : ℕ) (ks : List ℕ) (j : ℕ) → Follows visits c i ks j → R i j
along_covers visits c R goes covers i [] j h = covers i j h
along_covers visits c R goes covers i (k ∷ ks) j h =
    let p = cover_conflicts visits i k (cover_by visits c i k h.0) in
    goes i k j p.later p.is_later (covers i k h.0) (along_covers visits c R goes covers k ks j h.1)

pub chain_rises : (visits : List Visit) (c : Cell) (i j : ℕ) → Chain visits c i j → i < j
chain_rises visits c i j chain =
    along_covers visits c (λ a b. a < b) (λ a k b v at h l. omega arith)
    (λ a b h. (cover_conflicts visits a b (cover_by visits c a b h)).order) i chain.0 j chain.1

-- the cell of an access of the visit that stands at a place
cell_there : (visits : List Visit) (j a : ℕ) (v : Visit) (g : Access) → slice_get visits j ≡ Some v
    → slice_get (accesses v.body) a ≡ Some g → cell_at visits j a ≡ Some (cell_of g v.point)
cell_there visits j a v g at is =
    ap (option_and_then (λ (w : Visit). option_map (λ (f : Access). cell_of f w.point) (slice_get (accesses w.body) a)))
    at
    ∙ ap (option_map (λ (f : Access). cell_of f v.point)) is

-- a writer's access 0 touches what it writes
writer_touches : (visits : List Visit) (k : ℕ) (c : Cell) → writes (slice_get visits k) c ≡ true
    → cell_at visits k 0 ≡ Some c
writer_touches visits k c wrote =
    let w = writer_of (slice_get visits k) c wrote in
    cell_there visits k 0 w.0 w.0.body.place w.1 refl ∙ ap Some w.2

-- and a visit writes the cell of its place
place_writes : (visits : List Visit) (k : ℕ) (v : Visit) (c : Cell) → slice_get visits k ≡ Some v → written v ≡ c
    → writes (slice_get visits k) c ≡ true
place_writes visits k v c at is =
    ap (λ (o : Option Visit). writes o c) at
    ∙ same_cells (written v) c (ap (λ (d : Cell). d.array) is) (ap (λ (d : Cell). d.subscripts) is)

-- a chain with one cover more
longer : (visits : List Visit) (c : Cell) (i : ℕ) (ks : List ℕ) (k j : ℕ) → Follows visits c i ks k
    → CoverBy visits c k j → Follows visits c i (ks ++ k ∷ []) j
longer visits c i [] k j h cover = (h, cover)
longer visits c i (l ∷ ks) k j h cover = (h.0, longer visits c l ks k j h.1 cover)

-- from a writer of the cell to a later place that touches it, back along the last writers
to_step : (visits : List Visit) (c : Cell) (i : ℕ) → writes (slice_get visits i) c ≡ true → (n j b : ℕ) → j ≤ suc n
    → i < j → cell_at visits j b ≡ Some c
    → ((k : ℕ) → k ≤ n → i < k → cell_at visits k 0 ≡ Some c → Chain visits c i k)
    → (o : Option ℕ) → last_writer visits j c ≡ o → Chain visits c i j
to_step visits c i wrote n j b h less touches ih None e = let free = none_writes visits j c e i less in absurd cc
to_step visits c i wrote n j b h less touches ih (Some k) e =
    let l = last_is visits j c k e in
    let before = l.before in
    let cover : CoverBy visits c k j = inl (b, touches, e) in
    nat_cases i k (λ earlier.
    let chain = ih k (omega arith) earlier (writer_touches visits k c l.wrote) in
    (chain.0 ++ k ∷ [], longer visits c i chain.0 k j chain.1 cover))
    (λ same. ([], subst (λ m. CoverBy visits c m j) (sym same) cover))
    (λ later. let free = l.latest i later less in absurd cc)

chain_to : (visits : List Visit) (c : Cell) (i : ℕ) → writes (slice_get visits i) c ≡ true → (n j b : ℕ) → j ≤ n
    → i < j → cell_at visits j b ≡ Some c → Chain visits c i j
chain_to visits c i wrote zero j b h less touches = absurd (omega arith)
chain_to visits c i wrote (suc n) j b h less touches =
    to_step visits c i wrote n j b h less touches (λ k bound order is. chain_to visits c i wrote n k 0 bound order is)
    (last_writer visits j c) refl

-- from a read of the cell to a later place that writes it, by the next writer
from_step : (visits : List Visit) (c : Cell) (i r j : ℕ) → i < j → cell_at visits i (suc r) ≡ Some c
    → writes (slice_get visits j) c ≡ true → (o : Option ℕ) → next_writer visits i c ≡ o → Chain visits c i j
from_step visits c i r j less touches wrote None e = let free = none_behind visits i c e j less in absurd cc
from_step visits c i r j less touches wrote (Some k) e =
    let l = next_is visits i c k e in
    let cover : CoverBy visits c i k = inr (r, touches, e) in
    nat_cases k j (λ earlier.
    let chain = chain_to visits c k l.wrote j j 0 (omega arith) earlier (writer_touches visits j c wrote) in
    (k ∷ chain.0, (cover, chain.1)))
    (λ same. ([], subst (λ m. CoverBy visits c i m) same cover))
    (λ later. let free = l.soonest j less later in absurd cc)

chain_from : (visits : List Visit) (c : Cell) (i a j : ℕ) → i < j → cell_at visits i a ≡ Some c
    → writes (slice_get visits j) c ≡ true → (a ≡ 0 → writes (slice_get visits i) c ≡ true) → Chain visits c i j
chain_from visits c i zero j less touches wrote own =
    chain_to visits c i (own refl) j j 0 (omega arith) less (writer_touches visits j c wrote)
chain_from visits c i (suc r) j less touches wrote own =
    from_step visits c i r j less touches wrote (next_writer visits i c) refl

-- access 0 is the place
own_place : (v : Visit) (a : ℕ) (g : Access) → a ≡ 0 → slice_get (accesses v.body) a ≡ Some g → v.body.place ≡ g
own_place v zero g e is = cc
own_place v (suc a) g e is = absurd (omega (arith, e))

either : (visits : List Visit) (i j a b : ℕ) (c : Cell) → i < j → cell_at visits i a ≡ Some c
    → cell_at visits j b ≡ Some c → (a ≡ 0 → writes (slice_get visits i) c ≡ true)
    → (b ≡ 0 → writes (slice_get visits j) c ≡ true) → OneWrites a b → Chain visits c i j
either visits i j a b c less here there first second (inl e) =
    chain_to visits c i (first e) j j b (omega arith) less there
either visits i j a b c less here there first second (inr e) = chain_from visits c i a j less here (second e) first

-- each conflict is a chain by its cell
pub conflict_chains : (visits : List Visit) (i j : ℕ) (p : PlacesConflict visits i j)
    → Chain visits (conflict_cell p) i j
conflict_chains visits i j p =
    let q = p.conflict in
    let c = conflict_cell p in
    either visits i j p.first p.second c p.order
    (cell_there visits i p.first p.earlier q.first p.is_earlier q.is_first)
    (cell_there visits j p.second p.later q.second p.is_later q.is_second ∙ ap Some (sym q.cell))
    (λ e. place_writes visits i p.earlier c p.is_earlier
    (ap (λ (g : Access). cell_of g p.earlier.point) (own_place p.earlier p.first q.first e q.is_first)))
    (λ e. place_writes visits j p.later c p.is_later
    (ap (λ (g : Access). cell_of g p.later.point) (own_place p.later p.second q.second e q.is_second) ∙ sym q.cell))
    q.writes

pub ruleset cover_laws = (conflict_chains, cover_conflicts, chain_rises)
