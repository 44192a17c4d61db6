-- What a visit changes of marks and readers.
use Rattle.scop_syntax.proofs.Common.{◌≡◌, ◌≢◌, ◌<◌, ◌≤◌, ◌+◌, ℕ, zero, suc, ◌⊎◌, inl, inr, ⊎_elim, Bool, true, false}
use Rattle.scop_syntax.proofs.Common.{List, [], ◌∷◌, ◌++◌, ap, sym, refl, ◌∙◌, subst, arith, length, map, get_or, take}
use Rattle.scop_syntax.proofs.Common.{slice_set, nat_eq, if◌then◌else◌, eqb-true, eqb-false, get_or-set_same}
use Rattle.scop_syntax.proofs.Common.{get_or-set_other, length-set, length-map, take_all, In, in_append, in_front}
use Rattle.scop_syntax.proofs.Common.{in_back, nat_cases}
use Rattle.std.proofs.lemmas.List.{append_assoc, append-nil}
use Rattle.tile_edges.specs.steps.Touches.{HasTile, HasEntered, HasRoom, KeepSame}
use Rattle.tile_edges.specs.declared.touching.Traces.{Traces}
use Rattle.tile_edges.specs.steps.Gains.{Gains}
use Rattle.tile_edges.specs.steps.Traces.{HasVisited, marked, met, met_at}
use Rattle.tile_edges.proofs.PutPairs.{gains_join}
use Rattle.tile_edges.proofs.Taken.{taken_more, seen_at, seen_set}

-- a list that gets it
pub gets_tile : (u : ℕ) (xs new : List ℕ) → new ≡ xs ++ u ∷ [] → HasTile u xs new
gets_tile u xs new e = subst (λ ys. HasTile u xs ys) (sym e) (record {
  found = λ t i. ⊎_elim (λ j. inl j) (λ j. inr (⊎_elim (λ same. same) (λ k. absurd k) j)) (in_append t xs (u ∷ []) i);
  kept = λ t i. in_front t xs (u ∷ []) i;
  there = in_back u xs (u ∷ []) (inl refl);
})

-- no cell is read
pub none_entered : (u : ℕ) (rows : List (List ℕ)) → HasEntered u [] rows rows
none_entered u rows =
    record { long = refl; found = λ c t i. inl i; kept = λ c t i. i; there = λ c i. absurd i }

-- a cell more is read
entered_set : (u c : ℕ) (cs : List ℕ) (a b : List (List ℕ)) (new : List ℕ) → c < length b → HasEntered u cs a b
    → HasTile u (get_or b c []) new → HasEntered u (cs ++ c ∷ []) a (slice_set b c new)
entered_set u c cs a b new inside has tile = record {
  long = length-set b c new ∙ has.long;
  found = λ d t. at d (λ row. In t row → In t (get_or a d []) ⊎ (In d (cs ++ c ∷ []) × (t ≡ u)))
      (λ e i. ⊎_elim (λ j. old d t (has.found d t (subst (λ k. In t (get_or b k [])) (sym e) j)))
      (λ same. inr (in_back d cs (c ∷ []) (inl e), same)) (tile.found t i))
      (λ ne i. old d t (has.found d t i));
  kept = λ d t i. at d (λ row. In t row)
      (λ e. tile.kept t (subst (λ k. In t (get_or b k [])) e (has.kept d t i))) (λ ne. has.kept d t i);
  there = λ d i. at d (λ row. In u row) (λ e. tile.there)
      (λ ne. ⊎_elim (λ j. has.there d j) (λ j. absurd (⊎_elim ne (λ k. absurd k) j)) (in_append d cs (c ∷ []) i));
}
  where
    old : (d t : ℕ) → In t (get_or a d []) ⊎ (In d cs × (t ≡ u)) → In t (get_or a d []) ⊎ (In d (cs ++ c ∷ []) × (t ≡ u))
    old d t (inl i) = inl i
    old d t (inr i) = inr (in_front d cs (c ∷ []) i.0, i.1)

    at : (d : ℕ) (P : List ℕ → Type 0) → (d ≡ c → P new) → (d ≢ c → P (get_or b d [])) → P (get_or (slice_set b c new) d [])
    at d P here there = nat_cases d c
        (λ l. other (λ e. omega (arith, l, e)))
        (λ e. subst P (sym (ap (λ k. get_or (slice_set b c new) k []) e ∙ get_or-set_same b c new [] inside)) (here e))
        (λ l. other (λ e. omega (arith, l, e)))
      where
        other : d ≢ c → P (get_or (slice_set b c new) d [])
        other ne = subst P (sym (get_or-set_other b c d new [] ne)) (there ne)

pub entered_more : {A : Type 0} (f : A → List ℕ) (cells : List ℕ) (k cell u : ℕ) (a : List (List ℕ)) (rows : List A)
    (row new : A) → k < length cells → cell ≡ get_or cells k cell → cell < length rows → row ≡ get_or rows cell row
    → HasEntered u (take k cells) a (map f rows) → HasTile u (f row) (f new)
    → HasEntered u (take (k + 1) cells) a (map f (slice_set rows cell new))
entered_more f cells k cell u a rows row new inside is within taken has tile =
    let long = length-map rows f in
    subst (λ cs. HasEntered u cs a (map f (slice_set rows cell new))) (sym (taken_more cells k cell inside is))
    (subst (λ rs. HasEntered u (take k cells ++ cell ∷ []) a rs) (sym (seen_set f rows new cell (f new) refl))
    (entered_set u cell (take k cells) a (map f rows) (f new) (omega (arith, within, long)) has
    (subst (λ r. HasTile u r (f new)) (sym (seen_at f rows row cell within taken)) tile)))

pub entered_all : (cells : List ℕ) (k u : ℕ) (a b : List (List ℕ)) → length cells ≤ k
    → HasEntered u (take k cells) a b → HasEntered u cells a b
entered_all cells k u a b past has = subst (λ cs. HasEntered u cs a b) (take_all k cells past) has

-- all is read, and the first cell is written
pub visited : (flow : Bool) (u w : ℕ) (rs marks marks_then : List ℕ) (readers middle readers_then : List (List ℕ))
    → w < length marks → w < length middle → (flow ≡ false → HasEntered u rs readers middle)
    → marks_then ≡ slice_set marks w (suc u) → readers_then ≡ slice_set middle w []
    → HasVisited flow u w rs marks readers marks_then readers_then
visited flow u w rs marks marks_then readers middle readers_then inside within has is are = record {
  writer = λ c. ap (λ (ms : List ℕ). get_or ms c 0) is ∙ mark c (nat_eq w c) refl;
  found = λ off c t. at c (λ row. In t row → (w ≢ c) × (In t (get_or readers c []) ⊎ (In c rs × (t ≡ u))))
      (λ e i. absurd i) (λ ne i. (ne, (has off).found c t i));
  kept = λ off c t ne i. at c (λ row. In t row) (λ e. absurd (ne e)) (λ other. (has off).kept c t i);
  entered = λ off c ne i. at c (λ row. In u row) (λ e. absurd (ne e)) (λ other. (has off).there c i);
}
  where
    mark : (c : ℕ) (b : Bool) → nat_eq w c ≡ b → get_or (slice_set marks w (suc u)) c 0 ≡ (if b then suc u else get_or marks c 0)
    mark c true e =
        ap (λ (k : ℕ). get_or (slice_set marks w (suc u)) k 0) (sym (eqb-true w c e))
        ∙ get_or-set_same marks w (suc u) 0 inside
    mark c false e = get_or-set_other marks w c (suc u) 0 (λ k. eqb-false w c e (sym k))

    at : (c : ℕ) (P : List ℕ → Type 0) → (w ≡ c → P []) → (w ≢ c → P (get_or middle c [])) → P (get_or readers_then c [])
    at c P here there = subst (λ rows. P (get_or rows c [])) (sym are) (by_test (nat_eq w c) refl)
      where
        by_test : (b : Bool) → nat_eq w c ≡ b → P (get_or (slice_set middle w []) c [])
        by_test true e =
            subst P (sym (ap (λ (k : ℕ). get_or (slice_set middle w []) k []) (sym (eqb-true w c e))
            ∙ get_or-set_same middle w [] [] within)) (here (eqb-true w c e))
        by_test false e =
            subst P (sym (get_or-set_other middle w c [] [] (λ k. eqb-false w c e (sym k)))) (there (eqb-false w c e))

-- the writers of a cell more
pub met_append : (marks cs ds : List ℕ) → met marks (cs ++ ds) ≡ met marks cs ++ met marks ds
met_append marks [] ds = refl
met_append marks (c ∷ cs) ds =
    ap (λ (ts : List ℕ). marked (get_or marks c 0) ++ ts) (met_append marks cs ds)
    ∙ sym (append_assoc (marked (get_or marks c 0)) (met marks cs) (met marks ds))

pub met_more : (marks cells : List ℕ) (k cell mark : ℕ) → k < length cells → cell ≡ get_or cells k cell
    → mark ≡ get_or marks cell 0 → met marks (take k cells) ++ marked mark ≡ met marks (take (k + 1) cells)
met_more marks cells k cell mark inside is of =
    ap (λ (m : ℕ). met marks (take k cells) ++ marked m) of
    ∙ (ap (λ (ts : List ℕ). met marks (take k cells) ++ ts) (sym (append-nil (marked (get_or marks cell 0))))
    ∙ (sym (met_append marks (take k cells) (cell ∷ []))
    ∙ ap (λ (cs : List ℕ). met marks cs) (sym (taken_more cells k cell inside is))))

-- a cell's writer is one of them
pub in_met : (marks cs : List ℕ) (k t : ℕ) → k < length cs → In t (marked (get_or marks (get_or cs k 0) 0))
    → In t (met marks cs)
in_met marks [] k t less i = absurd (omega (arith, less))
in_met marks (c ∷ cs) zero t less i = in_front t (marked (get_or marks c 0)) (met marks cs) i
in_met marks (c ∷ cs) (suc k) t less i =
    in_back t (marked (get_or marks c 0)) (met marks cs) (in_met marks cs k t (omega (arith, less)) i)

-- what is met at reads is met, and unless flow alone counts, so are the writer and the readers of the cell written
pub met_reads : (flow : Bool) (marks : List ℕ) (readers : List (List ℕ)) (w : ℕ) (cs : List ℕ) (t : ℕ)
    → In t (met marks cs) → In t (met_at flow marks readers w cs)
met_reads true marks readers w cs t i = i
met_reads false marks readers w cs t i = in_front t (met marks cs) (marked (get_or marks w 0) ++ get_or readers w []) i

pub met_written : (flow : Bool) (marks : List ℕ) (readers : List (List ℕ)) (w : ℕ) (cs : List ℕ) (t : ℕ)
    → flow ≡ false → In t (marked (get_or marks w 0)) ⊎ In t (get_or readers w [])
    → In t (met_at flow marks readers w cs)
met_written true marks readers w cs t off i = absurd cc
met_written false marks readers w cs t off (inl i) =
    in_back t (met marks cs) (marked (get_or marks w 0) ++ get_or readers w [])
    (in_front t (marked (get_or marks w 0)) (get_or readers w []) i)
met_written false marks readers w cs t off (inr i) =
    in_back t (met marks cs) (marked (get_or marks w 0) ++ get_or readers w [])
    (in_back t (marked (get_or marks w 0)) (get_or readers w []) i)

pub gains_met : (flow : Bool) (marks : List ℕ) (readers : List (List ℕ)) (w : ℕ) (cs : List ℕ) (u : ℕ)
    (a b c d : List (List ℕ)) → flow ≡ false → Gains (met marks cs) u a b → Gains (marked (get_or marks w 0)) u b c
    → Gains (get_or readers w []) u c d → Gains (met_at flow marks readers w cs) u a d
gains_met true marks readers w cs u a b c d off g h k = absurd cc
gains_met false marks readers w cs u a b c d off g h k =
    let m = marked (get_or marks w 0) in
    let rs = get_or readers w [] in
    gains_join (met marks cs) (m ++ rs) u a b d g (gains_join m rs u b c d h k)

pub keep_both : (a b c : Traces) → KeepSame a b → KeepSame b c → KeepSame a c
keep_both a b c g h =
    let k = g.long in
    let l = h.long in
    record {
      mark = λ d. h.mark d ∙ g.mark d;
      readers = λ d. h.readers d ∙ g.readers d;
      long = omega (arith, k, l);
    }

pub room_more : (cells : List ℕ) (k cell : ℕ) (a b : Traces) → k < length cells → cell ≡ get_or cells k cell
    → KeepSame a b → cell < length b.marks.items → HasRoom (take k cells) a → HasRoom (take (k + 1) cells) b
room_more cells k cell a b inside is same here room d i =
    let long = same.long in
    ⊎_elim (λ j. let less = room d j in omega (arith, less, long))
    (λ j. ⊎_elim (λ (e : d ≡ cell). omega (arith, e, here)) (λ l. absurd l) j)
    (in_append d (take k cells) (cell ∷ []) (subst (λ cs. In d cs) (taken_more cells k cell inside is) i))
