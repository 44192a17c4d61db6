-- The pivot over a buffer is the pivot over its rows.
use Rattle.whole_numbers.proofs.Common.{◌≡◌, ℕ, zero, suc, ◌+◌, ◌*◌, ◌<◌, ℤ, pos, Bool, true, false, List, [], ◌∷◌}
use Rattle.whole_numbers.proofs.Common.{◌++◌, length, set, get_or, drop, take, refl, subst, ap, sym, ◌∙◌, arith}
use Rattle.whole_numbers.proofs.Common.{add-one, Result, Ok, Err, nat_eq, if◌then◌else◌, length-take-le, length-drop}
use Rattle.whole_numbers.proofs.Common.{length-map, take-append_seam, drop-append_seam, suc-mul, lowest, zeros}
use Rattle.whole_numbers.proofs.Common.{length-zeros}
use Rattle.std.proofs.Math.ListN.{length-set}
use Rattle.affine_forms.specs.Wide.{Wide}
use Rattle.affine_forms.specs.Checked.{product_of, ◌>>=◌}
use Rattle.affine_forms.proofs.CheckedSteps.{chain-ok}
use Rattle.tableau_rows.specs.Rows.{Row, row_of}
use Rattle.tableau_rows.specs.Moves.{entries_run, line_run, lowest_row, lowest_line_run, unit_row, unit_line}
use Rattle.tableau_rows.specs.Moves.{placed_line_run, buffer_run, row_run, rows_run, line_row, rows_in}
use Rattle.tableau_rows.proofs.Lines.{entry_at}
use Rattle.tableau_rows.proofs.Pivots.{length-crossed}
use Rattle.tableau_rows.proofs.PivotMoves.{entries_run-exact}

-- one row
pub line-unit : (s : ℕ) (row : List ℤ) → 0 < length row
    → line_row (unit_line (length row) s) ≡ unit_row (length (drop 1 row)) s
line-unit s [] h = absurd (omega arith)
line-unit s (x ∷ row) h =
    ap (λ (k : ℕ). line_row (set (set (zeros (suc (length row))) 0 (pos 1)) k (pos 1))) (add-one s)

pub line-run : (s : ℕ) (ps row : List ℤ)
    → row_run s (line_row ps) (line_row row) ≡ (lowest_line_run s ps row >>= λ zs. Ok (line_row zs))
unfolding row_run lowest_line_run line_run lowest_row
line-run s ps row =
    rw (← entry_at ps s, ← entry_at row s)
    (by_cases (product_of (get_or row 0 (pos 0)) (get_or (drop 1 ps) s (pos 0)))
    (entries_run s (get_or (drop 1 ps) s (pos 0)) (get_or (drop 1 row) s (pos 0)) (get_or ps 0 (pos 0))
    (drop 1 row) (drop 1 ps)))
  where
    by_cases : (p : Result ℤ Wide) (q : Result (List ℤ) Wide)
        → (p >>= λ d. q >>= λ es. Ok (lowest_row (row_of d es)))
        ≡ (((p >>= λ d. q >>= λ es. Ok (d ∷ es)) >>= λ zs. Ok (lowest zs)) >>= λ zs. Ok (line_row zs))
    by_cases (Err w) q = refl
    by_cases (Ok d) (Err w) = refl
    by_cases (Ok d) (Ok es) = refl

pub placed-view : (b : Bool) (s : ℕ) (ps row : List ℤ) → 0 < length row
    → (if b then Ok (unit_row (length (line_row row).entries) s) else row_run s (line_row ps) (line_row row))
    ≡ (placed_line_run b s ps row >>= λ zs. Ok (line_row zs))
placed-view true s ps row h = ap (λ (r : Row). Ok r) (sym (line-unit s row h))
placed-view false s ps row h = line-run s ps row

pub placed-length : (b : Bool) (s : ℕ) (ps row new : List ℤ) → 0 < length row → length row ≡ length ps
    → placed_line_run b s ps row ≡ Ok new → length new ≡ length row
unfolding lowest_line_run line_run
placed-length true s ps row new h same run =
    let e : new ≡ unit_line (length row) s = cc in
    ap (λ (zs : List ℤ). length zs) e ∙ simp length-set (length-zeros (length row))
placed-length false s ps row new h same run =
    let c = chain-ok (line_run s ps row) (λ (zs : List ℤ). Ok (lowest zs)) new run in
    let es = entries_run s (get_or ps (s + 1) (pos 0)) (get_or row (s + 1) (pos 0)) (get_or ps 0 (pos 0)) (drop 1 row)
    (drop 1 ps) in
    let d = chain-ok (product_of (get_or row 0 (pos 0)) (get_or ps (s + 1) (pos 0)))
    (λ (z : ℤ). es >>= λ zs. Ok (z ∷ zs)) c.0 c.1 in
    let e = chain-ok es (λ (zs : List ℤ). Ok (d.0 ∷ zs)) c.0 d.2 in
    let exact = entries_run-exact s (get_or ps (s + 1) (pos 0)) (get_or row (s + 1) (pos 0)) (get_or ps 0 (pos 0))
    (drop 1 row) (drop 1 ps) e.0 e.1 in
    let l = length-drop 1 row in
    let m = length-drop 1 ps in
    let k = length-crossed (get_or ps (s + 1) (pos 0)) (get_or row (s + 1) (pos 0)) (drop 1 row) (drop 1 ps)
    (omega arith) in
    let size : length e.0 ≡ length (drop 1 row) = ap (λ (zs : List ℤ). length zs) exact ∙ simp length-set k in
    let f : c.0 ≡ d.0 ∷ e.0 = cc (e.2) in
    let g : new ≡ lowest c.0 = cc (c.2) in
    let n : length c.0 ≡ suc (length e.0) = ap (λ (zs : List ℤ). length zs) f in
    ap (λ (zs : List ℤ). length zs) g ∙ simp length-map (omega arith)

-- all rows
pub buffer-view : (r s i count : ℕ) (ps cells : List ℤ) → 0 < length ps → length cells ≡ count * length ps
    → rows_run r s (line_row ps) i
    (rows_in (length ps) count cells) ≡ (buffer_run r s ps i count cells >>= λ zs. Ok (rows_in (length ps) count zs))
buffer-view r s i zero ps cells h size = refl
buffer-view r s i (suc count) ps cells h size =
    let m = suc-mul count (length ps) in
    let row = take (length ps) cells in
    let rest = drop (length ps) cells in
    let l : length row ≡ length ps = length-take-le (length ps) cells (omega arith) in
    let k : length rest ≡ count * length ps = omega (arith, length-drop (length ps) cells) in
    ap (λ (q : Result Row Wide). q >>= λ new. rows_run r s (line_row ps) (suc i) (rows_in (length ps) count rest) >>=
    λ news. Ok (new ∷ news))
    (placed-view (nat_eq i r) s ps row (omega arith))
    ∙ by_cases (placed_line_run (nat_eq i r) s ps row) refl (buffer_run r s ps (suc i) count rest) l
    (buffer-view r s (suc i) count ps rest h k)
  where
    by_cases : (q : Result (List ℤ) Wide) → placed_line_run (nat_eq i r) s ps (take (length ps) cells) ≡ q
        → (t : Result (List ℤ) Wide) → length (take (length ps) cells) ≡ length ps
        → rows_run r s (line_row ps) (suc i)
        (rows_in (length ps) count (drop (length ps) cells)) ≡ (t >>= λ zs. Ok (rows_in (length ps) count zs))
        → ((q >>= λ zs. Ok (line_row zs)) >>= λ new. rows_run r s (line_row ps) (suc i)
        (rows_in (length ps) count (drop (length ps) cells)) >>= λ news. Ok (new ∷ news))
        ≡ ((q >>= λ new. t >>= λ rest. Ok (new ++ rest)) >>= λ zs. Ok (rows_in (length ps) (suc count) zs))
    by_cases (Err w) e t l more = refl
    by_cases (Ok new) e (Err w) l more = rw more refl
    by_cases (Ok new) e (Ok zs) l more =
        let n = placed-length (nat_eq i r) s ps (take (length ps) cells) new (omega arith) l e ∙ l in
        let a : take (length ps) (new ++ zs) ≡ new = subst (λ (k : ℕ). take k (new ++ zs) ≡ new) n
        (take-append_seam new zs) in
        let b : drop (length ps) (new ++ zs) ≡ zs = subst (λ (k : ℕ). drop k (new ++ zs) ≡ zs) n
        (drop-append_seam new zs) in
        rw more (rw (a, b) refl)

pub ruleset views = (buffer-view)
