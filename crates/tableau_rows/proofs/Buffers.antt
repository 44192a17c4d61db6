-- A pivot over a buffer, row by row.
use Rattle.whole_numbers.proofs.Common.{◌≡◌, ℕ, zero, suc, ◌+◌, ◌*◌, ◌≤◌, ℤ, pos, ◌<ℤ◌, Bool, true, false, List, ◌∷◌}
use Rattle.whole_numbers.proofs.Common.{◌++◌, length, get_or, drop, take, refl, subst, ap, sym, ◌∙◌, arith}
use Rattle.whole_numbers.proofs.Common.{append_assoc, Result, Ok, Err, nat_eq, ints, length-take-le, length-drop}
use Rattle.whole_numbers.proofs.Common.{take-append-drop, suc-mul, take-append_seam, drop-append_seam, lowest}
use Rattle.whole_numbers.proofs.Common.{mul_positive}
use Rattle.std.proofs.Common.{drop-drop}
use Rattle.std.proofs.lemmas.Slice.{take-put_mid, drop-put_mid}
use borrow.Rule.Slice.PartMut.{put_mid, same_len_mid}
use Rattle.affine_forms.specs.Wide.{Wide}
use Rattle.affine_forms.specs.Checked.{product_of, ◌>>=◌}
use Rattle.affine_forms.proofs.CheckedSteps.{chain-ok, product_of-ok}
use Rattle.affine_forms.proofs.Steps.{with_front}
use Rattle.tableau_rows.specs.Moves.{entries_run, line_run, lowest_line_run, placed_line_run, buffer_run, HeadsPositive}

pub line_run-head : (s : ℕ) (ps row zs : List ℤ) → line_run s ps row ≡ Ok zs → pos 0 <ℤ get_or row 0 (pos 0)
    → pos 0 <ℤ get_or ps (s + 1) (pos 0)
    → pos 0 <ℤ get_or zs 0 (pos 0)
unfolding line_run
line_run-head s ps row zs h here there =
    let run = entries_run s (get_or ps (s + 1) (pos 0)) (get_or row (s + 1) (pos 0)) (get_or ps 0 (pos 0))
    (drop 1 row) (drop 1 ps) in
    let c = chain-ok (product_of (get_or row 0 (pos 0)) (get_or ps (s + 1) (pos 0)))
    (λ (d : ℤ). run >>= λ es. Ok (d ∷ es)) zs h in
    let d = chain-ok run (λ (es : List ℤ). Ok (c.0 ∷ es)) zs c.2 in
    let p = ((product_of-ok (get_or row 0 (pos 0)) (get_or ps (s + 1) (pos 0)) c.0).0 c.1).0 in
    let m = mul_positive (get_or row 0 (pos 0)) (get_or ps (s + 1) (pos 0)) here there in
    let e : zs ≡ c.0 ∷ d.0 = cc (d.2) in
    subst (λ (ws : List ℤ). pos 0 <ℤ get_or ws 0 (pos 0)) (sym e) (omega (arith, ints))

pub placed-err : (b : Bool) (s : ℕ) (ps row : List ℤ) (w : Wide) → b ≡ false → line_run s ps row ≡ Err w
    → placed_line_run b s ps row ≡ Err w
unfolding lowest_line_run
placed-err true s ps row w e h = cc
placed-err false s ps row w e h = rw h refl

pub placed-other : (b : Bool) (s : ℕ) (ps row mid new : List ℤ) → b ≡ false → line_run s ps row ≡ Ok mid
    → new ≡ lowest mid
    → placed_line_run b s ps row ≡ Ok new
unfolding lowest_line_run
placed-other true s ps row mid new e h k = cc
placed-other false s ps row mid new e h k = rw h (ap (λ (zs : List ℤ). Ok zs) (sym k))

-- one row of a buffer
pub buffer-step : (r s : ℕ) (ps : List ℤ) (at left : ℕ) (done rest row more new : List ℤ) → rest ≡ row ++ more
    → length row ≡ length ps
    → placed_line_run (nat_eq at r) s ps row ≡ Ok new
    → with_front (done ++ new) (buffer_run r s ps (suc at) left more) ≡ with_front done
    (buffer_run r s ps at (suc left) rest)
buffer-step r s ps at left done rest row more new parts size run =
    let t : take (length ps) (row ++ more) ≡ row = subst (λ (k : ℕ). take k (row ++ more) ≡ row) size
    (take-append_seam row more) in
    let d : drop (length ps) (row ++ more) ≡ more = subst (λ (k : ℕ). drop k (row ++ more) ≡ more) size
    (drop-append_seam row more) in
    rw (parts, t, d, run) (by_rest (buffer_run r s ps (suc at) left more))
  where
    by_rest : (q : Result (List ℤ) Wide)
        → with_front (done ++ new) q ≡ with_front done (q >>= λ rest. Ok (new ++ rest))
    by_rest (Ok zs) = ap (λ (ws : List ℤ). Ok ws) (append_assoc done new zs)
    by_rest (Err w) = refl

-- a row written back
pub buffer_kept : (r s : ℕ) (ps cells new : List ℤ) (run : Result (List ℤ) Wide) (start at left k n : ℕ)
    → k ≡ length ps → n ≡ start + length ps
    → start + suc left * length ps ≡ length cells → length new ≡ length ps
    → placed_line_run (nat_eq at r) s ps (take k (drop start cells)) ≡ Ok new
    → with_front (take start cells) (buffer_run r s ps at (suc left) (drop start cells)) ≡ run
    → HeadsPositive (length ps) (suc left) (drop start cells)
    → (n + left * length ps ≡ length (put_mid start k cells new))
    × (with_front (take n (put_mid start k cells new))
    (buffer_run r s ps (suc at) left (drop n (put_mid start k cells new))) ≡ run)
    × HeadsPositive (length ps) left (drop n (put_mid start k cells new))
buffer_kept r s ps cells new run start at left k n ek en size long placed kept heads =
    let m = suc-mul left (length ps) in
    let within : start + length ps ≤ length cells = omega arith in
    let t = take-put_mid start k cells new n (omega arith) (omega arith) in
    let d = drop-put_mid start k cells new n (omega arith) (omega arith) (omega arith) in
    let dd : drop n cells ≡ drop (length ps) (drop start cells) = ap (λ (i : ℕ). drop i cells) en ∙ sym
    (drop-drop (length ps) start cells) in
    let parts : drop start cells ≡ take k (drop start cells) ++ drop (length ps) (drop start cells) =
    sym (take-append-drop (length ps) (drop start cells)) ∙ ap
    (λ (i : ℕ). take i (drop start cells) ++ drop (length ps) (drop start cells)) (sym ek) in
    let count : length (take k (drop start cells)) ≡ length ps = length-take-le k (drop start cells)
    (omega (arith, length-drop start cells)) ∙ ek in
    let step = buffer-step r s ps at left (take start cells) (drop start cells) (take k (drop start cells))
    (drop (length ps) (drop start cells)) new parts count placed in (
      omega (arith, same_len_mid start k cells new (long ∙ sym count)),
      rw (t, d, dd) (step ∙ kept),
      rw (d, dd) heads.1,
    )

-- the last row
pub buffer_end : (r s : ℕ) (ps cells : List ℤ) (run : Result (List ℤ) Wide) (start at left : ℕ) → left ≡ 0
    → start + left * length ps ≡ length cells
    → with_front (take start cells) (buffer_run r s ps at left (drop start cells)) ≡ run → run ≡ Ok cells
buffer_end r s ps cells run start at (suc left) e size kept = absurd (omega arith)
buffer_end r s ps cells run start at zero e size kept =
    sym kept ∙ ap (λ (zs : List ℤ). Ok zs) (take-append-drop start cells)
