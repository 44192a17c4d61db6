-- Lists that are read entry by entry: what was read so far, in front of what is still read, is the whole.
use Rattle.std.proofs.Common.{◌≡◌, ◌∙◌, ap, sym, refl, ℕ, suc, ◌+◌, ◌-◌, ◌<◌, ◌≤◌, List, [], ◌∷◌, ◌++◌, length, drop}
use Rattle.std.proofs.Common.{append-nil, arith, get_or, drop-cons, add-one, Option, Some, None, codes}
use Rattle.std.proofs.lemmas.List.{append_assoc, drop_all}
use Rattle.scop_lexer.specs.Bytes.{Text}
use Rattle.form_text.specs.Reading.{strip, when}
use Rattle.schedule_lines.specs.Lines.{Part}
use Rattle.schedule_lines.specs.Reading.{with_first, entry_in, numbers_by, numbers_in, part_in, parts_in, value_in}
use Rattle.schedule_lines.specs.Reading.{values_in}

-- entries that were read, in front of what is still read
abbrev pub joined : {A : Type 0} → List A → Option (List A × Text) → Option (List A × Text)
joined xs r = when r (λ f. Some (xs ++ f.0, f.1))

pub joined_more : {A : Type 0} (xs : List A) (x : A) (r : Option (List A × Text))
    → joined (xs ++ x ∷ []) r ≡ joined xs (with_first x r)
joined_more xs x None = refl
joined_more xs x (Some f) = ap (λ ys. Some (ys, f.1)) (append_assoc xs (x ∷ []) f.0)

pub joined_end : {A : Type 0} (xs : List A) (rest : Text) → Some (xs, rest) ≡ joined xs (Some ([], rest))
joined_end xs rest = ap (λ ys. Some (ys, rest)) (sym (append-nil xs))

-- an entry more, where the reading goes on so behind it
pub entry_more : {A : Type 0} (xs more : List A) (x : A) (rest : Text) (at : Option (A × Text))
    (on : Text → Option (List A × Text)) (reading whole : Option (List A × Text))
    → reading ≡ when at (λ e. with_first e.0 (on e.1)) → Some (x, rest) ≡ at → more ≡ xs ++ x ∷ []
    → joined xs reading ≡ whole → joined more (on rest) ≡ whole
entry_more xs more x rest at on reading whole step read pushed so_far =
    ap (λ ys. joined ys (on rest)) pushed
    ∙ (joined_more xs x (on rest)
    ∙ (ap (λ o. joined xs (when o (λ e. with_first e.0 (on e.1)))) read ∙ (sym (ap (joined xs) step) ∙ so_far)))

pub entry_none : {A : Type 0} (xs : List A) (at : Option (A × Text)) (on : Text → Option (List A × Text))
    (reading whole : Option (List A × Text)) → reading ≡ when at (λ e. with_first e.0 (on e.1)) → None ≡ at
    → joined xs reading ≡ whole → None ≡ whole
entry_none xs at on reading whole step none so_far =
    ap (λ o. joined xs (when o (λ e. with_first e.0 (on e.1)))) none ∙ (sym (ap (joined xs) step) ∙ so_far)

pub ahead : (n i : ℕ) → i < n → n - i ≡ suc (n - (i + 1))
ahead n i h = omega (arith, h)

pub past : (n i : ℕ) → n ≤ i → n - i ≡ 0
past n i h = omega (arith, h)

-- numbers up to a closing parenthesis
numbers_on : (n at : ℕ) (text : Text) → at < n → None ≡ strip (codes ")") text
    → numbers_in (n - at) at text
    ≡ when (entry_in at text) (λ e. with_first e.0 (numbers_in (n - (at + 1)) (at + 1) e.1))
numbers_on n at text h none =
    ap (λ k. numbers_in k at text) (ahead n at h)
    ∙ (ap (numbers_by (suc (n - (at + 1))) at text) (sym none)
    ∙ ap (λ k. when (entry_in at text) (λ e. with_first e.0 (numbers_in (n - (at + 1)) k e.1))) (sym (add-one at)))

pub numbers_more : (n at x : ℕ) (text rest : Text) (xs more : List ℕ) (whole : Option (List ℕ × Text)) → at < n
    → None ≡ strip (codes ")") text → Some (x, rest) ≡ entry_in at text → more ≡ xs ++ x ∷ []
    → joined xs (numbers_in (n - at) at text) ≡ whole
    → joined more (numbers_in (n - (at + 1)) (at + 1) rest) ≡ whole
numbers_more n at x text rest xs more whole h none read pushed so_far =
    entry_more xs more x rest (entry_in at text) (numbers_in (n - (at + 1)) (at + 1)) (numbers_in (n - at) at text) whole
    (numbers_on n at text h none) read pushed so_far

pub numbers_stop : (n at : ℕ) (text : Text) (xs : List ℕ) (whole : Option (List ℕ × Text)) → at < n
    → None ≡ strip (codes ")") text → None ≡ entry_in at text → joined xs (numbers_in (n - at) at text) ≡ whole
    → None ≡ whole
numbers_stop n at text xs whole h none read so_far =
    entry_none xs (entry_in at text) (numbers_in (n - (at + 1)) (at + 1)) (numbers_in (n - at) at text) whole
    (numbers_on n at text h none) read so_far

pub numbers_end : (n at : ℕ) (text rest : Text) (xs : List ℕ) (whole : Option (List ℕ × Text)) → at < n
    → Some rest ≡ strip (codes ")") text → joined xs (numbers_in (n - at) at text) ≡ whole → Some (xs, rest) ≡ whole
numbers_end n at text rest xs whole h some so_far =
    joined_end xs rest
    ∙ (ap (λ o. joined xs (numbers_by (suc (n - (at + 1))) at text o)) some
    ∙ (sym (ap (λ k. joined xs (numbers_in k at text)) (ahead n at h)) ∙ so_far))

pub numbers_spent : (n at : ℕ) (text : Text) (xs : List ℕ) (whole : Option (List ℕ × Text)) → n ≤ at
    → joined xs (numbers_in (n - at) at text) ≡ whole → None ≡ whole
numbers_spent n at text xs whole h so_far = sym (ap (λ k. joined xs (numbers_in k at text)) (past n at h)) ∙ so_far

-- parts by their statements
parts_on : (loops : List ℕ) (at n z : ℕ) (text : Text) → n ≡ get_or loops at z → at < length loops
    → parts_in at (drop at loops) text
    ≡ when (part_in at n text) (λ p. with_first p.0 (parts_in (at + 1) (drop (at + 1) loops) p.1))
parts_on loops at n z text is h =
    ap (λ ns. parts_in at ns text) (drop-cons loops at z h)
    ∙ (ap (λ m. parts_in at (m ∷ drop (suc at) loops) text) (sym is)
    ∙ ap (λ k. when (part_in at n text) (λ p. with_first p.0 (parts_in k (drop k loops) p.1))) (sym (add-one at)))

pub parts_more : (loops : List ℕ) (at n z : ℕ) (x : Part) (text rest : Text) (xs more : List Part)
    (whole : Option (List Part × Text)) → n ≡ get_or loops at z → at < length loops
    → Some (x, rest) ≡ part_in at n text → more ≡ xs ++ x ∷ [] → joined xs (parts_in at (drop at loops) text) ≡ whole
    → joined more (parts_in (at + 1) (drop (at + 1) loops) rest) ≡ whole
parts_more loops at n z x text rest xs more whole is h read pushed so_far =
    entry_more xs more x rest (part_in at n text) (parts_in (at + 1) (drop (at + 1) loops))
    (parts_in at (drop at loops) text) whole (parts_on loops at n z text is h) read pushed so_far

pub parts_stop : (loops : List ℕ) (at n z : ℕ) (text : Text) (xs : List Part) (whole : Option (List Part × Text))
    → n ≡ get_or loops at z → at < length loops → None ≡ part_in at n text
    → joined xs (parts_in at (drop at loops) text) ≡ whole → None ≡ whole
parts_stop loops at n z text xs whole is h read so_far =
    entry_none xs (part_in at n text) (parts_in (at + 1) (drop (at + 1) loops)) (parts_in at (drop at loops) text) whole
    (parts_on loops at n z text is h) read so_far

pub parts_end : (loops : List ℕ) (at : ℕ) (text : Text) (xs : List Part) (whole : Option (List Part × Text))
    → length loops ≤ at → joined xs (parts_in at (drop at loops) text) ≡ whole → Some (xs, text) ≡ whole
parts_end loops at text xs whole h so_far =
    joined_end xs text ∙ (sym (ap (λ ns. joined xs (parts_in at ns text)) (drop_all at loops h)) ∙ so_far)

-- a number for each of n statements
values_on : (n at : ℕ) (text : Text) → at < n
    → values_in at (n - at) text
    ≡ when (value_in at text) (λ v. with_first v.0 (values_in (at + 1) (n - (at + 1)) v.1))
values_on n at text h =
    ap (λ k. values_in at k text) (ahead n at h)
    ∙ ap (λ k. when (value_in at text) (λ v. with_first v.0 (values_in k (n - (at + 1)) v.1))) (sym (add-one at))

pub values_more : (n at x : ℕ) (text rest : Text) (xs more : List ℕ) (whole : Option (List ℕ × Text)) → at < n
    → Some (x, rest) ≡ value_in at text → more ≡ xs ++ x ∷ [] → joined xs (values_in at (n - at) text) ≡ whole
    → joined more (values_in (at + 1) (n - (at + 1)) rest) ≡ whole
values_more n at x text rest xs more whole h read pushed so_far =
    entry_more xs more x rest (value_in at text) (values_in (at + 1) (n - (at + 1))) (values_in at (n - at) text) whole
    (values_on n at text h) read pushed so_far

pub values_stop : (n at : ℕ) (text : Text) (xs : List ℕ) (whole : Option (List ℕ × Text)) → at < n
    → None ≡ value_in at text → joined xs (values_in at (n - at) text) ≡ whole → None ≡ whole
values_stop n at text xs whole h read so_far =
    entry_none xs (value_in at text) (values_in (at + 1) (n - (at + 1))) (values_in at (n - at) text) whole
    (values_on n at text h) read so_far

pub values_end : (n at : ℕ) (text : Text) (xs : List ℕ) (whole : Option (List ℕ × Text)) → n ≤ at
    → joined xs (values_in at (n - at) text) ≡ whole → Some (xs, text) ≡ whole
values_end n at text xs whole h so_far =
    joined_end xs text ∙ (sym (ap (λ k. joined xs (values_in at k text)) (past n at h)) ∙ so_far)

pub ruleset reading_numbers = (numbers_more, numbers_stop, numbers_end, numbers_spent)

pub ruleset reading_parts = (parts_more, parts_stop, parts_end)

pub ruleset reading_values = (values_more, values_stop, values_end)
