-- Marks of lines from the last one on, and the new numbers of their rows.
use Rattle.scop_syntax.proofs.Common.{◌≡◌, ℕ, zero, suc, ◌+◌, ◌-◌, ◌<◌, ◌≤◌, Bool, true, false, List, [], ◌∷◌, ◌++◌}
use Rattle.scop_syntax.proofs.Common.{length, map, get_or, set, drop, drop-cons, add-one, replicate, refl, sym, ◌∙◌, ap}
use Rattle.scop_syntax.proofs.Common.{subst, arith, append_assoc, ◌⊎◌, inl, inr, if◌then◌else◌, nat_eq, nat_le}
use Rattle.std.proofs.lemmas.List.{append-nil, length-append}
use Rattle.plan_check.specs.Derivations.{Step, step_of, pruned, moved, renumbered}
use Rattle.plan_check.specs.declared.lines.Line.{Line}
use Rattle.plan_certificate.specs.Derivation.{marked_takes, needed}
use Rattle.plan_certificate.specs.steps.Numbers.{number_in, number_of, one_if}

-- the last line is marked
last_marked : (k m : ℕ) (lines : List Line) → length lines ≡ suc m
    → drop m (replicate (suc m) true) ≡ needed k (map step_of (drop m lines))
last_marked k m [] e = absurd (omega (arith, e))
last_marked k zero (x ∷ []) e = refl
last_marked k (suc m) (x ∷ []) e = absurd (omega (arith, e))
last_marked k zero (x ∷ y ∷ lines) e = absurd (omega (arith, e))
last_marked k (suc m) (x ∷ y ∷ lines) e = last_marked k m (y ∷ lines) (omega (arith, e))

pub last_is : (k m : ℕ) (lines : List Line) → m ≡ length lines
    → drop (m - 1) (replicate m true) ≡ needed k (map step_of (drop (m - 1) lines))
last_is k zero [] e = refl
last_is k zero (x ∷ lines) e = absurd (omega (arith, e))
last_is k (suc i) lines e =
    let p : suc i - 1 ≡ i = omega arith in
    subst (λ (j : ℕ). drop j (replicate (suc i) true) ≡ needed k (map step_of (drop j lines))) (sym p)
    (last_marked k i lines (sym e))

drop_set : (bs : List Bool) (j : ℕ) (b : Bool) → j < length bs → drop j (set bs j b) ≡ b ∷ drop (suc j) bs
drop_set [] j b h = absurd (omega (arith, h))
drop_set (c ∷ bs) zero b h = refl
drop_set (c ∷ bs) (suc j) b h = drop_set bs j b (omega (arith, h))

-- a line before others
needed_before : (k : ℕ) (s : Step) (steps : List Step) → 0 < length steps
    → needed k (s ∷ steps) ≡ marked_takes k (needed (suc k) steps) steps ∷ needed (suc k) steps
needed_before k s [] h = absurd (omega (arith, h))
needed_before k s (t ∷ steps) h = refl

length_steps : (lines : List Line) → length (map step_of lines) ≡ length lines
length_steps [] = refl
length_steps (x ∷ lines) = ap suc (length_steps lines)

rest_long : (lines : List Line) (j : ℕ) → j < length lines → 0 < length (map step_of (drop j lines))
rest_long [] j h = absurd (omega (arith, h))
rest_long (x ∷ lines) zero h = omega arith
rest_long (x ∷ lines) (suc j) h = rest_long lines j (omega (arith, h))

steps_at : (lines : List Line) (j : ℕ) → j < length lines
    → (s : Step) × (map step_of (drop j lines) ≡ s ∷ map step_of (drop (suc j) lines))
steps_at [] j h = absurd (omega (arith, h))
steps_at (x ∷ lines) zero h = (step_of x, refl)
steps_at (x ∷ lines) (suc j) h = steps_at lines j (omega (arith, h))

-- the mark of the line before those that have theirs
pub mark_before : (rows j : ℕ) (marks : List Bool) (lines : List Line) (m : Bool) → length marks ≡ length lines
    → suc j < length lines
    → drop (suc j) marks ≡ needed (suc (rows + suc j)) (map step_of (drop (suc j) lines))
    → m ≡ marked_takes (suc (rows + j)) (drop (suc j) marks) (map step_of (drop (suc j) lines))
    → drop j (set marks j m) ≡ needed (suc (rows + j)) (map step_of (drop j lines))
mark_before rows j marks lines m each inside behind own =
    let k = suc (rows + j) in
    let later = map step_of (drop (suc j) lines) in
    let s = steps_at lines j (omega (arith, inside)) in
    let number : suc (rows + suc j) ≡ suc k = omega arith in
    let behind' : drop (suc j) marks ≡ needed (suc k) later =
    subst (λ (i : ℕ). drop (suc j) marks ≡ needed i later) number behind in
    let mark : m ≡ marked_takes k (needed (suc k) later) later =
    own ∙ ap (λ (bs : List Bool). marked_takes k bs later) behind' in
    drop_set marks j m (omega (arith, each, inside))
    ∙ (ap (λ (b : Bool). b ∷ drop (suc j) marks) mark
    ∙ (ap (λ (bs : List Bool). marked_takes k (needed (suc k) later) later ∷ bs) behind'
    ∙ (sym (needed_before k s.0 later (rest_long lines (suc j) inside))
    ∙ sym (ap (needed k) s.1))))

same_number : (j k : ℕ) → nat_eq j k ≡ true → j ≡ k
same_number j k h = grind arith

other_number : (j k : ℕ) → nat_eq j k ≡ false → j ≡ k → ⊥
other_number j k h e = grind arith

below_is : (j k : ℕ) → nat_le j k ≡ true → j ≤ k
below_is j k h = grind arith

above_is : (j k : ℕ) → nat_le j k ≡ false → k < j
above_is j k h = grind arith

differs : (j rows n : ℕ) → j ≤ rows → nat_eq j (suc (rows + n)) ≡ false
differs j rows n h = grind arith

lt_or : (i n : ℕ) → (i < n) ⊎ (n ≤ i)
lt_or zero zero = inr (omega arith)
lt_or zero (suc n) = inl (omega arith)
lt_or (suc i) zero = inr (omega arith)
lt_or (suc i) (suc n) = elim (lt_or i n) [ inl h ↦ inl (omega (arith, h)) | inr h ↦ inr (omega (arith, h)) ]

-- the new numbers with one more, that of the line behind them
number_more : (rows : ℕ) (numbers : List ℕ) (x j : ℕ)
    → number_in rows (numbers ++ x ∷ []) j ≡ moved (number_in rows numbers) (suc (rows + length numbers)) x j
number_more rows numbers x j = by (nat_le j rows) refl
  where
    here : (ns : List ℕ) (d : ℕ) → get_or (ns ++ x ∷ []) (length ns) d ≡ x
    here [] d = refl
    here (n ∷ ns) d = here ns d

    before : (ns : List ℕ) (i d : ℕ) → i < length ns → get_or (ns ++ x ∷ []) i d ≡ get_or ns i d
    before [] i d h = absurd (omega (arith, h))
    before (n ∷ ns) zero d h = refl
    before (n ∷ ns) (suc i) d h = before ns i d (omega (arith, h))

    past : (ns : List ℕ) (i d : ℕ) → length ns < i → get_or (ns ++ x ∷ []) i d ≡ get_or ns i d
    past [] zero d h = absurd (omega (arith, h))
    past [] (suc i) d h = refl
    past (n ∷ ns) zero d h = absurd (omega (arith, h))
    past (n ∷ ns) (suc i) d h = past ns i d (omega (arith, h))

    other : nat_eq j (suc (rows + length numbers)) ≡ false → nat_le j rows ≡ false
        → get_or (numbers ++ x ∷ []) (j - rows - 1) j ≡ get_or numbers (j - rows - 1) j
    other e f =
        let apart : j ≡ suc (rows + length numbers) → ⊥ = λ h. other_number j (suc (rows + length numbers)) e h in
        let above : rows < j = above_is j rows f in
        elim (lt_or (j - rows - 1) (length numbers)) [
          | inl less ↦ before numbers (j - rows - 1) j less
          | inr most ↦ past numbers (j - rows - 1) j (omega (arith, most, apart, above))
        ]

    inner : (b : Bool) → nat_eq j (suc (rows + length numbers)) ≡ b → nat_le j rows ≡ false
        → get_or (numbers ++ x ∷ []) (j - rows - 1) j
        ≡ (if b then x else if nat_le j rows then j else get_or numbers (j - rows - 1) j)
    inner true e f =
        let same = same_number j (suc (rows + length numbers)) e in
        let at : j - rows - 1 ≡ length numbers = omega (arith, same) in
        subst (λ (i : ℕ). get_or (numbers ++ x ∷ []) i j ≡ x) (sym at) (here numbers j)
    inner false e f = rw f (other e f)

    by : (b : Bool) → nat_le j rows ≡ b
        → (if b then j else get_or (numbers ++ x ∷ []) (j - rows - 1) j)
        ≡ (if nat_eq j (suc (rows + length numbers)) then x
        else if nat_le j rows then j else get_or numbers (j - rows - 1) j)
    by true e =
        let least = below_is j rows e in
        let apart : nat_eq j (suc (rows + length numbers)) ≡ false = differs j rows (length numbers) least in
        rw (apart, e) refl
    by false e = inner (nat_eq j (suc (rows + length numbers))) refl e

numbers_more : (rows : ℕ) (numbers : List ℕ) (x : ℕ)
    → number_in rows (numbers ++ x ∷ []) ≡ moved (number_in rows numbers) (suc (rows + length numbers)) x
numbers_more rows numbers x = λ i j. number_more rows numbers x j i

-- a line that is not needed leaves each number
unmoved : (rows : ℕ) (numbers : List ℕ) (j : ℕ)
    → moved (number_in rows numbers) (suc (rows + length numbers)) (suc (rows + length numbers)) j
    ≡ number_in rows numbers j
unmoved rows numbers j = by (nat_eq j (suc (rows + length numbers))) refl
  where
    over : (j rows n : ℕ) → j ≡ suc (rows + n) → nat_le j rows ≡ false
    over j rows n h = grind arith

    past : (ns : List ℕ) (d : ℕ) → get_or ns (length ns) d ≡ d
    past [] d = refl
    past (n ∷ ns) d = past ns d

    by : (b : Bool) → nat_eq j (suc (rows + length numbers)) ≡ b
        → (if b then suc (rows + length numbers) else number_in rows numbers j) ≡ number_in rows numbers j
    by true e =
        let same = same_number j (suc (rows + length numbers)) e in
        let above : nat_le j rows ≡ false = over j rows (length numbers) same in
        let at : j - rows - 1 ≡ length numbers = omega (arith, same) in
        let own : get_or numbers (j - rows - 1) j ≡ j =
        subst (λ (i : ℕ). get_or numbers i j ≡ j) (sym at) (past numbers j) in
        rw above (sym same ∙ sym own)
    by false e = refl

unmoved_all : (rows : ℕ) (numbers : List ℕ)
    → moved (number_in rows numbers) (suc (rows + length numbers)) (suc (rows + length numbers))
    ≡ number_in rows numbers
unmoved_all rows numbers = λ i j. unmoved rows numbers j i

-- a line more of those that are kept, by its mark
pub line_more : (rows at : ℕ) (numbers now : List ℕ) (old new : List Step) (mark : Bool) (marks : List Bool)
    (s : Step) (steps whole : List Step) → length numbers ≡ at
    → old ++ pruned (rows + at) (rows + length old) (number_in rows numbers) (mark ∷ marks) (s ∷ steps) ≡ whole
    → new ≡ old ++ one_if mark (renumbered (number_in rows numbers) s)
    → now ≡ numbers ++ suc (rows + number_of mark (length old) (length numbers)) ∷ []
    → new ++ pruned (rows + (at + 1)) (rows + length new) (number_in rows now) marks steps ≡ whole
line_more rows at numbers now old new true marks s steps whole each h made named =
    let f = number_in rows numbers in
    let kept = renumbered f s in
    let size : length new ≡ suc (length old) =
    ap length made ∙ (let l = length-append old (kept ∷ []) in omega arith) in
    let numbers' : number_in rows now ≡ moved f (suc (rows + at)) (suc (rows + length old)) =
    ap (number_in rows) named ∙ (numbers_more rows numbers (suc (rows + length old))
    ∙ ap (λ (i : ℕ). moved f (suc (rows + i)) (suc (rows + length old))) each) in
    let first : rows + (at + 1) ≡ suc (rows + at) = omega arith in
    let second : rows + length new ≡ suc (rows + length old) = omega (arith, size) in
    ap (λ (i : ℕ). new ++ pruned i (rows + length new) (number_in rows now) marks steps) first
    ∙ (ap (λ (i : ℕ). new ++ pruned (suc (rows + at)) i (number_in rows now) marks steps) second
    ∙ (ap (λ (g : ℕ → ℕ). new ++ pruned (suc (rows + at)) (suc (rows + length old)) g marks steps) numbers'
    ∙ (ap (λ (ls : List Step). ls ++ pruned (suc (rows + at)) (suc (rows + length old))
    (moved f (suc (rows + at)) (suc (rows + length old))) marks steps) made
    ∙ (append_assoc old (kept ∷ []) (pruned (suc (rows + at)) (suc (rows + length old))
    (moved f (suc (rows + at)) (suc (rows + length old))) marks steps) ∙ h))))
line_more rows at numbers now old new false marks s steps whole each h made named =
    let f = number_in rows numbers in
    let same : new ≡ old = made ∙ append-nil old in
    let numbers' : number_in rows now ≡ f =
    ap (number_in rows) named ∙ (numbers_more rows numbers (suc (rows + length numbers))
    ∙ unmoved_all rows numbers) in
    let first : rows + (at + 1) ≡ suc (rows + at) = omega arith in
    ap (λ (i : ℕ). new ++ pruned i (rows + length new) (number_in rows now) marks steps) first
    ∙ (ap (λ (g : ℕ → ℕ). new ++ pruned (suc (rows + at)) (rows + length new) g marks steps) numbers'
    ∙ (ap (λ (ls : List Step). ls ++ pruned (suc (rows + at)) (rows + length ls) f marks steps) same ∙ h))

pub one_longer : (numbers now : List ℕ) (x at : ℕ) → length numbers ≡ at → now ≡ numbers ++ x ∷ []
    → length now ≡ at + 1
one_longer numbers now x at each e = ap length e ∙ (let l = length-append numbers (x ∷ []) in omega (arith, each))

-- the same of lines of the code
pub line_kept : (rows at : ℕ) (numbers now : List ℕ) (old new : List Line) (mark : Bool) (marks : List Bool)
    (line : Line) (lines : List Line) (whole : List Step) → length numbers ≡ at → at < length marks
    → at < length lines → mark ≡ get_or marks at mark → line ≡ get_or lines at line
    → map step_of old ++ pruned (rows + at) (rows + length old) (number_in rows numbers) (drop at marks)
    (map step_of (drop at lines)) ≡ whole
    → map step_of new ≡ map step_of old ++ one_if mark (renumbered (number_in rows numbers) (step_of line))
    → now ≡ numbers ++ suc (rows + number_of mark (length old) (length numbers)) ∷ []
    → map step_of new ++ pruned (rows + (at + 1)) (rows + length new) (number_in rows now) (drop (at + 1) marks)
    (map step_of (drop (at + 1) lines)) ≡ whole
line_kept rows at numbers now old new mark marks line lines whole each low less is own h made named =
    let f = number_in rows numbers in
    let marks' : drop at marks ≡ mark ∷ drop (at + 1) marks =
    subst (λ (k : ℕ). drop at marks ≡ mark ∷ drop k marks) (sym (add-one at))
    (subst (λ (b : Bool). drop at marks ≡ b ∷ drop (suc at) marks) (sym is) (drop-cons marks at mark low)) in
    let lines' : drop at lines ≡ line ∷ drop (at + 1) lines =
    subst (λ (k : ℕ). drop at lines ≡ line ∷ drop k lines) (sym (add-one at))
    (subst (λ (l : Line). drop at lines ≡ l ∷ drop (suc at) lines) (sym own) (drop-cons lines at line less)) in
    let a = subst (λ (bs : List Bool). map step_of old ++ pruned (rows + at) (rows + length old) f bs
    (map step_of (drop at lines)) ≡ whole) marks' h in
    let b = subst (λ (ls : List Line). map step_of old ++ pruned (rows + at) (rows + length old) f
    (mark ∷ drop (at + 1) marks) (map step_of ls) ≡ whole) lines' a in
    let d = subst (λ (i : ℕ). map step_of old ++ pruned (rows + at) (rows + i) f
    (mark ∷ drop (at + 1) marks) (step_of line ∷ map step_of (drop (at + 1) lines)) ≡ whole)
    (sym (length_steps old)) b in
    let named' = subst (λ (i : ℕ). now ≡ numbers ++ suc (rows + number_of mark i (length numbers)) ∷ [])
    (sym (length_steps old)) named in
    subst (λ (i : ℕ). map step_of new ++ pruned (rows + (at + 1)) (rows + i) (number_in rows now)
    (drop (at + 1) marks) (map step_of (drop (at + 1) lines)) ≡ whole) (length_steps new)
    (line_more rows at numbers now (map step_of old) (map step_of new) mark (drop (at + 1) marks) (step_of line)
    (map step_of (drop (at + 1) lines)) whole each d made named')
