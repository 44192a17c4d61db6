-- What is read is whole: a row has the parts of its statements.
use Rattle.std.proofs.Common.{◌≡◌, ◌∙◌, ap, ap₂, sym, refl, ℕ, suc, Bool, true, false, List, [], ◌∷◌, length, map, ◌==◌}
use Rattle.std.proofs.Common.{if◌then◌else◌, Option, Some, None, codes}
use Rattle.std.proofs.lemmas.Bool.{eqb-true}
use Rattle.std.proofs.lemmas.Option.{none-some, same_Some}
use Rattle.scop_lexer.specs.Bytes.{Text}
use Rattle.form_text.specs.Reading.{strip, when}
use Rattle.schedule_lines.specs.Lines.{Part, Row}
use Rattle.schedule_lines.specs.Reading.{behind_label, bound_in, list_in, numeral_in, part_in, parts_in, place_in}
use Rattle.schedule_lines.specs.Reading.{row_in, shifted, whole}

-- what comes behind something that was read
pub when_some : {A B : Type 0} (o : Option A) (f : A → Option B) (b : B) → when o f ≡ Some b
    → (a : A) × (o ≡ Some a) × (f a ≡ Some b)
when_some None f b e = absurd (none-some b e)
when_some (Some a) f b e = (a, refl, e)

pub if_some : {A : Type 0} (t : Bool) (o : Option A) (a : A) → (if t then o else None) ≡ Some a
    → (t ≡ true) × (o ≡ Some a)
if_some true o a e = (refl, e)
if_some false o a e = absurd (none-some a e)

shifted_has : (n : ℕ) (cs : List ℕ × Text) (p : Part × Text) → shifted n cs ≡ Some p → length p.0.coefficients ≡ n
shifted_has n cs p e =
    let t = if_some (length cs.0 == n) _ p e in
    let d = when_some (strip (codes " + ") cs.1) _ p t.1 in
    let s = when_some (numeral_in d.0) _ p d.2 in
    sym (ap (λ (q : Part × Text). length q.0.coefficients) (same_Some _ p s.2)) ∙ eqb-true (length cs.0) n t.0

part_has : (at n : ℕ) (text : Text) (p : Part × Text) → part_in at n text ≡ Some p → length p.0.coefficients ≡ n
part_has at n text p e =
    let l = when_some (behind_label at text) _ p e in
    let cs = when_some (list_in l.0) _ p l.2 in shifted_has n cs.0 p cs.2

parts_have : (at : ℕ) (loops : List ℕ) (text : Text) (ps : List Part × Text) → parts_in at loops text ≡ Some ps
    → map (λ p. length p.coefficients) ps.0 ≡ loops
parts_have at [] text ps e = ap (λ (q : List Part × Text). map (λ p. length p.coefficients) q.0) (sym (same_Some _ ps e))
parts_have at (n ∷ ns) text ps e =
    let p = when_some (part_in at n text) _ ps e in
    let qs = when_some (parts_in (suc at) ns p.0.1) _ ps p.2 in
    ap (λ (q : List Part × Text). map (λ p. length p.coefficients) q.0) (sym (same_Some _ ps qs.2))
    ∙ ap₂ (λ k ks. k ∷ ks) (part_has at n text p.0 p.1) (parts_have (suc at) ns p.0.1 qs.0 qs.1)

pub whole_is : {A : Type 0} (x : A) (text : Text) (y : A) → whole x text ≡ Some y → x ≡ y
whole_is x [] y e = same_Some x y e
whole_is x (b ∷ bs) y e = absurd (none-some y e)

pub row_has : (loops : List ℕ) (text : Text) (r : Row) → row_in loops text ≡ Some r
    → map (λ p. length p.coefficients) r.parts ≡ loops
row_has loops text r e =
    let k = when_some (place_in text) _ r e in
    let u = when_some (bound_in k.0.1) _ r k.2 in
    let p = when_some (parts_in 0 loops u.0.1) _ r u.2 in
    ap (λ (q : Row). map (λ p. length p.coefficients) q.parts) (sym (whole_is _ p.0.1 r p.2))
    ∙ parts_have 0 loops u.0.1 p.0 p.1
