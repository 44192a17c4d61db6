-- The names of a program that a text spells are words as emitted texts need them.
use Rattle.scop_syntax.proofs.Common.{◌≡◌, refl, Bool, true, false, List, [], ◌∷◌, ◌++◌, inl, inr, ◌==◌, ◌≢◌, All}
use Rattle.scop_syntax.proofs.Common.{Option, None, codes, if◌then◌else◌, eqb-true, All-head, All-tail, In, Tree, loop}
use Rattle.scop_syntax.proofs.Common.{guard, statement, Trees, none, more, Program}
use Rattle.scop_lexer.specs.Bytes.{Text}
use Rattle.scop_parser.specs.DistinctNames.{AreDistinct}
use Rattle.scop_parser.specs.Names.{HasFreeNames, IsFreeName, TakeFree, TakesFree}
use Rattle.form_text.specs.Names.{AreNames, IsFresh}
use Rattle.form_text.specs.Reading.{strip}
use Rattle.form_text.proofs.Names.{variable_name}
use Rattle.c_printer.specs.Naming.{AreFree, HasWords, TakesWords, TakeWords}

-- bytes that do not stand in front of a text are not taken off it
if_none : (t : Bool) (o : Option Text) → (t ≡ true → o ≡ None) → (if t then o else None) ≡ None
if_none true o h = h refl
if_none false o h = refl

strip_none : (front text : Text) → ((rest : Text) → text ≢ front ++ rest) → strip front text ≡ None
strip_none [] text h = absurd (h text refl)
strip_none (p ∷ ps) [] h = refl
strip_none (p ∷ ps) (b ∷ bs) h =
    if_none (p == b) (strip ps bs) (λ same. strip_none ps bs (λ rest e. h rest (begins rest (eqb-true p b same) e)))
  where
    begins : (rest : Text) → p ≡ b → bs ≡ ps ++ rest → b ∷ bs ≡ p ∷ (ps ++ rest)
    begins rest same e = cc

is_fresh : (name : Text) (names : List Text) → (In name names → ⊥) → IsFresh name names
is_fresh name [] out = tt
is_fresh name (other ∷ names) out = ((λ e. out (inl e)), is_fresh name names (λ i. out (inr i)))

are_names : (names : List Text) → All IsFreeName names → AreDistinct names → AreNames names
are_names [] all apart = tt
are_names (name ∷ names) all apart = (
  variable_name name (All-head IsFreeName name names all).0,
  is_fresh name names (λ i. apart.0 name i refl),
  are_names names (All-tail IsFreeName name names all) apart.1,
)

are_free : (names : List Text) → All IsFreeName names → AreFree names
are_free [] all = tt
are_free (name ∷ names) all = (
  strip_none (codes "pp_") name (All-head IsFreeName name names all).1,
  are_free names (All-tail IsFreeName name names all),
)

-- loops take words
mutual
  takes_words : (names : List Text) (t : Tree) → TakesFree names t → TakesWords names t
  takes_words names (loop head body) h = (
    variable_name head.iterator h.0.0,
    strip_none (codes "pp_") head.iterator h.0.1,
    is_fresh head.iterator names h.1,
    take_words (names ++ head.iterator ∷ []) body h.2,
  )
  takes_words names (guard tests body) h = take_words names body h
  takes_words names (statement s) h = tt

  take_words : (names : List Text) (ts : Trees) → TakeFree names ts → TakeWords names ts
  take_words names none h = tt
  take_words names (more t ts) h = (takes_words names t h.0, take_words names ts h.1)

-- a program of free names has words
pub has_words : (program : Program) → HasFreeNames program → HasWords program
has_words program h =
    record {
      names = are_names program.parameters h.parameters h.distinct;
      free = are_free program.parameters h.parameters;
      loops = take_words program.parameters program.body h.loops;
    }
