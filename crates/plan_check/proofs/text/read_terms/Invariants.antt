-- The terms so far, in front of what is still read, are all.
use Rattle.scop_syntax.proofs.Common.{◌≡◌, ◌-◌, length, map}
use Rattle.schedule_lines.proofs.ReadLists.{joined}
use Rattle.plan_check.specs.Text.{terms_in}
use Rattle.plan_check.specs.TextView.{term_view}
use Rattle.plan_check.proofs.text.read_terms.Given as goal

abbrev pub invariant-loop-step : goal.invariant-loop-step
invariant-loop-step l = joined (map term_view l.found.items) (terms_in (length l.text - l._step) l.rest)
    ≡ terms_in (length l.text) l.text
