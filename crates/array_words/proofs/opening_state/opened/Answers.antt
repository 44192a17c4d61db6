use Rattle.scop_syntax.proofs.Common.{rules, ◌≡◌, ◌∷◌, ◌+◌, ◌<◌, ◌∙◌, List, ℕ, length, ap, subst, sym}
use Rattle.tile_core.specs.Plans.{HasRest, shape_of}
use Rattle.tile_core.proofs.Gates.{tiles_are}
use Rattle.array_words.proofs.OpeningState.{opening_held}
use Rattle.array_words.proofs.opening_state.opened.Goals as goal

pub of_words-made-requires : goal.of_words-made-requires
of_words-made-requires c =
    let plan = c.args.plan in
    let cells = c.in_ok-of.field-0 in
    let same : cells.items ≡ c.args.cells.now.items = search rules in
    let row : c.words.result.now ≡ 0 ∷ 0 ∷ cells.items = search rules in
    let wide = c.requires.cells in
    let tiles = tiles_are plan in
    let few : (shape_of plan).tiles + c.args.workers < 18446744073709551615 = search rules in
    opening_held c.all_interleavings_agree.ensures.start
    (record { plan = plan; cells = cells; workers = c.args.workers }) c.words.result.now
    (c.plans_are_good.ensures.good plan cells.items c.requires.plan)
    (c.plans_are_good.ensures.dealt plan cells.items c.requires.plan)
    row (ap length same ∙ wide) (subst (λ (xs : List ℕ). HasRest plan xs) (sym same) c.requires.rest) few
