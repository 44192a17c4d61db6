use Rattle.std.proofs.Common.{◌≡◌, ◌∙◌, ap, subst, sym, arith, take, length, ◌-◌}
use Rattle.scop_lexer.specs.Bytes.{is_fresh}
use Rattle.scop_lexer.specs.Stands.{HasRoom, stands, stands_at}
use Rattle.scop_lexer.proofs.Rooms.{stands_at_room}
use Rattle.scop_lexer.proofs.stands.stands_at.Goals as goal

pub returns-in-None-clause-within : goal.returns-in-None-clause-within
returns-in-None-clause-within c = grind (arith, c.in-None.ensures.cases, c.split_at.ensures.back_len)

pub returns-in-Some-clause-within : goal.returns-in-Some-clause-within
unfolding stands_at
returns-in-Some-clause-within c =
    let text = c.args.text.now in
    let at = c.args.at in
    let is : c.begin.result ≡ stands_at text at =
    c.begin.ensures
    ∙ (ap (λ f. stands (is_fresh f) c.split_at.result.1.now) c.split_at.ensures.front
    ∙ ap (stands (is_fresh (take at text))) c.split_at.ensures.back) in
    subst (HasRoom (length text - at)) (sym is) (stands_at_room text at)
