use Rattle.scop_syntax.proofs.Common.{rules, ◌≡◌, ◌<◌, length, get_or, arith, instance_of}
use Rattle.loop_tree.proofs.Braids.{braid_behind, braid_fits, braid_next, braid_none}
use Rattle.loop_tree.proofs.braid.Braid.next.Goals as goal

pub returns-then-strand-eq0-clause-none : goal.returns-then-strand-eq0-clause-none
returns-then-strand-eq0-clause-none c =
    let b = c.args.self.now in
    let d = c.index-self-self.result in
    let all : length b.strands ≡ 4 = search rules in
    let empty : (get_or b.strands b.at d).left ≡ 0 = grind (arith, c.if-strand-eq0.true) in
    λ e. braid_none b d c.requires all empty

pub step-found-requires-clause-fits : goal.step-found-requires-clause-fits
step-found-requires-clause-fits c =
    let b = c.args.self.now in
    let d = c.index-self-self.result in
    let all : length b.strands ≡ 4 = search rules in
    let some : 0 < (get_or b.strands b.at d).left = grind (arith, c.if-strand-eq0.false) in
    braid_fits b d c.requires all some

pub returns-clause-rest : goal.returns-clause-rest
returns-clause-rest c =
    let b = c.args.self.now in
    let all : length b.strands ≡ 4 = search rules in
    braid_next b c.index-self-self.result c.step-found.new.self (instance_of c.step-found.result)
    c.turn_behind-self.result c.requires all c.step-found.ensures c.turn_behind-self.ensures.next

pub returns-clause-braid : goal.returns-clause-braid
returns-clause-braid c =
    let b = c.args.self.now in
    let all : length b.strands ≡ 4 = search rules in
    braid_behind b c.index-self-self.result c.step-found.new.self (instance_of c.step-found.result)
    c.turn_behind-self.result c.requires all c.step-found.ensures c.turn_behind-self.ensures.next
    c.turn_behind-self.ensures.turn
