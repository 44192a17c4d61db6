use Rattle.scop_syntax.proofs.Common.{rules, ◌≡◌, ◌-◌, ◌++◌, ◌∷◌, length, map, length-map, test_of, tree_of}
use Rattle.scop_syntax.specs.Tree as scop
use Rattle.scop_pass.specs.Machine as machine
use Rattle.scop_pass.specs.Passing.{frames_of, state_of}
use Rattle.scop_units.specs.Programs.{wrapped}
use Rattle.scop_pass.proofs.CompletedHeads.{close_guard, close_loop}
use Rattle.scop_pass.proofs.pass.Pass.close.Goals as goal

pub returns-in_ok-wrap_guard-in-Some-Guarded-clause-state : goal.returns-in_ok-wrap_guard-in-Some-Guarded-clause-state
returns-in_ok-wrap_guard-in-Some-Guarded-clause-state c =
    let old = state_of c.args.self.now in
    let ts = map test_of c.in-Some-Guarded.tests.items in
    let outer = map tree_of c.in-Some-Guarded.outer.items in
    let fs = frames_of c.pop_frame.new.frames.items in
    let trees = map tree_of c.wrap_guard.new.trees.items in
    let is : old.frames ≡ machine.guarded ts outer ∷ fs =
    rw c.in-Some-Guarded.field-0-is at c.in-Some-Guarded.ensures.frames in
    let long = length-map c.in-Some-Guarded.tests.items test_of in
    let counts : c.saturating_sub-self.result ≡ old.comparisons - length ts = rw long (search rules) in
    let grown : trees ≡ outer ++ wrapped (scop.guard ts) old.trees = search rules in
    close_guard old ts outer trees fs c.saturating_sub-self.result is counts grown

pub returns-in_ok-wrap_loop-in-Some-Looped-clause-state : goal.returns-in_ok-wrap_loop-in-Some-Looped-clause-state
returns-in_ok-wrap_loop-in-Some-Looped-clause-state c =
    let old = state_of c.args.self.now in
    let outer = map tree_of c.in-Some-Looped.outer.items in
    let fs = frames_of c.pop_frame.new.frames.items in
    let trees = map tree_of c.wrap_loop.new.trees.items in
    let names = map (λ n. n.items) c.pop_name.new.names.items in
    let is : old.frames ≡ machine.looped c.in-Some-Looped.head outer ∷ fs =
    rw c.in-Some-Looped.field-0-is at c.in-Some-Looped.ensures.frames in
    let grown : trees ≡ outer ++ wrapped (scop.loop c.in-Some-Looped.head) old.trees = search rules in
    close_loop old c.in-Some-Looped.head outer trees fs names is c.pop_name.ensures grown
