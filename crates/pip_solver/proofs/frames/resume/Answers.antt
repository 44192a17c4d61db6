use Rattle.whole_numbers.proofs.Common.{rules, ◌≡◌, ◌∙◌, ◌++◌, ◌∷◌, [], FitsSigned, w128, to_z-of_z}
use Rattle.quast_trees.specs.Postfix.{standing}
use Rattle.pip_solver.specs.declared.frames.Frame.TheVariants as frame
use Rattle.pip_solver.proofs.FrameStack.{take_binding, take_joining, take_second}
use Rattle.pip_solver.proofs.frames.resume.Goals as goal

pub loop-form-preserved-in-Ok : goal.loop-form-preserved-in-Ok
loop-form-preserved-in-Ok c =
    let inv = c.loop-form.invariant in
    let x = c.in-Some-Binding in
    let trees = standing c.loop-form.builder in
    let fits : FitsSigned w128 x.divisor = search rules in
    let popped : c.loop-form.frames.items ≡ c.pop.new.self.items ++ frame.Binding x.form x.divisor ∷ [] =
    search rules in
    let made = simp to_z-of_z at c.in-Ok.ensures.bound in
    let t = take_binding c.loop-form.frames.items c.pop.new.self.items x.form x.divisor trees (standing c.bind.new.self)
    popped inv.0 made in
    (t.stands, λ n left. inv.1 n left ∙ t.runs n left, inv.2 ∙ t.waiting, λ n are. t.ready n (inv.3 n are))

pub loop-form-preserved : goal.loop-form-preserved
loop-form-preserved c =
    let inv = c.loop-form.invariant in
    let x = c.in-Some-Joining in
    let trees = standing c.loop-form.builder in
    let popped : c.loop-form.frames.items ≡ c.pop.new.self.items ++ frame.Joining x.test ∷ [] = search rules in
    let t = take_joining c.loop-form.frames.items c.pop.new.self.items x.test trees (standing c.branch-error.new.self)
    popped inv.0 c.in_Ok-error-in-Some-Joining.ensures.joined in
    (t.stands, λ n left. inv.1 n left ∙ t.runs n left, inv.2 ∙ t.waiting, λ n are. t.ready n (inv.3 n are))

pub returns-in-Ok-put : goal.returns-in-Ok-put
returns-in-Ok-put c =
    let inv = c.loop-form.invariant in
    let x = c.in-Some-Second in
    let trees = standing c.loop-form.builder in
    let popped : c.loop-form.frames.items ≡ c.pop.new.self.items ++ frame.Second x.test x.node ∷ [] = search rules in
    let pushed : c.put.new.frames.items ≡ c.pop.new.self.items ++ frame.Joining x.test ∷ [] = search rules in
    let t = take_second c.loop-form.frames.items c.pop.new.self.items c.put.new.frames.items x.test x.node trees popped
    pushed inv.0 in
    (λ n left. inv.1 n left ∙ t.runs n left, t.stands, inv.2 ∙ t.waiting, λ n are. t.ready n (inv.3 n are))
