use Rattle.scop_pass.proofs.pass.Pass.change_step.Goals as goal

pub returns-in-Nothing : goal.returns-in-Nothing
returns-in-Nothing c = rw c.in-Nothing.is c.first_sign.ensures

pub returns-in-Count : goal.returns-in-Count
returns-in-Count c = rw c.in-Count.is c.counted_sign.ensures

pub returns-in-Name : goal.returns-in-Name
returns-in-Name c = rw c.in-Name.is c.named_sign.ensures

pub returns-in-Assignment : goal.returns-in-Assignment
returns-in-Assignment c = rw c.in-Assignment.is c.hold.ensures
