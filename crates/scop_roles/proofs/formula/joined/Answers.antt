use Rattle.scop_roles.proofs.formula.joined.Goals as goal

pub returns-in-Index : goal.returns-in-Index
returns-in-Index g c = rw c.in-Index.is c.join_index.ensures

pub returns-in-BareCall : goal.returns-in-BareCall
returns-in-BareCall g c = rw c.in-BareCall.is c.join_bare_call.ensures

pub returns-in-Call : goal.returns-in-Call
returns-in-Call g c = rw c.in-Call.is c.join_call.ensures

pub returns-in-Unary : goal.returns-in-Unary
returns-in-Unary g c = rw c.in-Unary.is c.join_unary.ensures

pub returns-in-Cast : goal.returns-in-Cast
returns-in-Cast g c = rw c.in-Cast.is c.join_cast.ensures

pub returns-in-Binary : goal.returns-in-Binary
returns-in-Binary g c = rw c.in-Binary.is c.join_sides.ensures
