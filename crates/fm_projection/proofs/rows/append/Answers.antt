use Rattle.whole_numbers.proofs.Common.{refl}
use Rattle.fm_projection.proofs.JoinedLists.{chain-stop}
use Rattle.fm_projection.proofs.rows.append.Goals as goal

pub returns-in-Err : goal.returns-in-Err
returns-in-Err c run h = chain-stop c.in-Err.stop run _ (rw c.in-Err.is at h)

pub returns-in-Ok-push : goal.returns-in-Ok-push
returns-in-Ok-push c run h = let e = rw c.in-Ok.is at h in rw (e, c.in-Ok-push.ensures.pushed) refl
