-- How the writes of several texts compose, where a sink may tell what it has taken and how much it takes in all
-- (`send_then`, `next_put`, `written`, `flushed`).
use Rattle.std.proofs.Common.{◌≡◌, ◌∙◌, sym, ap, subst, refl, ℕ, ◌+◌, List, [], ◌++◌, length, take, drop, Option, None}
use Rattle.std.proofs.Common.{Some, Result, Ok, Err, append-nil, append_assoc, length-append, arith, OnOk, OnErr}
use Rattle.std.specs.Io.KnownBytes.{Appends, Keeps}
use Rattle.std.proofs.KnownBytes.{Appends-trans}
use Rattle.std.proofs.lemmas.List.{take-append-drop}
use Rattle.std.proofs.Math.Seq.{take-add}
use Rattle.io_ports.specs.Bytes.{GainsFront, SendsFront}
use Rattle.io_ports.specs.Writes.{SinkShows, IsWithin, HasRoom, IsCalm, Takes, FailsToTake, CutsOff, Writes, Sends}

-- ---- the bytes

-- a text that was written whole is a front of itself
pub whole_is_front : (old new : Option (List ℕ)) (text : List ℕ) → Appends old new text → GainsFront old new text
whole_is_front None new text all = tt
whole_is_front (Some old) None text all = all
whole_is_front (Some old) (Some new) text all = (text, [], sym (append-nil text), all)

-- where nothing was taken nothing was written
pub kept_is_nothing : (old new : Option (List ℕ)) → Keeps old new → Appends old new []
kept_is_nothing None new kept = tt
kept_is_nothing (Some old) None kept = kept
kept_is_nothing (Some old) (Some new) kept = kept ∙ sym (append-nil old)

-- a text was written whole, and then a front of another: a front of both together
pub front_then : (old mid new : Option (List ℕ)) (text more : List ℕ) → Appends old mid text → GainsFront mid new more
    → GainsFront old new (text ++ more)
front_then None mid new text more all part = tt
front_then (Some old) None new text more all part = absurd all
front_then (Some old) (Some mid) None text more all part = part
front_then (Some old) (Some mid) (Some new) text more all part = (
  text ++ part.0,
  part.1,
  ap (λ t. text ++ t) part.2 ∙ sym (append_assoc text part.0 part.1),
  part.3
      ∙ (ap (λ t. t ++ part.0) all ∙ append_assoc old text part.0),
)

-- a front of a text is a front of a longer one
front_of_longer : (old new : Option (List ℕ)) (text more : List ℕ) → GainsFront old new text
    → GainsFront old new (text ++ more)
front_of_longer None new text more part = tt
front_of_longer (Some old) None text more part = part
front_of_longer (Some old) (Some new) text more part =
    (part.0, part.1 ++ more, ap (λ t. t ++ more) part.2 ∙ append_assoc part.0 part.1 more, part.3)

-- where nothing more was taken, the text written before is a front
front_so_far : (old mid new : Option (List ℕ)) (text more : List ℕ) → Appends old mid text → Keeps mid new
    → GainsFront old new (text ++ more)
front_so_far None mid new text more all kept = tt
front_so_far (Some old) None new text more all kept = absurd all
front_so_far (Some old) (Some mid) None text more all kept = kept
front_so_far (Some old) (Some mid) (Some new) text more all kept = (text, more, refl, kept ∙ all)

-- texts that were put one after another were put together
sent_then : (old mid new : Option (List ℕ)) (p q r a b : List ℕ) → SendsFront old p mid q a → SendsFront mid q new r b
    → SendsFront old p new r (a ++ b)
sent_then None mid new p q r a b one two = tt
sent_then (Some old) None new p q r a b one two = absurd one
sent_then (Some old) (Some mid) None p q r a b one two = two
sent_then (Some old) (Some mid) (Some new) p q r a b one two = (
  one.0 ++ two.0,
  two.1 ∙ (ap (λ t. t ++ two.0) one.1 ∙ append_assoc old one.0 two.0),
  append_assoc one.0 two.0 r ∙ (ap (λ t. one.0 ++ t) two.2
      ∙ (sym (append_assoc one.0 q b) ∙ (ap (λ t. t ++ b) one.2 ∙ append_assoc p a b))),
)

-- a text was put, and then a front of what was pending and of another was sent on
sent_then_front : (old mid new : Option (List ℕ)) (p q a b : List ℕ) → SendsFront old p mid q a
    → GainsFront mid new (q ++ b) → GainsFront old new (p ++ (a ++ b))
sent_then_front None mid new p q a b put part = tt
sent_then_front (Some old) None new p q a b put part = absurd put
sent_then_front (Some old) (Some mid) None p q a b put part = part
sent_then_front (Some old) (Some mid) (Some new) p q a b put part = (
  put.0 ++ part.0,
  part.1,
  sym (append_assoc p a b) ∙ (ap (λ t. t ++ b) (sym put.2)
      ∙ (append_assoc put.0 q b ∙ (ap (λ t. put.0 ++ t) part.2 ∙ sym (append_assoc put.0 part.0 part.1)))),
  part.3 ∙ (ap (λ t. t ++ part.0) put.1 ∙ append_assoc old put.0 part.0),
)

-- a text was put, and then all that was pending was sent on
sent_then_all : (old mid new : Option (List ℕ)) (p q a : List ℕ) → SendsFront old p mid q a → Appends mid new q
    → Appends old new (p ++ a)
sent_then_all None mid new p q a put all = tt
sent_then_all (Some old) None new p q a put all = absurd put
sent_then_all (Some old) (Some mid) None p q a put all = all
sent_then_all (Some old) (Some mid) (Some new) p q a put all =
    all ∙ (ap (λ t. t ++ q) put.1 ∙ (append_assoc old put.0 q ∙ ap (λ t. old ++ t) put.2))

-- all that was pending was sent on, and then a text was written whole
sent_whole : (old mid new : Option (List ℕ)) (p text : List ℕ) → Appends old mid p → Appends mid new text
    → SendsFront old p new [] text
sent_whole None mid new p text all more = tt
sent_whole (Some old) None new p text all more = absurd all
sent_whole (Some old) (Some mid) None p text all more = more
sent_whole (Some old) (Some mid) (Some new) p text all more =
    (p ++ text, more ∙ (ap (λ t. t ++ text) all ∙ append_assoc old p text), append-nil (p ++ text))

-- all that was pending was sent on, and then a text was kept back
sent_then_kept : (old new : Option (List ℕ)) (p text : List ℕ) → Appends old new p → SendsFront old p new text text
sent_then_kept None new p text all = tt
sent_then_kept (Some old) None p text all = all
sent_then_kept (Some old) (Some new) p text all = (p, all, refl)

-- a text was kept back behind what was pending
all_kept : (taken : Option (List ℕ)) (p text : List ℕ) → SendsFront taken p taken (p ++ text) text
all_kept None p text = tt
all_kept (Some taken) p text = ([], sym (append-nil taken), refl)

-- ---- the room

-- room for a text is room for its front
pub room_for_front : (limit : Option ℕ) (taken : Option (List ℕ)) (text more : List ℕ)
    → IsWithin limit taken (text ++ more) → IsWithin limit taken text
room_for_front None taken text more room = room
room_for_front (Some limit) None text more room = room
room_for_front (Some limit) (Some taken) text more room = omega (arith, length-append text more, room)

-- the room behind a text that was written
room_behind : (limit : Option ℕ) (old mid : Option (List ℕ)) (text more : List ℕ) → Appends old mid text
    → IsWithin limit old (text ++ more) → IsWithin limit mid more
room_behind None old mid text more all room = room
room_behind (Some limit) None mid text more all room = absurd room
room_behind (Some limit) (Some old) None text more all room = absurd all
room_behind (Some limit) (Some old) (Some mid) text more all room =
    omega (arith, ap length all, length-append old text, length-append text more, room)

-- the room behind a text that was put
room_behind_sent : (limit : Option ℕ) (old mid : Option (List ℕ)) (p q a b : List ℕ) → SendsFront old p mid q a
    → IsWithin limit old (p ++ (a ++ b)) → IsWithin limit mid (q ++ b)
room_behind_sent None old mid p q a b put room = room
room_behind_sent (Some limit) None mid p q a b put room = absurd room
room_behind_sent (Some limit) (Some old) None p q a b put room = absurd put
room_behind_sent (Some limit) (Some old) (Some mid) p q a b put room =
    omega (
      arith,
      ap length put.1,
      length-append old put.0,
      ap length put.2,
      length-append put.0 q,
      length-append p a,
      length-append q b,
      length-append p (a ++ b),
      length-append a b,
      room,
    )

-- ---- the writes

-- calm twice is calm
pub calm_then : (old mid new : SinkShows) → IsCalm old mid → IsCalm mid new → IsCalm old new
calm_then old mid new one two = record { faults = two.faults ∙ one.faults; limit = two.limit ∙ one.limit }

-- there is room for the second of two texts once the first was written
pub room_next : (old mid : SinkShows) (text more : List ℕ) → Takes old mid text → HasRoom old (text ++ more)
    → IsCalm old mid × HasRoom mid more
room_next old mid text more all room =
    let calm = all.calm (room_for_front old.limit old.taken text more room) in (
      calm,
      subst (λ limit. IsWithin limit mid.taken more) (sym calm.limit)
          (room_behind old.limit old.taken mid.taken text more all.gained room),
    )

-- there is room for what is pending and another text once the first was put
room_next_put : (old mid : SinkShows) (p q a b : List ℕ) → Sends old p mid q a → HasRoom old (p ++ (a ++ b))
    → IsCalm old mid × HasRoom mid (q ++ b)
room_next_put old mid p q a b put room =
    let first = room_for_front old.limit old.taken (p ++ a) b
    (subst (λ t. IsWithin old.limit old.taken t) (sym (append_assoc p a b)) room) in
    let calm = put.calm first in (
      calm,
      subst (λ limit. IsWithin limit mid.taken (q ++ b)) (sym calm.limit)
          (room_behind_sent old.limit old.taken mid.taken p q a b put.sent room),
    )

-- two texts were written: both together
pub take_then : (old mid new : SinkShows) (text more : List ℕ) → Takes old mid text → Takes mid new more
    → Takes old new (text ++ more)
take_then old mid new text more all next = record {
  gained = Appends-trans old.taken mid.taken new.taken text more all.gained next.gained;
  later = omega (arith, all.later, next.later);
  calm = λ room. let second = room_next old mid text more all room in
      calm_then old mid new second.0 (next.calm second.1);
}

-- a text was written, and the next cut off: both together were
pub take_then_cut : (old mid new : SinkShows) (text more : List ℕ) → Takes old mid text → CutsOff mid new more
    → CutsOff old new (text ++ more)
take_then_cut old mid new text more all cut = record {
  gained = front_then old.taken mid.taken new.taken text more all.gained cut.gained;
  later = omega (arith, all.later, cut.later);
  cause = record {
    rose = omega (arith, all.later, cut.cause.rose);
    full = λ room. cut.cause.full (room_next old mid text more all room).1;
  };
}

-- a text was written, and a call for the next failed: both together were cut off
pub take_then_fail : (old mid new : SinkShows) (text more : List ℕ) → Takes old mid text → FailsToTake mid new more
    → CutsOff old new (text ++ more)
take_then_fail old mid new text more all fail = record {
  gained = front_so_far old.taken mid.taken new.taken text more all.gained fail.kept;
  later = omega (arith, all.later, fail.later);
  cause = record {
    rose = omega (arith, all.later, fail.cause.rose);
    full = λ room. fail.cause.full (room_next old mid text more all room).1;
  };
}

-- a text that was cut off is cut off where more follows
pub cut_of_longer : (old new : SinkShows) (text more : List ℕ) → CutsOff old new text → CutsOff old new (text ++ more)
cut_of_longer old new text more cut = record {
  gained = front_of_longer old.taken new.taken text more cut.gained;
  later = cut.later;
  cause = record {
    rose = cut.cause.rose;
    full = λ room.
        cut.cause.full (room_for_front old.limit old.taken text more room);
  };
}

-- a text is written by a write of its next front
pub take_next : (old mid new : SinkShows) (at count : ℕ) (text : List ℕ) → Takes old mid (take at text)
    → Takes mid new (take count (drop at text)) → Takes old new (take (at + count) text)
take_next old mid new at count text all next =
    subst (λ t. Takes old new t) (sym (take-add at count text))
    (take_then old mid new (take at text) (take count (drop at text)) all next)

-- a text is cut off where a call for the rest of it failed
pub take_stopped : (old mid new : SinkShows) (at : ℕ) (text : List ℕ) → Takes old mid (take at text)
    → FailsToTake mid new (drop at text) → CutsOff old new text
take_stopped old mid new at text all fail =
    subst (λ t. CutsOff old new t) (take-append-drop at text)
    (take_then_fail old mid new (take at text) (drop at text) all fail)

-- texts that were put one after another were put together
pub send_then : (old mid new : SinkShows) (p q r a b : List ℕ) → Sends old p mid q a → Sends mid q new r b
    → Sends old p new r (a ++ b)
send_then old mid new p q r a b one two = record {
  sent = sent_then old.taken mid.taken new.taken p q r a b one.sent two.sent;
  later = omega (arith, one.later, two.later);
  calm = λ room. let second = room_next_put old mid p q a b one room in
      calm_then old mid new second.0 (two.calm second.1);
}

-- a text was put, and the next cut off with what was pending: both together were
pub send_then_cut : (old mid new : SinkShows) (p q a b : List ℕ) → Sends old p mid q a → CutsOff mid new (q ++ b)
    → CutsOff old new (p ++ (a ++ b))
send_then_cut old mid new p q a b one cut = record {
  gained = sent_then_front old.taken mid.taken new.taken p q a b one.sent cut.gained;
  later = omega (arith, one.later, cut.later);
  cause = record {
    rose = omega (arith, one.later, cut.cause.rose);
    full = λ room. cut.cause.full (room_next_put old mid p q a b one room).1;
  };
}

-- what was cut off is cut off where another text follows
pub cut_before : (old new : SinkShows) (p a b : List ℕ) → CutsOff old new (p ++ a) → CutsOff old new (p ++ (a ++ b))
cut_before old new p a b cut = subst (λ t. CutsOff old new t) (append_assoc p a b)
    (cut_of_longer old new (p ++ a) b cut)

-- all that was pending was sent on, and then a text was written whole
pub send_whole : (old mid new : SinkShows) (p text : List ℕ) → Takes old mid p → Takes mid new text
    → Sends old p new [] text
send_whole old mid new p text all more =
    let both = take_then old mid new p text all more in
    record {
      sent = sent_whole old.taken mid.taken new.taken p text all.gained more.gained;
      later = both.later;
      calm = both.calm;
    }

-- all that was pending was sent on, and then a text was kept back
pub send_then_keep : (old new : SinkShows) (p text : List ℕ) → Takes old new p → Sends old p new text text
send_then_keep old new p text all = record {
  sent = sent_then_kept old.taken new.taken p text all.gained;
  later = all.later;
  calm = λ room. all.calm (room_for_front old.limit old.taken p text room);
}

-- a text was kept back behind what was pending
pub keep_all : (sink : SinkShows) (p text : List ℕ) → Sends sink p sink (p ++ text) text
keep_all sink p text = record {
  sent = all_kept sink.taken p text;
  later = omega arith;
  calm = λ room. record { faults = refl; limit = refl };
}

-- a text was put, and then all that was pending was sent on
pub send_then_all : (old mid new : SinkShows) (p q a : List ℕ) → Sends old p mid q a → Takes mid new q
    → Takes old new (p ++ a)
send_then_all old mid new p q a put all =
    let next : (room : HasRoom old (p ++ a)) → IsCalm old mid × HasRoom mid (q ++ []) =
    λ room. room_next_put old mid p q a [] put (subst (λ t. HasRoom old (p ++ t)) (sym (append-nil a)) room) in
    record {
      gained = sent_then_all old.taken mid.taken new.taken p q a put.sent all.gained;
      later = omega (arith, put.later, all.later);
      calm = λ room. calm_then old mid new (next room).0
          (all.calm (subst (λ t. HasRoom mid t) (append-nil q) (next room).1));
    }

-- a text was put, and then what was pending was cut off
pub send_then_pending : (old mid new : SinkShows) (p q a : List ℕ) → Sends old p mid q a → CutsOff mid new q
    → CutsOff old new (p ++ a)
send_then_pending old mid new p q a put cut =
    subst (λ t. CutsOff old new (p ++ t)) (append-nil a)
    (send_then_cut old mid new p q a [] put (subst (λ t. CutsOff mid new t) (sym (append-nil q)) cut))

-- a text that is put piece by piece: what was put so far, the next piece, and the rest
pub next_put : (old mid new : SinkShows) (p q r done piece rest text : List ℕ) → done ++ (piece ++ rest) ≡ text
    → Sends old p mid q done → Sends mid q new r piece
    → (more : List ℕ) × (more ++ rest ≡ text) × Sends old p new r more
next_put old mid new p q r done piece rest text whole before next =
    (done ++ piece, append_assoc done piece rest ∙ whole, send_then old mid new p q r done piece before next)

-- the next piece was cut off: the text was
pub next_piece_cut : (old mid new : SinkShows) (p q done piece rest text : List ℕ) → done ++ (piece ++ rest) ≡ text
    → Sends old p mid q done → CutsOff mid new (q ++ piece)
    → CutsOff old new (p ++ text)
next_piece_cut old mid new p q done piece rest text whole before cut =
    subst (λ t. CutsOff old new (p ++ t)) (append_assoc done piece rest ∙ whole)
    (cut_before old new p (done ++ piece) rest (send_then_cut old mid new p q done piece before cut))

-- a text was put behind nothing, and what was pending of it was written or cut off: the text was
pub written : {E : Type 0} (old mid new : SinkShows) (pending rest text : List ℕ) (result : Result (Unit {0}) E)
    → pending ≡ [] → Sends old pending mid rest text
    → Writes mid new rest result → Writes old new text result
written old mid new pending rest text (Ok done) none put all =
    send_then_all old mid new [] rest text (subst (λ p. Sends old p mid rest text) none put) all
written old mid new pending rest text (Err failed) none put cut =
    send_then_pending old mid new [] rest text (subst (λ p. Sends old p mid rest text) none put) cut

-- a text was written, and then the sink was flushed, or that failed
pub flushed : {E : Type 0} (old mid new : SinkShows) (text : List ℕ) (result : Result (Unit {0}) E) → Takes old mid text
    → OnOk result (Takes mid new [])
    → OnErr result (FailsToTake mid new []) → Writes old new text result
flushed old mid new text (Ok done) all took failed =
    subst (λ t. Takes old new t) (append-nil text) (take_then old mid new text [] all took)
flushed old mid new text (Err error) all took failed =
    subst (λ t. CutsOff old new t) (append-nil text) (take_then_fail old mid new text [] all failed)
