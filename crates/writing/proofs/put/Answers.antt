-- `writing::put` meets its contract: each piece is in range and has room after those before it, and together they are the frame.
use Rattle.wire.proofs.Writing.{bytes_written, bytes_unrefused}
use Rattle.sizes.proofs.Bounds.{bounded}
use Rattle.writing.proofs.Spelling.{head_unrefused, head_put, room_one, back_put}
use Rattle.writing.proofs.put.Goals as goal

pub returns-in_err-body : goal.returns-in_err-body
returns-in_err-body c =
    absurd (head_unrefused _ c.requires.0 c.requires.1 _ _ c.requires.2 c.front.ensures c.in_err-body.was)

pub put-requires : goal.put-requires
put-requires c =
    let x = head_put _ c.requires.0 c.requires.1 _ _ c.requires.2 c.front.ensures c.in_ok-body.was in
    rw c.find-l.ensures (bounded c.args.s.now c.args.p c.requires.1, room_one _ c.requires.0 c.requires.1 _ _ c.requires.2 x)

pub returns-in_err-rest : goal.returns-in_err-rest
returns-in_err-rest c =
    let x = head_put _ c.requires.0 c.requires.1 _ _ c.requires.2 c.front.ensures c.in_ok-body.was in
    absurd (bytes_unrefused _ _ _ (rw c.find-l.ensures at c.put.ensures) (room_one _ c.requires.0 c.requires.1 _ _ c.requires.2 x) c.in_err-rest.was)

pub returns : goal.returns
returns c =
    let x = head_put _ c.requires.0 c.requires.1 _ _ c.requires.2 c.front.ensures c.in_ok-body.was in
    let y = bytes_written _ _ _ (rw c.find-l.ensures at c.put.ensures) c.in_ok-rest.was in
    back_put _ c.requires.0 c.requires.1 _ _ c.requires.2 x y c.back.ensures
