-- The contracts of `has_room` and `clash` are firm: each is an equation of the answer.
-- Assumes nothing.
use mathlib.Core.Path.{refl}
use Rattle.answers.specs.Firm.{Firm}
use Rattle.answers.proofs.Firm.{equation}
use Rattle.clashes.proofs.has_room.Kinds as has_room
use Rattle.clashes.proofs.has_room.Reads as has_room_reads
use Rattle.clashes.proofs.clash.Kinds as clash
use Rattle.clashes.proofs.clash.Reads as clash_reads

pub has_room_firm : Firm 3 has_room.ps has_room.r has_room_reads.Asked has_room_reads.Post
has_room_firm = equation refl

pub clash_firm : Firm 3 clash.ps clash.r clash_reads.Asked clash_reads.Post
clash_firm = equation refl
