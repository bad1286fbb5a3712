-- The contracts of `Size::bytes`, `recover` and `send_length` are firm: each is an equation.
-- Assumes nothing.
use mathlib.Core.Path.{refl}
use Rattle.answers.specs.Firm.{Firm}
use Rattle.answers.proofs.Firm.{equation}
use Rattle.numbers.proofs.Size.bytes.Kinds as bytes
use Rattle.numbers.proofs.Size.bytes.Reads as counting
use Rattle.numbers.proofs.recover.Kinds as recover
use Rattle.numbers.proofs.recover.Reads as recovering
use Rattle.numbers.proofs.send_length.Kinds as send_length
use Rattle.numbers.proofs.send_length.Reads as sending

pub bytes_firm : Firm 0 bytes.ps bytes.r counting.Asked counting.Post
bytes_firm = equation refl

pub recover_firm : Firm 0 recover.ps recover.r recovering.Asked recovering.Post
recover_firm = equation refl

pub send_length_firm : Firm 0 send_length.ps send_length.r sending.Asked sending.Post
send_length_firm = equation refl
