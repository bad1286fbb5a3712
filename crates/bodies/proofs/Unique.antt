-- The contracts of `past`, `front`, `back`, `counted` and `identity` are firm: each is an equation, of the answer or of the answer and the output.
-- Assumes nothing.
use mathlib.Core.Path.{refl}
use Rattle.answers.specs.Firm.{Firm}
use Rattle.answers.proofs.Firm.{equation, outcome_equation}
use Rattle.bodies.proofs.past.Kinds as past
use Rattle.bodies.proofs.past.Reads as passing
use Rattle.bodies.proofs.front.Kinds as front
use Rattle.bodies.proofs.front.Reads as fronting
use Rattle.bodies.proofs.back.Kinds as back
use Rattle.bodies.proofs.back.Reads as backing
use Rattle.bodies.proofs.counted.Kinds as counted
use Rattle.bodies.proofs.counted.Reads as counting
use Rattle.bodies.proofs.identity.Kinds as identity
use Rattle.bodies.proofs.identity.Reads as identifying

pub past_firm : Firm 0 past.ps past.r passing.Asked passing.Post
past_firm = equation refl

pub front_firm : Firm 1 front.ps front.r fronting.Asked fronting.Post
front_firm = outcome_equation (λ κs a w. (w, (tt, (tt, tt)))) refl

pub back_firm : Firm 1 back.ps back.r backing.Asked backing.Post
back_firm = outcome_equation (λ κs a w. (w, (tt, (tt, tt)))) refl

pub counted_firm : Firm 2 counted.ps counted.r counting.Asked counting.Post
counted_firm = outcome_equation (λ κs a w. (w, (tt, (tt, tt)))) refl

pub identity_firm : Firm 3 identity.ps identity.r identifying.Asked identifying.Post
identity_firm = outcome_equation (λ κs a w. (w, (tt, (tt, (tt, tt))))) refl
