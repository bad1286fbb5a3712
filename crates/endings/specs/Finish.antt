-- A packet after its frames: "If all pass, the number is recorded"; a refused packet leaves the records as they were.
use Rattle.answers.specs.Choice.{◌⇒◌∣◌}
use Rattle.answers.specs.declared.Answer.{Answer}
use Rattle.answers.specs.declared.Answer.TheVariants.{Accepted}
use Rattle.kinds.specs.Kinds.{space_of}
use Rattle.answers.specs.Answers.{accepts}
use Rattle.spaces.specs.Spaces.{recorded_of}
use Rattle.packets.specs.declared.Begun.{Begun}
use Rattle.spaces.specs.declared.Records.{Records}
use Rattle.steps.specs.declared.Stopped.{Stopped}
use Rattle.endings.specs.declared.Took.{Took}

-- the connection and the place where the walk stopped, with an answer and records
abbrev pub took_as : Stopped → Answer → Records → Took
took_as w answer rs = record { answer = answer; place = w.place; conn = w.conn; records = rs }

unfoldable pub finish_of : Begun → Stopped → Records → Took
finish_of begun w rs =
    accepts begun.answer ⇒ (
    accepts w.answer ⇒ took_as w Accepted (recorded_of rs (space_of begun.kind) begun.number)
    ∣ took_as w w.answer rs)
    ∣ took_as w begun.answer rs
