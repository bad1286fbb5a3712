-- What the plain first byte says: 0 and the kind of packet, or 110, "Retry, bit 0x40 clear". (docs/RULES.md, "How firm each statement is".)
use Rattle.std.specs.Prelude.{List, [], ◌∷◌, Option, Some, None}
use Rattle.answers.specs.Answers.{Said, accepting, refusing}
use Rattle.answers.specs.declared.Answer.TheVariants as Answer'
use Rattle.kinds.specs.declared.Kind.{Kind}

abbrev pub header_says : Option Kind → Said (List Kind)
header_says (Some kind) = accepting (kind ∷ [])
header_says None = refusing Answer'.NoPacket []
