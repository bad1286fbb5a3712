-- How many bytes a frame has, or that it cannot be written.
use Rattle.std.specs.Prelude.{ℕ, not, length, Option, Some, None}
use Rattle.answers.specs.Choice.{◌⇒◌∣◌}
use Rattle.contents.specs.Content.{Content}
use Rattle.contents.specs.Taken.{takes}
use Rattle.sizes.specs.Spelled.{spelled_frame}

unfoldable pub measured_of : Content → Option ℕ
measured_of f =
    not (takes f) ⇒ None
    ∣ Some (length (spelled_frame f))
