-- Each row holds by computation.
-- Assumes nothing.
use mathlib.Core.Path.{refl}
use Rattle.headers.specs.First.{header_of, size_in, reserved_of}
use Rattle.accounts.specs.History.{list_to}
use Rattle.bench.specs.FirstBytes.{times, FirstBytes}

pub first_bytes : FirstBytes
unfolding header_of size_in reserved_of list_to times
first_bytes = record { kinds = refl; lengths = refl; reserved = refl }
