-- What a call on the writer of a line leaves of it. Assumes nothing.
use Rattle.std.specs.Prelude.{◌≡◌, ℕ, ◌+◌, List, length}
use Rattle.columns.specs.Put.{put}
use Rattle.sheets.specs.declared.lines.LineWriter.{LineWriter}

-- bytes, of which there are so many, are put at the place reached
pub record Puts (before after : LineWriter) (bytes : List ℕ) (count : ℕ) : Type 0 where
  pub same_buffer : after.out.ghost_name ≡ before.out.ghost_name
  pub same_length : length after.out.now ≡ length before.out.now
  pub wrote : after.out.now ≡ put before.out.now before.at bytes
  pub counted : length bytes ≡ count
  pub next : after.at ≡ before.at + count
