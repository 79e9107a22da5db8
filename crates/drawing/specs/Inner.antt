-- What the private functions speak of. No caller needs these definitions: the promise is in Picture.
use Rattle.std.specs.Prelude.{ℕ, ◌+◌, ◌≤◌, ◌≡◌, List, length}
use Rattle.plane.specs.Lists.{pasted}
use Rattle.drawing.specs.declared.Paper.{Paper}

-- a paper has room for more bytes
abbrev pub HasRoom : Paper → List ℕ → Type 0
HasRoom p bytes = p.len + length bytes ≤ length p.room.now

-- a paper with more bytes, of the same output, which is otherwise as it was
abbrev pub with_bytes : Paper → List ℕ → Paper
with_bytes p bytes = record { room = record p.room { now = pasted p.room.now p.len bytes }; len = p.len + length bytes }

-- bytes are drawn on a paper after those that are there, if all have room
pub record Draws (before : Paper) (bytes : List ℕ) (after : Paper) : Type 0 where
  pub drawn : HasRoom before bytes → after ≡ with_bytes before bytes
