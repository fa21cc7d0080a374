-- A session's text as the code keeps it: what the commands before wrote, what the present one wrote, and whether it was cut.
use Rattle.std.specs.Prelude.{ℕ, List, [], ◌++◌, Bool, true, false, if◌then◌else◌}
use Rattle.mars_session.specs.Lines.{memory_line}

pub record TextSeen : Type 0 where
  pub before : List ℕ
  pub present : List ℕ
  pub cut : Bool

-- a text that was begun
abbrev pub begun_text : List ℕ → TextSeen
begun_text line = record { before = line; present = []; cut = false }

-- one more line of the present command
abbrev pub text_with : TextSeen → List ℕ → TextSeen
text_with t line = record { before = t.before; present = t.present ++ line; cut = false }

-- the present command is done
abbrev pub text_done : TextSeen → TextSeen
text_done t = record { before = t.before ++ t.present; present = []; cut = false }

-- the present command was cut
abbrev pub text_cut : TextSeen → TextSeen
text_cut t = record { before = t.before; present = []; cut = true }

-- the whole text
abbrev pub text_bytes : TextSeen → List ℕ
text_bytes t = t.before ++ (if t.cut then memory_line else t.present)
