-- Inside a text: its bytes, of which those up to a mark are the commands' that are done; and room for the line `memory`.
use Rattle.std.specs.Prelude.{◌≡◌, ◌+◌, ◌≤◌, [], length, take, drop, true, false, if◌then◌else◌}
use Rattle.mars_session.specs.Lines.{memory_line}
use Rattle.mars_session.specs.TextSeen.{TextSeen}
use Rattle.mars_session.specs.declared.text.SessionText.TheInside.{Inside}

abbrev pub text_of_inside : Inside → TextSeen
text_of_inside t = record { before = take t.mark t.bytes.items; present = if t.was_cut then [] else drop t.mark t.bytes.items; cut = t.was_cut }

pub record IsTextKept (t : Inside) : Type 0 where
  pub mark : t.mark ≤ length t.bytes.items
  pub room : t.was_cut ≡ false → t.bytes.len + 7 ≤ t.bytes.cap
  pub cut : t.was_cut ≡ true → drop t.mark t.bytes.items ≡ memory_line
