-- What sessions give that run side by side.
use Rattle.std.specs.Prelude.{◌≡◌, ◌↔◌, ℕ, List, Bool, true, false, Option, Some, slice_get}
use Rattle.mars_script.specs.declared.script.Input.{Input}
use Rattle.mars_script.specs.declared.words.Options.{Options}
use Rattle.mars_table.specs.declared.entry.Entry.{Entry}
use Rattle.mars_session.specs.SessionPoints.{SessionPart, session_parts}
use Rattle.mars_session.specs.WholeRuns.{IsWholeRun, IsCutRun}

-- a history and a text that are whole but for the sessions that were cut; `cut` tells whether there are such, and where there
-- are none they are whole
pub record GivesCutRun (parts : List SessionPart) (rows : ℕ) (history : List Entry) (text : List ℕ) (cut : Bool) : Type 0 where
  pub cuts : List (Option ℕ)
  pub runs : IsCutRun parts rows history text cuts
  pub tells : (cut ≡ true) ↔ ((i : ℕ) × (j : ℕ) × (slice_get cuts i ≡ Some (Some j)))
  pub whole : cut ≡ false → IsWholeRun parts rows history text

-- those of an input
abbrev pub GivesCutRunOf : Input → Options → List Entry → List ℕ → Bool → Type 0
GivesCutRunOf input options history text cut = GivesCutRun (session_parts input options) options.rows history text cut
