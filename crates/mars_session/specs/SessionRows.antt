-- Worked rows: small scripts, with the replies that they get, and what the session alone writes.
use Rattle.std.specs.Prelude.{◌≡◌, ℕ, List, [], ◌∷◌, codes, Some, None}
use Rattle.mars_tree.specs.declared.label.NameId.{NameId}
use Rattle.mars_tree.specs.declared.label.Label.TheVariants.{Name}
use Rattle.mars_tree.specs.Graph.{Node, labelled}
use Rattle.mars_answer.specs.declared.answers.Answer.{Answer}
use Rattle.mars_term.specs.declared.term.Term.{Term}
use Rattle.mars_term.specs.declared.term.Term as term
use Rattle.mars_term.specs.declared.clause.Goal.TheVariants as goal
use Rattle.mars_term.specs.declared.clause.Ask.{Ask}
use Rattle.mars_term.specs.declared.clause.Version.TheVariants.{One}
use Rattle.mars_script.specs.declared.script.Command.{Command}
use Rattle.mars_script.specs.declared.script.Command.TheVariants as command
use Rattle.mars_table.specs.declared.entry.Handle.{Handle}
use Rattle.mars_table.specs.declared.entry.Call.{Call}
use Rattle.mars_table.specs.declared.entry.Call.TheVariants as call
use Rattle.mars_table.specs.declared.entry.Reply.{Reply}
use Rattle.mars_table.specs.declared.entry.Reply.TheVariants as reply
use Rattle.mars_session.specs.SessionPoints.{SessionPart}
use Rattle.mars_session.specs.SessionAlone.{IsSessionAlone}

-- the spellings, and the names `aa`, `tt`, `uu`, `ff` and `zz`
abbrev pub row_spellings : List (List ℕ)
row_spellings = codes "aa" ∷ codes "tt" ∷ codes "uu" ∷ codes "ff" ∷ codes "zz" ∷ []

abbrev pub row_name : ℕ → NameId
row_name place = record { 0 = place }

-- a session `aa` of commands, without rules, each ask of at most five steps
abbrev pub row_part : List Command → SessionPart
row_part commands = record { who = 0; name = row_name 0; commands = commands; rules = record { rules = []; version = One }; names = row_spellings; budget = 5 }

-- x = ff(x)
abbrev pub over_ff : List Node
over_ff = labelled (Name (row_name 3) 1) (0 ∷ []) ∷ []

-- the number 0
abbrev pub first_handle : Handle
first_handle = record { 0 = 0 }

-- `put tt x where x = ff(x); pin uu tt; show uu; drop tt; sweep; count; show uu; drop zz;`
abbrev pub table_script : List Command
table_script =
    command.Put (row_name 1) over_ff 0 ∷ command.Pin (row_name 2) (row_name 1) ∷ command.Show (row_name 2) ∷ command.Drop (row_name 1)
    ∷ command.Sweep ∷ command.Count ∷ command.Show (row_name 2) ∷ command.Drop (row_name 4) ∷ []

abbrev pub table_replies : List Reply
table_replies = reply.Kept first_handle ∷ reply.Pinned ∷ reply.Shown over_ff ∷ reply.Dropped ∷ reply.Swept 0 ∷ reply.Counted 1 1 ∷ reply.Shown over_ff ∷ []

abbrev pub table_calls : List Call
table_calls = call.Intern over_ff ∷ call.Pin first_handle ∷ call.Show first_handle ∷ call.Drop first_handle ∷ call.Sweep ∷ call.Count ∷ call.Show first_handle ∷ []

abbrev pub table_text : List ℕ
table_text = codes "session aa\nkept tt #0\npinned uu #0\nshown uu = _1 where _1 = ff(_1)\ndropped tt\nswept 0\nrows 1, pins 1\nshown uu = _1 where _1 = ff(_1)\nno name\n"

-- `ask ; ask 0 zz;`
abbrev pub ask_nothing : Ask
ask_nothing = record { most = None; goals = []; vars = []; kept = [] }

abbrev pub ask_none : Ask
ask_none = record { most = Some 0; goals = goal.Call (term.Name (row_name 4) []) ∷ []; vars = []; kept = [] }

abbrev pub ask_script : List Command
ask_script = command.Ask ask_nothing ∷ command.Ask ask_none ∷ []

abbrev pub ask_written : List ℕ
ask_written = codes "session aa\nanswer 1: yes\nend 1\nenough 0\n"

-- an answer without roots, as a machine tells it
pub record HasNoRoots (told : Answer) : Type 0 where
  pub canon : told.canon ≡ record { nodes = []; roots = [] }
  pub vars : told.vars ≡ 0
  pub difs : told.difs ≡ 0
  pub frozen : told.frozen ≡ 0

pub record SessionRows : Type 0 where
  -- each kind of table call: a tree is kept, pinned under another name, shown, and dropped; a sweep and the counts; a name that
  -- isn't there
  pub table : IsSessionAlone (row_part table_script) table_replies table_text table_calls
  -- an ask of no goals has one step, which is its answer; an ask of which no answer is wanted has one event, and no step
  pub asks : (told : Answer) → HasNoRoots told → IsSessionAlone (row_part ask_script) [] ask_written []
