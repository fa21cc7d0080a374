-- What a command does, by the session's own names and its latest ask: it writes a line, it calls the table, or it derives.
use Rattle.std.specs.Prelude.{◌≡◌, ◌⊎◌, ⊤, ℕ, ◌<◌, List, [], ◌∷◌, ◌++◌, nat_eq, length, Option, Some, None, position, slice_index_or}
use Rattle.mars_tree.specs.declared.label.NameId.{NameId}
use Rattle.mars_tree.specs.Graph.{Node}
use Rattle.mars_reach.specs.Reach.{ReachesFree, ReachesNoFree}
use Rattle.mars_canon.specs.Canon.{Rooted}
use Rattle.mars_canon.specs.Tree.{IsTree, IsSameTree, most_nodes}
use Rattle.mars_term.specs.declared.clause.Ask.{Ask}
use Rattle.mars_script.specs.declared.script.Command.{Command}
use Rattle.mars_script.specs.declared.script.Command.TheVariants as command
use Rattle.mars_rows.specs.TreeGraph.{IsTreeGraphOf}
use Rattle.mars_table.specs.declared.entry.Call.{Call}
use Rattle.mars_table.specs.declared.entry.Call.TheVariants.{Intern, Pin, Show, Drop, Sweep, Count}
use Rattle.mars_table.specs.declared.entry.Reply.{Reply}
use Rattle.mars_table.specs.declared.entry.Reply.TheVariants.{Kept, Full, Pinned, Shown, Dropped, Swept, Counted}
use Rattle.mars_session.specs.declared.named.Named.{Named}
use Rattle.mars_session.specs.declared.named.TreeForm.{TreeForm}
use Rattle.mars_session.specs.declared.named.TreeForm.TheVariants.{Free, Large, Small}
use Rattle.mars_session.specs.Lines.{name_taken_line, no_name_line, no_answer_line, no_variable_line, not_ground_line, too_large_line, same_yes_line, same_no_line, kept_line, full_line, pinned_line, shown_line, dropped_line, swept_line, rows_line}
use Rattle.mars_session.specs.SessionPoints.{SessionPoint, LatestAsk, under_name, named_trees, without_name}

-- what a command wants of the table: to keep a tree under a name, one more pin on what a name has, under another name; to show
-- what a name has, or to drop it; a sweep, or the counts
pub data TableUse : Type 0 where
  Keeps : NameId → List Node → TableUse
  Pins : NameId → Named → TableUse
  Shows : NameId → Named → TableUse
  Drops : NameId → Named → TableUse
  Sweeps : TableUse
  Counts : TableUse

-- what a command does: it writes a line and nothing else, it calls the table, or it derives with kept trees
pub data CommandAct : Type 0 where
  Writes : List ℕ → CommandAct
  Uses : TableUse → CommandAct
  Asks : Ask → List (List Node) → CommandAct

-- what becomes of the tree of node `n`: it has a free leaf, it has so many distinct subtrees, more than a `Tree` may have, or it
-- is a `Tree`
abbrev pub IsTreeForm : List Node → ℕ → TreeForm → Type 0
IsTreeForm g n Free = ReachesFree g n
IsTreeForm g n (Large count) = ReachesNoFree g n × ((tree : List Node) × IsTreeGraphOf g n tree × (length tree ≡ count) × (most_nodes < count))
IsTreeForm g n (Small tree) = ReachesNoFree g n × IsTreeGraphOf g n tree × IsTree tree

-- keeping it under a name that isn't taken
abbrev pub form_act : NameId → TreeForm → CommandAct
form_act name Free = Writes not_ground_line
form_act name (Large count) = Writes (too_large_line count)
form_act name (Small tree) = Uses (Keeps name tree)

abbrev pub KeepsTree : NameId → List Node → ℕ → CommandAct → Type 0
KeepsTree name g n act = (form : TreeForm) × IsTreeForm g n form × (act ≡ form_act name form)

-- `put` keeps the tree of a node
abbrev pub PutActs : Option Named → NameId → List Node → ℕ → CommandAct → Type 0
PutActs (Some taken) name g n act = act ≡ Writes name_taken_line
PutActs None name g n act = KeepsTree name g n act

-- `ask` derives where each kept name has a tree
abbrev pub ask_act : Ask → Option (List (List Node)) → CommandAct
ask_act ask None = Writes no_name_line
ask_act ask (Some kept) = Asks ask kept

-- the place of a variable among those of an ask
abbrev pub variable_place : List NameId → NameId → Option ℕ
variable_place vars var = position (λ v. nat_eq v.0 var.0) vars

-- `keep` keeps the tree of a variable in the last answer of the latest ask that ran
abbrev pub KeepsRoot : NameId → Rooted → Option ℕ → CommandAct → Type 0
KeepsRoot name c None act = act ≡ Writes no_variable_line
KeepsRoot name c (Some place) act = KeepsTree name c.nodes (slice_index_or c.roots place 0) act

abbrev pub KeepsVariable : NameId → NameId → List NameId → Option Rooted → CommandAct → Type 0
KeepsVariable name var vars None act = act ≡ Writes no_answer_line
KeepsVariable name var vars (Some c) act = KeepsRoot name c (variable_place vars var) act

abbrev pub KeepsLatest : NameId → NameId → Option LatestAsk → CommandAct → Type 0
KeepsLatest name var None act = act ≡ Writes no_answer_line
KeepsLatest name var (Some latest) act = KeepsVariable name var latest.vars latest.answer act

abbrev pub KeepActs : Option Named → NameId → NameId → Option LatestAsk → CommandAct → Type 0
KeepActs (Some taken) name var latest act = act ≡ Writes name_taken_line
KeepActs None name var latest act = KeepsLatest name var latest act

-- `same` compares the trees of two names
abbrev pub SameActs : Option Named → Option Named → CommandAct → Type 0
SameActs (Some left) (Some right) act = (IsSameTree left.tree right.tree × (act ≡ Writes same_yes_line)) ⊎ ((IsSameTree left.tree right.tree → ⊥) × (act ≡ Writes same_no_line))
SameActs (Some left) None act = act ≡ Writes no_name_line
SameActs None right act = act ≡ Writes no_name_line

abbrev pub show_act : NameId → Option Named → CommandAct
show_act name (Some n) = Uses (Shows name n)
show_act name None = Writes no_name_line

-- `pin` puts one more pin on what the old name has, for the new one
abbrev pub pin_act : NameId → Option Named → Option Named → CommandAct
pin_act new None taken = Writes no_name_line
pin_act new (Some old) (Some taken) = Writes name_taken_line
pin_act new (Some old) None = Uses (Pins new old)

abbrev pub drop_act : NameId → Option Named → CommandAct
drop_act name (Some n) = Uses (Drops name n)
drop_act name None = Writes no_name_line

-- what a command does at a point
unfoldable pub ActsAt : SessionPoint → Command → CommandAct → Type 0
ActsAt p (command.Put name graph root) act = PutActs (under_name p.names name) name graph root act
ActsAt p (command.Ask ask) act = act ≡ ask_act ask (named_trees p.names ask.kept)
ActsAt p (command.Keep name var) act = KeepActs (under_name p.names name) name var p.latest act
ActsAt p (command.Same left right) act = SameActs (under_name p.names left) (under_name p.names right) act
ActsAt p (command.Show name) act = act ≡ show_act name (under_name p.names name)
ActsAt p (command.Pin new old) act = act ≡ pin_act new (under_name p.names old) (under_name p.names new)
ActsAt p (command.Drop name) act = act ≡ drop_act name (under_name p.names name)
ActsAt p command.Sweep act = act ≡ Uses Sweeps
ActsAt p command.Count act = act ≡ Uses Counts

-- its call of the table
abbrev pub call_of : TableUse → Call
call_of (Keeps name tree) = Intern tree
call_of (Pins name old) = Pin old.handle
call_of (Shows name n) = Show n.handle
call_of (Drops name n) = Drop n.handle
call_of Sweeps = Sweep
call_of Counts = Count

-- a reply that answers a call: it is of the call's kind
abbrev pub AnswersCall : Call → Reply → Type 0
AnswersCall (Intern tree) (Kept h) = ⊤
AnswersCall (Intern tree) (Full rows fresh cap) = ⊤
AnswersCall (Pin h) Pinned = ⊤
AnswersCall (Show h) (Shown tree) = ⊤
AnswersCall (Drop h) Dropped = ⊤
AnswersCall Sweep (Swept gone) = ⊤
AnswersCall Count (Counted rows pins) = ⊤
AnswersCall _ _ = ⊥

-- the line that a reply to an intern writes, and the names after it
abbrev pub keep_line : List (List ℕ) → NameId → Reply → List ℕ
keep_line names name (Kept h) = kept_line names name h.0
keep_line names name (Full rows fresh cap) = full_line rows fresh cap
keep_line names name _ = []

abbrev pub names_with : List Named → NameId → List Node → Reply → List Named
names_with names name tree (Kept h) = names ++ record { name = name; tree = tree; handle = h } ∷ []
names_with names name tree _ = names

abbrev pub sweep_line : Reply → List ℕ
sweep_line (Swept gone) = swept_line gone
sweep_line _ = []

abbrev pub count_line : Reply → List ℕ
count_line (Counted rows pins) = rows_line rows pins
count_line _ = []

-- the line that a reply writes: numbers come from it, and trees from the session itself
abbrev pub use_line : List (List ℕ) → TableUse → Reply → List ℕ
use_line names (Keeps name tree) reply = keep_line names name reply
use_line names (Pins name old) reply = pinned_line names name old.handle.0
use_line names (Shows name n) reply = shown_line names name n.tree
use_line names (Drops name n) reply = dropped_line names name
use_line names Sweeps reply = sweep_line reply
use_line names Counts reply = count_line reply

-- the names after it
abbrev pub names_after : List Named → TableUse → Reply → List Named
names_after names (Keeps name tree) reply = names_with names name tree reply
names_after names (Pins name old) reply = names ++ record { name = name; tree = old.tree; handle = old.handle } ∷ []
names_after names (Shows name n) reply = names
names_after names (Drops name n) reply = without_name name names
names_after names Sweeps reply = names
names_after names Counts reply = names
