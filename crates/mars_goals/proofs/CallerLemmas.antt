-- For callers: a goal list stays while lists are added after it, and taken away after it.
use Rattle.std.proofs.Common.{◌≡◌, ℕ, ◌<◌, List, [], ◌++◌, length, take}
use Rattle.std.proofs.lemmas.List.{get_or_append_left, get_or-take}
use Rattle.mars_goals.specs.declared.cells.Pending.{Pending}
use Rattle.mars_goals.specs.GoalLists.{list_at}

pub list_kept : (lists more : List (List Pending)) (list : ℕ) → list < length lists → list_at (lists ++ more) list ≡ list_at lists list
list_kept lists more list h = get_or_append_left lists more [] list h

pub list_left : (size : ℕ) (lists : List (List Pending)) (list : ℕ) → list < size → list_at (take size lists) list ≡ list_at lists list
list_left size lists list h = get_or-take size lists list [] h
