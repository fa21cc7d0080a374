-- Whether the root of a node's tree is known.
use Rattle.std.proofs.Common.{◌≡◌, ℕ, ◌<◌, [], length, Option, Some, None, MatchOption, sym}
use Rattle.mars_tree.specs.declared.label.Label.{Label}
use Rattle.mars_tree.specs.Graph.{label_of}
use Rattle.mars_store.specs.System.{System, IsSystem, resolve}
use Rattle.mars_store.specs.Laws.{IsForced, IsUnforced}
use Rattle.mars_store.proofs.Solving.{solution-over}
use Rattle.mars_store.proofs.Plain.{free_unforced}

pub root-known : (system : System) (n : ℕ) (o : Option Label) → IsSystem system → n < length system.nodes → o ≡ label_of system.nodes (resolve system.bound n)
    → MatchOption o (IsUnforced system n []) (IsForced system n [])
root-known system n None sound h e = free_unforced system sound n h (sym e)
root-known system n (Some label) sound h e = λ v sol. solution-over system v sol n label (sym e) []
