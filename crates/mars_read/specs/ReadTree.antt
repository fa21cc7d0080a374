-- What reading the text of a tree gives.
use Rattle.std.specs.Prelude.{◌≡◌, ◌++◌, ℕ, List, map, true}
use Rattle.mars_grammar.specs.declared.Which.{Which}
use Rattle.mars_grammar.specs.FormTable.{Event}
use Rattle.mars_grammar.specs.Building.{Build, both}
use Rattle.mars_tree.specs.Graph.{Node}
use Rattle.mars_forms.specs.declared.lexeme.Lexeme.{Lexeme}
use Rattle.mars_forms.specs.declared.symbol.FormSymbol.{FormSymbol}
use Rattle.mars_forms.specs.declared.symbol.FormAction.{FormAction}
use Rattle.mars_forms.specs.declared.table.TheConstants.{TREE}
use Rattle.mars_clauses.specs.declared.counts.InputCounts.{InputCounts}
use Rattle.mars_clauses.specs.declared.limits.OverLimit.{OverLimit}
use Rattle.mars_clauses.specs.Limits.{counting, nothing_counted}
use Rattle.mars_graphs.specs.Systems.{EquationSystem, IsSolution}
use Rattle.mars_graphs.specs.Steps.{nothing_written, writes_all, system_of}
use Rattle.mars_graphs.specs.Making.{made_graph, made_root}
use Rattle.mars_read.specs.declared.error.ReadError.{ReadError}
use Rattle.mars_read.specs.declared.reading.TreeParts.{TreeParts}
use Rattle.mars_read.specs.Spellings.{Spellings, spellings_from, all_names}
use Rattle.mars_read.specs.Spelled.{spelled_out, events_told}
use Rattle.mars_scripts.specs.declared.trees.TreeMaker.{TreeMaker}
use Rattle.mars_scripts.specs.Trees.{tree_making, no_tree, steps_told}
use Rattle.mars_read.specs.Refused.{IsReadAs, IsRefusedAs, either_limit}

-- what is made of the text of a tree: names, counts and a graph
abbrev pub TreeValue : Type 0
TreeValue = Spellings × (InputCounts × TreeMaker)

abbrev pub tree_building : Build (Event FormSymbol Lexeme FormAction) TreeValue (Which OverLimit OverLimit)
tree_building = spelled_out (both counting tree_making)

-- the beginning of it, over these names
abbrev pub tree_begins : List ℕ → List (List ℕ) → TreeValue
tree_begins bytes names = (spellings_from bytes names, (nothing_counted true, no_tree))

-- the text is read, and this is made of it
abbrev pub IsTreeText : List ℕ → List (List ℕ) → TreeValue → Type 0
IsTreeText bytes names w = IsReadAs true TREE.now tree_building (tree_begins bytes names) bytes w

-- the text is refused so
abbrev pub IsNoTreeText : List ℕ → List (List ℕ) → ReadError → Type 0
IsNoTreeText bytes names e = IsRefusedAs true TREE.now tree_building (tree_begins bytes names) bytes either_limit e

-- the system of equations that events write
abbrev pub system_told : Spellings → List (Event FormSymbol Lexeme FormAction) → EquationSystem
system_told v es = system_of (writes_all nothing_written (steps_told (events_told v es)))

-- A text of a tree, the names before and after it, and the graph and root that it gives: the solution of the system that it writes.
pub record IsReadTree (bytes : List ℕ) (old new : List (List ℕ)) (g : List Node) (root : ℕ) : Type 0 where
  pub value : TreeValue
  pub read : IsTreeText bytes old value
  pub names : new ≡ all_names value.0
  pub graph : g ≡ made_graph value.1.1.graph
  pub root_is : root ≡ made_root value.1.1.graph
  pub solves : IsSolution (system_told (spellings_from bytes old) read.events) g root

-- the names that were there are at their places
abbrev pub KeepsNames : List (List ℕ) → List (List ℕ) → Type 0
KeepsNames old new = (more : List (List ℕ)) × (new ≡ old ++ more)

-- the code's parts of what is made
pub record HasTreeParts (bytes : List ℕ) (names : List (List ℕ)) (parts : TreeParts) : Type 0 where
  pub value : TreeValue
  pub read : IsTreeText bytes names value
  pub added : map (λ text. text.items) parts.added.keys ≡ value.0.added
  pub graph : parts.graph ≡ value.1.1.graph
