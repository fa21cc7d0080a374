-- The law of reading back: a text that can be written is read, and what is read is the graph that was printed.
use Rattle.std.specs.Prelude.{◌≡◌, ◌<◌, ◌≤◌, ◌+◌, ◌-◌, ◌^◌, ℕ, List, [], ◌∷◌, length, false, All}
use Rattle.mars_tree.specs.Graph.{Node}
use Rattle.mars_tree.specs.Canonical.{KeepsWalks}
use Rattle.mars_tree.specs.Names.{AreDistinct}
use Rattle.mars_canon.specs.Canon.{Rooted, IsCanon}
use Rattle.mars_tokens.specs.declared.limits.TheConstants.{NESTING_LIMIT}
use Rattle.mars_graphs.specs.Systems.{Equation}
use Rattle.mars_read.specs.declared.error.ReadError.{ReadError}
use Rattle.mars_read.specs.declared.error.ReadError.TheVariants as error
use Rattle.mars_read.specs.declared.error.TheConstants.{TEXT_LIMIT}
use Rattle.mars_read.specs.ReadTree.{IsReadTree, IsNoTreeText}
use Rattle.mars_print.specs.Text.{text}
use Rattle.mars_back.specs.Written.{by_number, reference_side, equations_up_to, brackets_open, IsWritable}

-- A canonical graph whose text is within the limits, and whose labels are such as a tree can write.
pub record IsWritten (names : List (List ℕ)) (c : Rooted) (root : ℕ) : Type 0 where
  pub form : IsCanon c
  pub root_is : c.roots ≡ root ∷ []
  pub count : length c.nodes < 2 ^ 64
  pub labels : All (λ (node : Node). IsWritable names node.label) c.nodes
  pub size : length (text names c) ≤ TEXT_LIMIT
  -- in the root's reference and in each definition
  pub nesting : brackets_open false (reference_side by_number c root) ≤ NESTING_LIMIT
  pub definitions : All (λ (e : Equation). brackets_open false e.side ≤ NESTING_LIMIT) (equations_up_to by_number c (length c.nodes))

-- What is read of the text: no name more than there were, and the graph that was printed. Nothing is refused but out of memory.
pub record IsReadBack (names : List (List ℕ)) (c : Rooted) : Type 0 where
  pub names_kept : (new : List (List ℕ)) (g : List Node) (start : ℕ) → IsReadTree (text names c) names new g start → new ≡ names
  pub same : (new : List (List ℕ)) (g : List Node) (start : ℕ) → IsReadTree (text names c) names new g start → (d : Rooted) → IsCanon d → KeepsWalks g (start ∷ []) d.nodes d.roots → d ≡ c
  pub accepted : (e : ReadError) → IsNoTreeText (text names c) names e → e ≡ error.NoMemory

-- Each text that is written is read back, under the names that it was printed with. Bytes and names are as many as the reader takes.
abbrev pub TextsReadBack : Type 0
TextsReadBack = (names : List (List ℕ)) (c : Rooted) (root : ℕ) → AreDistinct names → length (text names c) + length names < 2 ^ 32 - 1 → IsWritten names c root → IsReadBack names c
