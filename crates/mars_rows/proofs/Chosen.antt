-- The key under which the index has a component: what it tells, and which nodes it has.
use Rattle.std.proofs.Common.{◌≡◌, ℕ, List, ◌∙◌, sym, Some, slice_get, Contains}
use Rattle.mars_tree.specs.Graph.{Node}
use Rattle.mars_comp.specs.KeyLaws.{IsParted}
use Rattle.mars_comp.specs.Least.{IsMember}
use Rattle.mars_comp.specs.declared.items.Item.{Item}
use Rattle.mars_comp.proofs.KeyTrees.{members}
use Rattle.mars_comp.proofs.LeastTrees.{round_all}
use Rattle.mars_first.specs.First.{Narrows}
use Rattle.mars_first.specs.First.Narrows.{done, step}
use Rattle.mars_first.specs.FirstLaws.{FirstKeysTell}
use Rattle.mars_first.proofs.FirstTrees.{first_tell}
use Rattle.mars_rows.specs.IndexInside.{IsChosen}

pub chosen_tell : FirstKeysTell
chosen_tell = first_tell

start_in : (g : List Node) (parts outside : List ℕ) (start : ℕ) (nodes : List ℕ) → Narrows g parts outside start nodes → Contains nodes start
start_in g parts outside start nodes (done all alike there) = there
start_in g parts outside start nodes (step all left is rest) = ((is.selects.are start).0 (start_in g parts outside start left rest)).0

module _ (g : List Node) (parts outside : List ℕ) (n : ℕ) (nodes : List ℕ) (key : List Item) (parted : IsParted g parts) (is : IsChosen g parts outside n nodes key) where
  start_member : IsMember g parts n is.start
  start_member = (is.members is.start).0 (start_in g parts outside is.start is.all is.narrows)

  -- its nodes are of the component
  pub chosen_member : (p i : ℕ) → slice_get nodes p ≡ Some i → IsMember g parts n i
  chosen_member p i e =
      let m = members g parts is.start nodes parted.graph parted.components.size start_member.within is.is.order p i e in
      record { within = m.within; beside = m.beside ∙ start_member.beside }

  -- each node of the component is one of them
  pub chosen_all : (m : ℕ) → IsMember g parts n m → Contains nodes m
  chosen_all m member =
      round_all g parts parted.graph parted.components is.start m nodes start_member.within is.is.order
      (record { within = member.within; beside = member.beside ∙ sym start_member.beside })
