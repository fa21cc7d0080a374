-- What every solution of a system has at the end of a walk: the place of a root in a list of nodes, and a path.
use Rattle.std.specs.Prelude.{◌≡◌, ◌↔◌, ℕ, List, ◌++◌, length, slice_get, Option, Some, None, option_and_then}
use Rattle.mars_tree.specs.declared.label.Label.{Label}
use Rattle.mars_tree.specs.Graph.{Node, Shown, label as at_label}
use Rattle.mars_tree.specs.Canonical.{walk_shows, EndAlike}
use Rattle.mars_store.specs.Valuation.{Valuation, value}
use Rattle.mars_store.specs.System.{System}
use Rattle.mars_store.specs.Solutions.{InSol}

-- what the tree of a walk's root shows at the end of its path
abbrev pub walk_value : Valuation → List ℕ → ℕ × List ℕ → Option Shown
walk_value v roots walk = option_and_then (λ root. value v root walk.1) (slice_get roots walk.0)

-- a walk and a path more
abbrev pub further : ℕ × List ℕ → List ℕ → ℕ × List ℕ
further walk rest = (walk.0, walk.1 ++ rest)

-- the label is forced: every solution has it at the end of the walk
abbrev pub IsForcedAlong : System → List ℕ → ℕ × List ℕ → Label → Type 0
IsForcedAlong system roots walk label = (v : Valuation) → InSol system v → walk_value v roots walk ≡ Some (at_label label)

-- no label is forced at the end of the walk
abbrev pub IsUnforcedAlong : System → List ℕ → ℕ × List ℕ → Type 0
IsUnforcedAlong system roots walk = (label : Label) → IsForcedAlong system roots walk label → ⊥

-- every solution has the place at the end of the walk
abbrev pub IsThereAlong : System → List ℕ → ℕ × List ℕ → Type 0
IsThereAlong system roots walk = (v : Valuation) → InSol system v → walk_value v roots walk ≡ None → ⊥

-- every solution has the places at the ends of two walks, and the same tree at both
pub record AreImpliedAlong (system : System) (roots : List ℕ) (walk other : ℕ × List ℕ) : Type 0 where
  pub there : IsThereAlong system roots walk
  pub same : (v : Valuation) → InSol system v → (rest : List ℕ) → walk_value v roots (further walk rest) ≡ walk_value v roots (further other rest)

-- a graph with roots shows all that is known of some nodes of a system
pub record ShowsKnown (system : System) (roots : List ℕ) (g : List Node) (others : List ℕ) : Type 0 where
  pub count : length others ≡ length roots
  -- a walk ends at a label exactly where the label is forced
  pub labels : (walk : ℕ × List ℕ) (label : Label) → (walk_shows g others walk ≡ Some (Some label)) ↔ IsForcedAlong system roots walk label
  -- a walk ends at a free leaf exactly where every solution has the place and no label is forced
  pub leaves : (walk : ℕ × List ℕ) → (walk_shows g others walk ≡ Some None) ↔ (IsThereAlong system roots walk × IsUnforcedAlong system roots walk)
  -- two walks end at places with the same tree exactly where every solution has both places, with one tree
  pub alike : (walk other : ℕ × List ℕ) → EndAlike g others walk other ↔ AreImpliedAlong system roots walk other

-- of some nodes of a system is known what is known of some of another
pub record AreKnownAlike (system : System) (roots : List ℕ) (another : System) (others : List ℕ) : Type 0 where
  pub count : length roots ≡ length others
  pub labels : (walk : ℕ × List ℕ) (label : Label) → IsForcedAlong system roots walk label ↔ IsForcedAlong another others walk label
  pub there : (walk : ℕ × List ℕ) → IsThereAlong system roots walk ↔ IsThereAlong another others walk
  pub implied : (walk other : ℕ × List ℕ) → AreImpliedAlong system roots walk other ↔ AreImpliedAlong another others walk other

-- each solution of one system has the trees at some nodes that a solution of another has at some of its nodes, both ways
pub record HaveAlikeTrees (system : System) (roots : List ℕ) (another : System) (others : List ℕ) : Type 0 where
  pub count : length roots ≡ length others
  pub forth : (v : Valuation) → InSol system v → (w : Valuation) × InSol another w × ((walk : ℕ × List ℕ) → walk_value w others walk ≡ walk_value v roots walk)
  pub back : (w : Valuation) → InSol another w → (v : Valuation) × InSol system v × ((walk : ℕ × List ℕ) → walk_value v roots walk ≡ walk_value w others walk)
