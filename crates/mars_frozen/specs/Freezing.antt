-- Pairs of a node and a goal that waits until the node's root is known.
use Rattle.std.specs.Prelude.{◌≡◌, ◌⊎◌, ℕ, ◌<◌, ◌≤◌, List, [], ◌∷◌, length, take, All, Contains, None}
use Rattle.mars_tree.specs.Graph.{label_of}
use Rattle.mars_store.specs.System.{System, Grows, resolve}
use Rattle.mars_store.specs.Laws.{IsKnown}
use Rattle.mars_watch.specs.Lined.{Lined, AreAscending, line_undone, line_with, IsLaterLine}
use Rattle.mars_watch.specs.Gathered.{AreEach}
use Rattle.mars_frozen.specs.declared.mark.Mark.{Mark}

-- the pairs and the number of each, which pair waits at which variable, from which number on pairs have no such variable
-- yet, and how many equations were looked at
pub record FrozenPairs : Type 0 where
  pub pairs : Lined (ℕ × ℕ)
  pub numbers : Lined ℕ
  pub watches : List (ℕ × ℕ)
  pub filed : ℕ
  pub seen : ℕ

-- those that wait, in order of freezing
abbrev pub waiting_pairs : FrozenPairs → List (ℕ × ℕ)
waiting_pairs frozen = frozen.pairs.now

-- nothing was frozen
abbrev pub no_frozen : FrozenPairs
no_frozen = record {
  pairs = record { now = []; past = [] };
  numbers = record { now = []; past = [] };
  watches = [];
  filed = 0;
  seen = 0;
}

-- one pair more, whose number is how many changes were made before
abbrev pub with_frozen : FrozenPairs → ℕ × ℕ → FrozenPairs
with_frozen frozen pair = record frozen {
  pairs = line_with frozen.pairs pair;
  numbers = line_with frozen.numbers (length frozen.numbers.past);
}

-- of pairs, in order: the goals of those whose first part is known, and those that wait on
pub data AreWoken (system : System) : List (ℕ × ℕ) → List ℕ → List (ℕ × ℕ) → Type 0 where
  none : AreWoken system [] [] []
  wakes : {pair : ℕ × ℕ} {pairs left : List (ℕ × ℕ)} {goals : List ℕ} → IsKnown system pair.0 → AreWoken system pairs goals left → AreWoken system (pair ∷ pairs) (pair.1 ∷ goals) left
  stays : {pair : ℕ × ℕ} {pairs left : List (ℕ × ℕ)} {goals : List ℕ} → (IsKnown system pair.0 → ⊥) → AreWoken system pairs goals left → AreWoken system (pair ∷ pairs) goals (pair ∷ left)

-- both parts of a pair are nodes of the system
abbrev pub HasBoth : System → ℕ × ℕ → Type 0
HasBoth system pair = (pair.0 < length system.nodes) × (pair.1 < length system.nodes)

-- a pair waits at the free variable at which its first part ends
pub record IsFiled (watches : List (ℕ × ℕ)) (system : System) (number : ℕ) (pair : ℕ × ℕ) : Type 0 where
  pub inside : resolve system.bound pair.0 < length system.nodes
  pub free : label_of system.nodes (resolve system.bound pair.0) ≡ None
  pub there : Contains watches (resolve system.bound pair.0, number)

-- each pair that was frozen before the last wake waits at its variable in the system of that wake
pub record AreFiled (frozen : FrozenPairs) (system : System) : Type 0 where
  pub each : AreEach (λ number pair. (frozen.filed ≤ number) ⊎ IsFiled frozen.watches system number pair) frozen.numbers.now frozen.pairs.now
  pub ascending : AreAscending 0 frozen.numbers.now (length frozen.numbers.past)
  pub within : frozen.filed ≤ length frozen.numbers.past
  pub seen : frozen.seen ≡ length system.bound

-- the pairs are of this system, to which only nodes and equations were added since the last wake
pub record CanWake (frozen : FrozenPairs) (system : System) : Type 0 where
  pub last : System
  pub filed : AreFiled frozen last
  pub grows : Grows last system
  pub inside : All (HasBoth system) frozen.pairs.now

-- the present state
abbrev pub frozen_mark : FrozenPairs → Mark
frozen_mark frozen = record { changes = length frozen.pairs.past; watches = length frozen.watches; filed = frozen.filed; seen = frozen.seen }

-- the state that the mark tells
abbrev pub frozen_undone : FrozenPairs → Mark → FrozenPairs
frozen_undone frozen mark = record {
  pairs = line_undone frozen.pairs mark.changes;
  numbers = line_undone frozen.numbers mark.changes;
  watches = take mark.watches frozen.watches;
  filed = mark.filed;
  seen = mark.seen;
}

-- there were at least as many changes and watches as the mark tells
pub record IsFrozenMark (frozen : FrozenPairs) (mark : Mark) : Type 0 where
  pub pairs : mark.changes ≤ length frozen.pairs.past
  pub numbers : mark.changes ≤ length frozen.numbers.past
  pub watches : mark.watches ≤ length frozen.watches

-- changes and watches were added to those that there were
pub record IsLaterFrozen (old new : FrozenPairs) : Type 0 where
  pub pairs : IsLaterLine old.pairs new.pairs
  pub numbers : IsLaterLine old.numbers new.numbers
  pub more : length old.watches ≤ length new.watches
  pub watches : take (length old.watches) new.watches ≡ old.watches
