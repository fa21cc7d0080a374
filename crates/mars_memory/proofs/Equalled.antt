-- Built-ins that make nodes equal: which alternative is held after a call of one.
use Rattle.std.proofs.Common.{◌≡◌, ◌↔◌, ℕ, ℤ, ◌+◌, ◌<◌, List, [], ◌∷◌, ◌++◌, length, take, map, get_or, All, Option, Some, None, refl, sym, ap, ◌∙◌, subst, arith}
use Rattle.std.proofs.Math.Seq.{get_or-append_seam}
use Rattle.std.proofs.lemmas.List.{take_all}
use Rattle.std.proofs.lemmas.List.Elements.{All-nil, All-cons}
use Rattle.mars_tree.specs.declared.label.Label.TheVariants as label
use Rattle.mars_tree.specs.Graph.{Node, IsNode, labelled, free_leaf}
use Rattle.mars_store.specs.System.{System, IsSystem, Grows, with_node}
use Rattle.mars_store.proofs.CallerLemmas.{grows-node, system-node}
use Rattle.mars_dif.proofs.CallerLemmas.{after-same}
use Rattle.mars_frozen.proofs.CallerLemmas.{later-all}
use Rattle.mars_unify.specs.Unified.{Extends, IsSolved, AreApart}
use Rattle.mars_val.specs.Number.{HasNumber}
use Rattle.mars_val.proofs.Numbers.{number_is_one}
use Rattle.mars_term.specs.declared.term.Term.{Int}
use Rattle.mars_term.specs.Parts.{number_of_var}
use Rattle.mars_rules.specs.TermTrees.{arguments_of}
use Rattle.mars_rules.proofs.TermFacts.{label-Int, arguments-Int}
use Rattle.mars_goals.specs.declared.cells.Pending.{Pending}
use Rattle.mars_goals.specs.GoalLists.{list_at}
use Rattle.mars_machine.specs.declared.built_in.BuiltIn.TheVariants.{Eq, Val}
use Rattle.mars_machine.specs.Subjects.{Subject, Renamed, Part}
use Rattle.mars_machine.specs.Equations.{Equations, AreSolvable, with_equality}
use Rattle.mars_machine.specs.Alternatives.{OpenGoal, Alternative}
use Rattle.mars_machine.specs.BuiltIns.{IsBuiltInChild, TermNumber, built_in_label}
use Rattle.mars_machine.specs.BuiltIns.IsBuiltInChild.{equal, valued}
use Rattle.mars_bridge.specs.Represents.{Represents, Denotes, DenoteAll}
use Rattle.mars_bridge.specs.Scoped.{UsesBelow, IsScoped}
use Rattle.mars_bridge.proofs.Carried.{represents_equal, denotes_equal, apart_iff}
use Rattle.mars_bridge.proofs.Numbers.{number_iff}
use Rattle.mars_bridge.proofs.Building.{node_keeps, label_denotes, equal_scoped}
use Rattle.mars_children.proofs.Offspring.{weaken}
use Rattle.mars_memory.specs.Memory.{MemoryParts, IsLaterMemory}
use Rattle.mars_memory.specs.Holding.{WritesAlternative}
use Rattle.mars_memory.specs.Found.{HasWritten, IsAlternativeSettled, HoldsCall, HasCall, IsCallOf, IsBuiltInDone}
use Rattle.mars_memory.specs.BuiltInsInside.{WritesPair, HasPair, IsMadeEqual}
use Rattle.mars_memory.proofs.Marks.{later-memory, later_memory_follows}
use Rattle.mars_memory.proofs.Carrying.{Carries, carried, keep_goals}
use Rattle.mars_memory.proofs.Calls.{held-call, held-argument, gone-on}
use Rattle.mars_memory.proofs.BuiltIns.{kid_is}

-- the same memory with another store
abbrev pub with_system : MemoryParts → System → MemoryParts
with_system m system = record m { system = system }

extends-grows : (old new : System) (bound : ℕ) → Extends old new bound → Grows old new
extends-grows old new bound x =
    let size = ap length x.nodes in
    record {
      more_nodes = omega arith;
      nodes = ap (take (length old.nodes)) x.nodes ∙ take_all (length old.nodes) old.nodes (omega arith);
      more_bound = let more = x.size in omega arith;
      bound = x.front;
    }

later-system : (m : MemoryParts) (system : System) → Grows m.system system → IsLaterMemory m (with_system m system)
later-system m system grows = record {
  system = grows;
  difs = after-same m.difs;
  frozen = later-all m.frozen;
  more = omega arith;
  lists = take_all (length m.lists) m.lists (omega arith);
}

-- after two nodes were made equal
module _ (old : MemoryParts) (list left right : ℕ) (s : System) (bound : ℕ) (sound : IsSystem s) (solved : IsSolved old.system s left right) (x : Extends old.system s bound) where
  equal-carries : (asked : List ℕ) (groups : List (List Alternative)) (a : Alternative) (u t : Subject) (p : WritesPair asked old groups list left right a u t)
      → Carries old (with_system old s) a.equations (with_equality a.equations u t) (p.writes.vars) (p.writes.vars)
  equal-carries asked groups a u t p =
      let e : Equations = a.equations in
      let vars : List ℕ = p.writes.vars in
      let size = ap length x.nodes in
      record {
        sound = sound;
        represents = represents_equal e old.system vars (p.writes.represents) s left right u t p.first p.second size solved;
        scoped = equal_scoped e u t (p.writes.scoped) p.first_use p.second_use;
        more = omega arith;
        grows = extends-grows old.system s bound x;
        difs = refl;
        frozen = refl;
        keep = λ n subject uses d. denotes_equal e old.system vars (p.writes.represents) s left right n u t subject size solved d;
      }

  equal-written : (asked : List ℕ) (groups : List (List Alternative)) (a : Alternative) (u t : Subject) → WritesPair asked old groups list left right a u t
      → WritesAlternative asked (with_system old s) groups (list_at old.lists list) (record a { equations = with_equality a.equations u t })
  equal-written asked groups a u t p =
      let c = equal-carries asked groups a u t p in
      let f : Equations = with_equality a.equations u t in
      carried asked old (with_system old s) groups (list_at old.lists list) (list_at old.lists list) a p.writes f (p.writes.vars) c a.goals
      (keep_goals old (with_system old s) a.equations f (p.writes.vars) (p.writes.vars) c groups (length groups) (list_at old.lists list) a.goals (p.writes.goals_are))

  has-equal : HasPair old list left right → HasWritten (with_system old s) list
  has-equal h = record {
    asked = h.asked;
    groups = h.groups;
    alternative = record (h.alternative) { equations = with_equality (h.alternative.equations) h.s h.t };
    inside = h.inside;
    writes = equal-written h.asked h.groups h.alternative h.s h.t h.pair;
  }

  -- what is settled then was made equal
  settled-equal : (new : MemoryParts) (r : Option ℕ) → IsAlternativeSettled (with_system old s) list new r → IsMadeEqual old list left right new r
  settled-equal new None h = (
    later_memory_follows old (with_system old s) new (later-system old s (extends-grows old.system s bound x)) h.0,
    λ asked groups a u t p. h.1 asked groups (record a { equations = with_equality a.equations u t }) (equal-written asked groups a u t p),
  )
  settled-equal new (Some found) h = (
    later_memory_follows old (with_system old s) new (later-system old s (extends-grows old.system s bound x)) h.0,
    h.1,
    λ asked groups a u t p.
        let k = h.2 asked groups (record a { equations = with_equality a.equations u t }) (equal-written asked groups a u t p) in
        record {
          child = record a { goals = k.woken ++ a.goals; equations = with_equality a.equations u t; frozen = k.left };
          under = record { solvable = k.solvable; equations_are = refl; differ_are = refl; woken = k.woken; wakes = k.wakes; goals_are = refl };
          holds = record { writes = k.writes; solvable = k.solvable };
        },
  )

-- the same, of a memory that was said to be so
pub pair-written : (old mid : MemoryParts) (list left right bound : ℕ) → HasPair old list left right → mid ≡ record old { system = mid.system } → IsSystem mid.system → IsSolved old.system mid.system left right
    → Extends old.system mid.system bound → HasWritten mid list
pair-written old mid list left right bound h e sound solved x = subst (λ m. HasWritten m list) (sym e) (has-equal old list left right mid.system bound sound solved x h)

pub made-equal : (old mid : MemoryParts) (list left right bound : ℕ) → mid ≡ record old { system = mid.system } → IsSystem mid.system → IsSolved old.system mid.system left right
    → Extends old.system mid.system bound → (new : MemoryParts) (r : Option ℕ) → IsAlternativeSettled mid list new r → IsMadeEqual old list left right new r
made-equal old mid list left right bound e sound solved x new r h =
    settled-equal old list left right mid.system bound sound solved x new r (subst (λ m. IsAlternativeSettled m list new r) e h)

-- nodes that are apart can't be made equal
pub made-apart : (old new : MemoryParts) (list left right : ℕ) → new ≡ old → AreApart old.system left right → IsMadeEqual old list left right new None
made-apart old new list left right e apart = (
  subst (IsLaterMemory old) (sym e) (later-memory old),
  λ asked groups a u t p solvable.
      (apart_iff a.equations old.system (p.writes.vars) (p.writes.represents) left right u t p.first p.second).0 apart (weaken (with_equality a.equations u t) a.differ solvable),
)

-- the arguments of a call are a pair
module _ (m : MemoryParts) (node rest left right : ℕ) (is : IsCallOf m node Eq) (at_left : kid_is m node 0 left) (at_right : kid_is m node 1 right) where
  equal-pair : (asked : List ℕ) (groups : List (List Alternative)) (parent : Alternative) (call : Subject) (others : List OpenGoal) → HoldsCall asked m groups node rest parent call others
      → WritesPair asked m groups rest left right (record parent { goals = others }) (Part call 0) (Part call 1)
  equal-pair asked groups parent call others h = let d = held-call asked m groups node rest parent call others h in record {
    writes = (gone-on asked m groups node rest parent call others h).writes;
    first = held-argument asked m groups node rest parent call others h (built_in_label Eq) is 0 left at_left;
    second = held-argument asked m groups node rest parent call others h (built_in_label Eq) is 1 right at_right;
    first_use = d.uses;
    second_use = d.uses;
  }

  pub equal-has : HasCall m node rest → HasPair m rest left right
  equal-has h = record {
    asked = h.asked;
    groups = h.groups;
    alternative = record (h.parent) { goals = h.others };
    s = Part h.call 0;
    t = Part h.call 1;
    inside = h.is_call.inside;
    pair = equal-pair h.asked h.groups h.parent h.call h.others h.is_call;
  }

  pub equal-done : (new : MemoryParts) (r : Option ℕ) → IsMadeEqual m rest left right new r → IsBuiltInDone m node rest Eq new r
  equal-done new None k = (k.0, λ asked groups parent call others h child c. no asked groups parent call others h child c)
    where
      no : (asked : List ℕ) (groups : List (List Alternative)) (parent : Alternative) (call : Subject) (others : List OpenGoal) → HoldsCall asked m groups node rest parent call others
          → (child : Alternative) → IsBuiltInChild parent call others Eq child → ⊥
      no asked groups parent call others h child (equal u) =
          k.1 asked groups (record parent { goals = others }) (Part call 0) (Part call 1) (equal-pair asked groups parent call others h) u.solvable
  equal-done new (Some found) k = (
    k.0,
    k.1,
    λ asked groups parent call others h.
        let c = k.2 asked groups (record parent { goals = others }) (Part call 0) (Part call 1) (equal-pair asked groups parent call others h) in
        let u = c.under in
        record {
          child = c.child;
          is_child = equal (record { solvable = u.solvable; equations_are = u.equations_are; differ_are = u.differ_are; woken = u.woken; wakes = u.wakes; goals_are = u.goals_are });
          holds = c.holds;
        },
  )

-- the memory with one node more, of an integer
abbrev pub with_integer : MemoryParts → ℤ → MemoryParts
with_integer m z = with_system m (with_node m.system (labelled (label.Int z) []))

module _ (m : MemoryParts) (z : ℤ) where
  integer-node : IsNode (length m.system.nodes) (labelled (label.Int z) [])
  integer-node = record { kids = refl; in_range = All-nil (λ kid. kid < length m.system.nodes) }

  integer-last : get_or (m.system.nodes ++ labelled (label.Int z) [] ∷ []) (length m.system.nodes) free_leaf ≡ labelled (label.Int z) []
  integer-last = get_or-append_seam m.system.nodes (labelled (label.Int z) []) [] free_leaf

  -- the node denotes the integer
  integer-denoted : (e : Equations) (vars : List ℕ) → Denotes e (with_node m.system (labelled (label.Int z) [])) vars (length m.system.nodes) (Renamed 0 (Int z))
  integer-denoted e vars =
      let new : System = with_node m.system (labelled (label.Int z) []) in
      label_denotes e new vars 0 (length m.system.nodes) (Int z) (label.Int z) (ap (λ (n : Node). n.label) integer-last) (label-Int z)
      (subst (λ kids. DenoteAll e new vars kids (map (Renamed 0) (arguments_of (Int z)))) (sym (ap (λ (n : Node). n.kids) integer-last))
      (subst (λ terms. DenoteAll e new vars [] (map (Renamed 0) terms)) (sym (arguments-Int z)) tt))

  integer-uses : (next : ℕ) → UsesBelow next (Renamed 0 (Int z))
  integer-uses next =
      All-cons (λ part. All (λ x. 0 + x < next) (number_of_var part)) (Int z) [] (All-nil (λ x. 0 + x < next)) (All-nil (λ part. All (λ x. 0 + x < next) (number_of_var part)))

  integer-carries : (e : Equations) (vars : List ℕ) → Represents e m.system vars → IsScoped e → IsSystem m.system → Carries m (with_integer m z) e e vars vars
  integer-carries e vars r scoped sound =
      let k = node_keeps e m.system vars r sound (labelled (label.Int z) []) integer-node in
      record {
        sound = system-node m.system (labelled (label.Int z) []) sound integer-node;
        represents = k.represents;
        scoped = scoped;
        more = omega arith;
        grows = grows-node m.system (labelled (label.Int z) []);
        difs = refl;
        frozen = refl;
        keep = λ n subject uses d. k.denotes n subject d;
      }

module _ (m : MemoryParts) (node rest expression value : ℕ) (is : IsCallOf m node Val) (at_first : kid_is m node 0 expression) (at_second : kid_is m node 1 value) where
  -- the second argument and the integer are a pair
  val-pair : (z : ℤ) (asked : List ℕ) (groups : List (List Alternative)) (parent : Alternative) (call : Subject) (others : List OpenGoal) → HoldsCall asked m groups node rest parent call others
      → WritesPair asked (with_integer m z) groups rest value (length m.system.nodes) (record parent { goals = others }) (Part call 1) (Renamed 0 (Int z))
  unfolding carried
  val-pair z asked groups parent call others h =
      let d = held-call asked m groups node rest parent call others h in
      let e : Equations = parent.equations in
      let vars : List ℕ = h.holds.writes.vars in
      let c = integer-carries m z e vars (h.holds.writes.represents) (h.holds.writes.scoped) (h.holds.writes.sound) in
      let list : List Pending = list_at m.lists rest in
      record {
        writes = carried asked m (with_integer m z) groups list list (record parent { goals = others }) (gone-on asked m groups node rest parent call others h).writes e vars c others
            (keep_goals m (with_integer m z) e e vars vars c groups (length groups) list others d.others_are);
        first = c.keep value (Part call 1) d.uses (held-argument asked m groups node rest parent call others h (built_in_label Val) is 1 value at_second);
        second = integer-denoted m z e vars;
        first_use = d.uses;
        second_use = integer-uses m z e.next;
      }

  val-has : (z : ℤ) → HasCall m node rest → HasPair (with_integer m z) rest value (length m.system.nodes)
  val-has z h = record {
    asked = h.asked;
    groups = h.groups;
    alternative = record (h.parent) { goals = h.others };
    s = Part h.call 1;
    t = Renamed 0 (Int z);
    inside = h.is_call.inside;
    pair = val-pair z h.asked h.groups h.parent h.call h.others h.is_call;
  }

  -- the number of the node is that of the first argument
  val-number : (z : ℤ) (asked : List ℕ) (groups : List (List Alternative)) (parent : Alternative) (call : Subject) (others : List OpenGoal) → HoldsCall asked m groups node rest parent call others
      → HasNumber m.system expression z ↔ TermNumber parent.equations (Part call 0) z
  val-number z asked groups parent call others h =
      number_iff parent.equations m.system (h.holds.writes.vars) (h.holds.writes.represents) (h.holds.writes.sound) expression (Part call 0)
      (held-argument asked m groups node rest parent call others h (built_in_label Val) is 0 expression at_first) z

  -- without a number there is no child
  pub val-none : ((z : ℤ) → HasNumber m.system expression z → ⊥) → IsBuiltInDone m node rest Val m None
  val-none none = (later-memory m, λ asked groups parent call others h child c. no asked groups parent call others h child c)
    where
      no : (asked : List ℕ) (groups : List (List Alternative)) (parent : Alternative) (call : Subject) (others : List OpenGoal) → HoldsCall asked m groups node rest parent call others
          → (child : Alternative) → IsBuiltInChild parent call others Val child → ⊥
      no asked groups parent call others h child (valued {z = z} t u) = none z ((val-number z asked groups parent call others h).1 t)

  val-made : (z : ℤ) → HasNumber m.system expression z → (new : MemoryParts) (r : Option ℕ) → IsMadeEqual (with_integer m z) rest value (length m.system.nodes) new r → IsBuiltInDone m node rest Val new r
  val-made z has new None k = (
    later_memory_follows m (with_integer m z) new (later-system m (with_node m.system (labelled (label.Int z) [])) (grows-node m.system (labelled (label.Int z) []))) k.0,
    λ asked groups parent call others h child c. no asked groups parent call others h child c,
  )
    where
      no : (asked : List ℕ) (groups : List (List Alternative)) (parent : Alternative) (call : Subject) (others : List OpenGoal) → HoldsCall asked m groups node rest parent call others
          → (child : Alternative) → IsBuiltInChild parent call others Val child → ⊥
      no asked groups parent call others h child (valued {z = y} t u) =
          let same : y ≡ z = number_is_one m.system expression y z ((val-number y asked groups parent call others h).1 t) has in
          k.1 asked groups (record parent { goals = others }) (Part call 1) (Renamed 0 (Int z)) (val-pair z asked groups parent call others h)
          (subst (λ n. AreSolvable (with_equality parent.equations (Part call 1) (Renamed 0 (Int n))) parent.differ) same u.solvable)
  val-made z has new (Some found) k = (
    later_memory_follows m (with_integer m z) new (later-system m (with_node m.system (labelled (label.Int z) [])) (grows-node m.system (labelled (label.Int z) []))) k.0,
    k.1,
    λ asked groups parent call others h.
        let c = k.2 asked groups (record parent { goals = others }) (Part call 1) (Renamed 0 (Int z)) (val-pair z asked groups parent call others h) in
        let u = c.under in
        record {
          child = c.child;
          is_child = valued {z = z} ((val-number z asked groups parent call others h).0 has)
              (record { solvable = u.solvable; equations_are = u.equations_are; differ_are = u.differ_are; woken = u.woken; wakes = u.wakes; goals_are = u.goals_are });
          holds = c.holds;
        },
  )

  -- the same, of a memory and a node that were said to be so
  pub val-written : (z : ℤ) (mid : MemoryParts) (integer : ℕ) → HasCall m node rest → mid ≡ with_integer m z → integer ≡ length m.system.nodes → HasPair mid rest value integer
  val-written z mid integer h e i = subst (λ k. HasPair k rest value integer) (sym e) (subst (HasPair (with_integer m z) rest value) (sym i) (val-has z h))

  pub val-done : (z : ℤ) (mid : MemoryParts) (integer : ℕ) → HasNumber m.system expression z → mid ≡ with_integer m z → integer ≡ length m.system.nodes
      → (new : MemoryParts) (r : Option ℕ) → IsMadeEqual mid rest value integer new r → IsBuiltInDone m node rest Val new r
  val-done z mid integer has e i new r k =
      val-made z has new r (subst (λ n. IsMadeEqual (with_integer m z) rest value n new r) i (subst (λ old. IsMadeEqual old rest value integer new r) e k))
