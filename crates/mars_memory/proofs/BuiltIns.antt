-- Built-ins that change no equation: which alternative is held after a call of one.
use Rattle.std.proofs.Common.{◌≡◌, ◌≢◌, ℕ, ◌<◌, List, [], ◌∷◌, ◌++◌, length, slice_get, All, Some, None, refl, sym, ap, ◌∙◌, subst, arith, length-append}
use Rattle.std.proofs.lemmas.Option.{none-some}
use Rattle.std.proofs.Math.Seq.{get_or-append_seam}
use Rattle.std.proofs.lemmas.List.{take-append-le, take_all}
use Rattle.std.proofs.lemmas.List.Elements.{All-push, All-nil, All-cons, All-contains, Contains-push}
use Rattle.mars_tree.specs.declared.label.Label.{Label}
use Rattle.mars_tree.specs.declared.label.Label.TheVariants.{Str}
use Rattle.mars_tree.specs.declared.label.NameId.{NameId}
use Rattle.mars_tree.specs.Graph.{label_of, kids_of}
use Rattle.mars_store.specs.System.{System, IsSystem, resolve}
use Rattle.mars_store.specs.Laws.{IsImplied}
use Rattle.mars_store.proofs.CallerLemmas.{grows-refl, difs_independent}
use Rattle.mars_dif.specs.declared.dif.Dif.{Dif}
use Rattle.mars_dif.specs.declared.dif.Dif.TheVariants as dif
use Rattle.mars_dif.specs.Told.{IsTold}
use Rattle.mars_dif.specs.Kept.{Kept, IsCurrent, IsKeeper, IsAfter, with_dif}
use Rattle.mars_dif.proofs.CallerLemmas.{keeper_current, after-same}
use Rattle.mars_frozen.specs.Freezing.{with_frozen, waiting_pairs, IsLaterFrozen}
use Rattle.mars_frozen.proofs.CallerLemmas.{frozen_adds, later-all}
use Rattle.mars_rules.proofs.Paired.{paired-push}
use Rattle.mars_goals.specs.GoalLists.{list_at}
use Rattle.mars_goals.specs.declared.cells.Pending.{Pending}
use Rattle.mars_goals.specs.declared.cells.Pending.TheVariants as pending
use Rattle.mars_machine.specs.declared.built_in.BuiltIn.{BuiltIn}
use Rattle.mars_machine.specs.declared.built_in.BuiltIn.TheVariants.{Dif as DifCall, Freeze, Bound, Free, Out, OutText}
use Rattle.mars_machine.specs.Subjects.{Subject, Part}
use Rattle.mars_machine.specs.Equations.{Equations, AreSolvable, HaveOneTree, Forces, Knows}
use Rattle.mars_machine.specs.Alternatives.{OpenGoal, Call, Alternative}
use Rattle.mars_machine.specs.BuiltIns.{IsBuiltInChild, built_in_label}
use Rattle.mars_machine.specs.BuiltIns.IsBuiltInChild.{apart, called, frozen, bound, free, out, out_text}
use Rattle.mars_bridge.specs.Represents.{Represents, DenotePairs, DenotesPair}
use Rattle.mars_bridge.specs.Scoped.{PairUsesBelow}
use Rattle.mars_bridge.proofs.Carried.{implied_iff, solvable_iff}
use Rattle.mars_bridge.proofs.Parts.{root_iff}
use Rattle.mars_memory.specs.Memory.{MemoryParts, root_of_node, IsLaterMemory}
use Rattle.mars_memory.specs.Holding.{HoldsAlternative}
use Rattle.mars_memory.specs.Holding.DenoteGoals.{calls}
use Rattle.mars_memory.specs.Found.{HoldsCall, HasCall, IsCallOf, IsBuiltInDone}
use Rattle.mars_memory.proofs.Marks.{later-memory}
use Rattle.mars_memory.proofs.Calls.{put-goals, held-call, held-argument, gone-on}

-- the kid at a place of a call
abbrev pub kid_is : MemoryParts → ℕ → ℕ → ℕ → Type 0
kid_is m node place kid = slice_get (kids_of m.system.nodes (resolve m.system.bound node)) place ≡ Some kid

-- a call is done without a change
pub done-plainly : (m : MemoryParts) (node rest : ℕ) (built_in : BuiltIn) → HasCall m node rest
    → ((asked : List ℕ) (groups : List (List Alternative)) (parent : Alternative) (call : Subject) (others : List OpenGoal) → HoldsCall asked m groups node rest parent call others
    → IsBuiltInChild parent call others built_in (record parent { goals = others }))
    → IsBuiltInDone m node rest built_in m (Some rest)
done-plainly m node rest built_in has is = (
  later-memory m,
  has.is_call.inside,
  λ asked groups parent call others h. record {
    child = record parent { goals = others };
    is_child = is asked groups parent call others h;
    holds = gone-on asked m groups node rest parent call others h;
  },
)

-- what is known of the first argument of a call
module _ (m : MemoryParts) (node rest kid : ℕ) (label : Label) (is : label_of m.system.nodes (resolve m.system.bound node) ≡ Some label) (at : kid_is m node 0 kid)
    (asked : List ℕ) (groups : List (List Alternative)) (parent : Alternative) (call : Subject) (others : List OpenGoal) (h : HoldsCall asked m groups node rest parent call others) where
  pub forced-first : (own : Label) → root_of_node m.system kid ≡ Some own → Forces parent.equations (Part call 0) [] own
  forced-first own root = (root_iff parent.equations m.system (h.holds.writes.vars) (h.holds.writes.represents) (h.holds.writes.sound) kid (Part call 0) (held-argument asked m groups node rest parent call others h label is 0 kid at) own).0 root

  pub first-forced : (own : Label) → Forces parent.equations (Part call 0) [] own → root_of_node m.system kid ≡ Some own
  first-forced own f = (root_iff parent.equations m.system (h.holds.writes.vars) (h.holds.writes.represents) (h.holds.writes.sound) kid (Part call 0) (held-argument asked m groups node rest parent call others h label is 0 kid at) own).1 f

  pub known-first : (own : Label) → Some own ≡ root_of_node m.system kid → Knows parent.equations (Part call 0)
  known-first own root = (own, forced-first own (sym root))

  pub unknown-first : None ≡ root_of_node m.system kid → Knows parent.equations (Part call 0) → ⊥
  unknown-first root k = none-some k.0 (root ∙ first-forced k.0 k.1)

module _ (m : MemoryParts) (node rest kid : ℕ) (has : HasCall m node rest) (at : kid_is m node 0 kid) where
  pub bound-known : IsCallOf m node Bound → (own : Label) → Some own ≡ root_of_node m.system kid → IsBuiltInDone m node rest Bound m (Some rest)
  bound-known is own root = done-plainly m node rest Bound has
      (λ asked groups parent call others h. bound (known-first m node rest kid (built_in_label Bound) is at asked groups parent call others h own root))

  pub bound-unknown : IsCallOf m node Bound → None ≡ root_of_node m.system kid → IsBuiltInDone m node rest Bound m None
  bound-unknown is root = (later-memory m, λ asked groups parent call others h child c. no asked groups parent call others h child c)
    where
      no : (asked : List ℕ) (groups : List (List Alternative)) (parent : Alternative) (call : Subject) (others : List OpenGoal) → HoldsCall asked m groups node rest parent call others
          → (child : Alternative) → IsBuiltInChild parent call others Bound child → ⊥
      no asked groups parent call others h child (bound k) = unknown-first m node rest kid (built_in_label Bound) is at asked groups parent call others h root k

  pub free-unknown : IsCallOf m node Free → None ≡ root_of_node m.system kid → IsBuiltInDone m node rest Free m (Some rest)
  free-unknown is root = done-plainly m node rest Free has
      (λ asked groups parent call others h. free (unknown-first m node rest kid (built_in_label Free) is at asked groups parent call others h root))

  pub free-known : IsCallOf m node Free → (own : Label) → Some own ≡ root_of_node m.system kid → IsBuiltInDone m node rest Free m None
  free-known is own root = (later-memory m, λ asked groups parent call others h child c. no asked groups parent call others h child c)
    where
      no : (asked : List ℕ) (groups : List (List Alternative)) (parent : Alternative) (call : Subject) (others : List OpenGoal) → HoldsCall asked m groups node rest parent call others
          → (child : Alternative) → IsBuiltInChild parent call others Free child → ⊥
      no asked groups parent call others h child (free n) = n (known-first m node rest kid (built_in_label Free) is at asked groups parent call others h own root)

  pub text-done : IsCallOf m node OutText → (string : NameId) → root_of_node m.system kid ≡ Some (Str string) → IsBuiltInDone m node rest OutText m (Some rest)
  text-done is string root = done-plainly m node rest OutText has
      (λ asked groups parent call others h. out_text {string = string} (forced-first m node rest kid (built_in_label OutText) is at asked groups parent call others h (Str string) root))

  pub text-none : IsCallOf m node OutText → ((string : NameId) → root_of_node m.system kid ≡ Some (Str string) → ⊥) → IsBuiltInDone m node rest OutText m None
  text-none is none = (later-memory m, λ asked groups parent call others h child c. no asked groups parent call others h child c)
    where
      no : (asked : List ℕ) (groups : List (List Alternative)) (parent : Alternative) (call : Subject) (others : List OpenGoal) → HoldsCall asked m groups node rest parent call others
          → (child : Alternative) → IsBuiltInChild parent call others OutText child → ⊥
      no asked groups parent call others h child (out_text {string = string} f) = none string (first-forced m node rest kid (built_in_label OutText) is at asked groups parent call others h (Str string) f)

pub out-done : (m : MemoryParts) (node rest : ℕ) → HasCall m node rest → IsBuiltInDone m node rest Out m (Some rest)
out-done m node rest has = done-plainly m node rest Out has (λ asked groups parent call others h. out)

-- what is held of a call of two arguments, which are these nodes
module _ (m : MemoryParts) (node rest left right : ℕ) (label : Label) (is : label_of m.system.nodes (resolve m.system.bound node) ≡ Some label) (at_left : kid_is m node 0 left) (at_right : kid_is m node 1 right)
    (asked : List ℕ) (groups : List (List Alternative)) (parent : Alternative) (call : Subject) (others : List OpenGoal) (h : HoldsCall asked m groups node rest parent call others) where
  pub both-denoted : DenotesPair parent.equations m.system (h.holds.writes.vars) (left, right) (Part call 0, Part call 1)
  both-denoted = record {
    first = held-argument asked m groups node rest parent call others h label is 0 left at_left;
    second = held-argument asked m groups node rest parent call others h label is 1 right at_right;
  }

  pub both-use : PairUsesBelow parent.equations.next (Part call 0, Part call 1)
  both-use = let d = held-call asked m groups node rest parent call others h in record { left = d.uses; right = d.uses }

-- the memory with one goal list more
abbrev pub with_list : MemoryParts → List Pending → MemoryParts
with_list m goals = record m { lists = m.lists ++ goals ∷ [] }

-- with a list more the others are as before
pub later-list : (m : MemoryParts) (goals : List Pending) → IsLaterMemory m (with_list m goals)
later-list m goals = record {
  system = grows-refl m.system;
  difs = after-same m.difs;
  frozen = later-all m.frozen;
  more = omega (arith, length-append m.lists (goals ∷ []));
  lists = take-append-le (length m.lists) m.lists (goals ∷ []) (omega arith) ∙ take_all (length m.lists) m.lists (omega arith);
}

-- the last list
pub list-last : (lists : List (List Pending)) (goals : List Pending) → list_at (lists ++ goals ∷ []) (length lists) ≡ goals
list-last lists goals = get_or-append_seam lists goals [] []

module _ (m : MemoryParts) (node rest left right : ℕ) (has : HasCall m node rest) (is : IsCallOf m node Freeze) (at_left : kid_is m node 0 left) (at_right : kid_is m node 1 right) where
  freeze-called : (own : Label) → Some own ≡ root_of_node m.system left → (list : ℕ) → list ≡ length m.lists
      → IsBuiltInDone m node rest Freeze (with_list m (pending.Call right ∷ list_at m.lists rest)) (Some list)
  freeze-called own root list e = (
    later-list m (pending.Call right ∷ list_at m.lists rest),
    omega (arith, e, length-append m.lists ((pending.Call right ∷ list_at m.lists rest) ∷ [])),
    λ asked groups parent call others h.
        let d = held-call asked m groups node rest parent call others h in
        let both = both-denoted m node rest left right (built_in_label Freeze) is at_left at_right asked groups parent call others h in
        let new : List Pending = pending.Call right ∷ list_at m.lists rest in
        record {
          child = record parent { goals = Call (Part call 1) ∷ others };
          is_child = called (known-first m node rest left (built_in_label Freeze) is at_left asked groups parent call others h own root);
          holds = subst (λ goals. HoldsAlternative asked (with_list m new) groups goals (record parent { goals = Call (Part call 1) ∷ others })) (sym (ap (list_at (m.lists ++ new ∷ [])) e ∙ list-last m.lists new))
              (put-goals asked m groups (pending.Call node ∷ list_at m.lists rest) parent h.holds (m.lists ++ new ∷ []) new (Call (Part call 1) ∷ others) (calls both.second d.uses d.others_are));
        },
  )

  pub freeze-known : (own : Label) → Some own ≡ root_of_node m.system left → (list : ℕ) → list ≡ length m.lists
      → (new : MemoryParts) → new ≡ with_list m (pending.Call right ∷ list_at m.lists rest) → IsBuiltInDone m node rest Freeze new (Some list)
  freeze-known own root list e new is_new = subst (λ n. IsBuiltInDone m node rest Freeze n (Some list)) (sym is_new) (freeze-called own root list e)

  freeze-frozen : IsLaterFrozen m.frozen (with_frozen m.frozen (left, right)) → None ≡ root_of_node m.system left
      → IsBuiltInDone m node rest Freeze (record m { frozen = with_frozen m.frozen (left, right) }) (Some rest)
  freeze-frozen later root = (
    record { system = grows-refl m.system; difs = after-same m.difs; frozen = later; more = omega arith; lists = take_all (length m.lists) m.lists (omega arith) },
    has.is_call.inside,
    λ asked groups parent call others h.
        let d = held-call asked m groups node rest parent call others h in
        let both = both-denoted m node rest left right (built_in_label Freeze) is at_left at_right asked groups parent call others h in
        let w = h.holds.writes in
        let waiting : List (Subject × Subject) = parent.frozen ++ (Part call 0, Part call 1) ∷ [] in
        record {
          child = record parent { goals = others; frozen = waiting };
          is_child = frozen (unknown-first m node rest left (built_in_label Freeze) is at_left asked groups parent call others h root);
          holds = record {
            writes = record {
              sound = w.sound;
              vars = w.vars;
              represents = w.represents;
              scoped = w.scoped;
              asked_are = w.asked_are;
              asked_use = w.asked_use;
              added = w.added;
              keeper = w.keeper;
              differ = w.differ;
              differ_use = w.differ_use;
              can_wake = frozen_adds m.frozen m.system (left, right) w.can_wake (both.first.inside, both.second.inside);
              frozen = paired-push (DenotesPair parent.equations m.system w.vars) (waiting_pairs m.frozen) parent.frozen (left, right) (Part call 0, Part call 1) w.frozen both;
              frozen_use = All-push (PairUsesBelow parent.equations.next) parent.frozen (Part call 0, Part call 1) w.frozen_use
                  (both-use m node rest left right (built_in_label Freeze) is at_left at_right asked groups parent call others h);
              goals_are = d.others_are;
            };
            solvable = h.holds.solvable;
          };
        },
  )

  pub freeze-unknown : None ≡ root_of_node m.system left → (new : MemoryParts) → new ≡ record m { frozen = with_frozen m.frozen (left, right) } → IsLaterFrozen m.frozen new.frozen
      → IsBuiltInDone m node rest Freeze new (Some rest)
  freeze-unknown root new e later =
      subst (λ n. IsBuiltInDone m node rest Freeze n (Some rest)) (sym e) (freeze-frozen (subst (IsLaterFrozen m.frozen) (ap (λ (n : MemoryParts). n.frozen) e) later) root)

-- pairs that denote pairs are nodes of the system
pub pairs-inside : (e : Equations) (system : System) (vars : List ℕ) (nodes : List (ℕ × ℕ)) (pairs : List (Subject × Subject)) → DenotePairs e system vars nodes pairs
    → All (λ dif. (dif.0 < length system.nodes) × (dif.1 < length system.nodes)) nodes
pairs-inside e system vars [] [] h = All-nil (λ dif. (dif.0 < length system.nodes) × (dif.1 < length system.nodes))
pairs-inside e system vars [] (p ∷ pairs) h = absurd h
pairs-inside e system vars (n ∷ nodes) [] h = absurd h
pairs-inside e system vars (n ∷ nodes) (p ∷ pairs) h =
    All-cons (λ dif. (dif.0 < length system.nodes) × (dif.1 < length system.nodes)) n nodes ((h.0).first.inside, (h.0).second.inside) (pairs-inside e system vars nodes pairs h.1)

-- an inequation that isn't implied equal can be added to those that are solvable
more-solvable : (e : Equations) (system : System) (vars : List ℕ) (r : Represents e system vars) → IsSystem system → (nodes : List (ℕ × ℕ)) (pairs : List (Subject × Subject)) (node : ℕ × ℕ) (pair : Subject × Subject)
    → DenotePairs e system vars nodes pairs → DenotesPair e system vars node pair → (IsImplied system node.0 node.1 → ⊥) → AreSolvable e pairs → AreSolvable e (pairs ++ pair ∷ [])
more-solvable e system vars r sound nodes pairs node pair are is differs some =
    let all = paired-push (DenotesPair e system vars) nodes pairs node pair are is in
    let fine = (difs_independent system sound nodes (pairs-inside e system vars nodes pairs are)).0 ((solvable_iff e system vars r nodes pairs are).1 some) in
    (solvable_iff e system vars r (nodes ++ node ∷ []) (pairs ++ pair ∷ []) all).0
    ((difs_independent system sound (nodes ++ node ∷ []) (pairs-inside e system vars (nodes ++ node ∷ []) (pairs ++ pair ∷ []) all)).1
    (All-push (λ dif. IsImplied system dif.0 dif.1 → ⊥) nodes node fine differs))

-- an inequation that is told to hold or to wait is added
with-told : (told : Dif) → told ≢ dif.Fails → (added : List (ℕ × ℕ)) (pair : ℕ × ℕ) → with_dif told added pair ≡ added ++ pair ∷ []
with-told dif.Holds h added pair = refl
with-told dif.Waits h added pair = refl
with-told dif.Fails h added pair = absurd (h refl)

module _ (m : MemoryParts) (node rest left right : ℕ) (has : HasCall m node rest) (is : IsCallOf m node DifCall) (at_left : kid_is m node 0 left) (at_right : kid_is m node 1 right) where
  pub dif-fails : IsTold dif.Fails m.system left right → (new : MemoryParts) → new ≡ record m { difs = new.difs } → IsAfter m.difs new.difs → IsBuiltInDone m node rest DifCall new None
  dif-fails told new e later = subst (λ n. IsBuiltInDone m node rest DifCall n None) (sym e) (
    record { system = grows-refl m.system; difs = later; frozen = later-all m.frozen; more = omega arith; lists = take_all (length m.lists) m.lists (omega arith) },
    λ asked groups parent call others h child c. no asked groups parent call others h child c,
  )
    where
      no : (asked : List ℕ) (groups : List (List Alternative)) (parent : Alternative) (call : Subject) (others : List OpenGoal) → HoldsCall asked m groups node rest parent call others
          → (child : Alternative) → IsBuiltInChild parent call others DifCall child → ⊥
      no asked groups parent call others h child (apart k) =
          let both = both-denoted m node rest left right (built_in_label DifCall) is at_left at_right asked groups parent call others h in
          let w = h.holds.writes in
          let implied = (implied_iff parent.equations m.system w.vars w.represents left right (Part call 0) (Part call 1) both.first both.second).0 (told.fails.0 refl) in
          All-contains (λ pair. HaveOneTree parent.equations.kept k.v pair → ⊥) (parent.differ ++ (Part call 0, Part call 1) ∷ []) (Part call 0, Part call 1) k.apart (Contains-push parent.differ (Part call 0, Part call 1))
          (implied k.v k.solves)

  dif-added : (told : Dif) → told ≢ dif.Fails → IsTold told m.system left right → (new : Kept) → IsAfter m.difs new
      → ((added : List (ℕ × ℕ)) → IsKeeper m.difs m.system added → IsCurrent new m.system (with_dif told added (left, right))) → IsBuiltInDone m node rest DifCall (record m { difs = new }) (Some rest)
  dif-added told ne tells new later current = (
    record { system = grows-refl m.system; difs = later; frozen = later-all m.frozen; more = omega arith; lists = take_all (length m.lists) m.lists (omega arith) },
    has.is_call.inside,
    λ asked groups parent call others h.
        let d = held-call asked m groups node rest parent call others h in
        let both = both-denoted m node rest left right (built_in_label DifCall) is at_left at_right asked groups parent call others h in
        let w = h.holds.writes in
        let pair : Subject × Subject = (Part call 0, Part call 1) in
        let solvable = more-solvable parent.equations m.system w.vars w.represents w.sound w.added parent.differ (left, right) pair w.differ both (λ i. ne (tells.fails.1 i)) h.holds.solvable in
        record {
          child = record parent { goals = others; differ = parent.differ ++ pair ∷ [] };
          is_child = apart solvable;
          holds = record {
            writes = record {
              sound = w.sound;
              vars = w.vars;
              represents = w.represents;
              scoped = w.scoped;
              asked_are = w.asked_are;
              asked_use = w.asked_use;
              added = w.added ++ (left, right) ∷ [];
              keeper = subst (IsKeeper new m.system) (with-told told ne w.added (left, right)) (keeper_current new m.system (with_dif told w.added (left, right)) (current w.added w.keeper));
              differ = paired-push (DenotesPair parent.equations m.system w.vars) w.added parent.differ (left, right) pair w.differ both;
              differ_use = All-push (PairUsesBelow parent.equations.next) parent.differ pair w.differ_use
                  (both-use m node rest left right (built_in_label DifCall) is at_left at_right asked groups parent call others h);
              can_wake = w.can_wake;
              frozen = w.frozen;
              frozen_use = w.frozen_use;
              goals_are = d.others_are;
            };
            solvable = solvable;
          };
        },
  )

  pub dif-goes : (told : Dif) → told ≢ dif.Fails → IsTold told m.system left right → (new : MemoryParts) → new ≡ record m { difs = new.difs } → IsAfter m.difs new.difs
      → ((added : List (ℕ × ℕ)) → IsKeeper m.difs m.system added → IsCurrent new.difs m.system (with_dif told added (left, right))) → IsBuiltInDone m node rest DifCall new (Some rest)
  dif-goes told ne tells new e later current = subst (λ n. IsBuiltInDone m node rest DifCall n (Some rest)) (sym e) (dif-added told ne tells new.difs later current)
