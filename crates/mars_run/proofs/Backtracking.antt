-- From one choice point to the one before it.
use Rattle.std.proofs.Common.{◌≡◌, ℕ, List, [], ◌∷◌, ◌++◌, length, refl, sym, ap, ◌∙◌, subst, Option, Some, None}
use Rattle.mars_term.specs.declared.clause.Rule.{Rule}
use Rattle.mars_goals.specs.declared.cells.Pending.{Pending}
use Rattle.mars_goals.specs.declared.choice.Choice.{Choice}
use Rattle.mars_goals.specs.GoalLists.{list_at}
use Rattle.mars_machine.specs.Alternatives.{Alternative}
use Rattle.mars_memory.specs.Memory.{MemoryParts, memory_undone, IsMemoryMark}
use Rattle.mars_memory.specs.Holding.{alternatives_of, HoldsAlternative}
use Rattle.mars_memory.specs.Found.{HasCallAt}
use Rattle.mars_run.specs.Choices.{IsChoiceOf, AreChoicesOf}
use Rattle.mars_run.specs.Choices.AreChoicesOf.{none, more}
use Rattle.mars_run.specs.States.{IsState, IsMachineState}
use Rattle.mars_run.specs.Searching.{IsLeftOver, AreRulesTried, with_left, IsChildChosen, GoesBack, GoesDown}
use Rattle.mars_run.proofs.Stacks.{holds-cons, one-each, choices-later, choices-pushed}

-- the choice points after a choice was put back, or not
record IsPutBack (asked : List ℕ) (rules : List Rule) (m : MemoryParts) (groups : List (List Alternative)) (choices : List Choice) (later : List Alternative) : Type 0 where
  all : List (List Alternative)
  are : AreChoicesOf asked rules m choices all
  same : alternatives_of all ≡ later ++ alternatives_of groups
  holds : (t : MemoryParts) (ps : List Pending) (a : Alternative) → HoldsAlternative asked t groups ps a → HoldsAlternative asked t all ps a

put-back : (asked : List ℕ) (rules : List Rule) (m : MemoryParts) (c : Choice) (cs : List Choice) (gs : List (List Alternative)) (later : List Alternative) (left : Option ℕ)
    → IsMemoryMark m c.mark → memory_undone m c.mark ≡ m → IsLeftOver asked rules m gs c.call c.rest left later → AreChoicesOf asked rules m cs gs
    → IsPutBack asked rules m gs (with_left c left cs) later
put-back asked rules m c cs gs later None made back is below = record { all = gs; are = below; same = ap (λ xs. xs ++ alternatives_of gs) (sym is); holds = λ t ps a h. h }
put-back asked rules m c cs gs later (Some from) made back is below = record {
  all = later ∷ gs;
  are = choices-pushed asked rules m (record c { from = from }) cs later gs made back is below;
  same = refl;
  holds = λ t ps a h. holds-cons asked t later gs ps a h;
}

-- nothing was left of a choice
pub chosen-none : (rules : List Rule) (old : MemoryParts) (choices : List Choice) (choice : Choice) (depth : ℕ) (new : MemoryParts) → depth ≡ length choices
    → AreRulesTried rules old choice.call choice.rest choice.from depth new None → IsChildChosen rules old choices choice new choices None
chosen-none rules old choices choice depth new size tried = (
  tried.0,
  refl,
  λ asked groups children are is. tried.1 asked groups children is (sym (one-each asked rules old choices groups are) ∙ sym size),
)

-- the next child of a choice was made
pub chosen-one : (rules : List Rule) (old : MemoryParts) (choices kept : List Choice) (choice : Choice) (depth : ℕ) (new : MemoryParts) (list : ℕ) (left : Option ℕ) → depth ≡ length choices
    → IsMemoryMark old choice.mark → memory_undone old choice.mark ≡ old → AreRulesTried rules old choice.call choice.rest choice.from depth new (Some (list, left)) → kept ≡ with_left choice left choices
    → IsChildChosen rules old choices choice new kept (Some list)
chosen-one rules old choices kept choice depth new list left size made back tried keeps asked groups children are is =
    let found = tried.2 asked groups children is (sym (one-each asked rules old choices groups are) ∙ sym size) in
    let put = put-back asked rules old choice choices groups found.later left made back found.left_are are in
    record {
      first = found.first;
      groups = put.all;
      state_is = ap (λ xs. xs ++ alternatives_of groups) found.children_are ∙ ap (λ xs. found.first ∷ xs) (sym put.same);
      inside = tried.1;
      holds = put.holds new (list_at new.lists list) found.first found.holds;
      choices_are = subst (λ cs. AreChoicesOf asked rules new cs put.all) (sym keeps) (choices-later asked rules old new tried.0 (with_left choice left choices) put.all put.are);
    }

-- the latest choice point, and those before it
pub record IsPopped (asked : List ℕ) (rules : List Rule) (m : MemoryParts) (c : Choice) (cs : List Choice) (gs : List (List Alternative)) : Type 0 where
  pub children : List Alternative
  pub groups : List (List Alternative)
  pub groups_are : gs ≡ children ∷ groups
  pub mark : IsMemoryMark m c.mark
  pub choice : IsChoiceOf asked rules (memory_undone m c.mark) groups c.call c.rest c.from children
  pub before : AreChoicesOf asked rules (memory_undone m c.mark) cs groups

popped-cons : (asked : List ℕ) (rules : List Rule) (m : MemoryParts) (c : Choice) (cs : List Choice) (gs : List (List Alternative)) → AreChoicesOf asked rules m (c ∷ cs) gs → IsPopped asked rules m c cs gs
popped-cons asked rules m c cs [] h = elim h [ ]
popped-cons asked rules m c cs (g ∷ gs) (more k choice rest) = record { children = g; groups = gs; groups_are = refl; mark = k; choice = choice; before = rest }

pub popped : (asked : List ℕ) (rules : List Rule) (m : MemoryParts) (all : List Choice) (c : Choice) (cs : List Choice) (gs : List (List Alternative))
    → all ≡ c ∷ cs → AreChoicesOf asked rules m all gs → IsPopped asked rules m c cs gs
popped asked rules m all c cs gs e h = popped-cons asked rules m c cs gs (subst (λ xs. AreChoicesOf asked rules m xs gs) e h)

-- there is no choice point
none-left : (asked : List ℕ) (rules : List Rule) (m : MemoryParts) (gs : List (List Alternative)) → AreChoicesOf asked rules m [] gs → alternatives_of gs ≡ []
none-left asked rules m [] none = refl
none-left asked rules m (g ∷ gs) h = elim h [ ]

-- a call that has children is held
pub choice-held : (asked : List ℕ) (rules : List Rule) (m : MemoryParts) (groups : List (List Alternative)) (node rest from depth : ℕ) (children : List Alternative)
    → IsChoiceOf asked rules m groups node rest from children → length groups ≡ depth → HasCallAt m node rest depth
choice-held asked rules m groups node rest from depth children is size = record {
  has = record {
    asked = asked;
    groups = groups;
    parent = is.parent;
    call = is.call;
    others = is.others;
    is_call = is.is_call;
  };
  depth_is = size;
}

-- choice points are those of before, looked at from here
pub record HasSame (asked : List ℕ) (rules : List Rule) (m : MemoryParts) (choices : List Choice) (groups : List (List Alternative)) : Type 0 where
  pub now : List (List Alternative)
  pub are : AreChoicesOf asked rules m choices now
  pub same : alternatives_of now ≡ alternatives_of groups

abbrev pub KeepsChoices : List Rule → MemoryParts → List Choice → MemoryParts → List Choice → Type 0
KeepsChoices rules old choices new left = (asked : List ℕ) (groups : List (List Alternative)) → AreChoicesOf asked rules old choices groups → HasSame asked rules new left groups

module _ (rules : List Rule) (old : MemoryParts) (choices : List Choice) (m : MemoryParts) (left : List Choice) (keeps : KeepsChoices rules old choices m left) where
  -- there was none left
  pub ends-back : left ≡ [] → (new : MemoryParts) (none_left : List Choice) → GoesBack rules old choices new none_left None
  ends-back e new none_left asked groups are =
      let h = keeps asked groups are in
      sym h.same ∙ none-left asked rules m h.now (subst (λ cs. AreChoicesOf asked rules m cs h.now) e h.are)

  module _ (c choice : Choice) (cs : List Choice) (pops : left ≡ c ∷ cs) (undone : MemoryParts) (is_undone : undone ≡ memory_undone m c.mark)
      (same_call : choice.call ≡ c.call) (same_rest : choice.rest ≡ c.rest) (same_from : choice.from ≡ c.from) where
    pub record IsTop (asked : List ℕ) (groups : List (List Alternative)) : Type 0 where
      pub children : List Alternative
      pub below : List (List Alternative)
      pub same : children ++ alternatives_of below ≡ alternatives_of groups
      pub top : IsChoiceOf asked rules undone below choice.call choice.rest choice.from children
      pub before : AreChoicesOf asked rules undone cs below

    pub top-of : (asked : List ℕ) (groups : List (List Alternative)) → AreChoicesOf asked rules old choices groups → IsTop asked groups
    top-of asked groups are =
        let h = keeps asked groups are in
        let p = popped asked rules m left c cs h.now pops h.are in
        record {
          children = p.children;
          below = p.groups;
          same = sym (ap alternatives_of p.groups_are) ∙ h.same;
          top = subst (λ t. IsChoiceOf asked rules t p.groups choice.call choice.rest choice.from p.children) (sym is_undone)
              (subst (λ n. IsChoiceOf asked rules (memory_undone m c.mark) p.groups n choice.rest choice.from p.children) (sym same_call)
              (subst (λ r. IsChoiceOf asked rules (memory_undone m c.mark) p.groups c.call r choice.from p.children) (sym same_rest)
              (subst (λ f. IsChoiceOf asked rules (memory_undone m c.mark) p.groups c.call c.rest f p.children) (sym same_from) p.choice)));
          before = subst (λ t. AreChoicesOf asked rules t cs p.groups) (sym is_undone) p.before;
        }

    -- nothing was left at the latest one
    pub passed-back : (new : MemoryParts) (after : List Choice) → IsChildChosen rules undone cs choice new after None → KeepsChoices rules old choices new after
    passed-back new after chosen asked groups are =
        let t = top-of asked groups are in
        record {
          now = t.below;
          are = subst (λ n. AreChoicesOf asked rules n after t.below) (sym chosen.0) (subst (λ cs. AreChoicesOf asked rules undone cs t.below) (sym chosen.1) t.before);
          same = ap (λ xs. xs ++ alternatives_of t.below) (sym (chosen.2 asked t.below t.children t.before t.top)) ∙ t.same;
        }

    -- the next child of the latest one was made
    pub went-back : (new : MemoryParts) (after : List Choice) (list : ℕ) → IsChildChosen rules undone cs choice new after (Some list) → GoesBack rules old choices new after (Some list)
    went-back new after list chosen asked groups are =
        let t = top-of asked groups are in
        subst (λ state. IsState asked rules new after list state) t.same (chosen asked t.below t.children t.before t.top)

-- a call without children left leads back
pub down-back : (rules : List Rule) (old mid : MemoryParts) (choices after : List Choice) (choice : Choice) (new : MemoryParts) (left : List Choice) (next : Option ℕ) (node rest : ℕ)
    → choice.call ≡ node → choice.rest ≡ rest → choice.from ≡ 0 → IsChildChosen rules old choices choice mid after None → GoesBack rules mid after new left next
    → GoesDown rules old choices node rest new left next
down-back rules old mid choices after choice new left next node rest c r f chosen back asked groups children are is =
    let own : IsChoiceOf asked rules old groups choice.call choice.rest choice.from children =
    subst (λ n. IsChoiceOf asked rules old groups n choice.rest choice.from children) (sym c)
    (subst (λ r. IsChoiceOf asked rules old groups node r choice.from children) (sym r) (subst (λ f. IsChoiceOf asked rules old groups node rest f children) (sym f) is)) in
    let empty : children ≡ [] = chosen.2 asked groups children are own in
    let now : AreChoicesOf asked rules mid after groups =
    subst (λ m. AreChoicesOf asked rules m after groups) (sym chosen.0) (subst (λ cs. AreChoicesOf asked rules old cs groups) (sym chosen.1) are) in
    subst (λ xs. IsMachineState asked rules new left next (xs ++ alternatives_of groups)) (sym empty) (back asked groups now)

pub down-one : (rules : List Rule) (old : MemoryParts) (choices : List Choice) (choice : Choice) (new : MemoryParts) (left : List Choice) (list : ℕ) (node rest : ℕ)
    → choice.call ≡ node → choice.rest ≡ rest → choice.from ≡ 0 → IsChildChosen rules old choices choice new left (Some list) → GoesDown rules old choices node rest new left (Some list)
down-one rules old choices choice new left list node rest c r f chosen asked groups children are is =
    chosen asked groups children are
    (subst (λ n. IsChoiceOf asked rules old groups n choice.rest choice.from children) (sym c)
    (subst (λ r. IsChoiceOf asked rules old groups node r choice.from children) (sym r) (subst (λ f. IsChoiceOf asked rules old groups node rest f children) (sym f) is)))
