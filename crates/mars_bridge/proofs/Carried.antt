-- What a system says of nodes, its equations say of the subjects that they denote.
use Rattle.std.proofs.Common.{◌≡◌, ◌↔◌, ℕ, ◌+◌, ◌<◌, List, [], ◌∷◌, ◌++◌, length, take, All, sym, ap, ◌∙◌, subst, arith}
use Rattle.std.proofs.lemmas.List.{take-append-le, take_all}
use Rattle.std.proofs.lemmas.List.Elements.{All-nil, All-cons, All-head, All-tail, All-push, All-take, All-contains, Contains-push}
use Rattle.mars_tree.specs.declared.label.Label.{Label}
use Rattle.mars_store.specs.Valuation.{Valuation, value, Agree}
use Rattle.mars_store.specs.System.{System}
use Rattle.mars_store.specs.Solutions.{InSol}
use Rattle.mars_store.specs.Laws.{IsForced, IsKnown, IsImplied, IsSolvable}
use Rattle.mars_store.specs.Shown.{IsPlace}
use Rattle.mars_unify.specs.Unified.{IsSolved, AreApart}
use Rattle.mars_matching.specs.Trees.{Trees}
use Rattle.mars_rules.specs.TermTrees.{tree_of_term}
use Rattle.mars_machine.specs.Subjects.{Subject, Renamed, Part, kept_trees, subject_value}
use Rattle.mars_machine.specs.Equations.{Equations, Solves, HaveOneTree, AreSolvable, Forces, Knows, Implies, HasPlace, with_equality}
use Rattle.mars_bridge.specs.Represents.{of_vars, Represents, Denotes, DenotePairs}

-- a subject's tree is told by those of the variables
pub same_value : (kept : _) (v w : Valuation) → ((x : ℕ) (path : List ℕ) → value v x path ≡ value w x path) → (subject : Subject) (path : List ℕ)
    → subject_value kept v subject path ≡ subject_value kept w subject path
same_value kept v w same (Renamed first term) path = ap (λ (trees : Trees). tree_of_term trees (kept_trees kept) term path) (λ i x p. same (first + x) p i)
same_value kept v w same (Part subject place) path = same_value kept v w same subject (place ∷ path)

module _ (e : Equations) (system : System) (vars : List ℕ) (r : Represents e system vars) where
  -- the system's solution that is seen as one of the equations gives subjects the same trees
  pub lifted : (w : Valuation) (s : Solves e w) (subject : Subject) (path : List ℕ)
      → subject_value e.kept (of_vars vars (r.solved w s).0) subject path ≡ subject_value e.kept w subject path
  lifted w s subject path = same_value e.kept (of_vars vars (r.solved w s).0) w (r.solved w s).2.along subject path

  -- and so to the nodes that denote them
  pub lifted-node : (n : ℕ) (subject : Subject) → Denotes e system vars n subject → (w : Valuation) (s : Solves e w) (path : List ℕ)
      → value (r.solved w s).0 n path ≡ subject_value e.kept w subject path
  lifted-node n subject st w s path = st.tree (r.solved w s).0 (r.solved w s).1 path ∙ lifted w s subject path

  pub forced_iff : (n : ℕ) (subject : Subject) → Denotes e system vars n subject → (path : List ℕ) (label : Label)
      → IsForced system n path label ↔ Forces e subject path label
  forced_iff n subject st path label = (
    λ h w s. sym (lifted-node n subject st w s path) ∙ h (r.solved w s).0 (r.solved w s).1,
    λ h v sol. st.tree v sol path ∙ h (of_vars vars v) (r.solves v sol),
  )

  pub known_iff : (n : ℕ) (subject : Subject) → Denotes e system vars n subject → IsKnown system n ↔ Knows e subject
  known_iff n subject st = (
    λ h. (h.0, (forced_iff n subject st [] h.0).0 h.1),
    λ h. (h.0, (forced_iff n subject st [] h.0).1 h.1),
  )

  pub place_iff : (n : ℕ) (subject : Subject) → Denotes e system vars n subject → (path : List ℕ) → IsPlace system n path ↔ HasPlace e subject path
  place_iff n subject st path = (
    λ h w s none. h (r.solved w s).0 (r.solved w s).1 (lifted-node n subject st w s path ∙ none),
    λ h v sol none. h (of_vars vars v) (r.solves v sol) (sym (st.tree v sol path) ∙ none),
  )

  -- two nodes have one tree in a solution exactly where their subjects have
  pub agree-here : (n m : ℕ) (s t : Subject) → Denotes e system vars n s → Denotes e system vars m t → (v : Valuation) → InSol system v
      → Agree v n m ↔ HaveOneTree e.kept (of_vars vars v) (s, t)
  agree-here n m s t a b v sol = (
    λ h. record { along = λ path. sym (a.tree v sol path) ∙ h.along path ∙ b.tree v sol path },
    λ h. record { along = λ path. a.tree v sol path ∙ h.along path ∙ sym (b.tree v sol path) },
  )

  pub agree-lifted : (n m : ℕ) (s t : Subject) → Denotes e system vars n s → Denotes e system vars m t → (w : Valuation) (k : Solves e w)
      → Agree (r.solved w k).0 n m ↔ HaveOneTree e.kept w (s, t)
  agree-lifted n m s t a b w k = (
    λ h. record { along = λ path. sym (lifted-node n s a w k path) ∙ h.along path ∙ lifted-node m t b w k path },
    λ h. record { along = λ path. lifted-node n s a w k path ∙ h.along path ∙ sym (lifted-node m t b w k path) },
  )

  pub implied_iff : (n m : ℕ) (s t : Subject) → Denotes e system vars n s → Denotes e system vars m t → IsImplied system n m ↔ Implies e s t
  implied_iff n m s t a b = (
    λ h w k. (agree-lifted n m s t a b w k).0 (h (r.solved w k).0 (r.solved w k).1),
    λ h v sol. (agree-here n m s t a b v sol).1 (h (of_vars vars v) (r.solves v sol)),
  )

  -- a solution that makes both sides equal solves one equation more, and back
  with-last : (s t : Subject) (w : Valuation) → Solves e w → HaveOneTree e.kept w (s, t) → Solves (with_equality e s t) w
  with-last s t w k h = record { valuation = k.valuation; equal = All-push (HaveOneTree e.kept w) e.equal (s, t) k.equal h }

  without-last : (s t : Subject) (w : Valuation) → Solves (with_equality e s t) w → Solves e w × HaveOneTree e.kept w (s, t)
  without-last s t w k =
      let front = All-take (HaveOneTree e.kept w) (length e.equal) (e.equal ++ (s, t) ∷ []) k.equal in
      let same : take (length e.equal) (e.equal ++ (s, t) ∷ []) ≡ e.equal =
      take-append-le (length e.equal) e.equal ((s, t) ∷ []) (omega arith) ∙ take_all (length e.equal) e.equal (omega arith) in (
        record { valuation = k.valuation; equal = subst (All (HaveOneTree e.kept w)) same front },
        All-contains (HaveOneTree e.kept w) (e.equal ++ (s, t) ∷ []) (s, t) k.equal (Contains-push e.equal (s, t)),
      )

  -- nodes are apart exactly where the equations with one more have no solution
  pub apart_iff : (n m : ℕ) (s t : Subject) → Denotes e system vars n s → Denotes e system vars m t
      → AreApart system n m ↔ (AreSolvable (with_equality e s t) [] → ⊥)
  apart_iff n m s t a b = (
    λ h k.
        let old = without-last s t k.v k.solves in
        h (r.solved k.v old.0).0 (r.solved k.v old.0).1 ((agree-lifted n m s t a b k.v old.0).1 old.1),
    λ h v sol same.
        h (record {
          v = of_vars vars v;
          solves = with-last s t (of_vars vars v) (r.solves v sol) ((agree-here n m s t a b v sol).0 same);
          apart = All-nil (λ pair. HaveOneTree e.kept (of_vars vars v) pair → ⊥);
        }),
  )

  -- after nodes were made equal, the system represents one equation more
  pub represents_equal : (new : System) (n m : ℕ) (s t : Subject) → Denotes e system vars n s → Denotes e system vars m t → length new.nodes ≡ length system.nodes
      → IsSolved system new n m → Represents (with_equality e s t) new vars
  represents_equal new n m s t a b size is = record {
    one_each = r.one_each;
    inside = subst (λ count. All (λ n. n < count) vars) (sym size) r.inside;
    solves = λ v sol. with-last s t (of_vars vars v) (r.solves v (is.only v sol)) ((agree-here n m s t a b v (is.only v sol)).0 (is.same v sol));
    solved = λ w k.
        let old = without-last s t w k in
        let v = r.solved w old.0 in
        (v.0, is.all v.0 v.1 ((agree-lifted n m s t a b w old.0).1 old.1), v.2);
  }

  -- what stood for a subject still does
  pub denotes_equal : (new : System) (n m k : ℕ) (s t subject : Subject) → length new.nodes ≡ length system.nodes → IsSolved system new n m
      → Denotes e system vars k subject → Denotes (with_equality e s t) new vars k subject
  denotes_equal new n m k s t subject size is st = record {
    inside = subst (λ count. k < count) (sym size) st.inside;
    tree = λ v sol path. st.tree v (is.only v sol) path;
  }

  -- inequations between nodes hold in a solution exactly where those between their subjects do
  apart-forth : (v : Valuation) → InSol system v → (nodes : List (ℕ × ℕ)) (pairs : List (Subject × Subject)) → DenotePairs e system vars nodes pairs
      → All (λ dif. Agree v dif.0 dif.1 → ⊥) nodes → All (λ pair. HaveOneTree e.kept (of_vars vars v) pair → ⊥) pairs
  apart-forth v sol [] [] st h = All-nil (λ pair. HaveOneTree e.kept (of_vars vars v) pair → ⊥)
  apart-forth v sol [] (pair ∷ pairs) st h = absurd st
  apart-forth v sol (dif ∷ nodes) [] st h = absurd st
  apart-forth v sol (dif ∷ nodes) (pair ∷ pairs) st h =
      All-cons (λ pair. HaveOneTree e.kept (of_vars vars v) pair → ⊥) pair pairs
      (λ same. All-head (λ dif. Agree v dif.0 dif.1 → ⊥) dif nodes h ((agree-here dif.0 dif.1 pair.0 pair.1 st.0.first st.0.second v sol).1 same))
      (apart-forth v sol nodes pairs st.1 (All-tail (λ dif. Agree v dif.0 dif.1 → ⊥) dif nodes h))

  apart-back : (w : Valuation) (k : Solves e w) (nodes : List (ℕ × ℕ)) (pairs : List (Subject × Subject)) → DenotePairs e system vars nodes pairs
      → All (λ pair. HaveOneTree e.kept w pair → ⊥) pairs → All (λ dif. Agree (r.solved w k).0 dif.0 dif.1 → ⊥) nodes
  apart-back w k [] [] st h = All-nil (λ dif. Agree (r.solved w k).0 dif.0 dif.1 → ⊥)
  apart-back w k [] (pair ∷ pairs) st h = absurd st
  apart-back w k (dif ∷ nodes) [] st h = absurd st
  apart-back w k (dif ∷ nodes) (pair ∷ pairs) st h =
      All-cons (λ dif. Agree (r.solved w k).0 dif.0 dif.1 → ⊥) dif nodes
      (λ same. All-head (λ pair. HaveOneTree e.kept w pair → ⊥) pair pairs h ((agree-lifted dif.0 dif.1 pair.0 pair.1 st.0.first st.0.second w k).0 same))
      (apart-back w k nodes pairs st.1 (All-tail (λ pair. HaveOneTree e.kept w pair → ⊥) pair pairs h))

  -- a system and its inequations are solvable exactly where the equations and theirs are
  pub solvable_iff : (nodes : List (ℕ × ℕ)) (pairs : List (Subject × Subject)) → DenotePairs e system vars nodes pairs → IsSolvable system nodes ↔ AreSolvable e pairs
  solvable_iff nodes pairs st = (
    λ h. record { v = of_vars vars h.v; solves = r.solves h.v h.solves; apart = apart-forth h.v h.solves nodes pairs st h.differ },
    λ h. record { v = (r.solved h.v h.solves).0; solves = (r.solved h.v h.solves).1; differ = apart-back h.v h.solves nodes pairs st h.apart },
  )
