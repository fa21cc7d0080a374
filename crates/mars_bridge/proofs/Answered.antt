-- The answer graph of nodes is that of the subjects that they denote.
use Rattle.std.proofs.Common.{◌≡◌, ◌↔◌, ℕ, zero, suc, List, [], ◌∷◌, ◌++◌, slice_get, option_and_then, refl, sym, ◌∙◌}
use Rattle.mars_tree.specs.declared.label.Label.{Label}
use Rattle.mars_store.specs.Valuation.{Valuation, value}
use Rattle.mars_store.specs.System.{System}
use Rattle.mars_store.specs.Solutions.{InSol}
use Rattle.mars_canon.specs.Canon.{Rooted}
use Rattle.mars_rules.specs.PairedLists.{AllPaired}
use Rattle.mars_rules.proofs.Paired.{paired-size}
use Rattle.mars_answer.specs.Walks.{walk_value, further, IsForcedAlong, IsThereAlong, AreImpliedAlong}
use Rattle.mars_answer.specs.Answer.{IsAnswerGraph, both_parts, roots_of}
use Rattle.mars_machine.specs.Subjects.{Subject, subject_value}
use Rattle.mars_machine.specs.Equations.{Equations, Solves}
use Rattle.mars_machine.specs.TermAnswers.{subject_walk, ForcesAlong, HasPlaceAlong, ImpliesAlong, IsTermAnswer, both_sides, ask_variables, answer_roots}
use Rattle.mars_bridge.specs.Represents.{of_vars, Represents, Denotes, DenotePairs, DenoteAll}
use Rattle.mars_bridge.proofs.Carried.{lifted-node}

paired-append : {X Y : Type 0} (R : X → Y → Type 0) (xs more : List X) (ys others : List Y) → AllPaired R xs ys → AllPaired R more others → AllPaired R (xs ++ more) (ys ++ others)
paired-append R [] more [] others h k = k
paired-append R [] more (y ∷ ys) others h k = absurd h
paired-append R (x ∷ xs) more [] others h k = absurd h
paired-append R (x ∷ xs) more (y ∷ ys) others h k = (h.0, paired-append R xs more ys others h.1 k)

module _ (e : Equations) (system : System) (vars : List ℕ) where
  -- both nodes of pairs denote both sides
  both-denoted : (nodes : List (ℕ × ℕ)) (pairs : List (Subject × Subject)) → DenotePairs e system vars nodes pairs → DenoteAll e system vars (both_parts nodes) (both_sides pairs)
  both-denoted [] [] st = tt
  both-denoted [] (pair ∷ pairs) st = absurd st
  both-denoted (node ∷ nodes) [] st = absurd st
  both-denoted (node ∷ nodes) (pair ∷ pairs) st = (st.0.first, (st.0.second, both-denoted nodes pairs st.1))

  pub roots_denoted : (count : ℕ) (nodes : List ℕ) (difs frozen : List (ℕ × ℕ)) (differ waiting : List (Subject × Subject))
      → DenoteAll e system vars nodes (ask_variables count) → DenotePairs e system vars difs differ → DenotePairs e system vars frozen waiting
      → DenoteAll e system vars (roots_of nodes difs frozen) (answer_roots count differ waiting)
  roots_denoted count nodes difs frozen differ waiting a b c =
      paired-append (Denotes e system vars) (nodes ++ both_parts difs) (both_parts frozen) (ask_variables count ++ both_sides differ) (both_sides waiting)
      (paired-append (Denotes e system vars) nodes (both_parts difs) (ask_variables count) (both_sides differ) a (both-denoted difs differ b)) (both-denoted frozen waiting c)

  module _ (r : Represents e system vars) where
    -- what a solution shows along a walk
    here-at : (v : Valuation) → InSol system v → (roots : List ℕ) (subjects : List Subject) → DenoteAll e system vars roots subjects → (i : ℕ) (path : List ℕ)
        → option_and_then (λ root. value v root path) (slice_get roots i) ≡ option_and_then (λ subject. subject_value e.kept (of_vars vars v) subject path) (slice_get subjects i)
    here-at v sol [] [] st i path = refl
    here-at v sol [] (s ∷ subjects) st i path = absurd st
    here-at v sol (n ∷ roots) [] st i path = absurd st
    here-at v sol (n ∷ roots) (s ∷ subjects) st zero path = st.0.tree v sol path
    here-at v sol (n ∷ roots) (s ∷ subjects) st (suc i) path = here-at v sol roots subjects st.1 i path

    lifted-at : (w : Valuation) (k : Solves e w) (roots : List ℕ) (subjects : List Subject) → DenoteAll e system vars roots subjects → (i : ℕ) (path : List ℕ)
        → option_and_then (λ root. value (r.solved w k).0 root path) (slice_get roots i) ≡ option_and_then (λ subject. subject_value e.kept w subject path) (slice_get subjects i)
    lifted-at w k [] [] st i path = refl
    lifted-at w k [] (s ∷ subjects) st i path = absurd st
    lifted-at w k (n ∷ roots) [] st i path = absurd st
    lifted-at w k (n ∷ roots) (s ∷ subjects) st zero path = lifted-node e system vars r n s st.0 w k path
    lifted-at w k (n ∷ roots) (s ∷ subjects) st (suc i) path = lifted-at w k roots subjects st.1 i path

    module _ (roots : List ℕ) (subjects : List Subject) (st : DenoteAll e system vars roots subjects) where
      here : (v : Valuation) → InSol system v → (walk : ℕ × List ℕ) → walk_value v roots walk ≡ subject_walk e (of_vars vars v) subjects walk
      here v sol walk = here-at v sol roots subjects st walk.0 walk.1

      lift : (w : Valuation) (k : Solves e w) (walk : ℕ × List ℕ) → walk_value (r.solved w k).0 roots walk ≡ subject_walk e w subjects walk
      lift w k walk = lifted-at w k roots subjects st walk.0 walk.1

      forced : (walk : ℕ × List ℕ) (label : Label) → IsForcedAlong system roots walk label ↔ ForcesAlong e subjects walk label
      forced walk label = (
        λ h w k. sym (lift w k walk) ∙ h (r.solved w k).0 (r.solved w k).1,
        λ h v sol. here v sol walk ∙ h (of_vars vars v) (r.solves v sol),
      )

      there : (walk : ℕ × List ℕ) → IsThereAlong system roots walk ↔ HasPlaceAlong e subjects walk
      there walk = (
        λ h w k none. h (r.solved w k).0 (r.solved w k).1 (lift w k walk ∙ none),
        λ h v sol none. h (of_vars vars v) (r.solves v sol) (sym (here v sol walk) ∙ none),
      )

      implied : (walk other : ℕ × List ℕ) → AreImpliedAlong system roots walk other ↔ ImpliesAlong e subjects walk other
      implied walk other = (
        λ h. record {
          there = (there walk).0 h.there;
          same = λ w k rest. sym (lift w k (further walk rest)) ∙ h.same (r.solved w k).0 (r.solved w k).1 rest ∙ lift w k (further other rest);
        },
        λ h. record {
          there = (there walk).1 h.there;
          same = λ v sol rest. here v sol (further walk rest) ∙ h.same (of_vars vars v) (r.solves v sol) rest ∙ sym (here v sol (further other rest));
        },
      )

      pub answer_denoted : (c : Rooted) → IsAnswerGraph system roots c → IsTermAnswer e subjects c
      answer_denoted c is = record {
        canon = is.canon;
        count = is.count ∙ paired-size (Denotes e system vars) roots subjects st;
        labels = λ walk label. (λ h. (forced walk label).0 ((is.labels walk label).0 h), λ h. (is.labels walk label).1 ((forced walk label).1 h));
        leaves = λ walk. (
          λ h. let k = (is.leaves walk).0 h in ((there walk).0 k.0, λ label f. k.1 label ((forced walk label).1 f)),
          λ h. (is.leaves walk).1 ((there walk).1 h.0, λ label f. h.1 label ((forced walk label).0 f)),
        );
        together = λ walk other. (λ h. (implied walk other).0 ((is.together walk other).0 h), λ h. (is.together walk other).1 ((implied walk other).1 h));
      }
