-- Systems of which the same is known have the same answers.
use Rattle.std.proofs.Common.{◌≡◌, ℕ, ◌<◌, List, length, Option, Some, None, option_and_then, slice_get, refl, sym, ◌∙◌}
use Rattle.mars_tree.specs.declared.label.Label.{Label}
use Rattle.mars_store.specs.Valuation.{Valuation, value}
use Rattle.mars_store.specs.System.{System, with_node}
use Rattle.mars_store.specs.Solutions.{InSol}
use Rattle.mars_store.specs.Growing.{cut}
use Rattle.mars_store.proofs.CallerLemmas.{node_continued, trees_stay, grows-node, older-value, restricted}
use Rattle.mars_reach.proofs.Numbers.{All-slice_get}
use Rattle.mars_answer.specs.Walks.{walk_value, further, IsForcedAlong, IsThereAlong, AreImpliedAlong}
use Rattle.mars_answer.specs.AnswerLaws.{AnswerCarried, AlikeKnown, NodeAlike}

pub answer_carried : AnswerCarried
answer_carried system roots another others c known is = record {
  canon = is.canon;
  count = is.count ∙ known.count;
  labels = λ walk label.
      let law = is.labels walk label in
      let same = known.labels walk label in
      (λ s. same.0 (law.0 s), λ f. law.1 (same.1 f));
  leaves = λ walk.
      let law = is.leaves walk in
      let there = known.there walk in (
        λ s. let t = law.0 s in (there.0 t.0, λ label f. t.1 label ((known.labels walk label).1 f)),
        λ t. law.1 (there.1 t.0, λ label f. t.1 label ((known.labels walk label).0 f)),
      );
  together = λ walk other.
      let law = is.together walk other in
      let same = known.implied walk other in
      (λ t. same.0 (law.0 t), λ t. law.1 (same.1 t));
}

-- each solution of a system has the trees that one of another has
abbrev Follow : System → List ℕ → System → List ℕ → Type 0
Follow system roots another others =
    (w : Valuation) → InSol another w → (v : Valuation) × InSol system v × ((walk : ℕ × List ℕ) → walk_value v roots walk ≡ walk_value w others walk)

module _ (system : System) (roots : List ℕ) (another : System) (others : List ℕ) (follow : Follow system roots another others) where
  forced-on : (walk : ℕ × List ℕ) (label : Label) → IsForcedAlong system roots walk label → IsForcedAlong another others walk label
  forced-on walk label f w sol = let c = follow w sol in sym (c.2 walk) ∙ f c.0 c.1

  there-on : (walk : ℕ × List ℕ) → IsThereAlong system roots walk → IsThereAlong another others walk
  there-on walk t w sol none = let c = follow w sol in t c.0 c.1 (c.2 walk ∙ none)

  implied-on : (walk other : ℕ × List ℕ) → AreImpliedAlong system roots walk other → AreImpliedAlong another others walk other
  implied-on walk other t = record {
    there = there-on walk t.there;
    same = λ w sol rest. let c = follow w sol in sym (c.2 (further walk rest)) ∙ t.same c.0 c.1 rest ∙ c.2 (further other rest);
  }

pub alike_known : AlikeKnown
alike_known system roots another others alike = record {
  count = alike.count;
  labels = λ walk label. (forced-on system roots another others alike.back walk label, forced-on another others system roots alike.forth walk label);
  there = λ walk. (there-on system roots another others alike.back walk, there-on another others system roots alike.forth walk);
  implied = λ walk other. (implied-on system roots another others alike.back walk other, implied-on another others system roots alike.forth walk other);
}

-- valuations that give the roots the same trees show the same along walks
same-walks : (v w : Valuation) (roots : List ℕ) → ((k root : ℕ) → slice_get roots k ≡ Some root → (path : List ℕ) → value w root path ≡ value v root path)
    → (walk : ℕ × List ℕ) → walk_value w roots walk ≡ walk_value v roots walk
same-walks v w roots same walk = by (slice_get roots walk.0) (λ root e. same walk.0 root e walk.1)
  where
    by : (o : Option ℕ) → ((root : ℕ) → o ≡ Some root → value w root walk.1 ≡ value v root walk.1)
        → option_and_then (λ root. value w root walk.1) o ≡ option_and_then (λ root. value v root walk.1) o
    by None each = refl
    by (Some root) each = each root refl

pub node_alike : NodeAlike
node_alike system node sound is roots inside = record { count = refl; forth = forth; back = back }
  where
    root-in : (k root : ℕ) → slice_get roots k ≡ Some root → root < length system.nodes
    root-in k root e = All-slice_get (λ root. root < length system.nodes) roots k root inside e

    forth : (v : Valuation) → InSol system v → (w : Valuation) × InSol (with_node system node) w × ((walk : ℕ × List ℕ) → walk_value w roots walk ≡ walk_value v roots walk)
    forth v sol =
        let c = node_continued system node sound is v sol in
        (c.0, c.1, same-walks v c.0 roots (λ k root e path. trees_stay (length system.nodes) v c.0 sol.valuation c.2 root (root-in k root e) path))

    back : (w : Valuation) → InSol (with_node system node) w → (v : Valuation) × InSol system v × ((walk : ℕ × List ℕ) → walk_value v roots walk ≡ walk_value w roots walk)
    back w sol =
        let grows = grows-node system node in
        let older : Valuation = cut (length system.nodes) w in (
          older,
          restricted system (with_node system node) sound grows w sol,
          same-walks w older roots (λ k root e path. older-value system (with_node system node) sound grows w sol root (root-in k root e) path),
        )
