-- What a machine tells is determined.
use Rattle.std.proofs.Common.{◌≡◌, ◌≢◌, ◌↔◌, ℕ, List, [], ◌∷◌, Bool, true, false, Option, Some, None, refl, sym, ap, ◌∙◌, subst}
use Rattle.mars_tree.specs.declared.label.Label.{Label}
use Rattle.mars_tree.specs.Canonical.{walk_shows, EndTogether}
use Rattle.mars_canon.specs.Canon.{Rooted}
use Rattle.mars_canon.proofs.Forms.{one_form_of_walks}
use Rattle.mars_machine.specs.declared.asked.Asked.{Asked}
use Rattle.mars_machine.specs.Subjects.{Subject}
use Rattle.mars_machine.specs.Equations.{Equations}
use Rattle.mars_machine.specs.Alternatives.{Alternative}
use Rattle.mars_machine.specs.TermAnswers.{IsTermAnswer, AreOpenUnder}
use Rattle.mars_machine.specs.TermAnswers.AreOpenUnder.{none, allowed, excluded}
use Rattle.mars_machine.specs.Machines.{SeenMachine, TellsLeft, IsMachineAsk}
use Rattle.mars_machine.proofs.Runs.{derivation_once, end_once}

same-shows : (x y : Option (Option Label)) → ((label : Label) → (x ≡ Some (Some label)) ↔ (y ≡ Some (Some label))) → ((x ≡ Some None) ↔ (y ≡ Some None)) → x ≡ y
same-shows (Some (Some l)) y labels leaf = sym ((labels l).0 refl)
same-shows (Some None) y labels leaf = sym (leaf.0 refl)
same-shows None (Some (Some l)) labels leaf = (labels l).1 refl
same-shows None (Some None) labels leaf = leaf.1 refl
same-shows None None labels leaf = refl

pub answer_once : (e : Equations) (subjects : List Subject) (c d : Rooted) → IsTermAnswer e subjects c → IsTermAnswer e subjects d → c ≡ d
answer_once e subjects c d left right = (one_form_of_walks c d left.canon right.canon).1 (record {
  count = left.count ∙ sym right.count;
  walks = record { shown = shown; together = together };
})
  where
    shown : (walk : ℕ × List ℕ) → walk_shows c.nodes c.roots walk ≡ walk_shows d.nodes d.roots walk
    shown walk =
        let a = left.leaves walk in
        let b = right.leaves walk in
        same-shows (walk_shows c.nodes c.roots walk) (walk_shows d.nodes d.roots walk)
        (λ label.
        let p = left.labels walk label in
        let q = right.labels walk label in
        (λ t. q.1 (p.0 t), λ t. p.1 (q.0 t)))
        (λ t. b.1 (a.0 t), λ t. a.1 (b.0 t))

    together : (walk other : ℕ × List ℕ) → EndTogether c.nodes c.roots walk other ↔ EndTogether d.nodes d.roots walk other
    together walk other =
        let a = left.together walk other in
        let b = right.together walk other in
        (λ t. b.1 (a.0 t), λ t. a.1 (b.0 t))

pub open_once : (e : Equations) (differ left other : List (Subject × Subject)) → AreOpenUnder e differ left → AreOpenUnder e differ other → left ≡ other
open_once e [] left other none none = refl
open_once e (pair ∷ differ) left other (allowed s h) (allowed t k) = ap (λ xs. pair ∷ xs) (open_once e differ _ _ h k)
open_once e (pair ∷ differ) left other (allowed s h) (excluded n k) = absurd (n s)
open_once e (pair ∷ differ) left other (excluded n h) (allowed t k) = absurd (n t)
open_once e (pair ∷ differ) left other (excluded n h) (excluded m k) = open_once e differ left other h k

one-bool : (a b : Bool) (state : List Alternative) → (a ≡ true) ↔ (state ≢ []) → (b ≡ true) ↔ (state ≢ []) → a ≡ b
one-bool true true state h k = refl
one-bool true false state h k = sym (k.1 (h.0 refl))
one-bool false true state h k = h.1 (k.0 refl)
one-bool false false state h k = refl

pub left_once : (seen : SeenMachine) (left other : Bool) → TellsLeft seen left → TellsLeft seen other → left ≡ other
left_once seen left other h k =
    let same = (derivation_once seen.rules seen.ask seen.kept seen.steps h.said k.said h.state k.state h.run k.run).1 in
    one-bool left other h.state h.left_is (subst (λ state. (other ≡ true) ↔ (state ≢ [])) (sym same) k.left_is)

pub asked_once : (seen : SeenMachine) (budget : ℕ) (most : Option ℕ) (asked other : Asked) → IsMachineAsk seen budget most asked → IsMachineAsk seen budget most other
    → (asked.steps ≡ other.steps) × (asked.ending ≡ other.ending)
asked_once seen budget most asked other h k =
    let t = end_once seen.rules seen.ask seen.kept budget most asked.steps other.steps h.said k.said asked.ending other.ending h.end k.end in (t.0, t.2)
