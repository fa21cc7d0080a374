use Rattle.std.proofs.Common.{◌≡◌, ◌≢◌, ℕ, None, slice_get, sym, ap, subst, ◌∙◌, arith, inl, inr}
use Rattle.std.proofs.lemmas.Bool.{false≢true, cases_eq}
use Rattle.std.proofs.lemmas.Option.{slice_get_within, same_Some}
use Rattle.mars_tree.specs.Graph.{label_of}
use Rattle.mars_reach.proofs.Numbers.{All-from_gets, contains_at}
use Rattle.mars_reach.proofs.free.has_free.Goals as goal

pub returns-then-is_free-clause-some : goal.returns-then-is_free-clause-some
returns-then-is_free-clause-some c t =
    (c.get.result, contains_at c.args.nodes.now c.loop-place.place c.get.result c.get.ensures, c.is_free.ensures.0 c.if-is_free.true)

pub loop-place-preserved : goal.loop-place-preserved
loop-place-preserved c j n lt get none = elim (cases_eq j c.loop-place.place) [
  | inl same ↦
      let here : n ≡ c.get.result = same_Some n c.get.result (sym get ∙ ap (slice_get c.args.nodes.now) same ∙ c.get.ensures) in
      false≢true (sym c.if-is_free.false ∙ c.is_free.ensures.1 (subst (λ (m : ℕ). label_of c.args.graph.now m ≡ None) here none))
  | inr other ↦ c.loop-place.invariant j n (omega (arith, lt, other)) get none
]

pub returns-clause-none : goal.returns-clause-none
returns-clause-none c e =
    All-from_gets (λ n. label_of c.args.graph.now n ≢ None) c.args.nodes.now
    (λ k n get. c.loop-place.invariant k n (omega (arith, slice_get_within c.args.nodes.now k n get)) get)
