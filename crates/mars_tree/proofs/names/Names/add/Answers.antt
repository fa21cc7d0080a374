use Rattle.std.proofs.Common.{List, ℕ, sym, ap, subst, ◌≡◌, ◌∙◌, ◌++◌, ◌∷◌, [], ◌<◌, ◌^◌, arith, if◌then◌else◌, map, length}
use Rattle.std.proofs.lemmas.List.{length_push}
use Rattle.mars_tree.specs.Names.{place_of, AreDistinct, built_in_names}
use Rattle.mars_tree.proofs.NameLemmas.{names-added, new_among_added, distinct-push}
use Rattle.mars_tree.proofs.names.Names.add.Goals as goal

kept : (c : goal.After-from_residual-in_err-insert) → built_in_names ++ map (λ text. text.items) c.insert.new.self.keys ≡ built_in_names ++ map (λ text. text.items) c.self.inside.added.keys
kept c = ap (λ keys. built_in_names ++ map (λ text. text.items) keys) c.in_err-insert.ensures.err

pub invariant_of-self-in_err-insert : goal.invariant_of-self-in_err-insert
invariant_of-self-in_err-insert c = record {
  distinct = subst (λ (names : List (List ℕ)). AreDistinct names) (sym (kept c)) c.self.invariant.distinct;
  bound = subst (λ (names : List (List ℕ)). length names < 2 ^ 32) (sym (kept c)) c.self.invariant.bound;
}

grown : (c : goal.In_ok-insert) → built_in_names ++ map (λ text. text.items) c.insert.new.self.keys ≡ c.args.self.now ++ c.args.text.now ∷ []
grown c =
    names-added c.args.text.now (λ text. text.items) c.self.inside.added.keys c.insert.new.self.keys c.args.self.now c.in_ok-from_slice.field-0 c.self.view_is
    (c.in_ok-insert.ensures.keys ∙ ap (λ b. if b then c.self.inside.added.keys else c.self.inside.added.keys ++ c.in_ok-from_slice.field-0 ∷ [])
    (new_among_added c.in_ok-from_slice.field-0.items (λ text. text.items) c.self.inside.added.keys c.args.self.now c.self.view_is
    (ap (λ t. place_of t c.args.self.now) c.in_ok-from_slice.ensures.items ∙ c.requires.new)))
    c.in_ok-from_slice.ensures.items

pub invariant_of-self-2 : goal.invariant_of-self-2
invariant_of-self-2 c = record {
  distinct = subst (λ (names : List (List ℕ)). AreDistinct names) (sym (grown c)) (distinct-push c.args.self.now c.args.text.now (subst (λ (names : List (List ℕ)). AreDistinct names) c.self.view_is c.self.invariant.distinct) c.requires.new);
  bound = subst (λ (names : List (List ℕ)). length names < 2 ^ 32) (sym (grown c)) (omega (arith, length_push c.args.self.now c.args.text.now));
}

pub returns-clause-names : goal.returns-clause-names
returns-clause-names c = grown c
