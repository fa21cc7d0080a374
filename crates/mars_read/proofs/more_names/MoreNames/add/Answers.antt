use Rattle.std.proofs.Common.{ℕ, List, ◌≡◌, None, ap, sym, subst, ◌∙◌, map, ◌++◌, ◌∷◌, [], position, nat_eq, append_assoc, if◌then◌else◌}
use Rattle.std.specs.Cmp.Lexicographic.{pointwise}
use Rattle.std.proofs.lemmas.List.{map-append}
use Rattle.mars_tree.specs.Names.{place_of, AreDistinct}
use Rattle.mars_tree.proofs.NameLemmas.{place_of-map, distinct-push}
use Rattle.mars_read.specs.NameLists.{NameLists, joined_names}
use Rattle.mars_read.specs.MoreNamesInside.{known_names}
use Rattle.mars_read.proofs.NameFacts.{absent}
use Rattle.mars_read.proofs.MoreNameFacts.{missing-added}
use Rattle.mars_read.proofs.more_names.MoreNames.add.Goals as goal

pub returns-clause-added : goal.returns-clause-added
returns-clause-added c =
    let text : List ℕ = c.args.text.now in
    let now = c.args.self.now in
    let keys = c.self.inside.added.keys in
    let last = c.in_ok-from_slice.field-0 in
    let missing : None ≡ position (λ x. pointwise nat_eq text x.items) keys =
    sym (sym (place_of-map text (λ text. text.items) keys) ∙ ap (λ n. place_of text n.added) c.self.view_is ∙ missing-added text now.known now.added c.requires.new) in
    let grown : c.insert.new.self.keys ≡ keys ++ last ∷ [] =
    c.in_ok-insert.ensures.keys ∙ ap (λ b. if b then keys else keys ++ last ∷ []) (absent text last.items (λ text. text.items) keys c.in_ok-from_slice.ensures.items missing) in
    ap (map (λ text. text.items)) grown ∙ map-append (λ text. text.items) keys (last ∷ []) ∙
    ap (λ t. map (λ text. text.items) keys ++ t ∷ []) c.in_ok-from_slice.ensures.items ∙ ap (λ n. n.added ++ text ∷ []) c.self.view_is

pub invariant_of-self-2 : goal.invariant_of-self-2
invariant_of-self-2 c =
    let text : List ℕ = c.args.text.now in
    let now = c.args.self.now in
    let keys = c.self.inside.added.keys in
    let last = c.in_ok-from_slice.field-0 in
    let missing : None ≡ position (λ x. pointwise nat_eq text x.items) keys =
    sym (sym (place_of-map text (λ text. text.items) keys) ∙ ap (λ n. place_of text n.added) c.self.view_is ∙ missing-added text now.known now.added c.requires.new) in
    let grown : c.insert.new.self.keys ≡ keys ++ last ∷ [] =
    c.in_ok-insert.ensures.keys ∙ ap (λ b. if b then keys else keys ++ last ∷ []) (absent text last.items (λ text. text.items) keys c.in_ok-from_slice.ensures.items missing) in
    let added : map (λ text. text.items) c.insert.new.self.keys ≡ now.added ++ text ∷ [] =
    ap (map (λ text. text.items)) grown ∙ map-append (λ text. text.items) keys (last ∷ []) ∙
    ap (λ t. map (λ text. text.items) keys ++ t ∷ []) c.in_ok-from_slice.ensures.items ∙ ap (λ n. n.added ++ text ∷ []) c.self.view_is in
    let joined : known_names c.self.inside.known ++ map (λ text. text.items) c.insert.new.self.keys ≡ joined_names now ++ text ∷ [] =
    ap (λ names. known_names c.self.inside.known ++ names) added ∙ ap (λ n. n.known ++ (now.added ++ text ∷ [])) c.self.view_is ∙ sym (append_assoc now.known now.added (text ∷ [])) in
    record {
      first = c.self.invariant.first;
      few = c.self.invariant.few;
      distinct = subst (λ (names : List (List ℕ)). AreDistinct names) (sym joined)
          (distinct-push (joined_names now) text (subst (λ (n : NameLists). AreDistinct (joined_names n)) c.self.view_is c.self.invariant.distinct) c.requires.new);
    }
