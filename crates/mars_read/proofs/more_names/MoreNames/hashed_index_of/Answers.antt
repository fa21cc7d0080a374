use Rattle.std.proofs.Common.{ap, sym, ◌∙◌}
use Rattle.mars_tree.specs.Names.{place_of}
use Rattle.mars_tree.proofs.NameLemmas.{place_of-map}
use Rattle.mars_read.proofs.more_names.MoreNames.hashed_index_of.Goals as goal

pub returns-in-Some-clause-place : goal.returns-in-Some-clause-place
returns-in-Some-clause-place c =
    c.in-Some.ensures.index ∙ sym (place_of-map c.args.text.now (λ text. text.items) c.self.inside.added.keys) ∙ ap (λ n. place_of c.args.text.now n.added) c.self.view_is

pub returns-in_default-clause-place : goal.returns-in_default-clause-place
returns-in_default-clause-place c =
    c.get_index_of-found.ensures.index ∙ sym (place_of-map c.args.text.now (λ text. text.items) c.self.inside.added.keys) ∙ ap (λ n. place_of c.args.text.now n.added) c.self.view_is
