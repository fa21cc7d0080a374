use Rattle.std.proofs.Common.{ap, ◌∙◌}
use Rattle.mars_tree.specs.Graph.{label_of}
use Rattle.mars_store.specs.System.{System}
use Rattle.mars_store.proofs.Roots.{root-known}
use Rattle.mars_store.proofs.store.Store.root_label.Goals as goal

pub returns-clause-forced : goal.returns-clause-forced
returns-clause-forced c =
    root-known c.args.self.now c.args.node c.label.result c.deref-last.ensures.system c.requires
    (c.label.ensures ∙ ap (λ (s : System). label_of s.nodes c.last.inside.0) c.self.view_is ∙ ap (label_of c.args.self.now.nodes) (c.last.view_is ∙ c.deref-last.ensures.end))
