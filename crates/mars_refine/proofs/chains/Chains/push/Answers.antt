use Rattle.std.proofs.Common.{◌<◌, ◌+◌, ℕ, List, length, get_or, set, ap, ◌∙◌, arith}
use Rattle.mars_refine.specs.Chains.{Keyed}
use Rattle.mars_refine.proofs.Linking.{linked-push}
use Rattle.mars_refine.proofs.chains.Chains.push.Goals as goal

pub invariant_of-self-in-Ok : goal.invariant_of-self-in-Ok
invariant_of-self-in-Ok c =
    let key_in : c.args.key < length c.self.inside.lasts.items = omega (arith, ap (λ (k : Keyed). k.size) c.self.view_is) in
    let last = c.get.ensures ∙ ap (λ (xs : List ℕ). get_or xs c.args.key 0) c.fit.ensures.items in
    let lasts = c.set.ensures.items ∙ ap (λ (xs : List ℕ). set xs c.args.key (c.len-count.result + 1)) c.fit.ensures.items in
    linked-push c.self.inside.lasts.items c.self.inside.keys.items c.self.inside.befores.items _ _ _ c.args.key c.get.result (c.len-count.result + 1) c.self.invariant key_in c.in-Ok.ensures.items c.in_ok-push.ensures.items last (omega (arith, c.len-count.ensures.len)) lasts
