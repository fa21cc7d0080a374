use Rattle.std.proofs.Common.{◌≡◌, ◌<◌, ℕ, List, length, get_or, arith, ap, sym, subst, ◌∙◌}
use Rattle.std.proofs.lemmas.List.{get_or_default}
use Rattle.mars_refine.specs.Chains.{Keyed}
use Rattle.mars_refine.proofs.Linking.{cleared}
use Rattle.mars_refine.proofs.Writing.{length-put_all, part_whole}
use Rattle.mars_refine.proofs.chains.Chains.clear.Goals as goal

pub write_all-requires-clause-places_in : goal.write_all-requires-clause-places_in
write_all-requires-clause-places_in c k d within =
    let is : c.part.result ≡ c.self.inside.keys.items = part_whole c.self.inside.keys.items c.part.result c.len.result c.len.ensures.len c.part.ensures in
    let P : List ℕ → Type 0 = λ ps. (i : ℕ) → i < length ps → get_or ps i 0 < length c.self.inside.lasts.items in
    let below : P c.part.result = subst P (sym is) c.self.invariant.below in
    omega (arith, below k within, get_or_default c.part.result k d 0 within)

pub invariant_of-self : goal.invariant_of-self
invariant_of-self c =
    let is = part_whole c.self.inside.keys.items c.part.result c.len.result c.len.ensures.len c.part.ensures in
    cleared c.self.inside.lasts.items c.self.inside.keys.items c.self.inside.befores.items c.part.result _ _ _ c.self.invariant is c.write_all.ensures.items c.clear.ensures.items c.clear-2.ensures.items

pub returns : goal.returns
returns c =
    let size : length c.write_all.new.values.items ≡ c.args.self.now.size = ap length c.write_all.ensures.items ∙ length-put_all c.self.inside.lasts.items c.part.result 0 ∙ ap (λ (k : Keyed). k.size) c.self.view_is in
    cc (size, c.clear.ensures.items)
